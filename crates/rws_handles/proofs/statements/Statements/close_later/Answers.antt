use Rattle.std.proofs.Common.{◌≡◌, ◌-◌, false, [], ◌∷◌, ◌++◌, ap, refl, sym, ◌∙◌, subst, arith}
use Rattle.rws_handles.specs.Prepared.{Prepared, closed_later}
use Rattle.rws_handles.specs.Slots.{Slots}
use Rattle.rws_handles.specs.StatementsView.{AreGivenOut, AreListed, slots_of}
use Rattle.rws_handles.proofs.PlaceLemmas.{behind_written, closed_again, count_of_slab, found_at, len-with_value, statements_kept, updated_is, updated_none, written}
use Rattle.rws_handles.proofs.SlotLemmas.{given_set, listed_closed, room_for}
use Rattle.rws_handles.proofs.statements.Statements.close_later.Goals as goal

pub push_reserved-requires : goal.push_reserved-requires
push_reserved-requires c =
    let open_ : c.in-Some.statement.now.closed ≡ false = cc (c.is_closed.ensures, c.if-is_closed.false) in
    let slots : Slots = slots_of c.self.inside.entries c.self.inside.freed.items in
    let at = found_at c.self.inside.entries c.self.inside.freed.items c.args.number c.in-Some.statement.now c.self.invariant.behind c.if-number-eq0.false (sym c.in-Some.ensures.value) in
    let room = room_for slots c.self.inside.closing.items c.args.number c.in-Some.statement.now c.self.invariant.listed at open_ in
    omega (arith, room, count_of_slab c.self.inside.entries c.self.inside.freed.items c.self.invariant.given, c.self.inside.closing.ok.0, c.self.invariant.closing_room)

pub invariant_of-self-2 : goal.invariant_of-self-2
invariant_of-self-2 c =
    let open_ : c.in-Some.statement.now.closed ≡ false = cc (c.is_closed.ensures, c.if-is_closed.false) in
    let slots : Slots = slots_of c.self.inside.entries c.self.inside.freed.items in
    let found = sym c.in-Some.ensures.value in
    let at = found_at c.self.inside.entries c.self.inside.freed.items c.args.number c.in-Some.statement.now c.self.invariant.behind c.if-number-eq0.false found in
    let new = sym (written c.self.inside.entries c.self.inside.freed.items c.args.number c.in-Some.statement.now c.close.new.self c.self.invariant.behind c.if-number-eq0.false found) in
    let len = len-with_value c.self.inside.entries (c.args.number - 1) c.in-Some.statement.now c.close.new.self found in
    record {
      listed = rw c.push_reserved.ensures.items (subst (λ (s : Slots). AreListed s (c.self.inside.closing.items ++ c.args.number ∷ [])) new (listed_closed slots c.self.inside.closing.items c.args.number c.in-Some.statement.now c.close.new.self
          c.self.invariant.listed at open_ (ap (λ (s : Prepared). s.number) c.close.ensures) (ap (λ (s : Prepared). s.closed) c.close.ensures)));
      given = subst (λ (s : Slots). AreGivenOut s) new (given_set slots c.args.number c.in-Some.statement.now c.close.new.self c.self.invariant.given at);
      behind = behind_written c.self.inside.entries c.self.inside.freed.items c.args.number c.in-Some.statement.now c.close.new.self c.self.invariant.behind c.if-number-eq0.false found;
      freed_room = omega (arith, len, c.self.invariant.freed_room);
      closing_room = omega (arith, len, c.self.invariant.closing_room, c.push_reserved.ensures.capacity);
    }

pub returns-in_default : goal.returns-in_default
returns-in_default c = rw (← c.self.view_is) (updated_none c.self.inside.entries c.self.inside.freed.items c.args.number closed_later c.self.invariant.behind c.if-number-eq0.false (sym c.in_default.ensures.value))

pub invariant_of-self-then-is_closed : goal.invariant_of-self-then-is_closed
invariant_of-self-then-is_closed c =
    statements_kept c.self.inside c.args.number c.in-Some.statement.now c.in-Some.statement.now c.self.invariant c.if-number-eq0.false (sym c.in-Some.ensures.value) (record { number = refl; closed = refl })

pub returns-then-is_closed : goal.returns-then-is_closed
returns-then-is_closed c =
    let closed = closed_again c.in-Some.statement.now (sym c.is_closed.ensures ∙ c.if-is_closed.true) in
    rw (← c.self.view_is) (updated_is c.self.inside.entries c.self.inside.freed.items c.args.number c.in-Some.statement.now c.in-Some.statement.now closed_later c.self.invariant.behind c.if-number-eq0.false (sym c.in-Some.ensures.value) closed)

pub returns : goal.returns
returns c =
    rw (← c.self.view_is) (updated_is c.self.inside.entries c.self.inside.freed.items c.args.number c.in-Some.statement.now c.close.new.self closed_later c.self.invariant.behind c.if-number-eq0.false (sym c.in-Some.ensures.value) c.close.ensures)
