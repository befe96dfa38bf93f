use Rattle.std.proofs.Common.{◌≡◌, ◌-◌, ℕ, ap, refl, sym, subst, ◌∙◌, arith}
use Rattle.slab.specs.Slab.{Slab}
use Rattle.rws_handles.specs.Prepared.{Prepared, prepared}
use Rattle.rws_handles.specs.Slots.{Slots, next_number, statement_at}
use Rattle.rws_handles.specs.StatementsView.{AreGivenOut, AreListed, slots_of}
use Rattle.rws_handles.proofs.OpenLemmas.{IsOpening, behind_opened, count_below, given_opened, listed_opened, next_from_slab, next_is_free, next_some, opens}
use Rattle.rws_handles.proofs.PlaceLemmas.{count_of_slab, statements_again}
use Rattle.rws_handles.proofs.statements.Statements.open.Goals as goal

pub next_number-number-requires : goal.next_number-number-requires
next_number-number-requires c =
    let below = count_below (slots_of c.self.inside.entries c.self.inside.freed.items) c.self.invariant.given (rw (← c.self.view_is) at c.requires) in
    omega (arith, below, count_of_slab c.self.inside.entries c.self.inside.freed.items c.self.invariant.given, c.len-count.ensures)

pub overflow_sub-number : goal.overflow_sub-number
overflow_sub-number c =
    let number = next_from_slab c.self.inside.entries c.self.inside.freed.items c.next_number-number.result c.self.invariant.given (rw (c.deref.ensures.value, c.reserve.ensures.items, c.len-count.ensures) at c.next_number-number.ensures) in
    omega (arith, number, next_some (slots_of c.self.inside.entries c.self.inside.freed.items) c.self.invariant.given)

pub invariant_of-self-in_default : goal.invariant_of-self-in_default
invariant_of-self-in_default c =
    statements_again c.self.inside (record { alloc = c.self.inside.alloc; entries = c.insert.new.self; freed = c.reserve.new.self; closing = c.reserve-2.new.self }) c.self.invariant
    (ap (λ (entries : Slab Prepared). entries.slots) c.in_default.ensures.err) c.reserve.ensures.items c.reserve-2.ensures.items
    (omega (arith, c.in_ok-reserve.ensures.ok, c.reserve.ensures.len, c.len-count.ensures)) (omega (arith, c.in_ok-reserve-2.ensures.ok, c.len-count.ensures))

pub invariant_of-self-2 : goal.invariant_of-self-2
invariant_of-self-2 c =
    let slots : Slots = slots_of c.self.inside.entries c.self.inside.freed.items in
    let number = next_from_slab c.self.inside.entries c.self.inside.freed.items c.next_number-number.result c.self.invariant.given (rw (c.deref.ensures.value, c.reserve.ensures.items, c.len-count.ensures) at c.next_number-number.ensures) in
    let key : c.in-Ok.field-0 ≡ next_number slots - 1 = cc (c.in-Ok.ensures.key, c.vacant_key.ensures.value, c.if-vacant_key-number.false, ap (λ (n : ℕ). n - 1) number) in
    let statement : Prepared = prepared (next_number slots) c.args.text c.args.columns c.args.parameters in
    let made : c.new-statement.result ≡ statement = c.new-statement.ensures ∙ ap (λ (n : ℕ). prepared n c.args.text c.args.columns c.args.parameters) number in
    let opening : IsOpening c.self.inside.entries c.insert.new.self c.self.inside.freed.items c.pop.new.self.items statement = record {
      updates = rw (key, made) at c.in-Ok.ensures.updates;
      more = c.in-Ok.ensures.len;
      rest = rw (c.reserve.ensures.items, c.reserve.ensures.len, c.self.inside.freed.ok.0) at c.pop.ensures.rest;
    } in
    let new = sym (opens c.self.inside.entries c.insert.new.self c.self.inside.freed.items c.pop.new.self.items statement c.self.invariant.given opening) in
    record {
      listed = rw c.reserve-2.ensures.items (subst (λ (s : Slots). AreListed s c.self.inside.closing.items) new (listed_opened slots c.self.inside.closing.items statement c.self.invariant.listed c.self.invariant.given refl refl));
      given = subst (λ (s : Slots). AreGivenOut s) new (given_opened slots statement c.self.invariant.given (rw (← c.self.view_is) at c.requires));
      behind = behind_opened c.self.inside.entries c.insert.new.self c.self.inside.freed.items c.pop.new.self.items statement c.self.invariant.behind c.self.invariant.given opening;
      freed_room = omega (arith, c.in-Ok.ensures.len, c.pop.ensures.capacity, c.pop.ensures.len, c.in_ok-reserve.ensures.ok, c.len-count.ensures);
      closing_room = omega (arith, c.in-Ok.ensures.len, c.in_ok-reserve-2.ensures.ok, c.len-count.ensures);
    }

pub returns-clause-number : goal.returns-clause-number
returns-clause-number c =
    rw (← c.self.view_is) (next_from_slab c.self.inside.entries c.self.inside.freed.items c.next_number-number.result c.self.invariant.given (rw (c.deref.ensures.value, c.reserve.ensures.items, c.len-count.ensures) at c.next_number-number.ensures))

pub returns-clause-free : goal.returns-clause-free
returns-clause-free c =
    let slots : Slots = slots_of c.self.inside.entries c.self.inside.freed.items in
    let number = next_from_slab c.self.inside.entries c.self.inside.freed.items c.next_number-number.result c.self.invariant.given (rw (c.deref.ensures.value, c.reserve.ensures.items, c.len-count.ensures) at c.next_number-number.ensures) in
    rw (← c.self.view_is) (ap (statement_at slots) number ∙ next_is_free slots c.self.invariant.given)

pub returns-clause-ok : goal.returns-clause-ok
returns-clause-ok c =
    let slots : Slots = slots_of c.self.inside.entries c.self.inside.freed.items in
    let number = next_from_slab c.self.inside.entries c.self.inside.freed.items c.next_number-number.result c.self.invariant.given (rw (c.deref.ensures.value, c.reserve.ensures.items, c.len-count.ensures) at c.next_number-number.ensures) in
    let key : c.in-Ok.field-0 ≡ next_number slots - 1 = cc (c.in-Ok.ensures.key, c.vacant_key.ensures.value, c.if-vacant_key-number.false, ap (λ (n : ℕ). n - 1) number) in
    let statement : Prepared = prepared (next_number slots) c.args.text c.args.columns c.args.parameters in
    let made : c.new-statement.result ≡ statement = c.new-statement.ensures ∙ ap (λ (n : ℕ). prepared n c.args.text c.args.columns c.args.parameters) number in
    rw (← c.self.view_is) (opens c.self.inside.entries c.insert.new.self c.self.inside.freed.items c.pop.new.self.items statement c.self.invariant.given (record {
      updates = rw (key, made) at c.in-Ok.ensures.updates;
      more = c.in-Ok.ensures.len;
      rest = rw (c.reserve.ensures.items, c.reserve.ensures.len, c.self.inside.freed.ok.0) at c.pop.ensures.rest;
    }))
