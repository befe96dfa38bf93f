use Rattle.std.proofs.Common.{Option, ap, sym, ◌∙◌}
use Rattle.rws_handles.specs.Prepared.{Prepared}
use Rattle.rws_handles.specs.Table.{plain_if_open}
use Rattle.rws_handles.proofs.PlaceLemmas.{found_at, ok_any, statement_of_slab, statements_kept, takes_in}
use Rattle.rws_handles.proofs.SlotLemmas.{number_of_found}
use Rattle.rws_handles.proofs.statements.Statements.take.Goals as goal

pub invariant_of-self-2 : goal.invariant_of-self-2
invariant_of-self-2 c = statements_kept c.self.inside c.args.number c.in-Some.statement.now c.take.new.self c.self.invariant c.if-number-eq0.false (sym c.in-Some.ensures.value) c.take.ensures.kept

pub returns-in_default-clause-takes : goal.returns-in_default-clause-takes
returns-in_default-clause-takes c =
    let none = statement_of_slab c.self.inside.entries c.self.inside.freed.items c.args.number c.self.invariant.behind c.if-number-eq0.false ∙ sym c.in_default.ensures.value in
    (rw (← c.self.view_is) (ap (λ (o : Option Prepared). plain_if_open o c.args.payload.now) none), c.self.view_is)

pub returns-clause-takes : goal.returns-clause-takes
returns-clause-takes c =
    let found = sym c.in-Some.ensures.value in
    let at = found_at c.self.inside.entries c.self.inside.freed.items c.args.number c.in-Some.statement.now c.self.invariant.behind c.if-number-eq0.false found in
    let has = number_of_found _ c.self.inside.closing.items c.args.number c.in-Some.statement.now c.self.invariant.listed at in
    rw (← c.self.view_is) (takes_in c.self.inside.entries c.self.inside.freed.items c.args.number c.in-Some.statement.now c.take.new.self c.args.payload.now c.take.result c.self.invariant.behind c.if-number-eq0.false found has c.take.ensures.takes)

pub returns-clause-prepared : goal.returns-clause-prepared
returns-clause-prepared c =
    let at = found_at c.self.inside.entries c.self.inside.freed.items c.args.number c.in-Some.statement.now c.self.invariant.behind c.if-number-eq0.false (sym c.in-Some.ensures.value) in
    rw (← c.self.view_is, at) (ok_any c.take.result c.take.ensures.prepared)
