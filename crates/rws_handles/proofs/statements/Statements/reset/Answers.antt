use Rattle.std.proofs.Common.{sym}
use Rattle.rws_handles.specs.Prepared.{without_long_data}
use Rattle.rws_handles.proofs.PlaceLemmas.{statements_kept, updated_is, updated_none}
use Rattle.rws_handles.proofs.statements.Statements.reset.Goals as goal

pub invariant_of-self-2 : goal.invariant_of-self-2
invariant_of-self-2 c = statements_kept c.self.inside c.args.number c.in-Some.statement.now c.reset.new.self c.self.invariant c.if-number-eq0.false (sym c.in-Some.ensures.value) c.reset.ensures.kept

pub returns-in_default : goal.returns-in_default
returns-in_default c = rw (← c.self.view_is) (updated_none c.self.inside.entries c.self.inside.freed.items c.args.number without_long_data c.self.invariant.behind c.if-number-eq0.false (sym c.in_default.ensures.value))

pub returns : goal.returns
returns c =
    rw (← c.self.view_is) (updated_is c.self.inside.entries c.self.inside.freed.items c.args.number c.in-Some.statement.now c.reset.new.self without_long_data c.self.invariant.behind c.if-number-eq0.false (sym c.in-Some.ensures.value) c.reset.ensures.new)
