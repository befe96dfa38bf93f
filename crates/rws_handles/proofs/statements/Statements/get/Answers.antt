use Rattle.std.proofs.Common.{sym, ◌∙◌}
use Rattle.rws_handles.proofs.PlaceLemmas.{statement_of_slab}
use Rattle.rws_handles.proofs.statements.Statements.get.Goals as goal

pub returns : goal.returns
returns c =
    rw (← c.self.view_is) (c.get.ensures ∙ sym (statement_of_slab c.self.inside.entries c.self.inside.freed.items c.args.number c.self.invariant.behind c.if-number-eq0.false))
