use Rattle.std.proofs.Common.{sym, ◌∙◌}
use Rattle.rws_handles.proofs.PlaceLemmas.{count_of_slab}
use Rattle.rws_handles.proofs.statements.Statements.len.Goals as goal

pub returns : goal.returns
returns c = rw (← c.self.view_is) (c.len.ensures ∙ sym (count_of_slab c.self.inside.entries c.self.inside.freed.items c.self.invariant.given))
