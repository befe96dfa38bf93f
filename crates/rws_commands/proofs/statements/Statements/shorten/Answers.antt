use Rattle.std.proofs.Common.{refl, rules}
use Rattle.std.proofs.lemmas.Fn.{filter_same}
use Rattle.rws_commands.specs.declared.history.HistoryEntry.{HistoryEntry}
use Rattle.rws_commands.specs.Statements.{stands}
use Rattle.rws_commands.proofs.statements.Statements.shorten.Goals as goal

pub returns : goal.returns
returns c =
    rw (← c.self.view_is) (rw (filter_same _ (λ (entry : HistoryEntry). stands c.self.inside.handles.statements entry.statement) _
    (λ x b f' k. search rules) _ _ c.retain.ensures.filtered) refl)
