use Rattle.std.proofs.Common.{◌≤◌, Option, ℕ, length, sym, subst}
use Rattle.std.specs.Prelude.{IfSome}
use Rattle.rws_history.specs.Cursors.{cursor_of}
use Rattle.rws_history.specs.Histories.{HistoryView}
use Rattle.rws_history.proofs.PlaceLemmas.{cursor_up_to}
use Rattle.rws_history.proofs.history.History.cursor.Goals as goal

pub returns-clause-within : goal.returns-clause-within
returns-clause-within c =
    let within = cursor_up_to (length c.self.inside.entries.items) c.args.link c.self.inside.cursors c.self.invariant.cursors in
    let there = subst (λ (history : HistoryView). IfSome (cursor_of c.self.inside.cursors c.args.link) (λ at. at ≤ length history.entries)) c.self.view_is within in
    subst (λ (place : Option ℕ). IfSome place (λ at. at ≤ length c.args.self.now.entries)) (sym c.at.ensures) there
