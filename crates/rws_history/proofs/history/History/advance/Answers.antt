use Rattle.std.proofs.Common.{◌<◌, List, length, All, sym, subst}
use Rattle.std.specs.Prelude.{IsSomeAnd}
use Rattle.rws_history.specs.declared.cursor_list.LinkCursor.{LinkCursor}
use Rattle.rws_history.specs.Cursors.{cursor_of}
use Rattle.rws_history.specs.Histories.{HistoryView}
use Rattle.rws_history.proofs.PlaceLemmas.{IsUpTo, moved_up_to}
use Rattle.rws_history.proofs.history.History.advance.Goals as goal

pub invariant_of-self : goal.invariant_of-self
invariant_of-self c =
    let n = length c.self.inside.entries.items in
    let was = c.self.inside.cursors in
    let below = subst (λ (history : HistoryView). IsSomeAnd (cursor_of history.cursors c.args.link) (λ at. at < length history.entries)) (sym c.self.view_is) c.requires in
    record {
      bounded = c.self.invariant.bounded;
      mark = c.self.invariant.mark;
      cursors = subst (λ (cursors : List LinkCursor). All (IsUpTo n) cursors) (sym c.advance.ensures) (moved_up_to n c.args.link was (cursor_of was c.args.link) below c.self.invariant.cursors);
    }
