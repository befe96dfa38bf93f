use Rattle.std.proofs.Common.{◌≡◌, ◌<◌, ◌+◌, ◌≤◌, ℕ, List, length, All, sym, subst, arith}
use Rattle.std.proofs.lemmas.List.Edits.{length-remove}
use Rattle.rws_history.specs.declared.entry.Entry.{Entry}
use Rattle.rws_history.specs.declared.cursor_list.LinkCursor.{LinkCursor}
use Rattle.rws_history.specs.Histories.{HistoryView}
use Rattle.rws_history.proofs.PlaceLemmas.{IsUpTo, lowered_up_to, all_lowered_up_to}
use Rattle.rws_history.proofs.history.History.remove.Goals as goal

pub invariant_of-self : goal.invariant_of-self
invariant_of-self c =
    let n = length c.remove.new.self.items in
    let inside = subst (λ (history : HistoryView). c.args.at < length history.entries) (sym c.self.view_is) c.requires in
    let one_less = subst (λ (entries : List Entry). length entries + 1 ≡ length c.self.inside.entries.items) (sym c.remove.ensures.items) (length-remove c.self.inside.entries.items c.args.at inside) in
    let below : c.args.at < n + 1 = omega (arith, inside, one_less) in
    let all = subst (λ (m : ℕ). All (IsUpTo m) c.self.inside.cursors) (sym one_less) c.self.invariant.cursors in
    let mark : c.self.inside.mark ≤ n + 1 = omega (arith, one_less, c.self.invariant.mark) in
    record {
      bounded = omega (arith, one_less, c.self.invariant.bounded);
      mark = subst (λ (m : ℕ). m ≤ n) (sym c.lowered-self-inside.ensures) (lowered_up_to c.args.at c.self.inside.mark n below mark);
      cursors = subst (λ (cursors : List LinkCursor). All (IsUpTo n) cursors) (sym c.lower.ensures) (all_lowered_up_to c.args.at n c.self.inside.cursors below all);
    }
