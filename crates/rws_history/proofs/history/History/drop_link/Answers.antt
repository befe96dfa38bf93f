use Rattle.std.proofs.Common.{List, length, not, ◌==◌, All, sym, subst}
use Rattle.std.proofs.lemmas.List.Elements.{All-filter}
use Rattle.rws_history.specs.declared.cursor_list.LinkCursor.{LinkCursor}
use Rattle.rws_history.proofs.PlaceLemmas.{IsUpTo}
use Rattle.rws_history.proofs.history.History.drop_link.Goals as goal

pub invariant_of-self : goal.invariant_of-self
invariant_of-self c =
    let n = length c.self.inside.entries.items in
    record {
      bounded = c.self.invariant.bounded;
      mark = c.self.invariant.mark;
      cursors = subst (λ (cursors : List LinkCursor). All (IsUpTo n) cursors) (sym c.forget.ensures)
          (All-filter (λ (cursor : LinkCursor). not (cursor.link == c.args.link)) (IsUpTo n) c.self.inside.cursors c.self.invariant.cursors);
    }
