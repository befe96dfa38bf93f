-- The words of a pass after a call.
use Rattle.std.proofs.Common.{◌≡◌, ℕ, List, [], ◌∷◌, ◌++◌, sym, ap, ◌∙◌, subst, append_assoc}
use Rattle.rws_pool.specs.declared.events.PoolEvent.{PoolEvent}
use Rattle.rws_pool.specs.declared.events.Entry.{Entry}
use Rattle.rws_pool.specs.Machine.{NotBelow}
use Rattle.rws_pool.specs.History.{entry, words_after}
use Rattle.rws_pool.proofs.Rising.{words_after-rises}
use Rattle.rws_cell.specs.declared.view.View.{View}
use Rattle.rws_cell.specs.Views.{Extends}

pub extends_keeps : (domain : ℕ) (v w : View) (event : PoolEvent) → Extends v event w → NotBelow (words_after domain v.seen) (words_after domain w.seen)
extends_keeps domain v w event e =
    let more = e.between ++ entry v.number event ∷ [] in
    let is : w.seen ≡ v.seen ++ (e.between ++ entry v.number event ∷ []) = ap (λ (u : View). u.seen) e.is ∙ append_assoc v.seen e.between (entry v.number event ∷ []) in
    subst (λ (h : List Entry). NotBelow (words_after domain v.seen) (words_after domain h)) (sym is) (words_after-rises domain v.seen (e.between ++ entry v.number event ∷ []))
