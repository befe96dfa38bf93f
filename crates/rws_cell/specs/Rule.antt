-- The rule of the cell: there is one history, the words are those after it, and each pass has seen a beginning of it.
use Rattle.std.specs.Prelude.{◌≡◌, ◌≢◌, ◌^◌, ◌<◌, ℕ, true, false, List, [], nat_eq, slice_index, MatchBool}
use mathlib.Core.Option.{some}
use lib.ListN.{get_elem?}
use lib.Pointwise.{pointwise}
use Rattle.rws_pool.specs.declared.words.PoolWords.{PoolWords}
use Rattle.rws_pool.specs.declared.events.PoolEvent.{PoolEvent}
use Rattle.rws_pool.specs.declared.events.PoolEvent.TheVariants.{Route}
use Rattle.rws_pool.specs.declared.events.Entry.{Entry}
use Rattle.rws_pool.specs.History.{words_after}
use Rattle.rws_pool.specs.Machine.{pool_step}
use Rattle.rws_cell.specs.declared.view.View.{View}
use Rattle.rws_cell.specs.Packing.{packed_words}
use Rattle.rws_cell.specs.Views.{StartsWith, AnyOwns, EachStands, parts, IsWhole, Extends}

-- the numbers that no other pass may have
abbrev pub Claims : View → ℕ → Type 0
Claims v n = (v.live ≡ true) × AnyOwns (parts v) n

-- what the history holds of a pass that is in use
pub record Fits (log : List Entry) (v : View) : Type 0 where
  pub whole : IsWhole v
  pub begins : StartsWith log v.seen
  pub told : StartsWith v.seen v.told
  pub stands : EachStands log (parts v)

abbrev pub AllFit : List Entry → List View → Type 0
AllFit log views = (seat : ℕ) (v : View) → get_elem? views seat ≡ some v → v.live ≡ true → Fits log v

-- no number is claimed by two passes
abbrev pub Apart : List View → Type 0
Apart views = (i j : ℕ) (v w : View) → get_elem? views i ≡ some v → get_elem? views j ≡ some w → i ≢ j → (n : ℕ) → Claims v n → ¬ Claims w n

pub record Kept (words : List ℕ) (views : List View) : Type 0 where
  pub log : List Entry
  pub words_are : (domain : ℕ) → words ≡ packed_words (words_after domain log)
  pub narrow : slice_index words 0 < 2 ^ 32
  pub fits : AllFit log views
  pub apart : Apart views

-- what a load tells that is the pool event Route: the words are those after the history with this call
pub record Routed (v : View) (before after : List ℕ) (w : View) : Type 0 where
  pub extended : Extends v Route w
  pub words_are : (domain : ℕ) → before ≡ packed_words (words_after domain w.seen)
  pub narrow : slice_index before 0 < 2 ^ 32

-- what a load tells that is no pool event: what is true of the view
pub record Learned (v : View) (before after : List ℕ) (w : View) : Type 0 where
  pub same : w ≡ v
  pub whole : IsWhole v
  pub told : StartsWith v.seen v.told
  pub narrow : slice_index before 0 < 2 ^ 32

-- what an exchange tells: the call was made where the words were the expected ones, else nothing changed
abbrev pub Updated : PoolEvent → List ℕ → View → List ℕ → List ℕ → View → Type 0
Updated event expected v before after w =
    MatchBool (pointwise nat_eq before expected) (Extends v event w) ((w ≡ v) × (slice_index before 0 < 2 ^ 32))

-- the new words are those after the event, whatever words were packed in this domain
abbrev pub Steps : ℕ → PoolEvent → List ℕ → List ℕ → Type 0
Steps domain event before after = (words : PoolWords) → words.last.domain ≡ domain → before ≡ packed_words words → after ≡ packed_words (pool_step words event)

-- a view that claims nothing
abbrev pub nobody : View
nobody = record { live = false; number = 0; step = 0; seen = []; told = []; mine = []; joined = [] }
