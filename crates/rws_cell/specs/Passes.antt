-- All passes of one cell, from its making on.
use Rattle.std.specs.Prelude.{◌⊎◌, ℕ, List, [], ◌∷◌, ◌++◌, All}
use Rattle.rws_pool.specs.declared.events.PoolEvent.{PoolEvent}
use Rattle.rws_pool.specs.declared.events.Entry.{Entry}
use Rattle.rws_cell.specs.declared.view.Part.{Part}
use Rattle.rws_cell.specs.declared.view.View.{View}
use Rattle.rws_cell.specs.Views.{Has, AnyOwns, parts, first_view, Extends, left_half, right_half, Joins}

-- the views of all passes that a cell has after some calls, splits and joins; each step is one of the first, and any pass can be put first
pub data Passes : List View → Type 0 where
  opened : Passes (first_view ∷ [])
  put_first : (v : View) (before after : List View) → Passes (before ++ v ∷ after) → Passes (v ∷ before ++ after)
  called : (v w : View) (event : PoolEvent) (others : List View) → Extends v event w → Passes (v ∷ others) → Passes (w ∷ others)
  split : (v : View) (others : List View) → Passes (v ∷ others) → Passes (left_half v ∷ right_half v ∷ others)
  joined : (v other w : View) (others : List View) → Joins v other w → Passes (v ∷ other ∷ others) → Passes (w ∷ others)

-- one of the passes, or one joined into it, owns the number
abbrev pub SomeOwns : List View → ℕ → Type 0
SomeOwns [] n = ⊥
SomeOwns (v ∷ views) n = AnyOwns (parts v) n ⊎ SomeOwns views n

-- each entry is one of these parts'
abbrev pub AllOf : List Part → List Entry → Type 0
AllOf ps history = All (λ (e : Entry). Has ps e.pass) history

-- each entry is one of these parts', or of a number that one of the other passes owns
abbrev pub AllOfThese : List Part → List View → List Entry → Type 0
AllOfThese ps others history = All (λ (e : Entry). Has ps e.pass ⊎ SomeOwns others e.pass) history
