-- What makers of boards do.
use Rattle.std.specs.Prelude.{◌≡◌, ◌≢◌, ◌+◌, ℕ, List, [], ◌∷◌, ⊤}
use Rattle.rws_board.specs.Faults.{Rises}
use Rattle.rws_make.specs.declared.board_maker.MakeFault.{MakeFault}
use Rattle.rws_make.specs.declared.board_maker.MakeFault.TheVariants.{Failed, OutOfMemory}

-- one thing that a maker did: it made a board for a place, it made none there, or it took a board back
pub data Making (B : Type 0) : Type 0 where
  Made : ℕ → B → Making B
  Refused : ℕ → MakeFault → Making B
  TookBack : B → Making B

-- the places that were asked for, in order; for want of memory there was no asking
abbrev pub places_asked : {B : Type 0} → List (Making B) → List ℕ
places_asked [] = []
places_asked (Made place board ∷ makings) = place ∷ places_asked makings
places_asked (Refused place Failed ∷ makings) = place ∷ places_asked makings
places_asked (Refused place OutOfMemory ∷ makings) = places_asked makings
places_asked (TookBack board ∷ makings) = places_asked makings

-- the boards that came back, in order
abbrev pub boards_back : {B : Type 0} → List (Making B) → List B
boards_back [] = []
boards_back (Made place board ∷ makings) = boards_back makings
boards_back (Refused place fault ∷ makings) = boards_back makings
boards_back (TookBack board ∷ makings) = board ∷ boards_back makings

-- a board that comes back with a count that isn't 0 is a fault of its maker, and no other is
pub record CountsBack (board before after : ℕ) : Type 0 where
  pub clean : board ≡ 0 → after ≡ before
  pub failed : board ≢ 0 → Rises before after
