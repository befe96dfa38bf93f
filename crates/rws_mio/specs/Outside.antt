-- What a board over sockets says of the events that it gives.
use Rattle.std.specs.Prelude.{◌≡◌, ◌≤◌, ◌-◌, ℕ, Option, None, Some, ⊤}
use Rattle.rws_board.specs.declared.event.Event.{Event}
use Rattle.rws_board.specs.declared.event.Event.TheVariants.{Accept, Clock, End}
use Rattle.rws_make.specs.Zeros.{HasNoZero}

-- it came from a socket; a scramble has no zero
abbrev pub IsHeard : Event → Type 0
IsHeard (Accept session scramble) = HasNoZero scramble
IsHeard (Clock now) = ⊥
IsHeard End = ⊥
IsHeard event = ⊤

-- what came between two readings of the clock: a `Clock` shows the new reading, which isn't below the old one, and nothing else moves it
abbrev pub CameAt : ℕ → ℕ → Event → Type 0
CameAt old new (Clock now) = (old ≤ now) × (new ≡ now)
CameAt old new event = (new ≡ old) × IsHeard event

-- The same of a board that still gives so many events: the end comes exactly where there are none.
pub record GivenOf (more : ℕ) (left : Option ℕ) (old new : ℕ) (event : Event) : Type 0 where
  pub ends : more ≡ 0 → (event ≡ End) × (left ≡ Some 0) × (new ≡ old)
  pub goes_on : 1 ≤ more → (left ≡ Some (more - 1)) × CameAt old new event

-- the same of any board, where None stands for one without an end
abbrev pub GivenAt : Option ℕ → Option ℕ → ℕ → ℕ → Event → Type 0
GivenAt None left old new event = (left ≡ None) × CameAt old new event
GivenAt (Some more) left old new event = GivenOf more left old new event
