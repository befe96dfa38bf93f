-- What a pass has seen of the one history, and how its calls change that.
use Rattle.std.specs.Prelude.{◌≡◌, ◌≢◌, ◌⊎◌, ◌+◌, ◌*◌, ◌<◌, ℕ, true, List, [], ◌∷◌, ◌++◌, length, nat_lt, if◌then◌else◌}
use Rattle.rws_pool.specs.declared.events.PoolEvent.{PoolEvent}
use Rattle.rws_pool.specs.declared.events.Entry.{Entry}
use Rattle.rws_pool.specs.History.{entry, calls_by}
use Rattle.rws_cell.specs.declared.view.Part.{Part}
use Rattle.rws_cell.specs.declared.view.View.{View}

abbrev pub StartsWith : List Entry → List Entry → Type 0
StartsWith history begin = (rest : List Entry) × (history ≡ begin ++ rest)

-- the number is that of one of the parts
abbrev pub Has : List Part → ℕ → Type 0
Has [] n = ⊥
Has (p ∷ parts) n = (p.number ≡ n) ⊎ Has parts n

-- the numbers of a part's residue class: it makes its calls under the least, and no other pass may have one of them
abbrev pub Owns : Part → ℕ → Type 0
Owns p n = (k : ℕ) × (n ≡ p.number + k * p.step)

-- one of the parts owns the number
abbrev pub AnyOwns : List Part → ℕ → Type 0
AnyOwns [] n = ⊥
AnyOwns (p ∷ parts) n = Owns p n ⊎ AnyOwns parts n

-- no number has two owners
abbrev pub AllApart : List Part → Type 0
AllApart [] = Unit {0}
AllApart (p ∷ parts) = ((n : ℕ) → Owns p n → ¬ AnyOwns parts n) × AllApart parts

-- the part's calls are those that the history has under its number, each once, in order; under the other numbers that it owns the history has none
abbrev pub Stands : List Entry → Part → Type 0
Stands history p = (calls_by p.number history ≡ p.calls) × ((n : ℕ) → Owns p n → n ≢ p.number → calls_by n history ≡ [])

abbrev pub EachStands : List Entry → List Part → Type 0
EachStands history [] = Unit {0}
EachStands history (p ∷ parts) = Stands history p × EachStands history parts

-- a pass with its own calls, and the passes that were joined into it with theirs
abbrev pub own_part : View → Part
own_part v = record { number = v.number; step = v.step; calls = v.mine }

abbrev pub parts : View → List Part
parts v = own_part v ∷ v.joined

-- the calls of the pass, and of all that were joined into it, stand in the history that it has seen, under numbers of their own, and no entry has another of their numbers
pub record IsWhole (v : View) : Type 0 where
  pub live : v.live ≡ true
  pub stepped : 0 < v.step
  pub stands : EachStands v.seen (parts v)
  pub apart : AllApart (parts v)

-- the pass that a new cell comes with
abbrev pub first_view : View
first_view = record { live = true; number = 0; step = 1; seen = []; told = []; mine = []; joined = [] }

-- the view once the pass has seen these entries of others, and then made this call
abbrev pub called : View → List Entry → PoolEvent → View
called v between event = record v {
  seen = (v.seen ++ between) ++ entry v.number event ∷ [];
  mine = v.mine ++ event ∷ [];
}

-- the history seen begins with what had been seen, has next entries of numbers that neither the pass nor one joined into it owns, and ends with this call
pub record Extends (v : View) (event : PoolEvent) (w : View) : Type 0 where
  pub between : List Entry
  pub others : (n : ℕ) → AnyOwns (parts v) n → calls_by n between ≡ []
  pub is : w ≡ called v between event
  pub whole : IsWhole w

-- the two passes of a split: the first keeps its number and its calls, the second has a number of its own and none
abbrev pub left_half : View → View
left_half v = record v { step = v.step + v.step }

abbrev pub right_half : View → View
right_half v = record { live = true; number = v.number + v.step; step = v.step + v.step; seen = v.seen; told = []; mine = []; joined = [] }

-- the longer of two histories, and the other one
abbrev pub longer : List Entry → List Entry → List Entry
longer xs ys = if nat_lt (length xs) (length ys) then ys else xs

abbrev pub shorter : List Entry → List Entry → List Entry
shorter xs ys = if nat_lt (length xs) (length ys) then xs else ys

-- the pass has seen what either had; the other's calls, and those that were joined into it, are parts of it now
abbrev pub both_views : View → View → View
both_views v w = record v { seen = longer v.seen w.seen; told = shorter v.seen w.seen; joined = v.joined ++ parts w }

pub record Joins (v other w : View) : Type 0 where
  pub is : w ≡ both_views v other
  pub this : StartsWith w.seen v.seen
  pub that : StartsWith w.seen other.seen
  pub whole : IsWhole w
