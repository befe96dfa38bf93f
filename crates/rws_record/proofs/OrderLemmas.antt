-- Lists of numbers that rise strictly.
use Rattle.std.proofs.Common.{ℕ, ◌<◌, ◌≤◌, Bool, true, false, List, [], ◌∷◌, ◌++◌, filter, arith}
use Rattle.std.specs.Prelude.{if◌then◌else◌}
use Rattle.std.specs.List.{AllByRecursion}

-- each of them is below this number
abbrev pub AreBelow : List ℕ → ℕ → Type 0
AreBelow list number = AllByRecursion (λ other. other < number) list

abbrev pub Rises : List ℕ → Type 0
Rises [] = Unit {0}
Rises (number ∷ others) = AllByRecursion (λ other. number < other) others × Rises others

pub below_more : (list : List ℕ) (number more : ℕ) → AreBelow list number → number ≤ more → AreBelow list more
below_more [] number more below less = tt
below_more (first ∷ others) number more below less =
    let its = below.0 in (omega arith, below_more others number more below.1 less)

-- with one more behind them

pub below_behind : (list : List ℕ) (last number : ℕ) → AreBelow list number → last < number → AreBelow (list ++ last ∷ []) number
below_behind [] last number below less = (less, tt)
below_behind (first ∷ others) last number below less = (below.0, below_behind others last number below.1 less)

above_behind : (number : ℕ) (list : List ℕ) (last : ℕ) → AllByRecursion (λ other. number < other) list → number < last
    → AllByRecursion (λ other. number < other) (list ++ last ∷ [])
above_behind number [] last above less = (less, tt)
above_behind number (first ∷ others) last above less = (above.0, above_behind number others last above.1 less)

pub rises_behind : (list : List ℕ) (last : ℕ) → Rises list → AreBelow list last → Rises (list ++ last ∷ [])
rises_behind [] last rising below = (tt, tt)
rises_behind (first ∷ others) last rising below =
    (above_behind first others last rising.0 below.0, rises_behind others last rising.1 below.1)

-- some of them

some_above : (number : ℕ) (test : ℕ → Bool) (list : List ℕ) → AllByRecursion (λ other. number < other) list
    → AllByRecursion (λ other. number < other) (filter test list)
some_above number test [] above = tt
some_above number test (first ∷ others) above = by_test (test first) (some_above number test others above.1)
  where
    by_test : (its : Bool) → AllByRecursion (λ other. number < other) (filter test others)
        → AllByRecursion (λ other. number < other) (if its then first ∷ filter test others else filter test others)
    by_test true behind = (above.0, behind)
    by_test false behind = behind

pub some_rise : (test : ℕ → Bool) (list : List ℕ) → Rises list → Rises (filter test list)
some_rise test [] rising = tt
some_rise test (first ∷ others) rising =
    by_test (test first) (some_above first test others rising.0) (some_rise test others rising.1)
  where
    by_test : (its : Bool) → AllByRecursion (λ other. first < other) (filter test others) → Rises (filter test others)
        → Rises (if its then first ∷ filter test others else filter test others)
    by_test true above behind = (above, behind)
    by_test false above behind = behind
