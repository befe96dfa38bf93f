-- What a selector chooses: of the replicas that may be taken, the one of least score, and of those the one of lowest index.
use Rattle.std.specs.Prelude.{◌≡◌, ℕ, ◌+◌, ◌*◌, ◌<◌, ◌≤◌, nat_le, Bool, true, false, List, Option, Some, None, slice_get, position}
use Rattle.std.specs.List.{list_all}
use Rattle.std.specs.Fn.{Shared}
use denote.Ref.{Bor}
use Rattle.rws_select.specs.declared.selector.Load.{Load}
use Rattle.rws_select.specs.declared.selector.Selector.{Selector}

-- links with a pending command come first, the number of links decides between equals
abbrev pub score_of : Load → ℕ
score_of load = load.pending * 65536 + load.links

-- f may be called on every load, and answers its score
pub record IsScorer {F : Type 0} (g : Shared F (Bor Load × Unit {0}) ℕ) (f : F) : Type 0 where
  pub callable : (p : Bor Load) → g.pre f (p, tt)
  pub scores : (p : Bor Load) (r : ℕ) → g.post f (p, tt) r → r ≡ score_of p.now

-- the function that the selector keeps is one
abbrev pub HasScorer : {F : Type 0} → Shared F (Bor Load × Unit {0}) ℕ → Selector F → Type 0
HasScorer g selector = IsScorer g selector.score

-- the server at this place is a candidate, with this load
abbrev pub IsCandidate : List (Option Load) → ℕ → Load → Type 0
IsCandidate candidates place load = slice_get candidates place ≡ Some (Some load)

abbrev pub HasNone : List (Option Load) → Type 0
HasNone candidates = (place : ℕ) (load : Load) → ¬ IsCandidate candidates place load

-- no candidate has a lower score, and each before this place has a higher one
pub record IsChoice (candidates : List (Option Load)) (place : ℕ) : Type 0 where
  pub load : Load
  pub present : IsCandidate candidates place load
  pub least : (other : ℕ) (its : Load) → IsCandidate candidates other its → score_of load ≤ score_of its
  pub lowest : (other : ℕ) (its : Load) → other < place → IsCandidate candidates other its → score_of load < score_of its

-- the server is no candidate, or has at least this score
abbrev pub is_not_below : ℕ → Option Load → Bool
is_not_below score None = true
is_not_below score (Some load) = nat_le score (score_of load)

-- the server is a candidate, and no candidate has a lower score
abbrev pub is_least : List (Option Load) → Option Load → Bool
is_least candidates None = false
is_least candidates (Some load) = list_all (is_not_below (score_of load)) candidates

-- the same choice as a function: the lowest index of a candidate that has the least score
abbrev pub choice_of : List (Option Load) → Option ℕ
choice_of candidates = position (is_least candidates) candidates
