-- What a replay has seen is the front of its log.
use Rattle.std.proofs.Common.{◌≡◌, ◌≤◌, ◌<◌, ◌+◌, ℕ, Bool, true, false, cond, nat_lt, List, [], ◌∷◌, ◌++◌, take, Option, Some, None, refl, sym, ap, ◌∙◌, arith}
use Rattle.std.specs.Prelude.{slice_get}
use Rattle.std.proofs.lemmas.List.{take_more}
use Rattle.std.proofs.lemmas.Bool.{ltb-true, ltb-false}
use Rattle.std.proofs.lemmas.Option.{slice_get_within, get_or_from_slice_get}
use Rattle.rws_replay.specs.Replays.{Replay, next_item}
use Rattle.rws_replay.specs.Runs.{Runs, begins, compares, is_lost, ReplaysAreWhole}

front_grows : (sums : List (List ℕ)) (at : ℕ) (sum : List ℕ) → slice_get sums at ≡ Some sum → take (at + 1) sums ≡ take at sums ++ sum ∷ []
front_grows sums at sum there =
    take_more sums at sum (slice_get_within sums at sum there) ∙ ap (λ (one : List ℕ). take at sums ++ one ∷ []) (get_or_from_slice_get sums at sum sum there)

-- the next item is that at the place `compared`, and there is one as long as that is below their number
record IsNext (compared items at : ℕ) : Type 0 where
  pub place : at ≡ compared
  pub within : compared < items

next_is : (replay : Replay) (at : ℕ) → next_item replay ≡ Some at → IsNext replay.compared replay.items at
next_is replay at next = by (nat_lt replay.compared replay.items) refl next
  where
    by : (test : Bool) → nat_lt replay.compared replay.items ≡ test → cond {A = Option ℕ} test (Some replay.compared) None ≡ Some at
        → IsNext replay.compared replay.items at
    by true is found = record { place = cc; within = ltb-true replay.compared replay.items is }
    by false is found = absurd cc

no_next : (replay : Replay) → next_item replay ≡ None → replay.items ≤ replay.compared
no_next replay none = by (nat_lt replay.compared replay.items) refl none
  where
    by : (test : Bool) → nat_lt replay.compared replay.items ≡ test → cond {A = Option ℕ} test (Some replay.compared) None ≡ None
        → replay.items ≤ replay.compared
    by true is found = absurd cc
    by false is found = ltb-false replay.compared replay.items is

record IsFront (sums : List (List ℕ)) (replay : Replay) (seen : List (List ℕ)) : Type 0 where
  pub front : seen ≡ take replay.compared sums
  pub within : replay.compared ≤ replay.items

seen_so_far : (sums : List (List ℕ)) (replay : Replay) (seen : List (List ℕ)) → Runs sums replay seen → IsFront sums replay seen
seen_so_far sums _ _ (begins items) = record { front = refl; within = omega arith }
seen_so_far sums _ _ (compares replay seen at sum run next same) =
    let so_far = seen_so_far sums replay seen run in
    let is = next_is replay at next in
    record {
      front = ap (λ (front : List (List ℕ)). front ++ sum ∷ []) so_far.front ∙ sym (front_grows sums replay.compared sum (ap (slice_get sums) (sym is.place) ∙ same));
      within = omega (arith, is.within);
    }
seen_so_far sums _ _ (is_lost replay seen run) = record { front = refl; within = omega arith }

pub law : ReplaysAreWhole
law sums replay seen run none =
    let so_far = seen_so_far sums replay seen run in
    let all : replay.compared ≡ replay.items = omega (arith, so_far.within, no_next replay none) in
    so_far.front ∙ ap (λ (n : ℕ). take n sums) all
