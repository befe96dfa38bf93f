-- Parts of a list round the first place that passes a test.
use Rattle.std.proofs.Common.{◌≡◌, ℕ, ◌+◌, ◌<◌, ◌≤◌, Bool, false, List, [], ◌∷◌, length, take, drop, get_or, Some, None, All, position, arith}
use Rattle.std.specs.List.{position_or_len, slice_split}
use Rattle.std.proofs.lemmas.Bool.Decides.{nat_tests}
use Rattle.std.proofs.lemmas.List.Splits.{slice_split_none, slice_split_first}
use Rattle.std.proofs.lemmas.List.Sums.{fails_before_first}

module _ (p : ℕ → Bool) (xs : List ℕ) where
  -- where none passes, the place is the length
  pub position-none : position p xs ≡ None → length xs ≤ position_or_len p xs
  position-none none = grind (arith, nat_tests)

  pub position-some : (at : ℕ) → position p xs ≡ Some at → (position_or_len p xs ≡ at) × (at < length xs)
  position-some at some = grind (arith, nat_tests)

  pub fails_all : position p xs ≡ None → All (λ x. p x ≡ false) xs
  fails_all none =
      let past = position-none none in
      λ k d below. fails_before_first p xs k d (omega arith)

  pub fails_front : (at : ℕ) → position p xs ≡ Some at → (k d : ℕ) → k < at → p (get_or xs k d) ≡ false
  fails_front at some k d below =
      let place = position-some at some in
      fails_before_first p xs k d (omega arith)

  pub slice_split-none : position p xs ≡ None → slice_split p xs ≡ xs ∷ []
  slice_split-none none = slice_split_none p xs (fails_all none)

  pub slice_split-some : (at : ℕ) → position p xs ≡ Some at → slice_split p xs ≡ take at xs ∷ slice_split p (drop (at + 1) xs)
  slice_split-some at some =
      let place = position-some at some in
      rw place.0 at (slice_split_first p xs 0 (omega arith))
