-- At most one server fits the choice, and the choice as a function gives it.
use Rattle.std.proofs.Common.{◌≡◌, ◌<◌, ◌≤◌, ◌+◌, ⊎_elim, ℕ, zero, suc, Bool, true, false, List, [], ◌∷◌, Option, Some, None, refl, sym, ◌∙◌, ap, arith, zero-add}
use Rattle.std.specs.Prelude.{slice_get}
use Rattle.std.specs.List.{list_all, position_from}
use Rattle.std.specs.Option.{option_map}
use Rattle.std.proofs.lemmas.Bool.{and_parts, and_from, leb-true, le-leb, cases_order, false_from_ne_true}
use Rattle.std.proofs.lemmas.Iterator.Adapters.{position_from-zero}
use Rattle.rws_select.specs.declared.selector.Load.{Load}
use Rattle.rws_select.specs.declared.selector.Scored.{Scored}
use Rattle.rws_select.specs.Scored.{IsBest}
use Rattle.rws_select.specs.Choice.{score_of, IsCandidate, HasNone, IsChoice, is_not_below, is_least, choice_of}

module _ {A : Type 0} (test : A → Bool) where
  passes_at : (xs : List A) (k : ℕ) (x : A) → list_all test xs ≡ true → slice_get xs k ≡ Some x → test x ≡ true
  passes_at [] k x all at = absurd (cc (at))
  passes_at (y ∷ ys) zero x all at = let same : y ≡ x = cc in ap test (sym same) ∙ (and_parts (test y) (list_all test ys) all).0
  passes_at (y ∷ ys) (suc k) x all at = passes_at ys k x (and_parts (test y) (list_all test ys) all).1 at

  all_pass : (xs : List A) → ((k : ℕ) (x : A) → slice_get xs k ≡ Some x → test x ≡ true) → list_all test xs ≡ true
  all_pass [] each = refl
  all_pass (x ∷ xs) each = and_from (test x) (list_all test xs) (each 0 x refl) (all_pass xs (λ k y at. each (suc k) y at))

  first_from : (n : ℕ) (xs : List A) (k : ℕ) (x : A) → slice_get xs k ≡ Some x → test x ≡ true
      → ((j : ℕ) (y : A) → j < k → slice_get xs j ≡ Some y → test y ≡ false) → position_from test n xs ≡ Some (n + k)
  first_from n [] k x at is before = absurd (cc (at))
  first_from n (y ∷ ys) zero x at is before =
      let same : y ≡ x = cc in
      let sum : n ≡ n + 0 = omega arith in
      rw (ap test same ∙ is) (ap (λ m. Some m) sum)
  first_from n (y ∷ ys) (suc k) x at is before =
      let sum : n + 1 + k ≡ n + suc k = omega arith in
      rw (before 0 y (omega arith) refl) (first_from (n + 1) ys k x at is (λ j z below there. before (suc j) z (omega (arith, below)) there) ∙ ap (λ m. Some m) sum)

  none_from : (n : ℕ) (xs : List A) → ((k : ℕ) (x : A) → slice_get xs k ≡ Some x → test x ≡ false) → position_from test n xs ≡ None
  none_from n [] none = refl
  none_from n (x ∷ xs) none = rw (none 0 x refl) (none_from (n + 1) xs (λ k y at. none (suc k) y at))

pub one_choice : (candidates : List (Option Load)) (a b : ℕ) → IsChoice candidates a → IsChoice candidates b → a ≡ b
one_choice candidates a b x y =
    ⊎_elim
    (λ same. same)
    (⊎_elim
    (λ less. let least = x.least b y.load y.present in let lower = y.lowest a x.load less x.present in absurd (omega (arith, least, lower)))
    (λ more. let least = y.least a x.load x.present in let lower = x.lowest b y.load more y.present in absurd (omega (arith, least, lower))))
    (cases_order a b)

not_below : (candidates : List (Option Load)) (score k : ℕ) (one : Option Load) → ((other : ℕ) (its : Load) → IsCandidate candidates other its → score ≤ score_of its)
    → slice_get candidates k ≡ Some one → is_not_below score one ≡ true
not_below candidates score k None least at = refl
not_below candidates score k (Some its) least at = le-leb score (score_of its) (least k its at)

not_least : (candidates : List (Option Load)) (place : ℕ) (is : IsChoice candidates place) (k : ℕ) (one : Option Load) → k < place → slice_get candidates k ≡ Some one
    → is_least candidates one ≡ false
not_least candidates place is k None below at = refl
not_least candidates place is k (Some its) below at =
    let lower = is.lowest k its below at in
    false_from_ne_true (is_least candidates (Some its)) (λ all.
    let above = leb-true (score_of its) (score_of is.load) (passes_at (is_not_below (score_of its)) candidates place (Some is.load) all is.present) in
    absurd (omega (arith, lower, above)))

pub choice_is : (candidates : List (Option Load)) (place : ℕ) → IsChoice candidates place → choice_of candidates ≡ Some place
choice_is candidates place is =
    position_from-zero (is_least candidates) candidates
    ∙ first_from (is_least candidates) 0 candidates place (Some is.load) is.present
    (all_pass (is_not_below (score_of is.load)) candidates (λ k one at. not_below candidates (score_of is.load) k one is.least at))
    (λ k one below at. not_least candidates place is k one below at)
    ∙ ap (λ n. Some n) (zero-add place)

none_is_least : (candidates : List (Option Load)) (k : ℕ) (one : Option Load) → HasNone candidates → slice_get candidates k ≡ Some one → is_least candidates one ≡ false
none_is_least candidates k None none at = refl
none_is_least candidates k (Some its) none at = absurd (none k its at)

pub choice_is_none : (candidates : List (Option Load)) → HasNone candidates → choice_of candidates ≡ None
choice_is_none candidates none =
    position_from-zero (is_least candidates) candidates ∙ none_from (is_least candidates) 0 candidates (λ k one at. none_is_least candidates k one none at)

-- the best of all servers is that of the function
pub best_is : (candidates : List (Option Load)) (best : Option Scored) → IsBest candidates best → option_map (λ (scored : Scored). scored.place) best ≡ choice_of candidates
best_is candidates None none = sym (choice_is_none candidates none)
best_is candidates (Some scored) is = sym (choice_is candidates scored.place is.choice)
