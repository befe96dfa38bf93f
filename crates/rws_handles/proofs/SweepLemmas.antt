-- The statements that were closed later leave, by rising number.
use Rattle.std.proofs.Common.{◌≡◌, ◌≢◌, ◌==◌, ◌⊎◌, ℕ, zero, suc, ◌+◌, ◌-◌, ◌<◌, ◌≤◌, Bool, true, false, cond, List, [], ◌∷◌, length, get_or, Option, Some, None, drop, IsPermutation, refl, sym, ap, subst, ◌∙◌, inl, inr, arith}
use Rattle.std.specs.List.Sorted.{IsNonDecreasing}
use Rattle.std.proofs.lemmas.Bool.{cases_eq, ne_eqb, eq-eqb}
use Rattle.std.proofs.lemmas.List.{drop_all}
use Rattle.std.proofs.lemmas.List.Sums.{sum_by-cons}
use Rattle.std.proofs.lemmas.List.Sorted.{sum_by-IsPermutation}
use Rattle.rws_handles.specs.Prepared.{Prepared}
use Rattle.rws_handles.specs.LinkIds.{Ids}
use Rattle.rws_handles.specs.Links.{left_all}
use Rattle.rws_handles.specs.Slots.{Slots, closed_from, closed_numbers, is_closed, statement_at, without_all, without_statement}
use Rattle.rws_handles.specs.StatementsView.{AreListed, HasNumber, once_if_closed, times}
use Rattle.rws_handles.proofs.SlotLemmas.{changes_out, closed_same, entry_at, none_at, not_there, taken_out, value_at}

pub times-cons : (m number : ℕ) (numbers : List ℕ) → times m (number ∷ numbers) ≡ cond (number == m) 1 0 + times m numbers
times-cons m number numbers = sum_by-cons (λ other. cond (other == m) 1 0) number numbers

head_is : (m number : ℕ) → number ≡ m → cond {A = ℕ} (number == m) 1 0 ≡ 1
head_is m number is = ap (λ (b : Bool). cond {A = ℕ} b 1 0) (eq-eqb number m is)

head_other : (m number : ℕ) → number ≢ m → cond {A = ℕ} (number == m) 1 0 ≡ 0
head_other m number apart = ap (λ (b : Bool). cond {A = ℕ} b 1 0) (ne_eqb number m apart)

-- ---- rising lists

-- each number is at least the one before it, and `low`
abbrev Ascends : ℕ → List ℕ → Type 0
Ascends low [] = Unit {0}
Ascends low (x ∷ xs) = (low ≤ x) × Ascends x xs

-- each number is above the one before it, and at least `low`
abbrev Rises : ℕ → List ℕ → Type 0
Rises low [] = Unit {0}
Rises low (x ∷ xs) = (low ≤ x) × Rises (x + 1) xs

ascends_from : (x : ℕ) (xs : List ℕ) → IsNonDecreasing (x ∷ xs) → Ascends x xs
ascends_from x [] sorted = tt
ascends_from x (y ∷ ys) sorted = (sorted 0 1 0 (omega arith) (omega arith), ascends_from y ys (λ i j d le lt. sorted (suc i) (suc j) d (omega arith) (omega arith)))

ascends : (xs : List ℕ) → IsNonDecreasing xs → Ascends 0 xs
ascends [] sorted = tt
ascends (x ∷ xs) sorted = (omega arith, ascends_from x xs sorted)

lower : (low lower : ℕ) (xs : List ℕ) → lower ≤ low → Rises low xs → Rises lower xs
lower low less [] le rises = tt
lower low less (x ∷ xs) le rises = (omega (arith, rises.0), rises.1)

none_below : (m low : ℕ) (xs : List ℕ) → Rises low xs → m < low → times m xs ≡ 0
none_below m low [] rises lt = refl
none_below m low (x ∷ xs) rises lt =
    omega (arith, times-cons m x xs, head_other m x (λ (e : x ≡ m). absurd (omega (arith, rises.0))), none_below m (x + 1) xs rises.1 (omega (arith, rises.0)))

none_under : (m low : ℕ) (xs : List ℕ) → Ascends low xs → m < low → times m xs ≡ 0
none_under m low [] asc lt = refl
none_under m low (x ∷ xs) asc lt =
    omega (arith, times-cons m x xs, head_other m x (λ (e : x ≡ m). absurd (omega (arith, asc.0))), none_under m x xs asc.1 (omega (arith, asc.0)))

-- two rising lists in which each number stands as often are one list
same_list : (low high : ℕ) (xs ys : List ℕ) → Ascends low xs → Rises high ys → ((m : ℕ) → times m xs ≡ times m ys) → xs ≡ ys
same_list low high [] [] asc rises same = refl
same_list low high [] (y ∷ ys) asc rises same = absurd (omega (arith, same y, times-cons y y ys, head_is y y refl))
same_list low high (x ∷ xs) [] asc rises same = absurd (omega (arith, same x, times-cons x x xs, head_is x x refl))
same_list low high (x ∷ xs) (y ∷ ys) asc rises same =
    elim (cases_eq x y) [
      | inl is ↦
          let tails : (m : ℕ) → times m xs ≡ times m ys =
          λ m. omega (arith, same m, times-cons m x xs, times-cons m y ys, ap (λ (n : ℕ). cond {A = ℕ} (n == m) 1 0) is) in
          ap (λ (n : ℕ). n ∷ xs) is ∙ ap (λ (ns : List ℕ). y ∷ ns) (same_list x (y + 1) xs ys asc.1 rises.1 tails)
      | inr apart ↦ elim (less_or x y apart) [
        | inl lt ↦ absurd (omega (arith, same x, times-cons x x xs, head_is x x refl, none_below x y (y ∷ ys) (omega arith, rises.1) lt))
        | inr gt ↦ absurd (omega (arith, same y, times-cons y y ys, head_is y y refl, none_under y x (x ∷ xs) (omega arith, asc.1) gt))
      ]
    ]
  where
    less_or : (a b : ℕ) → a ≢ b → (a < b) ⊎ (b < a)
    less_or zero zero apart = absurd (apart refl)
    less_or zero (suc b) apart = inl (omega arith)
    less_or (suc a) zero apart = inr (omega arith)
    less_or (suc a) (suc b) apart = elim (less_or a b (λ (e : a ≡ b). apart (ap suc e))) [ inl lt ↦ inl (omega arith) | inr gt ↦ inr (omega arith) ]

-- ---- the numbers of closed statements

rises_by : (first : ℕ) (rest : List ℕ) (closed : Bool) → Rises (first + 1) rest → Rises first (cond closed (first ∷ rest) rest)
rises_by first rest true rises = (omega arith, rises)
rises_by first rest false rises = lower (first + 1) first rest (omega arith) rises

closed_rises : (entries : List (Option Prepared)) (first : ℕ) → Rises first (closed_from first entries)
closed_rises [] first = tt
closed_rises (entry ∷ entries) first = rises_by first (closed_from (first + 1) entries) (is_closed entry) (closed_rises entries (first + 1))

times_here : (first m : ℕ) (rest : List ℕ) (closed : Bool) → first ≡ m → times m rest ≡ 0 → times m (cond closed (first ∷ rest) rest) ≡ cond closed 1 0
times_here first m rest true is none = omega (arith, times-cons m first rest, head_is m first is)
times_here first m rest false is none = none

times_behind : (first m : ℕ) (rest : List ℕ) (closed : Bool) → first ≢ m → times m (cond closed (first ∷ rest) rest) ≡ times m rest
times_behind first m rest true apart = omega (arith, times-cons m first rest, head_other m first apart)
times_behind first m rest false apart = refl

closed_times : (entries : List (Option Prepared)) (first k : ℕ) → times (first + k) (closed_from first entries) ≡ once_if_closed (get_or entries k None)
closed_times [] first k = refl
closed_times (entry ∷ entries) first zero =
    times_here first (first + 0) (closed_from (first + 1) entries) (is_closed entry) (omega arith)
    (none_below (first + 0) (first + 1) (closed_from (first + 1) entries) (closed_rises entries (first + 1)) (omega arith))
closed_times (entry ∷ entries) first (suc k) =
    let shift : first + suc k ≡ first + 1 + k = omega arith in
    times_behind first (first + suc k) (closed_from (first + 1) entries) (is_closed entry) (λ (e : first ≡ first + suc k). absurd (omega arith))
    ∙ ap (λ (n : ℕ). times n (closed_from (first + 1) entries)) shift ∙ closed_times entries (first + 1) k

numbers_times : (slots : Slots) (m : ℕ) → times m (closed_numbers slots) ≡ once_if_closed (statement_at slots m)
numbers_times slots m =
    elim (cases_eq m 0) [
      | inl none ↦
          none_below m 1 (closed_numbers slots) (closed_rises slots.entries 1) (omega arith) ∙ sym (ap once_if_closed (none_at slots m none))
      | inr some ↦
          let shift : m ≡ 1 + (m - 1) = omega arith in
          ap (λ (n : ℕ). times n (closed_numbers slots)) shift ∙ closed_times slots.entries 1 (m - 1) ∙ sym (ap once_if_closed (value_at slots m some))
    ]

-- the list of those closed, once it is sorted
pub sorted_is : (slots : Slots) (closing sorted : List ℕ) → AreListed slots closing → IsPermutation closing sorted → IsNonDecreasing sorted → sorted ≡ closed_numbers slots
sorted_is slots closing sorted listed permuted rising =
    same_list 0 1 sorted (closed_numbers slots) (ascends sorted rising) (closed_rises slots.entries 1)
    (λ m. sum_by-IsPermutation (λ other. cond (other == m) 1 0) closing sorted permuted ∙ listed.listed m ∙ sym (numbers_times slots m))

-- ---- after the sweep

out_at : (number : ℕ) (slots : Slots) → statement_at (without_statement number slots) number ≡ None
out_at number slots = by (statement_at slots number) refl
  where
    by : (found : Option Prepared) → statement_at slots number ≡ found → statement_at (without_statement number slots) number ≡ None
    by None none = ap (λ (s : Slots). statement_at s number) (not_there number slots none) ∙ none
    by (Some was) found = ap (λ (s : Slots). statement_at s number) (taken_out number slots was found) ∙ (changes_out number slots was found).here

others_stay : (number : ℕ) (slots : Slots) (m : ℕ) → m ≢ number → statement_at (without_statement number slots) m ≡ statement_at slots m
others_stay number slots m apart = by (statement_at slots number) refl
  where
    by : (found : Option Prepared) → statement_at slots number ≡ found → statement_at (without_statement number slots) m ≡ statement_at slots m
    by None none = ap (λ (s : Slots). statement_at s m) (not_there number slots none)
    by (Some was) found = ap (λ (s : Slots). statement_at s m) (taken_out number slots was found) ∙ (changes_out number slots was found).others m apart

-- each statement has left, or stays and wasn't to leave
out_or_stays : (numbers : List ℕ) (slots : Slots) (m : ℕ) → (statement_at (without_all numbers slots) m ≡ None) ⊎ ((statement_at (without_all numbers slots) m ≡ statement_at slots m) × (times m numbers ≡ 0))
out_or_stays [] slots m = inr (refl, refl)
out_or_stays (number ∷ numbers) slots m =
    elim (out_or_stays numbers (without_statement number slots) m) [
      | inl out ↦ inl out
      | inr stays ↦ elim (cases_eq m number) [
        | inl is ↦ inl (stays.0 ∙ ap (statement_at (without_statement number slots)) is ∙ out_at number slots)
        | inr apart ↦ inr (stays.0 ∙ others_stay number slots m apart, omega (arith, times-cons m number numbers, head_other m number (λ (e : number ≡ m). apart (sym e)), stays.1))
      ]
    ]

is_open : (closed : Bool) → cond {A = ℕ} closed 1 0 ≡ 0 → closed ≡ false
is_open true e = absurd (omega arith)
is_open false e = refl

none_closed : (slots : Slots) (m : ℕ) → is_closed (statement_at (without_all (closed_numbers slots) slots) m) ≡ false
none_closed slots m =
    elim (out_or_stays (closed_numbers slots) slots m) [
      | inl out ↦ ap is_closed out
      | inr stays ↦ ap is_closed stays.0 ∙ is_open (is_closed (statement_at slots m)) (sym (numbers_times slots m) ∙ stays.1)
    ]

-- nothing is listed after the sweep
pub listed_none : (slots : Slots) (closing : List ℕ) → AreListed slots closing → AreListed (without_all (closed_numbers slots) slots) []
listed_none slots closing listed =
    let left : Slots = without_all (closed_numbers slots) slots in
    record {
      numbered = λ m. elim (out_or_stays (closed_numbers slots) slots m) [
        | inl out ↦ subst (λ (o : Option Prepared). HasNumber m o) (sym out) tt
        | inr stays ↦ subst (λ (o : Option Prepared). HasNumber m o) (sym stays.0) (listed.numbered m)
      ];
      listed = λ m. sym (ap (λ (b : Bool). cond b 1 0) (none_closed slots m));
      counted = closed_same [] left.entries (λ k. sym (sym (ap is_closed (entry_at left k)) ∙ none_closed slots (k + 1)));
    }

-- ---- at the end of the loop

pub all_out : (sorted closing : List ℕ) (at : ℕ) (now old : Slots) → closing ≡ sorted → length sorted ≤ at → sorted ≡ closed_numbers old → without_all (drop at closing) now ≡ without_all closing old
    → now ≡ without_all (closed_numbers old) old
all_out sorted closing at now old same end is out =
    let none : drop at closing ≡ [] = drop_all at closing (rw same end) in
    rw (none, same, is) at out

pub all_left : (sorted closing numbers : List ℕ) (at : ℕ) (now old : List Ids) → closing ≡ sorted → length sorted ≤ at → sorted ≡ numbers → left_all (drop at closing) now ≡ left_all closing old
    → now ≡ left_all numbers old
all_left sorted closing numbers at now old same end is left =
    let none : drop at closing ≡ [] = drop_all at closing (rw same end) in
    rw (none, same, is) at left
