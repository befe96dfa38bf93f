-- Statements under their numbers, the list of those closed later, and the numbers that were given back.
use Rattle.std.proofs.Common.{◌≡◌, ◌≢◌, ◌==◌, ℕ, zero, suc, ◌+◌, ◌-◌, ◌<◌, ◌≤◌, Bool, true, false, cond, is_some, IsSome, List, [], ◌∷◌, ◌++◌, length, get_or, set, Option, Some, None, count_by, refl, sym, ap, subst, ◌∙◌, inl, inr, arith}
use Rattle.std.proofs.Math.Seq.{get_or-append_seam}
use Rattle.std.proofs.lemmas.Bool.{cases_eq, ne_eqb, eq-eqb}
use Rattle.std.proofs.lemmas.List.{get_or-set_other, get_or-set_same, length-append, length-set}
use Rattle.std.proofs.lemmas.List.Sums.{sum_by-cons, sum_by-append, sum_by-set}
use Rattle.slab.specs.Slab.{Slab}
use Rattle.slab.proofs.SlabLemmas.{ContainsKey-within}
use Rattle.rws_handles.specs.Prepared.{Prepared}
use Rattle.rws_handles.specs.Slots.{Slots, count, is_closed, statement_at, with_statement, without_all, without_statement}
use Rattle.rws_handles.specs.StatementsView.{AreGivenOut, AreListed, HasNumber, IsVacant, once_if_closed, times}

-- the statement of a number other than 0 stands at the place before it
pub value_at : (slots : Slots) (number : ℕ) → number ≢ 0 → statement_at slots number ≡ get_or slots.entries (number - 1) None
value_at slots number some = rw (ne_eqb number 0 some) refl

pub none_at : (slots : Slots) (number : ℕ) → number ≡ 0 → statement_at slots number ≡ None
none_at slots number none = rw (eq-eqb number 0 none) refl

pub entry_at : (slots : Slots) (k : ℕ) → statement_at slots (k + 1) ≡ get_or slots.entries k None
entry_at slots k =
    let back : k + 1 - 1 ≡ k = omega arith in
    value_at slots (k + 1) (λ (e : k + 1 ≡ 0). absurd (omega arith)) ∙ ap (λ (i : ℕ). get_or slots.entries i None) back

-- ---- another statement, or none, in one place

pub record Changes (old new : Slots) (number : ℕ) (entry : Option Prepared) : Type 0 where
  pub here : statement_at new number ≡ entry
  pub others : (m : ℕ) → m ≢ number → statement_at new m ≡ statement_at old m

abbrev pub set_in : Slots → ℕ → Option Prepared → List ℕ → Slots
set_in slots number entry given = record { entries = set slots.entries (number - 1) entry; freed = given }

pub changes_set : (slots : Slots) (number : ℕ) (entry : Option Prepared) (given : List ℕ) → number ≢ 0 → number - 1 < length slots.entries → Changes slots (set_in slots number entry given) number entry
changes_set slots number entry given some within =
    let new : Slots = set_in slots number entry given in
    record {
      here = value_at new number some ∙ get_or-set_same slots.entries (number - 1) entry None within;
      others = λ m apart. elim (cases_eq m 0) [
        | inl none ↦ none_at new m none ∙ sym (none_at slots m none)
        | inr any ↦
            let other : m - 1 ≢ number - 1 = λ (same : m - 1 ≡ number - 1). apart (omega arith) in
            value_at new m any ∙ get_or-set_other slots.entries (number - 1) (m - 1) entry None other ∙ sym (value_at slots m any)
      ];
    }

append_other : (xs : List (Option Prepared)) (entry : Option Prepared) (k : ℕ) → k ≢ length xs → get_or (xs ++ entry ∷ []) k None ≡ get_or xs k None
append_other [] entry zero apart = absurd (apart refl)
append_other [] entry (suc k) apart = refl
append_other (x ∷ xs) entry zero apart = refl
append_other (x ∷ xs) entry (suc k) apart = append_other xs entry k (λ (e : k ≡ length xs). apart (ap suc e))

abbrev pub put_in : Slots → Option Prepared → List ℕ → Slots
put_in slots entry given = record { entries = slots.entries ++ entry ∷ []; freed = given }

pub changes_end : (slots : Slots) (entry : Option Prepared) (given : List ℕ) → Changes slots (put_in slots entry given) (length slots.entries + 1) entry
changes_end slots entry given =
    let new : Slots = put_in slots entry given in
    record {
      here = entry_at new (length slots.entries) ∙ get_or-append_seam slots.entries entry [] None;
      others = λ m apart. elim (cases_eq m 0) [
        | inl none ↦ none_at new m none ∙ sym (none_at slots m none)
        | inr any ↦
            let other : m - 1 ≢ length slots.entries = λ (same : m - 1 ≡ length slots.entries). apart (omega arith) in
            value_at new m any ∙ append_other slots.entries entry (m - 1) other ∙ sym (value_at slots m any)
      ];
    }

abbrev slab_with : List (Option Prepared) → Slab Prepared
slab_with entries = record { slots = entries; vacant_key = 0; capacity = 0 }

-- a number that names a statement
pub some_number : (number : ℕ) (slots : Slots) (was : Prepared) → statement_at slots number ≡ Some was → number ≢ 0
some_number number slots was found = λ (e : number ≡ 0). absurd (cc (none_at slots number e))

pub found_within : (number : ℕ) (slots : Slots) (was : Prepared) → statement_at slots number ≡ Some was → number - 1 < length slots.entries
found_within number slots was found =
    let at : get_or slots.entries (number - 1) None ≡ Some was = sym (value_at slots number (some_number number slots was found)) ∙ found in
    ContainsKey-within (slab_with slots.entries) (number - 1) (subst (λ (o : Option Prepared). IsSome o) (sym at) refl)

-- ---- counting

closed-cons : (x : Option Prepared) (xs : List (Option Prepared)) → count_by is_closed (x ∷ xs) ≡ once_if_closed x + count_by is_closed xs
closed-cons x xs = sum_by-cons (λ o. cond (is_closed o) 1 0) x xs

-- how many are closed depends on what stands at each place alone
pub closed_same : (xs ys : List (Option Prepared)) → ((k : ℕ) → is_closed (get_or xs k None) ≡ is_closed (get_or ys k None)) → count_by is_closed xs ≡ count_by is_closed ys
closed_same [] [] same = refl
closed_same [] (y ∷ ys) same =
    let head : 0 ≡ once_if_closed y = ap (λ (b : Bool). cond b 1 0) (same 0) in
    omega (arith, closed_same [] ys (λ k. same (suc k)), closed-cons y ys)
closed_same (x ∷ xs) [] same =
    let head : once_if_closed x ≡ 0 = ap (λ (b : Bool). cond b 1 0) (same 0) in
    omega (arith, closed_same xs [] (λ k. same (suc k)), closed-cons x xs)
closed_same (x ∷ xs) (y ∷ ys) same =
    let head : once_if_closed x ≡ once_if_closed y = ap (λ (b : Bool). cond b 1 0) (same 0) in
    omega (arith, closed_same xs ys (λ k. same (suc k)), closed-cons x xs, closed-cons y ys)

some-cons : (x : Option Prepared) (xs : List (Option Prepared)) → count_by is_some (x ∷ xs) ≡ cond (is_some x) 1 0 + count_by is_some xs
some-cons x xs = sum_by-cons (λ o. cond (is_some o) 1 0) x xs

closed_once : (x : Option Prepared) → once_if_closed x ≤ cond (is_some x) 1 0
closed_once None = omega arith
closed_once (Some statement) = by statement.closed
  where
    by : (closed : Bool) → cond {A = ℕ} closed 1 0 ≤ 1
    by true = omega arith
    by false = omega arith

closed_within : (xs : List (Option Prepared)) → count_by is_closed xs ≤ count_by is_some xs
closed_within [] = omega arith
closed_within (x ∷ xs) = omega (arith, closed_within xs, closed_once x, closed-cons x xs, some-cons x xs)

-- with an open statement there are fewer closed ones than statements
pub fewer_closed : (xs : List (Option Prepared)) (k : ℕ) (statement : Prepared) → get_or xs k None ≡ Some statement → statement.closed ≡ false → count_by is_closed xs < count_by is_some xs
fewer_closed [] k statement found open_ = absurd (cc)
fewer_closed (x ∷ xs) zero statement found open_ =
    let none : once_if_closed x ≡ 0 = ap once_if_closed found ∙ ap (λ (b : Bool). cond b 1 0) open_ in
    let one : cond {A = ℕ} (is_some x) 1 0 ≡ 1 = ap (λ (o : Option Prepared). cond {A = ℕ} (is_some o) 1 0) found in
    omega (arith, closed_within xs, closed-cons x xs, some-cons x xs)
fewer_closed (x ∷ xs) (suc k) statement found open_ =
    omega (arith, fewer_closed xs k statement found open_, closed_once x, closed-cons x xs, some-cons x xs)

-- how many statements there are where one place is another
pub count_set : (slots : Slots) (number : ℕ) (entry : Option Prepared) → number ≢ 0 → number - 1 < length slots.entries
    → count_by is_some (set slots.entries (number - 1) entry) + cond (is_some (statement_at slots number)) 1 0 ≡ count slots + cond (is_some entry) 1 0
count_set slots number entry some within =
    let was : cond {A = ℕ} (is_some (statement_at slots number)) 1 0 ≡ cond (is_some (get_or slots.entries (number - 1) None)) 1 0 = ap (λ (o : Option Prepared). cond {A = ℕ} (is_some o) 1 0) (value_at slots number some) in
    omega (arith, was, sum_by-set (λ o. cond (is_some o) 1 0) slots.entries (number - 1) entry None within)

one_of : (entry : Option Prepared) (was : Prepared) → entry ≡ Some was → cond {A = ℕ} (is_some entry) 1 0 ≡ 1
one_of entry was found = ap (λ (o : Option Prepared). cond {A = ℕ} (is_some o) 1 0) found

pub none_of : (entry : Option Prepared) → entry ≡ None → cond {A = ℕ} (is_some entry) 1 0 ≡ 0
none_of entry none = ap (λ (o : Option Prepared). cond {A = ℕ} (is_some o) 1 0) none

-- ---- what keeps the list of those closed later

numbered_if : (old new : Slots) (closing : List ℕ) (number : ℕ) (entry : Option Prepared) → AreListed old closing → Changes old new number entry → HasNumber number entry → (m : ℕ) → HasNumber m (statement_at new m)
numbered_if old new closing number entry listed changes has m =
    elim (cases_eq m number) [
      | inl is ↦ subst (λ (n : ℕ). HasNumber n (statement_at new n)) (sym is) (subst (λ (e : Option Prepared). HasNumber number e) (sym changes.here) has)
      | inr apart ↦ subst (λ (e : Option Prepared). HasNumber m e) (sym (changes.others m apart)) (listed.numbered m)
    ]

closed_at : (old new : Slots) (number : ℕ) (entry : Option Prepared) → Changes old new number entry → is_closed entry ≡ is_closed (statement_at old number) → (m : ℕ) → is_closed (statement_at old m) ≡ is_closed (statement_at new m)
closed_at old new number entry changes same m =
    elim (cases_eq m number) [
      | inl is ↦
          ap (λ (n : ℕ). is_closed (statement_at old n)) is ∙ sym same ∙ sym (ap is_closed changes.here) ∙ sym (ap (λ (n : ℕ). is_closed (statement_at new n)) is)
      | inr apart ↦ sym (ap is_closed (changes.others m apart))
    ]

-- another statement, or none, in the place of one that was as open or closed as it
pub listed_if : (old new : Slots) (closing : List ℕ) (number : ℕ) (entry : Option Prepared) → AreListed old closing → Changes old new number entry → HasNumber number entry → is_closed entry ≡ is_closed (statement_at old number)
    → AreListed new closing
listed_if old new closing number entry listed changes has same =
    let closed = closed_at old new number entry changes same in
    record {
      numbered = numbered_if old new closing number entry listed changes has;
      listed = λ m. listed.listed m ∙ ap (λ (b : Bool). cond b 1 0) (closed m);
      counted = listed.counted ∙ closed_same old.entries new.entries (λ k. sym (ap is_closed (entry_at old k)) ∙ closed (k + 1) ∙ ap is_closed (entry_at new k));
    }

times-more : (m number : ℕ) (numbers : List ℕ) → times m (numbers ++ number ∷ []) ≡ times m numbers + cond (number == m) 1 0
times-more m number numbers = omega (arith, sum_by-append (λ other. cond (other == m) 1 0) numbers (number ∷ []), sum_by-cons (λ other. cond (other == m) 1 0) number [])

pub times_other : (m number : ℕ) (numbers : List ℕ) → m ≢ number → times m (numbers ++ number ∷ []) ≡ times m numbers
times_other m number numbers apart =
    let none : cond {A = ℕ} (number == m) 1 0 ≡ 0 = ap (λ (b : Bool). cond {A = ℕ} b 1 0) (ne_eqb number m (λ (e : number ≡ m). apart (sym e))) in
    omega (arith, times-more m number numbers)

pub times_same : (number : ℕ) (numbers : List ℕ) → times number (numbers ++ number ∷ []) ≡ times number numbers + 1
times_same number numbers =
    let one : cond {A = ℕ} (number == number) 1 0 ≡ 1 = ap (λ (b : Bool). cond {A = ℕ} b 1 0) (eq-eqb number number refl) in
    omega (arith, times-more number number numbers)

pub number_of_found : (slots : Slots) (closing : List ℕ) (number : ℕ) (was : Prepared) → AreListed slots closing → statement_at slots number ≡ Some was → was.number ≡ number
number_of_found slots closing number was listed found = subst (λ (o : Option Prepared). HasNumber number o) found (listed.numbered number)

-- an open statement is closed, and listed
pub listed_closed : (slots : Slots) (closing : List ℕ) (number : ℕ) (was statement : Prepared) → AreListed slots closing → statement_at slots number ≡ Some was → was.closed ≡ false → statement.number ≡ was.number → statement.closed ≡ true
    → AreListed (with_statement slots number (Some statement)) (closing ++ number ∷ [])
listed_closed slots closing number was statement listed found was_open has closed =
    let new : Slots = with_statement slots number (Some statement) in
    let some = some_number number slots was found in
    let within = found_within number slots was found in
    let changes : Changes slots new number (Some statement) = changes_set slots number (Some statement) slots.freed some within in
    let was_at : once_if_closed (statement_at slots number) ≡ 0 = ap once_if_closed found ∙ ap (λ (b : Bool). cond b 1 0) was_open in
    let is_at : once_if_closed (statement_at new number) ≡ 1 = ap once_if_closed changes.here ∙ ap (λ (b : Bool). cond b 1 0) closed in
    let before : once_if_closed (get_or slots.entries (number - 1) None) ≡ 0 = sym (ap once_if_closed (value_at slots number some)) ∙ was_at in
    let after_ : once_if_closed (Some statement) ≡ 1 = ap (λ (b : Bool). cond b 1 0) closed in
    let more : count_by is_closed new.entries ≡ count_by is_closed slots.entries + 1 =
    omega (arith, before, after_, sum_by-set (λ o. cond (is_closed o) 1 0) slots.entries (number - 1) (Some statement) None within) in
    record {
      numbered = numbered_if slots new closing number (Some statement) listed changes (has ∙ number_of_found slots closing number was listed found);
      listed = λ m. elim (cases_eq m number) [
        | inl is ↦ subst (λ (n : ℕ). times n (closing ++ number ∷ []) ≡ once_if_closed (statement_at new n)) (sym is) (omega (arith, times_same number closing, listed.listed number))
        | inr apart ↦
            let same : once_if_closed (statement_at new m) ≡ once_if_closed (statement_at slots m) = ap once_if_closed (changes.others m apart) in
            omega (arith, times_other m number closing apart, listed.listed m)
      ];
      counted = omega (arith, more, listed.counted, length-append closing (number ∷ []));
    }

-- there is room to list an open statement as closed
pub room_for : (slots : Slots) (closing : List ℕ) (number : ℕ) (was : Prepared) → AreListed slots closing → statement_at slots number ≡ Some was → was.closed ≡ false → length closing < count slots
room_for slots closing number was listed found open_ =
    let at : get_or slots.entries (number - 1) None ≡ Some was = sym (value_at slots number (some_number number slots was found)) ∙ found in
    omega (arith, fewer_closed slots.entries (number - 1) was at open_, listed.counted)

-- ---- what keeps the numbers

pub vacant_still : (old new : Slots) (number m : ℕ) (entry : Option Prepared) → Changes old new number entry → length old.entries ≤ length new.entries → m ≢ number → IsVacant old m → IsVacant new m
vacant_still old new number m entry changes longer apart vacant =
    record { some = vacant.some; within = omega (arith, vacant.within); free = changes.others m apart ∙ vacant.free }

-- another statement in the place of one
pub given_set : (slots : Slots) (number : ℕ) (was statement : Prepared) → AreGivenOut slots → statement_at slots number ≡ Some was → AreGivenOut (with_statement slots number (Some statement))
given_set slots number was statement given found =
    let some = some_number number slots was found in
    let within = found_within number slots was found in
    let changes = changes_set slots number (Some statement) slots.freed some within in
    let size = length-set slots.entries (number - 1) (Some statement) in
    record {
      vacant = λ m times_m.
          let vacant = given.vacant m times_m in
          vacant_still slots _ number m (Some statement) changes (omega (arith, size)) (λ (e : m ≡ number). absurd (cc (found, vacant.free, ap (statement_at slots) e))) vacant;
      once = given.once;
      counted = omega (arith, size, given.counted, count_set slots number (Some statement) some within, one_of (statement_at slots number) was found);
      few = omega (arith, size, given.few);
    }

-- ---- leaving

pub not_there : (number : ℕ) (slots : Slots) → statement_at slots number ≡ None → without_statement number slots ≡ slots
not_there number slots none = rw none refl

pub taken_out : (number : ℕ) (slots : Slots) (was : Prepared) → statement_at slots number ≡ Some was → without_statement number slots ≡ set_in slots number None (slots.freed ++ number ∷ [])
taken_out number slots was found = rw found refl

pub changes_out : (number : ℕ) (slots : Slots) (was : Prepared) → statement_at slots number ≡ Some was → Changes slots (set_in slots number None (slots.freed ++ number ∷ [])) number None
changes_out number slots was found = changes_set slots number None (slots.freed ++ number ∷ []) (some_number number slots was found) (found_within number slots was found)

-- one that isn't closed leaves
pub listed_out : (number : ℕ) (slots : Slots) (closing : List ℕ) → AreListed slots closing → is_closed (statement_at slots number) ≡ false → AreListed (without_statement number slots) closing
listed_out number slots closing listed open_ = by (statement_at slots number) refl
  where
    by : (found : Option Prepared) → statement_at slots number ≡ found → AreListed (without_statement number slots) closing
    by None none = subst (λ (s : Slots). AreListed s closing) (sym (not_there number slots none)) listed
    by (Some was) found =
        subst (λ (s : Slots). AreListed s closing) (sym (taken_out number slots was found))
        (listed_if slots (set_in slots number None (slots.freed ++ number ∷ [])) closing number None listed (changes_out number slots was found) tt (sym open_))

given_taken : (number : ℕ) (slots : Slots) (was : Prepared) → AreGivenOut slots → statement_at slots number ≡ Some was → AreGivenOut (set_in slots number None (slots.freed ++ number ∷ []))
given_taken number slots was given found =
    let new : Slots = set_in slots number None (slots.freed ++ number ∷ []) in
    let some = some_number number slots was found in
    let within = found_within number slots was found in
    let changes = changes_out number slots was found in
    let size = length-set slots.entries (number - 1) None in
    record {
      vacant = λ m times_m. elim (cases_eq m number) [
        | inl is ↦ record { some = omega (arith, is, some); within = omega (arith, is, within, size); free = ap (statement_at new) is ∙ changes.here }
        | inr apart ↦ vacant_still slots new number m None changes (omega (arith, size)) apart (given.vacant m (omega (arith, times_m, times_other m number slots.freed apart)))
      ];
      once = λ m. elim (cases_eq m number) [
        | inl is ↦ subst (λ (n : ℕ). times n (slots.freed ++ number ∷ []) ≤ 1) (sym is) (omega (arith, times_same number slots.freed, never number slots was given found))
        | inr apart ↦ omega (arith, times_other m number slots.freed apart, given.once m)
      ];
      counted = omega (arith, size, given.counted, length-append slots.freed (number ∷ []), count_set slots number None some within, one_of (statement_at slots number) was found);
      few = omega (arith, size, given.few);
    }
  where
    -- the number of a statement wasn't given back
    never : (number : ℕ) (slots : Slots) (was : Prepared) → AreGivenOut slots → statement_at slots number ≡ Some was → times number slots.freed ≡ 0
    never number slots was given found = by (times number slots.freed) refl
      where
        by : (n : ℕ) → times number slots.freed ≡ n → times number slots.freed ≡ 0
        by zero e = e
        by (suc n) e = absurd (cc (found, (given.vacant number (omega (arith, e))).free))

pub given_out_of : (number : ℕ) (slots : Slots) → AreGivenOut slots → AreGivenOut (without_statement number slots)
given_out_of number slots given = by (statement_at slots number) refl
  where
    by : (found : Option Prepared) → statement_at slots number ≡ found → AreGivenOut (without_statement number slots)
    by None none = subst (λ (s : Slots). AreGivenOut s) (sym (not_there number slots none)) given
    by (Some was) found = subst (λ (s : Slots). AreGivenOut s) (sym (taken_out number slots was found)) (given_taken number slots was given found)

pub given_all : (numbers : List ℕ) (slots : Slots) → AreGivenOut slots → AreGivenOut (without_all numbers slots)
given_all [] slots given = given
given_all (number ∷ numbers) slots given = given_all numbers (without_statement number slots) (given_out_of number slots given)
