-- What is read as a GTID is spelled so, and what is spelled so is read.
use Rattle.std.proofs.Common.{◌≡◌, ◌==◌, ℕ, zero, suc, ◌+◌, ◌-◌, ◌^◌, ◌<◌, ◌≤◌, Bool, true, false, cond, not, List, [], ◌∷◌, ◌++◌, length, take, drop, get_or, refl, sym, ap, ◌∙◌, subst, arith, Result, Ok, Err, IfOk, one-add, nat_le, append-nil}
use Rattle.std.specs.List.{before_first, position_or_len}
use Rattle.std.specs.Char.{digit_value, is_ascii_digit}
use Rattle.std.specs.Str.Parse.{digits_value, AllDigits}
use Rattle.std.specs.Fmt.{decimal}
use Rattle.std.proofs.lemmas.Str.Parse.{digit_from_value, numerals_by_value, tells_digits, IsNumeralModel}
use Rattle.std.proofs.lemmas.Fmt.{decimal_is_IsNumeral, decimal-digits_value, decimal_digit, first_decimal}
use Rattle.std.proofs.Math.Dec.{eqb-suc-zero}
use Rattle.std.proofs.lemmas.Bool.Decides.{nat_tests}
use Rattle.rws_wire.proofs.ReadingLemmas.{bind_ok, done, ok_is}
use Rattle.rws_gtid.specs.declared.Gtid.{Gtid}
use Rattle.rws_gtid.specs.declared.GtidFault.{GtidFault}
use Rattle.rws_gtid.specs.declared.GtidFault.TheVariants.{NotAGtid, TooBig}
use Rattle.rws_gtid.specs.Spelling.{IsInRange, gtid_text}
use Rattle.rws_gtid.specs.Parsing.{Rest, behind, digits_of, number_at, dash_at, gtid_at}
use Rattle.rws_gtid.proofs.DigitLemmas.{digits_in_run}

abbrev other : ℕ → Bool
other c = not (is_ascii_digit c)

own : IsNumeralModel (AllDigits 10) (digits_value 10)
own = numerals_by_value (AllDigits 10) tells_digits

-- ---- digits, cut from what follows

take_drop : (k : ℕ) (xs : List ℕ) → take k xs ++ drop (length (take k xs)) xs ≡ xs
take_drop zero xs = refl
take_drop (suc k) [] = refl
take_drop (suc k) (x ∷ xs) = ap (λ (ys : List ℕ). x ∷ ys) (take_drop k xs)

digits_split : (bs : List ℕ) → digits_of bs ++ drop (length (digits_of bs)) bs ≡ bs
digits_split [] = refl
digits_split (b ∷ bs) = by (b == 48)
  where
    by : (zero_ : Bool) → cond zero_ (b ∷ []) (before_first other (b ∷ bs)) ++ drop (length (cond zero_ (b ∷ []) (before_first other (b ∷ bs)))) (b ∷ bs) ≡ b ∷ bs
    by true = refl
    by false = take_drop (position_or_len other (b ∷ bs)) (b ∷ bs)

all_digits : (bs : List ℕ) → AllDigits 10 (digits_of bs)
all_digits [] = tt
all_digits (b ∷ bs) = by (b == 48) refl
  where
    by : (zero_ : Bool) → (b == 48) ≡ zero_ → AllDigits 10 (cond zero_ (b ∷ []) (before_first other (b ∷ bs)))
    by true e = let zero_ : b ≡ 48 = grind (arith, nat_tests) in (rw zero_ (omega arith), tt)
    by false e = digits_in_run (b ∷ bs)

-- no number but 0 begins with a 0
abbrev OneZero : List ℕ → Type 0
OneZero ds = get_or ds 0 0 ≡ 48 → length ds ≡ 1

one_zero : (bs : List ℕ) → OneZero (digits_of bs)
one_zero [] h = absurd (omega arith)
one_zero (b ∷ bs) h = by (b == 48) refl h
  where
    run : (k : ℕ) → (b == 48) ≡ false → OneZero (take k (b ∷ bs))
    run zero e h = absurd (omega arith)
    run (suc k) e h = absurd (let zero_ : (b == 48) ≡ true = grind (arith, nat_tests) in cc)

    by : (zero_ : Bool) → (b == 48) ≡ zero_ → OneZero (cond zero_ (b ∷ []) (before_first other (b ∷ bs)))
    by true e h = refl
    by false e h = run (position_or_len other (b ∷ bs)) e h

-- what follows begins with no digit
abbrev pub NoDigit : List ℕ → Type 0
NoDigit [] = Unit {0}
NoDigit (b ∷ bs) = is_ascii_digit b ≡ false

is_digit : (c : ℕ) → digit_value c < 10 → is_ascii_digit c ≡ true
is_digit c h = let range = digit_from_value c h in grind (arith, nat_tests)

run_again : (ds rest : List ℕ) → AllDigits 10 ds → NoDigit rest → before_first other (ds ++ rest) ≡ ds
run_again [] [] all none = refl
run_again [] (b ∷ bs) all none = rw none refl
run_again (d ∷ ds) rest all none = rw (is_digit d all.0, one-add) (ap (λ (xs : List ℕ). d ∷ xs) (run_again ds rest all.1 none))

digits_again : (ds rest : List ℕ) → 0 < length ds → AllDigits 10 ds → OneZero ds → NoDigit rest → digits_of (ds ++ rest) ≡ ds
digits_again [] rest some_ all one none = absurd (omega arith)
digits_again (d ∷ ds) rest some_ all one none = by (d == 48) refl
  where
    alone : (ds : List ℕ) → length ds ≡ 0 → d ∷ [] ≡ d ∷ ds
    alone [] e = refl
    alone (x ∷ xs) e = absurd (omega arith)

    by : (zero_ : Bool) → (d == 48) ≡ zero_ → cond zero_ (d ∷ []) (before_first other (d ∷ (ds ++ rest))) ≡ d ∷ ds
    by true e = alone ds (let h = one (grind (arith, nat_tests)) in omega arith)
    by false e = run_again (d ∷ ds) rest all none

-- ---- numbers

is_at_most : (n most : ℕ) → nat_le n most ≡ true → n ≤ most
is_at_most n most e = grind (arith, nat_tests)

at_most : (n most : ℕ) → n ≤ most → nat_le n most ≡ true
at_most n most h = grind (arith, nat_tests)

is_some_length : (n : ℕ) → (n == 0) ≡ false → 0 < n
is_some_length n e = grind (arith, nat_tests)

pub not_zero : (n : ℕ) → 0 < n → (n == 0) ≡ false
not_zero n h = grind (arith, nat_tests)

-- the number n was taken from the front
pub record Takes (most : ℕ) (from : Rest) (n : ℕ) (to : Rest) : Type 0 where
  pub text : from.1 ≡ decimal n ++ to.1
  pub small : n ≤ most

pub number_takes : (most : ℕ) (from : Rest) (n : ℕ) (to : Rest) → most < 2 ^ 64 → number_at most from ≡ Ok (n, to) → Takes most from n to
unfolding number_at
number_takes most from n to fits e = none (length (digits_of from.1) == 0) refl e
  where
    value : ℕ
    value = digits_value 10 (digits_of from.1)

    fine : 0 < length (digits_of from.1) → (test : Bool) → nat_le value most ≡ test → cond {A = Result (ℕ × Rest) GtidFault} test (Ok (value, behind (length (digits_of from.1)) from)) (Err (TooBig from.0)) ≡ Ok (n, to) → Takes most from n to
    fine some_ true e f =
        let same = ok_is (value, behind (length (digits_of from.1)) from) (n, to) f in
        let small = is_at_most value most e in
        subst (λ (x : ℕ × Rest). Takes most from x.0 x.1) same (record {
          text = sym (ap (λ (ds : List ℕ). ds ++ drop (length (digits_of from.1)) from.1) (decimal-digits_value own (digits_of from.1) (all_digits from.1) some_ (one_zero from.1) (omega arith)) ∙ digits_split from.1);
          small = small;
        })
    fine some_ false e f = absurd cc

    none : (test : Bool) → (length (digits_of from.1) == 0) ≡ test → cond {A = Result (ℕ × Rest) GtidFault} test (Err (NotAGtid from.0)) (cond (nat_le value most) (Ok (value, behind (length (digits_of from.1)) from)) (Err (TooBig from.0))) ≡ Ok (n, to) → Takes most from n to
    none true e f = absurd cc
    none false e f = fine (is_some_length _ e) (nat_le value most) refl f

decimal_one_zero : (n : ℕ) → n < 2 ^ 64 → OneZero (decimal n)
decimal_one_zero n fits h = by (n == 0) refl
  where
    by : (zero_ : Bool) → (n == 0) ≡ zero_ → length (decimal n) ≡ 1
    by true e = let none : n ≡ 0 = grind (arith, nat_tests) in rw (decimal_digit n (omega arith)) refl
    by false e = absurd (omega (arith, first_decimal n (is_some_length n e) fits))

pub number_again : (most at n : ℕ) (rest : List ℕ) → most < 2 ^ 64 → n ≤ most → NoDigit rest → number_at most (at, decimal n ++ rest) ≡ Ok (n, (at + length (decimal n), rest))
unfolding number_at
number_again most at n rest fits small none =
    let numeral = decimal_is_IsNumeral n (omega arith) in
    rw (digits_again (decimal n) rest numeral.0.0 numeral.0.1 (decimal_one_zero n (omega arith)) none, not_zero (length (decimal n)) numeral.0.0, numeral.1, at_most n most small) (ap (λ (r : List ℕ). Ok (n, (at + length (decimal n), r))) (drop_front (decimal n) rest))
  where
    drop_front : (xs ys : List ℕ) → drop (length xs) (xs ++ ys) ≡ ys
    drop_front [] ys = refl
    drop_front (x ∷ xs) ys = drop_front xs ys

-- ---- dashes and whole GTIDs

dash_takes : (at : ℕ) (bytes : List ℕ) (to : Rest) → dash_at (at, bytes) ≡ Ok to → bytes ≡ 45 ∷ to.1
unfolding dash_at
dash_takes at [] to e = absurd cc
dash_takes at (b ∷ bs) to e = by (b == 45) refl e
  where
    by : (test : Bool) → (b == 45) ≡ test → cond {A = Result Rest GtidFault} test (Ok (at + 1, bs)) (Err (NotAGtid at)) ≡ Ok to → b ∷ bs ≡ 45 ∷ to.1
    by true f e =
        let same : b ≡ 45 = grind (arith, nat_tests) in
        let rest = ok_is (at + 1, bs) to e in
        ap (λ (c : ℕ). c ∷ bs) same ∙ ap (λ (r : Rest). 45 ∷ r.1) rest
    by false f e = absurd cc

-- the text ends here, and the numbers are those of the GTID
ends_as : (made gtid : Gtid) (bytes : List ℕ) (at : ℕ) → cond (length bytes == 0) (done made) (Err (NotAGtid at)) ≡ Ok gtid → (made ≡ gtid) × (bytes ≡ [])
ends_as made gtid [] at e = (ok_is made gtid e, refl)
ends_as made gtid (b ∷ bs) at e = absurd (let none = rw eqb-suc-zero at e in cc)

narrow_fits : 2 ^ 32 - 1 < 2 ^ 64
narrow_fits = omega arith

wide_fits : 2 ^ 64 - 1 < 2 ^ 64
wide_fits = omega arith

pub gtid_takes : (text : Rest) (gtid : Gtid) → gtid_at text ≡ Ok gtid → IsInRange gtid × (text.1 ≡ gtid_text gtid)
unfolding gtid_at
gtid_takes text gtid e =
    let domain = bind_ok _ _ gtid e in
    let first = bind_ok _ _ gtid domain.2 in
    let server = bind_ok _ _ gtid first.2 in
    let second = bind_ok _ _ gtid server.2 in
    let sequence = bind_ok _ _ gtid second.2 in
    let ended = ends_as _ gtid _ _ sequence.2 in
    let takes_domain = number_takes (2 ^ 32 - 1) text domain.0.0 domain.0.1 narrow_fits domain.1 in
    let takes_server = number_takes (2 ^ 32 - 1) first.0 server.0.0 server.0.1 narrow_fits server.1 in
    let takes_sequence = number_takes (2 ^ 64 - 1) second.0 sequence.0.0 sequence.0.1 wide_fits sequence.1 in
    subst (λ (g : Gtid). IsInRange g × (text.1 ≡ gtid_text g)) ended.0 (
      record { domain = omega (arith, takes_domain.small); server = omega (arith, takes_server.small); sequence = omega (arith, takes_sequence.small) },
      takes_domain.text ∙ ap (λ (r : List ℕ). decimal domain.0.0 ++ r) (dash_takes _ _ first.0 first.1 ∙ ap (λ (r : List ℕ). 45 ∷ r) (takes_server.text
          ∙ ap (λ (r : List ℕ). decimal server.0.0 ++ r) (dash_takes _ _ second.0 second.1 ∙ ap (λ (r : List ℕ). 45 ∷ r) (takes_sequence.text
          ∙ ap (λ (r : List ℕ). decimal sequence.0.0 ++ r) ended.1 ∙ append-nil (decimal sequence.0.0))))),
    )

number_end : (most at n : ℕ) → most < 2 ^ 64 → n ≤ most → number_at most (at, decimal n) ≡ Ok (n, (at + length (decimal n), []))
number_end most at n fits small = rw append-nil at (number_again most at n [] fits small tt)

pub gtid_again : (at : ℕ) (gtid : Gtid) → IsInRange gtid → gtid_at (at, gtid_text gtid) ≡ Ok gtid
unfolding gtid_at dash_at
gtid_again at gtid fits =
    rw (
      number_again (2 ^ 32 - 1) at gtid.domain _ (omega arith) (omega (arith, fits.domain)) refl,
      number_again (2 ^ 32 - 1) _ gtid.server _ (omega arith) (omega (arith, fits.server)) refl,
      number_end (2 ^ 64 - 1) _ gtid.sequence (omega arith) (omega (arith, fits.sequence)),
    ) refl

pub spelled_if_ok : (text : List ℕ) (r : Result Gtid GtidFault) → r ≡ gtid_at (0, text) → IfOk r (λ gtid. IsInRange gtid × (text ≡ gtid_text gtid))
spelled_if_ok text (Ok gtid) e = gtid_takes (0, text) gtid (sym e)
spelled_if_ok text (Err fault) e = tt
