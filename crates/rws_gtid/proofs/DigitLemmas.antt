-- Digits that are read from left to right.
use Rattle.std.proofs.Common.{◌≡◌, ℕ, suc, ◌+◌, ◌*◌, ◌<◌, ◌≤◌, Bool, true, false, not, List, [], ◌∷◌, length, drop, get_or, refl, arith, None, drop-cons, one-add}
use Rattle.std.specs.List.{before_first}
use Rattle.std.specs.Int.{IsInRange}
use Rattle.std.specs.Char.{digit_value, is_ascii_digit}
use Rattle.std.specs.Str.Parse.{digits_value, digits_value_after, AllDigits}
use Rattle.std.proofs.lemmas.Str.{digit_value_digit}
use Rattle.std.proofs.lemmas.Bool.Decides.{nat_tests}
use Rattle.rws_gtid.specs.Parsing.{at_most}

-- after the first i digits, none of which took the number above the most
pub record Counted (digits : List ℕ) (i value most : ℕ) : Type 0 where
  pub all_digits : AllDigits 10 (drop i digits)
  pub whole : digits_value_after 10 value (drop i digits) ≡ digits_value 10 digits
  pub small : value ≤ most

pub digits_value_after_grows : (n : ℕ) (ds : List ℕ) → n ≤ digits_value_after 10 n ds
digits_value_after_grows n [] = omega arith
digits_value_after_grows n (d ∷ ds) = omega (arith, digits_value_after_grows (n * 10 + digit_value d) ds)

digit_in_range : (c : ℕ) → is_ascii_digit c ≡ true → IsInRange 48 57 c
digit_in_range c e = grind (arith, nat_tests)

digit_is_small : (c : ℕ) → is_ascii_digit c ≡ true → digit_value c < 10
digit_is_small c e = let in_range = digit_in_range c e in omega (arith, digit_value_digit c in_range)

pub digits_in_run : (bs : List ℕ) → AllDigits 10 (before_first (λ c. not (is_ascii_digit c)) bs)
digits_in_run [] = tt
digits_in_run (b ∷ bs) = digits_in_run_by b bs (is_ascii_digit b) refl (digits_in_run bs)
  where
    digits_in_run_by : (b : ℕ) (bs : List ℕ) (test : Bool) → is_ascii_digit b ≡ test → AllDigits 10 (before_first (λ c. not (is_ascii_digit c)) bs) → AllDigits 10 (before_first (λ c. not (is_ascii_digit c)) (b ∷ bs))
    digits_in_run_by b bs true e h = rw (e, one-add) (digit_is_small b e, h)
    digits_in_run_by b bs false e h = rw e tt

none_above : (most n : ℕ) → at_most most n ≡ None → most < n
none_above most n e = grind (arith, nat_tests)

above_none : (most n : ℕ) → most < n → at_most most n ≡ None
above_none most n h = grind (arith, nat_tests)

pub too_big : (digits : List ℕ) (i value most : ℕ) → Counted digits i value most → i < length digits → at_most most (value * 10 + digit_value (get_or digits i 0)) ≡ None → at_most most (digits_value 10 digits) ≡ None
too_big digits i value most counted inside none =
    let whole = rw (drop-cons digits i 0 inside) at counted.whole in
    above_none most _ (omega (arith, none_above most _ none, digits_value_after_grows (value * 10 + digit_value (get_or digits i 0)) (drop (suc i) digits), whole))
