-- Numbers in decimal digits, as `parse` reads them and as a line of a trace writes them.
use Rattle.std.proofs.Common.{◌≡◌, ℕ, ◌-◌, ◌^◌, ◌<◌, ◌≤◌, Bool, true, false, ◌&&◌, List, [], ◌∷◌, length, Result, Ok, Err, OkIff, arith, rules}
use Rattle.std.specs.Char.{is_ascii_digit}
use Rattle.std.specs.List.{list_all}
use Rattle.std.specs.Result.{result_ok}
use Rattle.std.specs.Str.{IsAscii}
use Rattle.std.specs.Str.Parse.{digits_value, ParsesUnsigned}
use Rattle.std.proofs.lemmas.Bool.Decides.{nat_tests}
use Rattle.std.proofs.lemmas.Fmt.{IsAscii-from_digits}
use Rattle.std.proofs.lemmas.Str.Parse.{IsNumeralModel, numerals_by_value, parse_digits}
use Rattle.rws_trace.specs.EventLine.{is_number, number_within}

-- these are the numerals of std
pub digits_own : IsNumeralModel (λ ds. list_all is_ascii_digit ds ≡ true) (digits_value 10)
digits_own = numerals_by_value (λ ds. list_all is_ascii_digit ds ≡ true) (search rules)

right : (a b : Bool) → (a && b) ≡ true → b ≡ true
right true b both = both
right false b both = cc

-- a number has digits alone, one or more
pub is_number-digits : (word : List ℕ) → is_number word ≡ true → (list_all is_ascii_digit word ≡ true) × (0 < length word)
is_number-digits [] number = cc
is_number-digits (digit ∷ word) number = (right _ _ number, omega arith)

pub is_number-ascii : (word : List ℕ) → is_number word ≡ true → IsAscii word
is_number-ascii word number = IsAscii-from_digits word (digits_own.to word (is_number-digits word number).0)

-- what `parse` gives for a number
pub number_within-parsed : {E : Type 0} (word : List ℕ) (r : Result ℕ E) → is_number word ≡ true → OkIff r ((0 < length word) × (digits_value 10 word < 2 ^ 64)) (digits_value 10 word) → result_ok r ≡ number_within 0 (2 ^ 64 - 1) word
number_within-parsed word (Ok x) number read = grind (arith, nat_tests)
number_within-parsed word (Err e) number read =
    let some = (is_number-digits word number).1 in
    let value = digits_value 10 word in
    let not_small : value < 2 ^ 64 → ⊥ = λ small. read (some, small) in
    let great : 2 ^ 64 ≤ value = omega (arith, not_small) in
    grind (arith, nat_tests)

pub number_within-parse : {E : Type 0} (word : List ℕ) (r : Result ℕ E) → is_number word ≡ true → ParsesUnsigned 64 10 word r → result_ok r ≡ number_within 0 (2 ^ 64 - 1) word
number_within-parse word r number parsed =
    number_within-parsed word r number (parse_digits digits_own 64 word r parsed (is_number-digits word number).0)
