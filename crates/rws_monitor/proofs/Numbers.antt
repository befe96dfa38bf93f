-- Numbers in plain digits, as `parse` reads them.
use Rattle.std.proofs.Common.{◌≡◌, ℕ, ◌^◌, ◌<◌, true, List, length, Result, Ok, Err, OkIff, arith, rules}
use Rattle.std.specs.Char.{is_ascii_digit}
use Rattle.std.specs.List.{list_all}
use Rattle.std.specs.Result.{result_ok}
use Rattle.std.specs.Str.{IsAscii}
use Rattle.std.specs.Str.Parse.{digits_value, ParsesUnsigned}
use Rattle.std.proofs.lemmas.Bool.Decides.{nat_tests}
use Rattle.std.proofs.lemmas.Fmt.{IsAscii-from_digits}
use Rattle.std.proofs.lemmas.Str.Parse.{IsNumeralModel, numerals_by_value, parse_digits}
use Rattle.rws_monitor.specs.Probes.{number_of}

-- these are the numerals of std
digits_own : IsNumeralModel (λ ds. list_all is_ascii_digit ds ≡ true) (digits_value 10)
digits_own = numerals_by_value (λ ds. list_all is_ascii_digit ds ≡ true) (search rules)

pub digits_ascii : (text : List ℕ) → list_all is_ascii_digit text ≡ true → IsAscii text
digits_ascii text digits = IsAscii-from_digits text (digits_own.to text digits)

parsed : {E : Type 0} (text : List ℕ) (r : Result ℕ E) → list_all is_ascii_digit text ≡ true → OkIff r ((0 < length text) × (digits_value 10 text < 2 ^ 32)) (digits_value 10 text) → result_ok r ≡ number_of text
parsed text (Ok x) digits read = grind (arith, nat_tests)
parsed text (Err e) digits read = grind (arith, nat_tests)

-- what `parse` gives for digits
pub number_of-parse : {E : Type 0} (text : List ℕ) (r : Result ℕ E) → list_all is_ascii_digit text ≡ true → ParsesUnsigned 32 10 text r → result_ok r ≡ number_of text
number_of-parse text r digits read = parsed text r digits (parse_digits digits_own 32 text r read digits)
