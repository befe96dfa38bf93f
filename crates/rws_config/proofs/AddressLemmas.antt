-- Addresses: what the program reads as one is one, and the other way round.
use Rattle.std.proofs.Common.{◌≡◌, ◌==◌, ℕ, zero, suc, ◌^◌, ◌<◌, ◌≤◌, ◌&&◌, ◌||◌, not, nat_le, Bool, true, false, List, [], ◌∷◌, ◌++◌, length, get_or, Result, is_ok, refl, sym, ap, ◌∙◌, subst, arith, slice_index, add-one, one-add}
use Rattle.std.specs.Fmt.{decimal}
use Rattle.std.specs.List.{after_first, list_any}
use Rattle.std.specs.Str.{all_ascii_digits}
use Rattle.std.specs.Str.Parse.{AllDigits, digits_value, ParsesUnsigned}
use Rattle.std.proofs.lemmas.Str.Parse.{digit_from_value, tells_all_ascii_digits, numerals_by_value, parse_plain, IsNumeralModel}
use Rattle.std.proofs.lemmas.Result.{OkIff-decides}
use Rattle.std.proofs.lemmas.Fmt.{decimal-digits_value, decimal_digit, decimal_is_IsNumeral, first_decimal}
use Rattle.std.proofs.lemmas.Bool.{and_parts, not-true}
use Rattle.std.proofs.lemmas.Bool.Decides.{nat_tests}
use Rattle.rws_config.specs.Address.{IsAddress, is_address, is_port}

own : IsNumeralModel (λ ds. all_ascii_digits ds ≡ true) (digits_value 10)
own = numerals_by_value (λ ds. all_ascii_digits ds ≡ true) tells_all_ascii_digits

small : (v : ℕ) → v ≤ 65535 → nat_le v 65535 ≡ true
small v h = grind (arith, nat_tests)

large : (v : ℕ) → (v ≤ 65535 → false ≡ true) → nat_le v 65535 ≡ false
large v h = grind (arith, nat_tests, h)

decided : (b p : Bool) (v : ℕ) → (b ≡ true → (p ≡ true) × (v ≤ 65535)) → (p ≡ true → v ≤ 65535 → b ≡ true) → b ≡ (p && nat_le v 65535)
decided true p v f g = let h = f refl in rw (h.0, small v h.1) refl
decided false false v f g = refl
decided false true v f g = rw (large v (g refl)) refl

or_false : (a b : Bool) → (a || b) ≡ false → (a ≡ false) × (b ≡ false)
or_false false b e = (refl, e)
or_false true b e = cc

at_most : (n m : ℕ) → nat_le n m ≡ true → n ≤ m
at_most n m e = grind (arith, nat_tests)

positive : (n : ℕ) → (n ≡ 0 → ⊥) → 1 ≤ n
positive zero none = absurd (none refl)
positive (suc n) none = omega arith

pub is_port_parsed : {E : Type 0} (text : List ℕ) (r : Result ℕ E) → ParsesUnsigned 16 10 text r → 49 ≤ slice_index text 0 → slice_index text 0 ≤ 57 → is_ok r ≡ is_port text
is_port_parsed [] r parsed low high = absurd (omega arith)
is_port_parsed (c ∷ cs) r parsed low high =
    let iff = parse_plain own 16 (c ∷ cs) r parsed (omega arith) in
    let d = OkIff-decides r _ _ iff in
    let big : nat_le 49 c ≡ true = grind (arith, nat_tests) in
    rw big (decided (is_ok r) (all_ascii_digits (c ∷ cs)) (digits_value 10 (c ∷ cs))
    (λ e. let p = d.0 e in (p.0, omega (arith, p.2)))
    (λ e few. d.1 (e, omega arith, omega (arith, few))))

-- ---- what is read as an address is one

abbrev is_space : ℕ → Bool
is_space byte = byte == 32

abbrev is_colon : ℕ → Bool
is_colon byte = byte == 58

abbrev is_either : ℕ → Bool
is_either byte = is_space byte || is_colon byte

-- a text with a port behind its first colon
abbrev IsCut : List ℕ → Type 0
IsCut text = (host : List ℕ) × (text ≡ host ++ (58 ∷ after_first is_colon text)) × (list_any is_either host ≡ false)

skips : (byte : ℕ) (bytes : List ℕ) → is_colon byte ≡ false → after_first is_colon (byte ∷ bytes) ≡ after_first is_colon bytes
skips byte bytes e = rw (e, one-add, add-one, add-one) refl

neither : (a b c : Bool) → a ≡ false → b ≡ false → c ≡ false → ((a || b) || c) ≡ false
neither a b c first second third = rw (first, second, third) refl

cut : (text : List ℕ) → list_any is_space text ≡ false → is_port (after_first is_colon text) ≡ true → IsCut text
cut [] plain port = cc
cut (byte ∷ bytes) plain port =
    let parts = or_false (is_space byte) (list_any is_space bytes) plain in
    by parts.0 (λ behind. cut bytes parts.1 behind) (is_colon byte) refl
  where
    by : is_space byte ≡ false → (is_port (after_first is_colon bytes) ≡ true → IsCut bytes) → (colon : Bool) → is_colon byte ≡ colon → IsCut (byte ∷ bytes)
    by space others true e = let here : byte ≡ 58 = grind (arith, nat_tests) in ([], rw (e, here) refl, refl)
    by space others false e =
        let behind = skips byte bytes e in
        let rest = others (subst (λ (t : List ℕ). is_port t ≡ true) behind port) in
        (byte ∷ rest.0, ap (λ (t : List ℕ). byte ∷ t) (rest.1 ∙ ap (λ (t : List ℕ). rest.0 ++ (58 ∷ t)) (sym behind)), neither (is_space byte) (is_colon byte) (list_any is_either rest.0) space e rest.2)

record IsPort (digits : List ℕ) : Type 0 where
  first : 49 ≤ get_or digits 0 0
  plain : all_ascii_digits digits ≡ true
  small : digits_value 10 digits ≤ 65535

port_read : (digits : List ℕ) → is_port digits ≡ true → IsPort digits
port_read digits e =
    let parts = and_parts (nat_le 49 (slice_index digits 0) && all_ascii_digits digits) (nat_le (digits_value 10 digits) 65535) e in
    let front = and_parts (nat_le 49 (slice_index digits 0)) (all_ascii_digits digits) parts.0 in
    record { first = at_most 49 _ front.0; plain = front.1; small = at_most _ 65535 parts.1 }

some_digits : (digits : List ℕ) → 49 ≤ get_or digits 0 0 → 0 < length digits
some_digits [] h = absurd (omega arith)
some_digits (digit ∷ digits) h = omega arith

port_spelled : (digits : List ℕ) → IsPort digits → decimal (digits_value 10 digits) ≡ digits
port_spelled digits port =
    let few : digits_value 10 digits < 2 ^ 64 = omega (arith, port.small) in
    decimal-digits_value own digits port.plain (some_digits digits port.first) (λ zero_. absurd (omega (arith, port.first, zero_))) few

no_zero_port : (digits : List ℕ) → IsPort digits → digits_value 10 digits ≡ 0 → 49 ≤ 48
no_zero_port digits port none =
    let zero_text : 48 ∷ [] ≡ digits = sym (decimal_digit 0 (omega arith)) ∙ ap decimal (sym none) ∙ port_spelled digits port in
    subst (λ (t : List ℕ). 49 ≤ get_or t 0 0) (sym zero_text) port.first

pub address_is : (text : List ℕ) → is_address text ≡ true → IsAddress text
address_is text e =
    let parts = and_parts (not (list_any is_space text)) (is_port (after_first is_colon text)) e in
    let found = cut text (not-true _ parts.0) parts.1 in
    let digits : List ℕ = after_first is_colon text in
    let port = port_read digits parts.1 in
    let none = no_zero_port digits port in
    record {
      host = found.0;
      port = digits_value 10 digits;
      spelled = found.1 ∙ ap (λ (t : List ℕ). found.0 ++ (58 ∷ t)) (sym (port_spelled digits port));
      plain = found.2;
      least = positive (digits_value 10 digits) (λ zero_. omega (arith, none zero_));
      most = port.small;
    }

-- ---- what is an address is read as one

true_as : (n m : ℕ) → n ≤ m → nat_le n m ≡ true
true_as n m h = grind (arith, nat_tests)

all_three : (a b c : Bool) → a ≡ true → b ≡ true → c ≡ true → ((a && b) && c) ≡ true
all_three a b c first second third = rw (first, second, third) refl

-- neither a space nor a colon
plain_parts : (host : List ℕ) → list_any is_either host ≡ false → (list_any is_space host ≡ false) × (list_any is_colon host ≡ false)
plain_parts [] plain = (refl, refl)
plain_parts (byte ∷ bytes) plain =
    let parts = or_false (is_either byte) (list_any is_either bytes) plain in
    let here = or_false (is_space byte) (is_colon byte) parts.0 in
    let rest = plain_parts bytes parts.1 in
    (rw (here.0, rest.0) refl, rw (here.1, rest.1) refl)

no_space_in_digits : (digits : List ℕ) → AllDigits 10 digits → list_any is_space digits ≡ false
no_space_in_digits [] all = refl
no_space_in_digits (digit ∷ digits) all =
    let range = digit_from_value digit all.0 in
    let here : is_space digit ≡ false = grind (arith, nat_tests) in
    rw (here, no_space_in_digits digits all.1) refl

no_space_before_port : (host digits : List ℕ) → list_any is_space host ≡ false → list_any is_space digits ≡ false → list_any is_space (host ++ (58 ∷ digits)) ≡ false
no_space_before_port [] digits host none = rw none refl
no_space_before_port (byte ∷ bytes) digits host none =
    let parts = or_false (is_space byte) (list_any is_space bytes) host in
    rw (parts.0, no_space_before_port bytes digits parts.1 none) refl

behind_host : (host digits : List ℕ) → list_any is_colon host ≡ false → after_first is_colon (host ++ (58 ∷ digits)) ≡ digits
behind_host [] digits none = refl
behind_host (byte ∷ bytes) digits none =
    let parts = or_false (is_colon byte) (list_any is_colon bytes) none in
    skips byte (bytes ++ (58 ∷ digits)) parts.0 ∙ behind_host bytes digits parts.1

port_is_read : (port : ℕ) → 1 ≤ port → port ≤ 65535 → is_port (decimal port) ≡ true
port_is_read port least most =
    let few : port < 2 ^ 64 = omega arith in
    let numeral = decimal_is_IsNumeral port few in
    let first = first_decimal port (omega arith) few in
    all_three (nat_le 49 (slice_index (decimal port) 0)) (all_ascii_digits (decimal port)) (nat_le (digits_value 10 (decimal port)) 65535)
    (true_as 49 _ (omega (arith, first))) (own.from (decimal port) numeral.0.1) (true_as _ 65535 (omega (arith, numeral.1)))

spelled_is_read : (host : List ℕ) (port : ℕ) → list_any is_either host ≡ false → 1 ≤ port → port ≤ 65535 → is_address (host ++ (58 ∷ decimal port)) ≡ true
spelled_is_read host port plain least most =
    let parts = plain_parts host plain in
    let few : port < 2 ^ 64 = omega arith in
    let spaces = no_space_before_port host (decimal port) parts.0 (no_space_in_digits (decimal port) (decimal_is_IsNumeral port few).0.1) in
    rw (spaces, behind_host host (decimal port) parts.1, port_is_read port least most) refl

pub address_is_read : (text : List ℕ) → IsAddress text → is_address text ≡ true
address_is_read text a = subst (λ (t : List ℕ). is_address t ≡ true) (sym a.spelled) (spelled_is_read a.host a.port a.plain a.least a.most)
