-- Numbers that every server reads alike, and texts that no rule looks at.
use Rattle.std.specs.Prelude.{ℕ, Bool, true, false, not, ◌&&◌, ◌||◌, ◌==◌, if◌then◌else◌, is_some, List, [], ◌∷◌}
use Rattle.std.specs.List.{list_all}
use Rattle.std.specs.Char.{is_ascii_digit, is_ascii_hexdigit}
use Rattle.rws_token.specs.declared.token.TokenKind.TheVariants.{Number, Exec}
use Rattle.rws_words.specs.Lists.{is_empty}
use Rattle.rws_token.specs.Lexeme.{Lexeme, is_kind, is_symbol}
use Rattle.rws_words.specs.Places.{Place, is_next, opens}

abbrev pub is_binary : ℕ → Bool
is_binary b = b == 48 || b == 49

-- behind the letter of an exponent: digits, or nothing where a sign follows the number
abbrev pub is_power : Bool → List ℕ → Bool
is_power signed [] = signed
is_power signed (b ∷ bs) = list_all is_ascii_digit (b ∷ bs)

-- an exponent, or nothing
abbrev pub is_exponent : Bool → List ℕ → Bool
is_exponent signed [] = true
is_exponent signed (b ∷ bs) = (b == 101 || b == 69) && is_power signed bs

-- digits with at most one dot, if it is still to come, and an exponent
abbrev pub is_decimal : Bool → Bool → List ℕ → Bool
is_decimal signed dot [] = true
is_decimal signed dot (b ∷ bs) =
    if is_ascii_digit b then is_decimal signed dot bs
    else (if b == 46 && dot then is_decimal signed false bs else is_exponent signed (b ∷ bs))

-- behind a 0: `x` with hexadecimal digits, `b` with binary ones
abbrev pub is_radix : List ℕ → Bool
is_radix [] = false
is_radix (b ∷ bs) =
    not (is_empty bs) && ((b == 120 && list_all is_ascii_hexdigit bs) || (b == 98 && list_all is_binary bs))

abbrev pub is_prefixed : List ℕ → Bool
is_prefixed [] = false
is_prefixed (b ∷ bs) = b == 48 && is_radix bs

abbrev pub is_sign : Lexeme → Bool
is_sign t = is_symbol 43 t || is_symbol 45 t

abbrev pub is_plain : Bool → List ℕ → Bool
is_plain signed bs = is_decimal signed true bs || is_prefixed bs

-- a number that isn't plain, or that a parenthesis follows
abbrev pub is_odd_number : Place → Bool
is_odd_number p = is_kind p.this.kind Number && (not (is_plain (is_next is_sign p) p.this.bytes) || opens p)

-- a comment that servers execute, a semicolon that isn't the last token, an odd number
abbrev pub is_unfit : Place → Bool
is_unfit p =
    (is_kind p.this.kind Exec || (is_symbol 59 p.this && is_some p.next)) || is_odd_number p
