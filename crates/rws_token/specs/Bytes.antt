-- The classes of bytes. A title in quotes is that of a page of MariaDB's documentation.
use Rattle.std.specs.Prelude.{ℕ, Bool, not, ◌&&◌, ◌||◌, nat_le, ◌==◌}
use Rattle.std.specs.Char.{is_ascii_digit, is_ascii_alphanumeric}

-- tab, line feed, vertical tab, form feed, carriage return, space
abbrev pub is_white : ℕ → Bool
is_white b = (nat_le 9 b && nat_le b 13) || b == 32

-- letters, digits, `_`, `$` and what isn't ASCII: a name without quotes ("Identifier Names")
abbrev pub is_word_byte : ℕ → Bool
is_word_byte b = is_ascii_alphanumeric b || (b == 95 || (b == 36 || nat_le 128 b))

abbrev pub is_word_start : ℕ → Bool
is_word_start b = is_word_byte b && not (is_ascii_digit b)

-- letters, digits, `_` and dots
abbrev pub is_number_byte : ℕ → Bool
is_number_byte b = is_ascii_alphanumeric b || (b == 95 || b == 46)

-- what the name of a user variable may hold without quotes ("User-Defined Variables")
abbrev pub is_variable_byte : ℕ → Bool
is_variable_byte b = is_word_byte b || b == 46

-- what follows the dashes of a comment: white space, a control character ("Comment Syntax")
abbrev pub ends_dashes : ℕ → Bool
ends_dashes b = nat_le b 32 || b == 127
