-- A token with its bytes, and the tests that rules make of it. Words are compared without regard to the case of
-- ASCII letters.
use Rattle.std.specs.Prelude.{ℕ, Bool, true, false, ◌&&◌, ◌==◌, ◌-◌, List, [], ◌∷◌, length, map, slice_range}
use Rattle.std.specs.Str.{bytes_eq}
use Rattle.std.specs.Char.{to_ascii_lowercase}
use Rattle.rws_token.specs.declared.token.TokenKind.{TokenKind}
use Rattle.rws_token.specs.declared.token.TokenKind.TheVariants.{Word, Number, Str, Quoted, UserVar, SysVar, Assign, Symbol, Exec}
use Rattle.rws_token.specs.declared.lexeme as declared

pub record Lexeme : Type 0 where
  pub kind : TokenKind
  pub bytes : List ℕ

abbrev pub lexeme_of : declared.Lexeme.Lexeme → Lexeme
lexeme_of l = record { kind = l.kind; bytes = l.bytes.now }

abbrev pub is_kind : TokenKind → TokenKind → Bool
is_kind Word Word = true
is_kind Number Number = true
is_kind Str Str = true
is_kind Quoted Quoted = true
is_kind UserVar UserVar = true
is_kind SysVar SysVar = true
is_kind Assign Assign = true
is_kind Symbol Symbol = true
is_kind Exec Exec = true
is_kind _ _ = false

-- two texts but for the case of ASCII letters
unfoldable pub same_word : List ℕ → List ℕ → Bool
same_word word text = bytes_eq (map to_ascii_lowercase word) (map to_ascii_lowercase text)

-- the word itself
abbrev pub is_word : List ℕ → Lexeme → Bool
is_word text t = is_kind t.kind Word && same_word t.bytes text

abbrev pub is_byte : ℕ → List ℕ → Bool
is_byte byte (b ∷ []) = b == byte
is_byte byte _ = false

abbrev pub is_symbol : ℕ → Lexeme → Bool
is_symbol byte t = is_kind t.kind Symbol && is_byte byte t.bytes

-- a quoted name, or a string, without its quotes
abbrev pub unquoted : List ℕ → List ℕ
unquoted bytes = slice_range bytes 1 (length bytes - 1)
