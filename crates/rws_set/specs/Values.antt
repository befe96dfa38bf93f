-- The values that SET may give a variable: all rules on values stand here.
use Rattle.std.specs.Prelude.{ℕ, Bool, not, ◌&&◌, ◌||◌, ◌==◌, if◌then◌else◌, List, [], ◌∷◌, codes, drop}
use Rattle.std.specs.List.{list_any, list_all, flat_map}
use Rattle.rws_token.specs.declared.token.TokenKind.TheVariants.{Word, Number, Str, SysVar, Assign}
use Rattle.rws_token.specs.Lexeme.{Lexeme, is_kind, same_word, is_word, is_symbol, unquoted}
use Rattle.rws_words.specs.Lists.{is_empty}
use Rattle.rws_words.specs.Words.{is_on, is_one_of, words, setting_names, character_sets}
use Rattle.rws_words.specs.Places.{Place, tokens_of, is_primary_call, is_foreign_call}
use Rattle.rws_set.specs.Targets.{without_scope}
use Rattle.rws_set.specs.Modes.{mode_words, holds_mode}
use Rattle.rws_set.specs.declared.target.Variable.{Variable}
use Rattle.rws_set.specs.declared.target.Variable.TheVariants as kinds
use Rattle.rws_set.specs.declared.effect.Effect.{Effect}
use Rattle.rws_set.specs.declared.effect.Effect.TheVariants.{Wrong, Plain, On, Off}

-- What no value may hold ------------------------------------------------------------------------------

-- a system variable that isn't one of the session's settings: an answer of a connection or of its server, or a
-- global value
abbrev pub is_no_setting : Lexeme → Bool
is_no_setting t = is_kind t.kind SysVar && not (is_on setting_names (without_scope (drop 2 t.bytes)))

-- it sets something itself, or isn't the session's own
abbrev pub names_beyond : Lexeme → Bool
names_beyond t = (is_kind t.kind Assign || is_one_of (words (codes "SELECT GLOBAL")) t) || is_no_setting t

-- it may be another value on another connection, or do more than give a value
abbrev pub is_beyond_session : Place → Bool
is_beyond_session p = (names_beyond p.this || is_primary_call p) || is_foreign_call p

-- AUTOCOMMIT ------------------------------------------------------------------------------------------

abbrev pub is_digit : List ℕ → Lexeme → Bool
is_digit digit t = is_kind t.kind Number && same_word t.bytes digit

abbrev pub switches_on : Lexeme → Bool
switches_on t = is_digit (codes "1") t || is_one_of (words (codes "ON TRUE")) t

abbrev pub switches_off : Lexeme → Bool
switches_off t = is_digit (codes "0") t || is_one_of (words (codes "OFF FALSE")) t

abbrev pub switch : Lexeme → Effect
switch t = if switches_on t then On else (if switches_off t then Off else Wrong)

-- CHARACTER_SET_CLIENT --------------------------------------------------------------------------------

-- a word, or a string without its quotes, that reads as a character set of the list
abbrev pub is_character_set : Lexeme → Bool
is_character_set t =
    (is_kind t.kind Word && is_on character_sets t.bytes)
    || (is_kind t.kind Str && is_on character_sets (unquoted t.bytes))

abbrev pub character_set : Lexeme → Effect
character_set t = if is_character_set t then Plain else Wrong

-- SQL_MODE --------------------------------------------------------------------------------------------

-- what stands behind the last dot
abbrev pub last_part_from : List ℕ → List ℕ → List ℕ
last_part_from part [] = part
last_part_from part (b ∷ bs) = if b == 46 then last_part_from bs bs else last_part_from part bs

-- the last part of a system variable's name
abbrev pub last_part : List ℕ → List ℕ
last_part bytes = let name = drop 2 bytes in last_part_from name name

abbrev pub is_backslash : ℕ → Bool
is_backslash b = b == 92

-- parentheses and commas
abbrev pub is_mode_symbol : Lexeme → Bool
is_mode_symbol t = is_symbol 40 t || (is_symbol 41 t || is_symbol 44 t)

-- what may stand in an SQL mode that is put together: strings, CONCAT, the mode so far
abbrev pub is_mode_part : Lexeme → Bool
is_mode_part t =
    ((is_kind t.kind Str && not (list_any is_backslash t.bytes)) || is_word (codes "CONCAT") t)
    || ((is_kind t.kind SysVar && same_word (last_part t.bytes) (codes "SQL_MODE")) || is_mode_symbol t)

abbrev pub text_of : Lexeme → List ℕ
text_of t = if is_kind t.kind Str then unquoted t.bytes else []

-- the strings of a value, one behind the other
abbrev pub strings : List Lexeme → List ℕ
strings ts = flat_map text_of ts

abbrev pub parts_effect : List Lexeme → Effect
parts_effect ts =
    if list_all is_mode_part ts && not (holds_mode mode_words (strings ts)) then Plain else Wrong

abbrev pub mode_word : List ℕ → Effect
mode_word name = if holds_mode mode_words name then Wrong else Plain

-- one word, or strings that are put together
abbrev pub mode_effect : Lexeme → List Lexeme → Effect
mode_effect t ts =
    if is_empty ts && is_kind t.kind Word then mode_word t.bytes else parts_effect (t ∷ ts)

-- All values ------------------------------------------------------------------------------------------

-- a value that is one token
abbrev pub alone : Effect → List Lexeme → Effect
alone effect ts = if is_empty ts then effect else Wrong

-- what a variable takes: its first token, and those behind it
abbrev pub tokens_effect : Variable → Lexeme → List Lexeme → Effect
tokens_effect kinds.Plain t ts = Plain
tokens_effect kinds.Autocommit t ts = alone (switch t) ts
tokens_effect kinds.SqlMode t ts = mode_effect t ts
tokens_effect kinds.CharacterSet t ts = alone (character_set t) ts

-- a value has at least one token
abbrev pub form_effect : Variable → List Lexeme → Effect
form_effect variable [] = Wrong
form_effect variable (t ∷ ts) = tokens_effect variable t ts

-- what giving this value to a variable does
abbrev pub value_effect : Variable → List Place → Effect
value_effect variable ps = if list_any is_beyond_session ps then Wrong else form_effect variable (tokens_of ps)
