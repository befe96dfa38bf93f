-- What stands in front of the `=` of an item of SET: which variable it sets.
use Rattle.std.specs.Prelude.{ℕ, Bool, ◌||◌, if◌then◌else◌, Option, Some, None, List, codes, take, drop, length, map}
use Rattle.std.specs.Char.{to_ascii_lowercase}
use Rattle.rws_token.specs.declared.token.TokenKind.TheVariants.{Word, UserVar, SysVar, Assign}
use Rattle.rws_token.specs.Lexeme.{Lexeme, is_kind, same_word, is_symbol}
use Rattle.rws_words.specs.Words.{is_on, is_one_of, words, setting_names}
use Rattle.rws_set.specs.declared.target.Variable.{Variable}
use Rattle.rws_set.specs.declared.target.Variable.TheVariants as kinds

-- a variable by its name, in lower case and without its scope; a user variable's name begins with `@`
pub record Target : Type 0 where
  pub variable : Variable
  pub name : List ℕ

abbrev pub lower : List ℕ → List ℕ
lower name = map to_ascii_lowercase name

abbrev pub variable_of : List ℕ → Variable
variable_of name =
    if same_word name (codes "AUTOCOMMIT") then kinds.Autocommit
    else (if same_word name (codes "SQL_MODE") then kinds.SqlMode
    else (if same_word name (codes "CHARACTER_SET_CLIENT") then kinds.CharacterSet else kinds.Plain))

-- a variable of the session
abbrev pub setting : List ℕ → Option Target
setting name =
    if is_on setting_names name then Some (record { variable = variable_of name; name = lower name }) else None

abbrev pub begins_scope : List ℕ → List ℕ → Bool
begins_scope scope name = same_word (take (length scope) name) scope

-- a name without `session.` or `local.` in front
abbrev pub without_scope : List ℕ → List ℕ
without_scope name =
    if begins_scope (codes "SESSION.") name then drop 8 name
    else (if begins_scope (codes "LOCAL.") name then drop 6 name else name)

-- a variable by its name alone
abbrev pub word_target : Lexeme → Option Target
word_target t = if is_kind t.kind Word then setting t.bytes else None

-- a user variable, a variable of the session by its name, or behind `@@`
abbrev pub any_target : Lexeme → Option Target
any_target t =
    if is_kind t.kind UserVar then Some (record { variable = kinds.Plain; name = lower t.bytes })
    else (if is_kind t.kind SysVar then setting (without_scope (drop 2 t.bytes)) else word_target t)

abbrev pub is_scope : Lexeme → Bool
is_scope t = is_one_of (words (codes "SESSION LOCAL")) t

abbrev pub is_equals : Lexeme → Bool
is_equals t = is_kind t.kind Assign || is_symbol 61 t
