-- What a session command's text sets: a statement of class Session, AutocommitOn or AutocommitOff.
use Rattle.std.specs.Prelude.{ℕ, Bool, true, false, not, ◌&&◌, ◌||◌, if◌then◌else◌, Option, Some, None, List, [], ◌∷◌, ◌++◌, codes, map, filter}
use Rattle.std.specs.List.{flat_map}
use Rattle.rws_token.specs.declared.token.TokenKind.TheVariants.{Word, Number, Str}
use Rattle.rws_token.specs.Lexeme.{Lexeme, is_kind, is_word, is_symbol}
use Rattle.rws_token.specs.Lexemes.{lexemes_of}
use Rattle.rws_words.specs.Lists.{is_empty}
use Rattle.rws_words.specs.Words.{words}
use Rattle.rws_words.specs.Places.{Place, tokens_of}
use Rattle.rws_set.specs.Items.{Item, Items, items_of}
use Rattle.rws_class.specs.Numbers.{is_sign}
use Rattle.rws_class.specs.Classes.{class_of}
use Rattle.rws_class.specs.declared.class.Class.{Class}
use Rattle.rws_class.specs.declared.class.Class.TheVariants.{Session, AutocommitOn, AutocommitOff}
use Rattle.rws_vars.specs.declared.setting.Setting.{Setting}

-- Values ----------------------------------------------------------------------------------------------

abbrev pub is_number : List Lexeme → Bool
is_number [] = false
is_number (t ∷ ts) = is_kind t.kind Number && is_empty ts

-- one string, number or word, or a sign and a number
abbrev pub is_literal : List Lexeme → Bool
is_literal [] = false
is_literal (t ∷ ts) =
    (is_empty ts && (is_kind t.kind Str || (is_kind t.kind Number || is_kind t.kind Word)))
    || (is_sign t && is_number ts)

abbrev pub bytes_of : Lexeme → List ℕ
bytes_of t = t.bytes

-- a variable or another thing that is set, and the tokens of its value
abbrev pub given : List ℕ → List Lexeme → Setting
given name ts = record { name = name; literal = is_literal ts; value = flat_map bytes_of ts }

-- Statements of a fixed form --------------------------------------------------------------------------

-- the first words of a statement, and what it sets: the value stands behind the words
pub record Heading : Type 0 where
  pub words : List (List ℕ)
  pub name : List ℕ

abbrev pub heading : List ℕ → List ℕ → Heading
heading text name = record { words = words text; name = name }

unfoldable pub headings : List Heading
headings =
    heading (codes "USE") (codes "database")
    ∷ heading (codes "SET NAMES") (codes "names")
    ∷ heading (codes "SET CHARACTER SET") (codes "names")
    ∷ heading (codes "SET SESSION TRANSACTION ISOLATION LEVEL") (codes "transaction isolation")
    ∷ heading (codes "SET SESSION TRANSACTION") (codes "transaction access")
    ∷ []

-- the tokens behind these words, if the tokens begin with them
abbrev pub behind_words : List (List ℕ) → List Lexeme → Option (List Lexeme)
behind_words [] ts = Some ts
behind_words (word ∷ words) [] = None
behind_words (word ∷ words) (t ∷ ts) = if is_word word t then behind_words words ts else None

-- the setting of the first heading that the tokens begin with
abbrev pub heading_else : List ℕ → Option (List Lexeme) → Option Setting → Option Setting
heading_else name None other = other
heading_else name (Some ts) other = Some (given name ts)

abbrev pub headed : List Heading → List Lexeme → Option Setting
headed [] ts = None
headed (heading ∷ headings) ts =
    heading_else heading.name (behind_words heading.words ts) (headed headings ts)

-- Lists of items --------------------------------------------------------------------------------------

-- The items of a list don't depend on what stands beside their tokens.
abbrev pub alone : Lexeme → Place
alone t = record { after_dot = false; this = t; next = None }

abbrev pub item_settings : Option Item → List Setting
item_settings None = []
item_settings (Some item) = given item.target.name (tokens_of item.value) ∷ []

abbrev pub items_settings : Items → List Setting
items_settings items = item_settings items.first ++ flat_map item_settings items.others

-- Statements ------------------------------------------------------------------------------------------

abbrev pub is_no_semicolon : Lexeme → Bool
is_no_semicolon t = not (is_symbol 59 t)

abbrev pub behind_parens : List Lexeme → List Lexeme
behind_parens [] = []
behind_parens (t ∷ ts) = if is_symbol 40 t then behind_parens ts else t ∷ ts

-- the tokens of a statement from its first word on
abbrev pub statement_of : List ℕ → List Lexeme
statement_of text = behind_parens (filter is_no_semicolon (lexemes_of text).lexemes)

-- the items stand behind SET
abbrev pub list_settings : List Lexeme → List Setting
list_settings [] = []
list_settings (t ∷ ts) = items_settings (items_of (map alone ts))

abbrev pub or_list : Option Setting → List Setting → List Setting
or_list None settings = settings
or_list (Some setting) settings = setting ∷ []

abbrev pub statement_settings : List Lexeme → List Setting
statement_settings ts = or_list (headed headings ts) (list_settings ts)

abbrev pub is_setting_class : Class → Bool
is_setting_class Session = true
is_setting_class AutocommitOn = true
is_setting_class AutocommitOff = true
is_setting_class _ = false

-- what a text sets, if it is of one of the classes that set something of the session alone
unfoldable pub assignments_of : List ℕ → Option (List Setting)
assignments_of text =
    if is_setting_class (class_of text) then Some (statement_settings (statement_of text)) else None
