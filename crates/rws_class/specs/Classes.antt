-- The class of a text.
use Rattle.std.specs.Prelude.{ℕ, Bool, not, ◌&&◌, ◌||◌, if◌then◌else◌, is_some, List, [], ◌∷◌, codes, filter}
use Rattle.std.specs.List.{list_any}
use Rattle.rws_token.specs.declared.token.TokenKind.TheVariants.{Word, SysVar}
use Rattle.rws_token.specs.Lexeme.{Lexeme, is_kind, is_symbol}
use Rattle.rws_token.specs.Lexemes.{Ahead, lexemes_of}
use Rattle.rws_words.specs.Words.{is_on, words, refused_names}
use Rattle.rws_words.specs.Places.{Place, places, tokens_of, is_named}
use Rattle.rws_set.specs.Values.{last_part}
use Rattle.rws_set.specs.Items.{items_effect}
use Rattle.rws_set.specs.declared.effect.Effect.{Effect}
use Rattle.rws_set.specs.declared.effect.Effect.TheVariants as effect
use Rattle.rws_class.specs.Numbers.{is_unfit}
use Rattle.rws_class.specs.Rules.{query_class, show_class, change_class, insert_class, define_class, create_class}
use Rattle.rws_class.specs.Forms.{forms, form_class}
use Rattle.rws_class.specs.declared.first_word.FirstWord.{FirstWord}
use Rattle.rws_class.specs.declared.first_word.FirstWord.TheVariants.{Query, Show, Change, Insert, Define, Create, Fixed, Set, Unknown}
use Rattle.rws_class.specs.declared.class.Class.{Class}
use Rattle.rws_class.specs.declared.class.Class.TheVariants.{Session, AutocommitOn, AutocommitOff, Refused, Other}

-- SET ------------------------------------------------------------------------------------------------

-- a variable that isn't to be touched: a word, a quoted name, or the last part of a system variable
abbrev pub is_refused : Place → Bool
is_refused p =
    is_named refused_names p.this || (is_kind p.this.kind SysVar && is_on refused_names (last_part p.this.bytes))

abbrev pub effect_class : Effect → Class
effect_class effect.Wrong = Other
effect_class effect.Plain = Session
effect_class effect.On = AutocommitOn
effect_class effect.Off = AutocommitOff

-- the places behind the first word
abbrev pub behind_first : List Place → List Place
behind_first [] = []
behind_first (p ∷ ps) = ps

-- a class, or another one in place of Other
abbrev pub or_else : Class → Class → Class
or_else Other class = class
or_else found class = found

abbrev pub set_class : List Place → Class
set_class ps =
    if list_any is_refused ps then Refused
    else or_else (form_class forms (tokens_of ps)) (effect_class (items_effect (behind_first ps)))

-- Statements -----------------------------------------------------------------------------------------

abbrev pub first_word_named : List ℕ → FirstWord
first_word_named word =
    if is_on (words (codes "SELECT WITH")) word then Query
    else (if is_on (words (codes "SHOW DESCRIBE DESC EXPLAIN HELP")) word then Show
    else (if is_on (words (codes "UPDATE DELETE")) word then Change
    else (if is_on (words (codes "INSERT REPLACE")) word then Insert
    else (if is_on (words (codes "CREATE")) word then Create
    else (if is_on (words (codes "ALTER DROP TRUNCATE RENAME GRANT REVOKE")) word then Define
    else (if is_on (words (codes "BEGIN START COMMIT ROLLBACK SAVEPOINT RELEASE USE")) word then Fixed
    else (if is_on (words (codes "SET")) word then Set else Unknown)))))))

abbrev pub first_word_of : Lexeme → FirstWord
first_word_of t = if is_kind t.kind Word then first_word_named t.bytes else Unknown

abbrev pub class_by : FirstWord → List Place → Class
class_by Query ps = query_class ps
class_by Show ps = show_class ps
class_by Change ps = change_class ps
class_by Insert ps = insert_class ps
class_by Create ps = create_class ps
class_by Define ps = define_class ps
class_by Fixed ps = form_class forms (tokens_of ps)
class_by Set ps = set_class ps
class_by Unknown ps = Other

-- opening parentheses in front of a statement are skipped
abbrev pub behind_parens : List Place → List Place
behind_parens [] = []
behind_parens (p ∷ ps) = if is_symbol 40 p.this then behind_parens ps else p ∷ ps

-- a statement from its first word on
abbrev pub begun_class : List Place → Class
begun_class [] = Other
begun_class (p ∷ ps) = class_by (first_word_of p.this) (p ∷ ps)

abbrev pub statement_class : List Place → Class
statement_class ps = begun_class (behind_parens ps)

abbrev pub is_no_semicolon : Place → Bool
is_no_semicolon p = not (is_symbol 59 p.this)

-- A text that isn't unfit has no semicolon but a last one, which is skipped.
abbrev pub places_class : List Place → Class
places_class ps =
    if list_any is_unfit ps then Other else statement_class (filter is_no_semicolon ps)

-- Texts ----------------------------------------------------------------------------------------------

-- tokens, up to the end of a text or to a fault
abbrev pub tokens_class : Ahead → Class
tokens_class ahead = if is_some ahead.fault then Other else places_class (places ahead.lexemes)

-- the class of a text
unfoldable pub class_of : List ℕ → Class
class_of text = tokens_class (lexemes_of text)
