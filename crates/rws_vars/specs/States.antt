-- What readers keep, as what these tokens give if they are left.
use Rattle.std.specs.Prelude.{◌≡◌, ℕ, ◌<◌, ◌≤◌, Bool, true, false, is_some, if◌then◌else◌, Option, Some, None, List, [], ◌∷◌, ◌++◌, length, map, filter}
use Rattle.std.specs.List.{flat_map}
use Rattle.rws_token.specs.declared.lexeme as declared_lexeme
use Rattle.rws_token.specs.Lexeme.{Lexeme, lexeme_of}
use Rattle.rws_token.specs.Lexemes.{ahead}
use Rattle.rws_words.specs.Lists.{is_empty}
use Rattle.rws_words.specs.Places.{Place, tokens_of}
use Rattle.rws_set.specs.Targets.{lower}
use Rattle.rws_set.specs.Items.{Item}
use Rattle.rws_set.specs.Walks.{walk_left, onto_value}
use Rattle.rws_vars.specs.Assignments.{Heading, is_literal, is_number, bytes_of, given, is_no_semicolon, behind_parens, item_settings}
use Rattle.rws_vars.specs.declared.setting.Setting.{Setting}
use Rattle.rws_vars.specs.declared.statement.Statement.{Statement}
use Rattle.rws_vars.specs.declared.draft.Shape.{Shape}
use Rattle.rws_vars.specs.declared.draft.Shape.TheVariants as shapes
use Rattle.rws_vars.specs.declared.draft.Draft.{Draft}
use Rattle.rws_vars.specs.declared.collector.Collector.{Collector}
use Rattle.rws_vars.specs.declared.heading.Heading as declared_heading

-- Tokens ----------------------------------------------------------------------------------------------

abbrev pub from_first : Bool → List Lexeme → List Lexeme
from_first begun ts = if begun then ts else behind_parens ts

-- the tokens of a statement that are left
abbrev pub tokens_left : Statement → List Lexeme
tokens_left s = from_first s.begun (filter is_no_semicolon (ahead s.lexemes).lexemes)

-- what was left before an answer, if this is left behind it
abbrev pub before_token : Option declared_lexeme.Lexeme.Lexeme → List Lexeme → List Lexeme
before_token None ts = []
before_token (Some lexeme) ts = lexeme_of lexeme ∷ ts

-- the place in the text rises at each token
abbrev pub Rises : Statement → Option declared_lexeme.Lexeme.Lexeme → Statement → Type 0
Rises old None new = Unit {0}
Rises old (Some lexeme) new =
    (old.lexemes.tokens.at < new.lexemes.tokens.at) × (new.lexemes.tokens.at ≤ length new.lexemes.text.now)

-- Settings --------------------------------------------------------------------------------------------

-- whether a value is literal
abbrev pub shape_left : Shape → List Lexeme → Bool
shape_left shapes.Empty ts = is_literal ts
shape_left shapes.Sign ts = is_number ts
shape_left shapes.Literal ts = is_empty ts
shape_left shapes.Other ts = false

abbrev pub draft_left : Draft → List Lexeme → Setting
draft_left d ts =
    record { name = d.name; literal = shape_left d.shape ts; value = d.value ++ flat_map bytes_of ts }

abbrev pub heading_of : declared_heading.Heading → Heading
heading_of heading = record { words = map (λ word. word.now) heading.words.now; name = heading.name.now }

-- Items -----------------------------------------------------------------------------------------------

abbrev pub begun_settings : Draft → Option Item → List Setting
begun_settings d None = []
begun_settings d (Some item) = draft_left d (tokens_of item.value) ∷ []

abbrev pub present_settings : Option Draft → Option Item → List Setting
present_settings None item = item_settings item
present_settings (Some d) item = begun_settings d item

-- the settings so far, the present item, and those behind it
abbrev pub collected_left : Collector → List Place → List Setting
collected_left c ps =
    let left = walk_left c.walk ps in
    c.done ++ (present_settings c.draft left.first ++ flat_map item_settings left.others)

-- the settings of an item that ends
abbrev pub ended : Option Draft → List Setting
ended None = []
ended (Some d) = draft_left d [] ∷ []

-- the present item has ended
pub record ItemEnds (old new : Collector) : Type 0 where
  pub walk : new.walk ≡ old.walk
  pub draft : new.draft ≡ None
  pub done : new.done ≡ old.done ++ ended old.draft

-- a value of this name has begun
pub record ValueBegins (name : List ℕ) (old new : Collector) : Type 0 where
  pub walk : new.walk ≡ old.walk
  pub done : new.done ≡ old.done
  pub begun : is_some new.draft ≡ true
  pub left : (item : Item) → present_settings new.draft (Some item) ≡ given (lower name) (tokens_of item.value) ∷ []

-- a value that has begun has one more token
pub record ValueGoesOn (t : Lexeme) (old new : Collector) : Type 0 where
  pub walk : new.walk ≡ old.walk
  pub done : new.done ≡ old.done
  pub begun : is_some new.draft ≡ is_some old.draft
  pub left : (p : Place) (item : Item) → is_some old.draft ≡ true → p.this ≡ t → present_settings new.draft (Some item) ≡ present_settings old.draft (onto_value p (Some item))
