-- Statements of a fixed form: BEGIN, START, COMMIT, ROLLBACK, SAVEPOINT, RELEASE, USE, and what SET says
-- without a list of variables.
use Rattle.std.specs.Prelude.{ℕ, Bool, true, false, ◌&&◌, ◌||◌, if◌then◌else◌, List, [], ◌∷◌, ◌++◌, codes, map}
use Rattle.rws_token.specs.declared.token.TokenKind.TheVariants.{Word, Str}
use Rattle.rws_token.specs.Lexeme.{Lexeme, is_kind, is_word}
use Rattle.rws_words.specs.Words.{words}
use Rattle.rws_set.specs.Values.{is_character_set}
use Rattle.rws_words.specs.Places.{is_name}
use Rattle.rws_class.specs.declared.class.Class.{Class}
use Rattle.rws_class.specs.declared.class.Class.TheVariants.{Session, Begin, BeginReadOnly, Commit, Rollback, TrxLocal, Other}

-- what may stand at one place of a form: this word, a name, any word, a character set, a word or a string
pub data Part : Type 0 where
  The : List ℕ → Part
  Name : Part
  AnyWord : Part
  CharacterSet : Part
  Text : Part

abbrev pub fits : Part → Lexeme → Bool
fits (The text) t = is_word text t
fits Name t = is_name t
fits AnyWord t = is_kind t.kind Word
fits CharacterSet t = is_character_set t
fits Text t = is_kind t.kind Word || is_kind t.kind Str

-- the tokens are these parts, one for one
abbrev pub reads : List Part → List Lexeme → Bool
reads [] [] = true
reads [] (t ∷ ts) = false
reads (part ∷ parts) [] = false
reads (part ∷ parts) (t ∷ ts) = fits part t && reads parts ts

-- a form, and the class of the statements that have it
pub record Form : Type 0 where
  pub parts : List Part
  pub class : Class

-- the class of the first form that the tokens have
abbrev pub form_class : List Form → List Lexeme → Class
form_class [] ts = Other
form_class (form ∷ forms) ts = if reads form.parts ts then form.class else form_class forms ts

-- words, and then other parts
abbrev pub phrase : List ℕ → List Part → List Part
phrase text parts = map The (words text) ++ parts

abbrev pub form : List ℕ → List Part → Class → Form
form text parts class = record { parts = phrase text parts; class = class }

unfoldable pub forms : List Form
forms =
    form (codes "BEGIN") [] Begin
    ∷ form (codes "BEGIN WORK") [] Begin
    ∷ form (codes "START TRANSACTION") [] Begin
    ∷ form (codes "START TRANSACTION READ WRITE") [] Begin
    ∷ form (codes "START TRANSACTION WITH CONSISTENT SNAPSHOT") [] Begin
    ∷ form (codes "START TRANSACTION READ ONLY") [] BeginReadOnly
    ∷ form (codes "COMMIT") [] Commit
    ∷ form (codes "COMMIT WORK") [] Commit
    ∷ form (codes "ROLLBACK") [] Rollback
    ∷ form (codes "ROLLBACK WORK") [] Rollback
    ∷ form (codes "ROLLBACK TO") (Name ∷ []) TrxLocal
    ∷ form (codes "ROLLBACK TO SAVEPOINT") (Name ∷ []) TrxLocal
    ∷ form (codes "ROLLBACK WORK TO") (Name ∷ []) TrxLocal
    ∷ form (codes "ROLLBACK WORK TO SAVEPOINT") (Name ∷ []) TrxLocal
    ∷ form (codes "SAVEPOINT") (Name ∷ []) TrxLocal
    ∷ form (codes "RELEASE SAVEPOINT") (Name ∷ []) TrxLocal
    ∷ form (codes "USE") (Name ∷ []) Session
    ∷ form (codes "SET NAMES") (CharacterSet ∷ []) Session
    ∷ form (codes "SET NAMES") (CharacterSet ∷ The (codes "COLLATE") ∷ Text ∷ []) Session
    ∷ form (codes "SET CHARACTER SET") (CharacterSet ∷ []) Session
    ∷ form (codes "SET SESSION TRANSACTION ISOLATION LEVEL") (AnyWord ∷ []) Session
    ∷ form (codes "SET SESSION TRANSACTION ISOLATION LEVEL") (AnyWord ∷ AnyWord ∷ []) Session
    ∷ form (codes "SET SESSION TRANSACTION READ ONLY") [] Session
    ∷ form (codes "SET SESSION TRANSACTION READ WRITE") [] Session
    ∷ []
