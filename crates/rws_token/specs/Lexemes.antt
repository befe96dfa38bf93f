-- The tokens of a text with their bytes.
use Rattle.std.specs.Prelude.{ℕ, ◌<◌, ◌≤◌, Option, Some, None, Result, Ok, Err, List, [], ◌∷◌, length, map, slice_range}
use Rattle.rws_token.specs.Lexed.{Lexed, lexed_of, left_of}
use Rattle.rws_token.specs.Lexeme.{Lexeme, lexeme_of}
use Rattle.rws_token.specs.declared.token.Token.{Token}
use Rattle.rws_token.specs.declared.token.Unclosed.{Unclosed}
use Rattle.rws_token.specs.declared.lexeme as declared
use Rattle.rws_token.specs.declared.lexemes.Lexemes.{Lexemes}

-- a token of a text with its bytes
abbrev pub lexeme_in : List ℕ → Token → Lexeme
lexeme_in text token = record { kind = token.kind; bytes = slice_range text token.start token.end }

-- the tokens of a text, and the place of the fault that ends them, if one does
pub record Ahead : Type 0 where
  pub lexemes : List Lexeme
  pub fault : Option ℕ

abbrev pub ahead_in : List ℕ → Lexed → Ahead
ahead_in text lexed = record { lexemes = map (lexeme_in text) lexed.tokens; fault = lexed.fault }

-- a whole text
abbrev pub lexemes_of : List ℕ → Ahead
lexemes_of text = ahead_in text (lexed_of text)

-- what is left to read
abbrev pub ahead : Lexemes → Ahead
ahead lexemes = ahead_in lexemes.text.now (left_of lexemes.tokens)

-- what was left before an answer, if this is left behind it
abbrev pub before_lexeme : Result (Option declared.Lexeme.Lexeme) Unclosed → Ahead → Ahead
before_lexeme (Ok (Some lexeme)) left =
    record { lexemes = lexeme_of lexeme ∷ left.lexemes; fault = left.fault }
before_lexeme (Ok None) left = record { lexemes = []; fault = None }
before_lexeme (Err unclosed) left = record { lexemes = []; fault = Some unclosed.at }

-- the place in the text rises at each token
abbrev pub RisesAtToken : Lexemes → Result (Option declared.Lexeme.Lexeme) Unclosed → Lexemes → Type 0
RisesAtToken old (Ok (Some lexeme)) new =
    (old.tokens.at < new.tokens.at) × (new.tokens.at ≤ length new.text.now)
RisesAtToken old (Ok None) new = Unit {0}
RisesAtToken old (Err unclosed) new = Unit {0}
