-- A text as a list of tokens, up to its end or to the first place where something begins that never ends.
use Rattle.std.specs.Prelude.{◌≡◌, ℕ, zero, suc, ◌+◌, ◌-◌, ◌≤◌, ◌<◌, Option, Some, None, Result, Ok, Err, List, [], ◌∷◌, length, drop}
use Rattle.rws_token.specs.Piece.{piece_at}
use Rattle.rws_token.specs.declared.piece.Piece.{Piece}
use Rattle.rws_token.specs.declared.piece.Piece.TheVariants.{Gap, Whole, Endless}
use Rattle.rws_token.specs.declared.token.Token.{Token}
use Rattle.rws_token.specs.declared.token.Unclosed.{Unclosed}

-- the tokens in order, and the place of the fault that ends them, if one does
pub record Lexed : Type 0 where
  pub tokens : List Token
  pub fault : Option ℕ

-- a piece at a place, and then what the bytes behind its first one give, but for those that it takes
abbrev pub follow : ℕ → Piece → (ℕ → Lexed) → Lexed
follow at (Gap n) behind = behind (n - 1)
follow at (Whole kind n) behind =
    let left = behind (n - 1) in
    record { tokens = record { kind = kind; start = at; end = at + n } ∷ left.tokens; fault = left.fault }
follow at Endless behind = record { tokens = []; fault = Some at }

-- the bytes from a place on, of which so many belong to a piece before them
abbrev pub lexed_from : ℕ → ℕ → List ℕ → Lexed
lexed_from taken at [] = record { tokens = []; fault = None }
lexed_from zero at (b ∷ bs) = follow at (piece_at b bs) (λ taken. lexed_from taken (at + 1) bs)
lexed_from (suc taken) at (b ∷ bs) = lexed_from taken (at + 1) bs

-- a whole text
abbrev pub lexed_of : List ℕ → Lexed
lexed_of text = lexed_from 0 0 text

-- a text that is read, and the place up to which it was read
pub record Progress : Type 0 where
  pub text : List ℕ
  pub at : ℕ

-- what is left to read
abbrev pub left_of : Progress → Lexed
left_of progress = lexed_from 0 progress.at (drop progress.at progress.text)

-- what was left before an answer, if this is left behind it
abbrev pub before_answer : Result (Option Token) Unclosed → Lexed → Lexed
before_answer (Ok (Some token)) left = record { tokens = token ∷ left.tokens; fault = left.fault }
before_answer (Ok None) left = record { tokens = []; fault = None }
before_answer (Err unclosed) left = record { tokens = []; fault = Some unclosed.at }

-- what is left behind an answer, of bytes from a place on: without a token nothing of it is asked for
abbrev pub lexed_behind : ℕ → List ℕ → Result (Option Token) Unclosed → Lexed
lexed_behind at bytes (Ok (Some token)) = lexed_from 0 token.end (drop (token.end - at) bytes)
lexed_behind at bytes (Ok None) = record { tokens = []; fault = None }
lexed_behind at bytes (Err unclosed) = record { tokens = []; fault = None }

-- a token has at least one byte, and lies between two places
abbrev pub LiesIn : ℕ → ℕ → Result (Option Token) Unclosed → Type 0
LiesIn at end (Ok (Some token)) = (at ≤ token.start) × (token.start < token.end) × (token.end ≤ end)
LiesIn at end (Ok None) = Unit {0}
LiesIn at end (Err unclosed) = Unit {0}

-- A token lies behind the place that was reached, and its end is the place reached now. Without a token
-- the place stays.
abbrev pub Moves : Progress → Result (Option Token) Unclosed → Progress → Type 0
Moves old (Ok (Some token)) new =
    (old.at ≤ token.start) × (token.start < token.end) × (token.end ≡ new.at) × (new.at ≤ length new.text)
Moves old (Ok None) new = new.at ≡ old.at
Moves old (Err unclosed) new = new.at ≡ old.at
