-- How a line is gathered from pieces.
use Rattle.std.specs.Prelude.{◌≡◌, ℕ, ◌<◌, ◌≤◌, List, [], ◌∷◌, ◌++◌, length, Option, Some, None}
use Rattle.rws_trace.specs.Lines.{IsFeedless}
use Rattle.rws_trace.specs.Reader.{IsFound}
use Rattle.rws_trace.specs.declared.event_line.TheConstants.{MAX_LINE}
use Rattle.rws_trace.specs.declared.found.Found.{Found}
use Rattle.rws_trace.specs.declared.line_reader.Gathered.{Gathered}
use Rattle.rws_trace.specs.declared.line_reader.Gathered.TheVariants.{Line, TooLong, More}

-- the front of a line, or the whole of it, that isn't too long
pub record IsPart (line : List ℕ) : Type 0 where
  pub feedless : IsFeedless line
  pub short : length line ≤ MAX_LINE

-- the bytes begin with a line that is too long
pub record IsTooLong (bytes : List ℕ) : Type 0 where
  pub front : List ℕ
  pub rest : List ℕ
  pub parts : bytes ≡ front ++ rest
  pub feedless : IsFeedless front
  pub long : MAX_LINE < length front

-- what a piece, behind the line's front, makes of the line and of itself
abbrev pub Gathers : Gathered → List ℕ → List ℕ → List ℕ → List ℕ → Type 0
Gathers Line line piece line' piece' = line ++ piece ≡ line' ++ 10 ∷ piece'
Gathers TooLong line piece line' piece' = IsTooLong (line ++ piece)
Gathers More line piece line' piece' = (line ++ piece ≡ line') × (piece' ≡ []) × (length line < length line')

-- what is found behind the line's front, if that is known yet
abbrev pub GoesOn : Option Found → List ℕ → List ℕ → List ℕ → List ℕ → Type 0
GoesOn None line before line' rest = line ++ before ≡ line' ++ rest
GoesOn (Some found) line before line' rest = IsFound found line' (line ++ before) rest
