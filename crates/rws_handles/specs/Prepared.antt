-- A prepared statement, as either side of a connection keeps it ("COM_STMT_PREPARE").
use Rattle.std.specs.Prelude.{◌≡◌, ℕ, ◌+◌, List, [], ◌∷◌, ◌++◌, Bool, true, false, length, Option, None}

-- what a COM_STMT_SEND_LONG_DATA says: the parameter, counted from 0, and some of its bytes
pub record LongData : Type 0 where
  pub parameter : ℕ
  pub bytes : List ℕ

pub record Prepared : Type 0 where
  -- the number by which the client names it
  pub number : ℕ
  pub text : List ℕ
  pub columns : ℕ
  pub parameters : ℕ
  -- the types of the parameters that were given last, two bytes each
  pub types : Option (List ℕ)
  -- what came since the last execute, in order
  pub long_data : List LongData
  -- the client closed it; it is kept until its transaction ends
  pub closed : Bool

-- a statement that was just prepared
abbrev pub prepared : ℕ → List ℕ → ℕ → ℕ → Prepared
prepared number text columns parameters = record { number = number; text = text; columns = columns; parameters = parameters; types = None; long_data = []; closed = false }

-- long data is kept for the next execute
abbrev pub with_long_data : Prepared → LongData → Prepared
with_long_data statement piece = record statement { long_data = statement.long_data ++ piece ∷ [] }

-- COM_STMT_RESET
abbrev pub without_long_data : Prepared → Prepared
without_long_data statement = record statement { long_data = [] }

-- an execute stores the types and takes the long data
abbrev pub executed : Option (List ℕ) → Prepared → Prepared
executed types statement = record statement { types = types; long_data = [] }

abbrev pub closed_later : Prepared → Prepared
closed_later statement = record statement { closed = true }

-- how many bytes of long data it holds
abbrev pub long_bytes : List LongData → ℕ
long_bytes [] = 0
long_bytes (piece ∷ pieces) = length piece.bytes + long_bytes pieces

-- the same statement, as open or closed as before
pub record IsSame (old new : Prepared) : Type 0 where
  pub number : new.number ≡ old.number
  pub closed : new.closed ≡ old.closed
