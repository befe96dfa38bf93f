-- The plain form of an execute: what is run, without a number for the statement ("COM_STMT_EXECUTE"). Each link has numbers
-- of its own for the same statement; commands on two links do the same where their plain forms are equal.
use Rattle.std.specs.Prelude.{ℕ, Bool, true, false, if◌then◌else◌, ◌==◌, ◌||◌, List, [], ◌∷◌, ◌++◌, map, slice_index, is_some, Option, Some, None, Result, Ok, Err}
use Rattle.rws_wire.specs.Numbers.{bytes_of, number_of}
use Rattle.rws_wire.specs.Reading.{◌>>=◌}
use Rattle.rws_msgs.specs.declared.fault.MsgFault.{MsgFault}
use Rattle.rws_msgs.specs.declared.execute_head.ExecuteHead.{ExecuteHead}
use Rattle.rws_msgs.specs.Fields.{fixed_at, number_at}
use Rattle.rws_msgs.specs.ExecuteLayout.{execute_at, execute_bytes}
use Rattle.rws_handles.specs.declared.fault.ExecuteFault.{ExecuteFault}
use Rattle.rws_handles.specs.declared.fault.ExecuteFault.TheVariants.{CursorAsked, BadExecute}
use Rattle.rws_handles.specs.Prepared.{LongData, Prepared, with_long_data}

pub record Plain : Type 0 where
  pub text : List ℕ
  pub long_data : List LongData
  -- one bit a parameter: whether it is NULL
  pub bitmap : List ℕ
  -- the types that were given last, this time or before
  pub types : Option (List ℕ)
  pub values : List ℕ

-- ---- reading

abbrev pub or_last : Option (List ℕ) → Option (List ℕ) → Option (List ℕ)
or_last (Some given) last = Some given
or_last None last = last

-- an execute that gives no types is malformed where the statement has parameters and none were given before
abbrev pub plain_of : Prepared → ExecuteHead → Option (List ℕ) → Result Plain ExecuteFault
plain_of statement head types =
    if (statement.parameters == 0) || is_some types then
    Ok (record { text = statement.text; long_data = statement.long_data; bitmap = head.bitmap; types = types; values = head.values })
    else Err BadExecute

abbrev pub plain_if_read : Prepared → Result ExecuteHead MsgFault → Result Plain ExecuteFault
plain_if_read statement (Ok head) = plain_of statement head (or_last head.types statement.types)
plain_if_read statement (Err fault) = Err BadExecute

-- the flags of an execute ask for a cursor; where it ends before them, they don't
abbrev pub asks_cursor : List ℕ → Bool
asks_cursor payload = if slice_index payload 5 == 0 then false else true

-- the text that is run
abbrev pub text_of : Result Plain ExecuteFault → Result (List ℕ) ExecuteFault
text_of (Ok plain) = Ok plain.text
text_of (Err fault) = Err fault

-- the plain form of an execute of this statement, or why it is refused
abbrev pub plain_form : Prepared → List ℕ → Result Plain ExecuteFault
plain_form statement payload =
    if asks_cursor payload then Err CursorAsked else plain_if_read statement (execute_at statement.parameters payload)

-- the statement's number in a command of it, None where the payload ends within
abbrev pub handle_in : List ℕ → Option ℕ
handle_in (tag ∷ a ∷ b ∷ c ∷ d ∷ rest) = Some (number_of (a ∷ b ∷ c ∷ d ∷ []))
handle_in _ = None

-- ---- writing

unfoldable pub long_data_bytes : ℕ → LongData → List ℕ
long_data_bytes id piece = 0x18 ∷ (bytes_of 4 id ++ (bytes_of 2 piece.parameter ++ piece.bytes))

-- the execute alone, which gives the types
unfoldable pub run_bytes : ℕ → Plain → List ℕ
run_bytes id plain = execute_bytes (record { id = id; flags = 0; bitmap = plain.bitmap; types = plain.types; values = plain.values })

-- the commands that run a plain form on a side that has the statement under this number: the long data, then the execute
abbrev pub spelled : ℕ → Plain → List (List ℕ)
spelled id plain = map (long_data_bytes id) plain.long_data ++ run_bytes id plain ∷ []

-- a command with another number for its statement
abbrev pub renumbered : ℕ → List ℕ → List ℕ
renumbered id (tag ∷ a ∷ b ∷ c ∷ d ∷ rest) = tag ∷ (bytes_of 4 id ++ rest)
renumbered id payload = payload

abbrev pub number_or_none : Option ℕ → ℕ
number_or_none (Some number) = number
number_or_none None = 0

-- the number of the statement that a list of commands is of, by its first; no statement has the number 0
abbrev pub number_in : List (List ℕ) → ℕ
number_in [] = 0
number_in (payload ∷ payloads) = number_or_none (handle_in payload)

-- ---- what a side makes of the commands that come

unfoldable pub long_data_at : List ℕ → Result (ℕ × LongData) MsgFault
long_data_at payload = do
  rest ← fixed_at 0x18 payload
  id ← number_at 4 rest
  parameter ← number_at 2 id.1
  Ok (id.0, record { parameter = parameter.0; bytes = parameter.1 })

abbrev pub plain_if_ok : Result Plain ExecuteFault → Option Plain
plain_if_ok (Ok plain) = Some plain
plain_if_ok (Err fault) = None

-- an execute of the statement with this number
abbrev pub plain_if_of : ℕ → Prepared → List ℕ → Option ℕ → Option Plain
plain_if_of id statement payload (Some handle) = if handle == id then plain_if_ok (plain_form statement payload) else None
plain_if_of id statement payload None = None

abbrev pub plain_or_more : ℕ → Result (ℕ × LongData) MsgFault → (LongData → Option Plain) → Option Plain → Option Plain
plain_or_more id (Ok (handle, piece)) more run = if handle == id then more piece else None
plain_or_more id (Err fault) more run = run

-- what a side runs that has the statement under this number: long data is kept in order until an execute comes
abbrev pub runs : List (List ℕ) → ℕ → Prepared → Option Plain
runs [] id statement = None
runs (payload ∷ payloads) id statement =
    plain_or_more id (long_data_at payload) (λ piece. runs payloads id (with_long_data statement piece)) (plain_if_of id statement payload (handle_in payload))
