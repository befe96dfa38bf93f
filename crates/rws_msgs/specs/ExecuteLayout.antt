-- COM_STMT_EXECUTE. For a statement without parameters the bytes behind the iteration count are read over.
use Rattle.std.specs.Prelude.{◌≡◌, ℕ, ◌+◌, ◌*◌, ◌/◌, ◌<◌, ◌^◌, length, List, [], ◌∷◌, ◌++◌, ◌==◌, if◌then◌else◌, Option, Some, None, Result, Ok, Err}
use Rattle.rws_wire.specs.Numbers.{bytes_of}
use Rattle.rws_msgs.specs.declared.fault.MsgFault.{MsgFault}
use Rattle.rws_msgs.specs.declared.fault.MsgFault.TheVariants.{Short, BadTag}
use Rattle.rws_msgs.specs.declared.execute_head.ExecuteHead.{ExecuteHead}
use Rattle.rws_msgs.specs.declared.command.TheConstants.{COM_STMT_EXECUTE}
use Rattle.rws_msgs.specs.Fields.{bytes_at, fixed_at, number_at}
use Rattle.rws_wire.specs.Reading.{◌>>=◌}

-- an iteration count of 1
unfoldable pub once_at : List ℕ → Result (List ℕ) MsgFault
once_at bytes = do
  second ← fixed_at 0x01 bytes
  third ← fixed_at 0x00 second
  fourth ← fixed_at 0x00 third
  fixed_at 0x00 fourth

-- two bytes a parameter behind a byte 1, or none behind a byte 0
unfoldable pub types_at : ℕ → List ℕ → Result (Option (List ℕ) × List ℕ) MsgFault
types_at parameters [] = Err Short
types_at parameters (given ∷ bytes) =
    if given == 0 then Ok (None, bytes) else
    (if given == 1 then (do
      types ← bytes_at (2 * parameters) bytes
      Ok (Some types.0, types.1))
    else Err (BadTag given))

-- the bitmap of NULLs, the types and the values
unfoldable pub values_at : ℕ → List ℕ → Result (List ℕ × (Option (List ℕ) × List ℕ)) MsgFault
values_at parameters bytes = if parameters == 0 then Ok ([], (None, [])) else (do
  bitmap ← bytes_at ((parameters + 7) / 8) bytes
  types ← types_at parameters bitmap.1
  Ok (bitmap.0, types))

unfoldable pub execute_at : ℕ → List ℕ → Result ExecuteHead MsgFault
execute_at parameters payload = do
  rest ← fixed_at COM_STMT_EXECUTE payload
  id ← number_at 4 rest
  flags ← number_at 1 id.1
  behind ← once_at flags.1
  given ← values_at parameters behind
  Ok (record { id = id.0; flags = flags.0; bitmap = given.0; types = given.1.0; values = given.1.1 })

unfoldable pub types_bytes : Option (List ℕ) → List ℕ
types_bytes None = 0x00 ∷ []
types_bytes (Some types) = 0x01 ∷ types

-- nothing stands there without a bitmap, as for a statement without parameters
unfoldable pub values_bytes : List ℕ → Option (List ℕ) → List ℕ → List ℕ
values_bytes [] types values = []
values_bytes (byte ∷ bitmap) types values = (byte ∷ bitmap) ++ (types_bytes types ++ values)

unfoldable pub execute_bytes : ExecuteHead → List ℕ
execute_bytes head =
    COM_STMT_EXECUTE ∷ (bytes_of 4 head.id ++ head.flags ∷ 0x01 ∷ 0x00 ∷ 0x00 ∷ 0x00 ∷ values_bytes head.bitmap head.types head.values)

-- the size of the types for so many parameters, where they are there
abbrev pub HaveSize : ℕ → Option (List ℕ) → Type 0
HaveSize parameters None = Unit {0}
HaveSize parameters (Some types) = length types ≡ 2 * parameters

-- what values_at reads
pub record AreValues (parameters : ℕ) (bitmap : List ℕ) (types : Option (List ℕ)) (values : List ℕ) : Type 0 where
  pub bitmap_size : length bitmap ≡ (parameters + 7) / 8
  pub types_size : HaveSize parameters types
  pub no_types : parameters ≡ 0 → types ≡ None
  pub no_values : parameters ≡ 0 → values ≡ []

-- what can be decoded
abbrev pub IsExecuteHead : ℕ → ExecuteHead → Type 0
IsExecuteHead parameters head = AreValues parameters head.bitmap head.types head.values

-- the ranges of the fields
pub record ExecuteFits (head : ExecuteHead) : Type 0 where
  pub id : head.id < 2 ^ 32
  pub flags : head.flags < 2 ^ 8
