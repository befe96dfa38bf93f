-- A text result set as a whole list of payloads ("Result Set Packets" of MariaDB's protocol documentation, on a link without
-- CLIENT_DEPRECATE_EOF): the number of columns, that many definitions, an EOF, rows, and an EOF that is the last payload.
use Rattle.std.specs.Prelude.{◌≡◌, ◌↔◌, ℕ, true, List, [], ◌∷◌, ◌++◌, length, take, drop, Option, Some, None, Ok, if◌then◌else◌}
use Rattle.std.specs.Option.{option_and_then, option_map}
use Rattle.std.specs.Result.{result_ok}
use Rattle.rws_wire.specs.Reading.{◌>>=◌}
use Rattle.rws_reply.specs.Payloads.{column_count}
use Rattle.rws_result.specs.declared.rows.Rows.{Rows}
use Rattle.rws_result.specs.Cells.{Payload, is_eof, name_at, row_at, each}

-- the grammar: these payloads, in order, are a result set with these names and rows
pub data IsResultSet : List Payload → Rows → Type 0 where
  whole : (count eof last : Payload) (definitions rows : List Payload) (read : Rows)
      → column_count count ≡ Some (length definitions)
      → each name_at definitions ≡ Ok read.names
      → is_eof eof ≡ true
      → each (row_at (length definitions)) rows ≡ Ok read.rows
      → is_eof last ≡ true
      → IsResultSet (count ∷ (definitions ++ (eof ∷ (rows ++ (last ∷ []))))) read

-- The same as a function: first the parts by their places, then what they are read as.

pub record Parts : Type 0 where
  pub definitions : List Payload
  pub rows : List Payload

-- what stands before the last payload, which is an EOF
abbrev pub before_eof : List Payload → Option (List Payload)
before_eof [] = None
before_eof (last ∷ []) = if is_eof last then Some [] else None
before_eof (row ∷ (next ∷ others)) = option_map (λ rows. row ∷ rows) (before_eof (next ∷ others))

-- behind the definitions stand an EOF, rows and an EOF
abbrev pub with_rows : List Payload → List Payload → Option Parts
with_rows definitions [] = None
with_rows definitions (eof ∷ others) =
    if is_eof eof then option_map (λ rows. record { definitions = definitions; rows = rows }) (before_eof others) else None

abbrev pub parted : List Payload → ℕ → Option Parts
parted others columns = with_rows (take columns others) (drop columns others)

abbrev pub parts_of : List Payload → Option Parts
parts_of [] = None
parts_of (count ∷ others) = option_and_then (parted others) (column_count count)

-- each definition and each row can be read
unfoldable pub read_parts : Parts → Option Rows
read_parts parts = result_ok (do
  names ← each name_at parts.definitions
  rows ← each (row_at (length parts.definitions)) parts.rows
  Ok (record { names = names; rows = rows }))

-- the names and rows of the result set that these payloads are, if they are one
unfoldable pub result_set : List Payload → Option Rows
result_set payloads = option_and_then read_parts (parts_of payloads)

-- the function finds what the grammar has, and nothing else
abbrev pub ResultSetsAreRead : Type 0
ResultSetsAreRead = (payloads : List Payload) (read : Rows) → (result_set payloads ≡ Some read) ↔ IsResultSet payloads read
