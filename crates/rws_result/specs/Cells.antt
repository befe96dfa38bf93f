-- What single payloads of a text result set are read as ("Column Definition Packet" and "Text Resultset Row", in "Result Set
-- Packets" of MariaDB's protocol documentation). A payload is the list of its bytes.
use Rattle.std.specs.Prelude.{ℕ, zero, suc, ◌==◌, Bool, List, [], ◌∷◌, Option, Some, None, Result, Ok, Err, is_ok, if◌then◌else◌}
use Rattle.rws_wire.specs.Reading.{◌>>=◌}
use Rattle.rws_msgs.specs.declared.fault.MsgFault.{MsgFault}
use Rattle.rws_msgs.specs.declared.fault.MsgFault.TheVariants.{Short}
use Rattle.rws_msgs.specs.Fields.{text_at, ended}
use Rattle.rws_msgs.specs.EofLayout.{eof_at}
use Rattle.rws_result.specs.declared.cells.TheConstants.{NULL}

abbrev pub Payload : Type 0
Payload = List ℕ

-- a column of a row: its text, or None where it is NULL
abbrev pub Cell : Type 0
Cell = Option (List ℕ)

abbrev pub is_eof : Payload → Bool
is_eof payload = is_ok (eof_at payload)

-- the name in a column's definition, the fifth of six texts: catalog, schema, table, original table, name, original name.
-- What follows them isn't looked at
unfoldable pub name_at : Payload → Result (List ℕ) MsgFault
name_at payload = do
  catalog ← text_at payload
  schema ← text_at catalog.1
  table ← text_at schema.1
  original_table ← text_at table.1
  name ← text_at original_table.1
  original_name ← text_at name.1
  Ok name.0

-- a column at the front: the byte of NULL, or a text behind its length
unfoldable pub cell_at : List ℕ → Result (Cell × List ℕ) MsgFault
cell_at [] = Err Short
cell_at (first ∷ bytes) = if first == NULL then Ok (None, bytes) else (do
  text ← text_at (first ∷ bytes)
  Ok (Some text.0, text.1))

-- a row of so many columns, with nothing behind them
unfoldable pub row_at : ℕ → Payload → Result (List Cell) MsgFault
row_at zero bytes = ended [] bytes
row_at (suc columns) bytes = do
  cell ← cell_at bytes
  others ← row_at columns cell.1
  Ok (cell.0 ∷ others)

-- what each of these is read as, if each can be read
abbrev pub each : {A B E : Type 0} → (A → Result B E) → List A → Result (List B) E
each read [] = Ok []
each read (x ∷ xs) = do
  first ← read x
  others ← each read xs
  Ok (first ∷ others)
