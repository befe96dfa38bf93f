-- What the payloads of a reply are, but for OKs and ERRs, which `rws_msgs` defines ("Result Set Packets" of MariaDB's
-- protocol documentation). A payload is the list of its bytes.
use Rattle.std.specs.Prelude.{ℕ, suc, bit_and, Bool, false, not, ◌&&◌, ◌==◌, List, [], ◌∷◌, length, Option, Some, None, is_ok, nat_lt}
use Rattle.std.specs.Option.{option_map}
use Rattle.std.specs.Result.{result_ok}
use Rattle.rws_wire.specs.Lenenc.{Lenenc, Integer, lenenc}
use Rattle.rws_wire.specs.Reading.{◌>>=◌}
use Rattle.rws_msgs.specs.Fields.{text_at}
use Rattle.rws_msgs.specs.EofLayout.{eof_at}
use Rattle.rws_msgs.specs.PrepareOkLayout.{prepare_ok_at}

-- the status of an EOF
unfoldable pub eof_status : List ℕ → Option ℕ
eof_status payload = option_map (λ eof. eof.status) (result_ok (eof_at payload))

-- the columns and the parameters of a prepared statement
unfoldable pub prepared_counts : List ℕ → Option (ℕ × ℕ)
prepared_counts payload = option_map (λ ok. (ok.columns, ok.parameters)) (result_ok (prepare_ok_at payload))

-- bit 0x0008 of a status: another result follows
abbrev pub has_more_results : ℕ → Bool
has_more_results status = not (bit_and status 0x0008 == 0)

-- a number of at least 1 with nothing behind it
abbrev pub lone_count : Lenenc → Option ℕ
lone_count (Integer (suc n) []) = Some (suc n)
lone_count _ = None

-- how many columns a result has: a length-encoded number of at least 1, alone in its payload
unfoldable pub column_count : List ℕ → Option ℕ
column_count payload = lone_count (lenenc payload)

-- a column definition begins with six texts, of which the last is the original name; what follows them isn't looked at
unfoldable pub is_definition : List ℕ → Bool
is_definition payload = is_ok (do
  catalog ← text_at payload
  schema ← text_at catalog.1
  table ← text_at schema.1
  original_table ← text_at table.1
  name ← text_at original_table.1
  text_at name.1)

abbrev pub begins_with : ℕ → List ℕ → Bool
begins_with byte [] = false
begins_with byte (b ∷ bs) = b == byte

-- a row: any payload but one that begins with 0xFF, or with 0xFE and is shorter than 9 bytes; in a row, 0xFE stands
-- before the 8 bytes of the length of a column
unfoldable pub is_row : List ℕ → Bool
is_row payload = not (begins_with 0xFF payload) && not (begins_with 0xFE payload && nat_lt (length payload) 9)
