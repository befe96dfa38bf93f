-- Initial Handshake Packet of a server with CLIENT_PROTOCOL_41 and CLIENT_PLUGIN_AUTH. The scramble and the capabilities stand in two
-- pieces each, which are joined.
use Rattle.std.specs.Prelude.{◌≡◌, ℕ, ◌<◌, ◌^◌, List, [], ◌∷◌, ◌++◌, length, take, drop, replicate, Result, Ok}
use Rattle.rws_wire.specs.Numbers.{bytes_of, number_of}
use Rattle.rws_msgs.specs.declared.fault.MsgFault.{MsgFault}
use Rattle.rws_msgs.specs.declared.greeting.Greeting.{Greeting}
use Rattle.rws_msgs.specs.declared.greeting.Abilities.{Abilities}
use Rattle.rws_msgs.specs.Fields.{bytes_at, ended, fixed_at, last_text_at, number_at, zero_text_at}
use Rattle.rws_wire.specs.Reading.{◌>>=◌}

-- the character set and the status, between the halves of the capabilities
unfoldable pub abilities_at : List ℕ → Result (Abilities × List ℕ) MsgFault
abilities_at bytes = do
  low ← bytes_at 2 bytes
  charset ← number_at 1 low.1
  status ← number_at 2 charset.1
  high ← bytes_at 2 status.1
  Ok (record { capabilities = number_of (low.0 ++ high.0); charset = charset.0; status = status.0 }, high.1)

-- the scramble's last piece, behind its length and a filler, which are read over
unfoldable pub last_piece_at : List ℕ → Result (List ℕ × List ℕ) MsgFault
last_piece_at bytes = do
  size ← number_at 1 bytes
  filler ← bytes_at 10 size.1
  piece ← bytes_at 12 filler.1
  rest ← fixed_at 0x00 piece.1
  Ok (piece.0, rest)

unfoldable pub plugin_at : List ℕ → Result (List ℕ) MsgFault
plugin_at bytes = ended (last_text_at bytes).0 (last_text_at bytes).1

unfoldable pub greeting_at : List ℕ → Result Greeting MsgFault
greeting_at payload = do
  rest ← fixed_at 0x0A payload
  version ← zero_text_at rest
  id ← number_at 4 version.1
  piece ← bytes_at 8 id.1
  behind ← fixed_at 0x00 piece.1
  abilities ← abilities_at behind
  last ← last_piece_at abilities.1
  plugin ← plugin_at last.1
  Ok (record {
    version = version.0;
    id = id.0;
    scramble = piece.0 ++ last.0;
    capabilities = abilities.0.capabilities;
    charset = abilities.0.charset;
    status = abilities.0.status;
    plugin = plugin;
  })

unfoldable pub abilities_bytes : Greeting → List ℕ
abilities_bytes greeting =
    take 2 (bytes_of 4 greeting.capabilities) ++ greeting.charset ∷ (bytes_of 2 greeting.status ++ drop 2 (bytes_of 4 greeting.capabilities))

unfoldable pub front_bytes : Greeting → List ℕ
front_bytes greeting =
    0x0A ∷ (greeting.version ++ 0x00 ∷ (bytes_of 4 greeting.id ++ (take 8 greeting.scramble ++ 0x00 ∷ abilities_bytes greeting)))

-- 21 is the length of the scramble and its zero byte
unfoldable pub back_bytes : Greeting → List ℕ
back_bytes greeting = 21 ∷ (replicate 10 0 ++ (drop 8 greeting.scramble ++ 0x00 ∷ (greeting.plugin ++ 0x00 ∷ [])))

unfoldable pub greeting_bytes : Greeting → List ℕ
greeting_bytes greeting = front_bytes greeting ++ back_bytes greeting

-- the ranges of the fields
pub record GreetingFits (greeting : Greeting) : Type 0 where
  pub id : greeting.id < 2 ^ 32
  pub scramble : length greeting.scramble ≡ 20
  pub capabilities : greeting.capabilities < 2 ^ 32
  pub status : greeting.status < 2 ^ 16
