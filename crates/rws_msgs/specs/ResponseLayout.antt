-- Handshake Response Packet of a client with CLIENT_PROTOCOL_41: which fields stand there is said by the client's capabilities.
use Rattle.std.specs.Prelude.{ℕ, ◌<◌, ◌^◌, ◌%◌, Bool, true, false, not, ◌&&◌, ◌==◌, bit_and, List, [], ◌∷◌, ◌++◌, length, replicate, Option, Some, None, Result, Ok}
use Rattle.rws_wire.specs.Numbers.{bytes_of}
use Rattle.rws_msgs.specs.declared.fault.MsgFault.{MsgFault}
use Rattle.rws_msgs.specs.declared.response.Response.{Response}
use Rattle.rws_msgs.specs.declared.capability.TheConstants.{CONNECT_WITH_DB, PLUGIN_AUTH, CONNECT_ATTRS, PLUGIN_AUTH_LENENC_CLIENT_DATA}
use Rattle.rws_msgs.specs.Fields.{HasNoZero, bytes_at, number_at, text_at, text_bytes, zero_text_at, last_text_at, ended}
use Rattle.rws_wire.specs.Reading.{◌>>=◌}

-- whether a capability is among the flags
unfoldable pub has : ℕ → ℕ → Bool
has flags bit = not (bit_and flags bit == 0)

-- what the flags say of the fields
abbrev pub with_database : ℕ → Bool
with_database flags = has flags CONNECT_WITH_DB

abbrev pub with_plugin : ℕ → Bool
with_plugin flags = has flags PLUGIN_AUTH

abbrev pub with_attributes : ℕ → Bool
with_attributes flags = has flags CONNECT_ATTRS

abbrev pub with_lenenc : ℕ → Bool
with_lenenc flags = has flags PLUGIN_AUTH_LENENC_CLIENT_DATA

-- a text behind its length, a length-encoded integer or one byte
unfoldable pub answer_at : Bool → List ℕ → Result (List ℕ × List ℕ) MsgFault
answer_at true bytes = text_at bytes
answer_at false bytes = do
  size ← number_at 1 bytes
  bytes_at size.0 size.1

-- a text that is there or not; the last one may lack its zero byte
unfoldable pub name_at : Bool → Bool → List ℕ → Result (Option (List ℕ) × List ℕ) MsgFault
name_at false last bytes = Ok (None, bytes)
name_at true true bytes = Ok (Some (last_text_at bytes).0, (last_text_at bytes).1)
name_at true false bytes = do
  text ← zero_text_at bytes
  Ok (Some text.0, text.1)

-- attributes are read over
unfoldable pub attributes_at : Bool → List ℕ → Result (List ℕ) MsgFault
attributes_at false bytes = Ok bytes
attributes_at true bytes = do
  attributes ← text_at bytes
  Ok attributes.1

-- the database and the plugin
unfoldable pub names_at : ℕ → List ℕ → Result (Option (List ℕ) × Option (List ℕ)) MsgFault
names_at flags bytes = do
  database ← name_at (with_database flags) (not (with_plugin flags) && not (with_attributes flags)) bytes
  plugin ← name_at (with_plugin flags) (not (with_attributes flags)) database.1
  rest ← attributes_at (with_attributes flags) plugin.1
  ended (database.0, plugin.0) rest

unfoldable pub response_at : List ℕ → Result Response MsgFault
response_at payload = do
  flags ← number_at 4 payload
  greatest ← number_at 4 flags.1
  charset ← number_at 1 greatest.1
  filler ← bytes_at 23 charset.1
  user ← zero_text_at filler.1
  answer ← answer_at (with_lenenc flags.0) user.1
  names ← names_at flags.0 answer.1
  Ok (record {
    flags = flags.0;
    charset = charset.0;
    user = user.0;
    answer = answer.0;
    database = names.0;
    plugin = names.1;
  })

-- behind one byte a length that it can't hold is cut
unfoldable pub answer_bytes : Bool → List ℕ → List ℕ
answer_bytes true answer = text_bytes answer
answer_bytes false answer = (length answer % 256) ∷ answer

unfoldable pub name_bytes : Option (List ℕ) → List ℕ
name_bytes None = []
name_bytes (Some text) = text ++ 0x00 ∷ []

-- an empty list
unfoldable pub attributes_bytes : Bool → List ℕ
attributes_bytes false = []
attributes_bytes true = 0x00 ∷ []

unfoldable pub names_bytes : Response → List ℕ
names_bytes response = name_bytes response.database ++ (name_bytes response.plugin ++ attributes_bytes (with_attributes response.flags))

-- the greatest packet is 16 MiB
unfoldable pub front_bytes : Response → List ℕ
front_bytes response =
    bytes_of 4 response.flags ++ (bytes_of 4 0x1000000 ++ response.charset ∷ (replicate 23 0 ++ (response.user ++ 0x00 ∷ [])))

unfoldable pub response_bytes : Response → List ℕ
response_bytes response =
    front_bytes response ++ (answer_bytes (with_lenenc response.flags) response.answer ++ names_bytes response)

-- a name that is there where it is to be
abbrev pub IsName : Bool → Option (List ℕ) → Type 0
IsName true (Some text) = HasNoZero text
IsName true None = ⊥
IsName false (Some text) = ⊥
IsName false None = Unit {0}

abbrev pub IsAnswer : Bool → List ℕ → Type 0
IsAnswer true answer = Unit {0}
IsAnswer false answer = length answer < 256

-- what can be decoded
pub record IsResponse (response : Response) : Type 0 where
  pub user : HasNoZero response.user
  pub answer : IsAnswer (with_lenenc response.flags) response.answer
  pub database : IsName (with_database response.flags) response.database
  pub plugin : IsName (with_plugin response.flags) response.plugin

-- the ranges of the fields
pub record ResponseFits (response : Response) : Type 0 where
  pub flags : response.flags < 2 ^ 32
  pub answer : length response.answer < 2 ^ 64
