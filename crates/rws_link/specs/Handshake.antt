-- A client's side of the connection phase ("Connection" of MariaDB's protocol documentation), for one who has the first
-- stage of a password in place of the password: the server greets, the client responds, and the server takes the login, refuses
-- it, or asks for an answer by another plugin or over another scramble.
use Rattle.std.specs.Prelude.{ℕ, Bool, true, false, List, [], ◌&&◌, bit_and, bit_or, codes, nat_eq, Option, Some, None, Result, Ok, Err, if◌then◌else◌}
use Rattle.std.specs.Cmp.Lexicographic.{pointwise}
use Rattle.rws_wire.specs.Packets.{number_behind, spelling}
use Rattle.rws_msgs.specs.declared.fault.MsgFault.{MsgFault}
use Rattle.rws_msgs.specs.declared.greeting.Greeting.{Greeting}
use Rattle.rws_msgs.specs.declared.response.Response.{Response}
use Rattle.rws_msgs.specs.declared.switch.Switch.{Switch}
use Rattle.rws_msgs.specs.declared.capability.TheConstants.{CONNECT_WITH_DB, KEPT_FOR_LINKS, PLUGIN_AUTH, PROTOCOL_41, SECURE_CONNECTION, SENT_TO_SERVERS, SESSION_TRACK}
use Rattle.rws_msgs.specs.GreetingLayout.{greeting_at}
use Rattle.rws_msgs.specs.ResponseLayout.{has, response_bytes}
use Rattle.rws_msgs.specs.OkLayout.{ok_status}
use Rattle.rws_msgs.specs.ErrLayout.{err_code}
use Rattle.rws_msgs.specs.SwitchLayout.{plugin_asked, switch_at}
use Rattle.rws_native.specs.Native.{answer_of}
use Rattle.rws_native.specs.declared.login.Login.{Login}
use Rattle.rws_link.specs.declared.handshake.Handshake.{Handshake}
use Rattle.rws_link.specs.declared.handshake.Handshake.TheVariants.{Greeting as AwaitsGreeting, Answered}
use Rattle.rws_link.specs.declared.handshake.Reaction.{Reaction}
use Rattle.rws_link.specs.declared.handshake.Reaction.TheVariants.{Answers, Accepted, Loses}
use Rattle.rws_link.specs.declared.step.LinkCause.TheVariants as causes

-- the one plugin that is spoken
abbrev pub native_plugin : List ℕ
native_plugin = codes "mysql_native_password"

-- what proves the password over a scramble; an empty password is answered by no bytes
abbrev pub proof_over : Option (List ℕ) → List ℕ → List ℕ
proof_over (Some stage1) scramble = answer_of stage1 scramble
proof_over None scramble = []

-- The response

abbrev pub database_flag : Option (List ℕ) → ℕ
database_flag (Some database) = CONNECT_WITH_DB
database_flag None = 0

-- every link's own, those of the client that count on a link, and that a database is named
unfoldable pub flags_of : Login → ℕ
flags_of login = bit_or (bit_or SENT_TO_SERVERS (bit_and login.flags KEPT_FOR_LINKS)) (database_flag login.database)

-- Handshake Response Packet over the greeting's scramble
unfoldable pub response_of : Login → List ℕ → Response
response_of login scramble = record {
  flags = flags_of login;
  charset = login.charset;
  user = login.user;
  answer = proof_over login.stage1 scramble;
  database = login.database;
  plugin = Some native_plugin;
}

-- What a payload of the server leads to

-- this payload is sent as packets from this number on, and the server's next packet counts on from them
abbrev pub answered : List ℕ → Option (List ℕ) → ℕ → Reaction
answered payload stage1 number = Answers (spelling number payload) stage1 (number_behind number payload)

abbrev pub is_served : ℕ → Bool
is_served capabilities =
    has capabilities PROTOCOL_41 && has capabilities SECURE_CONNECTION && has capabilities PLUGIN_AUTH && has capabilities SESSION_TRACK

-- Initial Handshake Packet of a server that has what a link stands on; whatever plugin it names
abbrev pub greeted_by : Login → ℕ → Result Greeting MsgFault → Reaction
greeted_by login number (Err fault) = Loses causes.Greeting
greeted_by login number (Ok greeting) =
    if is_served greeting.capabilities then answered (response_bytes (response_of login greeting.scramble)) login.stage1 number
    else Loses causes.Greeting

-- Authentication Switch Request: the native plugin is answered over the scramble that the switch brings
abbrev pub switched_by : Option (List ℕ) → ℕ → Result Switch MsgFault → Reaction
switched_by stage1 number (Ok switch) = answered (proof_over stage1 switch.scramble) stage1 number
switched_by stage1 number (Err fault) = Loses causes.BadReply

-- another plugin is told by its name alone, whatever data stands behind it
abbrev pub asked_by : Option (List ℕ) → ℕ → List ℕ → Option (List ℕ) → Reaction
asked_by stage1 number payload None = Loses causes.BadReply
asked_by stage1 number payload (Some plugin) =
    if pointwise nat_eq plugin native_plugin then switched_by stage1 number (switch_at payload) else Loses causes.Plugin

-- an ERR_Packet, an OK_Packet, or else a switch
abbrev pub judged_by : Option (List ℕ) → ℕ → List ℕ → (err ok : Option ℕ) → Reaction
judged_by stage1 number payload (Some code) ok = Loses (causes.Login code)
judged_by stage1 number payload None (Some status) = Accepted
judged_by stage1 number payload None None = asked_by stage1 number payload (plugin_asked payload)

-- the number that the server's next packet is to have
abbrev pub due : Handshake → ℕ
due (AwaitsGreeting login) = 0
due (Answered stage1 next) = next

abbrev pub awaits_greeting : Handshake → Bool
awaits_greeting (AwaitsGreeting login) = true
awaits_greeting (Answered stage1 next) = false

-- what a payload leads to behind whose packets this number comes
unfoldable pub reaction : Handshake → List ℕ → ℕ → Reaction
reaction (AwaitsGreeting login) payload number = greeted_by login number (greeting_at payload)
reaction (Answered stage1 next) payload number = judged_by stage1 number payload (err_code payload) (ok_status true payload)
