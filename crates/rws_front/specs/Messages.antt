-- What a front sends in the connection phase, beside its errors.
use Rattle.std.specs.Prelude.{ℕ, List, [], codes}
use Rattle.rws_msgs.specs.declared.capability.TheConstants.{OFFERED_TO_CLIENTS}
use Rattle.rws_msgs.specs.declared.status.TheConstants.{AUTOCOMMIT}
use Rattle.rws_msgs.specs.declared.greeting.Greeting.{Greeting}
use Rattle.rws_msgs.specs.declared.ok_msg.OkMsg.{OkMsg}
use Rattle.rws_msgs.specs.declared.switch.Switch.{Switch}
use Rattle.rws_front.specs.declared.messages.TheConstants.{UTF8MB4_GENERAL_CI}

-- the one plugin that is offered
abbrev pub native_plugin : List ℕ
native_plugin = codes "mysql_native_password"

-- the greeting of a session with this number and scramble (Initial Handshake Packet)
abbrev pub greeting_of : ℕ → List ℕ → Greeting
greeting_of session scramble = record {
  version = codes "10.6.0-rwsplit";
  id = session;
  scramble = scramble;
  capabilities = OFFERED_TO_CLIENTS;
  charset = UTF8MB4_GENERAL_CI;
  status = AUTOCOMMIT;
  plugin = native_plugin;
}

-- the question for an answer by the native plugin (Authentication Switch Request)
abbrev pub switch_of : List ℕ → Switch
switch_of scramble = record { plugin = native_plugin; scramble = scramble }

-- what a login that is accepted is answered (OK_Packet)
abbrev pub welcome : OkMsg
welcome = record { affected = 0; insert_id = 0; status = AUTOCOMMIT; warnings = 0; info = []; state = [] }
