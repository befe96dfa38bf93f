-- The form of an OK for a client without CLIENT_SESSION_TRACK.
use Rattle.std.specs.Prelude.{◌-◌, [], bit_and}
use Rattle.rws_msgs.specs.declared.ok_msg.OkMsg.{OkMsg}
use Rattle.rws_msgs.specs.declared.status.TheConstants.{SESSION_STATE_CHANGED}

-- no state, and a status of 16 bits without the one that says that there is one
abbrev pub client_form : OkMsg → OkMsg
client_form ok = record ok { status = bit_and ok.status (0xFFFF - SESSION_STATE_CHANGED); state = [] }
