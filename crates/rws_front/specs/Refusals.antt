-- The errors with which a front ends ("ERR_Packet"), and why the session is closed then.
use Rattle.std.specs.Prelude.{ℕ, List, codes}
use Rattle.rws_wire.specs.declared.close_reason.CloseReason.{CloseReason}
use Rattle.rws_wire.specs.declared.close_reason.CloseReason.TheVariants as reasons
use Rattle.rws_wire.specs.declared.fault.WireFault.TheVariants.{OutOfOrder, TooLarge}
use Rattle.rws_msgs.specs.declared.err_msg.ErrMsg.{ErrMsg}
use Rattle.rws_front.specs.declared.refusal.Refusal.{Refusal}
use Rattle.rws_front.specs.declared.refusal.Refusal.TheVariants.{BadHandshake, AccessDenied, Fault}

abbrev pub error : ℕ → List ℕ → List ℕ → ErrMsg
error code state text = record { code = code; state = state; text = text }

abbrev pub error_of : Refusal → ErrMsg
error_of BadHandshake = error 1043 (codes "08S01") (codes "bad handshake")
error_of AccessDenied = error 1045 (codes "28000") (codes "access denied")
error_of (Fault (OutOfOrder want got)) = error 1156 (codes "08S01") (codes "packets out of order")
error_of (Fault (TooLarge length)) = error 1153 (codes "08S01") (codes "command too large")

abbrev pub reason_of : Refusal → CloseReason
reason_of BadHandshake = reasons.Handshake
reason_of AccessDenied = reasons.Access
reason_of (Fault (OutOfOrder want got)) = reasons.OutOfOrder want got
reason_of (Fault (TooLarge length)) = reasons.TooLarge length
