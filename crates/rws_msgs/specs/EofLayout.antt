-- EOF_Packet of a client with CLIENT_PROTOCOL_41: five bytes.
use Rattle.std.specs.Prelude.{ℕ, ◌<◌, ◌^◌, List, ◌∷◌, ◌++◌, Result}
use Rattle.rws_wire.specs.Numbers.{bytes_of}
use Rattle.rws_msgs.specs.declared.fault.MsgFault.{MsgFault}
use Rattle.rws_msgs.specs.declared.eof_msg.EofMsg.{EofMsg}
use Rattle.rws_msgs.specs.Fields.{fixed_at, number_at, ended}
use Rattle.rws_wire.specs.Reading.{◌>>=◌}

unfoldable pub eof_at : List ℕ → Result EofMsg MsgFault
eof_at payload = do
  rest ← fixed_at 0xFE payload
  warnings ← number_at 2 rest
  status ← number_at 2 warnings.1
  ended (record { warnings = warnings.0; status = status.0 }) status.1

unfoldable pub eof_bytes : EofMsg → List ℕ
eof_bytes eof = 0xFE ∷ (bytes_of 2 eof.warnings ++ bytes_of 2 eof.status)

-- the ranges of the fields
pub record EofFits (eof : EofMsg) : Type 0 where
  pub warnings : eof.warnings < 2 ^ 16
  pub status : eof.status < 2 ^ 16
