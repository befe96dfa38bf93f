-- An EOF is decoded again from what `encode` writes.
use Rattle.std.proofs.Common.{◌≡◌, ◌++◌, Ok, refl}
use Rattle.rws_wire.specs.Numbers.{bytes_of}
use Rattle.rws_msgs.specs.declared.eof_msg.EofMsg.{EofMsg}
use Rattle.rws_msgs.specs.Fields.{ended}
use Rattle.rws_msgs.specs.EofLayout.{EofFits, eof_at, eof_bytes}
use Rattle.rws_msgs.proofs.FieldLemmas.{fixed_again, number_again, last_number_again}

pub eof_again : (eof : EofMsg) → EofFits eof → eof_at (eof_bytes eof) ≡ Ok eof
unfolding eof_at eof_bytes ended
eof_again eof fits =
    rw (
      fixed_again 0xFE (bytes_of 2 eof.warnings ++ bytes_of 2 eof.status),
      number_again 2 eof.warnings (bytes_of 2 eof.status) fits.warnings,
      last_number_again 2 eof.status fits.status,
    ) refl
