use Rattle.std.proofs.Common.{◌≡◌, take, drop}
use Rattle.rws_msgs.specs.Fields.{zero_text_at, HasNoZero}
use Rattle.rws_msgs.proofs.FieldLemmas.{with_front}
use Rattle.rws_msgs.proofs.fields.zero_text_at.Given as goal

abbrev pub invariant-bytes : goal.invariant-bytes
invariant-bytes l =
    (with_front (take l.i l.bytes) (zero_text_at (drop l.i l.bytes)) ≡ zero_text_at l.bytes) × HasNoZero (take l.i l.bytes)
