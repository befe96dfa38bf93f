use Rattle.rws_wire.proofs.LengthLemmas.{length_spelling, unread_is_bounded}
use Rattle.rws_wire.proofs.law.unread_bytes_are_bounded.Goals as goal

pub returns-clause-unread : goal.returns-clause-unread
returns-clause-unread c = unread_is_bounded

pub returns-clause-spelled : goal.returns-clause-spelled
returns-clause-spelled c = length_spelling
