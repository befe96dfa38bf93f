use Rattle.rws_wire.proofs.PayloadLemmas.{first_payload-Whole-append, first_payload-Faulty-append}
use Rattle.rws_wire.proofs.StreamLemmas.{streams_are_kept}
use Rattle.rws_wire.proofs.law.later_bytes_change_nothing.Goals as goal

pub returns-clause-payload : goal.returns-clause-payload
returns-clause-payload c = first_payload-Whole-append

pub returns-clause-fault : goal.returns-clause-fault
returns-clause-fault c = first_payload-Faulty-append

pub returns-clause-stream : goal.returns-clause-stream
returns-clause-stream c = streams_are_kept
