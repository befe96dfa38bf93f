use Rattle.rws_wire.proofs.StreamLemmas.{streams_are_read}
use Rattle.rws_wire.proofs.law.streams_are_read.Goals as goal

pub returns : goal.returns
returns c = streams_are_read
