use Rattle.rws_wire.proofs.BeginningLemmas.{beginnings_are_read}
use Rattle.rws_wire.proofs.law.beginnings_are_read.Goals as goal

pub returns : goal.returns
returns c = beginnings_are_read
