use Rattle.rws_link.proofs.LaterLemmas.{later_bytes}
use Rattle.rws_link.proofs.law.later_bytes_change_nothing.Goals as goal

pub returns : goal.returns
returns c = later_bytes
