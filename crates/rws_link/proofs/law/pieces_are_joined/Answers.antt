use Rattle.rws_link.proofs.LinkLemmas.{pieces_join}
use Rattle.rws_link.proofs.law.pieces_are_joined.Goals as goal

pub returns : goal.returns
returns c = pieces_join
