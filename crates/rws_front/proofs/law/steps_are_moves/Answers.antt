use Rattle.rws_front.proofs.OrderLemmas.{steps_are_moves}
use Rattle.rws_front.proofs.law.steps_are_moves.Goals as goal

pub returns : goal.returns
returns c = steps_are_moves
