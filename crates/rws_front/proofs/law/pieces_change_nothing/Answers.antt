use Rattle.rws_front.proofs.PieceLemmas.{steps_are_kept}
use Rattle.rws_front.proofs.law.pieces_change_nothing.Goals as goal

pub returns : goal.returns
returns c = steps_are_kept
