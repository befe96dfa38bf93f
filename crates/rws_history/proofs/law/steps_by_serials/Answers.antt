use Rattle.rws_history.proofs.SerialLemmas.{places_follow}
use Rattle.rws_history.proofs.StepLemmas.{steps_agree}
use Rattle.rws_history.proofs.law.steps_by_serials.Goals as goal

pub returns : goal.returns
returns c = λ history serials next cursors mark are was. steps_agree history serials next cursors mark (places_follow serials next are) was
