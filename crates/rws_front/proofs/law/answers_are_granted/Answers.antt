use Rattle.rws_front.proofs.LoginLemmas.{answers_are_granted}
use Rattle.rws_front.proofs.law.answers_are_granted.Goals as goal

pub returns : goal.returns
returns c = answers_are_granted
