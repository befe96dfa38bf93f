use Rattle.rws_front.proofs.LoginLemmas.{logins_are_proved}
use Rattle.rws_front.proofs.law.logins_are_proved.Goals as goal

pub returns : goal.returns
returns c = logins_are_proved
