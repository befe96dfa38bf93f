use Rattle.rws_link.proofs.LoginLemmas.{logins_read}
use Rattle.rws_link.proofs.law.logins_are_read.Goals as goal

pub returns : goal.returns
returns c = logins_read
