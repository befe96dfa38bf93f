use Rattle.rws_msgs.specs.Fields.{HasNoZero}
use Rattle.rws_links.proofs.tests.open.Goals as goal

pub new-login-requires-clause-user : goal.new-login-requires-clause-user
unfolding HasNoZero
new-login-requires-clause-user c = rw c.empty.ensures tt
