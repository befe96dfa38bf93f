use Rattle.rws_link.specs.Stepping.{opened}
use Rattle.rws_msgs.specs.Fields.{HasNoZero}
use Rattle.rws_links.proofs.table.ready_link.Goals as goal

pub new-requires-clause-user : goal.new-requires-clause-user
unfolding HasNoZero
new-requires-clause-user c = rw c.empty.ensures tt

pub returns : goal.returns
returns c = c.ready.ensures (opened _) c.in_ok-link.ensures
