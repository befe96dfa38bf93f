use Rattle.rws_msgs.proofs.GreetingLemmas.{joined_is}
use Rattle.rws_msgs.proofs.greeting.joined.Goals as goal

pub returns : goal.returns
returns c = rw (c.copy_from_slice.ensures.after, c.copy_from_slice-2.ensures.after) (joined_is c.args.first.now c.args.last.now c.told-first)
