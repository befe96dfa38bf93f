use Rattle.std.proofs.Common.{length}
use Rattle.rws_links.proofs.history.+lead.Given as goal

abbrev pub decreases-lead : goal.decreases-lead
decreases-lead l = length l.links.now
