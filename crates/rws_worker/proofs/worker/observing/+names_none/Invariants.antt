use Rattle.std.proofs.Common.{length}
use Rattle.rws_worker.proofs.worker.observing.+names_none.Given as goal

abbrev pub decreases-names_none : goal.decreases-names_none
decreases-names_none l = length l.seen.now
