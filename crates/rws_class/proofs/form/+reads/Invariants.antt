use Rattle.std.proofs.Common.{length}
use Rattle.rws_class.proofs.form.+reads.Given as goal

abbrev pub decreases-reads : goal.decreases-reads
decreases-reads l = length l.parts.now
