use Rattle.std.proofs.Common.{◌++◌, length}
use Rattle.rws_wire.proofs.DueLemmas.{Counts}
use Rattle.rws_wire.proofs.due.number_due.Given as goal

abbrev pub invariant-packets : goal.invariant-packets
invariant-packets l = Counts l.limit l.first (l.held ++ l.piece) l.number l.before (l.front ++ l.back)

abbrev pub decreases-packets : goal.decreases-packets
decreases-packets l = length (l.front ++ l.back)
