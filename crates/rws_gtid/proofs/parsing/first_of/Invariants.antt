use Rattle.std.proofs.Common.{length}
use Rattle.rws_gtid.proofs.EntryLemmas.{IsLeft}
use Rattle.rws_gtid.proofs.parsing.first_of.Given as goal

abbrev pub invariant-loop-gtid : goal.invariant-loop-gtid
invariant-loop-gtid l = IsLeft l.list l.domain l.found l.at l.rest

abbrev pub decreases-loop-gtid : goal.decreases-loop-gtid
decreases-loop-gtid l = length l.rest
