use Rattle.std.proofs.Common.{length}
use Rattle.rws_wire.proofs.GatheringLemmas.{Gathers}
use Rattle.rws_wire.proofs.gathering.gather.Given as goal

abbrev pub invariant-packets : goal.invariant-packets
invariant-packets l = Gathers l.limit l.first l.bytes l.number l.payload.items l.rest

abbrev pub decreases-packets : goal.decreases-packets
decreases-packets l = length l.rest
