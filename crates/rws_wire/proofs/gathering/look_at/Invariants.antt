use Rattle.std.proofs.Common.{length}
use Rattle.rws_wire.proofs.GatheringLemmas.{Looks}
use Rattle.rws_wire.proofs.gathering.look_at.Given as goal

abbrev pub invariant-packets : goal.invariant-packets
invariant-packets l = Looks l.limit l.first l.bytes l.number l.before l.rest

abbrev pub decreases-packets : goal.decreases-packets
decreases-packets l = length l.rest
