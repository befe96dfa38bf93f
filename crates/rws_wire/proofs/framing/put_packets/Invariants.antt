use Rattle.std.proofs.Common.{length}
use Rattle.rws_wire.proofs.FramingLemmas.{Writes}
use Rattle.rws_wire.proofs.framing.put_packets.Given as goal

abbrev pub invariant-packets : goal.invariant-packets
invariant-packets l = Writes l.fn.first l.fn.payload l.initial.out.items l.number l.rest l.out.items

abbrev pub decreases-packets : goal.decreases-packets
decreases-packets l = length l.rest
