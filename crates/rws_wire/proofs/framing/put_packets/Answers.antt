use Rattle.std.proofs.Common.{arith}
use Rattle.rws_wire.proofs.FramingLemmas.{behind_shorter, chunk_small, writes_none, writes_more, writes_last}
use Rattle.rws_wire.proofs.PayloadLemmas.{full_packet-lt}
use Rattle.rws_wire.proofs.framing.put_packets.Goals as goal

pub packets-init : goal.packets-init
packets-init c = writes_none c.args.first c.args.payload.now c.args.out.now.items

pub put_packet-requires : goal.put_packet-requires
put_packet-requires c = chunk_small c.packets.rest.now c.in-Some.chunk.now c.in-Some.ensures.0

pub packets-smaller : goal.packets-smaller
packets-smaller c = behind_shorter c.packets.rest.now c.in-Some.behind.now c.in-Some.ensures.1 c.in-Some.ensures.2

pub packets-preserved : goal.packets-preserved
packets-preserved c =
    rw (c.in_ok-put_packet.ensures.ok, c.in-Some.ensures.0, c.in-Some.ensures.1)
    (writes_more c.args.first c.args.payload.now c.args.out.now.items c.packets.number c.packets.rest.now c.packets.out.items c.in-Some.ensures.2 c.packets.invariant)

pub put_packet-requires-2 : goal.put_packet-requires-2
put_packet-requires-2 c = omega (arith, full_packet-lt, c.in_default.ensures)

pub returns-clause-ok : goal.returns-clause-ok
returns-clause-ok c =
    rw c.in_ok-put_packet-2.ensures.ok
    (writes_last c.args.first c.args.payload.now c.args.out.now.items c.packets.number c.packets.rest.now c.packets.out.items (omega arith) c.packets.invariant).0
