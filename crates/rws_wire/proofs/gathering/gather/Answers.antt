use Rattle.std.proofs.Common.{◌≡◌, length, arith}
use Rattle.rws_wire.specs.declared.packet.Packet.TheVariants.{Partial, Bad, More, Last}
use Rattle.rws_wire.proofs.GatheringLemmas.{at_length, whole_not_partial, whole_not_bad, gathers_none, gathers_partial, gathers_bad, gathers_last, last_spelled, gathers_more}
use Rattle.rws_wire.proofs.gathering.gather.Goals as goal

pub packets-init : goal.packets-init
packets-init c = gathers_none c.args.limit c.args.first c.args.bytes.now c.in_ok-payload.payload.items c.in_ok-payload.ensures.items

pub unreachable-requires : goal.unreachable-requires
unreachable-requires c =
    let same : c.len.result ≡ length c.packets.payload.items = omega arith in
    let read = at_length c.args.limit c.packets.number c.len.result c.packets.payload.items c.packets.rest.now Partial same c.in-Partial.ensures in
    whole_not_partial _ c.args.total c.requires.whole (gathers_partial c.args.limit c.args.first c.args.bytes.now c.packets.number c.packets.payload.items c.packets.rest.now c.packets.invariant read)

pub unreachable-requires-in-Bad : goal.unreachable-requires-in-Bad
unreachable-requires-in-Bad c =
    let same : c.len.result ≡ length c.packets.payload.items = omega arith in
    let read = at_length c.args.limit c.packets.number c.len.result c.packets.payload.items c.packets.rest.now (Bad c.in-Bad.field-0) same c.in-Bad.ensures in
    whole_not_bad _ c.args.total _ c.requires.whole (gathers_bad c.args.limit c.args.first c.args.bytes.now c.packets.number c.packets.payload.items c.packets.rest.now c.in-Bad.field-0 c.packets.invariant read)

pub returns-in-Last-clause-gathers : goal.returns-in-Last-clause-gathers
returns-in-Last-clause-gathers c =
    let same : c.len.result ≡ length c.packets.payload.items = omega arith in
    let read = at_length c.args.limit c.packets.number c.len.result c.packets.payload.items c.packets.rest.now (Last c.in-Last.size) same c.in-Last.ensures in
    rw (c.new.ensures, c.in_ok-extend_from_slice-in-Last.ensures.items, c.split_packet.ensures.chunk, c.split_packet.ensures.behind)
    (gathers_last c.args.limit c.args.first c.args.bytes.now c.packets.number c.packets.payload.items c.packets.rest.now c.in-Last.size c.packets.invariant read)

pub returns-in-Last-clause-spelled : goal.returns-in-Last-clause-spelled
returns-in-Last-clause-spelled c =
    let same : c.len.result ≡ length c.packets.payload.items = omega arith in
    let read = at_length c.args.limit c.packets.number c.len.result c.packets.payload.items c.packets.rest.now (Last c.in-Last.size) same c.in-Last.ensures in
    rw (c.new.ensures, c.in_ok-extend_from_slice-in-Last.ensures.items, c.split_packet.ensures.chunk, c.split_packet.ensures.behind)
    (last_spelled c.args.limit c.args.first c.args.bytes.now c.packets.number c.packets.payload.items c.packets.rest.now c.in-Last.size (λ i. omega (arith, c.type_inv.bytes i)) c.packets.invariant read)

pub packets-preserved : goal.packets-preserved
packets-preserved c =
    let same : c.len.result ≡ length c.packets.payload.items = omega arith in
    let read = at_length c.args.limit c.packets.number c.len.result c.packets.payload.items c.packets.rest.now (More c.in-More.size) same c.in-More.ensures in
    rw (c.in_ok-extend_from_slice-in-More.ensures.items, c.split_packet-in-More.ensures.chunk, c.split_packet-in-More.ensures.behind)
    (gathers_more c.args.limit c.args.first c.args.bytes.now c.packets.number c.packets.payload.items c.packets.rest.now c.in-More.size c.packets.invariant read)
