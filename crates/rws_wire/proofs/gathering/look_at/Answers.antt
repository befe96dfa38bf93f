use Rattle.std.proofs.Common.{sym, ap}
use Rattle.rws_wire.specs.Gathering.{look_of}
use Rattle.rws_wire.proofs.GatheringLemmas.{looks_none, looks_partial, looks_bad, looks_last, looks_more}
use Rattle.rws_wire.proofs.gathering.look_at.Goals as goal

pub packets-init : goal.packets-init
packets-init c = looks_none c.args.limit c.args.first c.args.bytes.now

pub returns-in-Partial : goal.returns-in-Partial
returns-in-Partial c = ap look_of (sym (looks_partial c.args.limit c.args.first c.args.bytes.now c.packets.number c.packets.before c.packets.rest.now c.packets.invariant (sym c.in-Partial.ensures)))

pub returns-in-Bad : goal.returns-in-Bad
returns-in-Bad c = sym (looks_bad c.args.limit c.args.first c.args.bytes.now c.packets.number c.packets.before c.packets.rest.now c.in-Bad.fault c.packets.invariant (sym c.in-Bad.ensures))

pub returns-in-Last : goal.returns-in-Last
returns-in-Last c = sym (looks_last c.args.limit c.args.first c.args.bytes.now c.packets.number c.packets.before c.packets.rest.now c.in-Last.size c.packets.invariant (sym c.in-Last.ensures))

pub packets-preserved : goal.packets-preserved
packets-preserved c =
    rw c.split_packet.ensures.behind
    (looks_more c.args.limit c.args.first c.args.bytes.now c.packets.number c.packets.before c.packets.rest.now c.in-More.size c.packets.invariant (sym c.in-More.ensures))
