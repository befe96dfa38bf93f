use Rattle.std.proofs.Common.{◌++◌, sym}
use Rattle.rws_wire.specs.declared.packet.Packet.TheVariants.{Partial, Last}
use Rattle.rws_wire.proofs.DueLemmas.{counts_none, counts_by, counts_more}
use Rattle.rws_wire.proofs.due.number_due.Goals as goal

pub packets-init : goal.packets-init
packets-init c = counts_none c.args.limit c.args.first (c.args.held.now ++ c.args.piece.now)

pub returns-in-Partial : goal.returns-in-Partial
returns-in-Partial c = sym (counts_by c.args.limit c.args.first (c.args.held.now ++ c.args.piece.now) c.packets.number c.packets.before (c.packets.front.now ++ c.packets.back.now) Partial c.packets.invariant c.in-Partial.ensures)

pub returns-in-Last : goal.returns-in-Last
returns-in-Last c = sym (counts_by c.args.limit c.args.first (c.args.held.now ++ c.args.piece.now) c.packets.number c.packets.before (c.packets.front.now ++ c.packets.back.now) (Last c.in-Last.field-0) c.packets.invariant c.in-Last.ensures)

pub packets-preserved : goal.packets-preserved
packets-preserved c =
    rw (c.behind-in-More.ensures, c.behind.ensures)
    (counts_more c.args.limit c.args.first (c.args.held.now ++ c.args.piece.now) c.packets.number c.packets.before (c.packets.front.now ++ c.packets.back.now) c.in-More.size c.packets.invariant c.in-More.ensures)
