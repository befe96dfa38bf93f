use Rattle.std.proofs.Common.{arith, length-take, length-drop}
use Rattle.rws_trace.proofs.Fronts.{range-skip}
use Rattle.rws_trace.proofs.piece.Piece.skip.Goals as goal

pub returns : goal.returns
returns c =
    let items = c.self.inside.buffer.items in
    let start = c.self.inside.start in
    let end = c.self.inside.end in
    let within = rw (← c.self.view_is, length-take, length-drop) at c.requires in
    rw (← c.self.view_is) (range-skip items start end c.args.count (omega (arith, within)))
