use Rattle.std.proofs.Common.{arith, length-drop}
use Rattle.std.proofs.KnownBytes.{Appends-trans}
use Rattle.std.proofs.lemmas.List.{take_rest}
use Rattle.rws_board.proofs.Fronts.{take-add}
use Rattle.rws_board.proofs.write_sink.write_through.Goals as goal

-- what was written now follows what was written before
pub loop-done-preserved : goal.loop-done-preserved
loop-done-preserved g c =
    let piece = c.args.piece.now in
    let done = c.loop-done.done in
    let rest = take_rest piece done in
    let appended = rw rest at c.in-Ok.ensures.bytes in
    let within = rw rest at c.in-Ok.ensures.bound in (
      omega (arith, within, length-drop done piece),
      rw (take-add done c.in-Ok.count piece (omega arith)) (Appends-trans _ _ _ _ _ c.loop-done.invariant.1 appended),
    )
