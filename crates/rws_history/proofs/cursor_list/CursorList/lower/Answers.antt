use Rattle.std.proofs.Common.{◌<◌, ℕ, get_or, set, length, ap, ◌∙◌, arith}
use Rattle.rws_history.specs.declared.cursor_list.LinkCursor.{LinkCursor}
use Rattle.rws_history.specs.Cursors.{cursor_lowered}
use Rattle.rws_history.proofs.CursorLemmas.{map_one_more}
use Rattle.rws_history.proofs.cursor_list.CursorList.lower.Goals as goal

pub loop-cursor-preserved : goal.loop-cursor-preserved
loop-cursor-preserved c =
    let d : LinkCursor = record { link = 0; at = 0 } in
    let inside : c.loop-cursor.cursor-index < length c.deref_mut-cursor-items.result.now = omega arith in
    ap (λ (at : ℕ). set c.loop-cursor.cursor-items c.loop-cursor.cursor-index (record { link = (get_or c.loop-cursor.cursor-items c.loop-cursor.cursor-index d).link; at = at })) c.lowered-cursor.ensures
    ∙ map_one_more (cursor_lowered c.args.removed) c.deref_mut-cursor-items.result.now c.loop-cursor.cursor-items c.loop-cursor.cursor-index d inside c.loop-cursor.invariant
