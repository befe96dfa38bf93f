use Rattle.std.proofs.Common.{◌≡◌, ◌++◌, take, drop}
use Rattle.rws_history.specs.Cursors.{all_lowered}
use Rattle.rws_history.proofs.cursor_list.CursorList.lower.Given as goal

abbrev pub invariant-loop-cursor : goal.invariant-loop-cursor
invariant-loop-cursor l = l.cursor-items ≡ all_lowered l.removed (take l.cursor-index l.initial.cursor-items) ++ drop l.cursor-index l.initial.cursor-items
