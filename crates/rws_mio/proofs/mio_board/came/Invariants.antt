use Rattle.std.proofs.Common.{◌≡◌}
use Rattle.rws_mio.proofs.mio_board.came.Given as goal

-- no clock was given yet
abbrev pub invariant-loop : goal.invariant-loop
invariant-loop g l = l.timer.reading ≡ l.initial.timer.reading
