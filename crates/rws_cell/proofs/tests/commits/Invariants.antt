use Rattle.std.proofs.Common.{◌≡◌}
use Rattle.rws_cell.proofs.tests.commits.Given as goal

abbrev pub invariant-loop-turn : goal.invariant-loop-turn
invariant-loop-turn g l = l.pass.cell ≡ l.cell.cell
