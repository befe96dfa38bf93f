use Rattle.std.proofs.Common.{◌≡◌, ◌-◌}
use Rattle.rws_result.specs.Cells.{row_at}
use Rattle.rws_result.proofs.CellLemmas.{behind}
use Rattle.rws_result.proofs.cells.row_at.Given as goal

abbrev pub invariant-loop-column : goal.invariant-loop-column
invariant-loop-column l = behind l.row (row_at (l.columns - l.column) l.rest) ≡ row_at l.columns l.payload
