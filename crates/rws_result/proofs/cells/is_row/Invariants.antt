use Rattle.std.proofs.Common.{◌≡◌, ◌-◌, is_ok}
use Rattle.rws_result.specs.Cells.{row_at}
use Rattle.rws_result.proofs.cells.is_row.Given as goal

abbrev pub invariant-loop-column : goal.invariant-loop-column
invariant-loop-column l = is_ok (row_at (l.columns - l.column) l.rest) ≡ is_ok (row_at l.columns l.payload)
