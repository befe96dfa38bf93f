use Rattle.std.proofs.Common.{◌≡◌, drop}
use Rattle.rws_result.specs.Cells.{each, row_at}
use Rattle.rws_result.proofs.CellLemmas.{behind}
use Rattle.rws_result.proofs.parts.Parts.rows.Given as goal

abbrev pub invariant-loop-payload : goal.invariant-loop-payload
invariant-loop-payload l = behind l.rows (each (row_at l.columns) (drop l.payload-index l.self.rows.now)) ≡ each (row_at l.columns) l.self.rows.now
