use Rattle.std.proofs.Common.{◌≡◌, drop}
use Rattle.rws_result.specs.Cells.{each, name_at}
use Rattle.rws_result.proofs.CellLemmas.{behind}
use Rattle.rws_result.proofs.parts.Parts.names.Given as goal

abbrev pub invariant-loop-definition : goal.invariant-loop-definition
invariant-loop-definition l = behind l.names (each name_at (drop l.definition-index l.self.definitions.now)) ≡ each name_at l.self.definitions.now
