-- The parts that were found, seen as lists.
use Rattle.std.specs.Prelude.{◌≡◌, Option, Some, None}
use Rattle.rws_result.specs.declared.parts.Parts.{Parts as Borrowed}
use Rattle.rws_result.specs.ResultSets.{Parts}

abbrev pub parts : Borrowed → Parts
parts found = record { definitions = found.definitions.now; rows = found.rows.now }

abbrev pub Finds : Option Borrowed → Option Parts → Type 0
Finds None found = found ≡ None
Finds (Some at) found = found ≡ Some (parts at)
