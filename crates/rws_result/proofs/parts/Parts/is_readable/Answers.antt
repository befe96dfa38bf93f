use Rattle.rws_result.specs.Found.{parts}
use Rattle.rws_result.proofs.PartLemmas.{readable_then, readable_else}
use Rattle.rws_result.proofs.parts.Parts.is_readable.Goals as goal

pub returns-then-are_definitions : goal.returns-then-are_definitions
returns-then-are_definitions c =
    readable_then (parts c.args.self) _ c.are_rows.result c.are_definitions.ensures c.if-are_definitions.true c.are_rows.ensures

pub returns-else-are_definitions : goal.returns-else-are_definitions
returns-else-are_definitions c = readable_else (parts c.args.self) _ c.are_definitions.ensures c.if-are_definitions.false
