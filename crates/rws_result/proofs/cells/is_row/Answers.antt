use Rattle.std.proofs.Common.{◌∙◌, arith}
use Rattle.rws_result.proofs.CellLemmas.{looks_on, looks_bad, looks_over}
use Rattle.rws_result.proofs.cells.is_row.Goals as goal

pub returns-in-Err : goal.returns-in-Err
returns-in-Err c = looks_bad c.args.columns c.loop-column.column c.loop-column.rest.now c.in-Err.field-0 _ (omega arith) c.in-Err.ensures c.loop-column.invariant

pub loop-column-preserved : goal.loop-column-preserved
loop-column-preserved c = looks_on c.args.columns c.loop-column.column c.loop-column.rest.now c.in-Ok.behind.now _ _ (omega arith) c.in-Ok.ensures c.loop-column.invariant

pub returns : goal.returns
returns c = c.is_empty.ensures ∙ looks_over c.args.columns c.loop-column.column c.loop-column.rest.now _ (omega arith) c.loop-column.invariant
