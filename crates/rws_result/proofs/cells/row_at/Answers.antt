use Rattle.std.proofs.Common.{◌∙◌, sym, arith}
use Rattle.rws_result.proofs.CellLemmas.{copies_on, copies_bad, copies_all, copies_long}
use Rattle.rws_result.proofs.cells.row_at.Goals as goal

pub returns-in-Err : goal.returns-in-Err
returns-in-Err c = copies_bad c.loop-column.row c.args.columns c.loop-column.column c.loop-column.rest.now c.in-Err.field-0 _ (omega arith) c.in-Err.ensures c.loop-column.invariant

pub loop-column-preserved : goal.loop-column-preserved
loop-column-preserved c =
    copies_on c.loop-column.row c.push.new.self c.args.columns c.loop-column.column c.loop-column.rest.now c.in-Ok.behind.now _ _ _ (omega arith)
    c.in-Ok.ensures c.in_ok-copied-in-Ok.ensures c.in_ok-push-in-Ok.ensures.ok c.loop-column.invariant

pub returns-then-is_empty : goal.returns-then-is_empty
returns-then-is_empty c =
    copies_all c.loop-column.row c.args.columns c.loop-column.column c.loop-column.rest.now _ (omega arith) (sym c.is_empty.ensures ∙ c.if-is_empty.true) c.loop-column.invariant

pub returns-else-is_empty : goal.returns-else-is_empty
returns-else-is_empty c =
    copies_long c.loop-column.row c.args.columns c.loop-column.column c.loop-column.rest.now _ (omega arith) (sym c.is_empty.ensures ∙ c.if-is_empty.false) c.loop-column.invariant
