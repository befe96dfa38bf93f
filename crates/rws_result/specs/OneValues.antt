-- A result set of one value, payload by payload; and that this is the result set which the payloads are.
use Rattle.std.specs.Prelude.{◌≡◌, ◌==◌, ℕ, List, [], ◌∷◌, Option, Some, None, Result, Ok, Err, is_ok, if◌then◌else◌}
use Rattle.rws_msgs.specs.declared.fault.MsgFault.{MsgFault}
use Rattle.rws_reply.specs.Payloads.{column_count}
use Rattle.rws_result.specs.declared.rows.Rows.{Rows}
use Rattle.rws_result.specs.declared.one_value.OneValue.{OneValue}
use Rattle.rws_result.specs.declared.one_value.OneValue.TheVariants.{Begins, Counted, Defined, Opened, Row, Whole, Other}
use Rattle.rws_result.specs.Cells.{Cell, Payload, is_eof, name_at, row_at}
use Rattle.rws_result.specs.ResultSets.{result_set}

abbrev pub counted : Option ℕ → OneValue
counted (Some columns) = if columns == 1 then Counted else Other
counted None = Other

abbrev pub only_cell_in : Result (List Cell) MsgFault → OneValue
only_cell_in (Ok (cell ∷ [])) = Row cell
only_cell_in _ = Other

-- the next payload
abbrev pub heard : OneValue → Payload → OneValue
heard Begins payload = counted (column_count payload)
heard Counted payload = if is_ok (name_at payload) then Defined else Other
heard Defined payload = if is_eof payload then Opened else Other
heard Opened payload = only_cell_in (row_at 1 payload)
heard (Row cell) payload = if is_eof payload then Whole cell else Other
heard (Whole cell) payload = Other
heard Other payload = Other

abbrev pub heard_all : OneValue → List Payload → OneValue
heard_all value [] = value
heard_all value (payload ∷ payloads) = heard_all (heard value payload) payloads

abbrev pub value_of : OneValue → Cell
value_of (Whole cell) = cell
value_of _ = None

-- the one cell of the one row of a result set; None where there is none, and where it is NULL
abbrev pub only_cell : List (List Cell) → Cell
only_cell ((cell ∷ []) ∷ []) = cell
only_cell _ = None

abbrev pub only_value : Option Rows → Cell
only_value (Some rows) = only_cell rows.rows
only_value None = None

-- What was heard of all payloads of a reply is the one value of the result set that they are.
abbrev pub OneValuesAreRead : Type 0
OneValuesAreRead = (payloads : List Payload) → value_of (heard_all Begins payloads) ≡ only_value (result_set payloads)
