-- A result set of one value that is heard payload by payload, and the one that all payloads are.
use Rattle.std.proofs.Common.{◌≡◌, ℕ, suc, zero, ◌-◌, arith, Bool, true, false, cond, List, [], ◌∷◌, ◌++◌, length, take, drop, Option, Some, None, Result, Ok, Err, refl, sym, ap, ◌∙◌, subst}
use Rattle.std.specs.Prelude.{is_ok, ◌==◌}
use Rattle.std.specs.Option.{option_map, option_and_then}
use Rattle.std.specs.Result.{result_ok}
use Rattle.std.proofs.lemmas.Bool.Decides.{nat_tests}
use Rattle.rws_wire.specs.Reading.{◌>>=◌}
use Rattle.rws_wire.proofs.ReadingLemmas.{done, ok_is, bind_ok}
use Rattle.rws_msgs.specs.declared.fault.MsgFault.{MsgFault}
use Rattle.rws_reply.specs.Payloads.{column_count}
use Rattle.rws_result.specs.declared.rows.Rows.{Rows}
use Rattle.rws_result.specs.declared.one_value.OneValue.{OneValue}
use Rattle.rws_result.specs.declared.one_value.OneValue.TheVariants.{Begins, Counted, Defined, Opened, Row, Whole, Other}
use Rattle.std.proofs.lemmas.List.{length-take-le, length-drop}
use Rattle.rws_msgs.specs.Fields.{ended}
use Rattle.rws_result.specs.Cells.{Cell, cell_at, Payload, is_eof, name_at, row_at, each}
use Rattle.rws_result.specs.ResultSets.{Parts, before_eof, with_rows, parted, parts_of, read_parts, result_set}
use Rattle.rws_result.specs.OneValues.{counted, only_cell_in, heard, heard_all, value_of, only_cell, only_value, OneValuesAreRead}
use Rattle.rws_result.proofs.PartLemmas.{made}

abbrev parts : List Payload → List Payload → Parts
parts definitions rows = record { definitions = definitions; rows = rows }

abbrev Cells : Type 0
Cells = List Cell

-- What is heard is no value any more

none_of_other : (payloads : List Payload) → value_of (heard_all Other payloads) ≡ None
none_of_other [] = refl
none_of_other (payload ∷ payloads) = none_of_other payloads

none_by : (test : Bool) (cell : Cell) (payload : Payload) (payloads : List Payload)
    → value_of (heard_all (cond test (Whole cell) Other) (payload ∷ payloads)) ≡ None
none_by true cell payload payloads = none_of_other payloads
none_by false cell payload payloads = none_of_other payloads

-- What is read, by the name of the column and the rows

abbrev read_by : Result (List ℕ) MsgFault → Result (List Cells) MsgFault → Cell
read_by (Ok name) (Ok cells) = only_cell cells
read_by (Ok name) (Err e) = None
read_by (Err e) cells = None

read_is : (definition : Payload) (rows : List Payload)
    → only_value (read_parts (parts (definition ∷ []) rows)) ≡ read_by (name_at definition) (each (row_at 1) rows)
unfolding read_parts
read_is definition rows = by (name_at definition) (each (row_at 1) rows)
  where
    by : (name : Result (List ℕ) MsgFault) (cells : Result (List Cells) MsgFault)
        → only_value (result_ok ((name >>= λ first. done {A = List (List ℕ)} {E = MsgFault} [] >>= λ others. done {A = List (List ℕ)} {E = MsgFault} (first ∷ others))
        >>= λ names. cells >>= λ rows. done {A = Rows} {E = MsgFault} (made names rows))) ≡ read_by name cells
    by (Ok name) (Ok cells) = refl
    by (Ok name) (Err e) = refl
    by (Err e) cells = refl

-- the rows are what stands before an EOF
abbrev value_in : Result (List ℕ) MsgFault → Option (List Payload) → Cell
value_in name (Some rows) = read_by name (each (row_at 1) rows)
value_in name None = None

in_rows : (definition : Payload) (rows : Option (List Payload))
    → only_value (option_and_then read_parts (option_map (λ rows. parts (definition ∷ []) rows) rows)) ≡ value_in (name_at definition) rows
in_rows definition (Some rows) = read_is definition rows
in_rows definition None = refl

unnamed : (e : MsgFault) (rows : Option (List Payload)) → value_in (Err e) rows ≡ None
unnamed e (Some rows) = refl
unnamed e None = refl

-- Rows that were read, the first of which has these cells

abbrev behind : Cells → Result (List Cells) MsgFault → Result (List Cells) MsgFault
behind cells others = others >>= λ rows. done {A = List Cells} {E = MsgFault} (cells ∷ rows)

not_one : (name : List ℕ) (cells second : Cells) (others : Result (List Cells) MsgFault) → read_by (Ok name) (behind cells (behind second others)) ≡ None
not_one name [] second (Ok rows) = refl
not_one name (cell ∷ []) second (Ok rows) = refl
not_one name (cell ∷ (more ∷ cells)) second (Ok rows) = refl
not_one name cells second (Err e) = refl

no_cell : (name : List ℕ) (others : Result (List Cells) MsgFault) → read_by (Ok name) (behind [] others) ≡ None
no_cell name (Ok []) = refl
no_cell name (Ok (row ∷ rows)) = refl
no_cell name (Err e) = refl

many_cells : (name : List ℕ) (cell more : Cell) (cells : Cells) (others : Result (List Cells) MsgFault) → read_by (Ok name) (behind (cell ∷ (more ∷ cells)) others) ≡ None
many_cells name cell more cells (Ok []) = refl
many_cells name cell more cells (Ok (row ∷ rows)) = refl
many_cells name cell more cells (Err e) = refl

-- a second row
two_rows : (name : List ℕ) (cells : Cells) (row : Payload) (rows : List Payload) → read_by (Ok name) (behind cells (each (row_at 1) (row ∷ rows))) ≡ None
two_rows name cells row rows = by (row_at 1 row) (each (row_at 1) rows)
  where
    by : (second : Result Cells MsgFault) (others : Result (List Cells) MsgFault)
        → read_by (Ok name) (behind cells (second >>= λ first. others >>= λ rest. done {A = List Cells} {E = MsgFault} (first ∷ rest))) ≡ None
    by (Ok second) others = not_one name cells second others
    by (Err e) others = refl

-- behind the first row: the EOF, or something else
behind_row : (name : List ℕ) (cell : Cell) (row next : Payload) (others : List Payload) → row_at 1 row ≡ Ok (cell ∷ [])
    → value_of (heard_all (Row cell) (next ∷ others)) ≡ value_in (Ok name) (before_eof (row ∷ (next ∷ others)))
behind_row name cell row next [] read = by (is_eof next)
  where
    by : (test : Bool) → value_of (cond test (Whole cell) Other) ≡ value_in (Ok name) (option_map (λ rows. row ∷ rows) (cond {A = Option (List Payload)} test (Some []) None))
    by true = rw read refl
    by false = refl
behind_row name cell row next (payload ∷ others) read = none_by (is_eof next) cell payload others ∙ by (before_eof (payload ∷ others))
  where
    by : (rows : Option (List Payload)) → None ≡ value_in (Ok name) (option_map (λ rows. row ∷ rows) (option_map (λ rows. next ∷ rows) rows))
    by (Some rows) = rw read (sym (two_rows name (cell ∷ []) next rows))
    by None = refl

-- the first row
first_row : (name : List ℕ) (row next : Payload) (others : List Payload) (cells : Result Cells MsgFault) → row_at 1 row ≡ cells
    → value_of (heard_all (only_cell_in cells) (next ∷ others)) ≡ value_in (Ok name) (before_eof (row ∷ (next ∷ others)))
first_row name row next others (Ok (cell ∷ [])) read = behind_row name cell row next others read
first_row name row next others (Ok []) read = none_of_other others ∙ by (before_eof (next ∷ others))
  where
    by : (rows : Option (List Payload)) → None ≡ value_in (Ok name) (option_map (λ rows. row ∷ rows) rows)
    by (Some rows) = rw read (sym (no_cell name (each (row_at 1) rows)))
    by None = refl
first_row name row next others (Ok (cell ∷ (more ∷ cells))) read = none_of_other others ∙ by (before_eof (next ∷ others))
  where
    by : (rows : Option (List Payload)) → None ≡ value_in (Ok name) (option_map (λ rows. row ∷ rows) rows)
    by (Some rows) = rw read (sym (many_cells name cell more cells (each (row_at 1) rows)))
    by None = refl
first_row name row next others (Err e) read = none_of_other others ∙ by (before_eof (next ∷ others))
  where
    by : (rows : Option (List Payload)) → None ≡ value_in (Ok name) (option_map (λ rows. row ∷ rows) rows)
    by (Some rows) = rw read refl
    by None = refl

-- behind the definition and its EOF
in_set : (name : List ℕ) (rows : List Payload) → value_of (heard_all Opened rows) ≡ value_in (Ok name) (before_eof rows)
in_set name [] = refl
in_set name (row ∷ []) = by (row_at 1 row) ∙ ends (is_eof row)
  where
    by : (cells : Result Cells MsgFault) → value_of (only_cell_in cells) ≡ None
    by (Ok []) = refl
    by (Ok (cell ∷ [])) = refl
    by (Ok (cell ∷ (more ∷ cells))) = refl
    by (Err e) = refl

    ends : (test : Bool) → None ≡ value_in (Ok name) (cond {A = Option (List Payload)} test (Some []) None)
    ends true = refl
    ends false = refl
in_set name (row ∷ (next ∷ others)) = first_row name row next others (row_at 1 row) refl

-- behind the definition
behind_definition : (definition eof : Payload) (rows : List Payload) (name : Result (List ℕ) MsgFault) → name_at definition ≡ name → (test : Bool)
    → value_of (heard_all (heard (cond (is_ok name) Defined Other) eof) rows)
    ≡ only_value (option_and_then read_parts (cond {A = Option Parts} (is_eof eof) (option_map (λ rows. parts (definition ∷ []) rows) (before_eof rows)) None))
behind_definition definition eof rows (Ok name) read test = by (is_eof eof)
  where
    by : (test : Bool) → value_of (heard_all (cond test Opened Other) rows)
        ≡ only_value (option_and_then read_parts (cond {A = Option Parts} test (option_map (λ rows. parts (definition ∷ []) rows) (before_eof rows)) None))
    by true = in_set name rows ∙ sym (in_rows definition (before_eof rows) ∙ ap (λ (n : Result (List ℕ) MsgFault). value_in n (before_eof rows)) read)
    by false = none_of_other rows
behind_definition definition eof rows (Err e) read test = none_of_other rows ∙ by (is_eof eof)
  where
    by : (test : Bool) → None ≡ only_value (option_and_then read_parts (cond {A = Option Parts} test (option_map (λ rows. parts (definition ∷ []) rows) (before_eof rows)) None))
    by true = sym (in_rows definition (before_eof rows) ∙ (ap (λ (n : Result (List ℕ) MsgFault). value_in n (before_eof rows)) read ∙ unnamed e (before_eof rows)))
    by false = refl

-- behind the number of columns, which is 1
one_column : (others : List Payload) → value_of (heard_all Counted others) ≡ only_value (option_and_then read_parts (with_rows (take 1 others) (drop 1 others)))
one_column [] = refl
one_column (definition ∷ []) = by (is_ok (name_at definition))
  where
    by : (test : Bool) → value_of (cond test Defined Other) ≡ None
    by true = refl
    by false = refl
one_column (definition ∷ (eof ∷ rows)) = behind_definition definition eof rows (name_at definition) refl true

-- Another number of columns: each row has as many cells

length_row : (columns : ℕ) (bytes : Payload) (cells : Cells) → row_at columns bytes ≡ Ok cells → length cells ≡ columns
unfolding row_at ended
length_row zero [] cells e = ap length (sym (ok_is [] cells e))
length_row zero (byte ∷ bytes) cells e = absurd cc
length_row (suc columns) bytes cells e =
    let cell = bind_ok (cell_at bytes) (λ cell. row_at columns cell.1 >>= λ others. done {A = Cells} {E = MsgFault} (cell.0 ∷ others)) cells e in
    let others = bind_ok (row_at columns cell.0.1) (λ others. done {A = Cells} {E = MsgFault} (cell.0.0 ∷ others)) cells cell.2 in
    ap length (sym (ok_is (cell.0.0 ∷ others.0) cells others.2)) ∙ ap suc (length_row columns cell.0.1 others.0 others.1)

not_single : (columns : ℕ) (cells : Cells) (rest : List Cells) → length cells ≡ columns → (columns == 1) ≡ false → only_cell (cells ∷ rest) ≡ None
not_single columns [] [] is more = refl
not_single columns [] (row ∷ rows) is more = refl
not_single columns (cell ∷ []) rest is more = absurd (one_is_one (ap (λ (n : ℕ). n == 1) is ∙ more))
  where
    one_is_one : (1 == 1) ≡ false → ⊥
    one_is_one e = absurd cc
not_single columns (cell ∷ (second ∷ cells)) [] is more = refl
not_single columns (cell ∷ (second ∷ cells)) (row ∷ rows) is more = refl

rows_none : (columns : ℕ) (rows : List Payload) (cells : List Cells) → (columns == 1) ≡ false → each (row_at columns) rows ≡ Ok cells → only_cell cells ≡ None
rows_none columns [] cells more e = ap only_cell (sym (ok_is [] cells e))
rows_none columns (row ∷ rows) cells more e =
    let first = bind_ok (row_at columns row) (λ x. each (row_at columns) rows >>= λ xs. done {A = List Cells} {E = MsgFault} (x ∷ xs)) cells e in
    let others = bind_ok (each (row_at columns) rows) (λ xs. done {A = List Cells} {E = MsgFault} (first.0 ∷ xs)) cells first.2 in
    ap only_cell (sym (ok_is (first.0 ∷ others.0) cells others.2)) ∙ not_single columns first.0 others.0 (length_row columns row first.0 first.1) more

parts_none : (definitions rows : List Payload) → (length definitions == 1) ≡ false → only_value (read_parts (parts definitions rows)) ≡ None
unfolding read_parts
parts_none definitions rows more = by (each name_at definitions) (each (row_at (length definitions)) rows) refl
  where
    by : (names : Result (List (List ℕ)) MsgFault) (cells : Result (List Cells) MsgFault) → each (row_at (length definitions)) rows ≡ cells
        → only_value (result_ok (names >>= λ names. cells >>= λ rows. done {A = Rows} {E = MsgFault} (made names rows))) ≡ None
    by (Ok names) (Ok cells) e = rows_none (length definitions) rows cells more e
    by (Ok names) (Err fault) e = refl
    by (Err fault) cells e = refl

columns_read : (columns : ℕ) (others : List Payload) → (columns == 1) ≡ false → only_value (option_and_then read_parts (parted others columns)) ≡ None
columns_read columns others more = cut (drop columns others) refl
  where
    cut : (left : List Payload) → drop columns others ≡ left → only_value (option_and_then read_parts (with_rows (take columns others) left)) ≡ None
    cut [] e = refl
    cut (eof ∷ rows) e = by (is_eof eof) (before_eof rows)
      where
        short : length others - columns ≡ length (eof ∷ rows)
        short = sym (length-drop columns others) ∙ ap length e

        all : length (take columns others) ≡ columns
        all = length-take-le columns others (omega (arith, short))

        by : (test : Bool) (rows : Option (List Payload))
            → only_value (option_and_then read_parts (cond {A = Option Parts} test (option_map (λ rows. parts (take columns others) rows) rows) None)) ≡ None
        by true (Some rows) = parts_none (take columns others) rows (ap (λ (n : ℕ). n == 1) all ∙ more)
        by true None = refl
        by false rows = refl

is_one : (columns : ℕ) → (columns == 1) ≡ true → columns ≡ 1
is_one columns same = grind (arith, nat_tests)

pub law : OneValuesAreRead
unfolding result_set
law [] = refl
law (count ∷ others) = by (column_count count) refl
  where
    by : (columns : Option ℕ) → column_count count ≡ columns
        → value_of (heard_all (counted columns) others) ≡ only_value (option_and_then read_parts (option_and_then (parted others) columns))
    by None is = none_of_other others
    by (Some columns) is = one columns (columns == 1) refl
      where
        one : (columns : ℕ) (test : Bool) → (columns == 1) ≡ test
            → value_of (heard_all (cond test Counted Other) others) ≡ only_value (option_and_then read_parts (parted others columns))
        one columns true same = subst (λ (n : ℕ). value_of (heard_all Counted others) ≡ only_value (option_and_then read_parts (parted others n))) (sym (is_one columns same)) (one_column others)
        one columns false same = none_of_other others ∙ sym (columns_read columns others same)
