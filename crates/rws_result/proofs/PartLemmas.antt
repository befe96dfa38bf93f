-- The parts of a result set: by their places, as what they are read as, and by the grammar.
use Rattle.std.proofs.Common.{◌≡◌, ℕ, Bool, true, false, cond, List, [], ◌∷◌, ◌++◌, length, Option, Some, None, Result, Ok, Err, refl, sym, ap, ◌∙◌, subst}
use Rattle.std.specs.Prelude.{is_ok, is_some, IsSome, IsErr, IsErrAnd, ◌&&◌}
use Rattle.std.specs.Option.{option_map, option_and_then}
use Rattle.std.specs.Result.{result_ok}
use Rattle.std.specs.List.{list_all}
use Rattle.rws_wire.specs.Reading.{◌>>=◌}
use Rattle.rws_wire.proofs.ReadingLemmas.{done}
use Rattle.rws_msgs.specs.declared.fault.MsgFault.{MsgFault}
use Rattle.rws_result.specs.declared.fault.ReadFault.{ReadFault}
use Rattle.rws_result.specs.declared.fault.ReadFault.TheVariants.{NotAResult, OutOfMemory}
use Rattle.rws_result.specs.declared.rows.Rows.{Rows}
use Rattle.rws_result.specs.Answers.{IsRead, Gives}
use Rattle.rws_result.specs.Cells.{Payload, Cell, is_eof, name_at, row_at, each}
use Rattle.rws_result.specs.ResultSets.{Parts, before_eof, parts_of, read_parts, result_set}
use Rattle.rws_result.proofs.CellLemmas.{each_ok}

-- the last payload decides
before_end : (rows : List Payload) (last : Payload) → before_eof (rows ++ last ∷ []) ≡ cond (is_eof last) (Some rows) None
before_end [] last = refl
before_end (row ∷ []) last = by (is_eof last)
  where
    by : (test : Bool) → option_map (λ rows. row ∷ rows) (cond {A = Option (List Payload)} test (Some []) None) ≡ cond test (Some (row ∷ [])) None
    by true = refl
    by false = refl
before_end (row ∷ (next ∷ rows)) last = ap (option_map (λ rows. row ∷ rows)) (before_end (next ∷ rows) last) ∙ by (is_eof last)
  where
    by : (test : Bool) → option_map (λ rows. row ∷ rows) (cond {A = Option (List Payload)} test (Some (next ∷ rows)) None) ≡ cond test (Some (row ∷ (next ∷ rows))) None
    by true = refl
    by false = refl

pub before_at : (payloads rows : List Payload) (last : Payload) (test : Bool) → payloads ≡ rows ++ last ∷ [] → is_eof last ≡ test
    → before_eof payloads ≡ cond test (Some rows) None
before_at payloads rows last test whole ends = ap before_eof whole ∙ (before_end rows last ∙ ap (λ (b : Bool). cond {A = Option (List Payload)} b (Some rows) None) ends)

-- parts can be read where each definition and each row can
abbrev pub made : List (List ℕ) → List (List Cell) → Rows
made names rows = record { names = names; rows = rows }

both_read : (parts : Parts) → is_some (read_parts parts) ≡ (is_ok (each name_at parts.definitions) && is_ok (each (row_at (length parts.definitions)) parts.rows))
unfolding read_parts
both_read parts = by (each name_at parts.definitions) (each (row_at (length parts.definitions)) parts.rows)
  where
    by : (names : Result (List (List ℕ)) MsgFault) (rows : Result (List (List Cell)) MsgFault)
        → is_some (result_ok (names >>= λ names. rows >>= λ rows. done {A = Rows} {E = MsgFault} (made names rows))) ≡ (is_ok names && is_ok rows)
    by (Ok names) (Ok rows) = refl
    by (Ok names) (Err e) = refl
    by (Err e) rows = refl

readable : (parts : Parts) → is_some (read_parts parts)
    ≡ (list_all (λ payload. is_ok (name_at payload)) parts.definitions && list_all (λ payload. is_ok (row_at (length parts.definitions) payload)) parts.rows)
readable parts = rw (← each_ok name_at parts.definitions, ← each_ok (row_at (length parts.definitions)) parts.rows) (both_read parts)

pub readable_then : (parts : Parts) (definitions rows : Bool) → definitions ≡ list_all (λ payload. is_ok (name_at payload)) parts.definitions → definitions ≡ true
    → rows ≡ list_all (λ payload. is_ok (row_at (length parts.definitions) payload)) parts.rows → rows ≡ is_some (read_parts parts)
readable_then parts definitions rows is all rows_are =
    rows_are ∙ sym (readable parts ∙ ap (λ (b : Bool). b && list_all (λ payload. is_ok (row_at (length parts.definitions) payload)) parts.rows) (sym is ∙ all))

pub readable_else : (parts : Parts) (definitions : Bool) → definitions ≡ list_all (λ payload. is_ok (name_at payload)) parts.definitions → definitions ≡ false
    → definitions ≡ is_some (read_parts parts)
readable_else parts definitions is none =
    none ∙ sym (readable parts ∙ ap (λ (b : Bool). b && list_all (λ payload. is_ok (row_at (length parts.definitions) payload)) parts.rows) (sym is ∙ none))

-- what is read of the parts
pub in_parts : (payloads : List Payload) (parts : Parts) → parts_of payloads ≡ Some parts → result_set payloads ≡ read_parts parts
unfolding result_set
in_parts payloads parts found = ap (option_and_then read_parts) found

some_is : {A : Type 0} (read : Option A) → is_some read ≡ true → IsSome read
some_is (Some x) there = refl
some_is None there = absurd cc

left_of : (a b : Bool) → (a && b) ≡ true → a ≡ true
left_of true b both = refl
left_of false b both = both

right_of : (a b : Bool) → (a && b) ≡ true → b ≡ true
right_of true b both = both
right_of false b both = absurd cc

pub names_read : (parts : Parts) → is_some (read_parts parts) ≡ true → is_ok (each name_at parts.definitions) ≡ true
names_read parts there = left_of (is_ok (each name_at parts.definitions)) (is_ok (each (row_at (length parts.definitions)) parts.rows)) (sym (both_read parts) ∙ there)

pub rows_read : (parts : Parts) → is_some (read_parts parts) ≡ true → is_ok (each (row_at (length parts.definitions)) parts.rows) ≡ true
rows_read parts there = right_of (is_ok (each name_at parts.definitions)) (is_ok (each (row_at (length parts.definitions)) parts.rows)) (sym (both_read parts) ∙ there)

no_fault : {A : Type 0} (part : Result A MsgFault) → is_ok part ≡ true → ¬ IsErr part
no_fault (Ok x) fine wrong = absurd cc
no_fault (Err e) fine wrong = absurd cc

-- a part wants memory, where all can be read
pub wanted : {A : Type 0} (result : Result Rows ReadFault) (fault : ReadFault) (read : Option Rows) (part : Result A MsgFault) → is_some read ≡ true → is_ok part ≡ true
    → Gives {A = A} (Err fault) part → IsErrAnd result (λ x. x ≡ fault) → IsRead result read
wanted (Ok rows) fault read part there fine gives is = elim is [ ]
wanted {A} (Err NotAResult) fault read part there fine gives is =
    absurd (no_fault part fine (subst (λ (x : ReadFault). Gives {A = A} (Err x) part) (sym is) gives))
wanted (Err OutOfMemory) fault read part there fine gives is = some_is read there

-- both parts are there
pub read_as : (parts : Parts) (names : List (List ℕ)) (rows : List (List Cell)) → each name_at parts.definitions ≡ Ok names
    → each (row_at (length parts.definitions)) parts.rows ≡ Ok rows → read_parts parts ≡ Some (made names rows)
unfolding read_parts
read_as parts names rows named rowed = rw named (rw rowed refl)
