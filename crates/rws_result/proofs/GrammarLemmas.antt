-- The function that reads a result set, and the grammar.
use Rattle.std.proofs.Common.{◌≡◌, ℕ, suc, Bool, true, false, cond, List, [], ◌∷◌, ◌++◌, length, take, drop, Option, Some, None, Result, Ok, Err, refl, sym, ap, ◌∙◌, subst, arith}
use Rattle.std.specs.Option.{option_map, option_and_then}
use Rattle.std.specs.Result.{result_ok}
use Rattle.std.proofs.lemmas.List.{take-append-drop, length-take-le, length-drop}
use Rattle.std.proofs.Math.Seq.{take-append_seam, drop-append_seam}
use Rattle.rws_wire.specs.Reading.{◌>>=◌}
use Rattle.rws_wire.proofs.ReadingLemmas.{done}
use Rattle.rws_msgs.specs.declared.fault.MsgFault.{MsgFault}
use Rattle.rws_reply.specs.Payloads.{column_count}
use Rattle.rws_result.specs.declared.rows.Rows.{Rows}
use Rattle.rws_result.specs.Cells.{Payload, Cell, is_eof, name_at, row_at, each}
use Rattle.rws_result.specs.ResultSets.{Parts, IsResultSet, whole, before_eof, with_rows, parted, parts_of, read_parts, result_set, ResultSetsAreRead}
use Rattle.rws_result.proofs.PartLemmas.{before_at, in_parts, made, read_as}

abbrev parts : List Payload → List Payload → Parts
parts definitions rows = record { definitions = definitions; rows = rows }

-- the places of the parts, in the grammar's form
data HasParts : List Payload → Parts → Type 0 where
  placed : (count eof last : Payload) (definitions rows : List Payload)
      → column_count count ≡ Some (length definitions) → is_eof eof ≡ true → is_eof last ≡ true
      → HasParts (count ∷ (definitions ++ (eof ∷ (rows ++ (last ∷ []))))) (parts definitions rows)

abbrev some : {A : Type 0} → A → Option A
some x = Some x

some_same : {A : Type 0} (x y : A) → some x ≡ some y → x ≡ y
some_same x y e = cc

-- ---- from the function to the grammar

abbrev EndsBy : List Payload → List Payload → Type 0
EndsBy payloads rows = (last : Payload) × (payloads ≡ rows ++ last ∷ []) × (is_eof last ≡ true)

ends_by : (payloads rows : List Payload) → before_eof payloads ≡ Some rows → EndsBy payloads rows
ends_by [] rows found = absurd cc
ends_by (last ∷ []) rows found = by (is_eof last) refl found
  where
    by : (test : Bool) → is_eof last ≡ test → cond {A = Option (List Payload)} test (Some []) None ≡ Some rows → EndsBy (last ∷ []) rows
    by true is found = (last, ap (λ (front : List Payload). front ++ last ∷ []) (some_same [] rows found), is)
    by false is found = absurd cc
ends_by (row ∷ (next ∷ others)) rows found = by (before_eof (next ∷ others)) refl (ends_by (next ∷ others)) found
  where
    by : (read : Option (List Payload)) → before_eof (next ∷ others) ≡ read → ((front : List Payload) → before_eof (next ∷ others) ≡ Some front → EndsBy (next ∷ others) front)
        → option_map (λ rows. row ∷ rows) read ≡ Some rows → EndsBy (row ∷ (next ∷ others)) rows
    by None is ends found = absurd cc
    by (Some front) is ends found =
        let ended = ends front is in
        (ended.0, ap (λ (all : List Payload). row ∷ all) ended.1 ∙ ap (λ (front : List Payload). front ++ ended.0 ∷ []) (some_same (row ∷ front) rows found), ended.2)

-- the list falls into these pieces
placed_at : (count eof : Payload) (n : ℕ) (others behind rows : List Payload) (all : Parts) → column_count count ≡ Some n → drop n others ≡ eof ∷ behind → is_eof eof ≡ true
    → EndsBy behind rows → parts (take n others) rows ≡ all → HasParts (count ∷ others) all
placed_at count eof n others behind rows all counted cut is ended same =
    let more : length (drop n others) ≡ suc (length behind) = ap length cut in
    let size : length (take n others) ≡ n = length-take-le n others (omega (arith, more, length-drop n others)) in
    let pieces : take n others ++ (eof ∷ (rows ++ (ended.0 ∷ []))) ≡ others =
    ap (λ (back : List Payload). take n others ++ (eof ∷ back)) (sym ended.1)
    ∙ (ap (λ (back : List Payload). take n others ++ back) (sym cut) ∙ take-append-drop n others) in
    subst (λ (all : Parts). HasParts (count ∷ others) all) same
    (subst (λ (list : List Payload). HasParts (count ∷ list) (parts (take n others) rows)) pieces
    (placed count eof ended.0 (take n others) rows (counted ∙ ap (λ (m : ℕ). some m) (sym size)) is ended.2))

from_rows : (count eof : Payload) (n : ℕ) (others behind : List Payload) (all : Parts) → column_count count ≡ Some n → drop n others ≡ eof ∷ behind → is_eof eof ≡ true
    → (read : Option (List Payload)) → before_eof behind ≡ read → option_map (λ rows. parts (take n others) rows) read ≡ Some all → HasParts (count ∷ others) all
from_rows count eof n others behind all counted cut is None read found = absurd cc
from_rows count eof n others behind all counted cut is (Some rows) read found =
    placed_at count eof n others behind rows all counted cut is (ends_by behind rows read) (some_same (parts (take n others) rows) all found)

from_eof : (count eof : Payload) (n : ℕ) (others behind : List Payload) (all : Parts) → column_count count ≡ Some n → drop n others ≡ eof ∷ behind
    → (test : Bool) → is_eof eof ≡ test → cond {A = Option Parts} test (option_map (λ rows. parts (take n others) rows) (before_eof behind)) None ≡ Some all → HasParts (count ∷ others) all
from_eof count eof n others behind all counted cut true is found = from_rows count eof n others behind all counted cut is (before_eof behind) refl found
from_eof count eof n others behind all counted cut false is found = absurd cc

from_definitions : (count : Payload) (n : ℕ) (others : List Payload) (all : Parts) → column_count count ≡ Some n
    → (behind : List Payload) → drop n others ≡ behind → with_rows (take n others) behind ≡ Some all → HasParts (count ∷ others) all
from_definitions count n others all counted [] cut found = absurd cc
from_definitions count n others all counted (eof ∷ behind) cut found = from_eof count eof n others behind all counted cut (is_eof eof) refl found

from_count : (count : Payload) (others : List Payload) (all : Parts) (counted : Option ℕ) → column_count count ≡ counted
    → option_and_then (parted others) counted ≡ Some all → HasParts (count ∷ others) all
from_count count others all None is found = absurd cc
from_count count others all (Some n) is found = from_definitions count n others all is (drop n others) refl found

has_parts : (payloads : List Payload) (all : Parts) → parts_of payloads ≡ Some all → HasParts payloads all
has_parts [] all found = absurd cc
has_parts (count ∷ others) all found = from_count count others all (column_count count) refl found

-- what was read of the parts
parts_read : (all : Parts) (read : Rows) → read_parts all ≡ Some read
    → (each name_at all.definitions ≡ Ok read.names) × (each (row_at (length all.definitions)) all.rows ≡ Ok read.rows)
unfolding read_parts
parts_read all read found = by (each name_at all.definitions) (each (row_at (length all.definitions)) all.rows) found
  where
    by : (names : Result (List (List ℕ)) MsgFault) (rows : Result (List (List Cell)) MsgFault)
        → result_ok (names >>= λ names. rows >>= λ rows. done {A = Rows} {E = MsgFault} (made names rows)) ≡ Some read
        → (names ≡ Ok read.names) × (rows ≡ Ok read.rows)
    by (Ok names) (Ok rows) found =
        let same : made names rows ≡ read = some_same (made names rows) read found in
        (ap (λ (all : Rows). done {A = List (List ℕ)} {E = MsgFault} all.names) same, ap (λ (all : Rows). done {A = List (List Cell)} {E = MsgFault} all.rows) same)
    by (Ok names) (Err e) found = absurd cc
    by (Err e) rows found = absurd cc

joined : (payloads : List Payload) (all : Parts) (read : Rows) → HasParts payloads all → read_parts all ≡ Some read → IsResultSet payloads read
joined _ _ read (placed count eof last definitions rows counted first ends) found =
    let both = parts_read (parts definitions rows) read found in
    whole count eof last definitions rows read counted both.0 first both.1 ends

sound : (payloads : List Payload) (read : Rows) → result_set payloads ≡ Some read → IsResultSet payloads read
unfolding result_set
sound payloads read found = by (parts_of payloads) refl found
  where
    by : (all : Option Parts) → parts_of payloads ≡ all → option_and_then read_parts all ≡ Some read → IsResultSet payloads read
    by None is found = absurd cc
    by (Some all) is found = joined payloads all read (has_parts payloads all is) found

-- ---- from the grammar to the function

parts_found : (count eof last : Payload) (definitions rows : List Payload) → column_count count ≡ Some (length definitions) → is_eof eof ≡ true → is_eof last ≡ true
    → parts_of (count ∷ (definitions ++ (eof ∷ (rows ++ (last ∷ []))))) ≡ Some (parts definitions rows)
parts_found count eof last definitions rows counted first ends =
    let behind : List Payload = eof ∷ (rows ++ (last ∷ [])) in
    ap (option_and_then (parted (definitions ++ behind))) counted
    ∙ (ap (λ (front : List Payload). with_rows front (drop (length definitions) (definitions ++ behind))) (take-append_seam definitions behind)
    ∙ (ap (with_rows definitions) (drop-append_seam definitions behind)
    ∙ (ap (λ (test : Bool). cond {A = Option Parts} test (option_map (λ rows. parts definitions rows) (before_eof (rows ++ (last ∷ [])))) None) first
    ∙ ap (λ (read : Option (List Payload)). option_map (λ rows. parts definitions rows) read) (before_at (rows ++ (last ∷ [])) rows last true refl ends))))

complete : (payloads : List Payload) (read : Rows) → IsResultSet payloads read → result_set payloads ≡ Some read
complete _ _ (whole count eof last definitions rows read counted named first rowed ends) =
    in_parts _ (parts definitions rows) (parts_found count eof last definitions rows counted first ends)
    ∙ read_as (parts definitions rows) read.names read.rows named rowed

pub law : ResultSetsAreRead
law payloads read = (sound payloads read, complete payloads read)
