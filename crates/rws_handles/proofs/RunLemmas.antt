-- Commands that spell a plain form: under another number, and read by a server.
use Rattle.std.proofs.Common.{◌≡◌, ◌==◌, ℕ, ◌^◌, ◌<◌, Bool, true, false, is_some, ◌||◌, List, [], ◌∷◌, ◌++◌, map, Option, Some, None, Ok, refl, sym, ap, ◌∙◌, append_assoc, arith}
use Rattle.std.specs.List.{AllByRecursion}
use Rattle.std.proofs.lemmas.Bool.{eq-eqb, eqb-true}
use Rattle.std.proofs.lemmas.List.{append-nil}
use Rattle.rws_wire.specs.Numbers.{bytes_of}
use Rattle.rws_wire.proofs.NumberLemmas.{number_of-bytes_of}
use Rattle.rws_msgs.specs.declared.execute_head.ExecuteHead.{ExecuteHead}
use Rattle.rws_msgs.specs.Fields.{fixed_at}
use Rattle.rws_msgs.specs.ExecuteLayout.{AreValues, execute_at, execute_bytes}
use Rattle.rws_msgs.proofs.ExecuteLemmas.{execute_again}
use Rattle.rws_msgs.proofs.FieldLemmas.{fixed_again, number_again}
use Rattle.rws_handles.specs.Laws.{IsOfItsNumber, IsRenumbered, RunsThePlainForm}
use Rattle.rws_handles.specs.PlainForm.{Plain, handle_in, long_data_at, long_data_bytes, number_in, or_last, plain_form, plain_if_of, plain_if_read, renumbered, run_bytes, runs, spelled}
use Rattle.rws_handles.specs.Prepared.{LongData, Prepared, with_long_data}
use Rattle.rws_handles.proofs.ReadLemmas.{IsRunOf, is_run}

-- ---- another number

renumbered-data : (number id : ℕ) (piece : LongData) → renumbered id (long_data_bytes number piece) ≡ long_data_bytes id piece
unfolding long_data_bytes
renumbered-data number id piece = refl

renumbered-run : (number id : ℕ) (plain : Plain) → renumbered id (run_bytes number plain) ≡ run_bytes id plain
unfolding run_bytes execute_bytes
renumbered-run number id plain = refl

all-renumbered : (number id : ℕ) (pieces : List LongData) (plain : Plain) → map (renumbered id) (map (long_data_bytes number) pieces ++ run_bytes number plain ∷ []) ≡ map (long_data_bytes id) pieces ++ run_bytes id plain ∷ []
all-renumbered number id [] plain = ap (λ (p : List ℕ). p ∷ []) (renumbered-run number id plain)
all-renumbered number id (piece ∷ pieces) plain = rw (renumbered-data number id piece, all-renumbered number id pieces plain) refl

pub is_renumbered : IsRenumbered
is_renumbered number id plain = all-renumbered number id plain.long_data plain

-- ---- whose commands they are

data-of : (number : ℕ) (piece : LongData) → number < 2 ^ 32 → handle_in (long_data_bytes number piece) ≡ Some number
unfolding long_data_bytes
data-of number piece fits = ap (λ (n : ℕ). Some n) (number_of-bytes_of 4 number fits)

run-of : (number : ℕ) (plain : Plain) → number < 2 ^ 32 → handle_in (run_bytes number plain) ≡ Some number
unfolding run_bytes execute_bytes
run-of number plain fits = ap (λ (n : ℕ). Some n) (number_of-bytes_of 4 number fits)

first-of : (number : ℕ) (pieces : List LongData) (plain : Plain) → number < 2 ^ 32 → number_in (map (long_data_bytes number) pieces ++ run_bytes number plain ∷ []) ≡ number
first-of number [] plain fits = rw (run-of number plain fits) refl
first-of number (piece ∷ pieces) plain fits = rw (data-of number piece fits) refl

pub is_of_its_number : IsOfItsNumber
is_of_its_number number plain fits = first-of number plain.long_data plain fits

-- ---- what a server makes of them

data_again : (id : ℕ) (piece : LongData) → id < 2 ^ 32 → piece.parameter < 2 ^ 16 → long_data_at (long_data_bytes id piece) ≡ Ok (id, piece)
unfolding long_data_at long_data_bytes
data_again id piece fits small =
    rw (
      fixed_again 0x18 (bytes_of 4 id ++ (bytes_of 2 piece.parameter ++ piece.bytes)),
      number_again 4 id (bytes_of 2 piece.parameter ++ piece.bytes) fits,
      number_again 2 piece.parameter piece.bytes small,
    ) refl

-- long data is kept until the execute
data_kept : (id : ℕ) (pieces : List LongData) (server : Prepared) (run : List ℕ) → id < 2 ^ 32 → AllByRecursion (λ piece. piece.parameter < 2 ^ 16) pieces
    → runs (map (long_data_bytes id) pieces ++ run ∷ []) id server ≡ runs (run ∷ []) id (record server { long_data = server.long_data ++ pieces })
data_kept id [] server run fits small = ap (λ (held : List LongData). runs (run ∷ []) id (record server { long_data = held })) (sym (append-nil server.long_data))
data_kept id (piece ∷ pieces) server run fits small =
    rw (data_again id piece fits small.0, eq-eqb id id refl)
    (data_kept id pieces (with_long_data server piece) run fits small.1
    ∙ ap (λ (held : List LongData). runs (run ∷ []) id (record server { long_data = held })) (append_assoc server.long_data (piece ∷ []) pieces))

types_known : (parameters : ℕ) (given last : Option (List ℕ)) → ((parameters == 0) || is_some given) ≡ true → (parameters ≡ 0 → last ≡ None) → or_last given last ≡ given
types_known parameters (Some types) last typed none = refl
types_known parameters None last typed none = by (parameters == 0) refl typed
  where
    by : (zero : Bool) → (parameters == 0) ≡ zero → (zero || false) ≡ true → or_last None last ≡ None
    by true e typed = none (eqb-true parameters 0 e)
    by false e typed = absurd cc

abbrev head_of : ℕ → Plain → ExecuteHead
head_of id plain = record { id = id; flags = 0; bitmap = plain.bitmap; types = plain.types; values = plain.values }

run_again : (parameters id : ℕ) (plain : Plain) → id < 2 ^ 32 → AreValues parameters plain.bitmap plain.types plain.values → execute_at parameters (run_bytes id plain) ≡ Ok (head_of id plain)
unfolding run_bytes
run_again parameters id plain fits are = execute_again parameters (head_of id plain) (record { id = fits; flags = omega arith }) are

no_cursor : (server : Prepared) (id : ℕ) (plain : Plain) → plain_form server (run_bytes id plain) ≡ plain_if_read server (execute_at server.parameters (run_bytes id plain))
unfolding run_bytes execute_bytes
no_cursor server id plain = refl

-- a server that has the statement reads the plain form
form_again : (server : Prepared) (id : ℕ) (plain : Plain) → id < 2 ^ 32 → IsRunOf server plain → (server.parameters ≡ 0 → server.types ≡ None) → plain_form server (run_bytes id plain) ≡ Ok plain
form_again server id plain fits is none =
    no_cursor server id plain ∙ ap (plain_if_read server) (run_again server.parameters id plain fits is.values)
    ∙ rw (types_known server.parameters plain.types server.types is.typed none, is.typed, ← is.text, ← is.long_data) refl

not_data : (id : ℕ) (server : Prepared) (plain : Plain) → runs (run_bytes id plain ∷ []) id server ≡ plain_if_of id server (run_bytes id plain) (handle_in (run_bytes id plain))
unfolding run_bytes execute_bytes long_data_at fixed_at
not_data id server plain = refl

run_alone : (server : Prepared) (id : ℕ) (plain : Plain) → id < 2 ^ 32 → IsRunOf server plain → (server.parameters ≡ 0 → server.types ≡ None) → runs (run_bytes id plain ∷ []) id server ≡ Some plain
run_alone server id plain fits is none =
    not_data id server plain ∙ rw (run-of id plain fits, eq-eqb id id refl, form_again server id plain fits is none) refl

pub runs_the_plain_form : RunsThePlainForm
runs_the_plain_form statement on_server payload plain id is fits form text parameters server_is no_data =
    let run = is_run statement payload plain is form in
    let small : AllByRecursion (λ piece. piece.parameter < 2 ^ 16) plain.long_data = rw run.long_data is.pieces in
    let held : on_server.long_data ++ plain.long_data ≡ plain.long_data = ap (λ (d : List LongData). d ++ plain.long_data) no_data in
    let server : Prepared = record on_server { long_data = on_server.long_data ++ plain.long_data } in
    data_kept id plain.long_data on_server (run_bytes id plain) fits small
    ∙ run_alone server id plain fits (record {
      text = run.text ∙ sym text;
      long_data = sym held;
      typed = rw parameters run.typed;
      values = rw parameters run.values;
    }) server_is.no_types

-- ---- what is put on a link

pub puts_plain : (number id : ℕ) (plain : Plain) (kept before after : List (List ℕ)) → kept ≡ spelled number plain → after ≡ before ++ map (renumbered id) kept → after ≡ before ++ spelled id plain
puts_plain number id plain kept before after is put =
    put ∙ ap (λ (commands : List (List ℕ)). before ++ commands) (ap (map (renumbered id)) is ∙ is_renumbered number id plain)

pub number_kept : (kept : List (List ℕ)) (number : ℕ) (plain : Plain) → number < 2 ^ 32 → kept ≡ spelled number plain → number_in kept ≡ number
number_kept kept number plain fits is = ap number_in is ∙ is_of_its_number number plain fits
