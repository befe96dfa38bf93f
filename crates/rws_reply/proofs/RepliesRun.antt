-- Each whole reply of the grammar takes a tracker to its end.
use Rattle.std.proofs.Common.{◌≡◌, ◌==◌, ℕ, ◌<◌, false, List, [], ◌∷◌, ◌++◌, length, refl, ◌∙◌, append_assoc, Some, arith}
use Rattle.std.proofs.Math.Dec.{eqb-suc-zero}
use Rattle.std.proofs.Math.Numerals.{sub-one}
use Rattle.std.proofs.lemmas.Bool.Decides.{nat_tests}
use Rattle.rws_reply.specs.declared.kind.Kind.{Kind}
use Rattle.rws_reply.specs.declared.kind.Kind.TheVariants as kinds
use Rattle.rws_reply.specs.declared.awaits.Awaits.{Awaits}
use Rattle.rws_reply.specs.declared.awaits.Awaits.TheVariants.{Simple, Query, Definitions, Rows, Prepare, Parameters, Columns, FieldList, Fields}
use Rattle.rws_reply.specs.declared.awaits.Step.{Step}
use Rattle.rws_reply.specs.declared.awaits.Step.TheVariants.{Goes, Ends}
use Rattle.rws_reply.specs.Payloads.{eof_status}
use Rattle.rws_reply.specs.Replies as replies
use Rattle.rws_reply.specs.declared.kind.Outcome.{Outcome}
use Rattle.rws_reply.specs.declared.kind.Outcome.TheVariants.{Done}
use Rattle.rws_reply.specs.Replies.{Payload, AreDefinitions, AreRows, IsHead, head, IsSimple, IsQuery, IsPart, IsPrepare, IsFieldList, IsReply}
use Rattle.rws_reply.specs.Machine.{next, Ended, proceed, run, first, defined, to_columns, to_parameters}
use Rattle.rws_reply.proofs.PayloadLemmas.{no_ok_in_err, no_eof_in_err, no_err_in_eof, no_err_in_prepared, no_ok_in_count, no_err_in_count, no_err_in_definition, no_eof_in_definition, no_err_in_row, no_eof_in_row}

-- definitions and the EOF behind them, in any of the states that count them down
module _ (counting : ℕ → Awaits) (behind : ℕ → Step) (counts : (left : ℕ) (p : Payload) → next (counting left) p ≡ defined left p (λ l. Goes (counting l)) behind) where
  pub definitions_run : (definitions : List Payload) (eof : Payload) (rest : List Payload) (status : ℕ) → AreDefinitions definitions → eof_status eof ≡ Some status → run (definitions ++ (eof ∷ rest)) (counting (length definitions)) ≡ proceed (behind status) rest (run rest)
  definitions_run [] eof rest status all e = rw (counts, e) refl
  definitions_run (d ∷ ds) eof rest status all e = rw (counts, eqb-suc-zero, all.0, sub-one) (definitions_run ds eof rest status all.1 e)

rows_run : (rs rest : List Payload) → AreRows rs → run (rs ++ rest) Rows ≡ run rest Rows
rows_run [] rest all = refl
rows_run (r ∷ rs) rest all = rw (no_eof_in_row r all.0, no_err_in_row r all.0, all.0) (rows_run rs rest all.1)

head_runs : {front : List Payload} (rest : List Payload) → IsHead front → run (front ++ rest) Query ≡ run rest Rows
head_runs rest (head count definitions eof {status} counted all e) =
    rw (no_ok_in_count count _ counted, no_err_in_count count _ counted, counted, append_assoc)
    (definitions_run (λ left. Definitions left) (λ _. Goes Rows) (λ left p. refl) definitions eof rest status all e)

simple_runs : {ps : List Payload} {out : Outcome} → IsSimple ps out → run ps Simple ≡ Ended out
simple_runs (replies.ok e) = rw e refl
simple_runs (replies.err {p} {code} e) = rw (no_ok_in_err p code e, e) refl

query_runs : {ps : List Payload} {out : Outcome} → IsQuery ps out → run ps Query ≡ Ended out
query_runs (replies.ok e last) = rw (e, last) refl
query_runs (replies.ok_more e more others) = rw (e, more) (query_runs others)
query_runs (replies.err {p} {code} e) = rw (no_ok_in_err p code e, e) refl
query_runs (replies.rows front rs p h all e last) = head_runs _ h ∙ rows_run rs _ all ∙ rw (e, last) refl
query_runs (replies.rows_more front rs p others h all e more q) = head_runs _ h ∙ rows_run rs _ all ∙ rw (e, more) (query_runs q)
query_runs (replies.rows_err front rs p {code} h all e) = head_runs _ h ∙ rows_run rs _ all ∙ rw (no_eof_in_err p code e, e) refl

pub not_zero : (n : ℕ) → 0 < n → (n == 0) ≡ false
not_zero n h = grind (arith, nat_tests)

columns_run : {columns before after : ℕ} {ps : List Payload} → IsPart columns ps before after → proceed (to_columns columns before) ps (run ps) ≡ Ended (Done after)
columns_run replies.none = refl
columns_run (replies.some ds eof {from} {to} there all e) =
    rw (not_zero (length ds) there)
    (definitions_run (λ left. Columns left) (λ status. Ends (Done status)) (λ left p. refl) ds eof [] to all e)

parameters_run : {parameters columns between after : ℕ} {first second : List Payload} → IsPart parameters first 2 between → IsPart columns second between after → proceed (to_parameters (columns, parameters)) (first ++ second) (run (first ++ second)) ≡ Ended (Done after)
parameters_run replies.none second = columns_run second
parameters_run {columns = columns} {second = ps} (replies.some ds eof {from} {to} there all e) second =
    rw (not_zero (length ds) there, append_assoc)
    (definitions_run (λ left. Parameters left columns) (to_columns columns) (λ left p. refl) ds eof ps to all e ∙ columns_run second)

prepare_runs : {ps : List Payload} {out : Outcome} → IsPrepare ps out → run ps Prepare ≡ Ended out
prepare_runs (replies.err e) = rw e refl
prepare_runs (replies.prepared p parameters columns {counts} e first second) = rw (no_err_in_prepared p counts e, e) (parameters_run first second)

fields_run : (ds : List Payload) (p : Payload) (status : ℕ) → AreDefinitions ds → eof_status p ≡ Some status → run (ds ++ (p ∷ [])) Fields ≡ Ended (Done status)
fields_run [] p status all e = rw e refl
fields_run (d ∷ ds) p status all e = rw (no_eof_in_definition d all.0, all.0) (fields_run ds p status all.1 e)

field_list_runs : {ps : List Payload} {out : Outcome} → IsFieldList ps out → run ps FieldList ≡ Ended out
field_list_runs (replies.err e) = rw e refl
field_list_runs (replies.fields [] p {status} all e) = rw (no_err_in_eof p status e, e) refl
field_list_runs (replies.fields (d ∷ ds) p {status} all e) = rw (no_err_in_definition d all.0, no_eof_in_definition d all.0, all.0) (fields_run ds p status all.1 e)

pub reply_runs : (kind : Kind) (ps : List Payload) (out : Outcome) → IsReply kind ps out → run ps (first kind) ≡ Ended out
reply_runs kinds.Simple ps out = simple_runs
reply_runs kinds.Query ps out = query_runs
reply_runs kinds.Prepare ps out = prepare_runs
reply_runs kinds.FieldList ps out = field_list_runs
