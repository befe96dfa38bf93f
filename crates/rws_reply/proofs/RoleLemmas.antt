-- What a tracker takes each payload for is its role in the grammar.
use Rattle.std.proofs.Common.{◌≡◌, ◌==◌, ◌↔◌, ℕ, suc, ◌-◌, Bool, true, false, cond, List, [], ◌∷◌, ◌++◌, length, refl, sym, ap, ◌∙◌, append_assoc, Option, Some, None, is_none, slice_get}
use Rattle.std.specs.Prelude.{find}
use Rattle.std.proofs.Math.Dec.{eqb-suc-zero}
use Rattle.std.proofs.Math.Numerals.{sub-one}
use Rattle.rws_msgs.specs.OkLayout.{ok_status}
use Rattle.rws_msgs.specs.ErrLayout.{err_code}
use Rattle.rws_reply.specs.declared.kind.Kind.{Kind}
use Rattle.rws_reply.specs.declared.kind.Kind.TheVariants as kinds
use Rattle.rws_reply.specs.declared.kind.Outcome.{Outcome}
use Rattle.rws_reply.specs.declared.kind.Outcome.TheVariants.{Done}
use Rattle.rws_reply.specs.declared.role.Role.{Role}
use Rattle.rws_reply.specs.declared.role.Role.TheVariants as roles
use Rattle.rws_reply.specs.declared.awaits.Awaits.{Awaits}
use Rattle.rws_reply.specs.declared.awaits.Awaits.TheVariants.{Simple, Query, Definitions, Rows, Prepare, Parameters, Columns, FieldList, Fields}
use Rattle.rws_reply.specs.declared.awaits.Step.{Step}
use Rattle.rws_reply.specs.declared.awaits.Step.TheVariants.{Goes, Ends, Wrong}
use Rattle.rws_reply.specs.Payloads.{has_more_results, eof_status, column_count, is_definition, is_row, prepared_counts}
use Rattle.rws_reply.specs.Replies as replies
use Rattle.rws_reply.specs.Replies.{Payload, AreDefinitions, AreRows, IsHead, IsSimple, IsQuery, IsPart, IsPrepare, IsFieldList, IsReply}
use Rattle.rws_reply.specs.Roles.{reads_as, definition_roles, row_roles, roles_of_head, roles_of_simple, roles_of_query, roles_of_part, roles_of_prepare, roles_of_field_list, roles_of}
use Rattle.rws_reply.specs.Machine.{next, given, to_columns, to_parameters, definition_or_eof, role_at, role_in, defined, Standing, Ended, Waits, Stuck, ended_with, proceed, run, first}
use Rattle.rws_reply.specs.Tracking.{progress_of, progress, waiting, tracked, role}
use Rattle.rws_reply.specs.Laws.{RoleIsExact}
use Rattle.rws_reply.proofs.PayloadLemmas.{no_ok_in_err, no_eof_in_err, no_err_in_eof, no_err_in_prepared, no_ok_in_count, no_err_in_count, no_err_in_definition, no_eof_in_definition, no_err_in_row, no_eof_in_row}
use Rattle.rws_reply.proofs.RunLemmas.{run-append, run_past_whole, run_past_neither}
use Rattle.rws_reply.proofs.RepliesRun.{not_zero}

-- ---- a payload has no role exactly where it can't come

abbrev is_wrong : Step → Bool
is_wrong (Goes awaits) = false
is_wrong (Ends out) = false
is_wrong Wrong = true

behind_result_goes : (more : Bool) (status : ℕ) → is_wrong (cond more (Goes Query) (Ends (Done status))) ≡ false
behind_result_goes true status = refl
behind_result_goes false status = refl

to_columns_goes : (none : Bool) (columns status : ℕ) → is_wrong (cond none (Ends (Done status)) (Goes (Columns columns))) ≡ false
to_columns_goes true columns status = refl
to_columns_goes false columns status = refl

to_parameters_goes : (none no_columns : Bool) (counts : ℕ × ℕ)
    → is_wrong (cond none (cond no_columns (Ends (Done 2)) (Goes (Columns counts.0))) (Goes (Parameters counts.1 counts.0))) ≡ false
to_parameters_goes true no_columns counts = to_columns_goes no_columns counts.0 2
to_parameters_goes false no_columns counts = refl

module _ (p : Payload) where
  abbrev is_first : Role → Bool
  is_first role = reads_as role p

  simple_none : (o : Option ℕ) → ok_status true p ≡ o → (e : Option ℕ) → err_code p ≡ e → is_none (role_at Simple p) ≡ is_wrong (next Simple p)
  simple_none (Some status) f e g = rw f refl
  simple_none None f (Some code) g = rw (f, g) refl
  simple_none None f None g = rw (f, g) refl

  query_none : (o : Option ℕ) → ok_status true p ≡ o → (e : Option ℕ) → err_code p ≡ e → (c : Option ℕ) → column_count p ≡ c → is_none (role_at Query p) ≡ is_wrong (next Query p)
  query_none (Some status) f e g c h = rw f (sym (behind_result_goes (has_more_results status) status))
  query_none None f (Some code) g c h = rw (f, g) refl
  query_none None f None g (Some count) h = rw (f, g, h) refl
  query_none None f None g None h = rw (f, g, h) refl

  rows_none : (o : Option ℕ) → eof_status p ≡ o → (e : Option ℕ) → err_code p ≡ e → (r : Bool) → is_row p ≡ r → is_none (role_at Rows p) ≡ is_wrong (next Rows p)
  rows_none (Some status) f e g r h = rw f (sym (behind_result_goes (has_more_results status) status))
  rows_none None f (Some code) g r h = rw (f, g) refl
  rows_none None f None g true h = rw (f, g, h) refl
  rows_none None f None g false h = rw (f, g, h) refl

  prepare_none : (e : Option ℕ) → err_code p ≡ e → (c : Option (ℕ × ℕ)) → prepared_counts p ≡ c → is_none (role_at Prepare p) ≡ is_wrong (next Prepare p)
  prepare_none (Some code) f c g = rw f refl
  prepare_none None f (Some counts) g = rw (f, g) (sym (to_parameters_goes (counts.1 == 0) (counts.0 == 0) counts))
  prepare_none None f None g = rw (f, g) refl

  -- one of the states that count definitions down
  counted_none : (fewer : Awaits) (behind : ℕ → Step) → ((status : ℕ) → is_wrong (behind status) ≡ false) → (zero : Bool) → (o : Option ℕ) → eof_status p ≡ o → (d : Bool) → is_definition p ≡ d
      → is_none (find is_first (cond zero (roles.Eof ∷ []) (roles.Definition ∷ []))) ≡ is_wrong (cond zero (given (eof_status p) behind Wrong) (cond (is_definition p) (Goes fewer) Wrong))
  counted_none fewer behind goes true (Some status) f d g = rw f (sym (goes status))
  counted_none fewer behind goes true None f d g = rw f refl
  counted_none fewer behind goes false o f true g = rw g refl
  counted_none fewer behind goes false o f false g = rw g refl

  fields_none : (o : Option ℕ) → eof_status p ≡ o → (d : Bool) → is_definition p ≡ d → is_none (role_at Fields p) ≡ is_wrong (next Fields p)
  fields_none (Some status) f d g = rw f refl
  fields_none None f true g = rw (f, g) refl
  fields_none None f false g = rw (f, g) refl

  field_list_none : (e : Option ℕ) → err_code p ≡ e → (o : Option ℕ) → eof_status p ≡ o → (d : Bool) → is_definition p ≡ d → is_none (role_at FieldList p) ≡ is_wrong (next FieldList p)
  field_list_none (Some code) f o g d h = rw f refl
  field_list_none None f (Some status) g d h = rw (f, g) refl
  field_list_none None f None g true h = rw (f, g, h) refl
  field_list_none None f None g false h = rw (f, g, h) refl

  pub same_none : (s : Awaits) → is_none (role_at s p) ≡ is_wrong (next s p)
  same_none Simple = simple_none _ refl _ refl
  same_none Query = query_none _ refl _ refl _ refl
  same_none (Definitions left) = counted_none (Definitions (left - 1)) (λ _. Goes Rows) (λ _. refl) (left == 0) _ refl _ refl
  same_none Rows = rows_none _ refl _ refl _ refl
  same_none Prepare = prepare_none _ refl _ refl
  same_none (Parameters left columns) = counted_none (Parameters (left - 1) columns) (to_columns columns) (λ status. to_columns_goes (columns == 0) columns status) (left == 0) _ refl _ refl
  same_none (Columns left) = counted_none (Columns (left - 1)) (λ status. Ends (Done status)) (λ status. refl) (left == 0) _ refl _ refl
  same_none FieldList = field_list_none _ refl _ refl _ refl
  same_none Fields = fields_none _ refl _ refl

-- ---- the roles that a tracker tells of a list of payloads, up to its end

abbrev told_first : Option Role → List Role → List Role
told_first (Some role) others = role ∷ others
told_first None others = []

abbrev behind_step : Step → (Awaits → List Role) → List Role
behind_step (Goes awaits) others = others awaits
behind_step (Ends out) others = []
behind_step Wrong others = []

abbrev roles_told : List Payload → Awaits → List Role
roles_told [] s = []
roles_told (p ∷ ps) s = told_first (role_at s p) (behind_step (next s p) (roles_told ps))

-- the one told of a payload stands at its place
module _ (p : Payload) (behind : List Payload) where
  told_here : (o : Option Role) (others : List Role) → slice_get (told_first o others) 0 ≡ o
  told_here (Some role) others = refl
  told_here None others = refl

  over : (out : Outcome) (before : List Payload) → role_in (waiting (ended_with out before)) p ≡ None
  over out [] = refl
  over out (b ∷ before) = refl

  on : (before : List Payload) (o : Option Role) (step : Step) → is_none o ≡ is_wrong step
      → ((t : Awaits) → slice_get (roles_told (before ++ p ∷ behind) t) (length before) ≡ role_in (waiting (run before t)) p)
      → slice_get (told_first o (behind_step step (roles_told (before ++ p ∷ behind)))) (suc (length before)) ≡ role_in (waiting (proceed step before (run before))) p
  on before (Some role) (Goes t) e others = others t
  on before None (Goes t) e others = absurd cc
  on before (Some role) (Ends out) e others = sym (over out before)
  on before None (Ends out) e others = sym (over out before)
  on before (Some role) Wrong e others = refl
  on before None Wrong e others = refl

  told_at : (before : List Payload) (s : Awaits) → slice_get (roles_told (before ++ p ∷ behind) s) (length before) ≡ role_in (waiting (run before s)) p
  told_at [] s = told_here (role_at s p) _
  told_at (b ∷ before) s = on before (role_at s b) (next s b) (same_none b s) (λ t. told_at before t)

-- ---- of a whole reply they are those of the grammar

-- definitions and the EOF behind them, in any of the states that count them down
module _ (counting : ℕ → Awaits) (behind : ℕ → Step) (counts : (left : ℕ) (p : Payload) → next (counting left) p ≡ defined left p (λ l. Goes (counting l)) behind) (reads : (left : ℕ) (p : Payload) → role_at (counting left) p ≡ find (λ role. reads_as role p) (definition_or_eof left)) where
  definitions_told : (definitions : List Payload) (eof : Payload) (rest : List Payload) (status : ℕ) → AreDefinitions definitions → eof_status eof ≡ Some status
      → roles_told (definitions ++ (eof ∷ rest)) (counting (length definitions)) ≡ definition_roles definitions ++ (roles.Eof ∷ behind_step (behind status) (roles_told rest))
  definitions_told [] eof rest status all e = rw (reads, counts, e) refl
  definitions_told (d ∷ ds) eof rest status all e =
      rw (reads, counts, eqb-suc-zero, all.0, sub-one) (ap (λ (l : List Role). roles.Definition ∷ l) (definitions_told ds eof rest status all.1 e))

rows_told : (rs rest : List Payload) → AreRows rs → roles_told (rs ++ rest) Rows ≡ row_roles rs ++ roles_told rest Rows
rows_told [] rest all = refl
rows_told (r ∷ rs) rest all = rw (no_eof_in_row r all.0, no_err_in_row r all.0, all.0) (ap (λ (l : List Role). roles.Row ∷ l) (rows_told rs rest all.1))

head_told : {front : List Payload} (rest : List Payload) (front_is : IsHead front) → roles_told (front ++ rest) Query ≡ roles_of_head front_is ++ roles_told rest Rows
head_told rest (replies.head count definitions eof {status} counted all e) =
    rw (no_ok_in_count count _ counted, no_err_in_count count _ counted, counted, append_assoc definitions (eof ∷ []) rest)
    (ap (λ (l : List Role). roles.Count ∷ l)
    (definitions_told (λ left. Definitions left) (λ _. Goes Rows) (λ left p. refl) (λ left p. refl) definitions eof rest status all e
    ∙ sym (append_assoc (definition_roles definitions) (roles.Eof ∷ []) (roles_told rest Rows))))

result_told : {front : List Payload} (front_is : IsHead front) (rs rest : List Payload) (last : List Role) → AreRows rs → roles_told rest Rows ≡ last
    → roles_told (front ++ (rs ++ rest)) Query ≡ roles_of_head front_is ++ (row_roles rs ++ last)
result_told front_is rs rest last all e =
    head_told (rs ++ rest) front_is
    ∙ ap (λ (l : List Role). roles_of_head front_is ++ l) (rows_told rs rest all ∙ ap (λ (l : List Role). row_roles rs ++ l) e)

simple_told : {ps : List Payload} {out : Outcome} (reply : IsSimple ps out) → roles_told ps Simple ≡ roles_of_simple reply
simple_told (replies.ok e) = rw e refl
simple_told (replies.err {p} {code} e) = rw (no_ok_in_err p code e, e) refl

query_told : {ps : List Payload} {out : Outcome} (reply : IsQuery ps out) → roles_told ps Query ≡ roles_of_query reply
query_told (replies.ok e last) = rw (e, last) refl
query_told (replies.ok_more e more others) = rw (e, more) (ap (λ (l : List Role). roles.Ok ∷ l) (query_told others))
query_told (replies.err {p} {code} e) = rw (no_ok_in_err p code e, e) refl
query_told (replies.rows front rs p front_is all e last) = result_told front_is rs (p ∷ []) (roles.Eof ∷ []) all (rw (e, last) refl)
query_told (replies.rows_more front rs p others front_is all e more reply) =
    result_told front_is rs (p ∷ others) (roles.Eof ∷ roles_of_query reply) all (rw (e, more) (ap (λ (l : List Role). roles.Eof ∷ l) (query_told reply)))
query_told (replies.rows_err front rs p {code} front_is all e) = result_told front_is rs (p ∷ []) (roles.Err ∷ []) all (rw (no_eof_in_err p code e, e) refl)

columns_told : {columns from to : ℕ} {ps : List Payload} (part : IsPart columns ps from to) → behind_step (to_columns columns from) (roles_told ps) ≡ roles_of_part part
columns_told replies.none = refl
columns_told (replies.some ds eof {from} {to} there all e) =
    rw (not_zero (length ds) there)
    (definitions_told (λ left. Columns left) (λ status. Ends (Done status)) (λ left p. refl) (λ left p. refl) ds eof [] to all e)

parameters_told : {parameters columns between last : ℕ} {ps qs : List Payload} (first : IsPart parameters ps 2 between) (second : IsPart columns qs between last)
    → behind_step (to_parameters (columns, parameters)) (roles_told (ps ++ qs)) ≡ roles_of_part first ++ roles_of_part second
parameters_told replies.none second = columns_told second
parameters_told {columns = columns} {qs = qs} (replies.some ds eof {from} {to} there all e) second =
    rw (not_zero (length ds) there, append_assoc ds (eof ∷ []) qs)
    (definitions_told (λ left. Parameters left columns) (to_columns columns) (λ left p. refl) (λ left p. refl) ds eof qs to all e
    ∙ ap (λ (l : List Role). definition_roles ds ++ (roles.Eof ∷ l)) (columns_told second)
    ∙ sym (append_assoc (definition_roles ds) (roles.Eof ∷ []) (roles_of_part second)))

prepare_told : {ps : List Payload} {out : Outcome} (reply : IsPrepare ps out) → roles_told ps Prepare ≡ roles_of_prepare reply
prepare_told (replies.err e) = rw e refl
prepare_told (replies.prepared p parameters columns {counts} e first second) =
    rw (no_err_in_prepared p counts e, e) (ap (λ (l : List Role). roles.Prepared ∷ l) (parameters_told first second))

fields_told : (ds : List Payload) (p : Payload) (status : ℕ) → AreDefinitions ds → eof_status p ≡ Some status → roles_told (ds ++ (p ∷ [])) Fields ≡ definition_roles ds ++ (roles.Eof ∷ [])
fields_told [] p status all e = rw e refl
fields_told (d ∷ ds) p status all e = rw (no_eof_in_definition d all.0, all.0) (ap (λ (l : List Role). roles.Definition ∷ l) (fields_told ds p status all.1 e))

field_list_told : {ps : List Payload} {out : Outcome} (reply : IsFieldList ps out) → roles_told ps FieldList ≡ roles_of_field_list reply
field_list_told (replies.err e) = rw e refl
field_list_told (replies.fields [] p {status} all e) = rw (no_err_in_eof p status e, e) refl
field_list_told (replies.fields (d ∷ ds) p {status} all e) =
    rw (no_err_in_definition d all.0, no_eof_in_definition d all.0, all.0) (ap (λ (l : List Role). roles.Definition ∷ l) (fields_told ds p status all.1 e))

reply_told : (kind : Kind) (ps : List Payload) (out : Outcome) (reply : IsReply kind ps out) → roles_told ps (first kind) ≡ roles_of kind ps out reply
reply_told kinds.Simple ps out reply = simple_told reply
reply_told kinds.Query ps out reply = query_told reply
reply_told kinds.Prepare ps out reply = prepare_told reply
reply_told kinds.FieldList ps out reply = field_list_told reply

-- ---- the law

none_both : {A B : Type 0} (a : Option A) (b : Option B) → is_none a ≡ is_none b → (a ≡ None) ↔ (b ≡ None)
none_both None None e = (λ _. refl, λ _. refl)
none_both None (Some y) e = absurd cc
none_both (Some x) None e = absurd cc
none_both (Some x) (Some y) e = (λ f. absurd cc, λ f. absurd cc)

module _ (kind : Kind) (payloads : List Payload) (p : Payload) where
  wrong_none : (step : Step) → is_wrong step ≡ is_none (progress_of (proceed step [] (run [])))
  wrong_none (Goes t) = refl
  wrong_none (Ends out) = refl
  wrong_none Wrong = refl

  none_told : (s : Standing) → run payloads (first kind) ≡ s → is_none (role_in (waiting s) p) ≡ is_none (progress_of (run (payloads ++ p ∷ []) (first kind)))
  none_told (Waits t) e = same_none p t ∙ wrong_none (next t p) ∙ sym (ap (λ (s : Standing). is_none (progress_of s)) (run-append payloads (p ∷ []) (first kind) t e))
  none_told (Ended out) e = sym (ap (λ (s : Standing). is_none (progress_of s)) (run_past_whole payloads p [] (first kind) out e))
  none_told Stuck e = sym (ap (λ (s : Standing). is_none (progress_of s)) (run_past_neither payloads (p ∷ []) (first kind) e))

pub role_is_exact : (kind : Kind) (payloads : List Payload) (payload : Payload) → RoleIsExact kind payloads payload
unfolding role progress
role_is_exact kind payloads payload = record {
  told = λ behind out reply.
      sym (told_at payload behind payloads (first kind))
      ∙ ap (λ (l : List Role). slice_get l (length payloads)) (reply_told kind (payloads ++ payload ∷ behind) out reply);
  bad = none_both _ _ (none_told kind payloads payload _ refl);
}

-- what a tracker in this state says is the role behind these payloads
pub role_tracked : (kind : Kind) (payloads : List Payload) (p : Payload) (state : Option Awaits) → state ≡ tracked kind payloads → role_in state p ≡ role kind payloads p
unfolding role tracked
role_tracked kind payloads p state is = ap (λ (s : Option Awaits). role_in s p) is
