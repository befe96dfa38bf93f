-- What a tracker does at each payload: the machine that is proved to accept the grammar of `Replies`.
use Rattle.std.specs.Prelude.{◌==◌, ℕ, ◌-◌, true, List, [], ◌∷◌, Option, Some, None, if◌then◌else◌, find}
use Rattle.rws_msgs.specs.OkLayout.{ok_status}
use Rattle.rws_msgs.specs.ErrLayout.{err_code}
use Rattle.rws_reply.specs.declared.kind.Kind.{Kind}
use Rattle.rws_reply.specs.declared.kind.Kind.TheVariants as kinds
use Rattle.rws_reply.specs.declared.awaits.Awaits.{Awaits}
use Rattle.rws_reply.specs.declared.awaits.Awaits.TheVariants.{Simple, Query, Definitions, Rows, Prepare, Parameters, Columns, FieldList, Fields}
use Rattle.rws_reply.specs.declared.awaits.Step.{Step}
use Rattle.rws_reply.specs.declared.awaits.Step.TheVariants.{Goes, Ends, Wrong}
use Rattle.rws_reply.specs.Payloads.{has_more_results, eof_status, column_count, is_definition, is_row, prepared_counts}
use Rattle.rws_reply.specs.declared.kind.Outcome.{Outcome}
use Rattle.rws_reply.specs.declared.kind.Outcome.TheVariants.{Done, Failed}
use Rattle.rws_reply.specs.declared.role.Role.{Role}
use Rattle.rws_reply.specs.declared.role.Role.TheVariants as roles
use Rattle.rws_reply.specs.Replies.{Payload, autocommit}
use Rattle.rws_reply.specs.Roles.{reads_as}

abbrev pub given : {A : Type 0} → Option A → (A → Step) → Step → Step
given (Some x) goes otherwise = goes x
given None goes otherwise = otherwise

-- what an OK or a last EOF of a query leads to
abbrev pub behind_result : ℕ → Step
behind_result status = if has_more_results status then Goes Query else Ends (Done status)

-- what the parts of a prepared statement lead to, behind the status so far
abbrev pub to_columns : ℕ → ℕ → Step
to_columns columns status = if columns == 0 then Ends (Done status) else Goes (Columns columns)

abbrev pub to_parameters : ℕ × ℕ → Step
to_parameters counts = if counts.1 == 0 then to_columns counts.0 autocommit else Goes (Parameters counts.1 counts.0)

-- one definition fewer, or the EOF behind the last
abbrev pub defined : ℕ → Payload → (ℕ → Step) → (ℕ → Step) → Step
defined left payload fewer behind =
    if left == 0 then given (eof_status payload) behind Wrong
    else (if is_definition payload then fewer (left - 1) else Wrong)

-- what one more payload leads to
abbrev pub next : Awaits → Payload → Step
next Simple p = given (ok_status true p) (λ status. Ends (Done status)) (given (err_code p) (λ code. Ends (Failed code)) Wrong)
next Query p =
    given (ok_status true p) behind_result
    (given (err_code p) (λ code. Ends (Failed code)) (given (column_count p) (λ count. Goes (Definitions count)) Wrong))
next (Definitions left) p = defined left p (λ left. Goes (Definitions left)) (λ _. Goes Rows)
next Rows p =
    given (eof_status p) behind_result (given (err_code p) (λ code. Ends (Failed code)) (if is_row p then Goes Rows else Wrong))
next Prepare p = given (err_code p) (λ code. Ends (Failed code)) (given (prepared_counts p) to_parameters Wrong)
next (Parameters left columns) p = defined left p (λ left. Goes (Parameters left columns)) (to_columns columns)
next (Columns left) p = defined left p (λ left. Goes (Columns left)) (λ status. Ends (Done status))
next FieldList p =
    given (err_code p) (λ code. Ends (Failed code))
    (given (eof_status p) (λ status. Ends (Done status)) (if is_definition p then Goes Fields else Wrong))
next Fields p = given (eof_status p) (λ status. Ends (Done status)) (if is_definition p then Goes Fields else Wrong)

-- what a list of payloads comes to: a whole reply that ended so, the beginning of one that waits for more, or neither
pub data Standing : Type 0 where
  Ended : (out : Outcome) → Standing
  Waits : (awaits : Awaits) → Standing
  Stuck : Standing

-- a reply that has ended so, with what follows its last payload: nothing may
abbrev pub ended_with : Outcome → List Payload → Standing
ended_with out [] = Ended out
ended_with out (p ∷ ps) = Stuck

abbrev pub proceed : Step → List Payload → (Awaits → Standing) → Standing
proceed (Goes awaits) ps others = others awaits
proceed (Ends out) ps others = ended_with out ps
proceed Wrong ps others = Stuck

abbrev pub run : List Payload → Awaits → Standing
run [] awaits = Waits awaits
run (p ∷ ps) awaits = proceed (next awaits p) ps (run ps)

abbrev pub first : Kind → Awaits
first kinds.Simple = Simple
first kinds.Query = Query
first kinds.Prepare = Prepare
first kinds.FieldList = FieldList

-- ---- what a payload is to a tracker

abbrev pub definition_or_eof : ℕ → List Role
definition_or_eof left = if left == 0 then roles.Eof ∷ [] else (roles.Definition ∷ [])

-- what may come where a tracker waits so
abbrev pub expected : Awaits → List Role
expected Simple = roles.Ok ∷ roles.Err ∷ []
expected Query = roles.Ok ∷ roles.Err ∷ roles.Count ∷ []
expected (Definitions left) = definition_or_eof left
expected Rows = roles.Eof ∷ roles.Err ∷ roles.Row ∷ []
expected Prepare = roles.Err ∷ roles.Prepared ∷ []
expected (Parameters left columns) = definition_or_eof left
expected (Columns left) = definition_or_eof left
expected FieldList = roles.Err ∷ roles.Eof ∷ roles.Definition ∷ []
expected Fields = roles.Eof ∷ roles.Definition ∷ []

-- the first of these that the payload can be read as
abbrev pub role_at : Awaits → Payload → Option Role
role_at awaits payload = find (λ role. reads_as role payload) (expected awaits)

abbrev pub role_in : Option Awaits → Payload → Option Role
role_in (Some awaits) payload = role_at awaits payload
role_in None payload = None
