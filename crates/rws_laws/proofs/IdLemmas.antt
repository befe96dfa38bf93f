-- An execute goes on a link under an id that the link's server has given.
use Rattle.std.proofs.Common.{◌≡◌, ◌≢◌, ℕ, Bool, true, false, List, [], ◌∷◌, ◌++◌, map, refl, sym, ap, ◌∙◌, Option, Some, None}
use Rattle.std.specs.Prelude.{nat_lt, unwrap_or, Result, Ok, Err, if◌then◌else◌}
use Rattle.std.specs.Option.{option_and_then}
use Rattle.rws_reply.specs.declared.kind.Kind.{Kind}
use Rattle.rws_link.specs.Stepping.{Exchange}
use Rattle.rws_handles.specs.declared.fault.ExecuteFault.{ExecuteFault}
use Rattle.rws_handles.specs.PlainForm.{Plain, handle_in, renumbered, spelled}
use Rattle.rws_handles.specs.Prepared.{Prepared, executed}
use Rattle.rws_handles.specs.Slots.{statement_at}
use Rattle.rws_handles.specs.Table.{Table, execute_of, if_open, named, number_of_execute, open_at, plain_if_open}
use Rattle.rws_handles.proofs.SlotLemmas.{changes_set, found_within, some_number}
use Rattle.rws_commands.specs.declared.command.Body.TheVariants.{Run}
use Rattle.rws_commands.specs.declared.command.Command.{Command}
use Rattle.rws_commands.specs.declared.command.Execution.{Execution}
use Rattle.rws_commands.specs.declared.judged.Judged.{Judged}
use Rattle.rws_commands.specs.declared.judged.Judged.TheVariants.{IsSilent, HasTooMuch, Serves}
use Rattle.rws_commands.specs.declared.judged.Situation.{Situation}
use Rattle.rws_commands.specs.declared.proxy_error.ProxyError.{ProxyError}
use Rattle.rws_commands.specs.declared.request.Request.{Request}
use Rattle.rws_commands.specs.declared.request.Request.TheVariants as requests
use Rattle.rws_commands.specs.Commands.{class_of_command}
use Rattle.rws_commands.specs.Judging.{accepted_as, class_in, held_with, judged, judged_by, long_data_as, refusal_of, run_by}
use Rattle.rws_commands.specs.Requests.{request_of}
use Rattle.rws_commands.specs.Statements.{Statements, is_prepared, piece_in, taken}
use Rattle.rws_record.specs.Values.{awaited, sent_all}
use Rattle.rws_laws.specs.Causes.{SetsSession}
use Rattle.rws_laws.specs.Causes.SetsSession.{sets}

-- What a command for a server is

-- a prepare sets the session; and an execute runs, under the number that the client's handle names, the plain form
abbrev pub IsRunBy : Table → List ℕ → Execution → Type 0
IsRunBy table payload execution =
    (plain : Plain) × (execute_of table payload ≡ Ok plain) × (execution.commands ≡ spelled (number_of_execute table payload) plain)
    × (request_of payload ≡ requests.Execute)

abbrev pub Sets : Command → Type 0
Sets command = is_prepared command.kind ≡ true → SetsSession (class_of_command command)

abbrev pub IsServed : Table → List ℕ → Judged → Type 0
IsServed table payload (Serves command) =
    Sets command × ((execution : Execution) → command.body ≡ Run execution → IsRunBy table payload execution)
IsServed table payload _ = Unit {0}

run_served : (table : Table) (payload : List ℕ) (number : ℕ) (found : Result Plain ExecuteFault) → execute_of table payload ≡ found
    → request_of payload ≡ requests.Execute → IsServed table payload (run_by (number_of_execute table payload) found payload number)
run_served table payload number (Err fault) x r = tt
run_served table payload number (Ok plain) x r = (
  (λ k. absurd cc),
  (λ execution e.
      let same = run_is _ execution e in
      (plain, x, ap (λ (its : Execution). its.commands) (sym same), r)),
)
  where
    run_is : (one other : Execution) → Run one ≡ Run other → one ≡ other
    run_is one other e = cc

refusal_served : (table : Table) (payload : List ℕ) (refusal : Option ProxyError) (accepted : Judged) → IsServed table payload accepted
    → IsServed table payload (judged_by refusal accepted)
refusal_served table payload (Some error) accepted its = tt
refusal_served table payload None accepted its = its

data_served : (table : Table) (payload : List ℕ) (room held : ℕ) → IsServed table payload (long_data_as room held)
data_served table payload room held = by_test (nat_lt room held)
  where
    by_test : (test : Bool) → IsServed table payload (if test then HasTooMuch held else IsSilent)
    by_test true = tt
    by_test false = tt

accepted_served : (now : Situation) (s : Statements) (payload : List ℕ) (number : ℕ) (request : Request) → request_of payload ≡ request
    → IsServed s.table payload (accepted_as now s request payload number)
accepted_served now s payload number requests.Quit r = tt
accepted_served now s payload number requests.Ping r = tt
accepted_served now s payload number requests.Query r = ((λ k. absurd cc), (λ execution e. absurd cc))
accepted_served now s payload number requests.FieldList r = ((λ k. absurd cc), (λ execution e. absurd cc))
accepted_served now s payload number requests.InitDb r = ((λ k. absurd cc), (λ execution e. absurd cc))
accepted_served now s payload number requests.Prepare r =
    ((λ k. rw r sets), (λ execution e. absurd cc))
accepted_served now s payload number requests.Execute r = run_served s.table payload number (execute_of s.table payload) refl r
accepted_served now s payload number requests.SendLongData r = data_served s.table payload now.room (held_with s.table (piece_in payload))
accepted_served now s payload number requests.CloseStatement r = tt
accepted_served now s payload number requests.ResetStatement r = tt
accepted_served now s payload number requests.Unsupported r = tt
accepted_served now s payload number requests.Unknown r = tt

pub judged_served : (now : Situation) (s : Statements) (payload : List ℕ) (number : ℕ) → IsServed s.table payload (judged now s payload number)
judged_served now s payload number =
    refusal_served s.table payload (refusal_of now s (request_of payload) (class_in s.table (request_of payload) payload) payload)
    (accepted_as now s (request_of payload) payload number) (accepted_served now s payload number (request_of payload) refl)

-- An execute that is taken up is of an open statement, which stays open

module _ (s : Statements) (payload : List ℕ) (plain : Plain) where
  open_is : (found : Option Prepared) (statement : Prepared) → if_open found ≡ Some statement → (found ≡ Some statement) × (statement.closed ≡ false)
  open_is None statement e = absurd cc
  open_is (Some its) statement e = by_test its.closed refl e
    where
      by_test : (test : Bool) → its.closed ≡ test → (if test then None else Some its) ≡ Some statement → (Some its ≡ Some statement) × (statement.closed ≡ false)
      by_test true t e = absurd cc
      by_test false t e = let same : its ≡ statement = cc in (e, ap (λ (x : Prepared). x.closed) (sym same) ∙ t)

  found_open : (found : Option Prepared) → option_and_then (open_at s.table) (handle_in payload) ≡ found → plain_if_open found payload ≡ Ok plain
      → (statement : Prepared) × (option_and_then (open_at s.table) (handle_in payload) ≡ Some statement)
  found_open None f e = absurd cc
  found_open (Some statement) f e = (statement, f)

  by_handle : (handle : Option ℕ) (statement : Prepared) → option_and_then (open_at s.table) handle ≡ Some statement
      → (statement_at s.table.statements (named s.table.last (unwrap_or handle 0)) ≡ Some statement) × (statement.closed ≡ false)
  by_handle None statement e = absurd cc
  by_handle (Some handle) statement e = open_is (statement_at s.table.statements (named s.table.last handle)) statement e

  pub run_open : execute_of s.table payload ≡ Ok plain
      → (statement : Prepared) × (statement_at s.table.statements (number_of_execute s.table payload) ≡ Some statement) × (statement.closed ≡ false)
  run_open x =
      let found = found_open (option_and_then (open_at s.table) (handle_in payload)) refl x in
      let its = by_handle (handle_in payload) found.0 found.1 in (found.0, its.0, its.1)

  pub still_open : execute_of s.table payload ≡ Ok plain → (in_transaction : Bool)
      → (statement : Prepared)
      × (statement_at (taken requests.Execute in_transaction payload s).table.statements (number_of_execute s.table payload) ≡ Some statement)
      × (statement.closed ≡ false)
  still_open x in_transaction =
      let its = run_open x in
      let number = number_of_execute s.table payload in
      let changes = changes_set s.table.statements number (Some (executed plain.types its.0)) s.table.statements.freed
      (some_number number s.table.statements its.0 its.1) (found_within number s.table.statements its.0 its.1) in
      (executed plain.types its.0, rw (x, its.1) changes.here, its.2)

-- something is sent

pub sent_some : (payloads : List (List ℕ)) (kind : Kind) → payloads ≢ [] → (e : Exchange) × (awaited (sent_all payloads kind) ≡ Some e)
sent_some [] kind some = absurd (some refl)
sent_some (payload ∷ []) kind some = (_, refl)
sent_some (payload ∷ second ∷ others) kind some = sent_some (second ∷ others) kind (λ e. absurd cc)

pub run_some : (pieces : List (List ℕ)) (last : List ℕ) → (pieces ++ last ∷ []) ≢ []
run_some [] last e = absurd cc
run_some (first ∷ others) last e = absurd cc

pub renumbered_some : (id : ℕ) (commands : List (List ℕ)) → commands ≢ [] → map (renumbered id) commands ≢ []
renumbered_some id [] some e = some refl
renumbered_some id (first ∷ others) some e = absurd cc
