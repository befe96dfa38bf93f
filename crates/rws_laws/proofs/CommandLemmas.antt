-- Why the proxy answers a command by itself, or doesn't answer it.
use Rattle.std.proofs.Common.{◌≡◌, ℕ, Bool, true, false, List, ◌∷◌, length, refl, sym, ap, subst, ◌∙◌, arith, inl, inr, Option, Some, None}
use Rattle.std.specs.Prelude.{◌⊎◌, ◌&&◌, ◌||◌, ◌==◌, nat_lt, is_none, is_some, Result, Ok, Err, if◌then◌else◌}
use Rattle.std.specs.Option.{option_and_then}
use Rattle.std.proofs.lemmas.Bool.{ltb-true}
use Rattle.rws_msgs.specs.declared.execute_head.ExecuteHead.{ExecuteHead}
use Rattle.rws_msgs.specs.declared.fault.MsgFault.{MsgFault}
use Rattle.rws_msgs.specs.ExecuteLayout.{execute_at}
use Rattle.rws_reply.specs.Replies.{Payload}
use Rattle.rws_class.specs.Classes.{class_of}
use Rattle.rws_class.specs.declared.class.Class.{Class}
use Rattle.rws_class.specs.declared.class.Class.TheVariants.{Read, PrimaryRead, Write, Session, Begin, BeginReadOnly, Commit, Rollback, AutocommitOn, AutocommitOff, TrxLocal, Ddl, Refused as Forbidden, Other}
use Rattle.rws_trx.specs.OnLinks.{status_of}
use Rattle.rws_config.specs.declared.config.Config.{Config}
use Rattle.rws_handles.specs.declared.fault.ExecuteFault.{ExecuteFault}
use Rattle.rws_handles.specs.declared.fault.ExecuteFault.TheVariants.{UnknownHandle, OutOfMemory, CursorAsked, BadExecute as IsBadExecute}
use Rattle.rws_handles.specs.PlainForm.{Plain, asks_cursor, handle_in, or_last, plain_form, plain_if_read}
use Rattle.rws_handles.specs.Prepared.{LongData, Prepared, long_bytes}
use Rattle.rws_handles.specs.Slots.{is_crowded}
use Rattle.rws_handles.specs.Table.{execute_of, held_by, number_of_execute, open_at, plain_if_open}
use Rattle.rws_commands.specs.declared.command.Command.{Command}
use Rattle.rws_commands.specs.declared.judged.Judged.{Judged}
use Rattle.rws_commands.specs.declared.judged.Judged.TheVariants.{Leaves, IsOwn, IsRefused, IsSilent, HasTooMuch, Serves}
use Rattle.rws_commands.specs.declared.judged.Situation.{Situation}
use Rattle.rws_commands.specs.declared.proxy_error.ProxyError.{ProxyError}
use Rattle.rws_commands.specs.declared.request.Request.{Request}
use Rattle.rws_commands.specs.declared.request.Request.TheVariants as requests
use Rattle.rws_commands.specs.Commands.{added, as_executed}
use Rattle.rws_commands.specs.Judging.{accepted_as, changes, class_in, class_run, held_with, is_bad_execute, is_cursor_asked, is_forbidden, is_unknown_handle, judged, judged_by, judged_for, long_data_as, refusal_by, refusal_of, run_by}
use Rattle.rws_commands.specs.Requests.{arguments_of, request_of}
use Rattle.rws_commands.specs.Statements.{Statements, is_full, piece_in}
use Rattle.rws_record.specs.Item.{Item}
use Rattle.rws_record.specs.Item.Item.{Takes}
use Rattle.rws_record.specs.Values.{pending, statements, transaction}
use Rattle.rws_record.specs.Rules.{after_command, is_read_only, situation}
use Rattle.rws_laws.specs.Client.{Asked, Took}
use Rattle.rws_laws.specs.Client.Asked.{here}
use Rattle.rws_laws.specs.Causes.{HoldsTooMuch, IsBarred, IsSilence}
use Rattle.rws_laws.proofs.Sound.{Asking, Caused, IsAsked, same_some}
use Rattle.rws_laws.proofs.Sound.Caused.{nothing, closes, tells}
use Rattle.rws_laws.proofs.TransactionLemmas.{barred_class, both, only_reads}

forbidden_is : (class : Class) → is_forbidden class ≡ true → class ≡ Forbidden
forbidden_is Forbidden e = refl
forbidden_is Read e = absurd cc
forbidden_is PrimaryRead e = absurd cc
forbidden_is Write e = absurd cc
forbidden_is Session e = absurd cc
forbidden_is Begin e = absurd cc
forbidden_is BeginReadOnly e = absurd cc
forbidden_is Commit e = absurd cc
forbidden_is Rollback e = absurd cc
forbidden_is AutocommitOn e = absurd cc
forbidden_is AutocommitOff e = absurd cc
forbidden_is TrxLocal e = absurd cc
forbidden_is Ddl e = absurd cc
forbidden_is Other e = absurd cc

-- what is executed is forbidden where its text is
forbidden_run : (class : Class) → is_forbidden (as_executed class) ≡ true → class ≡ Forbidden
forbidden_run Forbidden e = refl
forbidden_run Read e = absurd cc
forbidden_run PrimaryRead e = absurd cc
forbidden_run Write e = absurd cc
forbidden_run Session e = absurd cc
forbidden_run Begin e = absurd cc
forbidden_run BeginReadOnly e = absurd cc
forbidden_run Commit e = absurd cc
forbidden_run Rollback e = absurd cc
forbidden_run AutocommitOn e = absurd cc
forbidden_run AutocommitOff e = absurd cc
forbidden_run TrxLocal e = absurd cc
forbidden_run Ddl e = absurd cc
forbidden_run Other e = absurd cc

-- Why an execute of an open statement has no plain form

read_fault : (statement : Prepared) (read : Result ExecuteHead MsgFault) (fault : ExecuteFault) → plain_if_read statement read ≡ Err fault
    → fault ≡ IsBadExecute
read_fault statement (Err its) fault e = let same : IsBadExecute ≡ fault = cc in sym same
read_fault statement (Ok head) fault e =
    by_test ((statement.parameters == 0) || is_some (or_last head.types statement.types)) _ e
  where
    by_test : (test : Bool) (plain : Plain) → (if test then Ok plain else Err IsBadExecute) ≡ Err fault → fault ≡ IsBadExecute
    by_test true plain e = absurd cc
    by_test false plain e = let same : IsBadExecute ≡ fault = cc in sym same

form_fault : (statement : Prepared) (payload : Payload) (fault : ExecuteFault) → plain_form statement payload ≡ Err fault
    → (fault ≡ IsBadExecute) ⊎ ((fault ≡ CursorAsked) × (asks_cursor payload ≡ true))
form_fault statement payload fault e = by_test (asks_cursor payload) refl e
  where
    by_test : (test : Bool) → asks_cursor payload ≡ test
        → (if test then Err CursorAsked else plain_if_read statement (execute_at statement.parameters payload)) ≡ Err fault
        → (fault ≡ IsBadExecute) ⊎ ((fault ≡ CursorAsked) × (asks_cursor payload ≡ true))
    by_test true t e = let same : CursorAsked ≡ fault = cc in inr (sym same, t)
    by_test false t e = inl (read_fault statement (execute_at statement.parameters payload) fault e)

-- A command is answered, whatever it is

module _ (config : Config) (payload : Payload) (number status : ℕ) (past : List Item) (it : Judged)
    (taken : Took config payload number (Takes it number ∷ past)) where
  abbrev s : Statements
  s = statements config past

  abbrev now : Situation
  now = situation config past

  abbrev only : Bool
  only = is_read_only (transaction config past).state.opened

  abbrev full : Bool
  full = is_full config.history_limit s

  -- what is told where it is taken for this
  abbrev IsAnswered : Judged → Type 0
  IsAnswered its = Caused config (after_command its number status) (Takes it number ∷ past)

  -- its text is forbidden, or it changes something in a read-only transaction, or it goes on its way
  query_caused : (class : Class) (forbidden changing : Bool) → class_of (arguments_of payload) ≡ class → is_forbidden class ≡ forbidden
      → (only && changes full class) ≡ changing → request_of payload ≡ requests.Query
      → IsAnswered (judged_by (refusal_by false false false false false false forbidden changing) (accepted_as now s requests.Query payload number))
  query_caused class true changing its f c r = tells (payload, taken, inr (inr (inl (r, its ∙ forbidden_is class f)))) nothing
  query_caused class false true its f c r =
      let two = both only (changes full class) c in
      tells (
        payload,
        taken,
        (only_reads (transaction config past).state.opened).0 two.0,
        inl (r, subst (λ (k : Class). IsBarred config past k) (sym its) (barred_class config past class f two.1)),
      ) nothing
  query_caused class false false its f c r = nothing

  -- what sets the session, but no text
  setting_caused : (request : Request) → (request_of payload ≡ requests.InitDb) ⊎ (request_of payload ≡ requests.Prepare)
      → (accepted : Judged) → IsAnswered accepted → (changing : Bool) → (only && full) ≡ changing
      → IsAnswered (judged_by (refusal_by false false false false false false false changing) accepted)
  setting_caused request r accepted goes true c =
      let two = both only full c in
      tells (
        payload,
        taken,
        (only_reads (transaction config past).state.opened).0 two.0,
        inr (inl (r, barred_class config past Session refl two.1)),
      ) nothing
  setting_caused request r accepted goes false c = goes

  prepare_caused : request_of payload ≡ requests.Prepare → (crowded : Bool) → is_crowded s.table.statements ≡ crowded
      → IsAnswered (judged_by (refusal_by false false false false false crowded false (only && full)) (accepted_as now s requests.Prepare payload number))
  prepare_caused r true c = tells (payload, taken, r, c) nothing
  prepare_caused r false c =
      setting_caused requests.Prepare (inr r) (accepted_as now s requests.Prepare payload number) nothing (only && full) refl

  fields_caused : (read_only : Bool)
      → IsAnswered (judged_by (refusal_by false false false false false false false (read_only && false)) (accepted_as now s requests.FieldList payload number))
  fields_caused true = nothing
  fields_caused false = nothing

  module _ (r : request_of payload ≡ requests.Execute) where
    run_caused : (plain : Plain) → execute_of s.table payload ≡ Ok plain → (forbidden changing : Bool)
        → is_forbidden (as_executed (class_of plain.text)) ≡ forbidden → (only && changes full (as_executed (class_of plain.text))) ≡ changing
        → IsAnswered (judged_by (refusal_by false false false false false false forbidden changing) (run_by (number_of_execute s.table payload) (Ok plain) payload number))
    run_caused plain x true changing f c =
        tells (payload, taken, inr (inr (inr (plain, record { request = r; form = x }, forbidden_run (class_of plain.text) f)))) nothing
    run_caused plain x false true f c =
        let two = both only (changes full (as_executed (class_of plain.text))) c in
        tells (
          payload,
          taken,
          (only_reads (transaction config past).state.opened).0 two.0,
          inr (inr (plain, record { request = r; form = x }, barred_class config past (as_executed (class_of plain.text)) f two.1)),
        ) nothing
    run_caused plain x false false f c = nothing

    fault_caused : (statement : Prepared) → option_and_then (open_at s.table) (handle_in payload) ≡ Some statement → (fault : ExecuteFault)
        → execute_of s.table payload ≡ Err fault → (fault ≡ IsBadExecute) ⊎ ((fault ≡ CursorAsked) × (asks_cursor payload ≡ true))
        → IsAnswered (judged_by (refusal_by false false (is_unknown_handle (Err fault)) (is_cursor_asked (Err fault)) (is_bad_execute (Err fault)) false false (only && changes full Other))
        (run_by (number_of_execute s.table payload) (Err fault) payload number))
    fault_caused statement named IsBadExecute x why = tells (payload, taken, r, x) nothing
    fault_caused statement named CursorAsked x (inr why) = tells (payload, taken, inr (inl (r, (statement, named), why.1))) nothing
    fault_caused statement named CursorAsked x (inl clash) = absurd cc
    fault_caused statement named UnknownHandle x (inr why) = let clash = why.0 in absurd cc
    fault_caused statement named UnknownHandle x (inl clash) = absurd cc
    fault_caused statement named OutOfMemory x (inr why) = let clash = why.0 in absurd cc
    fault_caused statement named OutOfMemory x (inl clash) = absurd cc

    form_caused : (statement : Prepared) → option_and_then (open_at s.table) (handle_in payload) ≡ Some statement
        → (found : Result Plain ExecuteFault) → plain_form statement payload ≡ found
        → IsAnswered (judged_by (refusal_by false false (is_unknown_handle found) (is_cursor_asked found) (is_bad_execute found) false (is_forbidden (class_run found)) (only && changes full (class_run found)))
        (run_by (number_of_execute s.table payload) found payload number))
    form_caused statement named (Ok plain) f =
        run_caused plain (ap (λ (found : Option Prepared). plain_if_open found payload) named ∙ f)
        (is_forbidden (as_executed (class_of plain.text))) (only && changes full (as_executed (class_of plain.text))) refl refl
    form_caused statement named (Err fault) f =
        fault_caused statement named fault (ap (λ (found : Option Prepared). plain_if_open found payload) named ∙ f) (form_fault statement payload fault f)

    execute_caused : (found : Option Prepared) → option_and_then (open_at s.table) (handle_in payload) ≡ found
        → IsAnswered (judged_by (refusal_by false false (is_unknown_handle (plain_if_open found payload)) (is_cursor_asked (plain_if_open found payload)) (is_bad_execute (plain_if_open found payload)) false (is_forbidden (class_run (plain_if_open found payload))) (only && changes full (class_run (plain_if_open found payload))))
        (run_by (number_of_execute s.table payload) (plain_if_open found payload) payload number))
    execute_caused None named = tells (payload, taken, inl r, named) nothing
    execute_caused (Some statement) named = form_caused statement named (plain_form statement payload) refl

  reset_caused : request_of payload ≡ requests.ResetStatement → status ≡ status_of (transaction config past).state
      → (found : Option Prepared) → option_and_then (open_at s.table) (handle_in payload) ≡ found
      → IsAnswered (judged_by (refusal_by false false (is_none found) false false false false false) IsOwn)
  reset_caused r shows None named = tells (payload, taken, inr r, named) nothing
  reset_caused r shows (Some statement) named = tells (payload, taken, inr (r, (statement, named)), shows) nothing

  module _ (r : request_of payload ≡ requests.SendLongData) where
    held_caused : (handle : ℕ) (piece : LongData) (statement : Prepared) → piece_in payload ≡ Some (handle, piece)
        → open_at s.table handle ≡ Some statement → (above : Bool) → nat_lt config.command_bytes (added (long_bytes statement.long_data) (length piece.bytes)) ≡ above
        → IsAnswered (if above then HasTooMuch (added (long_bytes statement.long_data) (length piece.bytes)) else IsSilent)
    held_caused handle piece statement d named false a = nothing
    held_caused handle piece statement d named true a =
        let bytes = added (long_bytes statement.long_data) (length piece.bytes) in
        let too_much : HoldsTooMuch config payload bytes past = record {
          request = r;
          handle = handle;
          piece = piece;
          said = d;
          statement = statement;
          named = named;
          holds = refl;
          above = ltb-true config.command_bytes bytes a;
        } in
        tells (inr (payload, bytes, taken, too_much)) (closes (inr (Takes it number ∷ past, number, payload, refl, taken, too_much)))

    none_caused : (above : Bool) → nat_lt config.command_bytes 0 ≡ above → IsAnswered (if above then HasTooMuch 0 else IsSilent)
    none_caused false a = nothing
    none_caused true a = let below = ltb-true config.command_bytes 0 a in absurd (omega arith)

    open_caused : (handle : ℕ) (piece : LongData) → piece_in payload ≡ Some (handle, piece) → (found : Option Prepared)
        → open_at s.table handle ≡ found
        → IsAnswered (long_data_as config.command_bytes (if is_some found then added (held_by found) (length piece.bytes) else 0))
    open_caused handle piece d None named = none_caused (nat_lt config.command_bytes 0) refl
    open_caused handle piece d (Some statement) named =
        held_caused handle piece statement d named (nat_lt config.command_bytes (added (long_bytes statement.long_data) (length piece.bytes))) refl

    data_caused : (found : Option (ℕ × LongData)) → piece_in payload ≡ found
        → IsAnswered (long_data_as config.command_bytes (held_with s.table found))
    data_caused (Some (handle, piece)) d = open_caused handle piece d (open_at s.table handle) refl
    data_caused None d = none_caused (nat_lt config.command_bytes 0) refl

pub command_caused : (config : Config) (payload : Payload) (number : ℕ) (past : List Item) (it : Judged) (request : Request)
    → request_of payload ≡ request → Took config payload number (Takes it number ∷ past)
    → Caused config (after_command (judged_for request (situation config past) (statements config past) payload number) number (status_of (transaction config past).state))
    (Takes it number ∷ past)
command_caused config payload number past it requests.Quit r taken = closes (payload, number, taken, r)
command_caused config payload number past it requests.Ping r taken = tells (payload, taken, inl r, refl) nothing
command_caused config payload number past it requests.Query r taken =
    query_caused config payload number (status_of (transaction config past).state) past it taken (class_of (arguments_of payload))
    (is_forbidden (class_of (arguments_of payload)))
    (is_read_only (transaction config past).state.opened && changes (is_full config.history_limit (statements config past)) (class_of (arguments_of payload))) refl refl refl r
command_caused config payload number past it requests.FieldList r taken =
    fields_caused config payload number (status_of (transaction config past).state) past it taken (is_read_only (transaction config past).state.opened)
command_caused config payload number past it requests.InitDb r taken =
    setting_caused config payload number (status_of (transaction config past).state) past it taken requests.InitDb (inl r)
    (accepted_as (situation config past) (statements config past) requests.InitDb payload number) nothing
    (is_read_only (transaction config past).state.opened && is_full config.history_limit (statements config past)) refl
command_caused config payload number past it requests.Prepare r taken =
    prepare_caused config payload number (status_of (transaction config past).state) past it taken r (is_crowded (statements config past).table.statements) refl
command_caused config payload number past it requests.Execute r taken =
    execute_caused config payload number (status_of (transaction config past).state) past it taken r
    (option_and_then (open_at (statements config past).table) (handle_in payload)) refl
command_caused config payload number past it requests.SendLongData r taken =
    data_caused config payload number (status_of (transaction config past).state) past it taken r (piece_in payload) refl
command_caused config payload number past it requests.CloseStatement r taken = nothing
command_caused config payload number past it requests.ResetStatement r taken =
    reset_caused config payload number (status_of (transaction config past).state) past it taken r refl
    (option_and_then (open_at (statements config past).table) (handle_in payload)) refl
command_caused config payload number past it requests.Unsupported r taken = tells (payload, taken, inl r) nothing
command_caused config payload number past it requests.Unknown r taken = tells (payload, taken, r) nothing

-- What has no answer is a close, or long data

data_silence : (room held : ℕ) (payload : Payload) → request_of payload ≡ requests.SendLongData → IsSilence (long_data_as room held) payload
data_silence room held payload r = by_test (nat_lt room held)
  where
    by_test : (test : Bool) → IsSilence (if test then HasTooMuch held else IsSilent) payload
    by_test true = tt
    by_test false = inr r

run_silence : (handle : ℕ) (found : Result Plain ExecuteFault) (payload : Payload) (number : ℕ) → IsSilence (run_by handle found payload number) payload
run_silence handle (Ok plain) payload number = tt
run_silence handle (Err fault) payload number = tt

refusal_silence : (refusal : Option ProxyError) (accepted : Judged) (payload : Payload) → IsSilence accepted payload
    → IsSilence (judged_by refusal accepted) payload
refusal_silence (Some error) accepted payload its = tt
refusal_silence None accepted payload its = its

module _ (now : Situation) (s : Statements) (payload : Payload) (number : ℕ) where
  accepted_silence : (request : Request) → request_of payload ≡ request → IsSilence (accepted_as now s request payload number) payload
  accepted_silence requests.Quit r = tt
  accepted_silence requests.Ping r = tt
  accepted_silence requests.Query r = tt
  accepted_silence requests.FieldList r = tt
  accepted_silence requests.InitDb r = tt
  accepted_silence requests.Prepare r = tt
  accepted_silence requests.Execute r = run_silence (number_of_execute s.table payload) (execute_of s.table payload) payload number
  accepted_silence requests.SendLongData r = data_silence now.room (held_with s.table (piece_in payload)) payload r
  accepted_silence requests.CloseStatement r = inl r
  accepted_silence requests.ResetStatement r = tt
  accepted_silence requests.Unsupported r = tt
  accepted_silence requests.Unknown r = tt

  pub judged_silence : IsSilence (judged now s payload number) payload
  judged_silence =
      refusal_silence (refusal_of now s (request_of payload) (class_in s.table (request_of payload) payload) payload)
      (accepted_as now s (request_of payload) payload number) payload (accepted_silence (request_of payload) refl)

-- The reply to a command for a server begins with its number

abbrev IsNumbered : ℕ → Judged → Type 0
IsNumbered number (Serves command) = command.number ≡ number
IsNumbered number _ = Unit {0}

data_numbered : (room held number : ℕ) → IsNumbered number (long_data_as room held)
data_numbered room held number = by_test (nat_lt room held)
  where
    by_test : (test : Bool) → IsNumbered number (if test then HasTooMuch held else IsSilent)
    by_test true = tt
    by_test false = tt

run_numbered : (handle : ℕ) (found : Result Plain ExecuteFault) (payload : Payload) (number : ℕ) → IsNumbered number (run_by handle found payload number)
run_numbered handle (Ok plain) payload number = refl
run_numbered handle (Err fault) payload number = tt

refusal_numbered : (refusal : Option ProxyError) (accepted : Judged) (number : ℕ) → IsNumbered number accepted
    → IsNumbered number (judged_by refusal accepted)
refusal_numbered (Some error) accepted number its = tt
refusal_numbered None accepted number its = its

module _ (now : Situation) (s : Statements) (payload : Payload) (number : ℕ) where
  accepted_numbered : (request : Request) → IsNumbered number (accepted_as now s request payload number)
  accepted_numbered requests.Quit = tt
  accepted_numbered requests.Ping = tt
  accepted_numbered requests.Query = refl
  accepted_numbered requests.FieldList = refl
  accepted_numbered requests.InitDb = refl
  accepted_numbered requests.Prepare = refl
  accepted_numbered requests.Execute = run_numbered (number_of_execute s.table payload) (execute_of s.table payload) payload number
  accepted_numbered requests.SendLongData = data_numbered now.room (held_with s.table (piece_in payload)) number
  accepted_numbered requests.CloseStatement = tt
  accepted_numbered requests.ResetStatement = tt
  accepted_numbered requests.Unsupported = tt
  accepted_numbered requests.Unknown = tt

  pub judged_numbered : IsNumbered number (judged now s payload number)
  judged_numbered =
      refusal_numbered (refusal_of now s (request_of payload) (class_in s.table (request_of payload) payload) payload)
      (accepted_as now s (request_of payload) payload number) number (accepted_numbered (request_of payload))

-- it is asked for, if it is for a server
pub asked_now : (config : Config) (payload : Payload) (past : List Item) (number : ℕ) (it : Judged) → pending past ≡ None → IsNumbered number it
    → Took config payload number (Takes it number ∷ past) → Asking config (Takes it number ∷ past)
asked_now config payload past number (Serves command) p same taken = λ other e.
    subst (λ (its : Command). IsAsked config its (Takes (Serves command) number ∷ past)) (same_some command other e)
    (record {
      asked = subst (λ (n : ℕ). Asked config command (Takes (Serves command) n ∷ past)) same
          (here {payload = payload} (subst (λ (n : ℕ). Took config payload n (Takes (Serves command) n ∷ past)) (sym same) taken));
      counts = sym same;
    })
asked_now config payload past number Leaves p same taken = λ other e. let clash : None ≡ Some other = sym p ∙ e in absurd cc
asked_now config payload past number IsOwn p same taken = λ other e. let clash : None ≡ Some other = sym p ∙ e in absurd cc
asked_now config payload past number (IsRefused error) p same taken = λ other e. let clash : None ≡ Some other = sym p ∙ e in absurd cc
asked_now config payload past number IsSilent p same taken = λ other e. let clash : None ≡ Some other = sym p ∙ e in absurd cc
asked_now config payload past number (HasTooMuch bytes) p same taken = λ other e. let clash : None ≡ Some other = sym p ∙ e in absurd cc
