-- Each id that is kept for a link is one that the link's server gave.
use Rattle.std.proofs.Common.{◌≡◌, ℕ, Bool, true, false, List, [], ◌∷◌, refl, sym, ap, subst, ◌∙◌, inl, inr, Option, Some, None}
use Rattle.std.specs.Prelude.{◌⊎◌, is_some, unwrap_or, Result, Ok, Err, if◌then◌else◌}
use Rattle.rws_msgs.specs.declared.prepare_ok.PrepareOk.{PrepareOk}
use Rattle.rws_reply.specs.declared.kind.Outcome.{Outcome}
use Rattle.rws_reply.specs.declared.kind.Outcome.TheVariants.{Done, Failed}
use Rattle.rws_reply.specs.declared.kind.Progress.TheVariants.{More, Whole as Ends}
use Rattle.rws_front.specs.Connection.{step_of}
use Rattle.rws_trx.specs.Transactions.{is_open}
use Rattle.rws_link.specs.declared.step.LinkStep.{LinkStep}
use Rattle.rws_link.specs.declared.step.LinkStep.TheVariants as steps
use Rattle.rws_config.specs.declared.config.Config.{Config}
use Rattle.rws_handles.specs.declared.fault.ExecuteFault.{ExecuteFault}
use Rattle.rws_handles.specs.LinkIds.{Ids}
use Rattle.rws_handles.specs.Links.{id_on, left_all, left_on}
use Rattle.rws_handles.specs.PlainForm.{Plain, handle_in, number_in}
use Rattle.rws_handles.specs.Prepared.{LongData}
use Rattle.rws_handles.specs.Slots.{closed_numbers, is_crowded, next_number}
use Rattle.rws_handles.specs.Table.{Table, closed, execute_of, named, open_at}
use Rattle.rws_commands.specs.declared.command.Body.{Body}
use Rattle.rws_commands.specs.declared.command.Command.{Command}
use Rattle.rws_commands.specs.declared.history.HistoryEntry.{HistoryEntry}
use Rattle.rws_commands.specs.declared.history.PreparedAs.{PreparedAs}
use Rattle.rws_commands.specs.declared.judged.Judged.{Judged}
use Rattle.rws_commands.specs.declared.judged.Judged.TheVariants.{Leaves, IsOwn, IsRefused, IsSilent, HasTooMuch, Serves}
use Rattle.rws_commands.specs.declared.proxy_error.ProxyError.{ProxyError}
use Rattle.rws_commands.specs.declared.proxy_error.ProxyError.TheVariants as errors
use Rattle.rws_commands.specs.declared.request.Request.{Request}
use Rattle.rws_commands.specs.declared.request.Request.TheVariants as requests
use Rattle.rws_commands.specs.Commands.{id_for, payload_of}
use Rattle.rws_commands.specs.Requests.{arguments_of, request_of}
use Rattle.rws_commands.specs.Statements.{Statements, adding, answered_by, closing, executing, failed_if, has_serial, is_prepare, is_prepared, named_ids, piece_in, played as played_step, prepared_by, resetting, swept_if, taken, taken_for}
use Rattle.rws_record.specs.Item.{Ending, Item, Purpose}
use Rattle.rws_record.specs.Item.Item.{Accepted, TurnsAway, Began, ClientBytes, LinkReady, LinkBytes, ClientGone, LinkLost, Ticks, Routed, Comes, Connects, Takes, Floods, Puts, Starves}
use Rattle.rws_record.specs.Item.Put.{Hands, Tells, Records, Routes, Opens, LogsInto, Sends, Forgets, Drops, Closes}
use Rattle.rws_record.specs.Item.Purpose.{Prepares, Asks, Plays, Waits, Probes}
use Rattle.rws_record.specs.Item.Tell.{Passes, Owns, Refuses}
use Rattle.rws_record.specs.Values.{answered_in, asked_on, command_in, ends_transaction, fronted, heard_on, named_in, named_on, pending, prepares, serial_for, serials, statements, transaction}
use Rattle.rws_laws.specs.Laws.{GaveId, IdsAreOfTheLink}
use Rattle.rws_laws.specs.Laws.GaveId.{led, played, since}
use Rattle.rws_laws.proofs.CausesLemmas.{causes}
use Rattle.rws_laws.proofs.LinkIdLemmas.{Held, forgotten_held, found_held, given_held, left_held, stale_held, without_held}

-- Steps by which a link gets none

abbrev FromBefore : Table → Table → Type 0
FromBefore old new = (link number id : ℕ) → Held link number id new.links → Held link number id old.links

executing_held : (found : Result Plain ExecuteFault) (handle : ℕ) (table : Table) → FromBefore table (executing found handle table)
executing_held (Ok plain) handle table = λ link number id has. has
executing_held (Err fault) handle table = λ link number id has. has

if_held : (test : Bool) (old now before : Table) → FromBefore old now → FromBefore old before → FromBefore old (if test then now else before)
if_held true old now before its others = its
if_held false old now before its others = others

adding_held : (found : Option (ℕ × LongData)) (table : Table) → FromBefore table (adding found table)
adding_held (Some (handle, piece)) table =
    if_held (is_some (open_at table handle)) table _ table (λ link number id has. has) (λ link number id has. has)
adding_held None table = λ link number id has. has

resetting_held : (found : Option ℕ) (table : Table) → FromBefore table (resetting found table)
resetting_held (Some handle) table =
    if_held (is_some (open_at table handle)) table _ table (λ link number id has. has) (λ link number id has. has)
resetting_held None table = λ link number id has. has

closed_held : (later : Bool) (table : Table) (handle : ℕ) → FromBefore table (closed later table handle)
closed_held true table handle = λ link number id has. has
closed_held false table handle = λ link number id has. left_held (named table.last handle) link number id table.links has

closing_held : (later : Bool) (handle : Option ℕ) (s : Statements) → FromBefore s.table (closing later handle s).table
closing_held later None s = λ link number id has. has
closing_held later (Some handle) s = by_test (is_some (open_at s.table handle)) refl
  where
    by_test : (test : Bool) → is_some (open_at s.table handle) ≡ test → FromBefore s.table (closing later (Some handle) s).table
    by_test true t = rw t (closed_held later s.table handle)
    by_test false t = rw t (λ link number id has. has)

taken_held : (request : Request) (in_transaction : Bool) (payload : List ℕ) (s : Statements) → FromBefore s.table (taken request in_transaction payload s).table
taken_held requests.CloseStatement in_transaction payload s = closing_held in_transaction (handle_in payload) s
taken_held requests.Execute in_transaction payload s = executing_held (execute_of s.table payload) (unwrap_or (handle_in payload) 0) s.table
taken_held requests.SendLongData in_transaction payload s = adding_held (piece_in payload) s.table
taken_held requests.ResetStatement in_transaction payload s = resetting_held (handle_in payload) s.table
taken_held requests.Prepare in_transaction payload s = λ link number id has. has
taken_held requests.Quit in_transaction payload s = λ link number id has. has
taken_held requests.Ping in_transaction payload s = λ link number id has. has
taken_held requests.Query in_transaction payload s = λ link number id has. has
taken_held requests.FieldList in_transaction payload s = λ link number id has. has
taken_held requests.InitDb in_transaction payload s = λ link number id has. has
taken_held requests.Unsupported in_transaction payload s = λ link number id has. has
taken_held requests.Unknown in_transaction payload s = λ link number id has. has

failed_held : (prepares : Bool) (s : Statements) → FromBefore s.table (failed_if prepares s).table
failed_held true s = λ link number id has. has
failed_held false s = λ link number id has. has

taken_for_held : (judged : Judged) (request : Request) (in_transaction : Bool) (payload : List ℕ) (s : Statements)
    → FromBefore s.table (taken_for judged request in_transaction payload s).table
taken_for_held (IsRefused error) request in_transaction payload s = failed_held (is_prepare request) s
taken_for_held (HasTooMuch bytes) request in_transaction payload s = λ link number id has. has
taken_for_held Leaves request in_transaction payload s = taken_held request in_transaction payload s
taken_for_held IsOwn request in_transaction payload s = taken_held request in_transaction payload s
taken_for_held IsSilent request in_transaction payload s = taken_held request in_transaction payload s
taken_for_held (Serves command) request in_transaction payload s = taken_held request in_transaction payload s

all_held : (numbers : List ℕ) (links : List Ids) (link number id : ℕ) → Held link number id (left_all numbers links) → Held link number id links
all_held [] links link number id has = has
all_held (first ∷ others) links link number id has = left_held first link number id links (all_held others (left_on first links) link number id has)

swept_held : (ends : Bool) (s : Statements) → FromBefore s.table (swept_if ends s).table
swept_held true s = λ link number id has. all_held (closed_numbers s.table.statements) s.table.links link number id has
swept_held false s = λ link number id has. has

-- An entry is played

record Named (from : ℕ) (entry : HistoryEntry) (named : Option PrepareOk) (link number id : ℕ) : Type 0 where
  on : from ≡ link
  how : PreparedAs
  prepares_it : entry.statement ≡ Some how
  its_number : how.number ≡ number
  ok : PrepareOk
  told : named ≡ Some ok
  its_id : ok.id ≡ id

played_held : (from : ℕ) (entry : HistoryEntry) (how : Option PreparedAs) (named : Option PrepareOk) (s : Statements) (link number id : ℕ)
    → entry.statement ≡ how → Held link number id (played_step from entry.serial how named s).table.links
    → Named from entry named link number id ⊎ Held link number id s.table.links
played_held from entry None named s link number id e has = inr has
played_held from entry (Some how) None s link number id e has = inr has
played_held from entry (Some how) (Some ok) s link number id e has = by_test (has_serial entry.serial s.history) has
  where
    by_test : (test : Bool) → Held link number id (named_ids test from how ok s.table.links)
        → Named from entry (Some ok) link number id ⊎ Held link number id s.table.links
    by_test true has = elim (given_held from how.number ok.id link number id s.table.links has) [
      | inl new ↦ inl (record { on = new.0; how = how; prepares_it = e; its_number = new.1; ok = ok; told = refl; its_id = new.2 })
      | inr old ↦ inr old
    ]
    by_test false has = inr (stale_held from ok.id link number id s.table.links has)

heard_held : (from : ℕ) (said : LinkStep) (asked : Option Purpose) (ends : Outcome → Bool) (named : Option PrepareOk) (s : Statements) (link number id : ℕ)
    → Held link number id (heard_on from said asked ends named s).table.links
    → ((payload : List ℕ) × (role : _) × (status : ℕ) × (next : ℕ) × (behind : Bool) × (entry : HistoryEntry)
    × (said ≡ steps.Part payload role (Ends (Done status)) next behind) × (asked ≡ Some (Plays entry)) × Named from entry (named_in role payload named) link number id)
    ⊎ Held link number id s.table.links
heard_held from (steps.Part payload role (Ends outcome) next behind) (Some (Asks command its)) ends named s link number id has =
    inr (swept_held (ends outcome) s link number id has)
heard_held from (steps.Part payload role (Ends (Done status)) next behind) (Some (Plays entry)) ends named s link number id has =
    elim (played_held from entry entry.statement (named_in role payload named) s link number id refl has) [
      | inl new ↦ inl (payload, role, status, next, behind, entry, refl, refl, new)
      | inr old ↦ inr old
    ]
heard_held from (steps.Part payload role (Ends (Failed code)) next behind) (Some (Plays entry)) ends named s link number id has = inr has
heard_held from (steps.Part payload role (Ends outcome) next behind) (Some Prepares) ends named s link number id has = inr has
heard_held from (steps.Part payload role (Ends outcome) next behind) (Some (Waits gtid seconds)) ends named s link number id has = inr has
heard_held from (steps.Part payload role (Ends outcome) next behind) (Some (Probes gtid)) ends named s link number id has = inr has
heard_held from (steps.Part payload role (Ends outcome) next behind) None ends named s link number id has = inr has
heard_held from (steps.Part payload role More next behind) asked ends named s link number id has = inr has
heard_held from (steps.Lost cause) asked ends named s link number id has = inr has
heard_held from (steps.Send packets) asked ends named s link number id has = inr has
heard_held from steps.LoggedIn asked ends named s link number id has = inr has
heard_held from steps.Idle asked ends named s link number id has = inr has

-- A prepare is answered

record Led (from : ℕ) (its : Ending) (s : Statements) (link number id : ℕ) : Type 0 where
  on : from ≡ link
  ok : PrepareOk
  told : its.named ≡ Some ok
  its_id : ok.id ≡ id
  its_number : next_number s.table.statements ≡ number

prepared_held : (from : ℕ) (text : List ℕ) (its : Ending) (outcome : Outcome) (named : Option PrepareOk) (s : Statements) (link number id : ℕ)
    → its.named ≡ named → Held link number id (prepared_by from text outcome named s.table).links → Led from its s link number id ⊎ Held link number id s.table.links
prepared_held from text its (Failed code) named s link number id e has = inr has
prepared_held from text its (Done status) None s link number id e has = inr has
prepared_held from text its (Done status) (Some ok) s link number id e has = by_test (is_crowded s.table.statements) refl
  where
    by_test : (test : Bool) → is_crowded s.table.statements ≡ test → Led from its s link number id ⊎ Held link number id s.table.links
    by_test true t = inr (let has : Held link number id s.table.links = rw t at has in has)
    by_test false t =
        let has = rw t at has in
        elim (given_held from (next_number s.table.statements) ok.id link number id s.table.links has) [
          | inl new ↦ inl (record { on = new.0; ok = ok; told = e; its_id = new.2; its_number = new.1 })
          | inr old ↦ inr old
        ]

answered_held : (from : ℕ) (command : Option Command) (its : Ending) (serial : Option ℕ) (s : Statements) (link number id : ℕ)
    → Held link number id (answered_in from command its serial s).table.links → Led from its s link number id ⊎ Held link number id s.table.links
answered_held from None its serial s link number id has = inr has
answered_held from (Some command) its serial s link number id has = by_kind (is_prepared command.kind) serial has
  where
    by_kind : (prepares : Bool) (serial : Option ℕ) → Held link number id (answered_by prepares from command its.outcome its.named serial s).table.links
        → Led from its s link number id ⊎ Held link number id s.table.links
    by_kind true (Some serial) has = prepared_held from (arguments_of (payload_of command.body)) its its.outcome its.named s link number id refl has
    by_kind true None has = prepared_held from (arguments_of (payload_of command.body)) its its.outcome its.named s link number id refl has
    by_kind false (Some serial) has = inr has
    by_kind false None has = inr has

refused_held : (config : Config) (past : List Item) (told : ℕ) (error : ProxyError)
    → FromBefore (statements config past).table (statements config (Puts (Tells told (Refuses error)) ∷ past)).table
refused_held config past told errors.NoPrimary = failed_held (prepares (pending past)) (statements config past)
refused_held config past told (errors.PrimaryBehind wanted found) = failed_held (prepares (pending past)) (statements config past)
refused_held config past told errors.UnknownCommand = λ link number id has. has
refused_held config past told errors.NotSupported = λ link number id has. has
refused_held config past told errors.UnknownStatement = λ link number id has. has
refused_held config past told errors.BadExecute = λ link number id has. has
refused_held config past told errors.TooManyStatements = λ link number id has. has
refused_held config past told errors.NotInReadOnly = λ link number id has. has
refused_held config past told errors.TooManyConnections = λ link number id has. has
refused_held config past told errors.CommandTooLarge = λ link number id has. has
refused_held config past told errors.OutOfMemory = λ link number id has. has

-- In each record

gave : (config : Config) (past : List Item) (link number id : ℕ) → Held link number id (statements config past).table.links → GaveId config link number id past
gave config [] link number id has = absurd has
gave config (Takes judged next ∷ past) link number id has =
    since (gave config past link number id
    (taken_for_held judged (request_of (command_in (step_of config.accounts (fronted config past)).0)) (is_open (transaction config past).state)
    (command_in (step_of config.accounts (fronted config past)).0) (statements config past) link number id has))
gave config (Comes from said ∷ past) link number id has =
    by_heard (heard_held from said (asked_on from past) (λ outcome. ends_transaction config from outcome past) (named_on from past) (statements config past) link number id has)
    (gave config past link number id)
  where
    by_heard : ((payload : List ℕ) × (role : _) × (status : ℕ) × (next : ℕ) × (behind : Bool) × (entry : HistoryEntry)
        × (said ≡ steps.Part payload role (Ends (Done status)) next behind) × (asked_on from past ≡ Some (Plays entry))
        × Named from entry (named_in role payload (named_on from past)) link number id)
        ⊎ Held link number id (statements config past).table.links
        → (Held link number id (statements config past).table.links → GaveId config link number id past) → GaveId config link number id (Comes from said ∷ past)
    by_heard (inr old) rest = since (rest old)
    by_heard (inl (payload, role, status, next, behind, entry, is, asked, new)) rest =
        subst (λ (its : LinkStep). GaveId config link number id (Comes from its ∷ past)) (sym is)
        (subst (λ (l : ℕ). GaveId config l number id (Comes from (steps.Part payload role (Ends (Done status)) next behind) ∷ past)) new.on
        (played entry new.how new.ok asked new.prepares_it new.its_number new.told new.its_id))
gave config (Puts (Tells told (Passes from command payload (Some its) recording)) ∷ past) link number id has =
    by_led (answered_held from (pending past) its (serial_for recording (serials past)) (statements config past) link number id has)
    (gave config past link number id)
  where
    by_led : Led from its (statements config past) link number id ⊎ Held link number id (statements config past).table.links
        → (Held link number id (statements config past).table.links → GaveId config link number id past)
        → GaveId config link number id (Puts (Tells told (Passes from command payload (Some its) recording)) ∷ past)
    by_led (inr old) rest = since (rest old)
    by_led (inl new) rest =
        subst (λ (l : ℕ). GaveId config l number id (Puts (Tells told (Passes from command payload (Some its) recording)) ∷ past)) new.on
        (led new.ok new.told new.its_id new.its_number)
gave config (Puts (Tells told (Passes from command payload None recording)) ∷ past) link number id has = since (gave config past link number id has)
gave config (Puts (Tells told (Owns status)) ∷ past) link number id has = since (gave config past link number id has)
gave config (Puts (Tells told (Refuses error)) ∷ past) link number id has =
    since (gave config past link number id (refused_held config past told error link number id has))
gave config (Puts (Forgets to its) ∷ past) link number id has =
    since (gave config past link number id (forgotten_held to link number id (statements config past).table.links has))
gave config (LinkLost gone ∷ past) link number id has =
    since (gave config past link number id (without_held gone link number id (statements config past).table.links has))
gave config (Puts (Drops gone cause) ∷ past) link number id has =
    since (gave config past link number id (without_held gone link number id (statements config past).table.links has))
gave config (Puts (Hands packets) ∷ past) link number id has = since (gave config past link number id has)
gave config (Puts (Records server gtid) ∷ past) link number id has = since (gave config past link number id has)
gave config (Puts Routes ∷ past) link number id has = since (gave config past link number id has)
gave config (Puts (Opens opened server login) ∷ past) link number id has = since (gave config past link number id has)
gave config (Puts (LogsInto to packets) ∷ past) link number id has = since (gave config past link number id has)
gave config (Puts (Sends to purpose) ∷ past) link number id has = since (gave config past link number id has)
gave config (Puts (Closes reason) ∷ past) link number id has = since (gave config past link number id has)
gave config (Accepted session scramble reading ∷ past) link number id has = since (gave config past link number id has)
gave config (TurnsAway told ∷ past) link number id has = since (gave config past link number id has)
gave config (Began first server reading ∷ past) link number id has = since (gave config past link number id has)
gave config (ClientBytes bytes ∷ past) link number id has = since (gave config past link number id has)
gave config (LinkReady ready ∷ past) link number id has = since (gave config past link number id has)
gave config (LinkBytes from bytes ∷ past) link number id has = since (gave config past link number id has)
gave config (ClientGone ∷ past) link number id has = since (gave config past link number id has)
gave config (Ticks reading ∷ past) link number id has = since (gave config past link number id has)
gave config (Routed words loads next found ∷ past) link number id has = since (gave config past link number id has)
gave config (Connects said ∷ past) link number id has = since (gave config past link number id has)
gave config (Floods bytes ∷ past) link number id has = since (gave config past link number id has)
gave config (Starves made next ∷ past) link number id has = since (gave config past link number id has)

pub ids_are_of_the_link : IdsAreOfTheLink
ids_are_of_the_link config past link id command execution legal b =
    let cause = (causes config (Puts (Sends link (Asks command (Some id))) ∷ past) legal).0 in
    let its : id_on (statements config past).table.links link (number_in execution.commands) ≡ Some id =
    sym (ap (λ (body : Body). id_for link body (statements config past).table.links) b) ∙ cause.9 in
    gave config past link (number_in execution.commands) id (found_held link (number_in execution.commands) id (statements config past).table.links its)
