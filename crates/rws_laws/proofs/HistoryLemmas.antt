-- How a session's history moves: entries leave it with their statements, and one is added where a reply says so.
use Rattle.std.proofs.Common.{◌≡◌, ℕ, suc, ◌≤◌, Bool, true, false, List, [], ◌∷◌, filter, length, refl, sym, ap, arith, Option, Some, None}
use Rattle.std.specs.Prelude.{is_some, if◌then◌else◌}
use Rattle.rws_msgs.specs.declared.prepare_ok.PrepareOk.{PrepareOk}
use Rattle.rws_reply.specs.declared.kind.Outcome.{Outcome}
use Rattle.rws_reply.specs.declared.kind.Outcome.TheVariants.{Done, Failed}
use Rattle.rws_reply.specs.declared.kind.Progress.TheVariants.{More, Whole as Ends}
use Rattle.rws_trx.specs.Transactions.{is_open}
use Rattle.rws_front.specs.Connection.{step_of}
use Rattle.rws_link.specs.declared.step.LinkStep.{LinkStep}
use Rattle.rws_link.specs.declared.step.LinkStep.TheVariants as steps
use Rattle.rws_config.specs.declared.config.Config.{Config}
use Rattle.rws_handles.specs.PlainForm.{handle_in}
use Rattle.rws_handles.specs.Slots.{Slots}
use Rattle.rws_handles.specs.Table.{Table, closed, open_at, swept}
use Rattle.rws_commands.specs.declared.command.Command.{Command}
use Rattle.rws_commands.specs.declared.history.HistoryEntry.{HistoryEntry}
use Rattle.rws_commands.specs.declared.history.PreparedAs.{PreparedAs}
use Rattle.rws_commands.specs.declared.judged.Judged.{Judged}
use Rattle.rws_commands.specs.declared.judged.Judged.TheVariants.{Leaves, IsOwn, IsRefused, IsSilent, HasTooMuch, Serves}
use Rattle.rws_commands.specs.declared.proxy_error.ProxyError.{ProxyError}
use Rattle.rws_commands.specs.declared.proxy_error.ProxyError.TheVariants as errors
use Rattle.rws_commands.specs.declared.request.Request.{Request}
use Rattle.rws_commands.specs.declared.request.Request.TheVariants as requests
use Rattle.rws_commands.specs.Requests.{request_of}
use Rattle.rws_commands.specs.Statements.{Statements, answered_by, closing, failed_if, is_prepare, is_prepared, played, stands, swept_if, taken, taken_for, with_table}
use Rattle.rws_record.specs.Item.{Ending, Item, Purpose}
use Rattle.rws_record.specs.Item.Item.{Accepted, TurnsAway, Began, ClientBytes, LinkReady, LinkBytes, ClientGone, LinkLost, Ticks, Routed, Comes, Connects, Takes, Floods, Puts, Starves}
use Rattle.rws_record.specs.Item.Purpose.{Prepares, Asks, Plays, Waits, Probes}
use Rattle.rws_record.specs.Item.Put.{Hands, Tells, Records, Routes, Opens, LogsInto, Sends, Forgets, Drops, Closes}
use Rattle.rws_record.specs.Item.Recording.{Nothing, Accepts, Keeps}
use Rattle.rws_record.specs.Item.Tell.{Passes, Owns, Refuses}
use Rattle.rws_record.specs.Values.{answered_in, asked_on, command_in, ends_transaction, fronted, heard_on, named_in, named_on, pending, prepares, statements, transaction}

-- prepares may leave it
pub record Shrinks (old new : List HistoryEntry) : Type 0 where
  pub keeps : HistoryEntry → Bool
  pub is : new ≡ filter keeps old
  pub prepared : (entry : HistoryEntry) → keeps entry ≡ false → is_some entry.statement ≡ true

pub all_kept : (list : List HistoryEntry) → filter (λ entry. true) list ≡ list
all_kept [] = refl
all_kept (first ∷ others) = ap (λ (rest : List HistoryEntry). first ∷ rest) (all_kept others)

pub same_shrinks : (list : List HistoryEntry) → Shrinks list list
same_shrinks list = record { keeps = λ entry. true; is = sym (all_kept list); prepared = λ entry e. absurd cc }

filter_shorter : (keeps : HistoryEntry → Bool) (list : List HistoryEntry) → length (filter keeps list) ≤ length list
filter_shorter keeps [] = omega arith
filter_shorter keeps (first ∷ others) = by_test (keeps first) (filter_shorter keeps others)
  where
    by_test : (test : Bool) → length (filter keeps others) ≤ length others
        → length (if test then first ∷ filter keeps others else filter keeps others) ≤ suc (length others)
    by_test true less = omega arith
    by_test false less = omega arith

pub shorter : {old new : List HistoryEntry} → Shrinks old new → length new ≤ length old
shorter {old} {new} shrinks =
    let less = filter_shorter shrinks.keeps old in
    let same : length new ≡ length (filter shrinks.keeps old) = ap length shrinks.is in omega arith

only_prepares : (slots : Slots) (statement : Option PreparedAs) → stands slots statement ≡ false → is_some statement ≡ true
only_prepares slots None e = absurd cc
only_prepares slots (Some how) e = refl

table_shrinks : (table : Table) (s : Statements) → Shrinks s.history (with_table table s).history
table_shrinks table s = record {
  keeps = λ entry. stands table.statements entry.statement;
  is = refl;
  prepared = λ entry e. only_prepares table.statements entry.statement e;
}

closing_shrinks : (later : Bool) (handle : Option ℕ) (s : Statements) → Shrinks s.history (closing later handle s).history
closing_shrinks later None s = same_shrinks s.history
closing_shrinks later (Some handle) s = by_test (is_some (open_at s.table handle))
  where
    by_test : (test : Bool) → Shrinks s.history (if test then with_table (closed later s.table handle) s else s).history
    by_test true = table_shrinks (closed later s.table handle) s
    by_test false = same_shrinks s.history

taken_shrinks : (request : Request) (in_transaction : Bool) (payload : List ℕ) (s : Statements)
    → Shrinks s.history (taken request in_transaction payload s).history
taken_shrinks requests.CloseStatement in_transaction payload s = closing_shrinks in_transaction (handle_in payload) s
taken_shrinks requests.Execute in_transaction payload s = same_shrinks s.history
taken_shrinks requests.SendLongData in_transaction payload s = same_shrinks s.history
taken_shrinks requests.ResetStatement in_transaction payload s = same_shrinks s.history
taken_shrinks requests.Prepare in_transaction payload s = same_shrinks s.history
taken_shrinks requests.Quit in_transaction payload s = same_shrinks s.history
taken_shrinks requests.Ping in_transaction payload s = same_shrinks s.history
taken_shrinks requests.Query in_transaction payload s = same_shrinks s.history
taken_shrinks requests.FieldList in_transaction payload s = same_shrinks s.history
taken_shrinks requests.InitDb in_transaction payload s = same_shrinks s.history
taken_shrinks requests.Unsupported in_transaction payload s = same_shrinks s.history
taken_shrinks requests.Unknown in_transaction payload s = same_shrinks s.history

failed_shrinks : (prepares : Bool) (s : Statements) → Shrinks s.history (failed_if prepares s).history
failed_shrinks true s = same_shrinks s.history
failed_shrinks false s = same_shrinks s.history

taken_for_shrinks : (judged : Judged) (request : Request) (in_transaction : Bool) (payload : List ℕ) (s : Statements)
    → Shrinks s.history (taken_for judged request in_transaction payload s).history
taken_for_shrinks (IsRefused error) request in_transaction payload s = failed_shrinks (is_prepare request) s
taken_for_shrinks (HasTooMuch bytes) request in_transaction payload s = same_shrinks s.history
taken_for_shrinks Leaves request in_transaction payload s = taken_shrinks request in_transaction payload s
taken_for_shrinks IsOwn request in_transaction payload s = taken_shrinks request in_transaction payload s
taken_for_shrinks IsSilent request in_transaction payload s = taken_shrinks request in_transaction payload s
taken_for_shrinks (Serves command) request in_transaction payload s = taken_shrinks request in_transaction payload s

swept_shrinks : (ends : Bool) (s : Statements) → Shrinks s.history (swept_if ends s).history
swept_shrinks true s = table_shrinks (swept s.table) s
swept_shrinks false s = same_shrinks s.history

played_shrinks : (link serial : ℕ) (how : Option PreparedAs) (named : Option PrepareOk) (s : Statements)
    → Shrinks s.history (played link serial how named s).history
played_shrinks link serial (Some how) (Some ok) s = same_shrinks s.history
played_shrinks link serial (Some how) None s = same_shrinks s.history
played_shrinks link serial None named s = same_shrinks s.history

heard_shrinks : (link : ℕ) (said : LinkStep) (asked : Option Purpose) (ends : Outcome → Bool) (named : Option PrepareOk) (s : Statements)
    → Shrinks s.history (heard_on link said asked ends named s).history
heard_shrinks link (steps.Part payload role (Ends outcome) next behind) (Some (Asks command id)) ends named s = swept_shrinks (ends outcome) s
heard_shrinks link (steps.Part payload role (Ends (Done status)) next behind) (Some (Plays entry)) ends named s =
    played_shrinks link entry.serial entry.statement (named_in role payload named) s
heard_shrinks link (steps.Part payload role (Ends (Failed code)) next behind) (Some (Plays entry)) ends named s = same_shrinks s.history
heard_shrinks link (steps.Part payload role (Ends outcome) next behind) (Some Prepares) ends named s = same_shrinks s.history
heard_shrinks link (steps.Part payload role (Ends outcome) next behind) (Some (Waits gtid seconds)) ends named s = same_shrinks s.history
heard_shrinks link (steps.Part payload role (Ends outcome) next behind) (Some (Probes gtid)) ends named s = same_shrinks s.history
heard_shrinks link (steps.Part payload role (Ends outcome) next behind) None ends named s = same_shrinks s.history
heard_shrinks link (steps.Part payload role More next behind) asked ends named s = same_shrinks s.history
heard_shrinks link (steps.Lost cause) asked ends named s = same_shrinks s.history
heard_shrinks link (steps.Send packets) asked ends named s = same_shrinks s.history
heard_shrinks link steps.LoggedIn asked ends named s = same_shrinks s.history
heard_shrinks link steps.Idle asked ends named s = same_shrinks s.history

unrecorded_shrinks : (link : ℕ) (command : Option Command) (its : Ending) (s : Statements) → Shrinks s.history (answered_in link command its None s).history
unrecorded_shrinks link None its s = same_shrinks s.history
unrecorded_shrinks link (Some command) its s = by_kind (is_prepared command.kind)
  where
    by_kind : (prepares : Bool) → Shrinks s.history (answered_by prepares link command its.outcome its.named None s).history
    by_kind true = same_shrinks s.history
    by_kind false = same_shrinks s.history

pub refused_moves : (config : Config) (past : List Item) (number : ℕ) (error : ProxyError)
    → Shrinks (statements config past).history (statements config (Puts (Tells number (Refuses error)) ∷ past)).history
refused_moves config past number errors.NoPrimary = failed_shrinks (prepares (pending past)) (statements config past)
refused_moves config past number (errors.PrimaryBehind wanted found) = failed_shrinks (prepares (pending past)) (statements config past)
refused_moves config past number errors.UnknownCommand = same_shrinks (statements config past).history
refused_moves config past number errors.NotSupported = same_shrinks (statements config past).history
refused_moves config past number errors.UnknownStatement = same_shrinks (statements config past).history
refused_moves config past number errors.BadExecute = same_shrinks (statements config past).history
refused_moves config past number errors.TooManyStatements = same_shrinks (statements config past).history
refused_moves config past number errors.NotInReadOnly = same_shrinks (statements config past).history
refused_moves config past number errors.TooManyConnections = same_shrinks (statements config past).history
refused_moves config past number errors.CommandTooLarge = same_shrinks (statements config past).history
refused_moves config past number errors.OutOfMemory = same_shrinks (statements config past).history

-- no entry is added by the item
abbrev pub AddsNone : Item → Type 0
AddsNone (Puts (Tells number (Passes link command payload (Some its) Accepts))) = ⊥
AddsNone _ = Unit {0}

pub moves : (config : Config) (past : List Item) (item : Item) → AddsNone item
    → Shrinks (statements config past).history (statements config (item ∷ past)).history
moves config past (Takes judged number) none =
    taken_for_shrinks judged (request_of (command_in (step_of config.accounts (fronted config past)).0)) (is_open (transaction config past).state)
    (command_in (step_of config.accounts (fronted config past)).0) (statements config past)
moves config past (Comes link said) none =
    heard_shrinks link said (asked_on link past) (λ outcome. ends_transaction config link outcome past) (named_on link past) (statements config past)
moves config past (Puts (Tells number (Passes link command payload (Some its) Accepts))) none = absurd none
moves config past (Puts (Tells number (Passes link command payload (Some its) Keeps))) none =
    unrecorded_shrinks link (pending past) its (statements config past)
moves config past (Puts (Tells number (Passes link command payload (Some its) Nothing))) none =
    unrecorded_shrinks link (pending past) its (statements config past)
moves config past (Puts (Tells number (Passes link command payload None recording))) none = same_shrinks (statements config past).history
moves config past (Puts (Tells number (Owns status))) none = same_shrinks (statements config past).history
moves config past (Puts (Tells number (Refuses error))) none = refused_moves config past number error
moves config past (Puts (Hands packets)) none = same_shrinks (statements config past).history
moves config past (Puts (Records server gtid)) none = same_shrinks (statements config past).history
moves config past (Puts Routes) none = same_shrinks (statements config past).history
moves config past (Puts (Opens link server login)) none = same_shrinks (statements config past).history
moves config past (Puts (LogsInto link packets)) none = same_shrinks (statements config past).history
moves config past (Puts (Sends link purpose)) none = same_shrinks (statements config past).history
moves config past (Puts (Forgets link id)) none = same_shrinks (statements config past).history
moves config past (Puts (Drops link cause)) none = same_shrinks (statements config past).history
moves config past (Puts (Closes reason)) none = same_shrinks (statements config past).history
moves config past (Accepted session scramble reading) none = same_shrinks (statements config past).history
moves config past (TurnsAway told) none = same_shrinks (statements config past).history
moves config past (Began link server reading) none = same_shrinks (statements config past).history
moves config past (ClientBytes bytes) none = same_shrinks (statements config past).history
moves config past (LinkReady link) none = same_shrinks (statements config past).history
moves config past (LinkBytes link bytes) none = same_shrinks (statements config past).history
moves config past ClientGone none = same_shrinks (statements config past).history
moves config past (LinkLost link) none = same_shrinks (statements config past).history
moves config past (Ticks reading) none = same_shrinks (statements config past).history
moves config past (Routed words loads next found) none = same_shrinks (statements config past).history
moves config past (Connects said) none = same_shrinks (statements config past).history
moves config past (Floods bytes) none = same_shrinks (statements config past).history
moves config past (Starves made number) none = same_shrinks (statements config past).history
