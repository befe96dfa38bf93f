-- Laws about records and runs. Each is carried by a public function whose contract is the law.
use Rattle.std.specs.Prelude.{◌≡◌, ◌≢◌, ◌⊎◌, ◌≤◌, ℕ, ◌-◌, ◌^◌, min, true, false, List, [], ◌∷◌, ◌++◌, Option, Some, None, Ok, Contains, Bool}
use Rattle.rws_wire.specs.Numbers.{AreBytes}
use Rattle.rws_msgs.specs.declared.prepare_ok.PrepareOk.{PrepareOk}
use Rattle.rws_reply.specs.declared.kind.Outcome.TheVariants.{Done}
use Rattle.rws_reply.specs.declared.kind.Progress.{Progress}
use Rattle.rws_reply.specs.declared.kind.Progress.TheVariants.{Whole as Ends}
use Rattle.rws_reply.specs.declared.role.Role.{Role}
use Rattle.rws_reply.specs.declared.role.Role.TheVariants as roles
use Rattle.rws_gtid.specs.declared.Gtid.{Gtid}
use Rattle.rws_causal.specs.Commits.{commit_in}
use Rattle.rws_route.specs.Targets.{only_reads}
use Rattle.rws_link.specs.declared.step.LinkStep.TheVariants as steps
use Rattle.rws_reply.specs.declared.kind.Outcome.{Outcome}
use Rattle.rws_reply.specs.Replies.{Payload, IsReply}
use Rattle.rws_reply.specs.ClientForm.{without_state}
use Rattle.rws_route.specs.declared.destination.Target.{Target}
use Rattle.rws_route.specs.declared.destination.Target.TheVariants.{Primary, Replica}
use Rattle.rws_trx.specs.declared.state.Open.TheVariants.{ReadWrite, ReadOnly}
use Rattle.rws_config.specs.declared.config.Config.{Config}
use Rattle.rws_handles.specs.PlainForm.{number_in, Plain, spelled}
use Rattle.rws_handles.specs.Table.{execute_of}
use Rattle.rws_commands.specs.declared.command.Body.TheVariants.{Run}
use Rattle.rws_commands.specs.declared.command.Command.{Command}
use Rattle.rws_commands.specs.declared.command.Execution.{Execution}
use Rattle.rws_commands.specs.declared.judged.Judged.TheVariants.{Serves}
use Rattle.rws_commands.specs.declared.request.Request.TheVariants.{Execute}
use Rattle.rws_commands.specs.Requests.{request_of}
use Rattle.rws_commands.specs.declared.history.HistoryEntry.{HistoryEntry}
use Rattle.rws_commands.specs.declared.history.PreparedAs.{PreparedAs}
use Rattle.rws_commands.specs.Statements.{next_handle, has_serial}
use Rattle.rws_record.specs.Item.{Ending, Item, Purpose, Recording}
use Rattle.rws_record.specs.Item.Item.{Comes, LinkBytes, Routed, Takes, Puts, Starves}
use Rattle.rws_record.specs.Item.Purpose.{Prepares, Asks, Plays, Waits, Probes}
use Rattle.rws_record.specs.Item.Put.{Records, Routes, Sends, Tells}
use Rattle.rws_record.specs.Item.Tell.{Passes}
use Rattle.rws_commands.specs.Commands.{class_of_command}
use Rattle.rws_record.specs.Values.{asked_on, named_in, named_on, asking, cursor, kept_on, links, pinned, sent_for, server_of, statements, told, transaction}
use Rattle.rws_record.specs.Log.{log, total}
use Rattle.rws_record.specs.Rules.{next}
use Rattle.rws_record.specs.Record.{IsRecord}
use Rattle.rws_record.specs.Run.{Entry, IsRun, next_entry, record_of}
use Rattle.rws_laws.specs.Causes.{AreCaused, IsAt, IsBarred, IsHidden, found_last}
use Rattle.rws_laws.specs.Client.{Took}
use Rattle.rws_laws.specs.Servers.{Lost}
use Rattle.rws_laws.specs.Answers.{IsAnswered}
use Rattle.rws_laws.specs.Reads.{HasTold, Route, Wants, asked_first, position_by, route_last, wanted_by}
use Rattle.rws_laws.specs.History.{Rises, below_serial, set_on, standing}

-- In a legal record all that was read, told, opened, sent, dropped and closed has its cause.
abbrev pub Causes : Type 0
Causes = (config : Config) (past : List Item) → IsRecord config past → AreCaused config past

-- So the causes hold in each session of a run.
abbrev pub CausesInRuns : Type 0
CausesInRuns =
    (config : Config) (run : List Entry) → IsRun config run → (session : ℕ) → AreCaused config (record_of session run)

-- what came on links is bytes, as it is for every session in code
abbrev pub HeardBytes : List Item → Type 0
HeardBytes [] = Unit {0}
HeardBytes (LinkBytes link bytes ∷ past) = AreBytes bytes × HeardBytes past
HeardBytes (_ ∷ past) = HeardBytes past

-- Where a reply's last payload is passed on, the client has a whole reply to its command, which ended as the server's did, but
-- for the status bit 0x4000 that goes with the session's state.
abbrev pub WholeReplies : Type 0
WholeReplies =
    (config : Config) (past : List Item) (number link : ℕ) (command : Command) (payload : Payload) (ending : Ending) (recording : Recording)
    → IsRecord config (Puts (Tells number (Passes link command payload (Some ending) recording)) ∷ past)
    → HeardBytes past
    → (seen : Outcome) × IsReply command.kind (told past ++ payload ∷ []) seen × (without_state seen ≡ without_state ending.outcome)

-- Where a client's command goes on a link, the session's history has been set there, whole and in order: what has set the session there, but
-- for what has left the history, is the history. In a session that isn't kept on a link, that is all that has set it and stands, on whichever
-- of its links.
abbrev pub SetsBeforeItAsks : Type 0
SetsBeforeItAsks =
    (config : Config) (past : List Item) (link : ℕ) (command : Command) (id : Option ℕ)
    → IsRecord config (Puts (Sends link (Asks command id)) ∷ past)
    → standing (statements config past).history (set_on config link past) ≡ (statements config past).history

-- In a legal record the serials of what has set the session on a link rise, below the link's cursor; and those entries of the history that are
-- below the cursor are exactly those that have set it there and stand.
abbrev pub SetsInOrder : Type 0
SetsInOrder =
    (config : Config) (past : List Item) (link : ℕ) → IsRecord config past
    → Rises 0 (cursor link past) (set_on config link past)
    × (below_serial (cursor link past) (statements config past).history
    ≡ standing (statements config past).history (set_on config link past))

-- What has set the session on a link and has left the history is a prepare.
abbrev pub OnlyPreparesLeave : Type 0
OnlyPreparesLeave =
    (config : Config) (past : List Item) (link : ℕ) (entry : HistoryEntry) → IsRecord config past
    → Contains (set_on config link past) entry → has_serial entry.serial (statements config past).history ≡ false
    → (statement : PreparedAs) × (entry.statement ≡ Some statement)

-- An entry that is played on a link is the first of the history behind those that have set the session there and stand.
abbrev pub PlaysInOrder : Type 0
PlaysInOrder =
    (config : Config) (past : List Item) (link : ℕ) (entry : HistoryEntry) → IsRecord config (Puts (Sends link (Plays entry)) ∷ past)
    → (others : List HistoryEntry)
    × ((statements config past).history ≡ standing (statements config past).history (set_on config link past) ++ entry ∷ others)

-- at some place a link was lost to which a command had been sent that may have changed something, and the client had nothing of its
-- reply
pub data WasHidden (config : Config) : List Item → Type 0 where
  here : {link : ℕ} {command : Command} {below past : List Item} → Lost link below past → IsHidden config link command below
      → WasHidden config past
  since : {item : Item} {past : List Item} → WasHidden config past → WasHidden config (item ∷ past)

-- Behind such a place nothing is sent to a server: what may have been carried out isn't sent again.
abbrev pub NothingBehindHidden : Type 0
NothingBehindHidden =
    (config : Config) (past : List Item) (link : ℕ) (purpose : Purpose) → IsRecord config (Puts (Sends link purpose) ∷ past)
    → ¬ WasHidden config past

-- A legal record that rests, and doesn't wait for the worker's answer, is answered.
abbrev pub Answered : Type 0
Answered =
    (config : Config) (past : List Item) → IsRecord config past → next config past ≡ None → asking past ≡ false → IsAnswered config past

-- Where a run rests, each of its sessions is answered.
abbrev pub AnsweredInRuns : Type 0
AnsweredInRuns =
    (config : Config) (run : List Entry) → IsRun config run → next_entry config run ≡ None → (session : ℕ) (item : Item)
    (past : List Item) → record_of session run ≡ item ∷ past → IsAnswered config (item ∷ past)

-- A session has at most one link to a server.
abbrev pub OneLinkEach : Type 0
OneLinkEach =
    (config : Config) (past : List Item) → IsRecord config past → (one other : ℕ) → Contains (links past) one → Contains (links past) other
    → server_of one past ≡ server_of other past → one ≡ other

-- In a session that isn't pinned to a link, a client's command goes to the server that its last route found. That holds where the
-- settings have an account, so that each session has a login for its links.
abbrev pub GoesWhereFound : Type 0
GoesWhereFound =
    (config : Config) (past : List Item) (link : ℕ) (command : Command) (id : Option ℕ) → config.accounts ≢ []
    → IsRecord config (Puts (Sends link (Asks command id)) ∷ past) → pinned config past ≡ None
    → (found : Target) × (found_last past ≡ Some found) × IsAt (server_of link past) found

-- While a transaction is open, and while the session is kept on a link, the client's commands go on one link.
abbrev pub StaysOnItsLink : Type 0
StaysOnItsLink =
    (config : Config) (past : List Item) (link there : ℕ) (command : Command) (id : Option ℕ)
    → IsRecord config (Puts (Sends link (Asks command id)) ∷ past)
    → ((transaction config past).link ≡ Some there) ⊎ (kept_on past ≡ Some there) → link ≡ there

-- what the session's last route found
abbrev pub found_lately : List Item → Option Target
found_lately [] = None
found_lately (Routed words loads next found ∷ past) = Some found
found_lately (_ ∷ past) = found_lately past

-- One that may write is open at the server that the last route gave as primary. That route was before its first command, since none is
-- taken while the session is pinned.
abbrev pub WritesAtPrimary : Type 0
WritesAtPrimary =
    (config : Config) (past : List Item) (link : ℕ) → config.accounts ≢ [] → IsRecord config past
    → (transaction config past).link ≡ Some link → (transaction config past).state.opened ≡ ReadWrite
    → found_lately past ≡ Some (Primary (server_of link past))

-- no route is taken in a session that is pinned to a link
abbrev pub PinnedTakesNoRoute : Type 0
PinnedTakesNoRoute =
    (config : Config) (past : List Item) → IsRecord config (Puts Routes ∷ past) → pinned config past ≡ None

-- How many bytes count for a transaction is how many its log has, as far as can be counted.
abbrev pub CountsItsLog : Type 0
CountsItsLog =
    (config : Config) (past : List Item) → IsRecord config past
    → (transaction config past).bytes ≡ min (total (log config past)) (2 ^ 64 - 1)

-- A command that a read-only transaction doesn't take goes to no server while one is open.
abbrev pub NoChangeInReadOnly : Type 0
NoChangeInReadOnly =
    (config : Config) (past : List Item) (link : ℕ) (command : Command) (id : Option ℕ)
    → IsRecord config (Puts (Sends link (Asks command id)) ∷ past) → (transaction config past).state.opened ≡ ReadOnly → ¬ IsBarred config past (class_of_command command)

-- at some place an execute was taken up, whose plain form, by the statements as they stood, was this
pub data TookUp (config : Config) (command : Command) (plain : Plain) : List Item → Type 0 where
  here : {past : List Item} {payload : List ℕ} → Took config payload command.number (Takes (Serves command) command.number ∷ past)
      → request_of payload ≡ Execute → execute_of (statements config past).table payload ≡ Ok plain
      → TookUp config command plain (Takes (Serves command) command.number ∷ past)
  before : {item : Item} {past : List Item} → TookUp config command plain past → TookUp config command plain (item ∷ past)

-- What goes on a link for an execute is the plain form that it had where it was taken up, under the id that the link's server has for its
-- statement: long data first, then the execute with the types of its parameters. So it is whichever link it goes on, and whenever.
abbrev pub ExecutesKeepTheirForm : Type 0
ExecutesKeepTheirForm =
    (config : Config) (past : List Item) (link : ℕ) (command : Command) (id : Option ℕ) (execution : Execution)
    → IsRecord config (Puts (Sends link (Asks command id)) ∷ past) → command.body ≡ Run execution
    → (own : ℕ) × (plain : Plain) × (id ≡ Some own) × (sent_for (Asks command id) ≡ spelled own plain) × TookUp config command plain past

-- at some place the link's server gave this id to the statement that the client knows by this number: in the reply to the prepare by which the
-- statement came, or in that to the entry that prepares it
pub data GaveId (config : Config) (link number id : ℕ) : List Item → Type 0 where
  led : {past : List Item} {told : ℕ} {command : Command} {payload : Payload} {ending : Ending} {recording : Recording} (ok : PrepareOk)
      → ending.named ≡ Some ok → ok.id ≡ id → next_handle (statements config past) ≡ number
      → GaveId config link number id (Puts (Tells told (Passes link command payload (Some ending) recording)) ∷ past)
  played : {past : List Item} {payload : Payload} {role : Role} {status next : ℕ} {behind : Bool} (entry : HistoryEntry) (how : PreparedAs) (ok : PrepareOk)
      → asked_on link past ≡ Some (Plays entry) → entry.statement ≡ Some how → how.number ≡ number
      → named_in role payload (named_on link past) ≡ Some ok → ok.id ≡ id
      → GaveId config link number id (Comes link (steps.Part payload role (Ends (Done status)) next behind) ∷ past)
  since : {item : Item} {past : List Item} → GaveId config link number id past → GaveId config link number id (item ∷ past)

-- The id under which an execute goes on a link is one that the link's server gave to its statement.
abbrev pub IdsAreOfTheLink : Type 0
IdsAreOfTheLink =
    (config : Config) (past : List Item) (link id : ℕ) (command : Command) (execution : Execution)
    → IsRecord config (Puts (Sends link (Asks command (Some id))) ∷ past) → command.body ≡ Run execution
    → GaveId config link (number_in execution.commands) id past

-- Where a server's reply to anything but the preamble names a commit, the words are told of that before anything else is done about the
-- reply, if memory isn't wanting just then: then nothing of it is done.
abbrev pub RecordsFirst : Type 0
RecordsFirst =
    (config : Config) (past : List Item) (item : Item) (link next : ℕ) (payload : Payload) (far : Progress) (behind : Bool) (purpose : Purpose) (gtid : Gtid)
    → IsRecord config (item ∷ Comes link (steps.Part payload roles.Ok far next behind) ∷ past) → asked_on link past ≡ Some purpose → purpose ≢ Prepares
    → commit_in config.gtid_domain payload ≡ Some gtid
    → (item ≡ Puts (Records (server_of link past) gtid)) ⊎ ((made : Bool) × (number : ℕ) × (item ≡ Starves made number))

-- a payload in this role names no commit
abbrev pub NamesNone : (domain : ℕ) → Role → Payload → Type 0
NamesNone domain roles.Ok payload = commit_in domain payload ≡ None
NamesNone domain _ payload = Unit {0}

-- A payload came just now on the link, and names no commit; or it names one, and the words were told of that.
pub data CameLast (domain link : ℕ) : List Item → Type 0 where
  unnamed : {below : List Item} {payload : Payload} {its : Role} {far : Progress} {next : ℕ} {behind : Bool} → NamesNone domain its payload
      → CameLast domain link (Comes link (steps.Part payload its far next behind) ∷ below)
  named : {below : List Item} {payload : Payload} {far : Progress} {next : ℕ} {behind : Bool} {gtid : Gtid} → commit_in domain payload ≡ Some gtid
      → CameLast domain link (Puts (Records (server_of link below) gtid) ∷ Comes link (steps.Part payload roles.Ok far next behind) ∷ below)

-- So what a client is passed of a reply is passed once the words were told of the commit that it names.
abbrev pub PassesBehindRecords : Type 0
PassesBehindRecords =
    (config : Config) (past : List Item) (number link : ℕ) (command : Command) (payload : Payload) (ending : Option Ending) (recording : Recording)
    → IsRecord config (Puts (Tells number (Passes link command payload ending recording)) ∷ past) → CameLast config.gtid_domain link past

-- In a session that isn't pinned to a link, a command that only reads goes to a server that has what the command is to see by its last route:
-- the words of the route say so, or the server has told so since, on the link on which the command goes.
abbrev pub ReadsSeeCommits : Type 0
ReadsSeeCommits =
    (config : Config) (past : List Item) (link : ℕ) (command : Command) (id : Option ℕ) → config.accounts ≢ []
    → IsRecord config (Puts (Sends link (Asks command id)) ∷ past) → only_reads (class_of_command command) ≡ true → pinned config past ≡ None
    → (route : Route) × (route_last past ≡ Some route)
    × ((gtid : Gtid) → wanted_by config route ≡ Some gtid → (gtid.sequence ≤ position_by (server_of link past) route) ⊎ HasTold link gtid past)

-- A replica is to wait for nothing else than what the pending command wants, and isn't known to be there.
abbrev pub WaitsForWhatIsWanted : Type 0
WaitsForWhatIsWanted =
    (config : Config) (past : List Item) (link seconds : ℕ) (gtid : Gtid) → IsRecord config (Puts (Sends link (Waits gtid seconds)) ∷ past)
    → (server : ℕ) × Wants config gtid server (Replica server) past

-- And so it is where the primary is probed.
abbrev pub ProbesForWhatIsWanted : Type 0
ProbesForWhatIsWanted =
    (config : Config) (past : List Item) (link : ℕ) (gtid : Gtid) → IsRecord config (Puts (Sends link (Probes gtid)) ∷ past)
    → (server : ℕ) × Wants config gtid server (Primary server) past

-- For each time that it is routed, a command costs at most one question before it.
abbrev pub OneQuestionARoute : Type 0
OneQuestionARoute = (config : Config) (past : List Item) → IsRecord config past → asked_first past ≤ 1
