-- Why each item of a session's record stands where it stands. This is a second reading of the record: it says what must
-- have come and what must have been given out below a place, and names no rule by which a session goes on.
use Rattle.std.specs.Prelude.{◌≡◌, ◌≢◌, ◌⊎◌, ◌↔◌, ℕ, ◌+◌, ◌<◌, ◌≤◌, length, Bool, true, false, List, [], ◌∷◌, ◌++◌, Option, Some, None, Ok, Err, Contains}
use Rattle.std.specs.Option.{option_and_then}
use Rattle.rws_wire.specs.Packets.{number_behind}
use Rattle.rws_wire.specs.Payloads.{first_payload}
use Rattle.rws_wire.specs.Payloads.Beginning.{Whole}
use Rattle.rws_wire.specs.declared.fault.WireFault.{WireFault}
use Rattle.rws_wire.specs.declared.close_reason.CloseReason.TheVariants.{Quit, Handshake, Access, Connections, OutOfOrder, TooLarge, ResultCut, OutcomeUnknown, SessionState, NotReplayable, Memory}
use Rattle.rws_wire.specs.declared.close_reason.CloseReason.TheVariants as reasons
use Rattle.rws_wire.specs.declared.drop_cause.DropCause.TheVariants.{BadWire, BadReply, Unasked, Greeting, Plugin, Login as LoginFails, End, Kept, SessionDiffers, Probe as NoAnswer}
use Rattle.rws_gtid.specs.declared.Gtid.{Gtid}
use Rattle.rws_gtid.specs.Parsing.{position_in}
use Rattle.rws_causal.specs.Rules.{reached}
use Rattle.rws_routing.specs.declared.routing.Check.{Check}
use Rattle.rws_routing.specs.declared.routing.Check.TheVariants.{Wait, Probe}
use Rattle.rws_class.specs.Classes.{class_of}
use Rattle.rws_class.specs.declared.class.Class.{Class}
use Rattle.rws_class.specs.declared.class.Class.TheVariants.{Write, Session, Begin, BeginReadOnly, Commit, Rollback, AutocommitOn, AutocommitOff, TrxLocal, Ddl, Refused, Other}
use Rattle.rws_trx.specs.declared.state.Open.TheVariants.{ReadOnly}
use Rattle.rws_trx.specs.declared.state.TrxState.{TrxState}
use Rattle.rws_trx.specs.Transactions.{is_open}
use Rattle.rws_trx.specs.OnLinks.{status_of}
use Rattle.rws_reply.specs.declared.kind.Kind.TheVariants.{Query as QueryReply}
use Rattle.rws_reply.specs.declared.kind.Outcome.{Outcome}
use Rattle.rws_reply.specs.declared.kind.Outcome.TheVariants.{Done}
use Rattle.rws_reply.specs.Replies.{Payload, IsReply, Begins}
use Rattle.rws_reply.specs.Tracking.{progress, role}
use Rattle.rws_reply.specs.ClientForm.{client_reply}
use Rattle.rws_link.specs.declared.step.LinkCause.TheVariants as losses
use Rattle.rws_link.specs.declared.step.LinkStep.TheVariants as steps
use Rattle.rws_link.specs.Stepping.{Exchange, Rests, is_new}
use Rattle.rws_pool.specs.declared.words.PoolWords.{PoolWords}
use Rattle.rws_select.specs.declared.selector.Load.{Load}
use Rattle.rws_route.specs.declared.destination.Target.{Target}
use Rattle.rws_route.specs.declared.destination.Target.TheVariants.{Primary, Replica, NoPrimary as Nowhere}
use Rattle.rws_config.specs.declared.config.Config.{Config}
use Rattle.rws_config.specs.declared.limits.TheConstants.{SERVER_PAYLOAD}
use Rattle.rws_commands.specs.declared.command.Command.{Command}
use Rattle.rws_handles.specs.declared.fault.ExecuteFault.TheVariants.{BadExecute as IsBadExecute}
use Rattle.rws_handles.specs.PlainForm.{Plain, asks_cursor, handle_in}
use Rattle.rws_handles.specs.Prepared.{LongData, Prepared, long_bytes}
use Rattle.rws_handles.specs.Slots.{is_crowded}
use Rattle.rws_handles.specs.Table.{execute_of, open_at}
use Rattle.rws_commands.specs.declared.history.HistoryEntry.{HistoryEntry}
use Rattle.rws_commands.specs.declared.judged.Judged.{Judged}
use Rattle.rws_commands.specs.declared.judged.Judged.TheVariants.{IsSilent}
use Rattle.rws_commands.specs.declared.proxy_error.ProxyError.TheVariants.{UnknownCommand, NotSupported, UnknownStatement, BadExecute, TooManyStatements, NotInReadOnly, TooManyConnections, CommandTooLarge, NoPrimary, PrimaryBehind, OutOfMemory}
use Rattle.rws_commands.specs.declared.request.Request.TheVariants as requests
use Rattle.rws_record.specs.Item.{Ending, Item, Put, Recording}
use Rattle.rws_record.specs.Item.Item.{Accepted, TurnsAway, Began, LinkReady, LinkBytes, LinkLost, Routed, Comes, Connects, Takes, Floods, Puts, Starves}
use Rattle.rws_record.specs.Item.Put.{Hands, Tells, Records, Routes, Opens, LogsInto, Sends, Forgets, Drops, Closes}
use Rattle.rws_record.specs.Item.Tell.{Passes, Owns, Refuses}
use Rattle.rws_record.specs.Item.Purpose.{Prepares, Asks, Plays, Waits, Probes}
use Rattle.rws_record.specs.Item.Recording.{Nothing, Accepts, Keeps}
use Rattle.rws_commands.specs.Requests.{arguments_of, request_of}
use Rattle.rws_commands.specs.Commands.{added, as_executed, class_of_command, id_for}
use Rattle.rws_commands.specs.Statements.{next_handle, piece_in, stale_on, unplayed}
use Rattle.rws_record.specs.Values.{cursor, fronted, goes_on, login_of, links, kept_on, linked, is_up, asked_on, exchange, named_on, now, link_held, pending, routing, sent_on, server_of, statements, told, told_from, transaction, transaction_bytes, is_over, is_starved}
use Rattle.rws_record.specs.Record.{CanBeMade, want_number}
use Rattle.rws_laws.specs.Client.{Took, IsPending, Flooded, IsSaid, Handed, WasRefused}
use Rattle.rws_laws.specs.Servers.{came_on, replied, asks_first, value_came, NamesCommit, Probed, TellsNoPosition, IsNoReply, IsUnasked, IsGarbled, LogsOn, Entered, NotEntered, IsLostFor, IsUnprepared, Lost, WasPrepared, Differs}

-- The client's prepared statements

-- what stands below the newest item, and below the commit that it names if that was told of since
abbrev pub beneath : List Item → List Item
beneath [] = []
beneath (Puts (Records server gtid) ∷ past) = beneath past
beneath (item ∷ past) = past

-- the statements as they stand, and the open one that the handle in a command's bytes names
abbrev pub statement_named : Config → List ℕ → List Item → Option Prepared
statement_named config payload past = option_and_then (open_at (statements config past).table) (handle_in payload)

-- The command is an execute, and this is its plain form.
pub record Executes (config : Config) (payload : List ℕ) (plain : Plain) (past : List Item) : Type 0 where
  pub request : request_of payload ≡ requests.Execute
  pub form : execute_of (statements config past).table payload ≡ Ok plain

-- The command is long data for an open statement, which with it would hold so many bytes, more than a command may have.
pub record HoldsTooMuch (config : Config) (payload : List ℕ) (bytes : ℕ) (past : List Item) : Type 0 where
  pub request : request_of payload ≡ requests.SendLongData
  pub handle : ℕ
  pub piece : LongData
  pub said : piece_in payload ≡ Some (handle, piece)
  pub statement : Prepared
  pub named : open_at (statements config past).table handle ≡ Some statement
  pub holds : bytes ≡ added (long_bytes statement.long_data) (length piece.bytes)
  pub above : config.command_bytes < bytes

-- A command of these bytes, to which nobody answers: the client closes a statement, or sends long data.
abbrev pub IsUnanswered : List ℕ → Type 0
IsUnanswered payload = (request_of payload ≡ requests.CloseStatement) ⊎ (request_of payload ≡ requests.SendLongData)

-- what it is taken for that has no answer
abbrev pub IsSilence : Judged → List ℕ → Type 0
IsSilence IsSilent payload = IsUnanswered payload
IsSilence _ payload = Unit {0}

-- Replies

-- The link is the one on which the pending command was sent; all that the client was passed since it was taken up came from
-- there.
pub record IsOfReply (config : Config) (link : ℕ) (command : Command) (past : List Item) : Type 0 where
  pub pending : IsPending config command past
  pub sent : sent_on past ≡ Some link
  pub one_link : (told past ≡ []) ⊎ (told_from past ≡ Some link)

-- The number of the packet behind these payloads, told one after the other from a number on.
abbrev pub number_behind_all : List Payload → ℕ → ℕ
number_behind_all [] number = number
number_behind_all (payload ∷ others) number = number_behind_all others (number_behind number payload)

-- A payload of the pending command's reply came last, and with it the client has been passed all that came of the reply, in
-- its form: each OK without the session's state, and all else as the server sent it. The numbers count on from the command's.
pub record IsPassed (config : Config) (number link : ℕ) (command : Command) (payload : Payload) (past : List Item) : Type 0 where
  pub came : replied past ≡ Some link
  pub has : Contains (links past) link
  pub of_reply : IsOfReply config link command past
  pub in_form : told past ++ payload ∷ [] ≡ client_reply command.kind (next_handle (statements config (beneath past))) (came_on link past)
  pub counts : number ≡ number_behind_all (told past) command.number

-- Where a command goes

-- what was found is this server
pub data IsAt (server : ℕ) : Target → Type 0 where
  primary : IsAt server (Primary server)
  replica : IsAt server (Replica server)

-- what the last route found of the command that was taken up last
abbrev pub found_last : List Item → Option Target
found_last [] = None
found_last (Takes it number ∷ past) = None
found_last (Routed words loads next found ∷ past) = Some found
found_last (_ ∷ past) = found_last past

abbrev pub earlier : Option ℕ → ℕ → Option ℕ
earlier (Some reading) other = Some reading
earlier None other = Some other

-- the clock's reading where the command that was taken up last found no primary first
abbrev pub first_nowhere : List Item → Option ℕ
first_nowhere [] = None
first_nowhere (Takes it number ∷ past) = None
first_nowhere (Routed words loads next Nowhere ∷ past) = earlier (first_nowhere past) (now past)
first_nowhere (_ ∷ past) = first_nowhere past

-- The worker's answer came just now, and by it a link of this number goes to this server, to which the session had none. The
-- pending command was sent nowhere.
pub record IsOpening (config : Config) (link server : ℕ) (past : List Item) : Type 0 where
  pub below : List Item
  pub words : PoolWords
  pub loads : List Load
  pub found : Target
  pub answered : past ≡ Routed words loads link found ∷ below
  pub there : IsAt server found
  pub none_there : (other : ℕ) → Contains (links below) other → server_of other below ≢ server
  pub command : Command
  pub pending : IsPending config command past
  pub unsent : sent_on past ≡ None

-- The worker's answer came just now, and by it there is no primary for the pending command, which was sent nowhere. It had waited for
-- one until the clock showed something, and that is as late as a command may wait behind the reading at which it found none first.
pub record FindsLate (config : Config) (number : ℕ) (past : List Item) : Type 0 where
  pub below : List Item
  pub words : PoolWords
  pub loads : List Load
  pub next : ℕ
  pub answered : past ≡ Routed words loads next Nowhere ∷ below
  pub command : Command
  pub pending : IsPending config command past
  pub unsent : sent_on past ≡ None
  pub waited : (routing config below).retries ≡ true
  pub first : ℕ
  pub since : first_nowhere below ≡ Some first
  pub late : first + config.primary_wait_ms ≤ now below
  pub counts : number ≡ command.number

-- What goes before a command on the link that it is to go on

-- Its server is asked this before the pending command, which waits for that and is out on no link; so by the command's routing. The link is
-- prepared and owes no reply, and it has played the history.
pub record AsksFirst (config : Config) (link : ℕ) (check : Check) (past : List Item) : Type 0 where
  pub command : Command
  pub pending : IsPending config command past
  pub unsent : sent_on past ≡ None
  pub goes : goes_on config past ≡ Some link
  pub has : Contains (links past) link
  pub up : is_up link past ≡ true
  pub prepared : WasPrepared link past
  pub rests : linked link past ≡ Rests
  pub played : unplayed (cursor link past) (statements config past) ≡ None
  pub kept : stale_on link (statements config past) ≡ None
  pub wanted : (routing config past).check ≡ Some check

-- The primary was probed for the pending command, on the link that the command is to go on, and just now it told a position that can be
-- read. By it the server has reached less than what the command is to see: these are the two sequences.
pub record PrimaryLags (config : Config) (number wanted found : ℕ) (past : List Item) : Type 0 where
  pub link : ℕ
  pub gtid : Gtid
  pub probed : Probed link gtid past
  pub has : Contains (links past) link
  pub list : List ℕ
  pub told : value_came link past ≡ Some list
  pub position : Option Gtid
  pub read : position_in gtid.domain list ≡ Ok position
  pub wants : wanted ≡ gtid.sequence
  pub reaches : found ≡ reached position
  pub less : found < wanted
  pub command : Command
  pub pending : IsPending config command past
  pub unsent : sent_on past ≡ None
  pub goes : goes_on config past ≡ Some link
  pub for_it : (routing config past).check ≡ Some (Probe gtid)
  pub counts : number ≡ command.number

-- What is set on the session's links

-- by its class, a command sets the session alone, and can be repeated on other links
pub data SetsSession : Class → Type 0 where
  sets : SetsSession Session
  sets_autocommit : SetsSession AutocommitOn
  unsets_autocommit : SetsSession AutocommitOff

-- The command has set a session that isn't kept on a link: its reply ended without an error.
pub record HasSet (command : Command) (outcome : Outcome) (past : List Item) : Type 0 where
  pub class : SetsSession (class_of_command command)
  pub status : ℕ
  pub done : outcome ≡ Done status
  pub free : kept_on past ≡ None

-- What the end of a reply means for the session's history: where its command has set the session, it is added, or keeps the session where
-- there is no room for it.
abbrev pub IsRecorded : Config → Command → Outcome → Recording → List Item → Type 0
IsRecorded config command outcome Accepts past = HasSet command outcome past × (length (statements config past).history < config.history_limit)
IsRecorded config command outcome Keeps past = HasSet command outcome past × (config.history_limit ≤ length (statements config past).history)
IsRecorded config command outcome Nothing past = ¬ HasSet command outcome past

-- The session was kept on a link just now, by a command that may change anything, or by one that set the session and found its history
-- full; other links may have been given up since.
pub data JustKept (config : Config) (link : ℕ) : List Item → Type 0 where
  sends : {command : Command} {id : Option ℕ} {past : List Item} → class_of_command command ≡ Other → kept_on past ≡ None
      → JustKept config link (Puts (Sends link (Asks command id)) ∷ past)
  fills : {number : ℕ} {command : Command} {payload : Payload} {ending : Ending} {past : List Item}
      → IsRecorded config command ending.outcome Keeps past
      → JustKept config link (Puts (Tells number (Passes link command payload (Some ending) Keeps)) ∷ past)
  gives_up : {other : ℕ} {past : List Item} → JustKept config link past → JustKept config link (Puts (Drops other Kept) ∷ past)

-- What is lost with a link

-- A command of this class may have changed something for good: on its own, or as the end of the open transaction.
pub data MayLast (state : TrxState) : Class → Type 0 where
  anything : MayLast state Other
  definitions : MayLast state Ddl
  rows : is_open state ≡ false → state.autocommit ≡ true → MayLast state Write
  begins : is_open state ≡ true → MayLast state Begin
  begins_read_only : is_open state ≡ true → MayLast state BeginReadOnly
  commits : is_open state ≡ true → MayLast state Commit
  rolls_back : is_open state ≡ true → MayLast state Rollback
  autocommits : is_open state ≡ true → MayLast state AutocommitOn

-- the client has a part of the reply that the link was giving
pub record IsCut (config : Config) (link : ℕ) (command : Command) (past : List Item) : Type 0 where
  pub pending : IsPending config command past
  pub from : told_from past ≡ Some link
  pub some : told past ≢ []

-- the command was sent on the link and may have changed something, and the client has nothing of its reply
pub record IsHidden (config : Config) (link : ℕ) (command : Command) (past : List Item) : Type 0 where
  pub pending : IsPending config command past
  pub sent : sent_on past ≡ Some link
  pub lasts : MayLast (transaction config past).state (class_of_command command)
  pub none : told past ≡ []

-- Memory was wanting just now: the session wasn't made, or else its client was told.
abbrev pub IsStarvedAndTold : List Item → Type 0
IsStarvedAndTold past =
    (below : List Item) × (number : ℕ)
    × ((past ≡ Starves false number ∷ below) ⊎ (past ≡ Puts (Tells number (Refuses OutOfMemory)) ∷ Starves true number ∷ below))

-- The open transaction was lost with this link, and no replay is to follow: these are the bytes of its commands and of the pending one,
-- whether a command of it was answered by an error, whether it is read-only, and that no transaction is replayed.
pub record IsEnded (config : Config) (link bytes : ℕ) (tainted read_only off : Bool) (past : List Item) : Type 0 where
  pub open_on : (transaction config past).link ≡ Some link
  pub counts : bytes ≡ transaction_bytes config past
  pub had_error : tainted ≡ (transaction config past).state.tainted
  pub only_reads : (read_only ≡ true) ↔ ((transaction config past).state.opened ≡ ReadOnly)
  pub is_off : off ≡ true

-- What a read-only transaction doesn't take: a class of command that may change something, and a command that sets the session while
-- its history has no room for one.
pub data IsBarred (config : Config) (past : List Item) : Class → Type 0 where
  writes : IsBarred config past Write
  begins : IsBarred config past Begin
  begins_read_only : IsBarred config past BeginReadOnly
  autocommits : IsBarred config past AutocommitOn
  collects : IsBarred config past AutocommitOff
  saves : IsBarred config past TrxLocal
  defines : IsBarred config past Ddl
  does_anything : IsBarred config past Other
  has_no_room : config.history_limit ≤ length (statements config past).history → IsBarred config past Session

-- Causes

-- Why this may be given out next. What a session never gives out has no cause.
abbrev pub IsCaused : Config → Put → List Item → Type 0
-- the front made the packets just now
IsCaused config (Hands packets) past = Handed config packets past
-- what came is a whole reply with this outcome, which told of this statement, and this is what it means for the history; or what a reply
-- begins with
IsCaused config (Tells number (Passes link command payload (Some ending) recording)) past =
    IsPassed config number link command payload past × IsReply command.kind (came_on link past) ending.outcome
    × (exchange link past ≡ None) × IsRecorded config command ending.outcome recording past × (ending.named ≡ named_on link past)
IsCaused config (Tells number (Passes link command payload None Nothing)) past =
    IsPassed config number link command payload past × Begins command.kind (came_on link past)
IsCaused config (Tells number (Passes link command payload None _)) past = ⊥
-- COM_PING, or COM_STMT_RESET of an open statement; its status shows whether autocommit is on and a transaction open
IsCaused config (Tells number (Owns status)) past =
    (payload : Payload) × Took config payload number past
    × ((request_of payload ≡ requests.Ping)
    ⊎ ((request_of payload ≡ requests.ResetStatement)
    × ((statement : Prepared) × (statement_named config payload (beneath past) ≡ Some statement))))
    × (status ≡ status_of (transaction config past).state)
IsCaused config (Tells number (Refuses UnknownCommand)) past =
    (payload : Payload) × Took config payload number past × (request_of payload ≡ requests.Unknown)
-- a command that the proxy doesn't take, an execute of an open statement that asks for a cursor, or a text that sets what mayn't be set, be
-- it sent or prepared
IsCaused config (Tells number (Refuses NotSupported)) past =
    (payload : Payload) × Took config payload number past
    × ((request_of payload ≡ requests.Unsupported)
    ⊎ (((request_of payload ≡ requests.Execute)
    × ((statement : Prepared) × (statement_named config payload (beneath past) ≡ Some statement)) × (asks_cursor payload ≡ true))
    ⊎ (((request_of payload ≡ requests.Query) × (class_of (arguments_of payload) ≡ Refused))
    ⊎ ((plain : Plain) × Executes config payload plain (beneath past) × (class_of plain.text ≡ Refused)))))
-- an execute or reset of a statement that isn't open
IsCaused config (Tells number (Refuses UnknownStatement)) past =
    (payload : Payload) × Took config payload number past
    × ((request_of payload ≡ requests.Execute) ⊎ (request_of payload ≡ requests.ResetStatement))
    × (statement_named config payload (beneath past) ≡ None)
-- an execute out of its layout
IsCaused config (Tells number (Refuses BadExecute)) past =
    (payload : Payload) × Took config payload number past × (request_of payload ≡ requests.Execute)
    × (execute_of (statements config (beneath past)).table payload ≡ Err IsBadExecute)
-- a prepare, where there are as many statements as may be
IsCaused config (Tells number (Refuses TooManyStatements)) past =
    (payload : Payload) × Took config payload number past × (request_of payload ≡ requests.Prepare)
    × (is_crowded (statements config (beneath past)).table.statements ≡ true)
-- a text, be it sent or prepared before, or what is to be set, that the read-only transaction which is open doesn't take
IsCaused config (Tells number (Refuses NotInReadOnly)) past =
    (payload : Payload) × Took config payload number past × ((transaction config past).state.opened ≡ ReadOnly)
    × (((request_of payload ≡ requests.Query) × IsBarred config (beneath past) (class_of (arguments_of payload)))
    ⊎ ((((request_of payload ≡ requests.InitDb) ⊎ (request_of payload ≡ requests.Prepare)) × IsBarred config (beneath past) Session)
    ⊎ ((plain : Plain) × Executes config payload plain (beneath past) × IsBarred config (beneath past) (as_executed (class_of plain.text)))))
-- a client that connected was turned away, and nothing more stands in its record
IsCaused config (Tells number (Refuses TooManyConnections)) past = (past ≡ TurnsAway true ∷ []) × (number ≡ 0)
-- a flood was noted, or too much long data came
IsCaused config (Tells number (Refuses CommandTooLarge)) past =
    ((bytes : ℕ) × Flooded config bytes past × (number ≡ 1))
    ⊎ ((payload : Payload) × (bytes : ℕ) × Took config payload number past × HoldsTooMuch config payload bytes (beneath past))
-- memory was wanting to a session that goes on
IsCaused config (Tells number (Refuses OutOfMemory)) past =
    (below : List Item) × (past ≡ Starves true number ∷ below) × (is_over below ≡ false) × (number ≡ want_number config below)
-- the pending command waited for a primary too long
IsCaused config (Tells number (Refuses NoPrimary)) past = FindsLate config number past
-- the primary has told a position that is below what the pending command is to see
IsCaused config (Tells number (Refuses (PrimaryBehind wanted found))) past = PrimaryLags config number wanted found past
-- a server named it in a reply just now
IsCaused config (Records server gtid) past = NamesCommit config.gtid_domain server gtid past
-- a command is pending, it isn't known where it goes, and it doesn't wait for a primary
IsCaused config Routes past =
    (command : Command) × IsPending config command past × (goes_on config past ≡ None) × ((routing config past).waits ≡ false)
-- on which the client's login is repeated
IsCaused config (Opens link server login) past = IsOpening config link server past × (login_of config past ≡ Some login)
-- what the link's login says just now
IsCaused config (LogsInto link packets) past = LogsOn link packets past × Contains (links past) link
-- the preamble, on a link that is logged in and not prepared
IsCaused config (Sends link Prepares) past = Contains (links past) link × (is_up link past ≡ false) × (linked link past ≡ Rests)
-- an entry of the history, on a link that is prepared and owes no reply, and whose server has no statement left to close: the first that the
-- link has neither played nor led
IsCaused config (Sends link (Plays entry)) past =
    Contains (links past) link × (is_up link past ≡ true) × WasPrepared link past × (linked link past ≡ Rests)
    × (unplayed (cursor link past) (statements config past) ≡ Some entry) × (stale_on link (statements config past) ≡ None)
-- the client's command, on the link that the session is pinned to, or that its last route gave, where that is prepared and has played
-- the history, and the command isn't out on a link that the session has; an execute goes under the id that the link's server has for its
-- statement. Nothing is left to be asked there before it.
IsCaused config (Sends link (Asks command id)) past =
    IsPending config command past × (sent_on past ≡ None) × (goes_on config past ≡ Some link) × Contains (links past) link
    × (is_up link past ≡ true) × WasPrepared link past × (linked link past ≡ Rests)
    × (unplayed (cursor link past) (statements config past) ≡ None) × (stale_on link (statements config past) ≡ None)
    × (id_for link command.body (statements config past).table.links ≡ id) × ((routing config past).check ≡ None)
-- on the link that the pending command is to go on, before it: its routing says that a replica is to wait, for as long as the settings say,
-- or that the primary is to tell its position
IsCaused config (Sends link (Waits gtid seconds)) past = AsksFirst config link (Wait gtid) past × (seconds ≡ config.causal_timeout_s)
IsCaused config (Sends link (Probes gtid)) past = AsksFirst config link (Probe gtid) past
-- on a link that is prepared and owes no reply, the least id that its server gave to a statement that has left
IsCaused config (Forgets link id) past =
    Contains (links past) link × (is_up link past ≡ true) × WasPrepared link past × (linked link past ≡ Rests)
    × (stale_on link (statements config past) ≡ Some id)
IsCaused config (Closes Quit) past =
    (payload : Payload) × (number : ℕ) × Took config payload number past × (request_of payload ≡ requests.Quit)
IsCaused config (Closes Handshake) past = WasRefused config Handshake past
IsCaused config (Closes Access) past = WasRefused config Access past
IsCaused config (Closes (OutOfOrder want got)) past = WasRefused config (OutOfOrder want got) past
-- in a packet's head it said how long the payload is; or with long data that came its statement would hold so much, and it was told so
IsCaused config (Closes (TooLarge bytes)) past =
    WasRefused config (TooLarge bytes) past
    ⊎ ((taken : List Item) × (number : ℕ) × (payload : Payload) × (past ≡ Puts (Tells number (Refuses CommandTooLarge)) ∷ taken)
    × Took config payload number taken × HoldsTooMuch config payload bytes (beneath taken))
-- the client was turned away; one that connected was told before
IsCaused config (Closes Connections) past =
    (past ≡ TurnsAway false ∷ []) ⊎ (past ≡ Puts (Tells 0 (Refuses TooManyConnections)) ∷ TurnsAway true ∷ [])
-- the flood was noted, and then the client was told
IsCaused config (Closes (reasons.Flooded bytes)) past =
    (below : List Item) × (past ≡ Puts (Tells 1 (Refuses CommandTooLarge)) ∷ below) × Flooded config bytes below
-- a reply was cut by the loss of its link
IsCaused config (Closes ResultCut) past =
    (link : ℕ) × (below : List Item) × (command : Command) × Lost link below past × IsCut config link command below
-- what became of the command isn't known
IsCaused config (Closes OutcomeUnknown) past =
    (link : ℕ) × (below : List Item) × (command : Command) × Lost link below past × IsHidden config link command below
-- none of both, but the connection held what the session has set
IsCaused config (Closes SessionState) past =
    (link : ℕ) × (below : List Item) × Lost link below past × (kept_on below ≡ Some link)
    × ((command : Command) → ¬ IsCut config link command below) × ((command : Command) → ¬ IsHidden config link command below)
-- none of the three, but the transaction was open there
IsCaused config (Closes (NotReplayable bytes tainted read_only off)) past =
    (link : ℕ) × (below : List Item) × Lost link below past × IsEnded config link bytes tainted read_only off below
    × (kept_on below ≢ Some link) × ((command : Command) → ¬ IsCut config link command below)
    × ((command : Command) → ¬ IsHidden config link command below)
IsCaused config (Closes Memory) past = IsStarvedAndTold past
IsCaused config (Closes _) past = ⊥
IsCaused config (Drops link BadWire) past =
    (fault : WireFault) × IsGarbled link fault past × Contains (links past) link
-- what came with this payload is no reply to the command, to the preamble, to an entry of the history or to what goes before a read, or no
-- word on the login
IsCaused config (Drops link BadReply) past =
    (((command : Command) × (payload : Payload) × IsOfReply config link command past × IsNoReply command.kind link payload past)
    ⊎ (((payload : Payload) × (asked_on link past ≡ Some Prepares) × IsNoReply QueryReply link payload past)
    ⊎ (((entry : HistoryEntry) × (payload : Payload) × (asked_on link past ≡ Some (Plays entry)) × IsNoReply entry.kind link payload past)
    ⊎ (((check : Check) × (payload : Payload) × (asks_first (asked_on link past) ≡ Some check) × IsNoReply QueryReply link payload past)
    ⊎ NotEntered link losses.BadReply past))))
    × Contains (links past) link
IsCaused config (Drops link Unasked) past = IsUnasked link past × Contains (links past) link
-- the link's login failed
IsCaused config (Drops link Greeting) past = NotEntered link losses.Greeting past × Contains (links past) link
IsCaused config (Drops link Plugin) past = NotEntered link losses.Plugin past × Contains (links past) link
-- the server refused the login, or the preamble, by an error with this code
IsCaused config (Drops link (LoginFails code)) past =
    (NotEntered link (losses.Login code) past ⊎ IsUnprepared link code past) × Contains (links past) link
IsCaused config (Drops link End) past = (is_over past ≡ true) × Contains (links past) link
-- the session was kept on another link just now
IsCaused config (Drops link Kept) past = (kept : ℕ) × JustKept config kept past × (kept ≢ link) × Contains (links past) link
-- the server answered an entry of the history by an error, or prepared it with other counts
IsCaused config (Drops link SessionDiffers) past = Differs link past × Contains (links past) link
-- the server was probed, and told no position that can be read
IsCaused config (Drops link NoAnswer) past = TellsNoPosition link past × Contains (links past) link
IsCaused config (Drops link _) past = ⊥

-- whether bytes stand behind a payload
abbrev pub IsBehind : Bool → List ℕ → Type 0
IsBehind true rest = rest ≢ []
IsBehind false rest = rest ≡ []

-- What was read is what the bytes below it begin with, of the client or of a link, and what came came from a link that the
-- session has.
abbrev pub IsRead : Config → Item → List Item → Type 0
IsRead config (Accepted session scramble reading) past = past ≡ []
IsRead config (TurnsAway told) past = past ≡ []
IsRead config (Began link server reading) past = past ≡ []
IsRead config (LinkReady link) past = Contains (links past) link × (is_new (linked link past) ≡ true)
IsRead config (LinkBytes link bytes) past = Contains (links past) link
IsRead config (LinkLost link) past = Contains (links past) link
-- the worker was asked just now
IsRead config (Routed words loads next found) past = (below : List Item) × (past ≡ Puts Routes ∷ below)
IsRead config (Comes link (steps.Part payload its far next more)) past =
    (e : Exchange) × (rest : List ℕ) × Contains (links past) link × (exchange link past ≡ Some e)
    × (first_payload SERVER_PAYLOAD e.next (link_held link past) ≡ Whole payload next rest)
    × (role e.kind e.sofar payload ≡ Some its) × (progress e.kind e.sofar payload ≡ Some far) × IsBehind more rest
IsRead config (Comes link (steps.Send packets)) past =
    LogsOn link packets (Comes link (steps.Send packets) ∷ past) × Contains (links past) link
IsRead config (Comes link steps.LoggedIn) past = Entered link (Comes link steps.LoggedIn ∷ past) × Contains (links past) link
IsRead config (Comes link (steps.Lost cause)) past =
    IsLostFor link cause (Comes link (steps.Lost cause) ∷ past) × Contains (links past) link
IsRead config (Comes link steps.Idle) past = ⊥
IsRead config (Connects said) past = (pending past ≡ None) × IsSaid config (fronted config past) said
IsRead config (Takes it number) past =
    (payload : Payload) × Took config payload number (Takes it number ∷ past) × IsSilence it payload
IsRead config (Floods bytes) past = Flooded config bytes (Floods bytes ∷ past)
IsRead config _ past = Unit {0}

-- At each place of the record: what was given out has its cause, and all else came, or was read, while the session wasn't
-- over. Memory is wanting once at most, at any place; a session that isn't made for want of it has only begun.
abbrev pub AreCaused : Config → List Item → Type 0
AreCaused config [] = Unit {0}
AreCaused config (Puts put ∷ past) = IsCaused config put past × AreCaused config past
AreCaused config (Starves made number ∷ past) =
    (is_starved past ≡ false) × CanBeMade made past × (number ≡ want_number config past) × AreCaused config past
AreCaused config (item ∷ past) = (is_over past ≡ false) × IsRead config item past × AreCaused config past
