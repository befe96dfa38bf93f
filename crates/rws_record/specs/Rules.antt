-- What a session does next. What is owed answers the newest item directly; all else is due, in a fixed order. A record
-- goes on by `next` until it rests, and then by what comes from outside.
--
-- Rules come in two levels: a function of plain values, and one line that fills in the values of a record.
use Rattle.std.specs.Prelude.{ℕ, ◌+◌, nat_lt, Bool, true, false, not, ◌&&◌, ◌==◌, List, [], ◌∷◌, ◌++◌, length, map, drop, Option, Some, None, is_some, if◌then◌else◌}
use Rattle.std.specs.Option.{option_map}
use Rattle.rws_wire.specs.declared.close_reason.CloseReason.{CloseReason}
use Rattle.rws_wire.specs.declared.close_reason.CloseReason.TheVariants as reasons
use Rattle.rws_wire.specs.declared.drop_cause.DropCause.{DropCause}
use Rattle.rws_wire.specs.declared.drop_cause.DropCause.TheVariants as causes
use Rattle.rws_wire.specs.declared.drop_cause.DropCause.TheVariants.{Unasked, End, Kept, Replay}
use Rattle.rws_msgs.specs.declared.prepare_ok.PrepareOk.{PrepareOk}
use Rattle.rws_gtid.specs.declared.Gtid.{Gtid}
use Rattle.rws_causal.specs.declared.causal.Causal.{Causal}
use Rattle.rws_causal.specs.declared.causal.Causal.TheVariants.{Stale, Unreadable}
use Rattle.rws_causal.specs.Commits.{commit_in}
use Rattle.rws_native.specs.declared.login.Login.{Login}
use Rattle.rws_reply.specs.declared.kind.Outcome.{Outcome}
use Rattle.rws_reply.specs.declared.kind.Outcome.TheVariants.{Done, Failed}
use Rattle.rws_reply.specs.declared.kind.Progress.{Progress}
use Rattle.rws_reply.specs.declared.kind.Progress.TheVariants.{More, Whole as Ends}
use Rattle.rws_reply.specs.declared.role.Role.{Role}
use Rattle.rws_reply.specs.declared.role.Role.TheVariants.{Ok as OkRole}
use Rattle.rws_reply.specs.ClientForm.{client_form}
use Rattle.rws_front.specs.declared.step.FrontStep.{FrontStep}
use Rattle.rws_front.specs.declared.step.FrontStep.TheVariants as fronts
use Rattle.rws_front.specs.Connection.{step_of}
use Rattle.rws_link.specs.declared.step.LinkCause.{LinkCause}
use Rattle.rws_link.specs.declared.step.LinkCause.TheVariants as losses
use Rattle.rws_link.specs.declared.step.LinkStep.{LinkStep}
use Rattle.rws_link.specs.declared.step.LinkStep.TheVariants as steps
use Rattle.rws_link.specs.Stepping.{LinkState, LogsIn, Rests, Awaits, IsLost, step}
use Rattle.rws_trx.specs.declared.state.Open.{Open}
use Rattle.rws_trx.specs.declared.state.Open.TheVariants.{Nothing as Unopened, ReadWrite, ReadOnly}
use Rattle.rws_trx.specs.declared.state.TrxState.{TrxState}
use Rattle.rws_trx.specs.Transactions.{is_open, leaves_unknown}
use Rattle.rws_trx.specs.OnLinks.{status_of}
use Rattle.rws_pool.specs.declared.words.PoolWords.{PoolWords}
use Rattle.rws_select.specs.declared.selector.Load.{Load}
use Rattle.rws_route.specs.declared.destination.Target.{Target}
use Rattle.rws_route.specs.declared.destination.Target.TheVariants.{Primary, Replica, NoPrimary as Nowhere}
use Rattle.rws_route.specs.Targets.{target_of}
use Rattle.rws_routing.specs.Routings.{finds_late, server_in}
use Rattle.rws_config.specs.declared.config.Config.{Config}
use Rattle.rws_config.specs.declared.limits.TheConstants.{FLOOD_ROOM}
use Rattle.rws_commands.specs.declared.command.Command.{Command}
use Rattle.rws_commands.specs.declared.history.HistoryEntry.{HistoryEntry}
use Rattle.rws_commands.specs.declared.judged.Judged.{Judged}
use Rattle.rws_commands.specs.declared.judged.Judged.TheVariants.{Leaves, IsOwn, IsRefused, IsSilent, HasTooMuch, Serves}
use Rattle.rws_commands.specs.declared.judged.Situation.{Situation}
use Rattle.rws_commands.specs.declared.proxy_error.ProxyError.TheVariants.{TooManyConnections, CommandTooLarge, NoPrimary, PrimaryBehind, OutOfMemory}
use Rattle.rws_commands.specs.Commands.{class_of_command, is_session, keeps}
use Rattle.rws_commands.specs.Judging.{judged}
use Rattle.rws_commands.specs.Statements.{Statements, is_full, is_otherwise, next_handle, stale_on, swept_if, unplayed}
use Rattle.rws_record.specs.Item.{Item, Purpose, Put, Recording}
use Rattle.rws_record.specs.Item.Item.{Accepted, TurnsAway, Began, ClientBytes, LinkReady, LinkBytes, ClientGone, LinkLost, Ticks, Routed, Comes, Connects, Takes, Floods, Puts, Starves}
use Rattle.rws_record.specs.Item.Put.{Hands, Tells, Records, Routes, Opens, LogsInto, Sends, Forgets, Drops, Closes}
use Rattle.rws_record.specs.Item.Tell.{Passes, Owns, Refuses}
use Rattle.rws_record.specs.Item.Purpose.{Prepares, Asks, Plays, Waits, Probes}
use Rattle.rws_record.specs.Item.Recording.{Nothing, Accepts, Keeps}
use Rattle.rws_record.specs.Values.{asking_for, banned, checked_on, class_by_pending, cursor, ends_transaction, fronted, goes_on, held, login_of, links, link_to, contains, without, kept_on, linked, is_up, asked_on, named_in, named_on, now, pending, routing, sent_on, server_of, statements, told_from, reply_number, transaction, transaction_bytes, asking, is_over}

abbrev pub is_link : ℕ → Option ℕ → Bool
is_link link (Some other) = other == link
is_link link None = false

-- The loss of a link

-- what the loss of a link means for its session
pub data Loss : Type 0 where
  -- the client has a part of a reply that no other server can end
  CutsReply : Loss
  -- the command may have been carried out
  HidesOutcome : Loss
  -- the connection held what the session has set
  TakesState : Loss
  -- the open transaction can't be replayed
  EndsTransaction : Loss
  -- the open transaction is replayed elsewhere
  StartsReplay : Loss
  -- the pending command goes elsewhere
  SendsElsewhere : Loss
  -- nothing more
  IsForgotten : Loss

-- The first that fits holds. A payload of the pending reply was passed on from the link; the pending command was sent on
-- it, and isn't one to be sent again; the session is kept on it; a transaction is open on it, which can be replayed or
-- not; the pending command was sent, or was to be sent, on it.
abbrev pub loss_by : (told sent again kept opened replayable assigned : Bool) → Loss
loss_by told sent again kept opened replayable assigned =
    if told then CutsReply
    else (if (sent && not again) then HidesOutcome
    else (if kept then TakesState
    else (if (opened && not replayable) then EndsTransaction
    else (if opened then StartsReplay
    else (if assigned then SendsElsewhere
    else IsForgotten)))))

-- Replays aren't built: whatever the settings say, no transaction is replayed.
abbrev pub is_replay_off : Bool
is_replay_off = true

abbrev pub is_replayable : Bool
is_replayable = not is_replay_off

abbrev pub again_by : Option Command → TrxState → Bool
again_by (Some command) state = not (leaves_unknown (class_of_command command) state)
again_by None state = true

abbrev pub goes_if : Option Command → Option ℕ → Option ℕ
goes_if (Some command) link = link
goes_if None link = None

abbrev pub loss_of : Config → ℕ → List Item → Loss
loss_of config link past =
    loss_by (is_link link (told_from past)) (is_link link (sent_on past)) (again_by (pending past) (transaction config past).state)
    (is_link link (kept_on past)) (is_link link (transaction config past).link) is_replayable
    (is_link link (goes_if (pending past) (goes_on config past)))

abbrev pub is_read_only : Open → Bool
is_read_only Unopened = false
is_read_only ReadWrite = false
is_read_only ReadOnly = true

-- why a transaction can't be replayed
abbrev pub not_replayable : (bytes : ℕ) → TrxState → CloseReason
not_replayable bytes state = reasons.NotReplayable bytes state.tainted (is_read_only state.opened) is_replay_off

-- `ends` is the reason to close where a transaction is lost with the link. Nothing starts a replay yet. A command that goes
-- elsewhere is routed anew, which is due.
abbrev pub after_loss_by : Loss → (ends : CloseReason) → List Put
after_loss_by CutsReply ends = Closes reasons.ResultCut ∷ []
after_loss_by HidesOutcome ends = Closes reasons.OutcomeUnknown ∷ []
after_loss_by TakesState ends = Closes reasons.SessionState ∷ []
after_loss_by EndsTransaction ends = Closes ends ∷ []
after_loss_by StartsReplay ends = []
after_loss_by SendsElsewhere ends = []
after_loss_by IsForgotten ends = []

-- why the transaction can't be that is open now
abbrev pub ending : Config → List Item → CloseReason
ending config past = not_replayable (transaction_bytes config past) (transaction config past).state

abbrev pub after_loss : Config → ℕ → List Item → List Put
after_loss config link past = after_loss_by (loss_of config link past) (ending config past)

-- to give a link up is to lose it, but for those that aren't needed any more
abbrev pub is_loss : DropCause → Bool
is_loss End = false
is_loss Kept = false
is_loss Replay = false
is_loss _ = true

-- What is owed

-- a session that ends gives up its links, in order of number
abbrev pub farewells : List Item → List Put
farewells past = map (λ link. Drops link End) (links past)

abbrev pub after_command : Judged → ℕ → (status : ℕ) → List Put
after_command Leaves number status = Closes reasons.Quit ∷ []
after_command IsOwn number status = Tells number (Owns status) ∷ []
after_command (IsRefused error) number status = Tells number (Refuses error) ∷ []
after_command IsSilent number status = []
after_command (HasTooMuch bytes) number status = Tells number (Refuses CommandTooLarge) ∷ Closes (reasons.TooLarge bytes) ∷ []
after_command (Serves command) number status = []

-- What came of the client but for its commands: where its packets can't be read on, or it isn't let in, the session is closed.
abbrev pub after_connecting : FrontStep → List Put
after_connecting (fronts.Send packets) = Hands packets ∷ []
after_connecting (fronts.LoggedIn login) = []
after_connecting (fronts.End packets reason) = Hands packets ∷ Closes reason ∷ []
after_connecting (fronts.Command payload) = []
after_connecting fronts.Idle = []

-- A client is turned away: one that connected is told so, in a packet of number 0, in place of the greeting.
abbrev pub after_turning_away : (told : Bool) → List Put
after_turning_away true = Tells 0 (Refuses TooManyConnections) ∷ Closes reasons.Connections ∷ []
after_turning_away false = Closes reasons.Connections ∷ []

-- a link is opened where the session has none to the server
abbrev pub opening : (link : Option ℕ) → (next server : ℕ) → Option Login → List Put
opening None next server (Some login) = Opens next server login ∷ []
opening link next server login = []

-- a command that waited long enough for a primary is answered so
abbrev pub refusing : Bool → (number : ℕ) → List Put
refusing true number = Tells number (Refuses NoPrimary) ∷ []
refusing false number = []

-- the pending command's target is found, or there is none for it
abbrev pub after_route : Target → (link : Option ℕ) → (next : ℕ) → Option Login → (late : Bool) → (number : ℕ) → List Put
after_route Nowhere link next login late number = refusing late number
after_route (Primary server) link next login late number = opening link next server login
after_route (Replica server) link next login late number = opening link next server login

-- where the pending command is to go, by these words and loads
abbrev pub found_in : Config → List Item → PoolWords → List Load → Target
found_in config past words loads =
    target_of (class_by_pending (pending past)) (transaction config past).state.autocommit (routing config past).sent_back words loads
    (routing config past).tried (banned past)

-- The client sent on too far behind a command that isn't answered. It is told in a packet of number 1.
abbrev pub after_flood : ℕ → List Put
after_flood held = Tells 1 (Refuses CommandTooLarge) ∷ Closes (reasons.Flooded held) ∷ []

abbrev pub unasked : ℕ → Bool → List Put
unasked link true = Drops link Unasked ∷ []
unasked link false = []

-- A payload of the reply to the client's command goes to the client in its form; behind the last one a further byte costs
-- the link.
abbrev pub after_answer : ℕ → Command → (form : List ℕ) → (named : Option PrepareOk) → Progress → (behind : Bool) → (number : ℕ) → (Outcome → Recording) → List Put
after_answer link command form named More behind number recording = Tells number (Passes link command form None Nothing) ∷ []
after_answer link command form named (Ends outcome) behind number recording =
    Tells number (Passes link command form (Some (record { outcome = outcome; named = named })) (recording outcome)) ∷ unasked link behind

-- The history has no room for an entry behind a reply on this link, which ended so: the statements that were closed in a transaction leave
-- with it, and their entries too.
abbrev pub is_full_behind : Config → ℕ → Outcome → List Item → Bool
is_full_behind config link outcome past =
    is_full config.history_limit (swept_if (ends_transaction config link outcome past) (statements config past))

-- A command that sets the session, without an error, is added to the history; where that is full, the session is kept.
abbrev pub recording_by : (sets kept full : Bool) → Outcome → Recording
recording_by true false false (Done status) = Accepts
recording_by true false true (Done status) = Keeps
recording_by _ _ _ _ = Nothing

abbrev pub recording_of : Config → ℕ → List Item → Outcome → Recording
recording_of config link past outcome =
    recording_by (is_session (class_by_pending (pending past))) (is_some (kept_on past)) (is_full_behind config link outcome past) outcome

abbrev pub differing : ℕ → (otherwise behind : Bool) → List Put
differing link true behind = Drops link causes.SessionDiffers ∷ []
differing link false behind = unasked link behind

-- an entry of the history was played, or its server answers it otherwise
abbrev pub after_played : ℕ → HistoryEntry → (named : Option PrepareOk) → Progress → (behind : Bool) → List Put
after_played link entry named More behind = []
after_played link entry named (Ends (Done status)) behind = differing link (is_otherwise entry.statement named) behind
after_played link entry named (Ends (Failed code)) behind = Drops link causes.SessionDiffers ∷ []

-- the form in which the client gets a payload of this role, which knows the statement that is prepared next by this handle
abbrev pub form_of : (handle : ℕ) → Role → List ℕ → List ℕ
form_of handle role payload = client_form role handle payload

-- A link is prepared, unless its server refuses that; behind the last payload a further byte costs the link here too.
abbrev pub after_preparing : ℕ → Progress → (behind : Bool) → List Put
after_preparing link More behind = []
after_preparing link (Ends (Done status)) behind = unasked link behind
after_preparing link (Ends (Failed code)) behind = Drops link (causes.Login code) ∷ []

-- A wait was answered: the command goes on, or back to the primary; both are due. A probe was answered: the command goes on, or is
-- answered that the primary is behind, or the link, whose server tells no position, is given up.
abbrev pub after_check : ℕ → Option Causal → (behind : Bool) → (number : ℕ) → List Put
after_check link (Some (Stale wanted found)) behind number = Tells number (Refuses (PrimaryBehind wanted found)) ∷ unasked link behind
after_check link (Some Unreadable) behind number = Drops link causes.Probe ∷ []
after_check link (Some causal) behind number = unasked link behind
after_check link None behind number = []

-- a payload of the reply to what was sent for this purpose, which told of this statement so far
abbrev pub after_part : Config → ℕ → Option Purpose → (form : List ℕ) → (named : Option PrepareOk) → (checked : Option Causal) → Progress → (behind : Bool) → (number : ℕ) → List Item → List Put
after_part config link (Some (Asks command id)) form named checked progress behind number past =
    after_answer link command form named progress behind number (λ outcome. recording_of config link past outcome)
after_part config link (Some (Plays entry)) form named checked progress behind number past = after_played link entry named progress behind
after_part config link (Some Prepares) form named checked progress behind number past = after_preparing link progress behind
after_part config link (Some (Waits gtid seconds)) form named checked progress behind number past = after_check link checked behind number
after_part config link (Some (Probes gtid)) form named checked progress behind number past = after_check link checked behind number
after_part config link None form named checked progress behind number past = []

-- The commit that a payload of a reply tells of: an OK names it. That to the preamble says nothing of a command.
abbrev pub commit_by : (domain : ℕ) → Role → List ℕ → Option Purpose → Option Gtid
commit_by domain OkRole payload None = None
commit_by domain OkRole payload (Some Prepares) = None
commit_by domain OkRole payload (Some purpose) = commit_in domain payload
commit_by domain _ payload purpose = None

-- the words are told of it before anything else is done about the payload
abbrev pub recording_commit : (server : ℕ) → Option Gtid → List Put
recording_commit server (Some gtid) = Records server gtid ∷ []
recording_commit server None = []

-- why a link that is lost is given up
abbrev pub drop_cause : LinkCause → DropCause
drop_cause losses.BadWire = causes.BadWire
drop_cause losses.BadReply = causes.BadReply
drop_cause losses.Unasked = causes.Unasked
drop_cause losses.Greeting = causes.Greeting
drop_cause losses.Plugin = causes.Plugin
drop_cause (losses.Login code) = causes.Login code

-- what came of a link
abbrev pub after_coming : Config → ℕ → LinkStep → Option Purpose → (number : ℕ) → List Item → List Put
after_coming config link (steps.Part payload role progress next behind) purpose number past =
    recording_commit (server_of link past) (commit_by config.gtid_domain role payload purpose)
    ++ after_part config link purpose (form_of (next_handle (statements config past)) role payload) (named_in role payload (named_on link past))
    (checked_on link (steps.Part payload role progress next behind) past) progress behind number past
after_coming config link (steps.Lost cause) purpose number past = Drops link (drop_cause cause) ∷ []
after_coming config link (steps.Send packets) purpose number past = LogsInto link packets ∷ []
after_coming config link steps.LoggedIn purpose number past = []
after_coming config link steps.Idle purpose number past = []

-- Where memory is wanting the session is closed, and its client told before, in a packet of this number, if the session was
-- made. One that is over gives up the links that it has left.
abbrev pub after_want : (over made : Bool) → (number : ℕ) → (farewells : List Put) → List Put
after_want true made number farewells = farewells
after_want false true number farewells = Tells number (Refuses OutOfMemory) ∷ Closes reasons.Memory ∷ []
after_want false false number farewells = Closes reasons.Memory ∷ []

-- the answer to what came, was taken up or was wanting, from the record before it
abbrev pub response : Config → Item → List Item → List Put
response config (Accepted session scramble reading) past = []
response config (TurnsAway told) past = after_turning_away told
response config (Began link server reading) past = []
response config (ClientBytes bytes) past = []
response config (LinkReady link) past = []
response config (LinkBytes link bytes) past = []
response config ClientGone past = farewells past
response config (LinkLost link) past = after_loss config link past
response config (Ticks reading) past = []
response config (Routed words loads next found) past =
    after_route found (link_to (server_in found) past) next (login_of config past)
    (finds_late config.primary_wait_ms (now past) (routing config past)) (reply_number past)
response config (Comes link said) past = after_coming config link said (asked_on link past) (reply_number past) past
response config (Connects said) past = after_connecting said
-- the proxy's own OK shows whether autocommit is on and a transaction open
response config (Takes judged number) past = after_command judged number (status_of (transaction config past).state)
response config (Floods held) past = after_flood held
response config (Starves made number) past = after_want (is_over past) made number (farewells past)
response config (Puts put) past = []

-- a command by which anything may be changed keeps the session on its link, and the others are given up
abbrev pub after_keeping : (keeping : Bool) → ℕ → (kept : Option ℕ) → List ℕ → List Put
after_keeping true link None links = map (λ other. Drops other Kept) (without link links)
after_keeping true link (Some kept) links = []
after_keeping false link kept links = []

-- what follows directly on something that was given out
abbrev pub follow : Config → Put → List Item → List Put
follow config (Drops link cause) past = if is_loss cause then after_loss config link past else []
follow config (Sends link (Asks command id)) past =
    after_keeping (keeps (class_of_command command)) link (kept_on past) (links past)
follow config (Tells number (Passes link command payload (Some ending) Keeps)) past = after_keeping true link (kept_on past) (links past)
follow config _ past = []

abbrev pub owed : Config → List Item → List Put
owed config [] = []
owed config (Puts (Closes reason) ∷ past) = farewells past
owed config (Puts put ∷ past) = follow config put past ++ drop 1 (owed config past)
owed config (item ∷ past) = response config item past

-- What is due where nothing is owed

abbrev pub is_ready : LinkState → Bool
is_ready (LogsIn handshake unread) = false
is_ready Rests = true
is_ready (Awaits e unread) = false
is_ready (IsLost cause) = false

abbrev pub is_same : (wanted is : Bool) → Bool
is_same true is = is
is_same false is = not is

-- the session has the link, and may send on it; commands of the client go on one that is prepared
abbrev pub is_free : (prepared : Bool) → ℕ → List Item → Bool
is_free prepared link past =
    contains link (links past) && (is_same prepared (is_up link past) && is_ready (linked link past))

-- where a command is pending and it isn't known where it goes, the worker is asked, unless the command waits for a primary
abbrev pub route_by : Option Command → (goes : Option ℕ) → (waits : Bool) → Option Item
route_by (Some command) None false = Some (Puts Routes)
route_by _ _ _ = None

abbrev pub due_route : Config → List Item → Option Item
due_route config past = route_by (pending past) (goes_on config past) (routing config past).waits

infixr 20 ◌or◌
abbrev pub ◌or◌ : {A : Type 0} → Option A → Option A → Option A
(Some item) or other = Some item
None or other = other

-- a link is prepared as soon as it is logged in
abbrev pub prepare_by : (free : Bool) → ℕ → Option Item
prepare_by true link = Some (Puts (Sends link Prepares))
prepare_by false link = None

-- what goes on a link that is free for it; before it the link's server is told to close the statements that have left
abbrev pub behind_stale : ℕ → (stale : Option ℕ) → Purpose → Item
behind_stale link (Some id) purpose = Puts (Forgets link id)
behind_stale link None purpose = Puts (Sends link purpose)

-- the next entry of the history, on a link that has some to play
abbrev pub play_by : (free : Bool) → ℕ → (stale : Option ℕ) → Option HistoryEntry → Option Item
play_by true link stale (Some entry) = Some (behind_stale link stale (Plays entry))
play_by _ link stale _ = None

-- the pending command, or what its link's server is asked first, goes on its link as soon as that is prepared and free, where it wasn't
-- sent yet
abbrev pub ask_by : (free : Bool) → ℕ → (stale : Option ℕ) → (goes : Bool) → Option Purpose → (sent : Option ℕ) → Option Item
ask_by true link stale true (Some purpose) None = Some (behind_stale link stale purpose)
ask_by _ link stale _ _ _ = None

abbrev pub due_on : Config → ℕ → List Item → Option Item
due_on config link past =
    let s = statements config past in
    prepare_by (is_free false link past) link
    or (play_by (is_free true link past) link (stale_on link s) (unplayed (cursor link past) s)
    or ask_by (is_free true link past) link (stale_on link s) (is_link link (goes_on config past)) (asking_for config.causal_timeout_s (routing config past).check (pending past) link s.table.links) (sent_on past))

-- in order of number
abbrev pub due_sends : Config → List ℕ → List Item → Option Item
due_sends config [] past = None
due_sends config (link ∷ others) past = due_on config link past or due_sends config others past

-- how many bytes a client may have sent that aren't taken up, while a command of its is pending
abbrev pub flood_limit : Config → ℕ
flood_limit config = config.command_bytes + FLOOD_ROOM

-- The number of bytes that is too many, where so many are held or more. It is the first number above the limit, and not how
-- many came: so it is the same however they were cut.
abbrev pub flood_by : Option Command → (limit held : ℕ) → Option ℕ
flood_by (Some command) limit held = if nat_lt limit held then Some (limit + 1) else None
flood_by None limit held = None

abbrev pub due_flood : Config → List Item → Option Item
due_flood config past = option_map (λ bytes. Floods bytes) (flood_by (pending past) (flood_limit config) (length (held config past)))

-- what comes of a link that says this
abbrev pub coming : ℕ → LinkStep → Option Item
coming link steps.Idle = None
coming link (steps.Send bytes) = Some (Comes link (steps.Send bytes))
coming link steps.LoggedIn = Some (Comes link steps.LoggedIn)
coming link (steps.Part payload role progress next behind) = Some (Comes link (steps.Part payload role progress next behind))
coming link (steps.Lost cause) = Some (Comes link (steps.Lost cause))

abbrev pub due_arrival : List ℕ → List Item → Option Item
due_arrival [] past = None
due_arrival (link ∷ others) past = coming link (step (linked link past)).answer or due_arrival others past

-- how the session stands where a command comes now
abbrev pub situation : Config → List Item → Situation
situation config past = record {
  in_transaction = is_open (transaction config past).state;
  read_only = is_read_only (transaction config past).state.opened;
  history_limit = config.history_limit;
  room = config.command_bytes;
}

-- what comes of the client
abbrev pub taking : Situation → Statements → FrontStep → Option Item
taking now s fronts.Idle = None
taking now s (fronts.Send packets) = Some (Connects (fronts.Send packets))
taking now s (fronts.LoggedIn login) = Some (Connects (fronts.LoggedIn login))
taking now s (fronts.Command payload) = Some (Takes (judged now s payload.bytes payload.next) payload.next)
taking now s (fronts.End packets reason) = Some (Connects (fronts.End packets reason))

-- the client is read on once the command before is answered
abbrev pub take_by : Situation → Statements → Option Command → FrontStep → Option Item
take_by now s None said = taking now s said
take_by now s (Some command) said = None

abbrev pub due_take : Config → List Item → Option Item
due_take config past = take_by (situation config past) (statements config past) (pending past) (step_of config.accounts (fronted config past)).0

-- A command that was just taken up is routed and sent before the bytes behind it are counted, so one piece of bytes and two
-- give the same.
abbrev pub due : Config → List Item → Option Item
due config past =
    due_route config past or (due_sends config (links past) past or (due_flood config past or (due_arrival (links past) past or due_take config past)))

abbrev pub next_by : List Put → Bool → Option Item → Option Item
next_by (put ∷ others) over due = Some (Puts put)
next_by [] true due = None
next_by [] false due = due

abbrev pub unless_asking : (asking : Bool) → Option Item → Option Item
unless_asking true item = None
unless_asking false item = item

-- the session's next step; None where it rests, or waits for the worker's answer
abbrev pub next : Config → List Item → Option Item
next config past = unless_asking (asking past) (next_by (owed config past) (is_over past) (due config past))
