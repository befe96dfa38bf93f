-- What a record says. Each value is read from the items alone, newest first, and is a function of its own; a value of a
-- link takes the link's number.
use Rattle.std.specs.Prelude.{ℕ, ◌+◌, Bool, true, false, not, ◌&&◌, ◌||◌, List, [], ◌∷◌, ◌++◌, filter, ◌==◌, Option, Some, None, Result, Ok, Err, codes, is_none, if◌then◌else◌}
use Rattle.rws_wire.specs.Packets.{number_behind}
use Rattle.rws_msgs.specs.declared.command.TheConstants.{COM_QUERY}
use Rattle.rws_native.specs.declared.login.Login.{Login}
use Rattle.rws_msgs.specs.declared.fault.MsgFault.{MsgFault}
use Rattle.rws_msgs.specs.declared.prepare_ok.PrepareOk.{PrepareOk}
use Rattle.rws_msgs.specs.PrepareOkLayout.{prepare_ok_at}
use Rattle.rws_wire.specs.declared.mode.Mode.{Mode}
use Rattle.rws_gtid.specs.declared.Gtid.{Gtid}
use Rattle.rws_gtid.specs.Spelling.{wait_statement}
use Rattle.rws_pool.specs.declared.words.PoolWords.{PoolWords}
use Rattle.rws_pool.specs.Machine.{later, seen_at}
use Rattle.rws_result.specs.declared.one_value.OneValue.{OneValue}
use Rattle.rws_result.specs.declared.one_value.OneValue.TheVariants.{Begins}
use Rattle.rws_result.specs.OneValues.{heard, value_of}
use Rattle.rws_causal.specs.declared.causal.Causal.{Causal}
use Rattle.rws_causal.specs.declared.causal.Causal.TheVariants.{Go, TryPrimary, Wait as WaitsFirst, Probe as ProbesFirst}
use Rattle.rws_causal.specs.Rules.{after_probe, after_wait, before_read, wanted}
use Rattle.rws_route.specs.declared.destination.Target.{Target}
use Rattle.rws_route.specs.declared.destination.Target.TheVariants.{Primary, Replica, NoPrimary as Nowhere}
use Rattle.rws_route.specs.Targets.{only_reads}
use Rattle.rws_class.specs.declared.class.Class.{Class}
use Rattle.rws_class.specs.declared.class.Class.TheVariants.{Other}
use Rattle.rws_trx.specs.declared.transaction.Answer.{Answer}
use Rattle.rws_trx.specs.declared.transaction.Transaction.{Transaction}
use Rattle.rws_trx.specs.declared.state.Course.{Course}
use Rattle.rws_trx.specs.declared.state.Course.TheVariants.{GoesOn, Begins, IsNone}
use Rattle.rws_trx.specs.declared.state.TrxState.{TrxState}
use Rattle.rws_trx.specs.Transactions.{begins_read_only, is_open}
use Rattle.rws_trx.specs.OnLinks.{added, answered, course_of, no_transaction, status_of}
use Rattle.rws_routing.specs.declared.routing.Check.{Check}
use Rattle.rws_routing.specs.declared.routing.Check.TheVariants.{Wait, Probe}
use Rattle.rws_routing.specs.declared.routing.Routing.{Routing}
use Rattle.rws_routing.specs.Routings.{cleared, goes_to_primary, is_at, lost, new_routing, routed, server_in, stopped, ticked, turned_back, with_server}
use Rattle.rws_reply.specs.declared.kind.Kind.{Kind}
use Rattle.rws_reply.specs.declared.kind.Kind.TheVariants.{Query as QueryReply}
use Rattle.rws_reply.specs.declared.kind.Outcome.{Outcome}
use Rattle.rws_reply.specs.declared.kind.Outcome.TheVariants.{Done, Failed}
use Rattle.rws_reply.specs.declared.kind.Progress.TheVariants.{Whole as Ends}
use Rattle.rws_reply.specs.declared.role.Role.{Role}
use Rattle.rws_reply.specs.declared.role.Role.TheVariants.{Prepared}
use Rattle.rws_front.specs.declared.phase.Phase.TheVariants.{Greets as IsToGreet, Commands}
use Rattle.rws_front.specs.declared.step.FrontStep.{FrontStep}
use Rattle.rws_front.specs.declared.step.FrontStep.TheVariants as fronts
use Rattle.rws_front.specs.Fronting.{Fronting, fed as front_fed}
use Rattle.rws_front.specs.Connection.{step_of}
use Rattle.rws_link.specs.declared.step.LinkStep.{LinkStep}
use Rattle.rws_link.specs.declared.step.LinkStep.TheVariants as steps
use Rattle.rws_link.specs.Stepping.{LinkState, LogsIn, Rests, Awaits, IsLost, Exchange, fed, opened as opening, readied, sent, step}
use Rattle.rws_handles.specs.LinkIds.{Ids}
use Rattle.rws_config.specs.declared.account.Account.{Account}
use Rattle.rws_config.specs.declared.config.Config.{Config}
use Rattle.rws_commands.specs.declared.command.Command.{Command}
use Rattle.rws_commands.specs.declared.judged.Judged.TheVariants.{Serves}
use Rattle.rws_commands.specs.declared.proxy_error.ProxyError.TheVariants.{NoPrimary, PrimaryBehind}
use Rattle.rws_commands.specs.Commands.{asked_under, bytes_of, class_of_command, id_for, keeps}
use Rattle.rws_commands.specs.Statements as steps_of
use Rattle.rws_commands.specs.Statements.{Statements, failed_if, forgotten, is_otherwise, is_prepared, no_statements, played, swept_if, taken_as, unlinked}
use Rattle.rws_record.specs.Item.{Ending, Item, Purpose, Put, Recording}
use Rattle.rws_record.specs.Item.Item.{Accepted, Began, ClientBytes, LinkReady, LinkBytes, ClientGone, LinkLost, Ticks, Routed, Comes, Connects, Takes, Puts, Starves}
use Rattle.rws_record.specs.Item.Put.{Tells, Records, Routes, Opens, Sends, Forgets, Drops, Closes}
use Rattle.rws_record.specs.Item.Tell.{Passes, Refuses}
use Rattle.rws_record.specs.Item.Purpose.{Prepares, Asks, Plays, Waits, Probes}
use Rattle.rws_record.specs.Item.Recording.{Accepts, Keeps}

-- The client's side

-- one that connected, and one whose session begins with the commands: it has no greeting, and so no scramble for one
abbrev pub new_front : Config → ℕ → List ℕ → Fronting
new_front config session scramble = record {
  session = session;
  scramble = scramble;
  phase = IsToGreet;
  stream = record { limit = config.command_bytes; held = []; stopped = None };
}

abbrev pub no_scramble : List ℕ
no_scramble = 0 ∷ 0 ∷ 0 ∷ 0 ∷ 0 ∷ 0 ∷ 0 ∷ 0 ∷ 0 ∷ 0 ∷ 0 ∷ 0 ∷ 0 ∷ 0 ∷ 0 ∷ 0 ∷ 0 ∷ 0 ∷ 0 ∷ 0 ∷ []

abbrev pub begun_front : Config → Fronting
begun_front config = record (new_front config 0 no_scramble) { phase = Commands }

-- Where the client stands: how far its login has come, and its bytes that aren't taken up yet.
abbrev pub fronted : Config → List Item → Fronting
fronted config [] = begun_front config
fronted config (Accepted session scramble reading ∷ past) = new_front config session scramble
fronted config (Began link server reading ∷ past) = begun_front config
fronted config (ClientBytes bytes ∷ past) = front_fed (fronted config past) bytes
fronted config (Connects said ∷ past) = (step_of config.accounts (fronted config past)).1
fronted config (Takes judged number ∷ past) = (step_of config.accounts (fronted config past)).1
fronted config (_ ∷ past) = fronted config past

-- its bytes that aren't taken up yet
abbrev pub held : Config → List Item → List ℕ
held config past = (fronted config past).stream.held

abbrev pub login_by : FrontStep → Option Login → Option Login
login_by (fronts.LoggedIn login) before = Some login
login_by _ before = before

-- the login of a session that begins with the commands: that of the settings' first account, without a password
abbrev pub first_login : List Account → Option Login
first_login [] = None
first_login (account ∷ others) =
    Some (record { user = account.user; stage1 = None; database = None; charset = 45; flags = 0 })

-- the login of the client, which its links repeat
abbrev pub login_of : Config → List Item → Option Login
login_of config [] = None
login_of config (Began link server reading ∷ past) = first_login config.accounts
login_of config (Connects said ∷ past) = login_by said (login_of config past)
login_of config (_ ∷ past) = login_of config past

-- The links that the session has

-- the link that an item opens, and its server
abbrev pub opened_by : Put → Option (ℕ × ℕ)
opened_by (Opens link server login) = Some (link, server)
opened_by _ = None

abbrev pub opens : Item → Option (ℕ × ℕ)
opens (Began link server reading) = Some (link, server)
opens (Puts put) = opened_by put
opens _ = None

abbrev pub without : ℕ → List ℕ → List ℕ
without link links = filter (λ other. not (other == link)) links

-- a number is given to one link only, so a link that is opened takes nobody's place
abbrev pub with_opened : Option (ℕ × ℕ) → List ℕ → List ℕ
with_opened (Some opened) links = without opened.0 links ++ opened.0 ∷ []
with_opened None links = links

-- a list of links has this one
abbrev pub contains : ℕ → List ℕ → Bool
contains link [] = false
contains link (first ∷ others) = if first == link then true else contains link others

-- the links that were opened and neither lost nor given up, in order of number
abbrev pub links : List Item → List ℕ
links [] = []
links (LinkLost link ∷ past) = without link (links past)
links (Puts (Drops link cause) ∷ past) = without link (links past)
links (item ∷ past) = with_opened (opens item) (links past)

abbrev pub server_by : ℕ → Option (ℕ × ℕ) → ℕ → ℕ
server_by link (Some opened) before = if opened.0 == link then opened.1 else before
server_by link None before = before

-- the server of a link that was ever opened
abbrev pub server_of : ℕ → List Item → ℕ
server_of link [] = 0
server_of link (item ∷ past) = server_by link (opens item) (server_of link past)

-- the first link of these to a server
abbrev pub first_to : (server : ℕ) → List ℕ → List Item → Option ℕ
first_to server [] past = None
first_to server (link ∷ others) past = if server_of link past == server then Some link else first_to server others past

-- the link that the session has to a server
abbrev pub link_to : (server : ℕ) → List Item → Option ℕ
link_to server past = first_to server (links past) past

-- What a link is

-- The command with which a link is prepared: its server names the GTID of each commit in the OK from then on ("Session
-- state changes" of OK_Packet).
abbrev pub preamble : List ℕ
preamble =
    COM_QUERY ∷ codes "SET SESSION session_track_system_variables = CONCAT(@@session_track_system_variables, ',last_gtid')"

-- The statements of the proxy's own that go before a read ("MASTER_GTID_WAIT" and "gtid_current_pos", in MariaDB's documentation)
abbrev pub wait_command : Gtid → (seconds : ℕ) → List ℕ
wait_command gtid seconds = COM_QUERY ∷ wait_statement gtid seconds

abbrev pub probe_command : List ℕ
probe_command = COM_QUERY ∷ codes "SELECT @@gtid_current_pos"

-- the payloads that go on the link for a purpose
abbrev pub sent_for : Purpose → List (List ℕ)
sent_for Prepares = preamble ∷ []
sent_for (Asks command id) = asked_under id command.body
sent_for (Plays entry) = entry.payload ∷ []
sent_for (Waits gtid seconds) = wait_command gtid seconds ∷ []
sent_for (Probes gtid) = probe_command ∷ []

-- the kind of reply that answers it
abbrev pub kind_of : Purpose → Kind
kind_of Prepares = QueryReply
kind_of (Asks command id) = command.kind
kind_of (Plays entry) = entry.kind
kind_of (Waits gtid seconds) = QueryReply
kind_of (Probes gtid) = QueryReply

-- A link that was sent payloads, the last of which is answered. Each is a command of its own.
abbrev pub sent_all : List (List ℕ) → Kind → LinkState
sent_all [] kind = Rests
sent_all (payload ∷ []) kind = sent payload (Some kind)
sent_all (payload ∷ others) kind = sent_all others kind

-- A link: what it waits for, with the bytes that came and aren't read. That of a session's beginning is ready, and any counts as
-- such before it was opened. When the session loses the link it isn't cleared: it then says what was awaited there.
abbrev pub linked : ℕ → List Item → LinkState
linked link [] = Rests
linked link (Began opened server reading ∷ past) = if opened == link then Rests else linked link past
linked link (LinkBytes from bytes ∷ past) = if from == link then fed bytes (linked link past) else linked link past
linked link (Comes from said ∷ past) = if from == link then (step (linked link past)).after else linked link past
linked link (LinkReady ready ∷ past) = if ready == link then readied (linked link past) else linked link past
linked link (Puts (Opens opened server login) ∷ past) = if opened == link then opening login else linked link past
linked link (Puts (Sends to purpose) ∷ past) =
    if to == link then sent_all (sent_for purpose) (kind_of purpose) else linked link past
linked link (_ ∷ past) = linked link past

-- what was sent on the link last, since it was opened; it isn't cleared either
abbrev pub asked_on : ℕ → List Item → Option Purpose
asked_on link [] = None
asked_on link (Puts (Opens opened server login) ∷ past) = if opened == link then None else asked_on link past
asked_on link (Puts (Sends to purpose) ∷ past) = if to == link then Some purpose else asked_on link past
asked_on link (_ ∷ past) = asked_on link past

abbrev pub prepared_by : LinkStep → Option Purpose → Bool → Bool
prepared_by (steps.Part payload role (Ends (Done status)) next behind) (Some Prepares) before = true
prepared_by _ _ before = before

-- the statement that a payload of a reply tells of, or one before it
abbrev pub prepared_in : Result PrepareOk MsgFault → Option PrepareOk
prepared_in (Ok ok) = Some ok
prepared_in (Err fault) = None

abbrev pub named_in : Role → List ℕ → Option PrepareOk → Option PrepareOk
named_in Prepared payload before = prepared_in (prepare_ok_at payload)
named_in _ payload before = before

abbrev pub named_by : LinkStep → Option PrepareOk → Option PrepareOk
named_by (steps.Part payload role progress next behind) before = named_in role payload before
named_by _ before = before

-- the statement that the reply on the link told of so far to what was sent last
abbrev pub named_on : ℕ → List Item → Option PrepareOk
named_on link [] = None
named_on link (Puts (Opens opened server login) ∷ past) = if opened == link then None else named_on link past
named_on link (Puts (Sends to purpose) ∷ past) = if to == link then None else named_on link past
named_on link (Comes from said ∷ past) = if from == link then named_by said (named_on link past) else named_on link past
named_on link (_ ∷ past) = named_on link past

abbrev pub valued_by : LinkStep → Option Purpose → OneValue → OneValue
valued_by (steps.Part payload role progress next behind) (Some (Waits gtid seconds)) before = heard before payload
valued_by (steps.Part payload role progress next behind) (Some (Probes gtid)) before = heard before payload
valued_by _ _ before = before

-- how far a result set of one value was read on the link, that answers a wait or a probe
abbrev pub value_on : ℕ → List Item → OneValue
value_on link [] = Begins
value_on link (Puts (Opens opened server login) ∷ past) = if opened == link then Begins else value_on link past
value_on link (Puts (Sends to purpose) ∷ past) = if to == link then Begins else value_on link past
value_on link (Comes from said ∷ past) = if from == link then valued_by said (asked_on link past) (value_on link past) else value_on link past
value_on link (_ ∷ past) = value_on link past

-- what a wait or a probe was answered, where that is whole now, and its value is this
abbrev pub checked_by : LinkStep → Option Purpose → OneValue → Option Causal
checked_by (steps.Part payload role (Ends outcome) next behind) (Some (Waits gtid seconds)) value = Some (after_wait (value_of value))
checked_by (steps.Part payload role (Ends outcome) next behind) (Some (Probes gtid)) value = Some (after_probe gtid (value_of value))
checked_by _ _ value = None

abbrev pub checked_on : ℕ → LinkStep → List Item → Option Causal
checked_on link said past = checked_by said (asked_on link past) (valued_by said (asked_on link past) (value_on link past))

-- commands of the client may go on the link: it was prepared, or counts as it
abbrev pub is_up : ℕ → List Item → Bool
is_up link [] = false
is_up link (Began opened server reading ∷ past) = if opened == link then true else is_up link past
is_up link (Puts (Opens opened server login) ∷ past) = if opened == link then false else is_up link past
is_up link (LinkReady ready ∷ past) = if ready == link then true else is_up link past
is_up link (Comes from said ∷ past) =
    if from == link then prepared_by said (asked_on link past) (is_up link past) else is_up link past
is_up link (_ ∷ past) = is_up link past

abbrev pub awaited : LinkState → Option Exchange
awaited (LogsIn handshake unread) = None
awaited Rests = None
awaited (Awaits e unread) = Some e
awaited (IsLost cause) = None

abbrev pub unread : LinkState → List ℕ
unread (LogsIn handshake bytes) = bytes
unread Rests = []
unread (Awaits e bytes) = bytes
unread (IsLost cause) = []

-- the reply that the link owes: its kind, the number of the packet that comes next, and the payloads so far
abbrev pub exchange : ℕ → List Item → Option Exchange
exchange link past = awaited (linked link past)

-- the link's bytes that belong to no payload yet
abbrev pub link_held : ℕ → List Item → List ℕ
link_held link past = unread (linked link past)

-- The client's command

-- the command that isn't answered yet
abbrev pub pending : List Item → Option Command
pending [] = None
pending (Takes (Serves command) number ∷ past) = Some command
pending (Puts (Tells number (Passes link command payload (Some ending) recording)) ∷ past) = None
pending (Puts (Tells number (Refuses NoPrimary)) ∷ past) = None
pending (Puts (Tells number (Refuses (PrimaryBehind wanted found))) ∷ past) = None
pending (_ ∷ past) = pending past

abbrev pub unless_link : ℕ → Option ℕ → Option ℕ
unless_link link (Some other) = if other == link then None else Some other
unless_link link None = None

-- the link on which the pending command was sent, while the session has it
abbrev pub sent_on : List Item → Option ℕ
sent_on [] = None
sent_on (Takes judged number ∷ past) = None
sent_on (Puts (Tells number (Passes link command payload (Some ending) recording)) ∷ past) = None
sent_on (Puts (Sends link (Asks command id)) ∷ past) = Some link
sent_on (LinkLost link ∷ past) = unless_link link (sent_on past)
sent_on (Puts (Drops link cause) ∷ past) = unless_link link (sent_on past)
sent_on (_ ∷ past) = sent_on past

-- the number of the packet that the client is to get next in the pending command's reply
abbrev pub reply_number : List Item → ℕ
reply_number [] = 0
reply_number (Takes judged number ∷ past) = number
reply_number (Puts (Tells number (Passes link command payload ending recording)) ∷ past) = number_behind number payload
reply_number (_ ∷ past) = reply_number past

-- the payloads that the client was passed since the last command was taken up, in its form
abbrev pub told : List Item → List (List ℕ)
told [] = []
told (Takes judged number ∷ past) = []
told (Puts (Tells number (Passes link command payload ending recording)) ∷ past) = told past ++ payload ∷ []
told (_ ∷ past) = told past

-- the link from which the last of them came, while the reply isn't whole
abbrev pub told_from : List Item → Option ℕ
told_from [] = None
told_from (Takes judged number ∷ past) = None
told_from (Puts (Tells number (Passes link command payload (Some ending) recording)) ∷ past) = None
told_from (Puts (Tells number (Passes link command payload None recording)) ∷ past) = Some link
told_from (_ ∷ past) = told_from past

-- Where it goes

-- the class of the pending command
abbrev pub class_by_pending : Option Command → Class
class_by_pending (Some command) = class_of_command command
class_by_pending None = Other

abbrev pub kept_by : Class → ℕ → Option ℕ → Option ℕ
kept_by class link (Some kept) = Some kept
kept_by class link None = if keeps class then Some link else None

-- the link that the session is kept on
abbrev pub kept_on : List Item → Option ℕ
kept_on [] = None
kept_on (Puts (Sends link (Asks command id)) ∷ past) = kept_by (class_of_command command) link (kept_on past)
kept_on (Puts (Tells number (Passes link command payload (Some ending) Keeps)) ∷ past) = Some link
kept_on (_ ∷ past) = kept_on past

-- The session's history: its commands that set something and were answered without an error

-- how many entries it ever had: the serial of the next one
abbrev pub serials : List Item → ℕ
serials [] = 0
serials (Puts (Tells number (Passes link command payload (Some ending) Accepts)) ∷ past) = serials past + 1
serials (_ ∷ past) = serials past

abbrev pub played_by : LinkStep → Option Purpose → ℕ → ℕ
played_by (steps.Part payload role (Ends (Done status)) next behind) (Some (Plays entry)) before = entry.serial + 1
played_by _ _ before = before

-- what a link has played, or led: the entries below this serial
abbrev pub cursor : ℕ → List Item → ℕ
cursor link [] = 0
cursor link (Puts (Opens opened server login) ∷ past) = if opened == link then 0 else cursor link past
cursor link (Puts (Tells number (Passes from command payload (Some ending) Accepts)) ∷ past) =
    if from == link then serials past + 1 else cursor link past
cursor link (Comes from said ∷ past) = if from == link then played_by said (asked_on link past) (cursor link past) else cursor link past
cursor link (_ ∷ past) = cursor link past

abbrev pub banned_if : (otherwise : Bool) → (server : ℕ) → ℕ → ℕ
banned_if true server before = with_server server before
banned_if false server before = before

abbrev pub banned_by : LinkStep → Option Purpose → Option PrepareOk → (server : ℕ) → ℕ → ℕ
banned_by (steps.Part payload role (Ends (Done status)) next behind) (Some (Plays entry)) named server before =
    banned_if (is_otherwise entry.statement (named_in role payload named)) server before
banned_by (steps.Part payload role (Ends (Failed code)) next behind) (Some (Plays entry)) named server before = with_server server before
banned_by _ _ named server before = before

-- the servers that answered an entry otherwise than the one that it was first sent to: by an error, or with other counts
abbrev pub banned : List Item → ℕ
banned [] = 0
banned (Comes link said ∷ past) = banned_by said (asked_on link past) (named_on link past) (server_of link past) (banned past)
banned (_ ∷ past) = banned past

-- the clock's last reading, in milliseconds
abbrev pub now : List Item → ℕ
now [] = 0
now (Accepted session scramble reading ∷ past) = reading
now (Began link server reading ∷ past) = reading
now (Ticks reading ∷ past) = reading
now (_ ∷ past) = now past

-- What its server is asked first

-- the last commit that the session itself saw
abbrev pub later_of : Gtid → Option Gtid → Gtid
later_of gtid (Some before) = later before gtid
later_of gtid None = gtid

abbrev pub own : List Item → Option Gtid
own [] = None
own (Puts (Records server gtid) ∷ past) = Some (later_of gtid (own past))
own (_ ∷ past) = own past

abbrev pub check_in : Causal → Option Check
check_in (WaitsFirst gtid) = Some (Wait gtid)
check_in (ProbesFirst gtid) = Some (Probe gtid)
check_in _ = None

-- A command that only reads is to see a commit, by the settings: the server that was found is asked first, unless it is known to have it.
abbrev pub check_by : (reads : Bool) → Option Gtid → (position : ℕ) → (on_primary : Bool) → Option Check
check_by true wanted position on_primary = check_in (before_read wanted position on_primary)
check_by false wanted position on_primary = None

-- at a server of which the words say this
abbrev pub check_at : Mode → Class → (own : Option Gtid) → (server : ℕ) → (on_primary : Bool) → PoolWords → Option Check
check_at mode class own server on_primary words =
    check_by (only_reads class) (wanted mode words own) (seen_at words server).position on_primary

abbrev pub check_for : Mode → Class → (own : Option Gtid) → Target → PoolWords → Option Check
check_for mode class own (Primary server) words = check_at mode class own server true words
check_for mode class own (Replica server) words = check_at mode class own server false words
check_for mode class own Nowhere words = None

-- by what it answers the command goes on, or back to the primary
abbrev pub heard_check : Option Causal → Routing → Routing
heard_check (Some Go) r = cleared r
heard_check (Some TryPrimary) r = turned_back r
heard_check _ r = r

-- How far the pending command has come: what its last route found, the link that it is to go on, what that link's server is asked
-- first, the servers that were tried, and whether it waits for a primary.
abbrev pub routing : Config → List Item → Routing
routing config [] = new_routing
routing config (Takes judged number ∷ past) = new_routing
routing config (Routed words loads next found ∷ past) =
    routed found (check_for config.causal_reads (class_by_pending (pending past)) (own past) found words) (link_to (server_in found) past) next (now past)
    (routing config past)
routing config (Ticks reading ∷ past) = ticked config.primary_wait_ms reading (routing config past)
routing config (Comes link said ∷ past) = heard_check (checked_on link said past) (routing config past)
routing config (LinkLost link ∷ past) = lost link (routing config past)
routing config (Puts (Drops link cause) ∷ past) = lost link (routing config past)
routing config (Puts (Tells number (Refuses NoPrimary)) ∷ past) = stopped (routing config past)
routing config (Puts (Tells number (Refuses (PrimaryBehind wanted found))) ∷ past) = stopped (routing config past)
routing config (_ ∷ past) = routing config past

-- Its transaction

-- The reply to a command of this class, on this link, speaks of the session's state: it came on the link that the session is pinned
-- to; or, where it is pinned to none, on that to the primary; or the command begins a read-only transaction, which may be at a replica.
abbrev pub speaks : (pinned : Option ℕ) → ℕ → Class → Routing → Bool
speaks pinned link class r =
    is_at link pinned || ((is_none pinned && goes_to_primary r) || begins_read_only class)

abbrev pub or_link : Option ℕ → Option ℕ → Option ℕ
or_link (Some link) other = Some link
or_link None other = other

abbrev pub length_by : Option Command → ℕ
length_by (Some command) = bytes_of command.body
length_by None = 0

-- the command is a prepare
abbrev pub prepares : Option Command → Bool
prepares (Some command) = is_prepared command.kind
prepares None = false

-- what a reply shows: that of a prepare without an error shows nothing of the transaction, as if all were as before
abbrev pub shown_by : (prepares : Bool) → Outcome → TrxState → Outcome
shown_by true (Done status) state = Done (status_of state)
shown_by _ outcome state = outcome

-- the reply to the pending command came on a link, and ended so
abbrev pub answer_to : Option Command → ℕ → Outcome → TrxState → Answer
answer_to command link outcome state = record {
  link = link;
  class = class_by_pending command;
  bytes = length_by command;
  outcome = shown_by (prepares command) outcome state;
}

abbrev pub answered_if : (speaks : Bool) → Answer → Transaction → Transaction
answered_if true answer before = answered answer before
answered_if false answer before = before

-- the transaction behind it
abbrev pub answered_by : (kept : Option ℕ) → Option Command → ℕ → Outcome → Routing → Transaction → Transaction
answered_by kept command link outcome r t =
    answered_if (speaks (or_link kept t.link) link (class_by_pending command) r) (answer_to command link outcome t.state) t

-- Whether autocommit is on, what transaction is open, and on which link, as the replies said that the client has.
abbrev pub transaction : Config → List Item → Transaction
transaction config [] = no_transaction
transaction config (Puts (Tells number (Passes link command payload (Some ending) recording)) ∷ past) =
    answered_by (kept_on past) (pending past) link ending.outcome (routing config past) (transaction config past)
transaction config (_ ∷ past) = transaction config past

abbrev pub is_end : Course → Bool
is_end GoesOn = false
is_end Begins = true
is_end IsNone = true

-- the transaction that was open ends with the reply
abbrev pub ends_by : (kept : Option ℕ) → Option Command → ℕ → Outcome → Routing → Transaction → Bool
ends_by kept command link outcome r t =
    (speaks (or_link kept t.link) link (class_by_pending command) r && is_open t.state)
    && is_end (course_of (answer_to command link outcome t.state) t)

abbrev pub ends_transaction : Config → ℕ → Outcome → List Item → Bool
ends_transaction config link outcome past =
    ends_by (kept_on past) (pending past) link outcome (routing config past) (transaction config past)

-- the link that all commands go on: the session is kept there, or its transaction is open there
abbrev pub pinned : Config → List Item → Option ℕ
pinned config past = or_link (kept_on past) (transaction config past).link

-- the bytes of the transaction's commands, with those of the pending one
abbrev pub transaction_bytes : Config → List Item → ℕ
transaction_bytes config past = added (transaction config past).bytes (length_by (pending past))

-- the link that the pending command is to go on
abbrev pub goes_on : Config → List Item → Option ℕ
goes_on config past = or_link (pinned config past) (routing config past).assigned

-- Its prepared statements

abbrev pub command_in : FrontStep → List ℕ
command_in (fronts.Command payload) = payload.bytes
command_in _ = []

-- the serial of a command that is added to the history
abbrev pub serial_for : Recording → ℕ → Option ℕ
serial_for Accepts serial = Some serial
serial_for _ serial = None

abbrev pub answered_in : ℕ → Option Command → Ending → Option ℕ → Statements → Statements
answered_in link (Some command) ending serial s = steps_of.answered link command ending.outcome ending.named serial s
answered_in link None ending serial s = s

-- What came of a link: the end of the reply to the client's command may end the transaction, and that of the reply to an entry says by
-- which id the link's server knows a statement.
abbrev pub heard_on : ℕ → LinkStep → Option Purpose → (ends : Outcome → Bool) → Option PrepareOk → Statements → Statements
heard_on link (steps.Part payload role (Ends outcome) next behind) (Some (Asks command id)) ends named s = swept_if (ends outcome) s
heard_on link (steps.Part payload role (Ends (Done status)) next behind) (Some (Plays entry)) ends named s =
    played link entry.serial entry.statement (named_in role payload named) s
heard_on link _ _ ends named s = s

-- The statements that the client has prepared, the ids that servers gave them, and the history. A reply that ends a transaction ends it
-- before it means anything else.
abbrev pub statements : Config → List Item → Statements
statements config [] = no_statements
statements config (Takes judged number ∷ past) =
    taken_as judged (is_open (transaction config past).state) (command_in (step_of config.accounts (fronted config past)).0)
    (statements config past)
statements config (Comes link said ∷ past) =
    heard_on link said (asked_on link past) (λ outcome. ends_transaction config link outcome past) (named_on link past) (statements config past)
statements config (Puts (Tells number (Passes link command payload (Some ending) recording)) ∷ past) =
    answered_in link (pending past) ending (serial_for recording (serials past)) (statements config past)
statements config (Puts (Tells number (Refuses NoPrimary)) ∷ past) = failed_if (prepares (pending past)) (statements config past)
statements config (Puts (Tells number (Refuses (PrimaryBehind wanted found))) ∷ past) = failed_if (prepares (pending past)) (statements config past)
statements config (Puts (Forgets link id) ∷ past) = forgotten link (statements config past)
statements config (LinkLost link ∷ past) = unlinked link (statements config past)
statements config (Puts (Drops link cause) ∷ past) = unlinked link (statements config past)
statements config (_ ∷ past) = statements config past

-- What goes on a link for the pending command: first what checks that its server has what the command is to see, where that isn't known,
-- and then the command.
abbrev pub asking_by_check : (seconds : ℕ) → Option Check → Command → (id : Option ℕ) → Purpose
asking_by_check seconds (Some (Wait gtid)) command id = Waits gtid seconds
asking_by_check seconds (Some (Probe gtid)) command id = Probes gtid
asking_by_check seconds None command id = Asks command id

abbrev pub asking_for : (seconds : ℕ) → Option Check → Option Command → ℕ → List Ids → Option Purpose
asking_for seconds check (Some command) link ids = Some (asking_by_check seconds check command (id_for link command.body ids))
asking_for seconds check None link ids = None

-- What the session waits for

abbrev pub asking_by : Put → Bool → Bool
asking_by Routes before = true
asking_by _ before = before

-- it asked the worker for the words of the pool, and wasn't answered
abbrev pub asking : List Item → Bool
asking [] = false
asking (Routed words loads next found ∷ past) = false
asking (Starves made number ∷ past) = false
asking (Puts put ∷ past) = asking_by put (asking past)
asking (_ ∷ past) = asking past

-- the session is closed, or its client is gone
abbrev pub is_over : List Item → Bool
is_over [] = false
is_over (ClientGone ∷ past) = true
is_over (Puts (Closes reason) ∷ past) = true
is_over (_ ∷ past) = is_over past

-- memory was wanting to the session
abbrev pub is_starved : List Item → Bool
is_starved [] = false
is_starved (Starves made number ∷ past) = true
is_starved (_ ∷ past) = is_starved past
