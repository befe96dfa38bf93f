-- All values of a record but where the client stands, as one: how an item changes it, and what is next by it.
use Rattle.std.specs.Prelude.{ℕ, ◌+◌, Bool, true, false, ◌&&◌, ◌==◌, is_some, List, [], ◌∷◌, ◌++◌, map, drop, Option, Some, None, if◌then◌else◌}
use Rattle.std.specs.Option.{option_map}
use Rattle.rws_wire.specs.declared.drop_cause.DropCause.TheVariants.{End}
use Rattle.rws_wire.specs.Packets.{number_behind}
use Rattle.rws_msgs.specs.declared.prepare_ok.PrepareOk.{PrepareOk}
use Rattle.rws_gtid.specs.declared.Gtid.{Gtid}
use Rattle.rws_native.specs.declared.login.Login.{Login}
use Rattle.rws_causal.specs.declared.causal.Causal.{Causal}
use Rattle.rws_result.specs.declared.one_value.OneValue.{OneValue}
use Rattle.rws_result.specs.declared.one_value.OneValue.TheVariants.{Begins}
use Rattle.rws_reply.specs.declared.kind.Outcome.{Outcome}
use Rattle.rws_reply.specs.declared.kind.Progress.{Progress}
use Rattle.rws_front.specs.declared.step.FrontStep.{FrontStep}
use Rattle.rws_link.specs.declared.step.LinkStep.{LinkStep}
use Rattle.rws_link.specs.declared.step.LinkStep.TheVariants as steps
use Rattle.rws_link.specs.Stepping.{LinkState, Rests, fed, opened as opening_state, readied, step}
use Rattle.rws_trx.specs.declared.transaction.Transaction.{Transaction}
use Rattle.rws_trx.specs.Transactions.{is_open}
use Rattle.rws_trx.specs.OnLinks.{added, status_of}
use Rattle.rws_pool.specs.declared.words.PoolWords.{PoolWords}
use Rattle.rws_select.specs.declared.selector.Load.{Load}
use Rattle.rws_route.specs.declared.destination.Target.{Target}
use Rattle.rws_route.specs.Targets.{target_of}
use Rattle.rws_routing.specs.declared.routing.Routing.{Routing}
use Rattle.rws_routing.specs.Routings.{finds_late, lost, new_routing, routed, server_in, stopped, ticked}
use Rattle.rws_config.specs.declared.config.Config.{Config}
use Rattle.rws_commands.specs.declared.command.Command.{Command}
use Rattle.rws_commands.specs.declared.ending.Ending.{Ending}
use Rattle.rws_commands.specs.declared.judged.Judged.{Judged}
use Rattle.rws_commands.specs.declared.judged.Judged.TheVariants.{Serves}
use Rattle.rws_commands.specs.declared.judged.Situation.{Situation}
use Rattle.rws_commands.specs.declared.proxy_error.ProxyError.{ProxyError}
use Rattle.rws_commands.specs.declared.proxy_error.ProxyError.TheVariants.{NoPrimary, PrimaryBehind}
use Rattle.rws_commands.specs.Commands.{class_of_command, is_session, keeps}
use Rattle.rws_commands.specs.Statements.{Statements, failed_if, forgotten, is_full, next_handle, stale_on, swept_if, taken_as, unlinked, unplayed}
use Rattle.rws_record.specs.Item.{Item, Purpose, Put, Recording, Tell}
use Rattle.rws_record.specs.Item.Item.{Accepted, TurnsAway, Began, ClientBytes, LinkReady, LinkBytes, ClientGone, LinkLost, Ticks, Routed, Comes, Connects, Takes, Floods, Puts, Starves}
use Rattle.rws_record.specs.Item.Put.{Hands, Tells, Records, Routes, Opens, LogsInto, Sends, Forgets, Drops, Closes}
use Rattle.rws_record.specs.Item.Tell.{Passes, Owns, Refuses}
use Rattle.rws_record.specs.Item.Purpose.{Prepares, Asks, Plays, Waits, Probes}
use Rattle.rws_record.specs.Item.Recording.{Accepts, Keeps}
use Rattle.rws_record.specs.Values as values
use Rattle.rws_record.specs.Values.{answered_by, answered_in, asking_for, banned_by, check_for, checked_by, class_by_pending, command_in, contains, ends_by, first_login, heard_check, heard_on, kept_by, kind_of, later_of, length_by, login_by, named_by, named_in, or_link, played_by, prepared_by, prepares, sent_all, sent_for, serial_for, server_by, unless_link, valued_by, with_opened, without}
use Rattle.rws_record.specs.Rules as rules
use Rattle.rws_record.specs.Rules.{after_answer, after_check, after_command, after_connecting, after_flood, after_keeping, after_loss_by, after_played, after_preparing, after_route, after_turning_away, after_want, again_by, ask_by, coming, commit_by, drop_cause, flood_by, flood_limit, form_of, goes_if, is_link, is_loss, is_read_only, is_ready, is_replayable, is_same, loss_by, next_by, not_replayable, play_by, prepare_by, recording_by, recording_commit, route_by, take_by, unless_asking, ◌or◌}

pub record State : Type 0 where
  pub links : List ℕ
  pub server_of : ℕ → ℕ
  pub linked : ℕ → LinkState
  pub asked_on : ℕ → Option Purpose
  pub named_on : ℕ → Option PrepareOk
  pub value_on : ℕ → OneValue
  pub is_up : ℕ → Bool
  pub cursor : ℕ → ℕ
  pub login : Option Login
  pub pending : Option Command
  pub sent_on : Option ℕ
  pub told_from : Option ℕ
  pub reply_number : ℕ
  pub routing : Routing
  pub kept_on : Option ℕ
  pub serials : ℕ
  pub banned : ℕ
  pub clock : ℕ
  pub own : Option Gtid
  pub transaction : Transaction
  pub statements : Statements
  pub asking : Bool
  pub is_over : Bool
  pub owed : List Put

abbrev pub state_of : Config → List Item → State
state_of config past = record {
  links = values.links past;
  server_of = λ link. values.server_of link past;
  linked = λ link. values.linked link past;
  asked_on = λ link. values.asked_on link past;
  named_on = λ link. values.named_on link past;
  value_on = λ link. values.value_on link past;
  is_up = λ link. values.is_up link past;
  cursor = λ link. values.cursor link past;
  login = values.login_of config past;
  pending = values.pending past;
  sent_on = values.sent_on past;
  told_from = values.told_from past;
  reply_number = values.reply_number past;
  routing = values.routing config past;
  kept_on = values.kept_on past;
  serials = values.serials past;
  banned = values.banned past;
  clock = values.now past;
  own = values.own past;
  transaction = values.transaction config past;
  statements = values.statements config past;
  asking = values.asking past;
  is_over = values.is_over past;
  owed = rules.owed config past;
}

-- What is next

abbrev pub goes_in : State → Option ℕ
goes_in s = or_link (or_link s.kept_on s.transaction.link) s.routing.assigned

abbrev pub free_in : (prepared : Bool) → ℕ → State → Bool
free_in prepared link s = contains link s.links && (is_same prepared (s.is_up link) && is_ready (s.linked link))

abbrev pub due_in : Config → ℕ → State → Option Item
due_in config link s =
    prepare_by (free_in false link s) link
    or (play_by (free_in true link s) link (stale_on link s.statements) (unplayed (s.cursor link) s.statements)
    or ask_by (free_in true link s) link (stale_on link s.statements) (is_link link (goes_in s)) (asking_for config.causal_timeout_s s.routing.check s.pending link s.statements.table.links) s.sent_on)

abbrev pub sends_in : Config → List ℕ → State → Option Item
sends_in config [] s = None
sends_in config (link ∷ others) s = due_in config link s or sends_in config others s

abbrev pub flood_in : Config → (held : ℕ) → State → Option Item
flood_in config held s = option_map (λ bytes. Floods bytes) (flood_by s.pending (flood_limit config) held)

abbrev pub arrival_in : List ℕ → (ℕ → LinkState) → Option Item
arrival_in [] linked = None
arrival_in (link ∷ others) linked = coming link (step (linked link)).answer or arrival_in others linked

abbrev pub situation_in : Config → State → Situation
situation_in config s = record {
  in_transaction = is_open s.transaction.state;
  read_only = is_read_only s.transaction.state.opened;
  history_limit = config.history_limit;
  room = config.command_bytes;
}

abbrev pub take_in : Config → FrontStep → State → Option Item
take_in config said s = take_by (situation_in config s) s.statements s.pending said

abbrev pub route_in : State → Option Item
route_in s = route_by s.pending (goes_in s) s.routing.waits

-- `said` is what comes of the client's bytes, of which so many are held
abbrev pub next_in : Config → (held : ℕ) → FrontStep → State → Option Item
next_in config held said s =
    unless_asking s.asking (next_by s.owed s.is_over
    (route_in s or (sends_in config s.links s or (flood_in config held s or (arrival_in s.links s.linked or take_in config said s)))))

abbrev pub target_in : Config → PoolWords → List Load → State → Target
target_in config words loads s =
    target_of (class_by_pending s.pending) s.transaction.state.autocommit s.routing.sent_back words loads s.routing.tried s.banned

-- What follows

abbrev pub first_in : (server : ℕ) → List ℕ → (ℕ → ℕ) → Option ℕ
first_in server [] server_of = None
first_in server (link ∷ others) server_of = if server_of link == server then Some link else first_in server others server_of

abbrev pub lost_in : Config → ℕ → State → List Put
lost_in config link s =
    after_loss_by
    (loss_by (is_link link s.told_from) (is_link link s.sent_on) (again_by s.pending s.transaction.state) (is_link link s.kept_on)
    (is_link link s.transaction.link) is_replayable (is_link link (goes_if s.pending (goes_in s))))
    (not_replayable (added s.transaction.bytes (length_by s.pending)) s.transaction.state)

abbrev pub farewells_in : State → List Put
farewells_in s = map (λ link. Drops link End) s.links

abbrev pub ends_in : ℕ → Outcome → State → Bool
ends_in link outcome s = ends_by s.kept_on s.pending link outcome s.routing s.transaction

abbrev pub recording_in : Config → ℕ → State → Outcome → Recording
recording_in config link s outcome =
    recording_by (is_session (class_by_pending s.pending)) (is_some s.kept_on)
    (is_full config.history_limit (swept_if (ends_in link outcome s) s.statements)) outcome

abbrev pub checked_in : ℕ → LinkStep → State → Option Causal
checked_in link word s = checked_by word (s.asked_on link) (valued_by word (s.asked_on link) (s.value_on link))

abbrev pub part_in : ℕ → Option Purpose → (form : List ℕ) → (named : Option PrepareOk) → (checked : Option Causal) → Progress → (behind : Bool) → (number : ℕ) → (Outcome → Recording) → List Put
part_in link (Some (Asks command id)) form named checked progress behind number recording =
    after_answer link command form named progress behind number recording
part_in link (Some (Plays entry)) form named checked progress behind number recording = after_played link entry named progress behind
part_in link (Some Prepares) form named checked progress behind number recording = after_preparing link progress behind
part_in link (Some (Waits gtid seconds)) form named checked progress behind number recording = after_check link checked behind number
part_in link (Some (Probes gtid)) form named checked progress behind number recording = after_check link checked behind number
part_in link None form named checked progress behind number recording = []

abbrev pub came_in : Config → ℕ → LinkStep → State → List Put
came_in config link (steps.Part payload role progress next behind) s =
    recording_commit (s.server_of link) (commit_by config.gtid_domain role payload (s.asked_on link))
    ++ part_in link (s.asked_on link) (form_of (next_handle s.statements) role payload) (named_in role payload (s.named_on link))
    (checked_in link (steps.Part payload role progress next behind) s) progress behind s.reply_number (λ outcome. recording_in config link s outcome)
came_in config link (steps.Lost cause) s = Drops link (drop_cause cause) ∷ []
came_in config link (steps.Send packets) s = LogsInto link packets ∷ []
came_in config link steps.LoggedIn s = []
came_in config link steps.Idle s = []

abbrev pub taken_by : Judged → Option Command → Option Command
taken_by (Serves command) before = Some command
taken_by _ before = before

-- What is given out

-- a payload of the reply to the client's command, and not its last one
abbrev pub passed_part : (number link : ℕ) → (payload : List ℕ) → State → State
passed_part number link payload s =
    record s { reply_number = number_behind number payload; told_from = Some link; owed = drop 1 s.owed }

abbrev pub kept_if : Recording → ℕ → Option ℕ → Option ℕ
kept_if Keeps link before = Some link
kept_if _ link before = before

abbrev pub serials_if : Recording → ℕ → ℕ
serials_if Accepts before = before + 1
serials_if _ before = before

abbrev pub cursor_if : Recording → (from : ℕ) → (serials : ℕ) → (ℕ → ℕ) → ℕ → ℕ
cursor_if Accepts from serials cursor link = if from == link then serials + 1 else cursor link
cursor_if _ from serials cursor link = cursor link

abbrev pub keeping_if : Recording → ℕ → Option ℕ → List ℕ → List Put
keeping_if Keeps link kept links = after_keeping true link kept links
keeping_if _ link kept links = []

-- and its last one
abbrev pub passed_last : (number link : ℕ) → (payload : List ℕ) → Ending → Recording → State → State
passed_last number link payload ending recording s = record s {
  pending = None;
  sent_on = None;
  told_from = None;
  reply_number = number_behind number payload;
  kept_on = kept_if recording link s.kept_on;
  serials = serials_if recording s.serials;
  cursor = cursor_if recording link s.serials s.cursor;
  transaction = answered_by s.kept_on s.pending link ending.outcome s.routing s.transaction;
  statements = answered_in link s.pending ending (serial_for recording s.serials) s.statements;
  owed = keeping_if recording link s.kept_on s.links ++ drop 1 s.owed;
}

-- an error of the proxy's own, by which a command is answered or isn't
abbrev pub stopped_in : State → State
stopped_in s = record s {
  pending = None;
  routing = stopped s.routing;
  statements = failed_if (prepares s.pending) s.statements;
  owed = drop 1 s.owed;
}

abbrev pub refused_in : ProxyError → State → State
refused_in NoPrimary s = stopped_in s
refused_in (PrimaryBehind wanted found) s = stopped_in s
refused_in _ s = record s { owed = drop 1 s.owed }

abbrev pub told_in : (number : ℕ) → Tell → State → State
told_in number (Passes link command payload (Some ending) recording) s = passed_last number link payload ending recording s
told_in number (Passes link command payload None recording) s = passed_part number link payload s
told_in number (Owns status) s = record s { owed = drop 1 s.owed }
told_in number (Refuses error) s = refused_in error s

abbrev pub sent_for_in : (to : ℕ) → Purpose → State → State
sent_for_in to purpose s = record s {
  linked = λ link. if to == link then sent_all (sent_for purpose) (kind_of purpose) else s.linked link;
  asked_on = λ link. if to == link then Some purpose else s.asked_on link;
  named_on = λ link. if to == link then None else s.named_on link;
  value_on = λ link. if to == link then Begins else s.value_on link;
  owed = drop 1 s.owed;
}

abbrev pub sent_in : (to : ℕ) → Purpose → State → State
sent_in to (Asks command id) s = record (sent_for_in to (Asks command id) s) {
  sent_on = Some to;
  kept_on = kept_by (class_of_command command) to s.kept_on;
  owed = after_keeping (keeps (class_of_command command)) to s.kept_on s.links ++ drop 1 s.owed;
}
sent_in to purpose s = sent_for_in to purpose s

abbrev pub put_in : Config → Put → State → State
put_in config (Hands packets) s = record s { owed = drop 1 s.owed }
put_in config (Tells number tell) s = told_in number tell s
put_in config (Records server gtid) s = record s { own = Some (later_of gtid s.own); owed = drop 1 s.owed }
put_in config Routes s = record s { asking = true; owed = drop 1 s.owed }
put_in config (Opens opened server login) s = record s {
  links = with_opened (Some (opened, server)) s.links;
  server_of = λ link. server_by link (Some (opened, server)) (s.server_of link);
  linked = λ link. if opened == link then opening_state login else s.linked link;
  asked_on = λ link. if opened == link then None else s.asked_on link;
  named_on = λ link. if opened == link then None else s.named_on link;
  value_on = λ link. if opened == link then Begins else s.value_on link;
  is_up = λ link. if opened == link then false else s.is_up link;
  cursor = λ link. if opened == link then 0 else s.cursor link;
  owed = drop 1 s.owed;
}
put_in config (LogsInto link packets) s = record s { owed = drop 1 s.owed }
put_in config (Sends to purpose) s = sent_in to purpose s
put_in config (Forgets link id) s = record s { statements = forgotten link s.statements; owed = drop 1 s.owed }
put_in config (Drops link cause) s = record s {
  links = without link s.links;
  sent_on = unless_link link s.sent_on;
  routing = lost link s.routing;
  statements = unlinked link s.statements;
  owed = (if is_loss cause then lost_in config link s else []) ++ drop 1 s.owed;
}
put_in config (Closes reason) s = record s { is_over = true; owed = farewells_in s }

-- What an item changes, where the client's bytes said this below it

abbrev pub after : Config → FrontStep → Item → State → State
after config said (Accepted session scramble reading) s = record s { clock = reading; owed = [] }
after config said (TurnsAway told) s = record s { owed = after_turning_away told }
after config said (Began opened server reading) s = record s {
  links = with_opened (Some (opened, server)) s.links;
  server_of = λ link. server_by link (Some (opened, server)) (s.server_of link);
  linked = λ link. if opened == link then Rests else s.linked link;
  is_up = λ link. if opened == link then true else s.is_up link;
  login = first_login config.accounts;
  clock = reading;
  owed = [];
}
after config said (ClientBytes bytes) s = record s { owed = [] }
after config said (LinkReady ready) s = record s {
  linked = λ link. if ready == link then readied (s.linked link) else s.linked link;
  is_up = λ link. if ready == link then true else s.is_up link;
  owed = [];
}
after config said (LinkBytes from bytes) s =
    record s { linked = λ link. if from == link then fed bytes (s.linked link) else s.linked link; owed = [] }
after config said ClientGone s = record s { is_over = true; owed = farewells_in s }
after config said (LinkLost gone) s = record s {
  links = without gone s.links;
  sent_on = unless_link gone s.sent_on;
  routing = lost gone s.routing;
  statements = unlinked gone s.statements;
  owed = lost_in config gone s;
}
after config said (Ticks reading) s =
    record s { clock = reading; routing = ticked config.primary_wait_ms reading s.routing; owed = [] }
after config said (Routed words loads next found) s = record s {
  routing = routed found (check_for config.causal_reads (class_by_pending s.pending) s.own found words)
      (first_in (server_in found) s.links s.server_of) next s.clock s.routing;
  asking = false;
  owed = after_route found (first_in (server_in found) s.links s.server_of) next s.login
      (finds_late config.primary_wait_ms s.clock s.routing) s.reply_number;
}
after config said (Comes from word) s = record s {
  linked = λ link. if from == link then (step (s.linked link)).after else s.linked link;
  named_on = λ link. if from == link then named_by word (s.named_on link) else s.named_on link;
  value_on = λ link. if from == link then valued_by word (s.asked_on link) (s.value_on link) else s.value_on link;
  is_up = λ link. if from == link then prepared_by word (s.asked_on link) (s.is_up link) else s.is_up link;
  cursor = λ link. if from == link then played_by word (s.asked_on link) (s.cursor link) else s.cursor link;
  banned = banned_by word (s.asked_on from) (s.named_on from) (s.server_of from) s.banned;
  routing = heard_check (checked_in from word s) s.routing;
  statements = heard_on from word (s.asked_on from) (λ outcome. ends_in from outcome s) (s.named_on from) s.statements;
  owed = came_in config from word s;
}
after config said (Connects word) s = record s { login = login_by word s.login; owed = after_connecting word }
after config said (Takes judged number) s = record s {
  pending = taken_by judged s.pending;
  sent_on = None;
  told_from = None;
  reply_number = number;
  routing = new_routing;
  statements = taken_as judged (is_open s.transaction.state) (command_in said) s.statements;
  owed = after_command judged number (status_of s.transaction.state);
}
after config said (Floods held) s = record s { owed = after_flood held }
after config said (Puts put) s = put_in config put s
after config said (Starves made number) s = record s { asking = false; owed = after_want s.is_over made number (farewells_in s) }
