-- The commits that the words of the pool take in a run: each was made by one of the seven servers that they know, in their domain.
use Rattle.std.proofs.Common.{◌≡◌, ℕ, ◌+◌, ◌<◌, ◌≤◌, Bool, true, false, List, [], ◌∷◌, ◌++◌, drop, length, map, refl, ap, subst, suc, ◌∙◌, arith, Option, Some, None, Result, Ok, Err}
use Rattle.std.specs.Prelude.{◌==◌, ◌&&◌, nat_lt, option_and_then, if◌then◌else◌}
use Rattle.std.specs.List.{AllByRecursion}
use Rattle.std.specs.Option.{option_or}
use Rattle.std.specs.Result.{result_ok}
use Rattle.std.proofs.lemmas.Bool.{eqb-true, ltb-true}
use Rattle.std.proofs.lemmas.List.{length-set}
use Rattle.std.proofs.lemmas.List.FromFn.{length-map-range_with_len}
use Rattle.std.proofs.lemmas.List.Quantifiers.{position-Some}
use Rattle.rws_wire.specs.declared.close_reason.CloseReason.{CloseReason}
use Rattle.rws_wire.specs.declared.drop_cause.DropCause.TheVariants.{End, Kept}
use Rattle.rws_msgs.specs.declared.fault.MsgFault.{MsgFault}
use Rattle.rws_msgs.specs.declared.ok_msg.OkMsg.{OkMsg}
use Rattle.rws_msgs.specs.declared.prepare_ok.PrepareOk.{PrepareOk}
use Rattle.rws_msgs.specs.OkLayout.{ok_at}
use Rattle.rws_gtid.specs.declared.Gtid.{Gtid}
use Rattle.rws_gtid.specs.Parsing.{gtid_at}
use Rattle.rws_native.specs.declared.login.Login.{Login}
use Rattle.rws_track.specs.State.{Variable, gtid_in, last_gtid}
use Rattle.rws_reply.specs.declared.kind.Outcome.{Outcome}
use Rattle.rws_reply.specs.declared.kind.Outcome.TheVariants.{Done, Failed}
use Rattle.rws_reply.specs.declared.kind.Progress.{Progress}
use Rattle.rws_reply.specs.declared.kind.Progress.TheVariants.{More, Whole as Ends}
use Rattle.rws_reply.specs.declared.role.Role.{Role}
use Rattle.rws_reply.specs.declared.role.Role.TheVariants as roles
use Rattle.rws_causal.specs.declared.causal.Causal.{Causal}
use Rattle.rws_causal.specs.declared.causal.Causal.TheVariants as causals
use Rattle.rws_causal.specs.Commits.{commit_in, commit_of, shown_at}
use Rattle.rws_front.specs.declared.step.FrontStep.{FrontStep}
use Rattle.rws_front.specs.declared.step.FrontStep.TheVariants as fronts
use Rattle.rws_link.specs.declared.step.LinkStep.{LinkStep}
use Rattle.rws_link.specs.declared.step.LinkStep.TheVariants as steps
use Rattle.rws_pool.specs.declared.events.PoolEvent.{PoolEvent}
use Rattle.rws_pool.specs.declared.events.PoolEvent.TheVariants.{Route, Record, Observe}
use Rattle.rws_pool.specs.declared.words.PoolWords.{PoolWords}
use Rattle.rws_pool.specs.declared.words.Seen.{Seen}
use Rattle.rws_link.specs.Stepping.{LinkState, is_new}
use Rattle.rws_pool.specs.Machine.{CanStep, down, each_observed, new_words, pool_from, pool_step, raised, seen_at}
use Rattle.rws_select.specs.declared.selector.Load.{Load}
use Rattle.rws_select.specs.Choice.{choice_of, is_least}
use Rattle.rws_route.specs.declared.destination.Target.{Target}
use Rattle.rws_route.specs.declared.destination.Target.TheVariants.{Primary, Replica, NoPrimary as Nowhere}
use Rattle.rws_route.specs.Targets.{candidate_at, candidates_of, is_in, is_master, may_leave_primary, primary_of, primary_target, read_target, unless_tried}
use Rattle.rws_routing.specs.Routings.{finds_late, server_in}
use Rattle.rws_trx.specs.OnLinks.{status_of}
use Rattle.rws_board.specs.declared.event.Event.{Event}
use Rattle.rws_board.specs.declared.event.Event.TheVariants as events
use Rattle.rws_config.specs.declared.config.Config.{Config}
use Rattle.rws_commands.specs.declared.command.Command.{Command}
use Rattle.rws_commands.specs.declared.history.HistoryEntry.{HistoryEntry}
use Rattle.rws_commands.specs.declared.judged.Judged.{Judged}
use Rattle.rws_commands.specs.declared.judged.Judged.TheVariants.{Leaves, IsOwn, IsRefused, IsSilent, HasTooMuch, Serves}
use Rattle.rws_commands.specs.Commands.{class_of_command, keeps}
use Rattle.rws_commands.specs.Statements.{is_otherwise, next_handle}
use Rattle.rws_record.specs.Item.{Item, Purpose, Put, Recording, Tell}
use Rattle.rws_record.specs.Item.Item.{Accepted, TurnsAway, Began, ClientBytes, LinkReady, LinkBytes, ClientGone, LinkLost, Ticks, Routed, Comes, Connects, Takes, Floods, Puts, Starves}
use Rattle.rws_record.specs.Item.Purpose.{Prepares, Asks, Plays, Waits, Probes}
use Rattle.rws_record.specs.Item.Recording.{Nothing, Accepts, Keeps}
use Rattle.rws_record.specs.Item.Tell.{Passes, Owns, Refuses}
use Rattle.rws_record.specs.Item.Put.{Hands, Tells, Records, Routes, Opens, LogsInto, Sends, Forgets, Drops, Closes}
use Rattle.rws_record.specs.Values.{asked_on, banned, checked_on, class_by_pending, kept_on, link_to, links, login_of, named_in, named_on, now, opened_by, opens, pending, reply_number, routing, server_by, server_of, statements, transaction, without, is_over}
use Rattle.rws_record.specs.Rules.{Loss, CutsReply, HidesOutcome, TakesState, EndsTransaction, StartsReplay, SendsElsewhere, IsForgotten, after_answer, after_check, after_command, after_coming, after_connecting, after_keeping, after_loss, after_loss_by, after_part, after_played, after_preparing, after_route, after_turning_away, after_want, commit_by, differing, ending, farewells, follow, form_of, found_in, is_loss, loss_of, next, opening, owed, recording_commit, recording_of, refusing, unasked}
use Rattle.rws_record.specs.Run.{Entry, IsRun, answer_for, beginning, has_room, if_so, is_live, last_clock, last_link, loads_of, greatest, open_sessions, owner, pool_events_of, record_of, told_by, told_on, untold, words_of}
use Rattle.rws_record.specs.Run.Entry.{Came, Heard, Did, Observes}
use Rattle.rws_record.specs.Run.IsRun.{starts, came, goes_on, starves}
use Rattle.rws_record.proofs.StepLemmas.{Due, Step, of_next}
use Rattle.rws_record.proofs.StepLemmas.Due.{comes, connects, takes}
use Rattle.rws_record.proofs.StepLemmas.Step.{pays, asks, prepares, forgets, plays, sends, waits_first, probes_first, floods, reads}
use Rattle.rws_record.proofs.EntryLemmas.{Next, of_next_entry}
use Rattle.rws_record.proofs.EntryLemmas.Next.{did, answered, heard, observes}
use Rattle.rws_record.proofs.RecordLemmas.{one_more}

-- The commit that an OK tells of is one of the domain

abbrev IsOf : (domain : ℕ) → Option Gtid → Type 0
IsOf domain (Some gtid) = gtid.domain ≡ domain
IsOf domain None = Unit {0}

first_of : (domain : ℕ) (one other : Option Gtid) → IsOf domain one → IsOf domain other → IsOf domain (option_or one other)
first_of domain (Some gtid) other its others = its
first_of domain None other its others = others

variable_of : (domain : ℕ) (one : Variable) → IsOf domain (gtid_in domain one)
variable_of domain (name, value) = by_name _ (result_ok (gtid_at (0, value)))
  where
    by_domain : (gtid : Gtid) (test : Bool) → (gtid.domain == domain) ≡ test → IsOf domain (if test then Some gtid else None)
    by_domain gtid true t = eqb-true gtid.domain domain t
    by_domain gtid false t = tt

    by_read : (read : Option Gtid) → IsOf domain (option_and_then (λ gtid. if gtid.domain == domain then Some gtid else None) read)
    by_read (Some gtid) = by_domain gtid (gtid.domain == domain) refl
    by_read None = tt

    by_name : (test : Bool) (read : Option Gtid)
        → IsOf domain (if test then option_and_then (λ gtid. if gtid.domain == domain then Some gtid else None) read else None)
    by_name true read = by_read read
    by_name false read = tt

variables_of : (domain : ℕ) (variables : List Variable) → IsOf domain (last_gtid domain variables)
variables_of domain [] = tt
variables_of domain (one ∷ others) =
    first_of domain (last_gtid domain others) (gtid_in domain one) (variables_of domain others) (variable_of domain one)

state_of : (domain : ℕ) (shown : Result (List Variable) MsgFault) → IsOf domain (option_and_then (last_gtid domain) (result_ok shown))
state_of domain (Ok variables) = variables_of domain variables
state_of domain (Err fault) = tt

ok_of : (domain : ℕ) (ok : OkMsg) → IsOf domain (commit_of domain ok)
unfolding commit_of
ok_of domain ok = state_of domain (shown_at (length ok.state) ok.state)

payload_of : (domain : ℕ) (payload : List ℕ) → IsOf domain (commit_in domain payload)
unfolding commit_in
payload_of domain payload = by_read (ok_at true payload)
  where
    by_read : (read : Result OkMsg MsgFault) → IsOf domain (option_and_then (commit_of domain) (result_ok read))
    by_read (Ok ok) = ok_of domain ok
    by_read (Err fault) = tt

commit_is_of : (domain : ℕ) (role : Role) (payload : List ℕ) (purpose : Option Purpose) → IsOf domain (commit_by domain role payload purpose)
commit_is_of domain roles.Ok payload None = tt
commit_is_of domain roles.Ok payload (Some Prepares) = tt
commit_is_of domain roles.Ok payload (Some (Asks command id)) = payload_of domain payload
commit_is_of domain roles.Ok payload (Some (Plays entry)) = payload_of domain payload
commit_is_of domain roles.Ok payload (Some (Waits gtid seconds)) = payload_of domain payload
commit_is_of domain roles.Ok payload (Some (Probes gtid)) = payload_of domain payload
commit_is_of domain roles.Err payload purpose = tt
commit_is_of domain roles.Prepared payload purpose = tt
commit_is_of domain roles.Count payload purpose = tt
commit_is_of domain roles.Definition payload purpose = tt
commit_is_of domain roles.Eof payload purpose = tt
commit_is_of domain roles.Row payload purpose = tt

-- What is owed: each server is one of the seven

abbrev Fits : (domain : ℕ) → Put → Type 0
Fits domain (Records server gtid) = (server < 7) × (gtid.domain ≡ domain)
Fits domain (Opens link server login) = server < 7
Fits domain _ = Unit {0}

abbrev AreFit : (domain : ℕ) → List Put → Type 0
AreFit domain puts = AllByRecursion (Fits domain) puts

both_fit : (domain : ℕ) (first others : List Put) → AreFit domain first → AreFit domain others → AreFit domain (first ++ others)
both_fit domain [] others fit behind = behind
both_fit domain (put ∷ rest) others fit behind = (fit.0, both_fit domain rest others fit.1 behind)

behind_fit : (domain : ℕ) (puts : List Put) → AreFit domain puts → AreFit domain (drop 1 puts)
behind_fit domain [] fit = tt
behind_fit domain (put ∷ others) fit = fit.1

farewells_fit : (domain : ℕ) (list : List ℕ) → AreFit domain (map (λ link. Drops link End) list)
farewells_fit domain [] = tt
farewells_fit domain (link ∷ others) = (tt, farewells_fit domain others)

kept_fit : (domain : ℕ) (list : List ℕ) → AreFit domain (map (λ link. Drops link Kept) list)
kept_fit domain [] = tt
kept_fit domain (link ∷ others) = (tt, kept_fit domain others)

loss_fits : (domain : ℕ) (loss : Loss) (ends : CloseReason) → AreFit domain (after_loss_by loss ends)
loss_fits domain CutsReply ends = (tt, tt)
loss_fits domain HidesOutcome ends = (tt, tt)
loss_fits domain TakesState ends = (tt, tt)
loss_fits domain EndsTransaction ends = (tt, tt)
loss_fits domain StartsReplay ends = tt
loss_fits domain SendsElsewhere ends = tt
loss_fits domain IsForgotten ends = tt

if_fits : (domain : ℕ) (test : Bool) (puts : List Put) → AreFit domain puts → AreFit domain (if test then puts else [])
if_fits domain true puts fit = fit
if_fits domain false puts fit = tt

keeping_fits : (domain : ℕ) (keeping : Bool) (link : ℕ) (kept : Option ℕ) (list : List ℕ) → AreFit domain (after_keeping keeping link kept list)
keeping_fits domain true link None list = kept_fit domain (without link list)
keeping_fits domain true link (Some kept) list = tt
keeping_fits domain false link kept list = tt

telling_fits : (config : Config) (number : ℕ) (tell : Tell) (past : List Item) → AreFit config.gtid_domain (follow config (Tells number tell) past)
telling_fits config number (Passes link command payload (Some its) Keeps) past = keeping_fits config.gtid_domain true link (kept_on past) (links past)
telling_fits config number (Passes link command payload (Some its) Accepts) past = tt
telling_fits config number (Passes link command payload (Some its) Nothing) past = tt
telling_fits config number (Passes link command payload None recording) past = tt
telling_fits config number (Owns status) past = tt
telling_fits config number (Refuses error) past = tt

follow_fits : (config : Config) (put : Put) (past : List Item) → AreFit config.gtid_domain (follow config put past)
follow_fits config (Hands packets) past = tt
follow_fits config (Tells number tell) past = telling_fits config number tell past
follow_fits config (Records server gtid) past = tt
follow_fits config Routes past = tt
follow_fits config (Opens link server login) past = tt
follow_fits config (LogsInto link packets) past = tt
follow_fits config (Sends link Prepares) past = tt
follow_fits config (Sends link (Plays entry)) past = tt
follow_fits config (Sends link (Waits gtid seconds)) past = tt
follow_fits config (Sends link (Probes gtid)) past = tt
follow_fits config (Sends link (Asks command id)) past =
    keeping_fits config.gtid_domain (keeps (class_of_command command)) link (kept_on past) (links past)
follow_fits config (Forgets link id) past = tt
follow_fits config (Drops link cause) past =
    if_fits config.gtid_domain (is_loss cause) (after_loss config link past) (loss_fits config.gtid_domain (loss_of config link past) (ending config past))
follow_fits config (Closes reason) past = tt

unasked_fits : (domain link : ℕ) (behind : Bool) → AreFit domain (unasked link behind)
unasked_fits domain link true = (tt, tt)
unasked_fits domain link false = tt

answer_fits : (domain link : ℕ) (command : Command) (form : List ℕ) (named : Option PrepareOk) (far : Progress) (behind : Bool) (number : ℕ)
    (recording : Outcome → Recording) → AreFit domain (after_answer link command form named far behind number recording)
answer_fits domain link command form named More behind number recording = (tt, tt)
answer_fits domain link command form named (Ends outcome) behind number recording = (tt, unasked_fits domain link behind)

differing_fits : (domain link : ℕ) (otherwise behind : Bool) → AreFit domain (differing link otherwise behind)
differing_fits domain link true behind = (tt, tt)
differing_fits domain link false behind = unasked_fits domain link behind

played_fits : (domain link : ℕ) (entry : HistoryEntry) (named : Option PrepareOk) (far : Progress) (behind : Bool)
    → AreFit domain (after_played link entry named far behind)
played_fits domain link entry named More behind = tt
played_fits domain link entry named (Ends (Done status)) behind = differing_fits domain link (is_otherwise entry.statement named) behind
played_fits domain link entry named (Ends (Failed code)) behind = (tt, tt)

preparing_fits : (domain link : ℕ) (far : Progress) (behind : Bool) → AreFit domain (after_preparing link far behind)
preparing_fits domain link More behind = tt
preparing_fits domain link (Ends (Done status)) behind = unasked_fits domain link behind
preparing_fits domain link (Ends (Failed code)) behind = (tt, tt)

check_fits : (domain link : ℕ) (checked : Option Causal) (behind : Bool) (number : ℕ) → AreFit domain (after_check link checked behind number)
check_fits domain link (Some (causals.Stale wanted found)) behind number = (tt, unasked_fits domain link behind)
check_fits domain link (Some causals.Unreadable) behind number = (tt, tt)
check_fits domain link (Some causals.Go) behind number = unasked_fits domain link behind
check_fits domain link (Some causals.TryPrimary) behind number = unasked_fits domain link behind
check_fits domain link (Some (causals.Wait gtid)) behind number = unasked_fits domain link behind
check_fits domain link (Some (causals.Probe gtid)) behind number = unasked_fits domain link behind
check_fits domain link None behind number = tt

part_fits : (config : Config) (link : ℕ) (purpose : Option Purpose) (form : List ℕ) (named : Option PrepareOk) (checked : Option Causal)
    (far : Progress) (behind : Bool) (number : ℕ) (past : List Item)
    → AreFit config.gtid_domain (after_part config link purpose form named checked far behind number past)
part_fits config link (Some (Asks command id)) form named checked far behind number past =
    answer_fits config.gtid_domain link command form named far behind number (λ outcome. recording_of config link past outcome)
part_fits config link (Some (Plays entry)) form named checked far behind number past = played_fits config.gtid_domain link entry named far behind
part_fits config link (Some Prepares) form named checked far behind number past = preparing_fits config.gtid_domain link far behind
part_fits config link (Some (Waits gtid seconds)) form named checked far behind number past = check_fits config.gtid_domain link checked behind number
part_fits config link (Some (Probes gtid)) form named checked far behind number past = check_fits config.gtid_domain link checked behind number
part_fits config link None form named checked far behind number past = tt

commit_fits : (domain server : ℕ) (commit : Option Gtid) → server < 7 → IsOf domain commit → AreFit domain (recording_commit server commit)
commit_fits domain server (Some gtid) low its = ((low, its), tt)
commit_fits domain server None low its = tt

coming_fits : (config : Config) (link : ℕ) (said : LinkStep) (purpose : Option Purpose) (number : ℕ) (past : List Item) → server_of link past < 7
    → AreFit config.gtid_domain (after_coming config link said purpose number past)
coming_fits config link (steps.Part payload role progress next behind) purpose number past low =
    let domain : ℕ = config.gtid_domain in
    let commit : Option Gtid = commit_by domain role payload purpose in
    both_fit domain (recording_commit (server_of link past) commit) _
    (commit_fits domain (server_of link past) commit low (commit_is_of domain role payload purpose))
    (part_fits config link purpose (form_of (next_handle (statements config past)) role payload) (named_in role payload (named_on link past))
    (checked_on link (steps.Part payload role progress next behind) past) progress behind number past)
coming_fits config link (steps.Lost cause) purpose number past low = (tt, tt)
coming_fits config link (steps.Send packets) purpose number past low = (tt, tt)
coming_fits config link steps.LoggedIn purpose number past low = tt
coming_fits config link steps.Idle purpose number past low = tt

connecting_fits : (domain : ℕ) (said : FrontStep) → AreFit domain (after_connecting said)
connecting_fits domain (fronts.Send packets) = (tt, tt)
connecting_fits domain (fronts.LoggedIn login) = tt
connecting_fits domain (fronts.End packets reason) = (tt, (tt, tt))
connecting_fits domain (fronts.Command payload) = tt
connecting_fits domain fronts.Idle = tt

command_fits : (domain : ℕ) (judged : Judged) (number status : ℕ) → AreFit domain (after_command judged number status)
command_fits domain Leaves number status = (tt, tt)
command_fits domain IsOwn number status = (tt, tt)
command_fits domain (IsRefused error) number status = (tt, tt)
command_fits domain IsSilent number status = tt
command_fits domain (HasTooMuch bytes) number status = (tt, (tt, tt))
command_fits domain (Serves command) number status = tt

want_fits : (domain : ℕ) (over made : Bool) (number : ℕ) (puts : List Put) → AreFit domain puts → AreFit domain (after_want over made number puts)
want_fits domain true made number puts fit = fit
want_fits domain false true number puts fit = (tt, (tt, tt))
want_fits domain false false number puts fit = (tt, tt)

turning_fits : (domain : ℕ) (told : Bool) → AreFit domain (after_turning_away told)
turning_fits domain true = (tt, (tt, tt))
turning_fits domain false = (tt, tt)

-- a target's server is one of the seven
abbrev IsServed : Target → Type 0
IsServed (Primary server) = server < 7
IsServed (Replica server) = server < 7
IsServed Nowhere = Unit {0}

opening_fits : (domain : ℕ) (link : Option ℕ) (next server : ℕ) (login : Option Login) → server < 7 → AreFit domain (opening link next server login)
opening_fits domain None next server (Some login) low = (low, tt)
opening_fits domain None next server None low = tt
opening_fits domain (Some link) next server login low = tt

refusing_fits : (domain : ℕ) (late : Bool) (number : ℕ) → AreFit domain (refusing late number)
refusing_fits domain true number = (tt, tt)
refusing_fits domain false number = tt

route_fits : (domain : ℕ) (found : Target) (link : Option ℕ) (next : ℕ) (login : Option Login) (late : Bool) (number : ℕ) → IsServed found
    → AreFit domain (after_route found link next login late number)
route_fits domain Nowhere link next login late number served = refusing_fits domain late number
route_fits domain (Primary server) link next login late number served = opening_fits domain link next server login served
route_fits domain (Replica server) link next login late number served = opening_fits domain link next server login served

-- The newest item

abbrev IsItemFit : (domain : ℕ) → Item → Type 0
IsItemFit domain (Began link server reading) = server < 7
IsItemFit domain (Routed words loads next found) = IsServed found
IsItemFit domain (Puts put) = Fits domain put
IsItemFit domain _ = Unit {0}

-- each link that a record ever opened is to one of the seven servers, and so is what is owed
record IsFit (config : Config) (past : List Item) : Type 0 where
  servers : (link : ℕ) → server_of link past < 7
  owed_fit : AreFit config.gtid_domain (owed config past)

given_fit : (config : Config) (put : Put) (past : List Item) → AreFit config.gtid_domain (owed config past)
    → AreFit config.gtid_domain (follow config put past ++ drop 1 (owed config past))
given_fit config put past fit =
    both_fit config.gtid_domain (follow config put past) (drop 1 (owed config past)) (follow_fits config put past)
    (behind_fit config.gtid_domain (owed config past) fit)

owed_now : (config : Config) (item : Item) (past : List Item) → IsItemFit config.gtid_domain item → IsFit config past
    → AreFit config.gtid_domain (owed config (item ∷ past))
owed_now config (Accepted session scramble reading) past its fit = tt
owed_now config (TurnsAway told) past its fit = turning_fits config.gtid_domain told
owed_now config (Began link server reading) past its fit = tt
owed_now config (ClientBytes bytes) past its fit = tt
owed_now config (LinkReady link) past its fit = tt
owed_now config (LinkBytes link bytes) past its fit = tt
owed_now config ClientGone past its fit = farewells_fit config.gtid_domain (links past)
owed_now config (LinkLost link) past its fit = loss_fits config.gtid_domain (loss_of config link past) (ending config past)
owed_now config (Ticks reading) past its fit = tt
owed_now config (Routed words loads next found) past its fit =
    route_fits config.gtid_domain found (link_to (server_in found) past) next (login_of config past)
    (finds_late config.primary_wait_ms (now past) (routing config past)) (reply_number past) its
owed_now config (Comes link said) past its fit = coming_fits config link said (asked_on link past) (reply_number past) past (fit.servers link)
owed_now config (Connects said) past its fit = connecting_fits config.gtid_domain said
owed_now config (Takes judged number) past its fit =
    command_fits config.gtid_domain judged number (status_of (transaction config past).state)
owed_now config (Floods held) past its fit = (tt, (tt, tt))
owed_now config (Starves made number) past its fit =
    want_fits config.gtid_domain (is_over past) made number (farewells past) (farewells_fit config.gtid_domain (links past))
owed_now config (Puts (Closes reason)) past its fit = farewells_fit config.gtid_domain (links past)
owed_now config (Puts (Hands packets)) past its fit = given_fit config (Hands packets) past fit.owed_fit
owed_now config (Puts (Tells number tell)) past its fit = given_fit config (Tells number tell) past fit.owed_fit
owed_now config (Puts (Records server gtid)) past its fit = given_fit config (Records server gtid) past fit.owed_fit
owed_now config (Puts Routes) past its fit = given_fit config Routes past fit.owed_fit
owed_now config (Puts (Opens link server login)) past its fit = given_fit config (Opens link server login) past fit.owed_fit
owed_now config (Puts (LogsInto link packets)) past its fit = given_fit config (LogsInto link packets) past fit.owed_fit
owed_now config (Puts (Sends link purpose)) past its fit = given_fit config (Sends link purpose) past fit.owed_fit
owed_now config (Puts (Forgets link id)) past its fit = given_fit config (Forgets link id) past fit.owed_fit
owed_now config (Puts (Drops link cause)) past its fit = given_fit config (Drops link cause) past fit.owed_fit

abbrev IsLow : Option (ℕ × ℕ) → Type 0
IsLow (Some opened) = opened.1 < 7
IsLow None = Unit {0}

put_opens : (domain : ℕ) (put : Put) → Fits domain put → IsLow (opened_by put)
put_opens domain (Opens link server login) fits = fits
put_opens domain (Hands packets) fits = tt
put_opens domain (Tells number tell) fits = tt
put_opens domain (Records server gtid) fits = tt
put_opens domain Routes fits = tt
put_opens domain (LogsInto link packets) fits = tt
put_opens domain (Sends link purpose) fits = tt
put_opens domain (Forgets link id) fits = tt
put_opens domain (Drops link cause) fits = tt
put_opens domain (Closes reason) fits = tt

item_opens : (domain : ℕ) (item : Item) → IsItemFit domain item → IsLow (opens item)
item_opens domain (Began link server reading) its = its
item_opens domain (Puts put) its = put_opens domain put its
item_opens domain (Accepted session scramble reading) its = tt
item_opens domain (TurnsAway told) its = tt
item_opens domain (ClientBytes bytes) its = tt
item_opens domain (LinkReady link) its = tt
item_opens domain (LinkBytes link bytes) its = tt
item_opens domain ClientGone its = tt
item_opens domain (LinkLost link) its = tt
item_opens domain (Ticks reading) its = tt
item_opens domain (Routed words loads next found) its = tt
item_opens domain (Comes link said) its = tt
item_opens domain (Connects said) its = tt
item_opens domain (Takes judged number) its = tt
item_opens domain (Floods held) its = tt
item_opens domain (Starves made number) its = tt

low_by : (link : ℕ) (opened : Option (ℕ × ℕ)) (before : ℕ) → IsLow opened → before < 7 → server_by link opened before < 7
low_by link None before low less = less
low_by link (Some opened) before low less = by_test (opened.0 == link)
  where
    by_test : (test : Bool) → (if test then opened.1 else before) < 7
    by_test true = low
    by_test false = less

fit_now : {config : Config} {past : List Item} (item : Item) → IsItemFit config.gtid_domain item → IsFit config past → IsFit config (item ∷ past)
fit_now {config} {past} item its fit = record {
  servers = λ link. low_by link (opens item) (server_of link past) (item_opens config.gtid_domain item its) (fit.servers link);
  owed_fit = owed_now config item past its fit;
}

due_is_fit : {config : Config} {past : List Item} {item : Item} → Due config past item → IsItemFit config.gtid_domain item
due_is_fit (comes has a it) = tt
due_is_fit (connects p f c) = tt
due_is_fit (takes p f) = tt

step_is_fit : {config : Config} {past : List Item} {item : Item} → Step config past item → IsFit config past → IsItemFit config.gtid_domain item
step_is_fit {config} (pays {put = put} {others = others} o) fit = (subst (λ (puts : List Put). AreFit config.gtid_domain puts) o fit.owed_fit).0
step_is_fit (asks o n p g w) fit = tt
step_is_fit (prepares o n has f) fit = tt
step_is_fit (forgets o n has f t) fit = tt
step_is_fit (plays o n has f t s) fit = tt
step_is_fit (sends o n p s g f t d i c) fit = tt
step_is_fit (waits_first o n p s g f t d c) fit = tt
step_is_fit (probes_first o n p s g f t d c) fit = tt
step_is_fit (floods o n p above) fit = tt
step_is_fit (reads o n due) fit = due_is_fit due

-- The worker's answer: the words know seven servers

observed_long : (servers : List Seen) (round : List (Option Seen)) → length (each_observed servers round) ≡ length servers
observed_long servers [] = refl
observed_long [] (named ∷ more) = refl
observed_long (seen ∷ servers) (named ∷ more) = ap (λ (n : ℕ). suc n) (observed_long servers more)

step_long : (words : PoolWords) (event : PoolEvent) → length (pool_step words event).servers ≡ length words.servers
step_long words Route = refl
step_long words (Record server gtid) = length-set words.servers server (raised (seen_at words server) gtid.sequence)
step_long words (Observe round) = observed_long words.servers round.seen

words_long : (words : PoolWords) (events : List PoolEvent) → length (pool_from words events).servers ≡ length words.servers
words_long words [] = refl
words_long words (event ∷ events) = words_long (pool_step words event) events ∙ step_long words event

tried_served : (server : ℕ) (tried : Bool) → server < 7 → IsServed (if tried then Nowhere else Primary server)
tried_served server true low = tt
tried_served server false low = low

primary_served : (servers : List Seen) (tried : ℕ) → length servers ≡ 7 → IsServed (primary_target servers tried)
primary_served servers tried seven = by_place (primary_of servers) refl
  where
    by_place : (place : Option ℕ) → primary_of servers ≡ place → IsServed (unless_tried tried place)
    by_place None e = tt
    by_place (Some place) e =
        tried_served place (is_in tried place)
        (let there = position-Some (λ (seen : Seen). is_master seen.state) servers place down e in let low = there.0 in omega arith)

read_served : (candidates : List (Option Load)) (instead : Target) → length candidates ≡ 7 → IsServed instead
    → IsServed (read_target (choice_of candidates) instead)
read_served candidates instead seven served = by_place (choice_of candidates) refl
  where
    by_place : (place : Option ℕ) → choice_of candidates ≡ place → IsServed (read_target place instead)
    by_place None e = served
    by_place (Some place) e =
        let there = position-Some (is_least candidates) candidates place None e in let low = there.0 in omega arith

target_served : (leaves : Bool) (candidates : List (Option Load)) (instead : Target) → length candidates ≡ 7 → IsServed instead
    → IsServed (if leaves then read_target (choice_of candidates) instead else instead)
target_served true candidates instead seven served = read_served candidates instead seven served
target_served false candidates instead seven served = served

found_served : (config : Config) (past : List Item) (words : PoolWords) (loads : List Load) → length words.servers ≡ 7
    → IsServed (found_in config past words loads)
found_served config past words loads seven =
    let tried : ℕ = (routing config past).tried in
    target_served
    (may_leave_primary (class_by_pending (pending past)) (transaction config past).state.autocommit (routing config past).sent_back)
    (candidates_of words.servers loads tried (banned past)) (primary_target words.servers tried)
    (length-map-range_with_len (candidate_at words.servers loads tried (banned past)) 0 7) (primary_served words.servers tried seven)

-- What an event tells: a session begins with a link to a server of the settings

abbrev AreItemsFit : (domain : ℕ) → List (ℕ × Item) → Type 0
AreItemsFit domain told = AllByRecursion (λ (one : ℕ × Item). IsItemFit domain one.1) told

so_fits : (domain session : ℕ) (item : Item) (test : Bool) → (test ≡ true → IsItemFit domain item) → AreItemsFit domain (if_so test (session, item))
so_fits domain session item true its = (its refl, tt)
so_fits domain session item false its = tt

on_fits : (domain link : ℕ) (item : Item) (is_so : LinkState → Bool) (of : Option ℕ) (run : List Entry) → IsItemFit domain item
    → AreItemsFit domain (told_on link item is_so of run)
on_fits domain link item is_so None run its = tt
on_fits domain link item is_so (Some session) run its = so_fits domain session item _ (λ _. its)

beginning_fits : (domain : ℕ) (room : Bool) (item : Item) (told : Bool) → IsItemFit domain item → IsItemFit domain (beginning room item told)
beginning_fits domain true item told its = its
beginning_fits domain false item told its = tt

ticks_fit : (domain reading : ℕ) (sessions : List ℕ) → AreItemsFit domain (map (λ session. (session, Ticks reading)) sessions)
ticks_fit domain reading [] = tt
ticks_fit domain reading (session ∷ others) = (tt, ticks_fit domain reading others)

second_holds : (a b : Bool) → (a && b) ≡ true → b ≡ true
second_holds true b e = e
second_holds false b e = absurd cc

event_fits : (config : Config) (event : Event) (run : List Entry) → length config.servers ≤ 7
    → AreItemsFit config.gtid_domain (told_by config event run)
event_fits config (events.Accept session scramble) run few =
    so_fits config.gtid_domain session (beginning (has_room config run) (Accepted session scramble (last_clock run)) true) _
    (λ _. beginning_fits config.gtid_domain (has_room config run) (Accepted session scramble (last_clock run)) true tt)
event_fits config (events.Begin session server) run few =
    so_fits config.gtid_domain session (beginning (has_room config run) (Began (last_link run + 1) server (last_clock run)) false)
    (nat_lt (greatest run) session && nat_lt server (length config.servers))
    (λ test. beginning_fits config.gtid_domain (has_room config run) (Began (last_link run + 1) server (last_clock run)) false
    (let low = ltb-true server (length config.servers) (second_holds (nat_lt (greatest run) session) (nat_lt server (length config.servers)) test) in omega arith))
event_fits config (events.ClientBytes session bytes) run few =
    so_fits config.gtid_domain session (ClientBytes bytes) (is_live (record_of session run)) (λ _. tt)
event_fits config (events.ClientGone session) run few = so_fits config.gtid_domain session ClientGone (is_live (record_of session run)) (λ _. tt)
event_fits config (events.LinkReady link) run few = on_fits config.gtid_domain link (LinkReady link) (λ state. is_new state) (owner link run) run tt
event_fits config (events.LinkBytes link bytes) run few = on_fits config.gtid_domain link (LinkBytes link bytes) (λ state. true) (owner link run) run tt
event_fits config (events.LinkGone link) run few = on_fits config.gtid_domain link (LinkLost link) (λ state. true) (owner link run) run tt
event_fits config (events.Clock reading) run few = ticks_fit config.gtid_domain reading (open_sessions run)
event_fits config (events.Observed round) run few = tt
event_fits config events.End run few = tt

rest_fits : (domain : ℕ) (told : List (ℕ × Item)) → AreItemsFit domain told → AreItemsFit domain (drop 1 told)
rest_fits domain [] fit = tt
rest_fits domain (first ∷ others) fit = fit.1

untold_fits : (config : Config) (run : List Entry) → length config.servers ≤ 7 → AreItemsFit config.gtid_domain (untold config run)
untold_fits config [] few = tt
untold_fits config (Came event ∷ run) few = event_fits config event run few
untold_fits config (Heard session item ∷ run) few = rest_fits config.gtid_domain (untold config run) (untold_fits config run few)
untold_fits config (Did session item ∷ run) few = untold_fits config run few
untold_fits config (Observes round ∷ run) few = untold_fits config run few

-- Runs

abbrev AreTakable : (domain : ℕ) → List PoolEvent → Type 0
AreTakable domain events = AllByRecursion (CanStep domain) events

one_more_event : (domain : ℕ) (events : List PoolEvent) (event : PoolEvent) → AreTakable domain events → CanStep domain event
    → AreTakable domain (events ++ event ∷ [])
one_more_event domain [] event can its = (its, tt)
one_more_event domain (first ∷ others) event can its = (can.0, one_more_event domain others event can.1 its)

module _ (domain session : ℕ) (run : List Entry) (can : AreTakable domain (pool_events_of run)) where
  put_can : (put : Put) → Fits domain put → AreTakable domain (pool_events_of (Did session (Puts put) ∷ run))
  put_can (Records server gtid) fits = one_more_event domain (pool_events_of run) (Record server gtid) can fits
  put_can (Hands packets) fits = can
  put_can (Tells number tell) fits = can
  put_can Routes fits = can
  put_can (Opens link server login) fits = can
  put_can (LogsInto link packets) fits = can
  put_can (Sends link purpose) fits = can
  put_can (Forgets link id) fits = can
  put_can (Drops link cause) fits = can
  put_can (Closes reason) fits = can

  did_can : (item : Item) → IsItemFit domain item → AreTakable domain (pool_events_of (Did session item ∷ run))
  did_can (Puts put) its = put_can put its
  did_can (Accepted number scramble reading) its = can
  did_can (TurnsAway told) its = can
  did_can (Began link server reading) its = can
  did_can (ClientBytes bytes) its = can
  did_can (LinkReady link) its = can
  did_can (LinkBytes link bytes) its = can
  did_can ClientGone its = can
  did_can (LinkLost link) its = can
  did_can (Ticks reading) its = can
  did_can (Routed words loads next found) its = can
  did_can (Comes link said) its = can
  did_can (Connects said) its = can
  did_can (Takes judged number) its = can
  did_can (Floods held) its = can
  did_can (Starves made number) its = can

record IsRunFit (config : Config) (run : List Entry) : Type 0 where
  records : (session : ℕ) → IsFit config (record_of session run)
  takable : AreTakable config.gtid_domain (pool_events_of run)

-- one session has an item more
record_now : {config : Config} {run : List Entry} (session : ℕ) (item : Item) → IsItemFit config.gtid_domain item → IsRunFit config run
    → (other : ℕ) → IsFit config (if session == other then item ∷ record_of other run else record_of other run)
record_now {config} {run} session item its fit other =
    one_more (λ past. IsFit config past) session other item (record_of other run)
    (λ _. fit_now item its (fit.records other)) (λ _. fit.records other)

goes_fit : {config : Config} {run : List Entry} (session : ℕ) (item : Item) → IsItemFit config.gtid_domain item → IsRunFit config run
    → IsRunFit config (Did session item ∷ run)
goes_fit {config} {run} session item its fit = record {
  records = record_now session item its fit;
  takable = did_can config.gtid_domain session run fit.takable item its;
}

next_fit : {config : Config} {run : List Entry} {entry : Entry} → length config.servers ≤ 7 → Next config run entry → IsRunFit config run
    → IsRunFit config (entry ∷ run)
next_fit {config} {run} few (did {session = session} {item = item} h is_next) fit =
    goes_fit session item (step_is_fit (of_next config (record_of session run) item is_next) (fit.records session)) fit
next_fit {config} {run} few (answered {session = session} h a) fit =
    goes_fit session (answer_for config session run)
    (found_served config (record_of session run) (words_of config run) (loads_of run) (words_long (new_words config.gtid_domain) (pool_events_of run))) fit
next_fit {config} {run} few (heard {session = session} {item = item} {others = others} quiet unasked u) fit =
    record {
      records = record_now session item
          (subst (λ (told : List (ℕ × Item)). AreItemsFit config.gtid_domain told) u (untold_fits config run few)).0 fit;
      takable = fit.takable;
    }
next_fit {config} {run} few (observes {round = round} quiet unasked u o) fit = record {
  records = fit.records;
  takable = one_more_event config.gtid_domain (pool_events_of run) (Observe round) fit.takable tt;
}

run_fit : {config : Config} {run : List Entry} → length config.servers ≤ 7 → IsRun config run → IsRunFit config run
run_fit few starts = record {
  records = λ session. record { servers = λ link. omega arith; owed_fit = tt };
  takable = tt;
}
run_fit few (came legal quiet) = let fit = run_fit few legal in record { records = fit.records; takable = fit.takable }
run_fit {config} few (goes_on {run = run} {entry = entry} legal e) = next_fit few (of_next_entry config run entry e) (run_fit few legal)
run_fit few (starves {session = session} {number = number} {made = made} legal h once can its) =
    goes_fit session (Starves made number) tt (run_fit few legal)

-- In a legal run the words can take each step that they take in it.
pub all_takable : (config : Config) (run : List Entry) → length config.servers ≤ 7 → IsRun config run
    → AllByRecursion (CanStep config.gtid_domain) (pool_events_of run)
all_takable config run few legal = (run_fit few legal).takable
