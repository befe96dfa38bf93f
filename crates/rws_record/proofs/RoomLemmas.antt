-- What is owed sends nothing to a server; and a session's history has no more entries than the settings allow.
use Rattle.std.proofs.Common.{◌≡◌, ℕ, suc, ◌<◌, ◌≤◌, Bool, true, false, List, [], ◌∷◌, ◌++◌, filter, length, map, refl, subst, arith, Option, Some, None}
use Rattle.std.specs.Prelude.{nat_lt, not, ◌&&◌, is_some, if◌then◌else◌}
use Rattle.std.proofs.lemmas.Bool.{and_parts, ltb-true}
use Rattle.std.proofs.lemmas.List.{length-append}
use Rattle.rws_wire.specs.declared.drop_cause.DropCause.TheVariants.{End, Kept}
use Rattle.rws_native.specs.declared.login.Login.{Login}
use Rattle.rws_gtid.specs.declared.Gtid.{Gtid}
use Rattle.rws_causal.specs.declared.causal.Causal.{Causal}
use Rattle.rws_causal.specs.declared.causal.Causal.TheVariants as causals
use Rattle.rws_reply.specs.declared.kind.Outcome.{Outcome}
use Rattle.rws_reply.specs.declared.kind.Outcome.TheVariants.{Done, Failed}
use Rattle.rws_reply.specs.declared.kind.Progress.{Progress}
use Rattle.rws_reply.specs.declared.kind.Progress.TheVariants.{More, Whole as Ends}
use Rattle.rws_reply.specs.declared.role.Role.{Role}
use Rattle.rws_reply.specs.Tracking.{progress, role}
use Rattle.rws_front.specs.declared.step.FrontStep.{FrontStep}
use Rattle.rws_front.specs.declared.step.FrontStep.TheVariants as fronts
use Rattle.rws_link.specs.Handshake.{due}
use Rattle.rws_link.specs.declared.step.LinkStep.{LinkStep}
use Rattle.rws_link.specs.declared.step.LinkStep.TheVariants as steps
use Rattle.rws_config.specs.declared.config.Config.{Config}
use Rattle.rws_route.specs.declared.destination.Target.{Target}
use Rattle.rws_route.specs.declared.destination.Target.TheVariants.{Primary, Replica, NoPrimary as Nowhere}
use Rattle.rws_trx.specs.OnLinks.{status_of}
use Rattle.rws_wire.specs.declared.close_reason.CloseReason.{CloseReason}
use Rattle.rws_msgs.specs.declared.prepare_ok.PrepareOk.{PrepareOk}
use Rattle.rws_commands.specs.declared.command.Command.{Command}
use Rattle.rws_commands.specs.declared.history.HistoryEntry.{HistoryEntry}
use Rattle.rws_commands.specs.Statements.{Statements, answered_by, closing, entry_of, failed_if, is_otherwise, is_prepare, is_prepared, next_handle, played, prepared_as, prepared_by, stands, swept_if, taken, taken_as, with_entry, with_table}
use Rattle.rws_commands.specs.declared.history.PreparedAs.{PreparedAs}
use Rattle.rws_commands.specs.declared.proxy_error.ProxyError.{ProxyError}
use Rattle.rws_commands.specs.declared.proxy_error.ProxyError.TheVariants as errors
use Rattle.rws_commands.specs.declared.request.Request.{Request}
use Rattle.rws_commands.specs.declared.request.Request.TheVariants as requests
use Rattle.rws_commands.specs.Requests.{arguments_of, request_of}
use Rattle.rws_commands.specs.Commands.{payload_of}
use Rattle.rws_commands.specs.Judging.{judged as judged_as}
use Rattle.rws_handles.specs.PlainForm.{handle_in}
use Rattle.rws_handles.specs.Slots.{next_number}
use Rattle.rws_handles.specs.Table.{Table, closed, open_at, swept}
use Rattle.rws_front.specs.Connection.{step_of}
use Rattle.rws_trx.specs.Transactions.{is_open}
use Rattle.rws_commands.specs.declared.judged.Judged.{Judged}
use Rattle.rws_record.specs.Item.{Ending, Item, Purpose, Put, Recording, Tell}
use Rattle.rws_record.specs.Item.Item.{Accepted, TurnsAway, Began, ClientBytes, LinkReady, LinkBytes, ClientGone, LinkLost, Ticks, Routed, Comes, Connects, Takes, Puts, Starves}
use Rattle.rws_commands.specs.declared.judged.Judged.TheVariants.{Leaves, IsOwn, IsRefused, IsSilent, HasTooMuch, Serves}
use Rattle.rws_record.specs.Item.Purpose.{Prepares, Asks, Plays, Waits, Probes}
use Rattle.rws_record.specs.Item.Recording.{Nothing, Accepts, Keeps}
use Rattle.rws_record.specs.Item.Tell.{Passes, Owns, Refuses}
use Rattle.rws_record.specs.Item.Put.{Hands, Tells, Records, Routes, Opens, LogsInto, Sends, Forgets, Drops, Closes}
use Rattle.rws_commands.specs.Commands.{class_of_command, is_session, keeps}
use Rattle.rws_record.specs.Values.{answered_in, asked_on, checked_on, class_by_pending, command_in, ends_transaction, fronted, heard_on, is_over, kept_on, links, named_in, named_on, pending, prepares, reply_number, serials, server_of, statements, transaction, without}
use Rattle.rws_record.specs.Rules.{Loss, CutsReply, HidesOutcome, TakesState, EndsTransaction, StartsReplay, SendsElsewhere, IsForgotten, after_answer, after_check, after_command, after_coming, commit_by, after_connecting, after_keeping, after_loss, after_loss_by, after_played, after_preparing, after_route, after_turning_away, after_want, differing, farewells, follow, form_of, found_in, is_loss, loss_of, opening as opens_to, owed, recording_by, recording_commit, recording_of, refusing, situation, unasked, ending}
use Rattle.rws_record.specs.Record.{IsBeginning, IsInput, IsRecord}
use Rattle.rws_record.specs.Record.IsRecord.{begins, steps as record_steps, answers, hears, starves}
use Rattle.rws_record.proofs.StepLemmas.{Due, Step, of_next}
use Rattle.rws_record.proofs.StepLemmas.Due.{comes, connects, takes}
use Rattle.rws_record.proofs.StepLemmas.Step.{pays, asks, prepares as prepares_link, forgets, plays, sends, waits_first, probes_first, floods, reads}

-- What is owed sends nothing to a server, and adds a command to the history only as the direct answer to what came of a link

abbrev is_accepting : Tell → Bool
is_accepting (Passes link command payload (Some ending) Accepts) = true
is_accepting _ = false

-- a command is added at most where a link may lead one
abbrev may_tell : (may : ℕ → Bool) → Tell → Bool
may_tell may (Passes link command payload (Some ending) Accepts) = may link
may_tell may _ = true

abbrev is_calm : List Put → Bool
is_calm [] = true
is_calm (Tells number tell ∷ others) = not (is_accepting tell) && is_calm others
is_calm (Sends link purpose ∷ others) = false
is_calm (Forgets link id ∷ others) = false
is_calm (_ ∷ others) = is_calm others

-- the first of them, behind a commit that the words take, adds a command at most where one may be added
abbrev pub begins_fitly : (may : ℕ → Bool) → List Put → Bool
begins_fitly may [] = true
begins_fitly may (Records server gtid ∷ others) = begins_fitly may others
begins_fitly may (Tells number tell ∷ others) = may_tell may tell
begins_fitly may (Sends link purpose ∷ others) = false
begins_fitly may (Forgets link id ∷ others) = false
begins_fitly may (_ ∷ others) = true

abbrev pub behind_first : List Put → List Put
behind_first [] = []
behind_first (Records server gtid ∷ others) = behind_first others
behind_first (_ ∷ others) = others

abbrev pub Fits : (may : ℕ → Bool) → List Put → Type 0
Fits may list = (begins_fitly may list ≡ true) × (is_calm (behind_first list) ≡ true)

telling_calmly : (accepts calm : Bool) → (not accepts && calm) ≡ true → (accepts ≡ false) × (calm ≡ true)
telling_calmly true calm e = absurd cc
telling_calmly false calm e = (refl, e)

unaccepting_fits : (may : ℕ → Bool) (tell : Tell) → is_accepting tell ≡ false → may_tell may tell ≡ true
unaccepting_fits may (Passes link command payload (Some ending) Accepts) e = absurd cc
unaccepting_fits may (Passes link command payload (Some ending) Keeps) e = refl
unaccepting_fits may (Passes link command payload (Some ending) Nothing) e = refl
unaccepting_fits may (Passes link command payload None recording) e = refl
unaccepting_fits may (Owns status) e = refl
unaccepting_fits may (Refuses error) e = refl

telling_fits : (may : ℕ → Bool) (tell : Tell) (calm : Bool) → (not (is_accepting tell) && calm) ≡ true
    → (may_tell may tell ≡ true) × (calm ≡ true)
telling_fits may tell calm e =
    let parts = telling_calmly (is_accepting tell) calm e in (unaccepting_fits may tell parts.0, parts.1)

calm_fits : (may : ℕ → Bool) (list : List Put) → is_calm list ≡ true → Fits may list
calm_fits may [] c = (refl, refl)
calm_fits may (Hands packets ∷ rest) c = (refl, c)
calm_fits may (Tells number tell ∷ rest) c = telling_fits may tell (is_calm rest) c
calm_fits may (Routes ∷ rest) c = (refl, c)
calm_fits may (Records server gtid ∷ rest) c = calm_fits may rest c
calm_fits may (Opens link server login ∷ rest) c = (refl, c)
calm_fits may (LogsInto link packets ∷ rest) c = (refl, c)
calm_fits may (Sends link purpose ∷ rest) c = absurd cc
calm_fits may (Forgets link id ∷ rest) c = absurd cc
calm_fits may (Drops link cause ∷ rest) c = (refl, c)
calm_fits may (Closes reason ∷ rest) c = (refl, c)

calm_append : (first others : List Put) → is_calm first ≡ true → is_calm others ≡ true → is_calm (first ++ others) ≡ true
calm_append [] others f o = o
calm_append (Hands packets ∷ rest) others f o = calm_append rest others f o
calm_append (Tells number tell ∷ rest) others f o =
    let parts = telling_calmly (is_accepting tell) (is_calm rest) f in
    by_accepting (is_accepting tell) parts.0 (calm_append rest others parts.1 o)
  where
    by_accepting : (accepts : Bool) → accepts ≡ false → is_calm (rest ++ others) ≡ true
        → (not accepts && is_calm (rest ++ others)) ≡ true
    by_accepting true f behind = absurd cc
    by_accepting false f behind = behind
calm_append (Routes ∷ rest) others f o = calm_append rest others f o
calm_append (Records server gtid ∷ rest) others f o = calm_append rest others f o
calm_append (Opens link server login ∷ rest) others f o = calm_append rest others f o
calm_append (LogsInto link packets ∷ rest) others f o = calm_append rest others f o
calm_append (Sends link purpose ∷ rest) others f o = absurd cc
calm_append (Forgets link id ∷ rest) others f o = absurd cc
calm_append (Drops link cause ∷ rest) others f o = calm_append rest others f o
calm_append (Closes reason ∷ rest) others f o = calm_append rest others f o

calm_farewells : (list : List ℕ) → is_calm (map (λ link. Drops link End) list) ≡ true
calm_farewells [] = refl
calm_farewells (link ∷ others) = calm_farewells others

calm_kept : (list : List ℕ) → is_calm (map (λ link. Drops link Kept) list) ≡ true
calm_kept [] = refl
calm_kept (link ∷ others) = calm_kept others

calm_loss_by : (loss : Loss) (ends : CloseReason) → is_calm (after_loss_by loss ends) ≡ true
calm_loss_by CutsReply ends = refl
calm_loss_by HidesOutcome ends = refl
calm_loss_by TakesState ends = refl
calm_loss_by EndsTransaction ends = refl
calm_loss_by StartsReplay ends = refl
calm_loss_by SendsElsewhere ends = refl
calm_loss_by IsForgotten ends = refl

calm_if : (test : Bool) (list : List Put) → is_calm list ≡ true → is_calm (if test then list else []) ≡ true
calm_if true list c = c
calm_if false list c = refl

calm_keeping : (keeping : Bool) (link : ℕ) (kept : Option ℕ) (list : List ℕ) → is_calm (after_keeping keeping link kept list) ≡ true
calm_keeping true link None list = calm_kept (without link list)
calm_keeping true link (Some kept) list = refl
calm_keeping false link kept list = refl

calm_telling : (config : Config) (number : ℕ) (tell : Tell) (past : List Item) → is_calm (follow config (Tells number tell) past) ≡ true
calm_telling config number (Passes link command payload (Some ending) Keeps) past = calm_keeping true link (kept_on past) (links past)
calm_telling config number (Passes link command payload (Some ending) Accepts) past = refl
calm_telling config number (Passes link command payload (Some ending) Nothing) past = refl
calm_telling config number (Passes link command payload None recording) past = refl
calm_telling config number (Owns status) past = refl
calm_telling config number (Refuses error) past = refl

calm_follow : (config : Config) (put : Put) (past : List Item) → is_calm (follow config put past) ≡ true
calm_follow config (Hands packets) past = refl
calm_follow config (Tells number tell) past = calm_telling config number tell past
calm_follow config Routes past = refl
calm_follow config (Records server gtid) past = refl
calm_follow config (Opens link server login) past = refl
calm_follow config (LogsInto link packets) past = refl
calm_follow config (Sends link Prepares) past = refl
calm_follow config (Sends link (Plays entry)) past = refl
calm_follow config (Sends link (Waits gtid seconds)) past = refl
calm_follow config (Sends link (Probes gtid)) past = refl
calm_follow config (Forgets link id) past = refl
calm_follow config (Sends link (Asks command id)) past = calm_keeping (keeps (class_of_command command)) link (kept_on past) (links past)
calm_follow config (Drops link cause) past = calm_if (is_loss cause) (after_loss config link past) (calm_loss_by (loss_of config link past) (ending config past))
calm_follow config (Closes reason) past = refl

calm_unasked : (link : ℕ) (behind : Bool) → is_calm (unasked link behind) ≡ true
calm_unasked link true = refl
calm_unasked link false = refl

calm_differing : (link : ℕ) (otherwise behind : Bool) → is_calm (differing link otherwise behind) ≡ true
calm_differing link true behind = refl
calm_differing link false behind = calm_unasked link behind

calm_played : (link : ℕ) (entry : HistoryEntry) (named : Option PrepareOk) (far : Progress) (behind : Bool)
    → is_calm (after_played link entry named far behind) ≡ true
calm_played link entry named More behind = refl
calm_played link entry named (Ends (Done status)) behind = calm_differing link (is_otherwise entry.statement named) behind
calm_played link entry named (Ends (Failed code)) behind = refl

calm_preparing : (link : ℕ) (far : Progress) (behind : Bool) → is_calm (after_preparing link far behind) ≡ true
calm_preparing link More behind = refl
calm_preparing link (Ends (Done status)) behind = calm_unasked link behind
calm_preparing link (Ends (Failed code)) behind = refl

calm_connecting : (said : FrontStep) → is_calm (after_connecting said) ≡ true
calm_connecting (fronts.Send packets) = refl
calm_connecting (fronts.LoggedIn login) = refl
calm_connecting (fronts.End packets reason) = refl
calm_connecting (fronts.Command payload) = refl
calm_connecting fronts.Idle = refl

calm_command : (judged : Judged) (number status : ℕ) → is_calm (after_command judged number status) ≡ true
calm_command Leaves number status = refl
calm_command IsOwn number status = refl
calm_command (IsRefused error) number status = refl
calm_command IsSilent number status = refl
calm_command (HasTooMuch bytes) number status = refl
calm_command (Serves command) number status = refl

calm_want : (over made : Bool) (number : ℕ) (list : List Put) → is_calm list ≡ true → is_calm (after_want over made number list) ≡ true
calm_want true made number list c = c
calm_want false true number list c = refl
calm_want false false number list c = refl

calm_turning : (told : Bool) → is_calm (after_turning_away told) ≡ true
calm_turning true = refl
calm_turning false = refl

calm_opening : (link : Option ℕ) (next server : ℕ) (login : Option Login) → is_calm (opens_to link next server login) ≡ true
calm_opening None next server (Some login) = refl
calm_opening None next server None = refl
calm_opening (Some link) next server login = refl

calm_refusing : (late : Bool) (number : ℕ) → is_calm (refusing late number) ≡ true
calm_refusing true number = refl
calm_refusing false number = refl

calm_route : (found : Target) (link : Option ℕ) (next : ℕ) (login : Option Login) (late : Bool) (number : ℕ)
    → is_calm (after_route found link next login late number) ≡ true
calm_route Nowhere link next login late number = calm_refusing late number
calm_route (Primary server) link next login late number = calm_opening link next server login
calm_route (Replica server) link next login late number = calm_opening link next server login

abbrev pub is_client : Option Purpose → Bool
is_client (Some (Asks command id)) = true
is_client _ = false

-- a command may be added, which this link led: it was asked by the client, a command is pending, and the history has room
abbrev pub may_lead : Config → List Item → ℕ → Bool
may_lead config past link =
    is_client (asked_on link past) && (is_some (pending past) && nat_lt (length (statements config past).history) config.history_limit)

recorded_with_room : (sets kept room : Bool) (outcome : Outcome) → recording_by sets kept (not room) outcome ≡ Accepts → room ≡ true
recorded_with_room true false true (Done status) e = refl
recorded_with_room true false false (Done status) e = absurd cc
recorded_with_room true false true (Failed code) e = absurd cc
recorded_with_room true false false (Failed code) e = absurd cc
recorded_with_room true true room outcome e = absurd cc
recorded_with_room false kept room outcome e = absurd cc

recorded_pending : (its : Option Command) (kept room : Bool) (outcome : Outcome)
    → recording_by (is_session (class_by_pending its)) kept (not room) outcome ≡ Accepts → (is_some its && room) ≡ true
recorded_pending None kept room outcome e = absurd cc
recorded_pending (Some command) kept room outcome e = recorded_with_room (is_session (class_of_command command)) kept room outcome e

-- behind what came of a link: the end of the reply to the client's command may have ended a transaction
answer_fits : (config : Config) (past : List Item) (link : ℕ) (command : Command) (id : Option ℕ) (said : LinkStep) (form : List ℕ)
    (named : Option PrepareOk) (far : Progress) (behind : Bool) (number : ℕ)
    → asked_on link past ≡ Some (Asks command id)
    → ((outcome : Outcome) → far ≡ Ends outcome
    → heard_on link said (Some (Asks command id)) (λ its. ends_transaction config link its past) (named_on link past) (statements config past)
    ≡ swept_if (ends_transaction config link outcome past) (statements config past))
    → Fits (may_lead config (Comes link said ∷ past))
    (after_answer link command form named far behind number (λ outcome. recording_of config link past outcome))
answer_fits config past link command id said form named More behind number a now = (refl, refl)
answer_fits config past link command id said form named (Ends outcome) behind number a now = (
  by_recording (recording_of config link past outcome)
      (λ e.
      let room = recorded_pending (pending past) (is_some (kept_on past))
      (nat_lt (length (swept_if (ends_transaction config link outcome past) (statements config past)).history) config.history_limit) outcome e in
      rw (a, now outcome refl) room),
  calm_unasked link behind,
)
  where
    by_recording : (recording : Recording) → (recording ≡ Accepts → may_lead config (Comes link said ∷ past) link ≡ true)
        → may_tell (may_lead config (Comes link said ∷ past)) (Passes link command form (Some (record { outcome = outcome; named = named })) recording) ≡ true
    by_recording Nothing may = refl
    by_recording Accepts may = may refl
    by_recording Keeps may = refl

calm_check : (link : ℕ) (checked : Option Causal) (behind : Bool) (number : ℕ) → is_calm (after_check link checked behind number) ≡ true
calm_check link (Some (causals.Stale wanted found)) behind number = calm_unasked link behind
calm_check link (Some causals.Unreadable) behind number = refl
calm_check link (Some causals.Go) behind number = calm_unasked link behind
calm_check link (Some causals.TryPrimary) behind number = calm_unasked link behind
calm_check link (Some (causals.Wait gtid)) behind number = calm_unasked link behind
calm_check link (Some (causals.Probe gtid)) behind number = calm_unasked link behind
calm_check link None behind number = refl

commit_fits : (may : ℕ → Bool) (server : ℕ) (commit : Option Gtid) (others : List Put) → Fits may others
    → Fits may (recording_commit server commit ++ others)
commit_fits may server (Some gtid) others fits = fits
commit_fits may server None others fits = fits

-- behind what came of a link that was asked whether its server has what the command is to see
check_fits : (config : Config) (past : List Item) (link : ℕ) (payload : List ℕ) (role : Role) (far : Progress) (next : ℕ) (behind : Bool)
    (purpose : Purpose) (number : ℕ)
    → let said = steps.Part payload role far next behind in
    Fits (may_lead config (Comes link said ∷ past))
    (recording_commit (server_of link past) (commit_by config.gtid_domain role payload (Some purpose))
    ++ after_check link (checked_on link said past) behind number)
check_fits config past link payload role far next behind purpose number =
    let checked = checked_on link (steps.Part payload role far next behind) past in
    commit_fits _ (server_of link past) (commit_by config.gtid_domain role payload (Some purpose)) _
    (calm_fits _ (after_check link checked behind number) (calm_check link checked behind number))

coming_fits : (config : Config) (past : List Item) (link : ℕ) (said : LinkStep) (purpose : Option Purpose) → asked_on link past ≡ purpose
    → (number : ℕ) → Fits (may_lead config (Comes link said ∷ past)) (after_coming config link said purpose number past)
coming_fits config past link (steps.Part payload role progress next behind) (Some (Asks command id)) a number =
    commit_fits _ (server_of link past) (commit_by config.gtid_domain role payload (Some (Asks command id))) _ (
    answer_fits config past link command id (steps.Part payload role progress next behind)
    (form_of (next_handle (statements config past)) role payload) (named_in role payload (named_on link past)) progress behind number a
    (λ outcome far. rw far refl))
coming_fits config past link (steps.Part payload role progress next behind) (Some (Plays entry)) a number =
    commit_fits _ (server_of link past) (commit_by config.gtid_domain role payload (Some (Plays entry))) _ (
    calm_fits _ (after_played link entry (named_in role payload (named_on link past)) progress behind)
    (calm_played link entry (named_in role payload (named_on link past)) progress behind))
coming_fits config past link (steps.Part payload role progress next behind) (Some Prepares) a number =
    commit_fits _ (server_of link past) (commit_by config.gtid_domain role payload (Some Prepares)) _
    (calm_fits _ (after_preparing link progress behind) (calm_preparing link progress behind))
coming_fits config past link (steps.Part payload role progress next behind) (Some (Waits gtid seconds)) a number =
    check_fits config past link payload role progress next behind (Waits gtid seconds) number
coming_fits config past link (steps.Part payload role progress next behind) (Some (Probes gtid)) a number =
    check_fits config past link payload role progress next behind (Probes gtid) number
coming_fits config past link (steps.Part payload role progress next behind) None a number =
    commit_fits _ (server_of link past) (commit_by config.gtid_domain role payload None) _ (refl, refl)
coming_fits config past link (steps.Lost cause) purpose a number = (refl, refl)
coming_fits config past link (steps.Send packets) purpose a number = (refl, refl)
coming_fits config past link steps.LoggedIn purpose a number = (refl, refl)
coming_fits config past link steps.Idle purpose a number = (refl, refl)

-- What is owed once something was given out: where that was a commit that the words take, what stands behind it still answers what came.
paid_fits : (config : Config) (past : List Item) (put : Put) (others : List Put) → owed config past ≡ put ∷ others
    → Fits (may_lead config past) (put ∷ others) → Fits (may_lead config (Puts put ∷ past)) (owed config (Puts put ∷ past))
paid_fits config past (Records server gtid) others o fits = rw o fits
paid_fits config past (Hands packets) others o fits = rw o (calm_fits _ others fits.1)
paid_fits config past (Tells number tell) others o fits =
    rw o (calm_fits _ (follow config (Tells number tell) past ++ others)
    (calm_append (follow config (Tells number tell) past) others (calm_telling config number tell past) fits.1))
paid_fits config past Routes others o fits = rw o (calm_fits _ others fits.1)
paid_fits config past (Opens link server login) others o fits = rw o (calm_fits _ others fits.1)
paid_fits config past (LogsInto link packets) others o fits = rw o (calm_fits _ others fits.1)
paid_fits config past (Sends link purpose) others o fits =
    rw o (calm_fits _ (follow config (Sends link purpose) past ++ others)
    (calm_append (follow config (Sends link purpose) past) others (calm_follow config (Sends link purpose) past) fits.1))
paid_fits config past (Forgets link id) others o fits = rw o (calm_fits _ others fits.1)
paid_fits config past (Drops link cause) others o fits =
    rw o (calm_fits _ (follow config (Drops link cause) past ++ others)
    (calm_append (follow config (Drops link cause) past) others (calm_follow config (Drops link cause) past) fits.1))
paid_fits config past (Closes reason) others o fits =
    calm_fits (may_lead config (Puts (Closes reason) ∷ past)) (farewells past) (calm_farewells (links past))

-- where nothing was owed, what follows on it alone
sent_fits : (config : Config) (past : List Item) (link : ℕ) (purpose : Purpose) → owed config past ≡ []
    → Fits (may_lead config (Puts (Sends link purpose) ∷ past)) (owed config (Puts (Sends link purpose) ∷ past))
sent_fits config past link purpose o =
    rw o (calm_fits _ (follow config (Sends link purpose) past ++ [])
    (calm_append (follow config (Sends link purpose) past) [] (calm_follow config (Sends link purpose) past) refl))

due_fits : {config : Config} {past : List Item} {item : Item} → Due config past item → Fits (may_lead config (item ∷ past)) (owed config (item ∷ past))
due_fits {config} {past} (comes {link = link} {said = said} has a it) =
    coming_fits config past link said (asked_on link past) refl (reply_number past)
due_fits {config} {past} (connects {said = said} p f c) =
    calm_fits (may_lead config (Connects said ∷ past)) (after_connecting said) (calm_connecting said)
due_fits {config} {past} (takes {payload = payload} p f) =
    let judged = judged_as (situation config past) (statements config past) payload.bytes payload.next in
    calm_fits (may_lead config (Takes judged payload.next ∷ past)) (after_command judged payload.next (status_of (transaction config past).state))
    (calm_command judged payload.next (status_of (transaction config past).state))

step_fits : {config : Config} {past : List Item} {item : Item} → Step config past item → Fits (may_lead config past) (owed config past)
    → Fits (may_lead config (item ∷ past)) (owed config (item ∷ past))
step_fits {config} {past} (pays {put = put} {others = others} o) fits = paid_fits config past put others o (rw o at fits)
step_fits (asks o n p g w) fits = rw o (refl, refl)
step_fits {config} {past} (prepares_link {link = link} o n has f) fits = sent_fits config past link Prepares o
step_fits (forgets o n has f t) fits = rw o (refl, refl)
step_fits {config} {past} (plays {link = link} {entry = entry} o n has f t s) fits = sent_fits config past link (Plays entry) o
step_fits {config} {past} (sends {link = link} {command = command} {id = id} o n p s g f t d i c) fits =
    sent_fits config past link (Asks command id) o
step_fits {config} {past} (waits_first {link = link} {gtid = gtid} o n p s g f t d c) fits =
    sent_fits config past link (Waits gtid config.causal_timeout_s) o
step_fits {config} {past} (probes_first {link = link} {gtid = gtid} o n p s g f t d c) fits = sent_fits config past link (Probes gtid) o
step_fits (floods o n p above) fits = (refl, refl)
step_fits (reads o n due) fits = due_fits due

input_fits : (config : Config) (item : Item) (past : List Item) → IsInput item past → Fits (may_lead config (item ∷ past)) (owed config (item ∷ past))
input_fits config (ClientBytes bytes) past input = (refl, refl)
input_fits config ClientGone past input = calm_fits (may_lead config (ClientGone ∷ past)) (farewells past) (calm_farewells (links past))
input_fits config (LinkReady link) past input = (refl, refl)
input_fits config (LinkBytes link bytes) past input = (refl, refl)
input_fits config (LinkLost link) past input =
    calm_fits (may_lead config (LinkLost link ∷ past)) (after_loss config link past) (calm_loss_by (loss_of config link past) (ending config past))
input_fits config (Ticks reading) past input = (refl, refl)
input_fits config _ past input = absurd input

begins_fits : (config : Config) (item : Item) → IsBeginning item → Fits (may_lead config (item ∷ [])) (owed config (item ∷ []))
begins_fits config (Accepted session scramble reading) its = (refl, refl)
begins_fits config (TurnsAway told) its = calm_fits (may_lead config (TurnsAway told ∷ [])) (after_turning_away told) (calm_turning told)
begins_fits config (Began link server reading) its = (refl, refl)
begins_fits config _ its = absurd its

owed_fits : (config : Config) (past : List Item) → IsRecord config past → Fits (may_lead config past) (owed config past)
owed_fits config past (begins {item = item} its) = begins_fits config item its
owed_fits config past (record_steps {past = below} {item = item} legal is_next) =
    step_fits (of_next config below item is_next) (owed_fits config below legal)
owed_fits config past (answers {past = below} {words = words} {loads = loads} {next_link = next} legal asked) =
    let found = found_in config below words loads in
    calm_fits (may_lead config (Routed words loads next found ∷ below)) (owed config (Routed words loads next found ∷ below))
    (calm_route found _ next _ _ _)
owed_fits config past (hears {past = below} {item = item} legal rests none n input) = input_fits config item below input
owed_fits config past (starves {past = below} {made = made} {number = number} legal once can its) =
    calm_fits (may_lead config (Starves made number ∷ below)) (after_want (is_over below) made number (farewells below))
    (calm_want (is_over below) made number (farewells below) (calm_farewells (links below)))

-- The history is no longer than the settings allow

some_fewer : (test : HistoryEntry → Bool) (list : List HistoryEntry) → length (filter test list) ≤ length list
some_fewer test [] = omega arith
some_fewer test (first ∷ others) = by_test (test first) (some_fewer test others)
  where
    by_test : (its : Bool) → length (filter test others) ≤ length others
        → length (if its then first ∷ filter test others else filter test others) ≤ suc (length others)
    by_test true fewer = omega arith
    by_test false fewer = omega arith

abbrev IsWithin : Config → Statements → Type 0
IsWithin config s = length s.history ≤ config.history_limit

table_within : (config : Config) (table : Table) (s : Statements) → IsWithin config s → IsWithin config (with_table table s)
table_within config table s within =
    let fewer = some_fewer (λ (entry : HistoryEntry). stands table.statements entry.statement) s.history in omega (arith, within)

closing_within : (config : Config) (later : Bool) (handle : Option ℕ) (s : Statements) → IsWithin config s → IsWithin config (closing later handle s)
closing_within config later (Some handle) s within = by_test (is_some (open_at s.table handle))
  where
    by_test : (test : Bool) → IsWithin config (if test then with_table (closed later s.table handle) s else s)
    by_test true = table_within config (closed later s.table handle) s within
    by_test false = within
closing_within config later None s within = within

failed_within : (config : Config) (prepares : Bool) (s : Statements) → IsWithin config s → IsWithin config (failed_if prepares s)
failed_within config true s within = within
failed_within config false s within = within

taken_within : (config : Config) (request : Request) (in_transaction : Bool) (payload : List ℕ) (s : Statements) → IsWithin config s
    → IsWithin config (taken request in_transaction payload s)
taken_within config requests.CloseStatement in_transaction payload s within = closing_within config in_transaction (handle_in payload) s within
taken_within config requests.Execute in_transaction payload s within = within
taken_within config requests.SendLongData in_transaction payload s within = within
taken_within config requests.ResetStatement in_transaction payload s within = within
taken_within config requests.Prepare in_transaction payload s within = within
taken_within config requests.Quit in_transaction payload s within = within
taken_within config requests.Ping in_transaction payload s within = within
taken_within config requests.Query in_transaction payload s within = within
taken_within config requests.FieldList in_transaction payload s within = within
taken_within config requests.InitDb in_transaction payload s within = within
taken_within config requests.Unsupported in_transaction payload s within = within
taken_within config requests.Unknown in_transaction payload s within = within

taken_as_within : (config : Config) (judged : Judged) (in_transaction : Bool) (payload : List ℕ) (s : Statements) → IsWithin config s
    → IsWithin config (taken_as judged in_transaction payload s)
taken_as_within config (IsRefused error) in_transaction payload s within = failed_within config (is_prepare (request_of payload)) s within
taken_as_within config (HasTooMuch bytes) in_transaction payload s within = within
taken_as_within config Leaves in_transaction payload s within = taken_within config (request_of payload) in_transaction payload s within
taken_as_within config IsOwn in_transaction payload s within = taken_within config (request_of payload) in_transaction payload s within
taken_as_within config IsSilent in_transaction payload s within = taken_within config (request_of payload) in_transaction payload s within
taken_as_within config (Serves command) in_transaction payload s within = taken_within config (request_of payload) in_transaction payload s within

swept_within : (config : Config) (ends : Bool) (s : Statements) → IsWithin config s → IsWithin config (swept_if ends s)
swept_within config true s within = table_within config (swept s.table) s within
swept_within config false s within = within

played_within : (config : Config) (link serial : ℕ) (how : Option PreparedAs) (named : Option PrepareOk) (s : Statements) → IsWithin config s
    → IsWithin config (played link serial how named s)
played_within config link serial (Some how) (Some ok) s within = within
played_within config link serial (Some how) None s within = within
played_within config link serial None named s within = within

heard_within : (config : Config) (link : ℕ) (said : LinkStep) (asked : Option Purpose) (ends : Outcome → Bool) (named : Option PrepareOk) (s : Statements)
    → IsWithin config s → IsWithin config (heard_on link said asked ends named s)
heard_within config link (steps.Part payload role (Ends outcome) next behind) (Some (Asks command id)) ends named s within =
    swept_within config (ends outcome) s within
heard_within config link (steps.Part payload role (Ends (Done status)) next behind) (Some (Plays entry)) ends named s within =
    played_within config link entry.serial entry.statement (named_in role payload named) s within
heard_within config link (steps.Part payload role (Ends (Failed code)) next behind) (Some (Plays entry)) ends named s within = within
heard_within config link (steps.Part payload role (Ends outcome) next behind) (Some (Waits gtid seconds)) ends named s within = within
heard_within config link (steps.Part payload role (Ends outcome) next behind) (Some (Probes gtid)) ends named s within = within
heard_within config link (steps.Part payload role (Ends outcome) next behind) (Some Prepares) ends named s within = within
heard_within config link (steps.Part payload role (Ends outcome) next behind) None ends named s within = within
heard_within config link (steps.Part payload role More next behind) asked ends named s within = within
heard_within config link (steps.Lost cause) asked ends named s within = within
heard_within config link (steps.Send packets) asked ends named s within = within
heard_within config link steps.LoggedIn asked ends named s within = within
heard_within config link steps.Idle asked ends named s within = within

-- one entry more, where there is room
entry_within : (config : Config) (serial : ℕ) (command : Command) (how : Option PreparedAs) (s : Statements) → length s.history < config.history_limit
    → IsWithin config (with_entry (Some serial) command how s)
entry_within config serial command how s room =
    let one = length-append s.history (entry_of serial command how ∷ []) in omega (arith, room, one)

answered_within : (config : Config) (link serial : ℕ) (command : Option Command) (its : Ending) (s : Statements) → length s.history < config.history_limit
    → IsWithin config (answered_in link command its (Some serial) s)
answered_within config link serial None its s room = omega (arith, room)
answered_within config link serial (Some command) its s room = by_kind (is_prepared command.kind)
  where
    by_kind : (prepares : Bool) → IsWithin config (answered_by prepares link command its.outcome its.named (Some serial) s)
    by_kind true =
        entry_within config serial command (prepared_as (next_number s.table.statements) its.named)
        (record s { table = prepared_by link (arguments_of (payload_of command.body)) its.outcome its.named s.table }) room
    by_kind false = entry_within config serial command None s room

unrecorded_within : (config : Config) (link : ℕ) (command : Option Command) (its : Ending) (s : Statements) → IsWithin config s
    → IsWithin config (answered_in link command its None s)
unrecorded_within config link None its s within = within
unrecorded_within config link (Some command) its s within = by_kind (is_prepared command.kind)
  where
    by_kind : (prepares : Bool) → IsWithin config (answered_by prepares link command its.outcome its.named None s)
    by_kind true = within
    by_kind false = within

abbrev Within : Config → List Item → Type 0
Within config past = IsWithin config (statements config past)

-- a command is added only on a link that the client asked it on, where one is pending and the history has room
adds_with_room : (config : Config) (past : List Item) → IsRecord config past → (number link : ℕ) (command : Command) (payload : List ℕ) (its : Ending) (others : List Put)
    → owed config past ≡ Tells number (Passes link command payload (Some its) Accepts) ∷ others
    → (is_client (asked_on link past) ≡ true) × (is_some (pending past) ≡ true) × (length (statements config past).history < config.history_limit)
adds_with_room config past legal number link command payload its others o =
    let may : may_lead config past link ≡ true = (subst (λ (list : List Put). Fits (may_lead config past) list) o (owed_fits config past legal)).0 in
    let parts = and_parts (is_client (asked_on link past)) (is_some (pending past) && nat_lt (length (statements config past).history) config.history_limit) may in
    let room = and_parts (is_some (pending past)) (nat_lt (length (statements config past).history) config.history_limit) parts.1 in
    (parts.0, room.0, ltb-true (length (statements config past).history) config.history_limit room.1)

paid_within : (config : Config) (past : List Item) → IsRecord config past → (put : Put) (others : List Put) → owed config past ≡ put ∷ others
    → Within config past → Within config (Puts put ∷ past)
paid_within config past legal (Hands packets) others o within = within
paid_within config past legal (Tells number (Passes link command payload (Some its) Accepts)) others o within =
    answered_within config link (serials past) (pending past) its (statements config past)
    (adds_with_room config past legal number link command payload its others o).2
paid_within config past legal (Tells number (Passes link command payload (Some its) Keeps)) others o within =
    unrecorded_within config link (pending past) its (statements config past) within
paid_within config past legal (Tells number (Passes link command payload (Some its) Nothing)) others o within =
    unrecorded_within config link (pending past) its (statements config past) within
paid_within config past legal (Tells number (Passes link command payload None recording)) others o within = within
paid_within config past legal (Tells number (Owns status)) others o within = within
paid_within config past legal (Tells number (Refuses error)) others o within = refused_within error
  where
    refused_within : (error : ProxyError) → Within config (Puts (Tells number (Refuses error)) ∷ past)
    refused_within errors.NoPrimary = failed_within config (prepares (pending past)) (statements config past) within
    refused_within (errors.PrimaryBehind wanted found) = failed_within config (prepares (pending past)) (statements config past) within
    refused_within errors.UnknownCommand = within
    refused_within errors.NotSupported = within
    refused_within errors.UnknownStatement = within
    refused_within errors.BadExecute = within
    refused_within errors.TooManyStatements = within
    refused_within errors.NotInReadOnly = within
    refused_within errors.TooManyConnections = within
    refused_within errors.CommandTooLarge = within
    refused_within errors.OutOfMemory = within
paid_within config past legal Routes others o within = within
paid_within config past legal (Records server gtid) others o within = within
paid_within config past legal (Opens opened server login) others o within = within
paid_within config past legal (LogsInto link packets) others o within = within
paid_within config past legal (Sends link purpose) others o within = within
paid_within config past legal (Forgets link id) others o within = within
paid_within config past legal (Drops link cause) others o within = within
paid_within config past legal (Closes reason) others o within = within

due_within : {config : Config} {past : List Item} {item : Item} → Due config past item → Within config past → Within config (item ∷ past)
due_within {config} {past} (comes {link = link} {said = said} has a it) within =
    heard_within config link said (asked_on link past) _ (named_on link past) (statements config past) within
due_within (connects p f c) within = within
due_within {config} {past} (takes {payload = payload} p f) within =
    taken_as_within config _ (is_open (transaction config past).state) (command_in (step_of config.accounts (fronted config past)).0) (statements config past) within

step_within : {config : Config} {past : List Item} {item : Item} → IsRecord config past → Step config past item → Within config past → Within config (item ∷ past)
step_within {config} {past} legal (pays {put = put} {others = others} o) within = paid_within config past legal put others o within
step_within legal (asks o n p g w) within = within
step_within legal (prepares_link o n has f) within = within
step_within legal (forgets o n has f t) within = within
step_within legal (plays o n has f t s) within = within
step_within legal (sends o n p s g f t d i c) within = within
step_within legal (waits_first o n p s g f t d c) within = within
step_within legal (probes_first o n p s g f t d c) within = within
step_within legal (floods o n p above) within = within
step_within legal (reads o n due) within = due_within due within

input_within : (config : Config) (item : Item) (past : List Item) → IsInput item past → Within config past → Within config (item ∷ past)
input_within config (ClientBytes bytes) past input within = within
input_within config ClientGone past input within = within
input_within config (LinkReady ready) past input within = within
input_within config (LinkBytes from bytes) past input within = within
input_within config (LinkLost link) past input within = within
input_within config (Ticks reading) past input within = within
input_within config _ past input within = absurd input

begins_within : (config : Config) (item : Item) → IsBeginning item → Within config (item ∷ [])
begins_within config (Accepted session scramble reading) its = omega arith
begins_within config (TurnsAway told) its = omega arith
begins_within config (Began opened server reading) its = omega arith
begins_within config _ its = absurd its

pub history_within : (config : Config) (past : List Item) → IsRecord config past → length (statements config past).history ≤ config.history_limit
history_within config past (begins {item = item} its) = begins_within config item its
history_within config past (record_steps {past = below} {item = item} legal is_next) =
    step_within legal (of_next config below item is_next) (history_within config below legal)
history_within config past (answers {past = below} legal asked) = history_within config below legal
history_within config past (hears {past = below} {item = item} legal rests none n input) =
    input_within config item below input (history_within config below legal)
history_within config past (starves {past = below} legal once can its) = history_within config below legal
