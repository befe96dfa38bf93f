-- When the worker is asked, and when a link is opened: nothing that is owed asks, and a link is opened only as the direct answer
-- to the worker's. A session may ask several times between two events.
use Rattle.std.proofs.Common.{◌≡◌, ℕ, Bool, true, false, List, [], ◌∷◌, ◌++◌, drop, map, refl, sym, ◌∙◌, Option, Some, None}
use Rattle.std.specs.Prelude.{if◌then◌else◌}
use Rattle.rws_wire.specs.declared.drop_cause.DropCause.TheVariants.{End, Kept}
use Rattle.rws_native.specs.declared.login.Login.{Login}
use Rattle.rws_gtid.specs.declared.Gtid.{Gtid}
use Rattle.rws_causal.specs.declared.causal.Causal.{Causal}
use Rattle.rws_causal.specs.declared.causal.Causal.TheVariants as causals
use Rattle.rws_reply.specs.declared.kind.Outcome.{Outcome}
use Rattle.rws_reply.specs.declared.kind.Outcome.TheVariants.{Done, Failed}
use Rattle.rws_reply.specs.declared.kind.Progress.{Progress}
use Rattle.rws_reply.specs.declared.kind.Progress.TheVariants.{More, Whole as Ends}
use Rattle.rws_front.specs.declared.step.FrontStep.{FrontStep}
use Rattle.rws_front.specs.declared.step.FrontStep.TheVariants as fronts
use Rattle.rws_link.specs.declared.step.LinkStep.{LinkStep}
use Rattle.rws_link.specs.declared.step.LinkStep.TheVariants as steps
use Rattle.rws_config.specs.declared.config.Config.{Config}
use Rattle.rws_route.specs.declared.destination.Target.{Target}
use Rattle.rws_route.specs.declared.destination.Target.TheVariants.{Primary, Replica, NoPrimary as Nowhere}
use Rattle.rws_trx.specs.OnLinks.{status_of}
use Rattle.rws_wire.specs.declared.close_reason.CloseReason.{CloseReason}
use Rattle.rws_msgs.specs.declared.prepare_ok.PrepareOk.{PrepareOk}
use Rattle.rws_commands.specs.declared.command.Command.{Command}
use Rattle.rws_commands.specs.declared.history.HistoryEntry.{HistoryEntry}
use Rattle.rws_commands.specs.Statements.{is_otherwise, next_handle}
use Rattle.rws_commands.specs.declared.judged.Judged.{Judged}
use Rattle.rws_record.specs.Item.{Item, Purpose, Put, Recording, Tell}
use Rattle.rws_record.specs.Item.Item.{Accepted, TurnsAway, Began, ClientBytes, LinkReady, LinkBytes, ClientGone, LinkLost, Ticks, Routed, Comes, Connects, Takes, Floods, Puts, Starves}
use Rattle.rws_commands.specs.declared.judged.Judged.TheVariants.{Leaves, IsOwn, IsRefused, IsSilent, HasTooMuch, Serves}
use Rattle.rws_record.specs.Item.Purpose.{Prepares, Asks, Plays, Waits, Probes}
use Rattle.rws_record.specs.Item.Recording.{Nothing, Accepts, Keeps}
use Rattle.rws_record.specs.Item.Tell.{Passes, Owns, Refuses}
use Rattle.rws_record.specs.Item.Put.{Hands, Tells, Records, Routes, Opens, LogsInto, Sends, Forgets, Drops, Closes}
use Rattle.rws_commands.specs.Commands.{class_of_command, keeps}
use Rattle.rws_record.specs.Values.{asking, asked_on, checked_on, kept_on, links, named_in, named_on, now, opens, is_over, reply_number, server_of, statements, without, transaction}
use Rattle.rws_record.specs.Rules.{Loss, CutsReply, HidesOutcome, TakesState, EndsTransaction, StartsReplay, SendsElsewhere, IsForgotten, after_answer, after_check, after_command, after_coming, commit_by, after_connecting, after_keeping, after_loss, after_loss_by, after_part, after_played, after_preparing, after_route, after_turning_away, after_want, differing, farewells, follow, form_of, is_loss, loss_of, next, opening, owed, recording_commit, recording_of, refusing, unasked, ending}
use Rattle.rws_record.specs.Record.{IsBeginning, IsInput, IsRecord, GoesOn}
use Rattle.rws_record.specs.Record.IsRecord.{begins, steps as record_steps, answers, hears, starves}
use Rattle.rws_record.specs.Record.GoesOn.{stays, then as goes_then}
use Rattle.rws_record.proofs.StepLemmas.{Due, Step, goes_unasking, of_next}
use Rattle.rws_record.proofs.StepLemmas.Due.{comes, connects, takes}
use Rattle.rws_record.proofs.StepLemmas.Step.{pays, asks, prepares, forgets, plays, sends, waits_first, probes_first, floods, reads}

-- neither the worker is asked nor a link opened
abbrev pub is_plain : List Put → Bool
is_plain [] = true
is_plain (Routes ∷ others) = false
is_plain (Opens link server login ∷ others) = false
is_plain (_ ∷ others) = is_plain others

plain_append : (first others : List Put) → is_plain first ≡ true → is_plain others ≡ true → is_plain (first ++ others) ≡ true
plain_append [] others f o = o
plain_append (Hands packets ∷ rest) others f o = plain_append rest others f o
plain_append (Tells number tell ∷ rest) others f o = plain_append rest others f o
plain_append (Routes ∷ rest) others f o = absurd cc
plain_append (Records server gtid ∷ rest) others f o = plain_append rest others f o
plain_append (Opens link server login ∷ rest) others f o = absurd cc
plain_append (LogsInto link packets ∷ rest) others f o = plain_append rest others f o
plain_append (Sends link purpose ∷ rest) others f o = plain_append rest others f o
plain_append (Forgets link id ∷ rest) others f o = plain_append rest others f o
plain_append (Drops link cause ∷ rest) others f o = plain_append rest others f o
plain_append (Closes reason ∷ rest) others f o = plain_append rest others f o

plain_behind : (list : List Put) → is_plain list ≡ true → is_plain (drop 1 list) ≡ true
plain_behind [] p = refl
plain_behind (Hands packets ∷ rest) p = p
plain_behind (Tells number tell ∷ rest) p = p
plain_behind (Routes ∷ rest) p = absurd cc
plain_behind (Records server gtid ∷ rest) p = p
plain_behind (Opens link server login ∷ rest) p = absurd cc
plain_behind (LogsInto link packets ∷ rest) p = p
plain_behind (Sends link purpose ∷ rest) p = p
plain_behind (Forgets link id ∷ rest) p = p
plain_behind (Drops link cause ∷ rest) p = p
plain_behind (Closes reason ∷ rest) p = p

plain_farewells : (list : List ℕ) → is_plain (map (λ link. Drops link End) list) ≡ true
plain_farewells [] = refl
plain_farewells (link ∷ others) = plain_farewells others

plain_loss_by : (loss : Loss) (ends : CloseReason) → is_plain (after_loss_by loss ends) ≡ true
plain_loss_by CutsReply ends = refl
plain_loss_by HidesOutcome ends = refl
plain_loss_by TakesState ends = refl
plain_loss_by EndsTransaction ends = refl
plain_loss_by StartsReplay ends = refl
plain_loss_by SendsElsewhere ends = refl
plain_loss_by IsForgotten ends = refl

plain_if : (test : Bool) (list : List Put) → is_plain list ≡ true → is_plain (if test then list else []) ≡ true
plain_if true list p = p
plain_if false list p = refl

plain_kept : (list : List ℕ) → is_plain (map (λ link. Drops link Kept) list) ≡ true
plain_kept [] = refl
plain_kept (link ∷ others) = plain_kept others

plain_keeping : (keeping : Bool) (link : ℕ) (kept : Option ℕ) (list : List ℕ) → is_plain (after_keeping keeping link kept list) ≡ true
plain_keeping true link None list = plain_kept (without link list)
plain_keeping true link (Some kept) list = refl
plain_keeping false link kept list = refl

plain_telling : (config : Config) (number : ℕ) (tell : Tell) (past : List Item) → is_plain (follow config (Tells number tell) past) ≡ true
plain_telling config number (Passes link command payload (Some ending) Keeps) past = plain_keeping true link (kept_on past) (links past)
plain_telling config number (Passes link command payload (Some ending) Accepts) past = refl
plain_telling config number (Passes link command payload (Some ending) Nothing) past = refl
plain_telling config number (Passes link command payload None recording) past = refl
plain_telling config number (Owns status) past = refl
plain_telling config number (Refuses error) past = refl

plain_follow : (config : Config) (put : Put) (past : List Item) → is_plain (follow config put past) ≡ true
plain_follow config (Hands packets) past = refl
plain_follow config (Tells number tell) past = plain_telling config number tell past
plain_follow config Routes past = refl
plain_follow config (Records server gtid) past = refl
plain_follow config (Opens link server login) past = refl
plain_follow config (LogsInto link packets) past = refl
plain_follow config (Sends link Prepares) past = refl
plain_follow config (Sends link (Plays entry)) past = refl
plain_follow config (Sends link (Waits gtid seconds)) past = refl
plain_follow config (Sends link (Probes gtid)) past = refl
plain_follow config (Sends link (Asks command id)) past =
    plain_keeping (keeps (class_of_command command)) link (kept_on past) (links past)
plain_follow config (Forgets link id) past = refl
plain_follow config (Drops link cause) past =
    plain_if (is_loss cause) (after_loss config link past) (plain_loss_by (loss_of config link past) (ending config past))
plain_follow config (Closes reason) past = refl

plain_unasked : (link : ℕ) (behind : Bool) → is_plain (unasked link behind) ≡ true
plain_unasked link true = refl
plain_unasked link false = refl

plain_answer : (link : ℕ) (command : Command) (form : List ℕ) (named : Option PrepareOk) (far : Progress) (behind : Bool) (number : ℕ)
    (recording : Outcome → Recording) → is_plain (after_answer link command form named far behind number recording) ≡ true
plain_answer link command form named More behind number recording = refl
plain_answer link command form named (Ends outcome) behind number recording = plain_unasked link behind

plain_differing : (link : ℕ) (otherwise behind : Bool) → is_plain (differing link otherwise behind) ≡ true
plain_differing link true behind = refl
plain_differing link false behind = plain_unasked link behind

plain_played : (link : ℕ) (entry : HistoryEntry) (named : Option PrepareOk) (far : Progress) (behind : Bool)
    → is_plain (after_played link entry named far behind) ≡ true
plain_played link entry named More behind = refl
plain_played link entry named (Ends (Done status)) behind = plain_differing link (is_otherwise entry.statement named) behind
plain_played link entry named (Ends (Failed code)) behind = refl

plain_preparing : (link : ℕ) (far : Progress) (behind : Bool) → is_plain (after_preparing link far behind) ≡ true
plain_preparing link More behind = refl
plain_preparing link (Ends (Done status)) behind = plain_unasked link behind
plain_preparing link (Ends (Failed code)) behind = refl

plain_check : (link : ℕ) (checked : Option Causal) (behind : Bool) (number : ℕ) → is_plain (after_check link checked behind number) ≡ true
plain_check link (Some (causals.Stale wanted found)) behind number = plain_unasked link behind
plain_check link (Some causals.Unreadable) behind number = refl
plain_check link (Some causals.Go) behind number = plain_unasked link behind
plain_check link (Some causals.TryPrimary) behind number = plain_unasked link behind
plain_check link (Some (causals.Wait gtid)) behind number = plain_unasked link behind
plain_check link (Some (causals.Probe gtid)) behind number = plain_unasked link behind
plain_check link None behind number = refl

plain_part : (config : Config) (link : ℕ) (purpose : Option Purpose) (form : List ℕ) (named : Option PrepareOk) (checked : Option Causal)
    (far : Progress) (behind : Bool) (number : ℕ) (past : List Item)
    → is_plain (after_part config link purpose form named checked far behind number past) ≡ true
plain_part config link (Some (Asks command id)) form named checked far behind number past =
    plain_answer link command form named far behind number (λ outcome. recording_of config link past outcome)
plain_part config link (Some (Plays entry)) form named checked far behind number past = plain_played link entry named far behind
plain_part config link (Some Prepares) form named checked far behind number past = plain_preparing link far behind
plain_part config link (Some (Waits gtid seconds)) form named checked far behind number past = plain_check link checked behind number
plain_part config link (Some (Probes gtid)) form named checked far behind number past = plain_check link checked behind number
plain_part config link None form named checked far behind number past = refl

plain_commit : (server : ℕ) (commit : Option Gtid) (others : List Put) → is_plain others ≡ true
    → is_plain (recording_commit server commit ++ others) ≡ true
plain_commit server (Some gtid) others plain = plain
plain_commit server None others plain = plain

plain_coming : (config : Config) (link : ℕ) (said : LinkStep) (purpose : Option Purpose) (number : ℕ) (past : List Item)
    → is_plain (after_coming config link said purpose number past) ≡ true
plain_coming config link (steps.Part payload role progress next behind) purpose number past =
    plain_commit (server_of link past) (commit_by config.gtid_domain role payload purpose) _
    (plain_part config link purpose (form_of (next_handle (statements config past)) role payload) (named_in role payload (named_on link past))
    (checked_on link (steps.Part payload role progress next behind) past) progress behind number past)
plain_coming config link (steps.Lost cause) purpose number past = refl
plain_coming config link (steps.Send packets) purpose number past = refl
plain_coming config link steps.LoggedIn purpose number past = refl
plain_coming config link steps.Idle purpose number past = refl

plain_connecting : (said : FrontStep) → is_plain (after_connecting said) ≡ true
plain_connecting (fronts.Send packets) = refl
plain_connecting (fronts.LoggedIn login) = refl
plain_connecting (fronts.End packets reason) = refl
plain_connecting (fronts.Command payload) = refl
plain_connecting fronts.Idle = refl

plain_command : (judged : Judged) (number status : ℕ) → is_plain (after_command judged number status) ≡ true
plain_command Leaves number status = refl
plain_command IsOwn number status = refl
plain_command (IsRefused error) number status = refl
plain_command IsSilent number status = refl
plain_command (HasTooMuch bytes) number status = refl
plain_command (Serves command) number status = refl

plain_want : (over made : Bool) (number : ℕ) (list : List Put) → is_plain list ≡ true → is_plain (after_want over made number list) ≡ true
plain_want true made number list p = p
plain_want false true number list p = refl
plain_want false false number list p = refl

plain_turning : (told : Bool) → is_plain (after_turning_away told) ≡ true
plain_turning true = refl
plain_turning false = refl

-- the worker's answer is the newest item
abbrev pub is_answered : List Item → Bool
is_answered (Routed words loads next found ∷ past) = true
is_answered _ = false

behind_opening : (link : Option ℕ) (next server : ℕ) (login : Option Login) → is_plain (drop 1 (opening link next server login)) ≡ true
behind_opening None next server (Some login) = refl
behind_opening None next server None = refl
behind_opening (Some link) next server login = refl

behind_refusing : (late : Bool) (number : ℕ) → is_plain (drop 1 (refusing late number)) ≡ true
behind_refusing true number = refl
behind_refusing false number = refl

behind_route : (found : Target) (link : Option ℕ) (next : ℕ) (login : Option Login) (late : Bool) (number : ℕ)
    → is_plain (drop 1 (after_route found link next login late number)) ≡ true
behind_route Nowhere link next login late number = behind_refusing late number
behind_route (Primary server) link next login late number = behind_opening link next server login
behind_route (Replica server) link next login late number = behind_opening link next server login

-- what is owed once something was given out
given : (config : Config) (put : Put) (past : List Item) → is_plain (drop 1 (owed config past)) ≡ true
    → (false ≡ false → is_plain (follow config put past ++ drop 1 (owed config past)) ≡ true)
    × (is_plain (drop 1 (follow config put past ++ drop 1 (owed config past))) ≡ true)
given config put past later =
    let plain = plain_append (follow config put past) (drop 1 (owed config past)) (plain_follow config put past) later in
    (λ _. plain, plain_behind (follow config put past ++ drop 1 (owed config past)) plain)

plainness : (config : Config) (past : List Item) → (is_answered past ≡ false → is_plain (owed config past) ≡ true) × (is_plain (drop 1 (owed config past)) ≡ true)
plainness config [] = (λ _. refl, refl)
plainness config (Accepted session scramble reading ∷ past) = (λ _. refl, refl)
plainness config (TurnsAway told ∷ past) =
    (λ _. plain_turning told, plain_behind (after_turning_away told) (plain_turning told))
plainness config (Began link server reading ∷ past) = (λ _. refl, refl)
plainness config (ClientBytes bytes ∷ past) = (λ _. refl, refl)
plainness config (LinkReady link ∷ past) = (λ _. refl, refl)
plainness config (LinkBytes link bytes ∷ past) = (λ _. refl, refl)
plainness config (ClientGone ∷ past) = (λ _. plain_farewells (links past), plain_behind (farewells past) (plain_farewells (links past)))
plainness config (LinkLost link ∷ past) =
    (λ _. plain_loss_by (loss_of config link past) (ending config past), plain_behind (after_loss config link past) (plain_loss_by (loss_of config link past) (ending config past)))
plainness config (Ticks reading ∷ past) = (λ _. refl, refl)
plainness config (Routed words loads next found ∷ past) =
    (λ not. absurd cc, behind_route found _ next _ _ _)
plainness config (Comes link said ∷ past) =
    let plain = plain_coming config link said (asked_on link past) (reply_number past) past in
    (λ _. plain, plain_behind (after_coming config link said (asked_on link past) (reply_number past) past) plain)
plainness config (Connects said ∷ past) = (λ _. plain_connecting said, plain_behind (after_connecting said) (plain_connecting said))
plainness config (Takes judged number ∷ past) =
    let plain = plain_command judged number (status_of (transaction config past).state) in
    (λ _. plain, plain_behind (after_command judged number (status_of (transaction config past).state)) plain)
plainness config (Floods bytes ∷ past) = (λ _. refl, refl)
plainness config (Starves made number ∷ past) =
    let plain = plain_want (is_over past) made number (farewells past) (plain_farewells (links past)) in
    (λ _. plain, plain_behind (after_want (is_over past) made number (farewells past)) plain)
plainness config (Puts (Closes reason) ∷ past) =
    (λ _. plain_farewells (links past), plain_behind (farewells past) (plain_farewells (links past)))
plainness config (Puts (Hands packets) ∷ past) = given config (Hands packets) past (plainness config past).1
plainness config (Puts (Tells number tell) ∷ past) = given config (Tells number tell) past (plainness config past).1
plainness config (Puts Routes ∷ past) = given config Routes past (plainness config past).1
plainness config (Puts (Records server gtid) ∷ past) = given config (Records server gtid) past (plainness config past).1
plainness config (Puts (Opens link server login) ∷ past) = given config (Opens link server login) past (plainness config past).1
plainness config (Puts (LogsInto link packets) ∷ past) = given config (LogsInto link packets) past (plainness config past).1
plainness config (Puts (Sends link purpose) ∷ past) = given config (Sends link purpose) past (plainness config past).1
plainness config (Puts (Forgets link id) ∷ past) = given config (Forgets link id) past (plainness config past).1
plainness config (Puts (Drops link cause) ∷ past) = given config (Drops link cause) past (plainness config past).1

-- what is owed is plain, but for the direct answer to the worker's
pub plain_unless_answered : (config : Config) (past : List Item) → is_answered past ≡ false → is_plain (owed config past) ≡ true
plain_unless_answered config past not_answered = (plainness config past).0 not_answered

-- a step that is plain opens no link
opened_plainly : (put : Put) (others : List Put) → is_plain (put ∷ others) ≡ true → opens (Puts put) ≡ None
opened_plainly (Hands packets) others p = refl
opened_plainly (Tells number tell) others p = refl
opened_plainly Routes others p = refl
opened_plainly (Records server gtid) others p = refl
opened_plainly (Opens link server login) others p = absurd cc
opened_plainly (LogsInto link packets) others p = refl
opened_plainly (Sends link purpose) others p = refl
opened_plainly (Forgets link id) others p = refl
opened_plainly (Drops link cause) others p = refl
opened_plainly (Closes reason) others p = refl

due_opens_none : {config : Config} {past : List Item} {item : Item} → Due config past item → opens item ≡ None
due_opens_none (comes has a it) = refl
due_opens_none (connects p f c) = refl
due_opens_none (takes p f) = refl

pub step_opens_none : {config : Config} {past : List Item} {item : Item} → Step config past item → is_plain (owed config past) ≡ true
    → opens item ≡ None
step_opens_none (pays {put = put} {others = others} o) plain = opened_plainly put others (rw o at plain)
step_opens_none (asks o n p g w) plain = refl
step_opens_none (prepares o n has f) plain = refl
step_opens_none (forgets o n has f t) plain = refl
step_opens_none (plays o n has f t s) plain = refl
step_opens_none (sends o n p s g f t d i c) plain = refl
step_opens_none (waits_first o n p s g f t d c) plain = refl
step_opens_none (probes_first o n p s g f t d c) plain = refl
step_opens_none (floods o n p above) plain = refl
step_opens_none (reads o n due) plain = due_opens_none due

due_unanswered : {config : Config} {past : List Item} {item : Item} → Due config past item → is_answered (item ∷ past) ≡ false
due_unanswered (comes has a it) = refl
due_unanswered (connects p f c) = refl
due_unanswered (takes p f) = refl

pub step_unanswered : {config : Config} {past : List Item} {item : Item} → Step config past item → is_answered (item ∷ past) ≡ false
step_unanswered (pays o) = refl
step_unanswered (asks o n p g w) = refl
step_unanswered (prepares o n has f) = refl
step_unanswered (forgets o n has f t) = refl
step_unanswered (plays o n has f t s) = refl
step_unanswered (sends o n p s g f t d i c) = refl
step_unanswered (waits_first o n p s g f t d c) = refl
step_unanswered (probes_first o n p s g f t d c) = refl
step_unanswered (floods o n p above) = refl
step_unanswered (reads o n due) = due_unanswered due

-- so behind one step all are plain
pub goes_plainly : {config : Config} {past now : List Item} → GoesOn config past now → is_plain (owed config past) ≡ true
    → is_plain (owed config now) ≡ true
goes_plainly stays plain = plain
goes_plainly {config} (goes_then {now = now} {item = item} before is_next) plain =
    plain_unless_answered config (item ∷ now) (step_unanswered (of_next config now item is_next))

-- A session that asks owes nothing, and isn't over

no_question : (found : Target) (link : Option ℕ) (next : ℕ) (login : Option Login) (late : Bool) (number : ℕ) (others : List Put)
    → after_route found link next login late number ≡ Routes ∷ others → ⊥
no_question Nowhere link next login true number others e = cc
no_question Nowhere link next login false number others e = cc
no_question (Primary server) None next (Some login) late number others e = cc
no_question (Primary server) None next None late number others e = cc
no_question (Primary server) (Some link) next login late number others e = cc
no_question (Replica server) None next (Some login) late number others e = cc
no_question (Replica server) None next None late number others e = cc
no_question (Replica server) (Some link) next login late number others e = cc

owes_no_question : (config : Config) (past : List Item) (others : List Put) → owed config past ≡ Routes ∷ others → ⊥
owes_no_question config past others o = by_test (is_answered past) refl
  where
    by_answer : (past : List Item) → is_answered past ≡ true → owed config past ≡ Routes ∷ others → ⊥
    by_answer [] t e = absurd cc
    by_answer (Routed words loads next found ∷ past) t e =
        no_question found _ next _ _ _ others e
    by_answer (Accepted session scramble reading ∷ past) t e = absurd cc
    by_answer (TurnsAway told ∷ past) t e = absurd cc
    by_answer (Began link server reading ∷ past) t e = absurd cc
    by_answer (ClientBytes bytes ∷ past) t e = absurd cc
    by_answer (LinkReady link ∷ past) t e = absurd cc
    by_answer (LinkBytes link bytes ∷ past) t e = absurd cc
    by_answer (ClientGone ∷ past) t e = absurd cc
    by_answer (LinkLost link ∷ past) t e = absurd cc
    by_answer (Ticks reading ∷ past) t e = absurd cc
    by_answer (Comes link said ∷ past) t e = absurd cc
    by_answer (Connects said ∷ past) t e = absurd cc
    by_answer (Takes judged number ∷ past) t e = absurd cc
    by_answer (Floods bytes ∷ past) t e = absurd cc
    by_answer (Puts put ∷ past) t e = absurd cc
    by_answer (Starves made number ∷ past) t e = absurd cc

    by_test : (test : Bool) → is_answered past ≡ test → ⊥
    by_test true t = by_answer past t o
    by_test false t = let plain : false ≡ true = rw o at (plain_unless_answered config past t) in cc

-- what is true where a session asks
abbrev Open : Config → List Item → Type 0
Open config past = (owed config past ≡ []) × (is_over past ≡ false)

clash : {A : Type 0} {asks : Bool} → asks ≡ false → asks ≡ true → A
clash none some = let both : false ≡ true = sym none ∙ some in absurd cc

paid_open : (config : Config) (put : Put) (others : List Put) (past : List Item) → owed config past ≡ put ∷ others
    → asking past ≡ false → asking (Puts put ∷ past) ≡ true → Open config (Puts put ∷ past)
paid_open config Routes others past o none a = absurd (owes_no_question config past others o)
paid_open config (Records server gtid) others past o none a = clash none a
paid_open config (Hands packets) others past o none a = clash none a
paid_open config (Tells number tell) others past o none a = clash none a
paid_open config (Opens link server its) others past o none a = clash none a
paid_open config (LogsInto link packets) others past o none a = clash none a
paid_open config (Sends link purpose) others past o none a = clash none a
paid_open config (Forgets link id) others past o none a = clash none a
paid_open config (Drops link cause) others past o none a = clash none a
paid_open config (Closes reason) others past o none a = clash none a

due_open : {config : Config} {past : List Item} {item : Item} → Due config past item → asking past ≡ false
    → asking (item ∷ past) ≡ true → Open config (item ∷ past)
due_open (comes has a it) none some = clash none some
due_open (connects p f c) none some = clash none some
due_open (takes p f) none some = clash none some

step_open : {config : Config} {past : List Item} {item : Item} → Step config past item → asking past ≡ false
    → asking (item ∷ past) ≡ true → Open config (item ∷ past)
step_open {config} {past} (pays {put = put} {others = others} o) none some = paid_open config put others past o none some
step_open (asks o n p g w) none some = (rw o refl, n)
step_open (prepares o n has f) none some = clash none some
step_open (forgets o n has f t) none some = clash none some
step_open (plays o n has f t s) none some = clash none some
step_open (sends o n p s g f t d i c) none some = clash none some
step_open (waits_first o n p s g f t d c) none some = clash none some
step_open (probes_first o n p s g f t d c) none some = clash none some
step_open (floods o n p above) none some = clash none some
step_open (reads o n due) none some = due_open due none some

input_open : (config : Config) (item : Item) (past : List Item) → IsInput item past → asking past ≡ false
    → asking (item ∷ past) ≡ true → Open config (item ∷ past)
input_open config (ClientBytes bytes) past input none some = clash none some
input_open config ClientGone past input none some = clash none some
input_open config (LinkReady link) past input none some = clash none some
input_open config (LinkBytes link bytes) past input none some = clash none some
input_open config (LinkLost link) past input none some = clash none some
input_open config (Ticks reading) past input none some = clash none some
input_open config _ past input none some = absurd input

begins_open : (config : Config) (item : Item) → IsBeginning item → asking (item ∷ []) ≡ true → Open config (item ∷ [])
begins_open config (Accepted session scramble reading) its some = absurd cc
begins_open config (TurnsAway told) its some = absurd cc
begins_open config (Began link server reading) its some = absurd cc
begins_open config _ its some = absurd its

open_asking : {config : Config} {past : List Item} → IsRecord config past → asking past ≡ true → Open config past
open_asking {config} (begins {item = item} its) some = begins_open config item its some
open_asking {config} (record_steps {past = past} {item = item} legal is_next) some =
    step_open (of_next config past item is_next) (goes_unasking config past item is_next) some
open_asking (answers legal asked) some = absurd cc
open_asking {config} (hears {past = past} {item = item} legal rests none n input) some = input_open config item past input none some
open_asking (starves legal once can its) some = absurd cc

pub asks_owing_nothing : {config : Config} {past : List Item} → IsRecord config past → asking past ≡ true → owed config past ≡ []
asks_owing_nothing legal some = (open_asking legal some).0

pub asks_open : {config : Config} {past : List Item} → IsRecord config past → asking past ≡ true → is_over past ≡ false
asks_open legal some = (open_asking legal some).1
