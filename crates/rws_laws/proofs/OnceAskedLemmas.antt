-- A command costs at most one question before it for each time it is routed.
use Rattle.std.proofs.Common.{◌≡◌, ℕ, ◌+◌, ◌≤◌, Bool, true, false, List, [], ◌∷◌, ◌++◌, drop, refl, sym, ap, subst, ◌∙◌, arith, eqb-true, inl, inr, Option, Some, None}
use Rattle.std.specs.Prelude.{◌⊎◌, ◌==◌, nat_le, nat_eq, Result, Ok, Err, codes, if◌then◌else◌}
use Rattle.std.specs.Cmp.Lexicographic.{pointwise}
use Rattle.std.proofs.lemmas.Bool.{eq-eqb}
use Rattle.rws_wire.specs.declared.drop_cause.DropCause.{DropCause}
use Rattle.rws_wire.specs.declared.drop_cause.DropCause.TheVariants.{End}
use Rattle.rws_wire.specs.declared.close_reason.CloseReason.TheVariants.{Memory}
use Rattle.rws_wire.specs.Payloads.{first_payload}
use Rattle.rws_gtid.specs.declared.Gtid.{Gtid}
use Rattle.rws_gtid.specs.declared.GtidFault.{GtidFault}
use Rattle.rws_gtid.specs.Parsing.{position_in}
use Rattle.rws_causal.specs.declared.causal.Causal.{Causal}
use Rattle.rws_causal.specs.declared.causal.Causal.TheVariants.{Go, TryPrimary, Wait as WaitsFirst, Probe as ProbesFirst, Stale, Unreadable}
use Rattle.rws_causal.specs.Rules.{after_probe, after_wait, at_position, reached}
use Rattle.rws_result.specs.OneValues.{value_of}
use Rattle.rws_routing.specs.declared.routing.Check.{Check}
use Rattle.rws_routing.specs.declared.routing.Check.TheVariants.{Wait, Probe}
use Rattle.rws_routing.specs.declared.routing.Routing.{Routing}
use Rattle.rws_routing.specs.Routings.{is_at, lost, tried_by}
use Rattle.rws_reply.specs.declared.kind.Outcome.{Outcome}
use Rattle.rws_reply.specs.declared.kind.Progress.TheVariants.{More, Whole as Ends}
use Rattle.rws_reply.specs.declared.role.Role.{Role}
use Rattle.rws_reply.specs.Replies.{Payload}
use Rattle.rws_link.specs.declared.step.LinkStep.{LinkStep}
use Rattle.rws_link.specs.declared.step.LinkStep.TheVariants as steps
use Rattle.rws_link.specs.Stepping.{Exchange, Rests, with_part}
use Rattle.rws_config.specs.declared.config.Config.{Config}
use Rattle.rws_config.specs.declared.limits.TheConstants.{SERVER_PAYLOAD}
use Rattle.rws_commands.specs.declared.proxy_error.ProxyError.{ProxyError}
use Rattle.rws_commands.specs.declared.proxy_error.ProxyError.TheVariants.{UnknownCommand, NotSupported, UnknownStatement, BadExecute, TooManyStatements, NotInReadOnly, TooManyConnections, CommandTooLarge, NoPrimary, PrimaryBehind, OutOfMemory}
use Rattle.rws_record.specs.Item.{Item, Purpose, Put}
use Rattle.rws_record.specs.Item.Item.{Accepted, TurnsAway, Began, ClientBytes, LinkReady, LinkBytes, ClientGone, LinkLost, Ticks, Routed, Comes, Connects, Takes, Floods, Puts, Starves}
use Rattle.rws_record.specs.Item.Put.{Hands, Tells, Records, Routes, Opens, LogsInto, Sends, Forgets, Drops, Closes}
use Rattle.rws_record.specs.Item.Purpose.{Prepares, Asks, Plays, Waits, Probes}
use Rattle.rws_record.specs.Item.Tell.{Passes, Owns, Refuses}
use Rattle.rws_record.specs.Values.{asked_on, awaited, checked_by, checked_on, exchange, heard_check, is_over, is_starved, kind_of, linked, or_link, pending, pinned, reply_number, routing, sent_all, sent_for, server_of, unread, value_on, valued_by}
use Rattle.rws_record.specs.Rules.{after_check, after_coming, commit_by, owed, recording_commit}
use Rattle.rws_record.specs.Record.{IsBeginning, IsInput, IsRecord}
use Rattle.rws_record.specs.Record.IsRecord.{begins, steps as goes, answers as answered_by_worker, hears, starves}
use Rattle.rws_record.proofs.OpeningLemmas.{asks_owing_nothing}
use Rattle.rws_record.proofs.StepLemmas.{Step, of_next, rests_owing_nothing}
use Rattle.rws_record.proofs.StepLemmas.Step.{pays, asks, prepares, forgets, plays, sends, waits_first, probes_first, floods, reads}
use Rattle.rws_laws.specs.Causes.{AreCaused, AsksFirst, IsRead}
use Rattle.rws_laws.specs.Laws.{OneQuestionARoute}
use Rattle.rws_laws.specs.Reads.{asked_first}
use Rattle.rws_laws.specs.Servers.{Entered, LogsOn, asks_first}
use Rattle.rws_laws.specs.Servers.Entered.{entered}
use Rattle.rws_laws.specs.Servers.LogsOn.{logs_on}
use Rattle.rws_laws.proofs.CameLemmas.{bytes_keep, ready_keeps}
use Rattle.rws_laws.proofs.CausesLemmas.{causes}
use Rattle.rws_laws.proofs.CheckLemmas.{awaits_so, lost_wants, part_owes}
use Rattle.rws_laws.proofs.ItemLemmas.{by_items}
use Rattle.rws_laws.proofs.LinksLemmas.{farewell_first}
use Rattle.rws_laws.proofs.PinnedLemmas.{asked_nowhere, pinned_nowhere}
use Rattle.rws_laws.proofs.Sound.{same_some}
use Rattle.rws_laws.proofs.WantedLemmas.{Ends as AtEnd, legal_ends, no_end}
use Rattle.rws_laws.proofs.WantedLemmas.Ends.{tells as tells_want, closes as closes_then, leaves as leaves_links}

-- What is heard of a question

heard_none : (checked : Option Causal) (r : Routing) → r.check ≡ None → (heard_check checked r).check ≡ None
heard_none None r n = n
heard_none (Some Go) r n = refl
heard_none (Some TryPrimary) r n = refl
heard_none (Some (WaitsFirst gtid)) r n = n
heard_none (Some (ProbesFirst gtid)) r n = n
heard_none (Some (Stale wanted found)) r n = n
heard_none (Some Unreadable) r n = n

heard_nowhere : (checked : Option Causal) (r : Routing) → r.assigned ≡ None → (heard_check checked r).assigned ≡ None
heard_nowhere None r n = n
heard_nowhere (Some Go) r n = n
heard_nowhere (Some TryPrimary) r n = refl
heard_nowhere (Some (WaitsFirst gtid)) r n = n
heard_nowhere (Some (ProbesFirst gtid)) r n = n
heard_nowhere (Some (Stale wanted found)) r n = n
heard_nowhere (Some Unreadable) r n = n

-- A command that something is to be asked for is in a session that isn't pinned

data Free (config : Config) (past : List Item) : Type 0 where
  none_waits : pending past ≡ None → Free config past
  none_checked : (routing config past).check ≡ None → Free config past
  none_pinned : pinned config past ≡ None → Free config past

free_on : {config : Config} {past now : List Item} → (pending past ≡ None → pending now ≡ None)
    → ((routing config past).check ≡ None → (routing config now).check ≡ None) → (pinned config past ≡ None → pinned config now ≡ None)
    → Free config past → Free config now
free_on p c n (none_waits is) = none_waits (p is)
free_on p c n (none_checked is) = none_checked (c is)
free_on p c n (none_pinned is) = none_pinned (n is)

refused_free : (config : Config) (past : List Item) (number : ℕ) (error : ProxyError) → Free config past → Free config (Puts (Tells number (Refuses error)) ∷ past)
refused_free config past number NoPrimary its = none_waits refl
refused_free config past number (PrimaryBehind wanted found) its = none_waits refl
refused_free config past number UnknownCommand its = free_on (λ p. p) (λ c. c) (λ n. n) its
refused_free config past number NotSupported its = free_on (λ p. p) (λ c. c) (λ n. n) its
refused_free config past number UnknownStatement its = free_on (λ p. p) (λ c. c) (λ n. n) its
refused_free config past number BadExecute its = free_on (λ p. p) (λ c. c) (λ n. n) its
refused_free config past number TooManyStatements its = free_on (λ p. p) (λ c. c) (λ n. n) its
refused_free config past number NotInReadOnly its = free_on (λ p. p) (λ c. c) (λ n. n) its
refused_free config past number TooManyConnections its = free_on (λ p. p) (λ c. c) (λ n. n) its
refused_free config past number CommandTooLarge its = free_on (λ p. p) (λ c. c) (λ n. n) its
refused_free config past number OutOfMemory its = free_on (λ p. p) (λ c. c) (λ n. n) its

free : (config : Config) (past : List Item) → AreCaused config past → Free config past
free config [] caused = none_checked refl
free config (Takes it number ∷ past) caused = none_checked refl
free config (Routed words loads next found ∷ past) caused =
    none_pinned (pinned_nowhere (pinned config past) (routing config past).assigned (asked_nowhere config past caused.1.0 caused.1.1 caused.2))
free config (Comes link said ∷ past) caused =
    free_on (λ p. p) (λ c. heard_none (checked_on link said past) (routing config past) c) (λ n. n) (free config past caused.2)
free config (LinkLost gone ∷ past) caused = free_on (λ p. p) (λ c. lost_wants gone (routing config past) ∙ c) (λ n. n) (free config past caused.2)
free config (Puts (Drops gone cause) ∷ past) caused =
    free_on (λ p. p) (λ c. lost_wants gone (routing config past) ∙ c) (λ n. n) (free config past caused.1)
free config (Puts (Tells number (Passes link command payload (Some ending) recording)) ∷ past) caused = none_waits refl
free config (Puts (Tells number (Refuses error)) ∷ past) caused = refused_free config past number error (free config past caused.1)
free config (Puts (Sends link (Asks command id)) ∷ past) caused = none_checked caused.0.10
free config (Accepted session scramble reading ∷ past) caused = free_on (λ p. p) (λ c. c) (λ n. n) (free config past caused.2)
free config (TurnsAway told ∷ past) caused = free_on (λ p. p) (λ c. c) (λ n. n) (free config past caused.2)
free config (Began link server reading ∷ past) caused = free_on (λ p. p) (λ c. c) (λ n. n) (free config past caused.2)
free config (ClientBytes bytes ∷ past) caused = free_on (λ p. p) (λ c. c) (λ n. n) (free config past caused.2)
free config (LinkReady link ∷ past) caused = free_on (λ p. p) (λ c. c) (λ n. n) (free config past caused.2)
free config (LinkBytes link bytes ∷ past) caused = free_on (λ p. p) (λ c. c) (λ n. n) (free config past caused.2)
free config (ClientGone ∷ past) caused = free_on (λ p. p) (λ c. c) (λ n. n) (free config past caused.2)
free config (Ticks reading ∷ past) caused = free_on (λ p. p) (λ c. c) (λ n. n) (free config past caused.2)
free config (Connects said ∷ past) caused = free_on (λ p. p) (λ c. c) (λ n. n) (free config past caused.2)
free config (Floods bytes ∷ past) caused = free_on (λ p. p) (λ c. c) (λ n. n) (free config past caused.2)
free config (Starves made number ∷ past) caused = free_on (λ p. p) (λ c. c) (λ n. n) (free config past caused.3)
free config (Puts (Tells number (Passes link command payload None recording)) ∷ past) caused = free_on (λ p. p) (λ c. c) (λ n. n) (free config past caused.1)
free config (Puts (Tells number (Owns status)) ∷ past) caused = free_on (λ p. p) (λ c. c) (λ n. n) (free config past caused.1)
free config (Puts (Hands packets) ∷ past) caused = free_on (λ p. p) (λ c. c) (λ n. n) (free config past caused.1)
free config (Puts (Records server gtid) ∷ past) caused = free_on (λ p. p) (λ c. c) (λ n. n) (free config past caused.1)
free config (Puts Routes ∷ past) caused = free_on (λ p. p) (λ c. c) (λ n. n) (free config past caused.1)
free config (Puts (Opens link server login) ∷ past) caused = free_on (λ p. p) (λ c. c) (λ n. n) (free config past caused.1)
free config (Puts (LogsInto link packets) ∷ past) caused = free_on (λ p. p) (λ c. c) (λ n. n) (free config past caused.1)
free config (Puts (Forgets link id) ∷ past) caused = free_on (λ p. p) (λ c. c) (λ n. n) (free config past caused.1)
free config (Puts (Closes reason) ∷ past) caused = free_on (λ p. p) (λ c. c) (λ n. n) (free config past caused.1)
free config (Puts (Sends link Prepares) ∷ past) caused = free_on (λ p. p) (λ c. c) (λ n. n) (free config past caused.1)
free config (Puts (Sends link (Plays entry)) ∷ past) caused = free_on (λ p. p) (λ c. c) (λ n. n) (free config past caused.1)
free config (Puts (Sends link (Waits gtid seconds)) ∷ past) caused = free_on (λ p. p) (λ c. c) (λ n. n) (free config past caused.1)
free config (Puts (Sends link (Probes gtid)) ∷ past) caused = free_on (λ p. p) (λ c. c) (λ n. n) (free config past caused.1)

-- so a question goes on the link that the command is assigned to
assigned_so : {config : Config} {past : List Item} {link : ℕ} {check : Check} → Free config past → AsksFirst config link check past
    → (routing config past).assigned ≡ Some link
assigned_so (none_waits n) its = let clash : None ≡ Some its.command = sym n ∙ its.pending.waits in absurd cc
assigned_so {check = check} (none_checked n) its = let clash : None ≡ Some check = sym n ∙ its.wanted in absurd cc
assigned_so {config} {past} (none_pinned n) its = sym (ap (λ (on : Option ℕ). or_link on (routing config past).assigned) n) ∙ its.goes

-- Nothing can be asked before the next route

-- what is given out next answers the command, or gives up the link that it is assigned to
data Settles (assigned : Option ℕ) : List Put → Type 0 where
  answers_it : {number wanted found : ℕ} {others : List Put} → Settles assigned (Tells number (Refuses (PrimaryBehind wanted found)) ∷ others)
  gives_up : {link : ℕ} {cause : DropCause} {others : List Put} → assigned ≡ Some link → Settles assigned (Drops link cause ∷ others)
  behind_commit : {server : ℕ} {gtid : Gtid} {others : List Put} → Settles assigned others → Settles assigned (Records server gtid ∷ others)

-- a question is out on the link that the command is assigned to
record Waiting (config : Config) (past : List Item) : Type 0 where
  link : ℕ
  e : Exchange
  check : Check
  to : (routing config past).assigned ≡ Some link
  owes : exchange link past ≡ Some e
  asked : asks_first (asked_on link past) ≡ Some check

data Settled (config : Config) (past : List Item) : Type 0 where
  answered : pending past ≡ None → Settled config past
  nothing_left : (routing config past).check ≡ None → Settled config past
  unassigned : (routing config past).assigned ≡ None → Settled config past
  awaits : Waiting config past → Settled config past
  owing : Settles (routing config past).assigned (owed config past) → Settled config past
  starving : is_starved past ≡ true → Settled config past

none_settles : {A : Type 0} {assigned : Option ℕ} {list : List Put} → Settles assigned list → list ≡ [] → A
none_settles answers_it is = absurd cc
none_settles (gives_up a) is = absurd cc
none_settles (behind_commit its) is = absurd cc

sends_settle : {A : Type 0} {assigned : Option ℕ} {list others : List Put} {to : ℕ} {purpose : Purpose} → Settles assigned list
    → list ≡ Sends to purpose ∷ others → A
sends_settle answers_it is = absurd cc
sends_settle (gives_up a) is = absurd cc
sends_settle (behind_commit its) is = absurd cc

recorded_settles : {assigned : Option ℕ} (server : ℕ) (commit : Option Gtid) (puts : List Put) → Settles assigned puts
    → Settles assigned (recording_commit server commit ++ puts)
recorded_settles server (Some gtid) puts its = behind_commit its
recorded_settles server None puts its = its

-- A link is lost

lost_nowhere : (gone : ℕ) (r : Routing) → r.assigned ≡ None → (lost gone r).assigned ≡ None
lost_nowhere gone r n = by_test (is_at gone r.assigned)
  where
    by_test : (test : Bool) → (if test then record r { assigned = None; tried = tried_by r.target r.tried } else r).assigned ≡ None
    by_test true = refl
    by_test false = n

lost_here : (gone link : ℕ) (r : Routing) → r.assigned ≡ Some link → (link == gone) ≡ true → (lost gone r).assigned ≡ None
lost_here gone link r a t = by_test (is_at gone r.assigned) (ap (is_at gone) a ∙ t)
  where
    by_test : (test : Bool) → test ≡ true → (if test then record r { assigned = None; tried = tried_by r.target r.tried } else r).assigned ≡ None
    by_test true t = refl
    by_test false t = absurd cc

lost_there : (gone link : ℕ) (r : Routing) → r.assigned ≡ Some link → (link == gone) ≡ false → (lost gone r).assigned ≡ Some link
lost_there gone link r a t = by_test (is_at gone r.assigned) (ap (is_at gone) a ∙ t)
  where
    by_test : (test : Bool) → test ≡ false
        → (if test then record r { assigned = None; tried = tried_by r.target r.tried } else r).assigned ≡ Some link
    by_test true t = absurd cc
    by_test false t = a

lost_settled : {config : Config} {past now : List Item} (gone : ℕ) → routing config now ≡ lost gone (routing config past)
    → ((link : ℕ) → exchange link now ≡ exchange link past) → ((link : ℕ) → asked_on link now ≡ asked_on link past) → Waiting config past
    → Settled config now
lost_settled {config} {past} {now} gone r x q w = by_test (w.link == gone) refl
  where
    by_test : (test : Bool) → (w.link == gone) ≡ test → Settled config now
    by_test true t = unassigned (ap (λ (its : Routing). its.assigned) r ∙ lost_here gone w.link (routing config past) w.to t)
    by_test false t = awaits (record {
      link = w.link;
      e = w.e;
      check = w.check;
      to = ap (λ (its : Routing). its.assigned) r ∙ lost_there gone w.link (routing config past) w.to t;
      owes = x w.link ∙ w.owes;
      asked = ap asks_first (q w.link) ∙ w.asked;
    })

-- Something is sent on a link that rests

sends_settled : (config : Config) (past : List Item) (to : ℕ) (purpose : Purpose) → linked to past ≡ Rests → Waiting config past
    → Settled config (Puts (Sends to purpose) ∷ past)
sends_settled config past to purpose rests w = by_test (to == w.link) refl
  where
    by_test : (test : Bool) → (to == w.link) ≡ test → Settled config (Puts (Sends to purpose) ∷ past)
    by_test true t =
        let none : exchange w.link past ≡ None = subst (λ (l : ℕ). exchange l past ≡ None) (eqb-true to w.link t) (ap awaited rests) in
        let clash : None ≡ Some w.e = sym none ∙ w.owes in absurd cc
    by_test false t = awaits (record { link = w.link; e = w.e; check = w.check; to = w.to; owes = rw t w.owes; asked = rw t w.asked })

-- A link says something

-- the end of a reply to a question
data Answer : Causal → Type 0 where
  goes_now : Answer Go
  tries_primary : Answer TryPrimary
  is_stale : {wanted found : ℕ} → Answer (Stale wanted found)
  is_unreadable : Answer Unreadable

wait_answer : (value : Option (List ℕ)) → Answer (after_wait value)
wait_answer None = tries_primary
wait_answer (Some text) = by_test (pointwise nat_eq text (codes "0"))
  where
    by_test : (test : Bool) → Answer (if test then Go else TryPrimary)
    by_test true = goes_now
    by_test false = tries_primary

probe_answer : (gtid : Gtid) (value : Option (List ℕ)) → Answer (after_probe gtid value)
probe_answer gtid None = is_unreadable
probe_answer gtid (Some list) = by_read (position_in gtid.domain list)
  where
    by_test : (wanted found : ℕ) (test : Bool) → Answer (if test then Go else Stale wanted found)
    by_test wanted found true = goes_now
    by_test wanted found false = is_stale

    by_read : (read : Result (Option Gtid) GtidFault) → Answer (at_position gtid.sequence read)
    by_read (Ok position) = by_test gtid.sequence (reached position) (nat_le gtid.sequence (reached position))
    by_read (Err fault) = is_unreadable

-- one that logs in owes no reply
logs_in_still : {link : ℕ} {packets : List ℕ} {past now : List Item} → LogsOn link packets now → now ≡ Comes link (steps.Send packets) ∷ past
    → exchange link past ≡ None
logs_in_still {link} {past = past} (logs_on {past = below} came answer) is =
    let same : below ≡ past = cc in subst (λ (p : List Item). exchange link p ≡ None) same (ap awaited came.state)

logged_in_still : {link : ℕ} {past now : List Item} → Entered link now → now ≡ Comes link steps.LoggedIn ∷ past → exchange link past ≡ None
logged_in_still {link} {past = past} (entered {past = below} came taken) is =
    let same : below ≡ past = cc in subst (λ (p : List Item). exchange link p ≡ None) same (ap awaited came.state)

module _ (config : Config) (past : List Item) (link : ℕ) (e : Exchange) (check : Check) (to : (routing config past).assigned ≡ Some link)
    (owes : exchange link past ≡ Some e) (asked : asks_first (asked_on link past) ≡ Some check) where
  module _ (payload : Payload) (its : Role) (outcome : Outcome) (next : ℕ) (behind : Bool) where
    abbrev whole : LinkStep
    whole = steps.Part payload its (Ends outcome) next behind

    -- the commit that the reply to a question names
    abbrev commit : Purpose → Option Gtid
    commit purpose = commit_by config.gtid_domain its payload (Some purpose)

    -- what the reply leads to, where it is answered so
    abbrev gives : Purpose → Option Causal → List Put
    gives purpose checked = recording_commit (server_of link past) (commit purpose) ++ after_check link checked behind (reply_number past)

    by_owed : (purpose : Purpose) (causal : Causal) → checked_on link whole past ≡ Some causal
        → owed config (Comes link whole ∷ past) ≡ gives purpose (checked_on link whole past)
        → Settles (routing config (Comes link whole ∷ past)).assigned (after_check link (Some causal) behind (reply_number past))
        → Settled config (Comes link whole ∷ past)
    by_owed purpose causal c o settles =
        owing (subst (Settles (routing config (Comes link whole ∷ past)).assigned) (sym (o ∙ ap (gives purpose) c))
        (recorded_settles (server_of link past) (commit purpose) (after_check link (Some causal) behind (reply_number past)) settles))

    by_answer : (purpose : Purpose) {causal : Causal} → Answer causal → checked_on link whole past ≡ Some causal
        → owed config (Comes link whole ∷ past) ≡ gives purpose (checked_on link whole past) → Settled config (Comes link whole ∷ past)
    by_answer purpose goes_now c o = nothing_left (ap (λ (found : Option Causal). (heard_check found (routing config past)).check) c)
    by_answer purpose tries_primary c o = unassigned (ap (λ (found : Option Causal). (heard_check found (routing config past)).assigned) c)
    by_answer purpose (is_stale {wanted = wanted} {found = found}) c o = by_owed purpose (Stale wanted found) c o answers_it
    by_answer purpose is_unreadable c o =
        by_owed purpose Unreadable c o (gives_up (ap (λ (found : Option Causal). (heard_check found (routing config past)).assigned) c ∙ to))

    by_asked : (purpose : Option Purpose) → asked_on link past ≡ purpose → Settled config (Comes link whole ∷ past)
    by_asked None q = let clash : None ≡ Some check = sym (ap asks_first q) ∙ asked in absurd cc
    by_asked (Some Prepares) q = let clash : None ≡ Some check = sym (ap asks_first q) ∙ asked in absurd cc
    by_asked (Some (Asks command id)) q = let clash : None ≡ Some check = sym (ap asks_first q) ∙ asked in absurd cc
    by_asked (Some (Plays entry)) q = let clash : None ≡ Some check = sym (ap asks_first q) ∙ asked in absurd cc
    by_asked (Some (Waits gtid seconds)) q =
        by_answer (Waits gtid seconds) (wait_answer (value_of (valued_by whole (Some (Waits gtid seconds)) (value_on link past))))
        (ap (λ (a : Option Purpose). checked_by whole a (valued_by whole a (value_on link past))) q)
        (ap (λ (a : Option Purpose). after_coming config link whole a (reply_number past) past) q)
    by_asked (Some (Probes gtid)) q =
        by_answer (Probes gtid) (probe_answer gtid (value_of (valued_by whole (Some (Probes gtid)) (value_on link past))))
        (ap (λ (a : Option Purpose). checked_by whole a (valued_by whole a (value_on link past))) q)
        (ap (λ (a : Option Purpose). after_coming config link whole a (reply_number past) past) q)

  came_here : (said : LinkStep) → IsRead config (Comes link said) past → Settled config (Comes link said ∷ past)
  came_here (steps.Part payload its More next more) read =
      let state = awaits_so (linked link past) read.0 read.3 in
      awaits (record {
        link = link;
        e = with_part payload next read.0;
        check = check;
        to = to;
        owes = part_owes past link read.0 state.0 payload read.1 next its More more state.1
            (ap (λ (bytes : List ℕ). first_payload SERVER_PAYLOAD read.0.next bytes) (sym (ap unread state.1)) ∙ read.4) read.5 read.6;
        asked = asked;
      })
  came_here (steps.Part payload its (Ends outcome) next more) read = by_asked payload its outcome next more (asked_on link past) refl
  came_here (steps.Lost cause) read = owing (gives_up to)
  came_here (steps.Send packets) read = let clash : None ≡ Some e = sym (logs_in_still read.0 refl) ∙ owes in absurd cc
  came_here steps.LoggedIn read = let clash : None ≡ Some e = sym (logged_in_still read.0 refl) ∙ owes in absurd cc
  came_here steps.Idle read = absurd read

-- another link
came_there : (config : Config) (past : List Item) (from : ℕ) (said : LinkStep) (w : Waiting config past) → (from == w.link) ≡ false
    → Settled config (Comes from said ∷ past)
came_there config past from said w t = by_checked (checked_on from said past) refl
  where
    still : (its : Option Causal) → checked_on from said past ≡ its → (heard_check its (routing config past)).assigned ≡ Some w.link
        → Settled config (Comes from said ∷ past)
    still its k a = awaits (record {
      link = w.link;
      e = w.e;
      check = w.check;
      to = ap (λ (found : Option Causal). (heard_check found (routing config past)).assigned) k ∙ a;
      owes = rw t w.owes;
      asked = w.asked;
    })

    by_checked : (its : Option Causal) → checked_on from said past ≡ its → Settled config (Comes from said ∷ past)
    by_checked None k = still None k w.to
    by_checked (Some Go) k = nothing_left (ap (λ (found : Option Causal). (heard_check found (routing config past)).check) k)
    by_checked (Some TryPrimary) k = unassigned (ap (λ (found : Option Causal). (heard_check found (routing config past)).assigned) k)
    by_checked (Some (WaitsFirst gtid)) k = still (Some (WaitsFirst gtid)) k w.to
    by_checked (Some (ProbesFirst gtid)) k = still (Some (ProbesFirst gtid)) k w.to
    by_checked (Some (Stale wanted found)) k = still (Some (Stale wanted found)) k w.to
    by_checked (Some Unreadable) k = still (Some Unreadable) k w.to

comes_settled : (config : Config) (past : List Item) (from : ℕ) (said : LinkStep) → IsRead config (Comes from said) past → Waiting config past
    → Settled config (Comes from said ∷ past)
comes_settled config past from said read w = by_test (from == w.link) refl
  where
    by_test : (test : Bool) → (from == w.link) ≡ test → Settled config (Comes from said ∷ past)
    by_test true t =
        let same : w.link ≡ from = sym (eqb-true from w.link t) in
        came_here config past from w.e w.check (w.to ∙ ap Some same) (subst (λ (l : ℕ). exchange l past ≡ Some w.e) same w.owes)
        (subst (λ (l : ℕ). asks_first (asked_on l past) ≡ Some w.check) same w.asked) said read
    by_test false t = came_there config past from said w t

-- What an item does

data Moves (config : Config) (item : Item) (past : List Item) : Type 0 where
  resets : asked_first (item ∷ past) ≡ 0 → Moves config item past
  stays : asked_first (item ∷ past) ≡ asked_first past → (pending past ≡ None → pending (item ∷ past) ≡ None)
      → ((routing config past).check ≡ None → (routing config (item ∷ past)).check ≡ None)
      → ((routing config past).assigned ≡ None → (routing config (item ∷ past)).assigned ≡ None)
      → (is_starved past ≡ true → is_starved (item ∷ past) ≡ true) → (Waiting config past → Settled config (item ∷ past)) → Moves config item past
  questions : (link : ℕ) (check : Check) (purpose : Purpose) → item ≡ Puts (Sends link purpose) → asked_first (item ∷ past) ≡ asked_first past + 1
      → AsksFirst config link check past → Waiting config (item ∷ past) → Moves config item past

quiet : {config : Config} {past : List Item} (item : Item) → asked_first (item ∷ past) ≡ asked_first past → pending (item ∷ past) ≡ pending past
    → (routing config (item ∷ past)).check ≡ (routing config past).check → (routing config (item ∷ past)).assigned ≡ (routing config past).assigned
    → (is_starved past ≡ true → is_starved (item ∷ past) ≡ true) → ((link : ℕ) → exchange link (item ∷ past) ≡ exchange link past)
    → ((link : ℕ) → asked_on link (item ∷ past) ≡ asked_on link past) → Moves config item past
quiet item a p c t s x q =
    stays a (λ n. p ∙ n) (λ n. c ∙ n) (λ n. t ∙ n) s (λ w.
    awaits (record {
      link = w.link;
      e = w.e;
      check = w.check;
      to = t ∙ w.to;
      owes = x w.link ∙ w.owes;
      asked = ap asks_first (q w.link) ∙ w.asked;
    }))

refused_moves : (config : Config) (past : List Item) (number : ℕ) (error : ProxyError) → Moves config (Puts (Tells number (Refuses error))) past
refused_moves config past number NoPrimary = stays refl (λ n. refl) (λ c. refl) (λ a. a) (λ s. s) (λ w. answered refl)
refused_moves config past number (PrimaryBehind wanted found) = stays refl (λ n. refl) (λ c. refl) (λ a. a) (λ s. s) (λ w. answered refl)
refused_moves config past number UnknownCommand = quiet (Puts (Tells number (Refuses UnknownCommand))) refl refl refl refl (λ s. s) (λ link. refl) (λ link. refl)
refused_moves config past number NotSupported = quiet (Puts (Tells number (Refuses NotSupported))) refl refl refl refl (λ s. s) (λ link. refl) (λ link. refl)
refused_moves config past number UnknownStatement = quiet (Puts (Tells number (Refuses UnknownStatement))) refl refl refl refl (λ s. s) (λ link. refl) (λ link. refl)
refused_moves config past number BadExecute = quiet (Puts (Tells number (Refuses BadExecute))) refl refl refl refl (λ s. s) (λ link. refl) (λ link. refl)
refused_moves config past number TooManyStatements = quiet (Puts (Tells number (Refuses TooManyStatements))) refl refl refl refl (λ s. s) (λ link. refl) (λ link. refl)
refused_moves config past number NotInReadOnly = quiet (Puts (Tells number (Refuses NotInReadOnly))) refl refl refl refl (λ s. s) (λ link. refl) (λ link. refl)
refused_moves config past number TooManyConnections = quiet (Puts (Tells number (Refuses TooManyConnections))) refl refl refl refl (λ s. s) (λ link. refl) (λ link. refl)
refused_moves config past number CommandTooLarge = quiet (Puts (Tells number (Refuses CommandTooLarge))) refl refl refl refl (λ s. s) (λ link. refl) (λ link. refl)
refused_moves config past number OutOfMemory = quiet (Puts (Tells number (Refuses OutOfMemory))) refl refl refl refl (λ s. s) (λ link. refl) (λ link. refl)

-- a question is out on its link then
asked_now : (config : Config) (past : List Item) (link : ℕ) (check : Check) (purpose : Purpose) (e : Exchange)
    → awaited (sent_all (sent_for purpose) (kind_of purpose)) ≡ Some e → asks_first (Some purpose) ≡ Some check → (routing config past).assigned ≡ Some link
    → Waiting config (Puts (Sends link purpose) ∷ past)
asked_now config past link check purpose e x q a =
    let itself : (link == link) ≡ true = eq-eqb link link refl in
    record { link = link; e = e; check = check; to = a; owes = rw itself x; asked = rw itself q }

put_moves : (config : Config) (past : List Item) (put : Put) → AreCaused config (Puts put ∷ past) → Moves config (Puts put) past
put_moves config past (Tells number (Passes link command payload (Some ending) recording)) caused =
    stays refl (λ n. refl) (λ c. c) (λ a. a) (λ s. s) (λ w. answered refl)
put_moves config past (Tells number (Refuses error)) caused = refused_moves config past number error
put_moves config past (Sends link (Waits gtid seconds)) caused =
    questions link (Wait gtid) (Waits gtid seconds) refl refl caused.0.0
    (asked_now config past link (Wait gtid) (Waits gtid seconds) _ refl refl (assigned_so (free config past caused.1) caused.0.0))
put_moves config past (Sends link (Probes gtid)) caused =
    questions link (Probe gtid) (Probes gtid) refl refl caused.0
    (asked_now config past link (Probe gtid) (Probes gtid) _ refl refl (assigned_so (free config past caused.1) caused.0))
put_moves config past (Sends link Prepares) caused =
    stays refl (λ n. n) (λ c. c) (λ a. a) (λ s. s) (sends_settled config past link Prepares caused.0.2)
put_moves config past (Sends link (Plays entry)) caused =
    stays refl (λ n. n) (λ c. c) (λ a. a) (λ s. s) (sends_settled config past link (Plays entry) caused.0.3)
put_moves config past (Sends link (Asks command id)) caused =
    stays refl (λ n. n) (λ c. c) (λ a. a) (λ s. s) (sends_settled config past link (Asks command id) caused.0.6)
put_moves config past (Drops gone cause) caused =
    stays refl (λ n. n) (λ c. lost_wants gone (routing config past) ∙ c) (λ a. lost_nowhere gone (routing config past) a) (λ s. s)
    (lost_settled gone refl (λ link. refl) (λ link. refl))
put_moves config past (Opens link server login) caused = resets (ap asked_first caused.0.0.answered)
put_moves config past (Tells number (Passes link command payload None recording)) caused = quiet (Puts (Tells number (Passes link command payload None recording))) refl refl refl refl (λ s. s) (λ at. refl) (λ at. refl)
put_moves config past (Tells number (Owns status)) caused = quiet (Puts (Tells number (Owns status))) refl refl refl refl (λ s. s) (λ link. refl) (λ link. refl)
put_moves config past (Hands packets) caused = quiet (Puts (Hands packets)) refl refl refl refl (λ s. s) (λ link. refl) (λ link. refl)
put_moves config past (Records server gtid) caused = quiet (Puts (Records server gtid)) refl refl refl refl (λ s. s) (λ link. refl) (λ link. refl)
put_moves config past (Routes) caused = quiet (Puts Routes) refl refl refl refl (λ s. s) (λ link. refl) (λ link. refl)
put_moves config past (LogsInto link packets) caused = quiet (Puts (LogsInto link packets)) refl refl refl refl (λ s. s) (λ at. refl) (λ at. refl)
put_moves config past (Forgets link id) caused = quiet (Puts (Forgets link id)) refl refl refl refl (λ s. s) (λ at. refl) (λ at. refl)
put_moves config past (Closes reason) caused = quiet (Puts (Closes reason)) refl refl refl refl (λ s. s) (λ link. refl) (λ link. refl)

moves_so : (config : Config) (item : Item) (past : List Item) → AreCaused config (item ∷ past) → Moves config item past
moves_so config (Puts put) past caused = put_moves config past put caused
moves_so config (Takes it number) past caused = resets refl
moves_so config (Routed words loads next found) past caused = resets refl
moves_so config (Began link server reading) past caused = resets (ap asked_first caused.1)
moves_so config (Comes link said) past caused =
    stays refl (λ n. n) (λ c. heard_none (checked_on link said past) (routing config past) c)
    (λ a. heard_nowhere (checked_on link said past) (routing config past) a) (λ s. s) (comes_settled config past link said caused.1)
moves_so config (LinkLost gone) past caused =
    stays refl (λ n. n) (λ c. lost_wants gone (routing config past) ∙ c) (λ a. lost_nowhere gone (routing config past) a) (λ s. s)
    (lost_settled gone refl (λ link. refl) (λ link. refl))
moves_so config (LinkReady ready) past caused = quiet (LinkReady ready) refl refl refl refl (λ s. s) (ready_keeps past ready) (λ link. refl)
moves_so config (LinkBytes from bytes) past caused = quiet (LinkBytes from bytes) refl refl refl refl (λ s. s) (bytes_keep past from bytes) (λ link. refl)
moves_so config (Starves made number) past caused = quiet (Starves made number) refl refl refl refl (λ s. refl) (λ link. refl) (λ link. refl)
moves_so config (Accepted session scramble reading) past caused = quiet (Accepted session scramble reading) refl refl refl refl (λ s. s) (λ link. refl) (λ link. refl)
moves_so config (TurnsAway told) past caused = quiet (TurnsAway told) refl refl refl refl (λ s. s) (λ link. refl) (λ link. refl)
moves_so config (ClientBytes bytes) past caused = quiet (ClientBytes bytes) refl refl refl refl (λ s. s) (λ link. refl) (λ link. refl)
moves_so config ClientGone past caused = quiet ClientGone refl refl refl refl (λ s. s) (λ link. refl) (λ link. refl)
moves_so config (Ticks reading) past caused = quiet (Ticks reading) refl refl refl refl (λ s. s) (λ link. refl) (λ link. refl)
moves_so config (Connects said) past caused = quiet (Connects said) refl refl refl refl (λ s. s) (λ link. refl) (λ link. refl)
moves_so config (Floods bytes) past caused = quiet (Floods bytes) refl refl refl refl (λ s. s) (λ link. refl) (λ link. refl)

-- Something is owed

pays_settled : (config : Config) (past : List Item) {put : Put} {others : List Put} → owed config past ≡ put ∷ others
    → Settles (routing config past).assigned (put ∷ others) → Settled config (Puts put ∷ past)
pays_settled config past o answers_it = answered refl
pays_settled config past o (gives_up {link = link} a) = unassigned (lost_here link link (routing config past) a (eq-eqb link link refl))
pays_settled config past o (behind_commit its) = owing (subst (Settles (routing config past).assigned) (sym (ap (drop 1) o)) its)

step_settled : {config : Config} {past : List Item} {item : Item} → Step config past item → Settles (routing config past).assigned (owed config past)
    → Settled config (item ∷ past)
step_settled {config} {past} (pays o) its =
    pays_settled config past o (subst (Settles (routing config past).assigned) o its)
step_settled (asks o n p g w) its = none_settles its o
step_settled (prepares o n has f) its = none_settles its o
step_settled (plays o n has f t s) its = none_settles its o
step_settled (sends o n p s g f t d i v) its = none_settles its o
step_settled (waits_first o n p s g f t d v) its = none_settles its o
step_settled (probes_first o n p s g f t d v) its = none_settles its o
step_settled (forgets o n has f t) its = none_settles its o
step_settled (floods o n p above) its = none_settles its o
step_settled (reads o n due) its = none_settles its o

owing_settled : {config : Config} {item : Item} {past : List Item} → IsRecord config (item ∷ past) → Settles (routing config past).assigned (owed config past)
    → Settled config (item ∷ past)
owing_settled (begins legal) its = none_settles its refl
owing_settled {config} (goes {past = past} {item = item} legal e) its = step_settled (of_next config past item e) its
owing_settled (answered_by_worker legal some) its = none_settles its (asks_owing_nothing legal some)
owing_settled {config} (hears {past = past} legal rests none n input) its = none_settles its (rests_owing_nothing config past rests none)
owing_settled (starves legal once can number) its = starving refl

-- Something is sent

data Sending (config : Config) (past : List Item) (to : ℕ) (purpose : Purpose) : Type 0 where
  owes_none : IsRecord config past → owed config past ≡ [] → is_over past ≡ false → Sending config past to purpose
  owes_it : IsRecord config past → (others : List Put) → owed config past ≡ Sends to purpose ∷ others → Sending config past to purpose

step_sends : {config : Config} {past : List Item} {item : Item} (to : ℕ) (purpose : Purpose) → IsRecord config past → Step config past item
    → item ≡ Puts (Sends to purpose) → Sending config past to purpose
step_sends to purpose legal (pays {put = put} {others = others} o) is =
    let same : put ≡ Sends to purpose = cc in owes_it legal others (o ∙ ap (λ (its : Put). its ∷ others) same)
step_sends to purpose legal (asks o n p g w) is = owes_none legal o n
step_sends to purpose legal (prepares o n has f) is = owes_none legal o n
step_sends to purpose legal (plays o n has f t s) is = owes_none legal o n
step_sends to purpose legal (sends o n p s g f t d i v) is = owes_none legal o n
step_sends to purpose legal (waits_first o n p s g f t d v) is = owes_none legal o n
step_sends to purpose legal (probes_first o n p s g f t d v) is = owes_none legal o n
step_sends to purpose legal (forgets o n has f t) is = owes_none legal o n
step_sends to purpose legal (floods o n p above) is = owes_none legal o n
step_sends to purpose legal (reads o n due) is = owes_none legal o n

sending : {config : Config} {item : Item} {past : List Item} (to : ℕ) (purpose : Purpose) → IsRecord config (item ∷ past) → item ≡ Puts (Sends to purpose)
    → Sending config past to purpose
sending to purpose (begins {item = item} its) is = absurd (let its : ⊥ = subst IsBeginning is its in its)
sending {config} to purpose (goes {past = past} {item = item} legal e) is = step_sends to purpose legal (of_next config past item e) is
sending to purpose (answered_by_worker legal some) is = absurd cc
sending to purpose (hears {past = past} {item = item} legal rests none n input) is =
    absurd (let its : ⊥ = subst (λ (i : Item). IsInput i past) is input in its)
sending to purpose (starves legal once can number) is = absurd cc

end_sends : {A : Type 0} {config : Config} {past : List Item} (to : ℕ) (purpose : Purpose) (others : List Put)
    → owed config past ≡ Sends to purpose ∷ others → AtEnd config past → A
end_sends to purpose others o (tells_want below number is over its owes) =
    let both : Sends to purpose ∷ others ≡ Tells number (Refuses OutOfMemory) ∷ Closes Memory ∷ [] = sym o ∙ owes in absurd cc
end_sends to purpose others o (closes_then owes cause) =
    let both : Sends to purpose ∷ others ≡ Closes Memory ∷ [] = sym o ∙ owes in absurd cc
end_sends {config = config} {past = past} to purpose others o (leaves_links over owes) =
    let first = farewell_first config past (Sends to purpose) others o owes in
    let clash : Sends to purpose ≡ Drops first.0 End = first.1 in absurd cc

-- where nothing can be asked, nothing is
module _ (config : Config) (past : List Item) (link : ℕ) (purpose : Purpose) where
  owed_none : {A : Type 0} → Settles (routing config past).assigned (owed config past) → Sending config past link purpose → A
  owed_none owes (owes_none legal o n) = none_settles owes o
  owed_none owes (owes_it legal others o) = sends_settle owes o

  starved_none : {A : Type 0} → is_starved past ≡ true → Sending config past link purpose → A
  starved_none starved (owes_none legal o n) = no_end o n (legal_ends legal starved)
  starved_none starved (owes_it legal others o) = end_sends link purpose others o (legal_ends legal starved)

module _ (config : Config) (past : List Item) (link : ℕ) (check : Check) (purpose : Purpose) (its : AsksFirst config link check past)
    (to : (routing config past).assigned ≡ Some link) (now : Sending config past link purpose) where
  asks_none : {A : Type 0} → Settled config past → A
  asks_none (answered n) = let clash : None ≡ Some its.command = sym n ∙ its.pending.waits in absurd cc
  asks_none (nothing_left n) = let clash : None ≡ Some check = sym n ∙ its.wanted in absurd cc
  asks_none (unassigned n) = let clash : None ≡ Some link = sym n ∙ to in absurd cc
  asks_none (awaits w) =
      let same : link ≡ w.link = same_some link w.link (sym to ∙ w.to) in
      let none : exchange w.link past ≡ None = subst (λ (l : ℕ). exchange l past ≡ None) same (ap awaited its.rests) in
      let clash : None ≡ Some w.e = sym none ∙ w.owes in absurd cc
  asks_none (owing owes) = owed_none config past link purpose owes now
  asks_none (starving starved) = starved_none config past link purpose starved now

-- Each item

abbrev Once : Config → List Item → Type 0
Once config past = (asked_first past ≡ 0) ⊎ ((asked_first past ≡ 1) × Settled config past)

-- what stands below an item of a legal record
below_caused : (config : Config) (item : Item) (past : List Item) → AreCaused config (item ∷ past) → AreCaused config past
below_caused config (Puts put) past caused = caused.1
below_caused config (Starves made number) past caused = caused.3
below_caused config (Accepted session scramble reading) past caused = caused.2
below_caused config (TurnsAway told) past caused = caused.2
below_caused config (Began link server reading) past caused = caused.2
below_caused config (ClientBytes bytes) past caused = caused.2
below_caused config (LinkReady link) past caused = caused.2
below_caused config (LinkBytes link bytes) past caused = caused.2
below_caused config ClientGone past caused = caused.2
below_caused config (Ticks reading) past caused = caused.2
below_caused config (Connects said) past caused = caused.2
below_caused config (Floods bytes) past caused = caused.2
below_caused config (LinkLost link) past caused = caused.2
below_caused config (Comes link said) past caused = caused.2
below_caused config (Takes it number) past caused = caused.2
below_caused config (Routed words loads next found) past caused = caused.2

still_settled : (config : Config) (item : Item) (past : List Item) → IsRecord config (item ∷ past) → (pending past ≡ None → pending (item ∷ past) ≡ None)
    → ((routing config past).check ≡ None → (routing config (item ∷ past)).check ≡ None)
    → ((routing config past).assigned ≡ None → (routing config (item ∷ past)).assigned ≡ None)
    → (is_starved past ≡ true → is_starved (item ∷ past) ≡ true) → (Waiting config past → Settled config (item ∷ past)) → Settled config past
    → Settled config (item ∷ past)
still_settled config item past legal p c a s w (answered n) = answered (p n)
still_settled config item past legal p c a s w (nothing_left n) = nothing_left (c n)
still_settled config item past legal p c a s w (unassigned n) = unassigned (a n)
still_settled config item past legal p c a s w (awaits its) = w its
still_settled config item past legal p c a s w (owing owes) = owing_settled legal owes
still_settled config item past legal p c a s w (starving starved) = starving (s starved)

once_on : (config : Config) (item : Item) (past : List Item) → IsRecord config (item ∷ past) → Moves config item past → Once config past → Once config (item ∷ past)
once_on config item past legal (resets none) once = inl none
once_on config item past legal (stays same p c a s w) (inl none) = inl (same ∙ none)
once_on config item past legal (stays same p c a s w) (inr one) = inr (same ∙ one.0, still_settled config item past legal p c a s w one.1)
once_on config item past legal (questions link check purpose is one_more its waiting) (inl none) =
    inr (one_more ∙ ap (λ (n : ℕ). n + 1) none, awaits waiting)
once_on config item past legal (questions link check purpose is one_more its waiting) (inr one) =
    asks_none config past link check purpose its (assigned_so (free config past (below_caused config item past (causes config (item ∷ past) legal))) its)
    (sending link purpose legal is) one.1

legal_once : {config : Config} {past : List Item} → IsRecord config past → Once config past
legal_once {config} legal =
    by_items (Once config) (inl refl)
    (λ item below whole once. once_on config item below whole (moves_so config item below (causes config (item ∷ below) whole)) once) legal

at_most_one : (config : Config) (past : List Item) → Once config past → asked_first past ≤ 1
at_most_one config past (inl none) = subst (λ (n : ℕ). n ≤ 1) (sym none) (omega arith)
at_most_one config past (inr one) = subst (λ (n : ℕ). n ≤ 1) (sym one.0) (omega arith)

pub one_question_a_route : OneQuestionARoute
one_question_a_route config past legal = at_most_one config past (legal_once legal)
