-- Each step of a legal record keeps it sound.
use Rattle.std.proofs.Common.{◌≡◌, ℕ, ◌+◌, ◌<◌, Bool, true, false, List, [], ◌∷◌, ◌++◌, length, refl, sym, ap, subst, ◌∙◌, arith, inl, inr, Option, Some, None}
use Rattle.std.specs.Prelude.{Contains, ◌&&◌, ◌==◌, if◌then◌else◌}
use Rattle.std.proofs.lemmas.Bool.{eqb-true, eq-eqb}
use Rattle.rws_wire.specs.declared.drop_cause.DropCause.TheVariants.{BadWire, BadReply, Unasked, Greeting, Plugin, Login as LoginFails}
use Rattle.rws_wire.specs.Payloads.{first_payload}
use Rattle.rws_wire.specs.Payloads.Beginning.{Whole}
use Rattle.rws_gtid.specs.declared.Gtid.{Gtid}
use Rattle.rws_causal.specs.declared.causal.Causal.{Causal}
use Rattle.rws_causal.specs.declared.causal.Causal.TheVariants.{Go, TryPrimary, Wait as WaitsFirst, Probe as ProbesFirst, Stale, Unreadable}
use Rattle.rws_routing.specs.declared.routing.Check.{Check}
use Rattle.rws_routing.specs.declared.routing.Check.TheVariants.{Wait, Probe}
use Rattle.rws_reply.specs.declared.kind.Kind.TheVariants.{Query as QueryReply}
use Rattle.rws_pool.specs.declared.words.PoolWords.{PoolWords}
use Rattle.rws_select.specs.declared.selector.Load.{Load}
use Rattle.rws_route.specs.declared.destination.Target.{Target}
use Rattle.rws_routing.specs.Routings.{finds_late, server_in}
use Rattle.rws_front.specs.declared.step.FrontStep.{FrontStep}
use Rattle.rws_front.specs.declared.step.FrontStep.TheVariants as fronts
use Rattle.rws_front.specs.Connection.{step_of}
use Rattle.rws_reply.specs.declared.kind.Outcome.TheVariants.{Done, Failed}
use Rattle.rws_reply.specs.declared.kind.Progress.{Progress}
use Rattle.rws_reply.specs.declared.kind.Progress.TheVariants.{More, Whole as Ends}
use Rattle.rws_reply.specs.Replies.{Payload}
use Rattle.rws_reply.specs.declared.role.Role.{Role}
use Rattle.rws_reply.specs.Tracking.{progress, role}
use Rattle.rws_link.specs.declared.step.LinkCause.{LinkCause}
use Rattle.rws_link.specs.declared.step.LinkCause.TheVariants as losses
use Rattle.rws_link.specs.declared.step.LinkStep.{LinkStep}
use Rattle.rws_link.specs.declared.step.LinkStep.TheVariants as steps
use Rattle.rws_link.specs.Stepping.{LinkState, LogsIn, Rests, Awaits, IsLost, Exchange, is_new, is_some_byte, step}
use Rattle.rws_link.specs.declared.handshake.Handshake.{Handshake}
use Rattle.rws_config.specs.declared.config.Config.{Config}
use Rattle.rws_config.specs.declared.limits.TheConstants.{SERVER_PAYLOAD}
use Rattle.rws_msgs.specs.declared.prepare_ok.PrepareOk.{PrepareOk}
use Rattle.rws_reply.specs.declared.kind.Outcome.{Outcome}
use Rattle.rws_commands.specs.declared.command.Command.{Command}
use Rattle.rws_commands.specs.declared.history.HistoryEntry.{HistoryEntry}
use Rattle.rws_commands.specs.declared.history.PreparedAs.{PreparedAs}
use Rattle.rws_commands.specs.Statements.{Statements, is_otherwise, next_handle, played}
use Rattle.rws_record.specs.Item.{Item, Purpose, Put}
use Rattle.rws_record.specs.Item.Item.{Accepted, TurnsAway, Began, ClientBytes, LinkReady, LinkBytes, ClientGone, LinkLost, Ticks, Routed, Comes, Connects, Floods, Puts}
use Rattle.rws_record.specs.Item.Purpose.{Prepares, Asks, Plays, Waits, Probes}
use Rattle.rws_record.specs.Item.Put.{Routes, Forgets, Sends, Drops}
use Rattle.rws_record.specs.Values.{checked_on, server_of, ends_transaction, heard_on, named_in, named_on, statements, fronted, goes_on, held, login_of, link_to, links, contains, now, reply_number, routing, asked_on, awaited, exchange, is_up, kind_of, linked, link_held, unread, pending, sent_on, told, is_over, is_starved, pinned}
use Rattle.rws_record.specs.Rules.{after_check, commit_by, recording_commit, after_loss, after_connecting, after_flood, after_played, after_preparing, differing, flood_limit, found_in, drop_cause, farewells, is_free, is_ready, is_same, owed, unasked}
use Rattle.rws_record.specs.Record.{IsBeginning, IsRecord, IsInput}
use Rattle.rws_record.specs.Record.IsRecord.{begins, steps, answers as answered, hears, starves}
use Rattle.rws_record.proofs.LinkedLemmas.{Says, awaits_asked}
use Rattle.rws_record.proofs.LinkedLemmas.Says.{answers, enters, hurries, fails, breaks, part, garbled, wrong, again}
use Rattle.rws_record.proofs.StepLemmas.{Due, Step, of_next, rests_owing_nothing}
use Rattle.rws_record.proofs.WantLemmas.{input_starved, step_starved}
use Rattle.rws_record.proofs.StepLemmas.Due.{comes, connects, takes}
use Rattle.rws_record.proofs.StepLemmas.Step.{pays, asks, prepares as prepares_it, forgets, plays, sends, waits_first, probes_first, floods, reads}
use Rattle.rws_record.proofs.OpeningLemmas.{asks_owing_nothing}
use Rattle.rws_laws.specs.Client.{Flooded, IsSaid}
use Rattle.rws_laws.specs.Client.Flooded.{flooded}
use Rattle.rws_laws.specs.Servers.{LoginCame, LoginFailed, asks_first}
use Rattle.rws_laws.specs.Servers.LoginFailed.{no_greeting, not_served, error_came, other_plugin, no_answer, bad_question}
use Rattle.rws_laws.specs.Servers.LogsOn.{logs_on as logs_so}
use Rattle.rws_laws.specs.Servers.NotEntered.{not_entered}
use Rattle.rws_laws.specs.Servers.IsGarbled.{garbled_login, garbled as garbles}
use Rattle.rws_laws.specs.Servers.WasUnasked.{behind_login, earlier}
use Rattle.rws_laws.specs.Servers.Lost.{closed}
use Rattle.rws_laws.proofs.AskedLemmas.{AskedNow, legal_asked}
use Rattle.rws_laws.proofs.AskedLemmas.AskedNow.{asked_now}
use Rattle.rws_laws.proofs.EnteringLemmas.{Entering, IsEntering, is_entering, legal_entering}
use Rattle.rws_laws.proofs.FrontLemmas as Front
use Rattle.rws_laws.proofs.FrontLemmas.{front_says, said_so, steady, taken_so}
use Rattle.rws_laws.proofs.HandshakeLemmas.{answers_so, fails_so, takes_so}
use Rattle.rws_laws.proofs.CameLemmas.{Came, after_answer_is, after_entering_is, bytes_keep, legal_came, loss_leaves, ready_keeps}
use Rattle.rws_laws.proofs.LostLemmas.{AreUnasked, its_login, legal_unasked, was_unasked}
use Rattle.rws_laws.proofs.Sound.{Caused, first_caused, handle, passed, AwaitedBy, WaitsOn, Sound, not_soon, same_some}
use Rattle.rws_laws.proofs.Sound.WaitsOn.{prepares, repeats, checks, replies}
use Rattle.rws_laws.proofs.Sound.Caused.{nothing, drops, logs_on}
use Rattle.rws_laws.proofs.Sound.ToldBy.{none_told}
use Rattle.rws_laws.proofs.LinksLemmas.{cut_closes, farewells_caused}
use Rattle.rws_laws.proofs.ListLemmas.{has_it}
use Rattle.rws_laws.proofs.RoutedLemmas.{route_caused}
use Rattle.rws_laws.proofs.ReplyLemmas.{passes_same, recording_passes, route_passes, still_asked, owes_same, lost_passes, farewells_pass, told_without, without_sent, without_waits}
use Rattle.rws_laws.proofs.CheckLemmas.{Checking, Heard, checking_on, part_heard, put_keeps, unchecked}
use Rattle.rws_laws.proofs.CheckLemmas.Heard.{no_check}
use Rattle.rws_laws.proofs.CheckedLemmas.{mischecked_caused, probing_caused, waiting_caused}
use Rattle.rws_laws.proofs.OwedLemmas.{Arrived, StillCaused, with_commit, leaves, loss_caused, flood_caused, misprepared_caused, preparing_caused, misplayed_caused, playing_caused, said_caused, turning_caused, CameNext, said, wrong_caused}
use Rattle.rws_laws.proofs.GivenLemmas.{clean, coming_sent, forgets_sound, prepares_sound, plays_sound, put_sound, ready_sent, reply_sound, routes_sound, send_sound, take_sound, waits_sound, probes_sound}

-- where a link is free
both_hold : (a b : Bool) → (a && b) ≡ true → (a ≡ true) × (b ≡ true)
both_hold true b e = (refl, e)
both_hold false b e = absurd cc

at_rest : (link : LinkState) → is_ready link ≡ true → link ≡ Rests
at_rest (LogsIn handshake bytes) e = absurd cc
at_rest Rests e = refl
at_rest (Awaits e bytes) is = absurd cc
at_rest (IsLost cause) e = absurd cc

pub freed : (prepared : Bool) (link : ℕ) (past : List Item) → is_free prepared link past ≡ true
    → (contains link (links past) ≡ true) × (is_same prepared (is_up link past) ≡ true) × (linked link past ≡ Rests)
freed prepared link past e =
    let all = both_hold (contains link (links past)) (is_same prepared (is_up link past) && is_ready (linked link past)) e in
    let rest = both_hold (is_same prepared (is_up link past)) (is_ready (linked link past)) all.1 in
    (all.0, rest.0, at_rest (linked link past) rest.1)

pub not_up : (up : Bool) → is_same false up ≡ true → up ≡ false
not_up true e = absurd cc
not_up false e = refl

-- Each step

-- the session sent it by itself
abbrev is_own : Purpose → Bool
is_own Prepares = true
is_own (Plays entry) = true
is_own (Waits gtid seconds) = true
is_own (Probes gtid) = true
is_own (Asks command id) = false

-- the preamble's reply passes nothing
unasked_passes : (link : ℕ) (behind : Bool) → passed (unasked link behind) ≡ []
unasked_passes link true = refl
unasked_passes link false = refl

preparing_passes : (link : ℕ) (far : Progress) (behind : Bool) → passed (after_preparing link far behind) ≡ []
preparing_passes link More behind = refl
preparing_passes link (Ends (Done status)) behind = unasked_passes link behind
preparing_passes link (Ends (Failed code)) behind = refl

differing_passes : (link : ℕ) (otherwise behind : Bool) → passed (differing link otherwise behind) ≡ []
differing_passes link true behind = refl
differing_passes link false behind = unasked_passes link behind

played_passes : (link : ℕ) (entry : HistoryEntry) (named : Option PrepareOk) (far : Progress) (behind : Bool)
    → passed (after_played link entry named far behind) ≡ []
played_passes link entry named More behind = refl
played_passes link entry named (Ends (Done status)) behind = differing_passes link (is_otherwise entry.statement named) behind
played_passes link entry named (Ends (Failed code)) behind = refl

-- and so does that to what goes before a read
checked_passes : (link : ℕ) (checked : Option Causal) (behind : Bool) (number : ℕ) → passed (after_check link checked behind number) ≡ []
checked_passes link None behind number = refl
checked_passes link (Some Go) behind number = unasked_passes link behind
checked_passes link (Some TryPrimary) behind number = unasked_passes link behind
checked_passes link (Some (WaitsFirst gtid)) behind number = unasked_passes link behind
checked_passes link (Some (ProbesFirst gtid)) behind number = unasked_passes link behind
checked_passes link (Some (Stale wanted found)) behind number = unasked_passes link behind
checked_passes link (Some Unreadable) behind number = refl

-- an entry that is played prepares a statement that the client knows already
played_names : (link serial : ℕ) (how : Option PreparedAs) (named : Option PrepareOk) (s : Statements)
    → next_handle (played link serial how named s) ≡ next_handle s
played_names link serial (Some how) (Some ok) s = refl
played_names link serial (Some how) None s = refl
played_names link serial None named s = refl

-- the session hears of a link that which it sent by itself: the client's statements stay
own_names : (link : ℕ) (said : LinkStep) (purpose : Purpose) (ends : Outcome → Bool) (named : Option PrepareOk) (s : Statements) → is_own purpose ≡ true
    → next_handle (heard_on link said (Some purpose) ends named s) ≡ next_handle s
own_names link (steps.Part payload its (Ends (Done status)) number behind) (Plays entry) ends named s own =
    played_names link entry.serial entry.statement (named_in its payload named) s
own_names link (steps.Part payload its (Ends (Failed code)) number behind) (Plays entry) ends named s own = refl
own_names link (steps.Part payload its (Ends outcome) number behind) Prepares ends named s own = refl
own_names link (steps.Part payload its (Ends outcome) number behind) (Waits gtid seconds) ends named s own = refl
own_names link (steps.Part payload its (Ends outcome) number behind) (Probes gtid) ends named s own = refl
own_names link (steps.Part payload its (Ends outcome) number behind) (Asks command id) ends named s own = absurd cc
own_names link (steps.Part payload its More number behind) purpose ends named s own = refl
own_names link (steps.Lost cause) purpose ends named s own = refl
own_names link (steps.Send packets) purpose ends named s own = refl
own_names link steps.LoggedIn purpose ends named s own = refl
own_names link steps.Idle purpose ends named s own = refl

connecting_passes : (said : FrontStep) → passed (after_connecting said) ≡ []
connecting_passes (fronts.Send packets) = refl
connecting_passes (fronts.LoggedIn login) = refl
connecting_passes (fronts.End packets reason) = refl
connecting_passes (fronts.Command payload) = refl
connecting_passes fronts.Idle = refl

module _ (config : Config) (past : List Item) (sound : Sound config past) (came : Came past) (unasked : AreUnasked past) (entering : IsEntering config past)
    (checking : Checking config past) (o : owed config past ≡ []) (n : is_over past ≡ false) where
  -- What a link says

  still_waits : (link : ℕ) (said : LinkStep) (owes : List Put) → passed owes ≡ [] → handle config (Comes link said ∷ past) ≡ handle config past
      → (other : ℕ) (x : Exchange)
      → (link == other) ≡ false → contains other (links past) ≡ true → exchange other past ≡ Some x
      → WaitsOn other x (asked_on other past) (is_up other (Comes link said ∷ past)) (pending past) (sent_on past) (handle config (Comes link said ∷ past)) (told past) owes
  still_waits link said owes passes names other x t has a =
      rw (t, names) (passes_same (owed config past) owes (ap passed o ∙ sym passes) (sound.waits other x has a))

  -- one that owes no reply then, and for which nothing is passed on
  silent_sound : (link : ℕ) (said : LinkStep) → Heard link said past → awaited (step (linked link past)).after ≡ None → passed (owed config (Comes link said ∷ past)) ≡ []
      → handle config (Comes link said ∷ past) ≡ handle config past → Caused config (owed config (Comes link said ∷ past)) (Comes link said ∷ past) → Sound config (Comes link said ∷ past)
  silent_sound link said it none passes names owes = record {
    sent = coming_sent config past link said (unchecked checking it) sound.sent;
    telling = λ n soon. sound.telling n (not_soon o);
    asks = still_asked refl refl refl sound.asks;
    waits = λ other x has a. by_link other x (link == other) refl has a;
    owes = owes;
  }
    where
      by_link : (other : ℕ) (x : Exchange) (same : Bool) → (link == other) ≡ same → contains other (links past) ≡ true
          → awaited (if same then (step (linked other past)).after else linked other past) ≡ Some x
          → WaitsOn other x (asked_on other past) (is_up other (Comes link said ∷ past)) (pending past) (sent_on past) (handle config (Comes link said ∷ past)) (told past) (owed config (Comes link said ∷ past))
      by_link other x true t has a =
          let same : link ≡ other = eqb-true link other t in
          let none : awaited (step (linked other past)).after ≡ None = subst (λ (l : ℕ). awaited (step (linked l past)).after ≡ None) same none in
          let clash : None ≡ Some x = sym none ∙ a in absurd cc
      by_link other x false t has a = still_waits link said (owed config (Comes link said ∷ past)) passes names other x t has a

  -- the link that the session has says that it is lost, for a reason that is known
  loses_it : (link : ℕ) (cause : LinkCause) → Says (linked link past) (steps.Lost cause)
      → Caused config (Drops link (drop_cause cause) ∷ []) (Comes link (steps.Lost cause) ∷ past) → Sound config (Comes link (steps.Lost cause) ∷ past)
  loses_it link cause it owes =
      silent_sound link (steps.Lost cause) (no_check refl) (loss_leaves (linked link past) (steps.Lost cause) cause it refl) refl refl owes

  -- it then owes no reply
  lost_owes : (link : ℕ) (cause : LinkCause) → Says (linked link past) (steps.Lost cause) → exchange link (Comes link (steps.Lost cause) ∷ past) ≡ None
  lost_owes link cause it =
      let itself : (link == link) ≡ true = eq-eqb link link refl in
      rw itself (loss_leaves (linked link past) (steps.Lost cause) cause it refl)

  unasked_sound : (link : ℕ) (cause : LinkCause) → Says (linked link past) (steps.Lost cause) → Contains (links past) link
      → linked link past ≡ IsLost cause → cause ≡ losses.Unasked → Sound config (Comes link (steps.Lost cause) ∷ past)
  unasked_sound link cause it has is same =
      let is_so : linked link past ≡ IsLost losses.Unasked = is ∙ ap IsLost same in
      let none : exchange link (Comes link (steps.Lost losses.Unasked) ∷ past) ≡ None =
      subst (λ (c : LinkCause). exchange link (Comes link (steps.Lost c) ∷ past) ≡ None) same (lost_owes link cause it) in
      loses_it link cause it
      (subst (λ (c : LinkCause). Caused config (Drops link (drop_cause c) ∷ []) (Comes link (steps.Lost c) ∷ past)) (sym same)
      (drops {link = link} {cause = Unasked} n ((earlier (was_unasked link past is_so), none), has)))

  arrived_now : (link : ℕ) (e : Exchange) (payload rest : Payload) (number : ℕ) → Contains (links past) link
      → linked link past ≡ Awaits e (link_held link past)
      → first_payload SERVER_PAYLOAD e.next (link_held link past) ≡ Whole payload number rest
      → Arrived past link e payload rest number
  arrived_now link e payload rest number has is f =
      record { has = has; owes = ap awaited is; state = is; begins = f; came = came link e (ap awaited is); goes = n }

  came_next : (link : ℕ) (e : Exchange) (payload rest : Payload) (number : ℕ) → Arrived past link e payload rest number
      → (awaits : AwaitedBy link e (asked_on link past) (pending past) (sent_on past) (handle config past) (told past) (owed config past))
      → CameNext config past link e awaits.command payload rest number
  came_next link e payload rest number arrived awaits = record {
    arrived = arrived;
    kind = awaits.kind;
    id = awaits.id;
    asked_it = awaits.asked_it;
    pending = awaits.waits;
    sent = awaits.sent_there;
    in_form = clean config past sound o e awaits.command awaits.in_form;
    telling = sound.telling n (not_soon o);
    its = sound.asks awaits.command awaits.waits;
  }

  -- the reply to what the session sent by itself: the preamble, or an entry of the history
  module _ (link : ℕ) (e : Exchange) (payload rest : Payload) (number : ℕ) (arrived : Arrived past link e payload rest number) where
    its_kind : (purpose : Purpose) → asked_on link past ≡ Some purpose → e.kind ≡ kind_of purpose
    its_kind purpose asked =
        let was = awaits_asked link past e (link_held link past) arrived.state in
        let same : was.purpose ≡ purpose = same_some was.purpose purpose (sym was.is ∙ asked) in
        sym was.answered ∙ ap kind_of same

    abbrev the_said : Role → Progress → LinkStep
    the_said its far = steps.Part payload its far number (is_some_byte rest)

    abbrev WaitsThen : (its : Role) (other : ℕ) → Exchange → List Put → Type 0
    WaitsThen its other x owes =
        WaitsOn other x (asked_on other past) (is_up other (Comes link (the_said its More) ∷ past)) (pending past) (sent_on past)
        (handle config (Comes link (the_said its More) ∷ past)) (told past) owes

    -- of which nothing is passed on
    module _ (purpose : Purpose) (asked : asked_on link past ≡ Some purpose) (own : is_own purpose ≡ true) (answer : Role → Progress → List Put)
        (owed_then : (its : Role) (far : Progress) → owed config (Comes link (the_said its far) ∷ past)
        ≡ recording_commit (server_of link past) (commit_by config.gtid_domain its payload (Some purpose)) ++ answer its far)
        (passes : (its : Role) (far : Progress) → passed (answer its far) ≡ [])
        (caused : (its : Role) (far : Progress) → role e.kind e.sofar payload ≡ Some its → progress e.kind e.sofar payload ≡ Some far
        → StillCaused config (answer its far) (Comes link (the_said its far) ∷ past))
        (goes_on_waiting : (its : Role) (other : ℕ) (x : Exchange) (owes : List Put) → link ≡ other → WaitsThen its other x owes) where
      on_passes : (its : Role) (far : Progress) → passed (owed config (Comes link (the_said its far) ∷ past)) ≡ []
      on_passes its far =
          ap passed (owed_then its far)
          ∙ recording_passes (server_of link past) (commit_by config.gtid_domain its payload (Some purpose)) (answer its far) ∙ passes its far

      on_names : (its : Role) (far : Progress) → handle config (Comes link (the_said its far) ∷ past) ≡ handle config past
      on_names its far =
          rw asked (own_names link (the_said its far) purpose (λ outcome. ends_transaction config link outcome past) (named_on link past) (statements config past) own)

      on_owes : (its : Role) (far : Progress) → role e.kind e.sofar payload ≡ Some its → progress e.kind e.sofar payload ≡ Some far
          → Caused config (owed config (Comes link (the_said its far) ∷ past)) (Comes link (the_said its far) ∷ past)
      on_owes its far r p =
          subst (λ (list : List Put). Caused config list (Comes link (the_said its far) ∷ past)) (sym (owed_then its far))
          (with_commit config past link payload its far number (is_some_byte rest) arrived.has purpose asked (answer its far) (caused its far r p))

      on_heard : (its : Role) (far : Progress) → role e.kind e.sofar payload ≡ Some its → progress e.kind e.sofar payload ≡ Some far
          → Heard link (the_said its far) past
      on_heard its far r p =
          part_heard past link e (link_held link past) payload rest number its far (is_some_byte rest) (has_it (links past) link arrived.has) arrived.state
          arrived.begins r p

      more_waits : (its : Role) (other : ℕ) (x : Exchange) (same : Bool) → (link == other) ≡ same → contains other (links past) ≡ true
          → awaited (if same then (step (linked other past)).after else linked other past) ≡ Some x
          → WaitsThen its other x (owed config (Comes link (the_said its More) ∷ past))
      more_waits its other x true t has a =
          goes_on_waiting its other x (owed config (Comes link (the_said its More) ∷ past)) (eqb-true link other t)
      more_waits its other x false t has a =
          still_waits link (the_said its More) (owed config (Comes link (the_said its More) ∷ past)) (on_passes its More) (on_names its More) other x t has a

      own_sound : (its : Role) (far : Progress) → role e.kind e.sofar payload ≡ Some its → progress e.kind e.sofar payload ≡ Some far
          → Sound config (Comes link (the_said its far) ∷ past)
      own_sound its (Ends outcome) r p =
          let itself : (link == link) ≡ true = eq-eqb link link refl in
          let none : awaited (step (linked link past)).after ≡ None =
          rw itself at (leaves past link e payload rest number arrived its (Ends outcome) r p) in
          silent_sound link (the_said its (Ends outcome)) (on_heard its (Ends outcome) r p) none (on_passes its (Ends outcome)) (on_names its (Ends outcome)) (on_owes its (Ends outcome) r p)
      own_sound its More r p = record {
        sent = coming_sent config past link (the_said its More) (unchecked checking (on_heard its More r p)) sound.sent;
        telling = λ n soon. sound.telling n (not_soon o);
        asks = still_asked refl refl refl sound.asks;
        waits = λ other x has a. more_waits its other x (link == other) refl has a;
        owes = on_owes its More r p;
      }

    prepared_sound : asked_on link past ≡ Some Prepares → is_up link past ≡ false → (its : Role) (far : Progress)
        → role e.kind e.sofar payload ≡ Some its → progress e.kind e.sofar payload ≡ Some far → Sound config (Comes link (the_said its far) ∷ past)
    prepared_sound asked up =
        own_sound Prepares asked refl (λ its far. after_preparing link far (is_some_byte rest)) (λ its far. rw asked refl)
        (λ its far. preparing_passes link far (is_some_byte rest))
        (preparing_caused config past link e payload rest number arrived (its_kind Prepares asked) asked)
        (λ its other x owes same.
        let t : (link == other) ≡ true = eq-eqb link other same in
        prepares (subst (λ (l : ℕ). asked_on l past ≡ Some Prepares) same asked) (rw t (subst (λ (l : ℕ). is_up l past ≡ false) same up)))

    played_sound : (entry : HistoryEntry) → asked_on link past ≡ Some (Plays entry) → (its : Role) (far : Progress)
        → role e.kind e.sofar payload ≡ Some its → progress e.kind e.sofar payload ≡ Some far → Sound config (Comes link (the_said its far) ∷ past)
    played_sound entry asked =
        own_sound (Plays entry) asked refl (λ its far. after_played link entry (named_in its payload (named_on link past)) far (is_some_byte rest)) (λ its far. rw asked refl)
        (λ its far. played_passes link entry (named_in its payload (named_on link past)) far (is_some_byte rest))
        (playing_caused config past link e payload rest number arrived entry (its_kind (Plays entry) asked) asked)
        (λ its other x owes same. repeats {entry = entry} (subst (λ (l : ℕ). asked_on l past ≡ Some (Plays entry)) same asked))

    waited_sound : (gtid : Gtid) (seconds : ℕ) → asked_on link past ≡ Some (Waits gtid seconds) → (its : Role) (far : Progress)
        → role e.kind e.sofar payload ≡ Some its → progress e.kind e.sofar payload ≡ Some far → Sound config (Comes link (the_said its far) ∷ past)
    waited_sound gtid seconds asked =
        own_sound (Waits gtid seconds) asked refl
        (λ its far. after_check link (checked_on link (the_said its far) past) (is_some_byte rest) (reply_number past)) (λ its far. rw asked refl)
        (λ its far. checked_passes link (checked_on link (the_said its far) past) (is_some_byte rest) (reply_number past))
        (waiting_caused config past link e payload rest number arrived (its_kind (Waits gtid seconds) asked) gtid seconds asked)
        (λ its other x owes same. checks {check = Wait gtid} (ap asks_first (subst (λ (l : ℕ). asked_on l past ≡ Some (Waits gtid seconds)) same asked)))

    probed_sound : (gtid : Gtid) → asked_on link past ≡ Some (Probes gtid) → (its : Role) (far : Progress)
        → role e.kind e.sofar payload ≡ Some its → progress e.kind e.sofar payload ≡ Some far → Sound config (Comes link (the_said its far) ∷ past)
    probed_sound gtid asked =
        let pending = checking link e (Probe gtid) (has_it (links past) link arrived.has) arrived.owes (ap asks_first asked) in
        own_sound (Probes gtid) asked refl
        (λ its far. after_check link (checked_on link (the_said its far) past) (is_some_byte rest) (reply_number past)) (λ its far. rw asked refl)
        (λ its far. checked_passes link (checked_on link (the_said its far) past) (is_some_byte rest) (reply_number past))
        (probing_caused config past link e payload rest number arrived (its_kind (Probes gtid) asked) gtid asked pending
        (sound.asks pending.command pending.waits) (sound.telling n (not_soon o)))
        (λ its other x owes same. checks {check = Probe gtid} (ap asks_first (subst (λ (l : ℕ). asked_on l past ≡ Some (Probes gtid)) same asked)))

    checked_sound : (check : Check) (asked : Option Purpose) → asked_on link past ≡ asked → asks_first asked ≡ Some check → (its : Role) (far : Progress)
        → role e.kind e.sofar payload ≡ Some its → progress e.kind e.sofar payload ≡ Some far → Sound config (Comes link (the_said its far) ∷ past)
    checked_sound check (Some (Waits gtid seconds)) asked q = waited_sound gtid seconds asked
    checked_sound check (Some (Probes gtid)) asked q = probed_sound gtid asked
    checked_sound check (Some Prepares) asked q = absurd cc
    checked_sound check (Some (Asks command id)) asked q = absurd cc
    checked_sound check (Some (Plays entry)) asked q = absurd cc
    checked_sound check None asked q = absurd cc

    -- of whichever it is, the reply is that to a query
    checked_kind : (check : Check) (asked : Option Purpose) → asked_on link past ≡ asked → asks_first asked ≡ Some check → e.kind ≡ QueryReply
    checked_kind check (Some (Waits gtid seconds)) asked q = its_kind (Waits gtid seconds) asked
    checked_kind check (Some (Probes gtid)) asked q = its_kind (Probes gtid) asked
    checked_kind check (Some Prepares) asked q = absurd cc
    checked_kind check (Some (Asks command id)) asked q = absurd cc
    checked_kind check (Some (Plays entry)) asked q = absurd cc
    checked_kind check None asked q = absurd cc

  -- its login failed
  failed_sound : (link : ℕ) (handshake : Handshake) (payload rest : Payload) (number : ℕ) (cause : LinkCause)
      → LoginCame link handshake payload number rest past → LoginFailed payload handshake cause → Contains (links past) link
      → Caused config (Drops link (drop_cause cause) ∷ []) (Comes link (steps.Lost cause) ∷ past)
  failed_sound link handshake payload rest number cause login (no_greeting g) has =
      drops {link = link} {cause = Greeting} n (not_entered login (no_greeting g), has)
  failed_sound link handshake payload rest number cause login (not_served g s) has =
      drops {link = link} {cause = Greeting} n (not_entered login (not_served g s), has)
  failed_sound link handshake payload rest number cause login (error_came {code = code} e) has =
      drops {link = link} {cause = LoginFails code} n (inl (not_entered login (error_came e)), has)
  failed_sound link handshake payload rest number cause login (other_plugin p s) has =
      drops {link = link} {cause = Plugin} n (not_entered login (other_plugin p s), has)
  failed_sound link handshake payload rest number cause login (no_answer e k p) has =
      drops {link = link} {cause = BadReply} n (inr (inr (inr (inr (not_entered login (no_answer e k p))))), has)
  failed_sound link handshake payload rest number cause login (bad_question e k s) has =
      drops {link = link} {cause = BadReply} n (inr (inr (inr (inr (not_entered login (bad_question e k s))))), has)

  -- a payload of a reply
  part_sound : (link : ℕ) (e : Exchange) (payload rest : Payload) (number : ℕ) (its : Role) (far : Progress)
      → Arrived past link e payload rest number → role e.kind e.sofar payload ≡ Some its → progress e.kind e.sofar payload ≡ Some far
      → WaitsOn link e (asked_on link past) (is_up link past) (pending past) (sent_on past) (handle config past) (told past) (owed config past)
      → Sound config (Comes link (steps.Part payload its far number (is_some_byte rest)) ∷ past)
  part_sound link e payload rest number its far arrived r p (prepares asked up) =
      prepared_sound link e payload rest number arrived asked up its far r p
  part_sound link e payload rest number its far arrived r p (repeats {entry = entry} asked) =
      played_sound link e payload rest number arrived entry asked its far r p
  part_sound link e payload rest number its far arrived r p (checks {check = check} q) =
      checked_sound link e payload rest number arrived check (asked_on link past) refl q its far r p
  part_sound link e payload rest number its far arrived r p (replies awaits) =
      reply_sound config past sound link e awaits.command payload rest number o (came_next link e payload rest number arrived awaits) its far r p

  wrong_owes : (link : ℕ) (e : Exchange) (payload rest : Payload) (number : ℕ) → Arrived past link e payload rest number
      → progress e.kind e.sofar payload ≡ None
      → WaitsOn link e (asked_on link past) (is_up link past) (pending past) (sent_on past) (handle config past) (told past) (owed config past)
      → Caused config (Drops link BadReply ∷ []) (Comes link (steps.Lost losses.BadReply) ∷ past)
  wrong_owes link e payload rest number arrived p (prepares asked up) =
      misprepared_caused config past link e payload rest number arrived (its_kind link e payload rest number arrived Prepares asked) asked p
  wrong_owes link e payload rest number arrived p (repeats {entry = entry} asked) =
      misplayed_caused config past link e payload rest number arrived entry (its_kind link e payload rest number arrived (Plays entry) asked) asked p
  wrong_owes link e payload rest number arrived p (checks {check = check} q) =
      mischecked_caused config past link e payload rest number arrived (checked_kind link e payload rest number arrived check (asked_on link past) refl q) check q p
  wrong_owes link e payload rest number arrived p (replies awaits) =
      wrong_caused config past link e awaits.command payload rest number (came_next link e payload rest number arrived awaits) p

  coming_sound : (link : ℕ) (state : LinkState) (said : LinkStep) → linked link past ≡ state → Contains (links past) link → Says state said
      → Sound config (Comes link said ∷ past)
  coming_sound link state said is has (answers {handshake = handshake} {unread = bytes} {payload = payload} {rest = rest} {bytes = packets} {number = number} {next = next} {stage1 = stage1} f r) =
      let login = its_login past link said handshake bytes is f in
      silent_sound link (steps.Send packets) (no_check refl) (rw is (ap awaited (after_answer_is handshake bytes f r))) refl refl
      (logs_on (logs_so login (answers_so handshake payload packets number next stage1 r), has))
  coming_sound link state said is has (enters {handshake = handshake} {unread = bytes} f r) =
      silent_sound link steps.LoggedIn (no_check refl) (rw is (ap awaited (after_entering_is handshake bytes f r))) refl refl nothing
  coming_sound link state said is has (hurries {handshake = handshake} {unread = bytes} {payload = payload} {number = number} f r) =
      let it : Says (linked link past) (steps.Lost losses.Unasked) = rw is (hurries f r) in
      loses_it link losses.Unasked it
      (drops {link = link} {cause = Unasked} n
      ((behind_login (its_login past link said handshake bytes is f) (takes_so handshake payload number r), lost_owes link losses.Unasked it), has))
  coming_sound link state said is has (fails {handshake = handshake} {unread = bytes} {payload = payload} {rest = rest} {number = number} {cause = cause} f r) =
      loses_it link cause (rw is (fails f r))
      (failed_sound link handshake payload rest number cause (its_login past link said handshake bytes is f) (fails_so handshake payload number cause r) has)
  coming_sound link state said is has (breaks {handshake = handshake} {unread = bytes} {fault = fault} f) =
      let held : link_held link past ≡ bytes = ap unread is in
      loses_it link losses.BadWire (rw is (breaks f))
      (drops {link = link} {cause = BadWire} n (fault, garbled_login {handshake = handshake} (rw held is) (rw held f), has))
  coming_sound link state said is has (part {e = e} {unread = bytes} {payload = payload} {rest = rest} {number = number} {its = its} {far = far} f r p) =
      let held : link_held link past ≡ bytes = ap unread is in
      part_sound link e payload rest number its far (arrived_now link e payload rest number has (rw held is) (rw held f)) r p
      (sound.waits link e (has_it (links past) link has) (ap awaited is))
  coming_sound link state said is has (garbled {e = e} {unread = bytes} {fault = fault} f) =
      let held : link_held link past ≡ bytes = ap unread is in
      loses_it link losses.BadWire (rw is (garbled f))
      (drops {link = link} {cause = BadWire} n (fault, garbles {e = e} (ap awaited is) (rw held f), has))
  coming_sound link state said is has (wrong {e = e} {unread = bytes} {payload = payload} {rest = rest} {number = number} f p) =
      let held : link_held link past ≡ bytes = ap unread is in
      loses_it link losses.BadReply (rw is (wrong f p))
      (wrong_owes link e payload rest number (arrived_now link e payload rest number has (rw held is) (rw held f)) p
      (sound.waits link e (has_it (links past) link has) (ap awaited is)))
  coming_sound link state said is has (again {cause = cause}) =
      unasked_sound link cause (rw is again) has is (unasked link cause (has_it (links past) link has) is)

  -- What comes of the client

  its_front : Front.Says config (fronted config past) (step_of config.accounts (fronted config past)).0
  its_front = front_says config (fronted config past) (steady config past) entering.going

  connect_sound : (said : FrontStep) → pending past ≡ None → IsSaid config (fronted config past) said → Sound config (Connects said ∷ past)
  connect_sound said p its = record {
    sent = sound.sent;
    telling = λ n soon. sound.telling n (not_soon o);
    asks = still_asked refl refl refl sound.asks;
    waits = owes_same (links past) (owed config past) (after_connecting said) (ap passed o ∙ sym (connecting_passes said)) sound.waits;
    owes = said_caused config past said its;
  }

  due_sound : {item : Item} → Due config past item → Sound config (item ∷ past)
  due_sound (comes {link = link} {said = said} has a it) = coming_sound link (linked link past) said refl has it
  due_sound (connects {said = said} p f c) = connect_sound said p (said_so config past said f c its_front)
  due_sound (takes {payload = payload} p f) =
      let its = taken_so config past payload f its_front in
      take_sound config past sound payload.bytes its.1 payload.next p its.0 its.2

-- What comes from outside

new_awaits : (link : LinkState) → is_new link ≡ true → awaited link ≡ None
new_awaits (LogsIn handshake bytes) is = refl
new_awaits Rests is = refl
new_awaits (Awaits e bytes) is = absurd cc
new_awaits (IsLost cause) is = refl

module _ (config : Config) (past : List Item) (sound : Sound config past) (o : owed config past ≡ []) (n : is_over past ≡ false) where
  ready_waits : (ready : ℕ) → is_new (linked ready past) ≡ true → (other : ℕ) (e : Exchange) (same : Bool) → (ready == other) ≡ same
      → contains other (links past) ≡ true → exchange other past ≡ Some e
      → WaitsOn other e (asked_on other past) (if same then true else is_up other past) (pending past) (sent_on past) (handle config past) (told past) []
  ready_waits ready new other e true t has a =
      let same : ready ≡ other = eqb-true ready other t in
      let none = new_awaits (linked other past) (subst (λ (l : ℕ). is_new (linked l past) ≡ true) same new) in
      let clash : None ≡ Some e = sym none ∙ a in absurd cc
  ready_waits ready new other e false t has a = passes_same (owed config past) [] (ap passed o) (sound.waits other e has a)

  input_sound : (item : Item) → IsInput item past → Sound config (item ∷ past)
  input_sound (ClientBytes bytes) input = record {
    sent = sound.sent;
    telling = λ n soon. sound.telling n (not_soon o);
    asks = still_asked refl refl refl sound.asks;
    waits = owes_same (links past) (owed config past) [] (ap passed o) sound.waits;
    owes = nothing;
  }
  input_sound (LinkReady ready) input = record {
    sent = ready_sent config past ready sound.sent;
    telling = λ n soon. sound.telling n (not_soon o);
    asks = still_asked refl refl refl sound.asks;
    waits = λ other e has a. ready_waits ready input.1 other e (ready == other) refl has (sym (ready_keeps past ready other) ∙ a);
    owes = nothing;
  }
  input_sound (LinkBytes from bytes) input = record {
    sent = sound.sent;
    telling = λ n soon. sound.telling n (not_soon o);
    asks = still_asked refl refl refl sound.asks;
    waits = λ other e has a. passes_same (owed config past) [] (ap passed o) (sound.waits other e has (sym (bytes_keep past from bytes other) ∙ a));
    owes = nothing;
  }
  input_sound ClientGone input = record {
    sent = sound.sent;
    telling = λ n soon. absurd cc;
    asks = still_asked refl refl refl sound.asks;
    waits = owes_same (links past) (owed config past) (farewells past) (ap passed o ∙ sym (farewells_pass (links past))) sound.waits;
    owes = farewells_caused config past (ClientGone ∷ past) refl refl;
  }
  input_sound (LinkLost gone) input = record {
    sent = without_sent (links past) (sent_on past) (pinned config past) (routing config past) gone sound.sent;
    telling = λ n soon.
        told_without gone
        (λ from. let clash : true ≡ false = sym (cut_closes config past gone from) ∙ soon in cc)
        (sound.telling n (not_soon o));
    asks = still_asked refl refl refl sound.asks;
    waits = without_waits (links past) gone (owed config past) (after_loss config gone past) (ap passed o ∙ sym (lost_passes config gone past)) sound.waits;
    owes = loss_caused config past (LinkLost gone ∷ past) gone closed sound.sent (sound.telling n (not_soon o)) sound.asks;
  }
  input_sound (Ticks reading) input = record {
    sent = sound.sent;
    telling = λ n soon. sound.telling n (not_soon o);
    asks = still_asked refl refl refl sound.asks;
    waits = owes_same (links past) (owed config past) [] (ap passed o) sound.waits;
    owes = nothing;
  }
  input_sound _ input = absurd input

-- a command that goes nowhere was sent nowhere
unsent : {config : Config} {past : List Item} → goes_on config past ≡ None → Sound config past → sent_on past ≡ None
unsent {config} {past} g sound = by_sent (sent_on past) refl
  where
    by_sent : (sent : Option ℕ) → sent_on past ≡ sent → sent_on past ≡ None
    by_sent None s = s
    by_sent (Some link) s =
        let there = sound.sent link s in let clash : None ≡ Some link = sym g ∙ there.2 in absurd cc

-- the worker has answered
answer_sound : (config : Config) (words : PoolWords) (loads : List Load) (next : ℕ) (found : Target) {past : List Item} → AskedNow config past
    → Sound config past → owed config past ≡ [] → Sound config (Routed words loads next found ∷ past)
answer_sound config words loads next found (asked_now {past = past} {command = command} legal o n p g w) sound none =
    let asked = Puts Routes ∷ past in
    let at_none = unsent {config = config} {past = asked} g sound in
    record {
      sent = λ other s. let clash : None ≡ Some other = sym at_none ∙ s in absurd cc;
      telling = λ n soon. sound.telling n (not_soon none);
      asks = still_asked refl refl refl sound.asks;
      waits = owes_same (links past) (owed config asked) (owed config (Routed words loads next found ∷ asked))
          (ap passed none ∙ sym (route_passes found (link_to (server_in found) asked) next (login_of config asked)
          (finds_late config.primary_wait_ms (now asked) (routing config asked)) (reply_number asked))) sound.waits;
      owes = route_caused config asked words loads next command p (sound.asks command p) at_none (sound.telling n (not_soon none)) found;
    }

-- too much came behind the pending command
pub noted : {config : Config} {past : List Item} {command : Command} → pending past ≡ Some command
    → flood_limit config < length (held config past) → Sound config past
    → Flooded config (flood_limit config + 1) (Floods (flood_limit config + 1) ∷ past)
noted {command = command} p above sound =
    flooded command (record { waits = p; asked = (sound.asks command p).asked }) refl (omega arith)

flood_sound : {config : Config} {past : List Item} {command : Command} → owed config past ≡ []
    → pending past ≡ Some command → flood_limit config < length (held config past) → Sound config past
    → Sound config (Floods (flood_limit config + 1) ∷ past)
flood_sound {config} {past} o p above sound =
    let bytes : ℕ = flood_limit config + 1 in
    record {
      sent = sound.sent;
      telling = λ n soon. sound.telling n (not_soon o);
      asks = still_asked refl refl refl sound.asks;
      waits = owes_same (links past) (owed config past) (after_flood bytes) (ap passed o) sound.waits;
      owes = flood_caused config bytes (Floods bytes ∷ past) (noted p above sound);
    }

step_sound : {config : Config} {past : List Item} {item : Item} → Step config past item → Came past
    → (owed config past ≡ [] → AreUnasked past) → Entering config past → Checking config past → Sound config past → Sound config (item ∷ past)
step_sound {config} {past} (pays {put = put} {others = others} o) came unasked entering checking sound =
    put_sound config past sound put others o (subst (λ (list : List Put). Caused config list past) o sound.owes)
step_sound {config} {past} (asks o n p g w) came unasked entering checking sound = routes_sound config past sound o
step_sound {config} {past} (prepares_it {link = link} o n has c) came unasked entering checking sound =
    prepares_sound config past sound link o (not_up (is_up link past) (freed false link past c).1)
step_sound {config} {past} (plays {link = link} {entry = entry} o n has f t s) came unasked entering checking sound =
    plays_sound config past sound link entry o
step_sound {config} {past} (sends {link = link} {command = command} {id = id} o n p s g f t d i v) came unasked entering checking sound =
    let free = freed true link past f in send_sound config past sound link command id o n p s g free.1 free.0
step_sound {config} {past} (waits_first {link = link} {gtid = gtid} o n p s g f t d v) came unasked entering checking sound =
    waits_sound config past sound link gtid config.causal_timeout_s o
step_sound {config} {past} (probes_first {link = link} {gtid = gtid} o n p s g f t d v) came unasked entering checking sound =
    probes_sound config past sound link gtid o
step_sound {config} {past} (forgets {link = link} {id = id} o n has f t) came unasked entering checking sound = forgets_sound config past sound link id o
step_sound (floods o n p above) came unasked entering checking sound = flood_sound o p above sound
step_sound {config} {past} (reads o n due) came unasked entering checking sound =
    due_sound config past sound came (unasked o) (is_entering o n entering) checking o n due

-- and keeps what is known of what goes before a read

said_heard : {past : List Item} {link : ℕ} (state : LinkState) (spoken : LinkStep) → linked link past ≡ state → Contains (links past) link → Says state spoken
    → Heard link spoken past
said_heard {past} {link} state spoken is has (part {e = e} {unread = bytes} {payload = payload} {rest = rest} {number = number} {its = its} {far = far} f r p) =
    part_heard past link e bytes payload rest number its far _ (has_it (links past) link has) is f r p
said_heard state spoken is has (answers f r) = no_check refl
said_heard state spoken is has (enters f r) = no_check refl
said_heard state spoken is has (hurries f r) = no_check refl
said_heard state spoken is has (fails f r) = no_check refl
said_heard state spoken is has (breaks f) = no_check refl
said_heard state spoken is has (garbled f) = no_check refl
said_heard state spoken is has (wrong f p) = no_check refl
said_heard state spoken is has again = no_check refl

step_checking : {config : Config} {past : List Item} {item : Item} → Step config past item → Sound config past → Checking config past
    → Checking config (item ∷ past)
step_checking {config} {past} (pays {put = put} o) sound checking =
    checking_on config past (Puts put) (put_keeps config past put (first_caused (subst (λ (list : List Put). Caused config list past) o sound.owes))) checking
step_checking {config} {past} (asks o n p g w) sound checking = checking_on config past (Puts Routes) tt checking
step_checking {config} {past} (prepares_it {link = link} o n has c) sound checking = checking_on config past (Puts (Sends link Prepares)) tt checking
step_checking {config} {past} (forgets {link = link} {id = id} o n has f t) sound checking = checking_on config past (Puts (Forgets link id)) tt checking
step_checking {config} {past} (plays {link = link} {entry = entry} o n has f t s) sound checking =
    checking_on config past (Puts (Sends link (Plays entry))) tt checking
step_checking {config} {past} (sends {link = link} {command = command} {id = id} o n p s g f t d i v) sound checking =
    checking_on config past (Puts (Sends link (Asks command id))) v checking
step_checking {config} {past} (waits_first {link = link} {command = command} {gtid = gtid} o n p s g f t d v) sound checking =
    checking_on config past (Puts (Sends link (Waits gtid config.causal_timeout_s)))
    (record { command = command; waits = p; unsent = s; goes = g; for_it = v }) checking
step_checking {config} {past} (probes_first {link = link} {command = command} {gtid = gtid} o n p s g f t d v) sound checking =
    checking_on config past (Puts (Sends link (Probes gtid))) (record { command = command; waits = p; unsent = s; goes = g; for_it = v }) checking
step_checking {config} {past} (floods o n p above) sound checking = checking_on config past (Floods (flood_limit config + 1)) tt checking
step_checking {config} {past} (reads o n (comes {link = link} {said = said} has a it)) sound checking =
    checking_on config past (Comes link said) (said_heard (linked link past) said refl has it) checking
step_checking {config} {past} (reads o n (connects {said = said} p f c)) sound checking = checking_on config past (Connects said) tt checking
step_checking {config} {past} {item} (reads o n (takes p f)) sound checking = checking_on config past item p checking

input_checking : (config : Config) (past : List Item) (item : Item) → IsInput item past → Checking config past → Checking config (item ∷ past)
input_checking config past (ClientBytes bytes) input checking = checking_on config past (ClientBytes bytes) tt checking
input_checking config past (LinkReady ready) input checking = checking_on config past (LinkReady ready) tt checking
input_checking config past (LinkBytes from bytes) input checking = checking_on config past (LinkBytes from bytes) tt checking
input_checking config past ClientGone input checking = checking_on config past ClientGone tt checking
input_checking config past (LinkLost gone) input checking = checking_on config past (LinkLost gone) tt checking
input_checking config past (Ticks reading) input checking = checking_on config past (Ticks reading) tt checking
input_checking config past _ input checking = absurd input

answer_checking : (config : Config) (words : PoolWords) (loads : List Load) (next : ℕ) (found : Target) {past : List Item} → AskedNow config past
    → Checking config past → Checking config (Routed words loads next found ∷ past)
answer_checking config words loads next found (asked_now {past = past} legal o n p g w) checking =
    checking_on config (Puts Routes ∷ past) (Routed words loads next found) g checking

begins_checking : (config : Config) (item : Item) → IsBeginning item → Checking config (item ∷ [])
begins_checking config (Accepted session scramble reading) its = λ link e check has a asked. absurd cc
begins_checking config (TurnsAway told) its = λ link e check has a asked. absurd cc
begins_checking config (Began link server reading) its = λ link e check has a asked. absurd cc
begins_checking config _ its = absurd its

begun_sound : (config : Config) (link server reading : ℕ) → Sound config (Began link server reading ∷ [])
begun_sound config link server reading = record {
  sent = λ other e. absurd cc;
  telling = λ n soon. none_told;
  asks = λ command e. absurd cc;
  waits = λ other e has a. begun_waits other e (link == other) a;
  owes = nothing;
}
  where
    begun_waits : {A : Type 0} (other : ℕ) (e : Exchange) (test : Bool) → awaited (if test then Rests else Rests) ≡ Some e → A
    begun_waits other e true a = absurd cc
    begun_waits other e false a = absurd cc

begins_sound : (config : Config) (item : Item) → IsBeginning item → Sound config (item ∷ [])
begins_sound config (Accepted session scramble reading) its = record {
  sent = λ other e. absurd cc;
  telling = λ n soon. none_told;
  asks = λ command e. absurd cc;
  waits = λ other e has a. absurd cc;
  owes = nothing;
}
begins_sound config (TurnsAway told) its = record {
  sent = λ other e. absurd cc;
  telling = λ n soon. none_told;
  asks = λ command e. absurd cc;
  waits = λ other e has a. absurd cc;
  owes = turning_caused config told;
}
begins_sound config (Began link server reading) its = begun_sound config link server reading
begins_sound config _ its = absurd its

-- until memory is wanting
legal_both : {config : Config} {past : List Item} → IsRecord config past → is_starved past ≡ false → Sound config past × Checking config past
legal_both {config} (begins {item = item} its) fed = (begins_sound config item its, begins_checking config item its)
legal_both {config} (steps {past = past} {item = item} legal e) fed =
    let step = of_next config past item e in
    let before = sym (step_starved step) ∙ fed in
    let both = legal_both legal before in (
      step_sound step (legal_came legal) (legal_unasked legal before) (legal_entering legal) both.1 both.0,
      step_checking step both.0 both.1,
    )
legal_both {config} (answered {past = past} {words = words} {loads = loads} {next_link = next} legal asked) fed =
    let both = legal_both legal fed in (
      answer_sound config words loads next (found_in config past words loads) (legal_asked legal asked) both.0 (asks_owing_nothing legal asked),
      answer_checking config words loads next (found_in config past words loads) (legal_asked legal asked) both.1,
    )
legal_both {config} (hears {past = past} {item = item} legal rests none n input) fed =
    let both = legal_both legal (sym (input_starved past item input) ∙ fed) in
    (input_sound config past both.0 (rests_owing_nothing config past rests none) n item input, input_checking config past item input both.1)
legal_both (starves legal once can its) fed = absurd cc

pub legal_sound : {config : Config} {past : List Item} → IsRecord config past → is_starved past ≡ false → Sound config past
legal_sound legal fed = (legal_both legal fed).0

pub legal_checking : {config : Config} {past : List Item} → IsRecord config past → is_starved past ≡ false → Checking config past
legal_checking legal fed = (legal_both legal fed).1
