-- A session that rests has answered.
use Rattle.std.proofs.Common.{◌≡◌, ℕ, Bool, false, true, List, [], ◌∷◌, refl, sym, ap, subst, ◌∙◌, inl, inr, Option, Some, None}
use Rattle.std.specs.Prelude.{◌⊎◌, ◌==◌, Contains, if◌then◌else◌}
use Rattle.std.proofs.lemmas.Bool.{eq-eqb, eqb-true}
use Rattle.rws_link.specs.Stepping.{Exchange, LinkState, Rests}
use Rattle.rws_routing.specs.declared.routing.Check.{Check}
use Rattle.rws_config.specs.declared.config.Config.{Config}
use Rattle.rws_laws.specs.Servers.{asks_first}
use Rattle.rws_commands.specs.declared.command.Command.{Command}
use Rattle.rws_record.specs.Item.{Item, Purpose}
use Rattle.rws_record.specs.Item.Item.{Puts}
use Rattle.rws_record.specs.Item.Put.{Routes, Sends}
use Rattle.rws_record.specs.Item.Purpose.{Prepares, Plays}
use Rattle.rws_record.specs.Values.{asking_by_check, asking_for, statements, asked_on, asking, cursor, fronted, or_link, goes_on, is_up, links, contains, exchange, linked, pending, routing, sent_on, told, is_over, pinned}
use Rattle.rws_record.specs.Rules.{ask_by, due_on, due_sends, is_link, next, is_free, owed, play_by, prepare_by, ◌or◌}
use Rattle.rws_record.specs.Record.{IsRecord}
use Rattle.rws_record.specs.Run.{record_of}
use Rattle.rws_record.proofs.StepLemmas.{neither, rests_owing_nothing}
use Rattle.rws_record.proofs.RestLemmas.{Idles, Rested, rested}
use Rattle.rws_record.proofs.RestLemmas.Idles.{at_rest as rests_now, at_login as enters_now}
use Rattle.rws_record.proofs.EntryLemmas.{rests}
use Rattle.rws_record.proofs.RecordLemmas.{IsStill, contained, rests_each, each_of, records}
use Rattle.rws_record.proofs.WantLemmas.{unstarved}
use Rattle.rws_laws.specs.Answers.{HasAnswered, IsAnswered, IsIdle, Waits}
use Rattle.rws_laws.specs.Answers.IsIdle.{at_rest, at_login}
use Rattle.rws_laws.specs.Answers.Waits.{for_primary, for_link, for_entry, for_check, for_reply, for_account}
use Rattle.rws_laws.specs.Laws.{Answered, AnsweredInRuns}
use Rattle.rws_laws.proofs.FrontLemmas.{front_says, idles_so, steady}
use Rattle.rws_laws.proofs.EnteringLemmas.{is_entering, legal_entering}
use Rattle.rws_laws.proofs.Sound.{Sound, WaitsOn, handle}
use Rattle.rws_laws.proofs.Sound.WaitsOn.{prepares, repeats, checks, replies}
use Rattle.rws_laws.proofs.SoundLemmas.{legal_checking, legal_sound}
use Rattle.rws_commands.specs.declared.history.HistoryEntry.{HistoryEntry}
use Rattle.rws_commands.specs.Commands.{id_for}
use Rattle.rws_commands.specs.Statements.{stale_on, unplayed}
use Rattle.rws_laws.proofs.GoingLemmas.{HasAssigned, HasPinned, goes_with, legal_going}
use Rattle.rws_laws.proofs.ListLemmas.{has_it}
use Rattle.rws_laws.proofs.RoutedLemmas.{nowhere_last}
use Rattle.rws_laws.proofs.EndedLemmas.{ended}
use Rattle.rws_laws.proofs.AwaitedLemmas.{rests_awaiting}
use Rattle.rws_laws.proofs.UpLemmas.{legal_up, logs_in}

-- what isn't due of a list of links isn't due on one of them
none_due : (config : Config) (past : List Item) (list : List ℕ) (link : ℕ) → due_sends config list past ≡ None → contains link list ≡ true
    → due_on config link past ≡ None
none_due config past [] link e has = absurd cc
none_due config past (first ∷ others) link e has =
    let both = neither (due_on config first past) (due_sends config others past) e in
    by_test (first == link) refl has both.0 (none_due config past others link both.1)
  where
    by_test : (test : Bool) → (first == link) ≡ test → (if test then true else contains link others) ≡ true → due_on config first past ≡ None
        → (contains link others ≡ true → due_on config link past ≡ None) → due_on config link past ≡ None
    by_test true t has here behind = subst (λ (l : ℕ). due_on config l past ≡ None) (eqb-true first link t) here
    by_test false t has here behind = behind has

-- What a pending command waits for

module _ (config : Config) (past : List Item) (legal : IsRecord config past) (quiet : next config past ≡ None) (none : asking past ≡ false)
    (n : is_over past ≡ false) where
  o : owed config past ≡ []
  o = rests_owing_nothing config past quiet none

  sound : Sound config past
  sound = legal_sound legal (unstarved legal o n)

  now : Rested config past
  now = rested config past quiet none n

  going : HasPinned config past × (HasAssigned config past ⊎ (config.accounts ≡ []))
  going = goes_with o n (legal_going legal)

  -- neither the preamble, nor an entry of the history, nor the command is due on a link of the session
  nothing_on : (link : ℕ) → contains link (links past) ≡ true
      → (prepare_by (is_free false link past) link ≡ None)
      × (play_by (is_free true link past) link (stale_on link (statements config past)) (unplayed (cursor link past) (statements config past)) ≡ None)
      × (ask_by (is_free true link past) link (stale_on link (statements config past)) (is_link link (goes_on config past)) (asking_for config.causal_timeout_s (routing config past).check (pending past) link (statements config past).table.links) (sent_on past) ≡ None)
  nothing_on link here =
      let all = neither (prepare_by (is_free false link past) link) (play_by (is_free true link past) link (stale_on link (statements config past)) (unplayed (cursor link past) (statements config past))
      or ask_by (is_free true link past) link (stale_on link (statements config past)) (is_link link (goes_on config past)) (asking_for config.causal_timeout_s (routing config past).check (pending past) link (statements config past).table.links) (sent_on past))
      (none_due config past (links past) link now.sent here) in
      let behind = neither (play_by (is_free true link past) link (stale_on link (statements config past)) (unplayed (cursor link past) (statements config past)))
      (ask_by (is_free true link past) link (stale_on link (statements config past)) (is_link link (goes_on config past)) (asking_for config.causal_timeout_s (routing config past).check (pending past) link (statements config past).table.links) (sent_on past)) all.1 in
      (all.0, behind.0, behind.1)

  -- a link that isn't prepared doesn't rest
  prepared : (link : ℕ) → contains link (links past) ≡ true → linked link past ≡ Rests → (up : Bool) → is_up link past ≡ up → is_up link past ≡ true
  prepared link here is true u = u
  prepared link here is false u =
      let free : is_free false link past ≡ true = rw (here, u, is) refl in
      let due = (nothing_on link here).0 in
      let clash : Some (Puts (Sends link Prepares)) ≡ None = rw free at due in absurd cc

  -- and it has played the history
  none_left : (link : ℕ) (stale : Option ℕ) (entry : Option HistoryEntry) → play_by true link stale entry ≡ None → entry ≡ None
  none_left link stale None e = refl
  none_left link stale (Some entry) e = absurd cc

  played : (link : ℕ) → Contains (links past) link → linked link past ≡ Rests → unplayed (cursor link past) (statements config past) ≡ None
  played link has is =
      let here = has_it (links past) link has in
      let up = prepared link here is (is_up link past) refl in
      let free : is_free true link past ≡ true = rw (here, up, is) refl in
      let due = (nothing_on link here).1 in
      let due : play_by true link (stale_on link (statements config past)) (unplayed (cursor link past) (statements config past)) ≡ None = rw free at due in
      none_left link (stale_on link (statements config past)) (unplayed (cursor link past) (statements config past)) due

  -- one that is prepared is free where nothing was sent on it, or plays an entry of the history
  abbrev PlaysOn : ℕ → Type 0
  PlaysOn link = (entry : HistoryEntry) × (e : Exchange) × (asked_on link past ≡ Some (Plays entry)) × (exchange link past ≡ Some e)

  -- or its server is asked something before the command
  abbrev ChecksOn : ℕ → Type 0
  ChecksOn link = (check : Check) × (e : Exchange) × ((routing config past).check ≡ Some check) × (asks_first (asked_on link past) ≡ Some check) × (exchange link past ≡ Some e)

  at_rest_up : (link : ℕ) → contains link (links past) ≡ true → is_up link past ≡ true → sent_on past ≡ None → (found : Option Exchange)
      → exchange link past ≡ found → (linked link past ≡ Rests) ⊎ (PlaysOn link ⊎ ChecksOn link)
  at_rest_up link here up s (Some e) x = by_waits (sound.waits link e here x)
    where
      by_waits : WaitsOn link e (asked_on link past) (is_up link past) (pending past) (sent_on past) (handle config past) (told past) (owed config past)
          → (linked link past ≡ Rests) ⊎ (PlaysOn link ⊎ ChecksOn link)
      by_waits (prepares asked down) = let clash : true ≡ false = sym up ∙ down in absurd cc
      by_waits (repeats {entry = entry} asked) = inr (inl (entry, e, asked, x))
      by_waits (checks {check = check} q) = inr (inr (check, e, (legal_checking legal (unstarved legal o n) link e check here x q).for_it, q, x))
      by_waits (replies awaits) = let clash : None ≡ Some link = sym s ∙ awaits.sent_there in absurd cc
  at_rest_up link here up s None x = by_idling (now.asked link (contained link (links past) here) x)
    where
      by_idling : Idles (linked link past) → (linked link past ≡ Rests) ⊎ (PlaysOn link ⊎ ChecksOn link)
      by_idling (rests_now is) = inl is
      by_idling (enters_now is f) = let clash : true ≡ false = sym (ap logs_in is) ∙ legal_up legal link up in absurd cc

  some_due : (link : ℕ) (stale : Option ℕ) (purpose : Purpose) → ask_by true link stale true (Some purpose) None ≡ None → ⊥
  some_due link stale purpose e = cc

  module _ (command : Command) (p : pending past ≡ Some command) where
    waits_unsent : (link : ℕ) → goes_on config past ≡ Some link → contains link (links past) ≡ true → sent_on past ≡ None → (up : Bool)
        → is_up link past ≡ up → Waits config command past
    waits_unsent link g here s true u =
        elim (at_rest_up link here u s (exchange link past) refl) [
          | inl is ↦
              let free : is_free true link past ≡ true = rw (here, u, is) refl in
              let itself : (link == link) ≡ true = eq-eqb link link refl in
              let due = (nothing_on link here).2 in
              let its = asking_by_check config.causal_timeout_s (routing config past).check command (id_for link command.body (statements config past).table.links) in
              let due : ask_by true link (stale_on link (statements config past)) true (Some its) None ≡ None = rw (free, g, itself, p, s) at due in
              absurd (some_due link (stale_on link (statements config past)) its due)
          | inr waits ↦ elim waits [
            | inl plays ↦ for_entry link plays.0 plays.1 (contained link (links past) here) g s plays.2 plays.3
            | inr asks ↦ for_check link asks.0 asks.1 (contained link (links past) here) g s asks.2 asks.3 asks.4
          ]
        ]
    waits_unsent link g here s false u =
        for_link link (contained link (links past) here) g s u
        (λ is. let up = prepared link here is false u in let clash : false ≡ true = sym u ∙ up in cc)

    -- its link is there, but where there is no account
    goes_there : (kept : Option ℕ) (link : ℕ) → pinned config past ≡ kept → or_link kept (routing config past).assigned ≡ Some link
        → (contains link (links past) ≡ true) ⊎ (config.accounts ≡ [])
    goes_there (Some other) link k g = inl (going.0 link (k ∙ g))
    goes_there None link k g = by_assigned going.1
      where
        by_assigned : (HasAssigned config past ⊎ (config.accounts ≡ [])) → (contains link (links past) ≡ true) ⊎ (config.accounts ≡ [])
        by_assigned (inl its) = inl (its link g).0
        by_assigned (inr nobody) = inr nobody

    waits_on : (link : ℕ) → goes_on config past ≡ Some link → sent_on past ≡ None
        → ((contains link (links past) ≡ true) ⊎ (config.accounts ≡ [])) → Waits config command past
    waits_on link g s (inl here) = waits_unsent link g here s (is_up link past) refl
    waits_on link g s (inr nobody) = for_account nobody s

    waits_sent : (link : ℕ) → sent_on past ≡ Some link → Waits config command past
    waits_sent link s =
        let there = sound.sent link s in
        let its = rests_awaiting config past legal quiet none n command link p s in
        for_reply link its.0 (contained link (links past) there.4) there.2 s its.1 its.2

    kept_nowhere : (kept assigned : Option ℕ) → or_link kept assigned ≡ None → kept ≡ None
    kept_nowhere (Some link) assigned g = absurd cc
    kept_nowhere None assigned g = refl

    -- one that goes nowhere waits for a primary, else the worker would be asked
    waits_nowhere : (waits : Bool) → goes_on config past ≡ None → sent_on past ≡ None → (routing config past).waits ≡ waits → Waits config command past
    waits_nowhere true g s w = for_primary (kept_nowhere (pinned config past) (routing config past).assigned g) s (nowhere_last config past w)
    waits_nowhere false g s w =
        let due = now.routed in
        let clash : Some (Puts Routes) ≡ None = rw (p, g, w) at due in absurd cc

    waits_for : (sent goes : Option ℕ) → sent_on past ≡ sent → goes_on config past ≡ goes → Waits config command past
    waits_for (Some link) goes s g = waits_sent link s
    waits_for None (Some link) s g = waits_on link g s (goes_there (pinned config past) link refl g)
    waits_for None None s g = waits_nowhere (routing config past).waits g s refl

  idle_so : (link : LinkState) → Idles link → IsIdle link
  idle_so link (rests_now is) = at_rest is
  idle_so link (enters_now is f) = at_login is f

  has_answered : HasAnswered config past
  has_answered = record {
    stays = λ link k. contained link (links past) (going.0 link k);
    waits = λ command p. waits_for command p (sent_on past) (goes_on config past) refl refl;
    client = λ p.
        idles_so config past (now.client p)
        (front_says config (fronted config past) (steady config past) (is_entering o n (legal_entering legal)).going);
    room = now.room;
    reply = now.reply;
    asked = λ link has x. idle_so (linked link past) (now.asked link has x);
    prepared = λ link has is. prepared link (has_it (links past) link has) is (is_up link past) refl;
    played = λ link has is. played link has is;
  }

pub answered : Answered
answered config past legal e none =
    record { going_on = has_answered config past legal e none; ended = ended legal e none }

-- Where a run rests, each session that began rests.

of_record : (config : Config) (past : List Item) (item : Item) (below : List Item) → past ≡ item ∷ below
    → (past ≡ []) ⊎ IsRecord config past → IsStill config past → IsAnswered config (item ∷ below)
of_record config past item below is (inl none) still = let clash : item ∷ below ≡ [] = sym is ∙ none in absurd cc
of_record config past item below is (inr legal) still =
    subst (λ (p : List Item). IsAnswered config p) is (answered config past legal still.0 still.1)

pub answered_in_runs : AnsweredInRuns
answered_in_runs config run legal quiet session item below is =
    let still = rests config run quiet in
    of_record config (record_of session run) item below is (records config run legal session)
    (rests_each run (each_of legal) still.steps still.answers session)
