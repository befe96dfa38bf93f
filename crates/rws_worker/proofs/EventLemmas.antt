-- What the worker stands for where nobody is in turn, and where a session hears something.
use Rattle.std.proofs.Common.{◌≡◌, ℕ, max, Bool, true, false, not, List, [], ◌∷◌, ◌++◌, drop, refl, sym, ap, subst, ◌∙◌, Option, Some, None, arith}
use Rattle.std.proofs.lemmas.List.{append-nil}
use Rattle.std.specs.BTreeMap.{get}
use Rattle.std.specs.Ordering.{nat_cmp}
use Rattle.rws_board.specs.declared.event.Event.{Event}
use Rattle.rws_board.specs.declared.event.Event.TheVariants as events
use Rattle.rws_board.specs.declared.interaction.Interaction.{Interaction}
use Rattle.rws_board.specs.declared.interaction.Interaction.TheVariants.{Told as Tells}
use Rattle.rws_board.specs.Boards.{given}
use Rattle.rws_pool.specs.declared.events.PoolCall.TheVariants.{Observe}
use Rattle.rws_pool.specs.declared.words.Round.{Round}
use Rattle.rws_config.specs.declared.config.Config.{Config}
use Rattle.rws_record.specs.Item.{Item}
use Rattle.rws_record.specs.Values.{asking, contains, is_over, links, opens}
use Rattle.rws_record.specs.Run.{Entry, begun, next_entry, record_of, is_live, begun_by, events_of, greatest, last_clock, observing, reading_by, round_of, untold}
use Rattle.rws_record.specs.Run.Entry.{Came, Heard, Observes}
use Rattle.rws_record.specs.Run.IsRun.{came, goes_on}
use Rattle.rws_worker.specs.declared.asker.Asker.TheVariants.{Nobody}
use Rattle.rws_worker.specs.declared.tally.Tally.{Tally}
use Rattle.rws_worker.specs.declared.worker.Worker.{Worker}
use Rattle.rws_worker.specs.Stepping.{from_of, IsBare, IsIdle, asker_in, done_ahead, is_asking, is_awaiting}
use Rattle.rws_worker.specs.Standing.{Advances, Gives, IsBehind, SeatStands, ToTell, WorkerStands, holds, interactions_of}
use Rattle.rws_worker.specs.InTurn.{InTurn, IsBetween, asks_outside}
use Rattle.rws_worker.specs.Tallies.{seven, tally_but}
use Rattle.rws_worker.proofs.RecordLemmas.{heard_apart, heard_here, heard_last, heard_owners, still_has}
use Rattle.rws_worker.proofs.StepsLemmas.{bare_goes_none, bare_has_none_behind}
use Rattle.rws_worker.proofs.TallyLemmas.{tally_kept}
use Rattle.rws_worker.proofs.TurnLemmas.{seat_kept, still_tells}

-- Nobody is in turn

pub between : {config : Config} {worker : Worker} {run : List Entry} → WorkerStands config worker run → IsBare worker → IsBetween config worker run
between {config} {worker} {run} w bare = record {
  legal = w.legal;
  steps_none = w.steps_none;
  answers_none = w.answers_none bare.unasked;
  observed = w.observed;
  seats = λ session. subst (λ (asks : Bool). SeatStands config session asks (get nat_cmp worker.sessions session) run)
      (ap (is_asking session) bare.unasked) (w.seats session);
  fetched = λ session kept e. w.fetched session kept e (bare_goes_none worker bare session);
  owned = w.owned;
  owns = w.owns;
  links = w.links;
  numbers = w.numbers;
  begun = w.begun;
  clock = w.clock;
  tallied = w.tallied;
  unspent = w.unspent;
}

pub stands_between : {config : Config} {worker : Worker} {run : List Entry} → IsBetween config worker run → worker.asker ≡ Nobody
    → ToTell (from_of worker.telling) worker.now_ms run (untold config run) → WorkerStands config worker run
stands_between {config} {worker} {run} b nobody told = record {
  legal = b.legal;
  steps_none = b.steps_none;
  answers_none = λ _. b.answers_none;
  asks = λ session e. let none : None ≡ Some session = sym (ap asker_in nobody) ∙ e in absurd cc;
  awaits = λ e. let none : false ≡ true = sym (ap is_awaiting nobody) ∙ e in absurd cc;
  told = told;
  observed = b.observed;
  seats = λ session. subst (λ (asks : Bool). SeatStands config session asks (get nat_cmp worker.sessions session) run)
      (sym (ap (is_asking session) nobody)) (b.seats session);
  fetched = λ session kept e _. b.fetched session kept e;
  owned = b.owned;
  owns = b.owns;
  links = b.links;
  numbers = b.numbers;
  begun = b.begun;
  clock = b.clock;
  tallied = b.tallied;
  unspent = b.unspent;
}

-- nothing came of it
pub nothing_told : {config : Config} {worker : Worker} {run : List Entry} → IsBetween config worker run → worker.asker ≡ Nobody
    → done_ahead worker ≡ [] → ToTell (from_of worker.telling) worker.now_ms run (untold config run)
    → Advances config (interactions_of run) (events_of run) worker
nothing_told {config} {worker} {run} b nobody nothing told = record {
  now = run;
  stands = stands_between b nobody told;
  heard = refl;
  did = sym (append-nil (interactions_of run)) ∙ ap (λ (xs : List Interaction). interactions_of run ++ xs) (sym nothing);
  answered = ap is_awaiting nobody;
}

-- what comes next where nobody is in turn
pub rests_between : {config : Config} {worker : Worker} {run : List Entry} → IsBetween config worker run → untold config run ≡ []
    → next_entry config run ≡ None
rests_between {config} {worker} {run} b told = rw (b.steps_none, b.answers_none, told, b.observed) refl

pub idle_untold : {config : Config} {worker : Worker} {run : List Entry} → WorkerStands config worker run → from_of worker.telling ≡ None
    → untold config run ≡ []
idle_untold {config} {worker} {run} w all_told = subst (λ (o : Option ℕ). ToTell o worker.now_ms run (untold config run)) all_told w.told

pub idle_rests : {config : Config} {worker : Worker} {run : List Entry} → WorkerStands config worker run → IsIdle worker → next_entry config run ≡ None
idle_rests w idle = rests_between (between w idle.bare) (idle_untold w idle.all_told)

-- An event came

pub came_between : {config : Config} {old : Worker} {run : List Entry} → IsBetween config old run → untold config run ≡ []
    → (event : Event) → round_of config event ≡ None → (number reading : ℕ) → number ≡ max (begun_by event) (greatest run)
    → reading ≡ reading_by event (last_clock run)
    → IsBetween config (record old { greatest = number; now_ms = reading }) (Came event ∷ run)
came_between {config} {old} {run} b told event no_round number reading greatest_is clock_is = record {
  legal = came b.legal (rests_between b told);
  steps_none = refl;
  answers_none = refl;
  observed = no_round;
  seats = λ session. seat_kept config session false (get nat_cmp old.sessions session) run (Came event ∷ run) refl (b.seats session);
  fetched = b.fetched;
  owned = b.owned;
  owns = b.owns;
  links = b.links;
  numbers = b.numbers;
  begun = greatest_is;
  clock = clock_is;
  tallied = b.tallied;
  unspent = b.unspent;
}

-- A round is to be taken in

pub takes_in : (config : Config) (old : Worker) (run : List Entry) (round : Round) → WorkerStands config old run
    → round_of config (events.Observed round) ≡ Some round → IsIdle old
    → Gives config run (events.Observed round) (record old { observed = Some round })
takes_in config old run round w fits idle =
    let b = between w idle.bare in
    let told = idle_untold w idle.all_told in
    let now : List Entry = Observes round ∷ Came (events.Observed round) ∷ run in
    let so : IsBetween config old now = record {
      legal = goes_on (came b.legal (rests_between b told)) (ap (λ (o : Option Round). observing o) fits);
      steps_none = refl;
      answers_none = refl;
      observed = refl;
      seats = λ session. seat_kept config session false (get nat_cmp old.sessions session) run now refl (b.seats session);
      fetched = b.fetched;
      owned = b.owned;
      owns = b.owns;
      links = b.links;
      numbers = b.numbers;
      begun = let g = b.begun in omega arith;
      clock = b.clock;
      tallied = b.tallied;
      unspent = b.unspent;
    } in
    let stands = stands_between so idle.bare.unasked (subst (λ (o : Option ℕ). ToTell o old.now_ms now []) (sym idle.all_told) refl) in
    record {
      now = now;
      stands = record {
        legal = stands.legal;
        steps_none = stands.steps_none;
        answers_none = stands.answers_none;
        asks = λ session e. let none : None ≡ Some session = sym (ap asker_in idle.bare.unasked) ∙ e in absurd cc;
        awaits = λ e. let none : false ≡ true = sym (ap is_awaiting idle.bare.unasked) ∙ e in absurd cc;
        told = stands.told;
        observed = stands.observed;
        seats = stands.seats;
        fetched = stands.fetched;
        owned = stands.owned;
        owns = stands.owns;
        links = stands.links;
        numbers = stands.numbers;
        begun = stands.begun;
        clock = stands.clock;
        tallied = stands.tallied;
        unspent = stands.unspent;
      };
      heard = refl;
      did = ap (λ (xs : List Interaction). (interactions_of run ++ given (events.Observed round)) ++ Tells (Observe round) ∷ xs)
          (sym (bare_has_none_behind old idle.bare));
      answered = ap is_awaiting idle.bare.unasked;
    }

-- A session hears something

pub hearing_at : {config : Config} {worker : Worker} {run : List Entry} → IsBetween config worker run → (session : ℕ) (item : Item)
    (more : List (ℕ × Item)) → untold config run ≡ (session, item) ∷ more → next_entry config run ≡ Some (Heard session item)
hearing_at {config} {worker} {run} b session item more told = rw (b.steps_none, b.answers_none, told) refl

module _ {config : Config} {old : Worker} {run : List Entry} (b : IsBetween config old run) (bare : IsBare old) (session : ℕ) (item : Item)
    (none : opens item ≡ None) (more : List (ℕ × Item)) (told_so : untold config run ≡ (session, item) ∷ more)
    (behind : IsBehind (from_of old.telling) session) (tells : ToTell (from_of old.telling) old.now_ms run more)
    (silent : asking (item ∷ record_of session run) ≡ false) where
  abbrev start : List Entry
  start = Heard session item ∷ run

  at : record_of session start ≡ item ∷ record_of session run
  at = heard_here session item run

  -- without it what is open is this
  pub hears : (tallies : List Tally) → tallies ≡ seven (λ server. tally_but session start server)
      → ((link : ℕ) → contains link (links (record_of session run)) ≡ true → holds link (record_of session run) ≡ true)
      → InTurn config (interactions_of run) (events_of run) session (record old { tallies = tallies }) true start []
  hears tallies counted live_here = record {
    legal = goes_on b.legal (hearing_at b session item more told_so);
    hears = refl;
    told = subst (λ (list : List (ℕ × Item)). ToTell (from_of old.telling) old.now_ms start list) (sym (ap (drop 1) told_so))
        (still_tells (from_of old.telling) old.now_ms session run start more behind (λ other apart. heard_apart session other item run apart) tells);
    behind = behind;
    observed = b.observed;
    live = subst (λ (p : List Item). is_live p ≡ not (is_over p)) (sym at) refl;
    others = λ other apart. seat_kept config other false (get nat_cmp old.sessions other) run start (heard_apart session other item run apart) (b.seats other);
    fetched = λ other kept apart e. b.fetched other kept e;
    owned = λ link its e. heard_owners session item run link none ∙ b.owned link its e;
    owns = λ link its apart o h. b.owns link its (sym (heard_owners session item run link none) ∙ o)
        (ap (holds link) (sym (heard_apart session its item run apart)) ∙ h);
    owns_here = λ _ link o has. b.owns link session (sym (heard_owners session item run link none) ∙ o)
        (live_here link (still_has item (record_of session run) link none
        (subst (λ (past : List Item). contains link (links past) ≡ true) at has)));
    last = b.links ∙ sym (heard_last session item run none);
    numbers = b.numbers;
    begun = b.begun;
    clock = b.clock;
    tallied = counted;
    heard = refl;
    did = sym (append-nil (interactions_of run))
        ∙ ap (λ (a : Bool). interactions_of run ++ asks_outside a session) (sym (ap asking at ∙ silent));
    bare = record {
      nothing = bare.nothing;
      unbroken = bare.unbroken;
      unclosed = bare.unclosed;
      unobserved = bare.unobserved;
      unasked = bare.unasked;
    };
    unspent = b.unspent;
  }

  -- one that began before
  pub counted_apart : begun start ≡ begun run → (server : ℕ) → tally_but session run server ≡ tally_but session start server
  counted_apart same server = sym (tally_kept session run b.legal start same (λ other apart. heard_apart session other item run apart) server)
