-- The worker stands for the same run while what came of it is fetched.
use Rattle.std.proofs.Common.{◌≡◌, ℕ, ◌+◌, ◌<◌, ◌^◌, ⊎_elim, Bool, true, false, List, [], ◌∷◌, refl, sym, ap, subst, ◌∙◌, Option, Some, None, MatchOption}
use Rattle.std.proofs.lemmas.Bool.{cases_eq, eq-eqb, ne_eqb}
use Rattle.std.specs.BTreeMap.{BTreeMap, get}
use Rattle.std.specs.Ordering.{nat_cmp}
use Rattle.rws_pool.specs.declared.words.Round.{Round}
use Rattle.rws_config.specs.declared.config.Config.{Config}
use Rattle.rws_record.specs.declared.output.Output.{Output}
use Rattle.rws_record.specs.Run.{Entry, owner, record_of}
use Rattle.rws_record.specs.Item.{Item}
use Rattle.rws_session.specs.Kept.{Is, Kept, StandsOr}
use Rattle.rws_worker.specs.declared.ahead.Ahead.{Ahead}
use Rattle.rws_worker.specs.declared.ahead.Ahead.TheVariants.{Nothing}
use Rattle.rws_worker.specs.declared.asker.Asker.TheVariants.{Asks, Awaits}
use Rattle.rws_worker.specs.declared.worker.Worker.{Worker}
use Rattle.rws_worker.specs.Stepping.{asker_in, going_in, held_outs, is_asking, is_going, is_session, links_ahead, outs_ahead, outs_by, outs_of_seat}
use Rattle.rws_worker.specs.Standing.{SeatStands, WorkerStands, holds}
use Rattle.rws_worker.specs.Telling.{Changes}

module _ {config : Config} {old : Worker} {run : List Entry} (w : WorkerStands config old run) where
  -- what is ahead is elsewhere, but of the same session that goes on
  pub stands_on : (ahead : Ahead) (broken closing : Option ℕ) (observed : Option Round) → going_in ahead ≡ going_in old.ahead
      → (old.broken ≡ None → broken ≡ None) → (old.closing ≡ None → closing ≡ None) → (old.ahead ≡ Nothing → ahead ≡ Nothing)
      → (old.observed ≡ None → observed ≡ None)
      → (links_ahead old.ahead ≡ [] → links_ahead ahead ≡ [])
      → WorkerStands config (record old { ahead = ahead; broken = broken; closing = closing; observed = observed }) run
  stands_on ahead broken closing observed same unbroken unclosed nothing unobserved linkless = record {
    legal = w.legal;
    steps_none = w.steps_none;
    answers_none = w.answers_none;
    asks = λ session e. let a = w.asks session e in record {
      hears = a.hears;
      live = a.live;
      fed = a.fed;
      behind = a.behind;
      unbroken = unbroken a.unbroken;
      unclosed = unclosed a.unclosed;
      linkless = linkless a.linkless;
    };
    awaits = λ e. let a = w.awaits e in record { numbers = a.numbers; nothing = nothing a.nothing; unobserved = unobserved a.unobserved };
    told = w.told;
    observed = w.observed;
    seats = w.seats;
    fetched = λ session kept e g. w.fetched session kept e (sym (ap (is_session session) same) ∙ g);
    owned = w.owned;
    owns = w.owns;
    links = w.links;
    numbers = w.numbers;
    begun = w.begun;
    clock = w.clock;
    tallied = w.tallied;
    unspent = w.unspent;
  }

  -- a link's owner is forgotten
  pub stands_released : (owners : BTreeMap ℕ ℕ) (link : ℕ) → Changes old.owners owners link None
      → ((session : ℕ) → owner link run ≡ Some session → holds link (record_of session run) ≡ true → false ≡ true)
      → WorkerStands config (record old { owners = owners }) run
  stands_released owners link changes unheld = record {
    legal = w.legal;
    steps_none = w.steps_none;
    answers_none = w.answers_none;
    asks = λ session e. let a = w.asks session e in record {
      hears = a.hears;
      live = a.live;
      fed = a.fed;
      behind = a.behind;
      unbroken = a.unbroken;
      unclosed = a.unclosed;
      linkless = a.linkless;
    };
    awaits = λ e. let a = w.awaits e in record { numbers = a.numbers; nothing = a.nothing; unobserved = a.unobserved };
    told = w.told;
    observed = w.observed;
    seats = w.seats;
    fetched = w.fetched;
    owned = λ other its e. ⊎_elim
        (λ (same : link ≡ other).
        let none = subst (λ (l : ℕ). get nat_cmp owners l ≡ None) same changes.here in
        let clash : None ≡ Some its = sym none ∙ e in absurd cc)
        (λ (apart : link ≡ other → ⊥). w.owned other its (sym (changes.apart other apart) ∙ e))
        (cases_eq link other);
    owns = λ other its o h. ⊎_elim
        (λ (same : link ≡ other).
        let clash = unheld its (subst (λ (l : ℕ). owner l run ≡ Some its) (sym same) o)
        (subst (λ (l : ℕ). holds l (record_of its run) ≡ true) (sym same) h) in absurd cc)
        (λ (apart : link ≡ other → ⊥). changes.apart other apart ∙ w.owns other its o h)
        (cases_eq link other);
    links = w.links;
    numbers = w.numbers;
    begun = w.begun;
    clock = w.clock;
    tallied = w.tallied;
    unspent = w.unspent;
  }

  -- an output of the session that goes on is fetched
  pub stands_fetching : (session : ℕ) (kept kept' : Kept) → going_in old.ahead ≡ Some session → get nat_cmp old.sessions session ≡ Some kept
      → kept'.state ≡ kept.state → kept'.number ≡ kept.number → (sessions : BTreeMap ℕ Kept) → Changes old.sessions sessions session (Some kept')
      → WorkerStands config (record old { sessions = sessions }) run
  stands_fetching session kept kept' going found same_state same_number sessions changes = record {
    legal = w.legal;
    steps_none = w.steps_none;
    answers_none = w.answers_none;
    asks = λ s e. let a = w.asks s e in record {
      hears = a.hears;
      live = a.live;
      fed = a.fed;
      behind = a.behind;
      unbroken = a.unbroken;
      unclosed = a.unclosed;
      linkless = a.linkless;
    };
    awaits = λ e. let a = w.awaits e in record { numbers = a.numbers; nothing = a.nothing; unobserved = a.unobserved };
    told = w.told;
    observed = w.observed;
    seats = λ n. ⊎_elim
        (λ (here : session ≡ n).
        subst (λ (m : ℕ). SeatStands config m (is_asking m old.asker) (get nat_cmp sessions m) run) here
        (subst (λ (o : Option Kept). SeatStands config session (is_asking session old.asker) o run) (sym changes.here)
        (moved (is_asking session old.asker)
        (subst (λ (o : Option Kept). SeatStands config session (is_asking session old.asker) o run) found (w.seats session)))))
        (λ (apart : session ≡ n → ⊥).
        subst (λ (o : Option Kept). SeatStands config n (is_asking n old.asker) o run) (sym (changes.apart n apart)) (w.seats n))
        (cases_eq session n);
    fetched = λ n k e g. ⊎_elim
        (λ (here : session ≡ n).
        let goes : is_going n old.ahead ≡ true =
        subst (λ (m : ℕ). is_going m old.ahead ≡ true) here (ap (is_session session) going ∙ eq-eqb session session refl) in
        let clash : true ≡ false = sym goes ∙ g in absurd cc)
        (λ (apart : session ≡ n → ⊥). w.fetched n k (sym (changes.apart n apart) ∙ e) g)
        (cases_eq session n);
    owned = w.owned;
    owns = w.owns;
    links = w.links;
    numbers = w.numbers;
    begun = w.begun;
    clock = w.clock;
    tallied = w.tallied;
    unspent = w.unspent;
  }
    where
      is_moved : (past : List Item) → Is config kept past → Is config kept' past
      is_moved past is = record { mirrors = same_state ∙ is.mirrors; legal = is.legal }

      stands_moved : (asks : Bool) (past : List Item) → StandsOr asks config kept past → StandsOr asks config kept' past
      stands_moved true past s = record { is = is_moved past s.is; asks = s.asks }
      stands_moved false past s = record { is = is_moved past s.is; rests = s.rests; unasking = s.unasking }

      moved : (asks : Bool) → SeatStands config session asks (Some kept) run → SeatStands config session asks (Some kept') run
      moved asks s = record { live = s.live; stands = stands_moved asks _ s.stands; numbered = same_number ∙ s.numbered }

  all_fetched : (session : ℕ) (kept : Kept) (sessions : BTreeMap ℕ Kept) (goes : Option ℕ) (held : List Output)
      → outs_by goes held sessions ≡ [] → get nat_cmp sessions session ≡ Some kept → (is_session session goes ≡ false → kept.outs ≡ [])
      → kept.outs ≡ []
  all_fetched session kept sessions None held none e others = others refl
  all_fetched session kept sessions (Some other) held none e others = ⊎_elim
      (λ (same : other ≡ session). ap outs_of_seat (sym (ap (λ (n : ℕ). get nat_cmp sessions n) same ∙ e)) ∙ none)
      (λ (apart : other ≡ session → ⊥). others (ne_eqb other session apart))
      (cases_eq other session)

  -- once all was fetched, nothing is ahead
  pub none_ahead : outs_ahead old ≡ [] → WorkerStands config (record old { ahead = Nothing }) run
  none_ahead none = record {
    legal = w.legal;
    steps_none = w.steps_none;
    answers_none = w.answers_none;
    asks = λ session e. let a = w.asks session e in record {
      hears = a.hears;
      live = a.live;
      fed = a.fed;
      behind = a.behind;
      unbroken = a.unbroken;
      unclosed = a.unclosed;
      linkless = refl;
    };
    awaits = λ e. let a = w.awaits e in record { numbers = a.numbers; nothing = refl; unobserved = a.unobserved };
    told = w.told;
    observed = w.observed;
    seats = w.seats;
    fetched = λ session kept e _. all_fetched session kept old.sessions (going_in old.ahead) (held_outs old.ahead) none e (w.fetched session kept e);
    owned = w.owned;
    owns = w.owns;
    links = w.links;
    numbers = w.numbers;
    begun = w.begun;
    clock = w.clock;
    tallied = w.tallied;
    unspent = w.unspent;
  }

  -- and a session that asks is to be answered, as soon as that is told outside
  pub awaits_answer : (session : ℕ) → old.asker ≡ Asks session → outs_ahead old ≡ [] → old.observed ≡ None → old.last_link + 2 < 2 ^ 64
      → WorkerStands config (record old { asker = Awaits session; ahead = Nothing }) run
  awaits_answer session asks none unobserved numbers =
      let n = none_ahead none in
      let same_asking : (s : ℕ) → is_asking s old.asker ≡ is_asking s (Awaits session) = λ s. ap (is_asking s) asks in
      record {
        legal = n.legal;
        steps_none = n.steps_none;
        answers_none = λ e. absurd cc;
        asks = λ s e. let a = w.asks s (ap asker_in asks ∙ e) in record {
          hears = a.hears;
          live = a.live;
          fed = a.fed;
          behind = a.behind;
          unbroken = a.unbroken;
          unclosed = a.unclosed;
          linkless = refl;
        };
        awaits = λ e. record { numbers = numbers; nothing = refl; unobserved = unobserved };
        told = n.told;
        observed = n.observed;
        seats = λ s. subst (λ (b : Bool). SeatStands config s b (get nat_cmp old.sessions s) run) (same_asking s) (w.seats s);
        fetched = n.fetched;
        owned = n.owned;
        owns = n.owns;
        links = n.links;
        numbers = n.numbers;
        begun = n.begun;
        clock = n.clock;
        tallied = n.tallied;
        unspent = n.unspent;
      }

-- a session of which an output was fetched keeps the rest
pub fetched_same : (old new : Kept) (result : Option Output)
    → MatchOption result ((old.outs ≡ []) × (new ≡ old)) (λ output. (old.outs ≡ output ∷ new.outs) × (new ≡ record old { outs = new.outs }))
    → (new.state ≡ old.state) × (new.number ≡ old.number)
fetched_same old new None m = (ap (λ (k : Kept). k.state) m.1, ap (λ (k : Kept). k.number) m.1)
fetched_same old new (Some output) m = (ap (λ (k : Kept). k.state) m.1, ap (λ (k : Kept). k.number) m.1)

-- where no link is left, none is taken away
pub none_taken : (result : Option ℕ) (old new : List ℕ) → MatchOption result ((old ≡ []) × (new ≡ [])) (λ link. old ≡ link ∷ new) → old ≡ [] → new ≡ []
none_taken None old new m e = m.1
none_taken (Some link) old new m e = let clash : [] ≡ link ∷ new = sym e ∙ m in absurd cc
