-- What a board did in a worker's work.
use Rattle.std.proofs.Common.{◌≡◌, ℕ, ◌+◌, ◌-◌, ◌^◌, ◌<◌, ◌≤◌, Bool, true, false, List, [], ◌∷◌, ◌++◌, length, refl, sym, ap, subst, ◌∙◌, append_assoc, arith, Some, Result, Ok, Err, MatchResult, inl, inr}
use Rattle.std.proofs.lemmas.List.{append-nil, length-append}
use Rattle.std.specs.List.{AllByRecursion}
use Rattle.std.specs.Prelude.{nat_lt, if◌then◌else◌}
use Rattle.rws_board.proofs.JoinLemmas.{events_given-append}
use Rattle.rws_board.specs.Boards.{Standing, given, standing_after, events_given}
use Rattle.rws_board.specs.Boards.Standing.{Going, Ended as AtEnd, ActFailed}
use Rattle.rws_board.specs.declared.board_fault.BoardFault.{BoardFault}
use Rattle.rws_board.specs.declared.board_fault.BoardFault.TheVariants as faults
use Rattle.rws_board.specs.declared.event.Event.{Event}
use Rattle.rws_board.specs.declared.event.Event.TheVariants as events
use Rattle.rws_board.specs.declared.interaction.Interaction.{Interaction}
use Rattle.rws_board.specs.declared.interaction.Interaction.TheVariants.{Gave, Took, Told}
use Rattle.rws_pool.specs.declared.events.PoolCall.{PoolCall}
use Rattle.rws_pool.specs.declared.events.PoolEvent.{PoolEvent}
use Rattle.rws_pool.specs.declared.words.PoolWords.{PoolWords}
use Rattle.rws_pool.specs.History.{event_of}
use Rattle.rws_pool.specs.declared.events.PoolEvent.TheVariants.{Route as RouteEvent, Record, Observe}
use Rattle.rws_pool.specs.Machine.{CanStep, later, new_words, pool_from, pool_step}
use Rattle.rws_gtid.specs.declared.Gtid.{Gtid}
use Rattle.rws_config.specs.Allowed.{IsAllowed}
use Rattle.rws_config.specs.declared.config.Config.{Config}
use Rattle.rws_board.specs.declared.action.Action.{Action}
use Rattle.rws_record.specs.Run.{Entry, events_of, pool_events_of, untold, words_of}
use Rattle.rws_record.specs.Run.Entry.{Came}
use Rattle.rws_record.specs.Run.IsRun.{came}
use Rattle.rws_worker.specs.declared.asker.Asker.{Asker}
use Rattle.rws_worker.specs.declared.asker.Asker.TheVariants.{Nobody, Asks, Awaits}
use Rattle.rws_worker.specs.Stepping.{IsIdle, all_done_for, asker_in, done_ahead, done_for, is_awaiting, steps_ahead}
use Rattle.rws_worker.specs.Standing.{interactions_of, WorkerStands, Advances, Gives, GivesOr, IsUnbegun, StepsOn}
use Rattle.rws_worker.specs.Working.{CanBeDone, GoesSo, HasBegun, IsResting, IsFront, IsUnderway, WithWords, Works, end_by, events_told, is_end}
use Rattle.rws_worker.specs.Working.IsSpent.{unnumbered, unbegun, countless}
use Rattle.rws_worker.specs.Working.Works.{untaken, starved_acting, spent}
use Rattle.rws_worker.specs.declared.work.Next.{Next}
use Rattle.rws_worker.specs.declared.work.Next.TheVariants as nexts
use Rattle.rws_worker.specs.declared.work.WorkEnd.TheVariants as ends
use Rattle.rws_worker.specs.declared.step.Step.{Step}
use Rattle.rws_worker.specs.declared.step.Step.TheVariants.{Idle, Act, Call, Broken, Spent}
use Rattle.rws_worker.specs.declared.worker.Worker.{Worker}
use Rattle.rws_worker.proofs.CommitLemmas.{all_takable}
use Rattle.rws_worker.proofs.EventLemmas.{idle_rests}
use Rattle.rws_worker.proofs.InteractionLemmas.{events_told-append, given_tells_none, pool_from-append, told_can, words_told}
use Rattle.rws_worker.proofs.RestingLemmas.{RestsLater, ends_it, goes_through, rests_later}
use Rattle.rws_worker.proofs.StepsLemmas.{bare_has_none}

-- The words

-- they take the steps of the pool alone

pub words_at_event : (first now : PoolWords) (before : List Interaction) (event : Event) → now ≡ pool_from first (events_told before)
    → now ≡ pool_from first (events_told (before ++ given event))
words_at_event first now before event same =
    same ∙ ap (pool_from first) (sym (append-nil (events_told before))
    ∙ ap (λ (xs : List PoolEvent). events_told before ++ xs) (sym (given_tells_none event)) ∙ sym (events_told-append before (given event)))

pub words_at_action : (first now : PoolWords) (before : List Interaction) (action : Action) → now ≡ pool_from first (events_told before)
    → now ≡ pool_from first (events_told (before ++ Took action ∷ []))
words_at_action first now before action same =
    same ∙ ap (pool_from first) (sym (append-nil (events_told before)) ∙ sym (events_told-append before (Took action ∷ [])))

pub words_at_call : (first old now : PoolWords) (before : List Interaction) (call : PoolCall) → old ≡ pool_from first (events_told before)
    → now ≡ pool_step old (event_of call) → now ≡ pool_from first (events_told (before ++ Told call ∷ []))
words_at_call first old now before call same stepped =
    stepped ∙ ap (λ (words : PoolWords). pool_step words (event_of call)) same
    ∙ sym (pool_from-append first (events_told before) (event_of call ∷ []))
    ∙ ap (pool_from first) (sym (events_told-append before (Told call ∷ [])))

-- What they are to take they can take

one_of_all : {A : Type 0} (P : A → Type 0) (before : List A) (one : A) (others : List A) → AllByRecursion P (before ++ one ∷ others) → P one
one_of_all P [] one others all = all.0
one_of_all P (first ∷ before) one others all = one_of_all P before one others all.1

pub can_be_done : {config : Config} {run : List Entry} {old new : Worker} (step : Step) → IsAllowed config → StepsOn config run step old new
    → (done : List Interaction) → interactions_of run ≡ done ++ done_ahead old → CanBeDone config.gtid_domain step
can_be_done {config} {run} {old} {new} (Call call) allowed s done parted =
    let domain : ℕ = config.gtid_domain in
    let can = told_can domain s.now (all_takable config s.now allowed.servers.1 s.stands.legal) in
    one_of_all (CanStep domain) (events_told done) (event_of call) (events_told (done_ahead new))
    (subst (λ (events : List PoolEvent). AllByRecursion (CanStep domain) events)
    (ap events_told (s.did done parted) ∙ events_told-append done (Told call ∷ done_ahead new)) can)
can_be_done Idle allowed s done parted = tt
can_be_done (Act action) allowed s done parted = tt
can_be_done (Broken session farewell) allowed s done parted = tt
can_be_done Spent allowed s done parted = tt

-- and their domain stays

later_domain : (gtid : Gtid) (other : Gtid) → (later gtid other).domain ≡ gtid.domain
later_domain gtid other = by_test (nat_lt gtid.sequence other.sequence)
  where
    by_test : (test : Bool)
        → (if test then record { domain = gtid.domain; server = other.server; sequence = other.sequence } else gtid).domain ≡ gtid.domain
    by_test true = refl
    by_test false = refl

same_domain : (words : PoolWords) (events : List PoolEvent) → (pool_from words events).last.domain ≡ words.last.domain
same_domain words [] = refl
same_domain words (RouteEvent ∷ events) = same_domain words events
same_domain words (Record server gtid ∷ events) = same_domain (pool_step words (Record server gtid)) events ∙ later_domain words.last gtid
same_domain words (Observe round ∷ events) = same_domain (pool_step words (Observe round)) events

-- An event

pub at_end : (did : List Interaction → Standing → Type 0) (before : List Interaction) (event : Event) → is_end event ≡ true
    → did (before ++ given event) (standing_after event) → did before AtEnd
at_end did before events.End e d = subst (λ (xs : List Interaction). did xs AtEnd) (append-nil before) d
at_end did before (events.Accept session scramble) e d = absurd cc
at_end did before (events.Begin session server) e d = absurd cc
at_end did before (events.ClientBytes session bytes) e d = absurd cc
at_end did before (events.ClientGone session) e d = absurd cc
at_end did before (events.LinkReady link) e d = absurd cc
at_end did before (events.LinkBytes link bytes) e d = absurd cc
at_end did before (events.LinkGone link) e d = absurd cc
at_end did before (events.Clock now_ms) e d = absurd cc
at_end did before (events.Observed round) e d = absurd cc

pub is_given : (event : Event) → is_end event ≡ false → given event ≡ Gave event ∷ []
is_given events.End e = absurd cc
is_given (events.Accept session scramble) e = refl
is_given (events.Begin session server) e = refl
is_given (events.ClientBytes session bytes) e = refl
is_given (events.ClientGone session) e = refl
is_given (events.LinkReady link) e = refl
is_given (events.LinkBytes link bytes) e = refl
is_given (events.LinkGone link) e = refl
is_given (events.Clock now_ms) e = refl
is_given (events.Observed round) e = refl

pub not_at_end : (did : List Interaction → Standing → Type 0) (before : List Interaction) (event : Event) → is_end event ≡ false
    → did (before ++ given event) (standing_after event) → did (before ++ Gave event ∷ []) Going
not_at_end did before events.End e d = absurd cc
not_at_end did before (events.Accept session scramble) e d = d
not_at_end did before (events.Begin session server) e d = d
not_at_end did before (events.ClientBytes session bytes) e d = d
not_at_end did before (events.ClientGone session) e d = d
not_at_end did before (events.LinkReady link) e d = d
not_at_end did before (events.LinkBytes link bytes) e d = d
not_at_end did before (events.LinkGone link) e d = d
not_at_end did before (events.Clock now_ms) e d = d
not_at_end did before (events.Observed round) e d = d

no_event_done : (step : Step) → events_given (done_for step) ≡ []
no_event_done Idle = refl
no_event_done (Act action) = refl
no_event_done (Call call) = refl
no_event_done (Broken session farewell) = refl
no_event_done Spent = refl

no_events_done : (steps : List Step) → events_given (all_done_for steps) ≡ []
no_events_done [] = refl
no_events_done (step ∷ steps) =
    events_given-append (done_for step) (all_done_for steps)
    ∙ ap (λ (xs : List Event). xs ++ events_given (all_done_for steps)) (no_event_done step) ∙ no_events_done steps

none_behind : (done more : List Interaction) → events_given more ≡ [] → events_given (done ++ more) ≡ events_given done
none_behind done more none =
    events_given-append done more ∙ ap (λ (xs : List Event). events_given done ++ xs) none ∙ append-nil (events_given done)

-- A run as far as it came is a front of one that rests

by_asked : {config : Config} {worker : Worker} {run : List Entry} → WorkerStands config worker run → (session : ℕ)
    → asker_in worker.asker ≡ Some session → RestsLater config run
by_asked {config} {worker} {run} w session asks =
    let a = w.asks session asks in
    let e = ends_it w.legal session a.hears a.fed w.observed in
    let l = rests_later (untold config e.now) e.now e.quiet refl in
    record {
      now = l.now;
      legal = l.legal;
      rests = l.rests;
      to = goes_through e.to l.to;
    }

by_asker : {config : Config} {worker : Worker} {run : List Entry} → WorkerStands config worker run → (asker : Asker) → worker.asker ≡ asker
    → RestsLater config run
by_asker {config} {worker} {run} w Nobody is =
    rests_later (untold config run) run (record { legal = w.legal; steps_none = w.steps_none; answers_none = w.answers_none is; observed = w.observed }) refl
by_asker w (Asks session) is = by_asked w session (ap asker_in is)
by_asker w (Awaits session) is = by_asked w session (ap asker_in is)

pub front_of : {config : Config} {worker : Worker} {run : List Entry} → WorkerStands config worker run → length (events_of run) < 2 ^ 32
    → (done rest : List Interaction) → interactions_of run ≡ done ++ rest → events_given (interactions_of run) ≡ events_of run → IsFront config done
front_of {config} {worker} {run} w few done rest parted told =
    let l = by_asker w worker.asker refl in
    record {
      run = l.now;
      resting = record {
        legal = l.legal;
        rests = l.rests;
        few = let same = ap length l.to.heard in omega arith;
        told = ap events_given l.to.did ∙ none_behind (interactions_of run) l.to.more l.to.silent ∙ told ∙ sym l.to.heard;
      };
      rest = rest ++ l.to.more;
      parted = l.to.did ∙ ap (λ (xs : List Interaction). xs ++ l.to.more) parted ∙ append_assoc done rest l.to.more;
    }

-- It is underway, however many things were done
pub is_underway : {config : Config} {did : List Interaction → Standing → Type 0} {worker : Worker} {count things : ℕ}
    → IsUnderway config did worker count things → IsUnderway config did worker count 0
is_underway u = record {
  run = u.run;
  stands = u.stands;
  answered = u.answered;
  counted = u.counted;
  few = u.few;
  told = u.told;
  done = u.done;
  many = omega arith;
  parted = u.parted;
  done_so_far = u.done_so_far;
}

-- Between two events

pub resting : {config : Config} {did : List Interaction → Standing → Type 0} {worker : Worker} {count things : ℕ}
    (u : IsUnderway config did worker count things) → IsIdle worker → IsResting config u.run
resting u idle = record {
  legal = u.stands.legal;
  rests = idle_rests u.stands idle;
  few = let c = u.counted in let f = u.few in omega arith;
  told = u.told;
}

-- all is done by then
pub all_done : {config : Config} {did : List Interaction → Standing → Type 0} {worker : Worker} {count things : ℕ}
    (u : IsUnderway config did worker count things) → IsIdle worker → did (interactions_of u.run) Going
all_done {config} {did} {worker} u idle =
    subst (λ (xs : List Interaction). did xs Going)
    (sym (u.parted ∙ ap (λ (xs : List Interaction). u.done ++ xs) (bare_has_none worker idle.bare) ∙ append-nil u.done)) u.done_so_far

-- A step

module _ {config : Config} {did : List Interaction → Standing → Type 0} {worker : Worker} {count things : ℕ}
    (u : IsUnderway config did worker count things) (step : Step) (new : Worker) (s : StepsOn config u.run step worker new) where
  abbrev so_far : List Interaction
  so_far = u.done ++ done_for step

  parted_now : interactions_of s.now ≡ so_far ++ done_ahead new
  parted_now = s.did u.done u.parted ∙ sym (append_assoc u.done (done_for step) (done_ahead new))

  given_so_far : events_given so_far ≡ events_of s.now
  given_so_far =
      none_behind u.done (done_for step) (no_event_done step)
      ∙ sym (none_behind u.done (done_ahead worker) (no_events_done (steps_ahead worker))) ∙ ap events_given (sym u.parted) ∙ u.told ∙ sym s.heard

  told_now : events_given (interactions_of s.now) ≡ events_of s.now
  told_now = ap events_given parted_now ∙ none_behind so_far (done_ahead new) (no_events_done (steps_ahead new)) ∙ given_so_far

  few_now : length (events_of s.now) < 2 ^ 32
  few_now = let same = ap length s.heard in let c = u.counted in let f = u.few in omega arith

  counted_now : count ≡ length (events_of s.now)
  counted_now = u.counted ∙ ap length (sym s.heard)

  pub front_now : (done rest : List Interaction) → so_far ≡ done ++ rest → IsFront config done
  front_now done rest is =
      front_of s.stands few_now done (rest ++ done_ahead new)
      (parted_now ∙ ap (λ (xs : List Interaction). xs ++ done_ahead new) is ∙ append_assoc done rest (done_ahead new)) told_now

  -- nothing more can be numbered
  pub ends_spent : {now_did : List Interaction → Standing → Type 0} → 2 ^ 64 ≤ new.last_link + 2 → done_for step ≡ [] → now_did u.done Going
      → Works config now_did ends.TooMany
  ends_spent {now_did} above none d =
      let same : so_far ≡ u.done = ap (λ (xs : List Interaction). u.done ++ xs) none ∙ append-nil u.done in
      spent u.done (front_now u.done [] (same ∙ sym (append-nil u.done)))
      (unnumbered s.now (done_ahead new) s.stands.legal (let l = s.stands.links in omega arith)
      (parted_now ∙ ap (λ (xs : List Interaction). xs ++ done_ahead new) same)) d

  -- nothing is left
  pub underway_idle : {now_did : List Interaction → Standing → Type 0} → is_awaiting new.asker ≡ false → done_for step ≡ [] → now_did u.done Going
      → IsUnderway config now_did new count 0
  underway_idle {now_did} answered none d =
      let same : so_far ≡ u.done = ap (λ (xs : List Interaction). u.done ++ xs) none ∙ append-nil u.done in
      record {
        run = s.now;
        stands = s.stands;
        answered = answered;
        counted = counted_now;
        few = u.few;
        told = told_now;
        done = u.done;
        many = omega arith;
        parted = parted_now ∙ ap (λ (xs : List Interaction). xs ++ done_ahead new) same;
        done_so_far = d;
      }

  module _ (interaction : Interaction) (one : done_for step ≡ interaction ∷ []) where
    pub is_done : so_far ≡ u.done ++ interaction ∷ []
    is_done = ap (λ (xs : List Interaction). u.done ++ xs) one

    many_now : things + 1 ≤ length (u.done ++ interaction ∷ [])
    many_now = let both = length-append u.done (interaction ∷ []) in let m = u.many in omega arith

    -- it was done
    pub underway_on : {now_did : List Interaction → Standing → Type 0} → is_awaiting new.asker ≡ false
        → now_did (u.done ++ interaction ∷ []) Going → IsUnderway config now_did new count (things + 1)
    underway_on {now_did} answered d = record {
      run = s.now;
      stands = s.stands;
      answered = answered;
      counted = counted_now;
      few = u.few;
      told = told_now;
      done = u.done ++ interaction ∷ [];
      many = many_now;
      parted = parted_now ∙ ap (λ (xs : List Interaction). xs ++ done_ahead new) is_done;
      done_so_far = d;
    }

    -- and a session was answered
    pub underway_answered : {now_did : List Interaction → Standing → Type 0} → done_ahead new ≡ [] → (later : Worker)
        → Advances config (interactions_of s.now) (events_of s.now) later
        → now_did (u.done ++ interaction ∷ []) Going → IsUnderway config now_did later count (things + 1)
    underway_answered {now_did} none later a d =
        let so : interactions_of a.now ≡ (u.done ++ interaction ∷ []) ++ done_ahead later =
        a.did ∙ ap (λ (xs : List Interaction). xs ++ done_ahead later)
        (parted_now ∙ ap (λ (xs : List Interaction). so_far ++ xs) none ∙ append-nil so_far ∙ is_done) in
        record {
          run = a.now;
          stands = a.stands;
          answered = a.answered;
          counted = counted_now ∙ ap length (sym a.heard);
          few = u.few;
          told = ap events_given so ∙ none_behind (u.done ++ interaction ∷ []) (done_ahead later) (no_events_done (steps_ahead later))
              ∙ ap events_given (sym is_done) ∙ given_so_far ∙ sym a.heard;
          done = u.done ++ interaction ∷ [];
          many = many_now;
          parted = so;
          done_so_far = d;
        }

    -- the words are those of the run
    pub words_are : (first words : PoolWords) → first ≡ new_words config.gtid_domain → done_ahead new ≡ []
        → words ≡ pool_from first (events_told (u.done ++ interaction ∷ [])) → words ≡ words_of config s.now
    words_are first words is none known =
        known ∙ ap (λ (xs : List Interaction). pool_from first (events_told xs))
        (sym (parted_now ∙ ap (λ (xs : List Interaction). so_far ++ xs) none ∙ append-nil so_far ∙ is_done))
        ∙ words_told first s.now ∙ ap (λ (w : PoolWords). pool_from w (pool_events_of s.now)) is

    -- the board failed at it
    pub ends_failing : {now_did : List Interaction → Standing → Type 0} (fault : BoardFault) → now_did (u.done ++ interaction ∷ []) (ActFailed fault)
        → Works config now_did (end_by fault)
    ends_failing faults.Failed d = untaken (u.done ++ interaction ∷ []) (front_now (u.done ++ interaction ∷ []) [] (is_done ∙ sym (append-nil (u.done ++ interaction ∷ [])))) d
    ends_failing faults.OutOfMemory d = starved_acting (u.done ++ interaction ∷ []) (front_now (u.done ++ interaction ∷ []) [] (is_done ∙ sym (append-nil (u.done ++ interaction ∷ [])))) d

-- A step of the pool that comes next can be taken by the words

pub can_take : {B : Type 0} {config : Config} {did : B → List Interaction → Standing → Type 0} {words : PoolWords} {worker : Worker} {events : ℕ}
    (b : HasBegun config did words worker events) (call : PoolCall) → CanBeDone config.gtid_domain (Call call)
    → CanStep words.last.domain (event_of call)
can_take {config = config} {words = words} b call can =
    let same : words.last.domain ≡ config.gtid_domain =
    ap (λ (w : PoolWords). w.last.domain) b.underway.done_so_far.1 ∙ same_domain b.first (events_told b.underway.done)
    ∙ ap (λ (w : PoolWords). w.last.domain) b.is_new in
    subst (λ (domain : ℕ). CanStep domain (event_of call)) (sym same) can

-- what was told outside of a session that asks leaves nothing to do
pub awaiting_has_none : {config : Config} {worker : Worker} {run : List Entry} → WorkerStands config worker run → (asker : Asker) → worker.asker ≡ asker
    → is_awaiting asker ≡ true → done_ahead worker ≡ []
awaiting_has_none {worker = worker} w (Awaits session) is awaits =
    let can = w.awaits (ap is_awaiting is) in
    let a = w.asks session (ap asker_in is) in
    rw (can.unobserved, can.nothing, a.unbroken, a.unclosed, is) refl
awaiting_has_none w (Asks session) is awaits = absurd cc
awaiting_has_none w Nobody is awaits = absurd cc

-- Behind a step of the pool: the worker answers the session that asked, where one did

module _ {config : Config} {did : List Interaction → Standing → Type 0} {worker : Worker} {count things : ℕ}
    (u : IsUnderway config did worker count things) (call : PoolCall) (new : Worker) (s : StepsOn config u.run (Call call) worker new)
    (later : Worker) (first words : PoolWords) (board_did : List Interaction → Standing → Type 0) where
  pub underway_called : (awaits : Bool) → is_awaiting new.asker ≡ awaits → first ≡ new_words config.gtid_domain
      → ((run : List Entry) → WorkerStands config new run → is_awaiting new.asker ≡ true
      → words ≡ words_of config run → Advances config (interactions_of run) (events_of run) later)
      → (is_awaiting new.asker ≡ false → later ≡ new)
      → board_did (u.done ++ Told call ∷ []) Going → words ≡ pool_from first (events_told (u.done ++ Told call ∷ []))
      → IsUnderway config (WithWords board_did first words) later count (things + 1)
  underway_called true awaits is answers same d known =
      let none : done_ahead new ≡ [] = awaiting_has_none s.stands new.asker refl awaits in
      underway_answered u (Call call) new s (Told call) refl {now_did = WithWords board_did first words} none later
      (answers s.now s.stands awaits (words_are u (Call call) new s (Told call) refl first words is none known)) (d, known)
  underway_called false awaits is answers same d known =
      subst (λ (w : Worker). IsUnderway config (WithWords board_did first words) w count (things + 1)) (sym (same awaits))
      (underway_on u (Call call) new s (Told call) refl {now_did = WithWords board_did first words} awaits (d, known))

-- Where the board was to take an action

module _ {config : Config} {did : List Interaction → Standing → Type 0} {worker : Worker} {count things : ℕ}
    (u : IsUnderway config did worker count things) (step : Step) (new : Worker) (s : StepsOn config u.run step worker new)
    (action : Action) (one : done_for step ≡ Took action ∷ []) (first words : PoolWords) (board_did : List Interaction → Standing → Type 0) where
  pub acts_so : is_awaiting new.asker ≡ false → words ≡ pool_from first (events_told u.done) → (result : Result Next BoardFault)
      → MatchResult result (λ next. board_did (u.done ++ Took action ∷ []) Going × (next ≡ nexts.Goes))
      (λ fault. board_did (u.done ++ Took action ∷ []) (ActFailed fault))
      → MatchResult result (λ next. GoesSo config (WithWords board_did first words) new count things next)
      (λ fault. Works config (WithWords board_did first words) (end_by fault))
  acts_so answered known (Ok next) d =
      subst (λ (n : Next). GoesSo config (WithWords board_did first words) new count things n) (sym d.1)
      (underway_on u step new s (Took action) one {now_did = WithWords board_did first words} answered
      (d.0, words_at_action first words u.done action known))
  acts_so answered known (Err fault) d =
      ends_failing u step new s (Took action) one {now_did = WithWords board_did first words} fault
      (d, words_at_action first words u.done action known)

-- too many things are done
pub ends_countless : {config : Config} {did : List Interaction → Standing → Type 0} {worker : Worker} {count things : ℕ}
    (u : IsUnderway config did worker count things) → 2 ^ 64 - 1 ≤ things → Works config did ends.TooMany
ends_countless {worker = worker} u all =
    spent u.done
    (front_of u.stands (let c = u.counted in let f = u.few in omega arith) u.done (done_ahead worker) u.parted u.told)
    (countless (let m = u.many in omega arith)) u.done_so_far

-- An event was given

pub underway_given : {config : Config} {did now_did : List Interaction → Standing → Type 0} {worker : Worker} {count things : ℕ}
    (u : IsUnderway config did worker count things) (event : Event) → is_end event ≡ false → (new : Worker) → Gives config u.run event new
    → count + 1 < 2 ^ 32 → now_did (interactions_of u.run ++ Gave event ∷ []) Going → IsUnderway config now_did new (count + 1) 0
underway_given {config} u event no_end new a more d =
    let so : interactions_of a.now ≡ (interactions_of u.run ++ Gave event ∷ []) ++ done_ahead new =
    a.did ∙ ap (λ (xs : List Interaction). (interactions_of u.run ++ xs) ++ done_ahead new) (is_given event no_end) in
    record {
      run = a.now;
      stands = a.stands;
      answered = a.answered;
      counted = sym (ap length a.heard ∙ length-append (events_of u.run) (event ∷ []) ∙ ap (λ (n : ℕ). n + 1) (sym u.counted));
      few = more;
      told = ap events_given so ∙ none_behind (interactions_of u.run ++ Gave event ∷ []) (done_ahead new) (no_events_done (steps_ahead new))
          ∙ events_given-append (interactions_of u.run) (Gave event ∷ [])
          ∙ ap (λ (xs : List Event). xs ++ event ∷ []) u.told ∙ sym a.heard;
      done = interactions_of u.run ++ Gave event ∷ [];
      many = omega arith;
      parted = so;
      done_so_far = d;
    }

-- or a session was to begin, for which no link is left
pub ends_unbegun : {config : Config} {did now_did : List Interaction → Standing → Type 0} {worker : Worker} {count things : ℕ}
    (u : IsUnderway config did worker count things) → IsIdle worker → (event : Event) → is_end event ≡ false → (new : Worker)
    → IsUnbegun config event worker new → count + 1 < 2 ^ 32 → now_did (interactions_of u.run ++ Gave event ∷ []) Going
    → Works config now_did ends.TooMany
ends_unbegun {config} u idle event no_end new b more d =
    let r = resting u idle in
    let now : List Entry = Came event ∷ u.run in
    let l = rests_later (untold config now) now (record {
      legal = came u.stands.legal (idle_rests u.stands idle);
      steps_none = refl;
      answers_none = refl;
      observed = b.no_round;
    }) refl in
    let one : interactions_of now ≡ interactions_of u.run ++ Gave event ∷ [] = ap (λ (xs : List Interaction). interactions_of u.run ++ xs) (is_given event no_end) in
    let told : events_given (interactions_of now) ≡ events_of now =
    ap events_given one ∙ events_given-append (interactions_of u.run) (Gave event ∷ []) ∙ ap (λ (xs : List Event). xs ++ event ∷ []) u.told in
    spent (interactions_of u.run ++ Gave event ∷ [])
    (record {
      run = l.now;
      resting = record {
        legal = l.legal;
        rests = l.rests;
        few = let same = ap length l.to.heard in let both = length-append (events_of u.run) (event ∷ []) in let c = u.counted in omega arith;
        told = ap events_given l.to.did ∙ none_behind (interactions_of now) l.to.more l.to.silent ∙ told ∙ sym l.to.heard;
      };
      rest = l.to.more;
      parted = l.to.did ∙ ap (λ (xs : List Interaction). xs ++ l.to.more) one;
    })
    (unbegun u.run event u.stands.legal (let s = u.stands.links in let n = b.numbers in omega arith) refl) d

-- the worker says which

pub goes_given : (config : Config) (run : List Entry) (event : Event) (old new : Worker) → GivesOr config run event old new → new.spent ≡ false
    → Gives config run event new
goes_given config run event old new (inl b) unspent = let clash : true ≡ false = sym b.spent ∙ unspent in absurd cc
goes_given config run event old new (inr a) unspent = a

pub unbegun_given : (config : Config) (run : List Entry) (event : Event) (old new : Worker) → GivesOr config run event old new → new.spent ≡ true
    → IsUnbegun config event old new
unbegun_given config run event old new (inl b) is = b
unbegun_given config run event old new (inr a) is = let clash : true ≡ false = sym is ∙ a.stands.unspent in absurd cc
