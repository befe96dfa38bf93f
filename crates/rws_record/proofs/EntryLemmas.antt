-- How a run goes on: what the next entry is, and what it leaves as it was.
use Rattle.std.proofs.Common.{◌≡◌, ℕ, Bool, true, false, List, [], ◌∷◌, refl, subst, ◌∙◌, Option, Some, None}
use Rattle.std.specs.Option.{option_map}
use Rattle.rws_board.specs.declared.event.Event.{Event}
use Rattle.rws_board.specs.declared.event.Event.TheVariants as events
use Rattle.rws_pool.specs.declared.words.Round.{Round}
use Rattle.rws_config.specs.declared.config.Config.{Config}
use Rattle.rws_record.specs.Item.{Item}
use Rattle.rws_record.specs.Values.{asking}
use Rattle.rws_record.specs.Rules.{next, ◌or◌}
use Rattle.rws_record.specs.Run.{Entry, answer_for, answer_of, answering, next_entry, step_of, hearing, hearer, observing, round_of, told_by, unobserved, untold, record_of, events_of, greatest}
use Rattle.rws_record.specs.Run.Entry.{Heard, Did, Observes}
use Rattle.rws_record.proofs.StepLemmas.{neither}

-- the entry behind a run, if it isn't an event
pub data Next (config : Config) (run : List Entry) : Entry → Type 0 where
  -- the session that heard something goes on
  did : {session : ℕ} {item : Item} → hearer run ≡ Some session → next config (record_of session run) ≡ Some item
      → Next config run (Did session item)
  -- it asked the worker, and is answered
  answered : {session : ℕ} → hearer run ≡ Some session → asking (record_of session run) ≡ true
      → Next config run (Did session (answer_for config session run))
  -- it rests, and the next one hears what it is told
  heard : {session : ℕ} {item : Item} {others : List (ℕ × Item)} → step_of config (hearer run) run ≡ None
      → answer_of config (hearer run) run ≡ None
      → untold config run ≡ (session, item) ∷ others → Next config run (Heard session item)
  -- all was told, and the words take the round in
  observes : {round : Round} → step_of config (hearer run) run ≡ None → answer_of config (hearer run) run ≡ None
      → untold config run ≡ [] → unobserved config run ≡ Some round → Next config run (Observes round)

module _ (config : Config) (run : List Entry) (entry : Entry) where
  of_step : (heard : Option ℕ) → hearer run ≡ heard → step_of config heard run ≡ Some entry → Next config run entry
  of_step None h e = absurd cc
  of_step (Some session) h e = by_next (next config (record_of session run)) refl e
    where
      by_next : (step : Option Item) → next config (record_of session run) ≡ step
          → option_map {U = Entry} (λ item. Did session item) step ≡ Some entry → Next config run entry
      by_next None n e = absurd cc
      by_next (Some item) n e = let same : Did session item ≡ entry = cc in subst (Next config run) same (did h n)

  of_round : (its : Option Round) → unobserved config run ≡ its → untold config run ≡ [] → step_of config (hearer run) run ≡ None
      → answer_of config (hearer run) run ≡ None → observing its ≡ Some entry → Next config run entry
  of_round None o u quiet none e = absurd cc
  of_round (Some round) o u quiet none e =
      let same : Observes round ≡ entry = cc in subst (Next config run) same (observes quiet none u o)

  of_hearing : (told : List (ℕ × Item)) → untold config run ≡ told → step_of config (hearer run) run ≡ None
      → answer_of config (hearer run) run ≡ None → (hearing told or observing (unobserved config run)) ≡ Some entry → Next config run entry
  of_hearing [] u quiet none e = of_round (unobserved config run) refl u quiet none e
  of_hearing (first ∷ others) u quiet none e =
      let same : Heard first.0 first.1 ≡ entry = cc in subst (Next config run) same (heard quiet none u)

  of_answer : (its : Option ℕ) → hearer run ≡ its → answer_of config its run ≡ Some entry → Next config run entry
  of_answer None h e = absurd cc
  of_answer (Some session) h e = by_asking (asking (record_of session run)) refl e
    where
      by_asking : (asks : Bool) → asking (record_of session run) ≡ asks
          → answering config asks session run ≡ Some entry → Next config run entry
      by_asking false a e = absurd cc
      by_asking true a e =
          let same : Did session (answer_for config session run) ≡ entry = cc in
          subst (Next config run) same (answered h a)

  pub of_next_entry : next_entry config run ≡ Some entry → Next config run entry
  of_next_entry e = by_step (step_of config (hearer run) run) refl e
    where
      by_answer : (its : Option Entry) → answer_of config (hearer run) run ≡ its → step_of config (hearer run) run ≡ None
          → (its or (hearing (untold config run) or observing (unobserved config run))) ≡ Some entry → Next config run entry
      by_answer None a s e = of_hearing (untold config run) refl s a e
      by_answer (Some other) a s e = of_answer (hearer run) refl (a ∙ e)

      by_step : (step : Option Entry) → step_of config (hearer run) run ≡ step
          → (step or (answer_of config (hearer run) run or (hearing (untold config run) or observing (unobserved config run)))) ≡ Some entry
          → Next config run entry
      by_step None s e = by_answer (answer_of config (hearer run) run) refl s e
      by_step (Some other) s e = of_step (hearer run) refl (s ∙ e)

-- what a run that rests says: it has told all, the session that heard of the last event rests, and was answered, and the last
-- event's round was taken in
pub record Still (config : Config) (run : List Entry) : Type 0 where
  pub steps : step_of config (hearer run) run ≡ None
  pub answers : answer_of config (hearer run) run ≡ None
  pub tells : hearing (untold config run) ≡ None
  pub observed : observing (unobserved config run) ≡ None

pub rests : (config : Config) (run : List Entry) → next_entry config run ≡ None → Still config run
rests config run e =
    let last : Option Entry = hearing (untold config run) or observing (unobserved config run) in
    let first = neither (step_of config (hearer run) run) (answer_of config (hearer run) run or last) e in
    let rest = neither (answer_of config (hearer run) run) last first.1 in
    let end = neither (hearing (untold config run)) (observing (unobserved config run)) rest.1 in
    record { steps = first.0; answers = rest.0; tells = end.0; observed = end.1 }

-- an event that tells a session something is no round
pub told_no_round : (config : Config) (event : Event) (run : List Entry) (told : ℕ × Item) (others : List (ℕ × Item))
    → told_by config event run ≡ told ∷ others → round_of config event ≡ None
told_no_round config (events.Accept session scramble) run told others e = refl
told_no_round config (events.Begin session server) run told others e = refl
told_no_round config (events.ClientBytes session bytes) run told others e = refl
told_no_round config (events.ClientGone session) run told others e = refl
told_no_round config (events.LinkReady link) run told others e = refl
told_no_round config (events.LinkBytes link bytes) run told others e = refl
told_no_round config (events.LinkGone link) run told others e = refl
told_no_round config (events.Clock now_ms) run told others e = refl
told_no_round config (events.Observed round) run told others e = absurd cc
told_no_round config events.End run told others e = refl

-- no event stands in it
pub same_events : {config : Config} {run : List Entry} {entry : Entry} → Next config run entry
    → events_of (entry ∷ run) ≡ events_of run
same_events (did h n) = refl
same_events (answered h a) = refl
same_events (heard q n u) = refl
same_events (observes q n u o) = refl

pub same_greatest : {config : Config} {run : List Entry} {entry : Entry} → Next config run entry
    → greatest (entry ∷ run) ≡ greatest run
same_greatest (did h n) = refl
same_greatest (answered h a) = refl
same_greatest (heard q n u) = refl
same_greatest (observes q n u o) = refl
