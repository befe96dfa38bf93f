-- A run read from its start: what it went through, oldest first. Where memory is never wanting each entry but an event is
-- determined, so there is one run over a list of events.
use Rattle.std.proofs.Common.{◌≡◌, true, List, [], ◌∷◌, ◌++◌, refl, sym, ap, subst, Some, None}
use Rattle.std.specs.Prelude.{not}
use Rattle.std.proofs.lemmas.Bool.{and_parts}
use Rattle.rws_board.specs.declared.event.Event.{Event}
use Rattle.rws_config.specs.declared.config.Config.{Config}
use Rattle.rws_record.specs.Run.{Entry, IsRun, is_ample, is_want, next_entry, events_of, done_in}
use Rattle.rws_record.specs.Run.Entry.{Came, Heard, Did, Observes}
use Rattle.rws_record.specs.Run.IsRun.{starts, came as legal_came, goes_on as legal_goes_on, starves as legal_starves}
use Rattle.rws_record.specs.Laws.{OneRun, OneOutcome}
use Rattle.rws_record.proofs.EntryLemmas.{of_next_entry, same_events}

-- from one run to the end, over these events
data Reaches (config : Config) (end : List Entry) : List Entry → List Event → Type 0 where
  here : Reaches config end end []
  goes_on : {run : List Entry} {entry : Entry} {events : List Event} → next_entry config run ≡ Some entry
      → Reaches config end (entry ∷ run) events → Reaches config end run events
  came : {run : List Entry} {event : Event} {events : List Event} → next_entry config run ≡ None
      → Reaches config end (Came event ∷ run) events → Reaches config end run (event ∷ events)

-- one entry more at the end

then_goes_on : {config : Config} {now run : List Entry} {entry : Entry} {events : List Event} → Reaches config now run events
    → next_entry config now ≡ Some entry → Reaches config (entry ∷ now) run events
then_goes_on here next = goes_on next here
then_goes_on (goes_on first rest) next = goes_on first (then_goes_on rest next)
then_goes_on (came quiet rest) next = came quiet (then_goes_on rest next)

then_came : {config : Config} {now run : List Entry} {event : Event} {events : List Event} → Reaches config now run events
    → next_entry config now ≡ None → Reaches config (Came event ∷ now) run (events ++ event ∷ [])
then_came here q = came q here
then_came (goes_on first rest) q = goes_on first (then_came rest q)
then_came (came quiet rest) q = came quiet (then_came rest q)

ample_below : (entry : Entry) (run : List Entry) → is_ample (entry ∷ run) ≡ true → is_ample run ≡ true
ample_below (Came event) run ample = ample
ample_below (Heard session item) run ample = ample
ample_below (Observes round) run ample = ample
ample_below (Did session item) run ample = (and_parts (not (is_want item)) (is_ample run) ample).1

reached : {config : Config} {run : List Entry} → IsRun config run → is_ample run ≡ true → Reaches config run [] (events_of run)
reached starts ample = here
reached (legal_came before quiet) ample = then_came (reached before ample) quiet
reached {config} (legal_goes_on {run = run} {entry = entry} before next) ample =
    subst (λ (events : List Event). Reaches config (entry ∷ run) [] events) (sym (same_events (of_next_entry config run entry next)))
    (then_goes_on (reached before (ample_below entry run ample)) next)
reached (legal_starves before hears once made its) ample = absurd cc

-- the same entry leads to the same run
as_entry : {config : Config} {end run : List Entry} {one other : Entry} {events : List Event} → other ≡ one
    → Reaches config end (other ∷ run) events → Reaches config end (one ∷ run) events
as_entry {config} {end} {run} {one} {other} {events} same rest =
    subst (λ (entry : Entry). Reaches config end (entry ∷ run) events) same rest

-- two ways on from one run are the same way
same_end : {config : Config} {a b run : List Entry} {events : List Event} → Reaches config a run events
    → Reaches config b run events → next_entry config a ≡ None → next_entry config b ≡ None → a ≡ b
same_end here here rests_a rests_b = refl
same_end here (goes_on first rest) rests_a rests_b = absurd cc
same_end (goes_on first rest) here rests_a rests_b = absurd cc
same_end (goes_on {entry = one} first rest) (goes_on {entry = other} also rest_b) rests_a rests_b =
    let same : other ≡ one = cc in same_end rest (as_entry same rest_b) rests_a rests_b
same_end (goes_on first rest) (came quiet rest_b) rests_a rests_b = absurd cc
same_end (came quiet rest) (goes_on first rest_b) rests_a rests_b = absurd cc
same_end (came quiet rest) (came also rest_b) rests_a rests_b = same_end rest rest_b rests_a rests_b

pub one_run : OneRun
one_run config events a b over also ample_a ample_b =
    let reached_a : Reaches config a [] events = subst (λ (list : List Event). Reaches config a [] list) over.heard (reached over.legal ample_a) in
    let reached_b : Reaches config b [] events = subst (λ (list : List Event). Reaches config b [] list) also.heard (reached also.legal ample_b) in
    same_end reached_a reached_b over.rests also.rests

pub one_outcome : OneOutcome
one_outcome config events a b over also ample_a ample_b = ap done_in (one_run config events a b over also ample_a ample_b)
