-- Each run as far as it came goes on to one that rests: where nothing else is known, memory is wanting to whoever is in turn.
use Rattle.std.proofs.Common.{◌≡◌, ℕ, Bool, true, false, List, [], ◌∷◌, ◌++◌, drop, refl, sym, ap, ◌∙◌, Some, None, append_assoc, ◌⊎◌, inl, inr}
use Rattle.std.proofs.lemmas.List.{append-nil}
use Rattle.rws_board.proofs.JoinLemmas.{events_given-append}
use Rattle.rws_board.specs.Boards.{events_given}
use Rattle.rws_board.specs.declared.event.Event.{Event}
use Rattle.rws_board.specs.declared.interaction.Interaction.{Interaction}
use Rattle.rws_config.specs.declared.config.Config.{Config}
use Rattle.rws_record.specs.declared.output.Output.{Output}
use Rattle.rws_record.specs.Item.{Item}
use Rattle.rws_record.specs.Item.Item.{Accepted, TurnsAway, Began, Starves}
use Rattle.rws_record.specs.Outputs.{done_for as done_by}
use Rattle.rws_record.specs.Record.{GoesOn, IsBeginning, IsRecord, want_number}
use Rattle.rws_record.specs.Record.GoesOn.{stays, then as goes}
use Rattle.rws_record.specs.Rules.{next}
use Rattle.rws_record.specs.Values.{asking, is_over, is_starved}
use Rattle.rws_record.specs.Run.{Entry, IsRun, answer_of, events_of, hearer, is_live, next_entry, record_of, step_of, unobserved, untold}
use Rattle.rws_record.specs.Run.Entry.{Heard, Did}
use Rattle.rws_record.specs.Run.IsRun.{goes_on, starves}
use Rattle.rws_record.proofs.RecordLemmas.{Hearable, IsStill, each_of, first_of, rests_each}
use Rattle.rws_record.proofs.RecordLemmas.Hearable.{begins_it, comes_in}
use Rattle.rws_record.proofs.StepLemmas.{rests_owing_nothing}
use Rattle.rws_record.proofs.WantLemmas.{input_starved, unstarved}
use Rattle.rws_worker.specs.Standing.{interactions_of}
use Rattle.rws_worker.proofs.InteractionLemmas.{done_gives_none}
use Rattle.rws_worker.proofs.RecordLemmas.{did_here, heard_here}
use Rattle.rws_worker.proofs.TellLemmas.{live_open}
use Rattle.rws_worker.proofs.TurnLemmas.{quiet_at, step_at, unasked_at}
use Rattle.rws_worker.proofs.WantLemmas.{Finished, made_ends, over_ends}

-- it went on so, over the same events
pub record GoesTo (run now : List Entry) : Type 0 where
  pub heard : events_of now ≡ events_of run
  pub more : List Interaction
  pub did : interactions_of now ≡ interactions_of run ++ more
  pub silent : events_given more ≡ []

goes_nowhere : (run : List Entry) → GoesTo run run
goes_nowhere run = record { heard = refl; more = []; did = sym (append-nil (interactions_of run)); silent = refl }

pub goes_through : {run mid now : List Entry} → GoesTo run mid → GoesTo mid now → GoesTo run now
goes_through {run} {mid} {now} a b = record {
  heard = b.heard ∙ a.heard;
  more = a.more ++ b.more;
  did = b.did ∙ ap (λ (xs : List Interaction). xs ++ b.more) a.did ∙ append_assoc (interactions_of run) a.more b.more;
  silent = events_given-append a.more b.more ∙ ap (λ (xs : List Event). xs ++ events_given b.more) a.silent ∙ b.silent;
}

goes_by_item : (session : ℕ) (item : Item) (run : List Entry) → GoesTo run (Did session item ∷ run)
goes_by_item session item run = record {
  heard = refl;
  more = done_by session item (record_of session run);
  did = refl;
  silent = done_gives_none session item (record_of session run);
}

goes_by_hearing : (session : ℕ) (item : Item) (run : List Entry) → GoesTo run (Heard session item ∷ run)
goes_by_hearing session item run = record { heard = refl; more = []; did = sym (append-nil (interactions_of run)); silent = refl }

-- a session's own steps
record Later (config : Config) (session : ℕ) (now : List Entry) (reached : List Item) : Type 0 where
  run : List Entry
  legal : IsRun config run
  hears : hearer run ≡ Some session
  here : record_of session run ≡ reached
  told : untold config run ≡ untold config now
  observed : unobserved config run ≡ unobserved config now
  to : GoesTo now run

steps_on : {config : Config} {session : ℕ} {now : List Entry} {start reached : List Item} → IsRun config now → hearer now ≡ Some session
    → record_of session now ≡ start → GoesOn config start reached → Later config session now reached
steps_on {now = now} legal h at stays =
    record { run = now; legal = legal; hears = h; here = at; told = refl; observed = refl; to = goes_nowhere now }
steps_on {config} {session} {now} legal h at (goes {now = mid} {item = item} went step) =
    let l = steps_on legal h at went in
    record {
      run = Did session item ∷ l.run;
      legal = goes_on l.legal (step_at config session l.run item l.hears (ap (next config) l.here ∙ step));
      hears = l.hears;
      here = did_here session item l.run ∙ ap (λ (past : List Item). item ∷ past) l.here;
      told = l.told;
      observed = l.observed;
      to = goes_through l.to (goes_by_item session item l.run);
    }

-- nobody has a step, and nobody waits for an answer
pub record IsQuiet (config : Config) (run : List Entry) : Type 0 where
  pub legal : IsRun config run
  pub steps_none : step_of config (hearer run) run ≡ None
  pub answers_none : answer_of config (hearer run) run ≡ None
  pub observed : unobserved config run ≡ None

-- memory is wanting to the one that heard last
pub record IsEnded (config : Config) (run : List Entry) : Type 0 where
  pub now : List Entry
  pub quiet : IsQuiet config now
  pub told : untold config now ≡ untold config run
  pub to : GoesTo run now

pub ends_it : {config : Config} {run : List Entry} → IsRun config run → (session : ℕ) → hearer run ≡ Some session
    → is_starved (record_of session run) ≡ false → unobserved config run ≡ None → IsEnded config run
ends_it {config} {run} legal session h fed observed = by_over (is_over past) refl
  where
    past : List Item
    past = record_of session run

    number : ℕ
    number = want_number config (record_of session run)

    finishes : {outs : List Output} → Finished config session (Starves true (want_number config (record_of session run)) ∷ record_of session run) outs → IsEnded config run
    finishes f =
        let item : Item = Starves true (want_number config (record_of session run)) in
        let l = steps_on (starves legal h fed tt refl) h (did_here session item run) f.went_on in
        record {
          now = l.run;
          quiet = record {
            legal = l.legal;
            steps_none = quiet_at config session l.run l.hears (ap (next config) l.here ∙ f.rests);
            answers_none = unasked_at config session l.run l.hears (ap asking l.here ∙ f.unasking);
            observed = l.observed ∙ observed;
          };
          told = l.told;
          to = goes_through (goes_by_item session item run) l.to;
        }

    by_over : (over : Bool) → is_over (record_of session run) ≡ over → IsEnded config run
    by_over true o = finishes (over_ends config session (want_number config (record_of session run)) (record_of session run) true o)
    by_over false o = finishes (made_ends config session (want_number config (record_of session run)) (record_of session run) o)

-- it rests
pub record RestsLater (config : Config) (run : List Entry) : Type 0 where
  pub now : List Entry
  pub legal : IsRun config now
  pub rests : next_entry config now ≡ None
  pub to : GoesTo run now

begins_fed : (item : Item) → IsBeginning item → is_starved (item ∷ []) ≡ false
begins_fed (Accepted session scramble reading) its = refl
begins_fed (TurnsAway told) its = refl
begins_fed (Began link server reading) its = refl
begins_fed _ its = absurd its

live_legal : {config : Config} (past : List Item) → is_live past ≡ true → (past ≡ []) ⊎ IsRecord config past → IsRecord config past
live_legal [] live legal = absurd cc
live_legal (item ∷ past) live (inl none) = absurd cc
live_legal (item ∷ past) live (inr legal) = legal

heard_fed : {config : Config} {run : List Entry} {session : ℕ} {item : Item} → IsQuiet config run → Hearable run session item
    → is_starved (item ∷ record_of session run) ≡ false
heard_fed {item = item} q (begins_it none its next) = ap (λ (past : List Item). is_starved (item ∷ past)) none ∙ begins_fed item its
heard_fed {config} {run} {session} {item} q (comes_in live input) =
    let past : List Item = record_of session run in
    let still : IsStill config past = rests_each run (each_of q.legal) q.steps_none q.answers_none session in
    input_starved past item input
    ∙ unstarved (live_legal past live ((each_of q.legal).legal session)) (rests_owing_nothing config past still.0 still.1) (live_open past live)

pub rests_later : {config : Config} (list : List (ℕ × Item)) (run : List Entry) → IsQuiet config run → untold config run ≡ list → RestsLater config run
rests_later {config} [] run q told = record {
  now = run;
  legal = q.legal;
  rests = rw (q.steps_none, q.answers_none, told, q.observed) refl;
  to = goes_nowhere run;
}
rests_later {config} ((session, item) ∷ others) run q told =
    let heard : List Entry = Heard session item ∷ run in
    let first = first_of (each_of q.legal) (each_of q.legal).tells told in
    let legal : IsRun config heard = goes_on q.legal (rw (q.steps_none, q.answers_none, told) refl) in
    let e = ends_it legal session refl (ap is_starved (heard_here session item run) ∙ heard_fed q first.hearable) q.observed in
    let l = rests_later others e.now e.quiet (e.told ∙ ap (drop 1) told) in
    record {
      now = l.now;
      legal = l.legal;
      rests = l.rests;
      to = goes_through (goes_by_hearing session item run) (goes_through e.to l.to);
    }
