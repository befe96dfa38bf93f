-- How a worker over the trace of an input ends, from what its board did.
use Rattle.std.proofs.Common.{◌≡◌, ℕ, ◌+◌, ◌^◌, ◌≤◌, inr, arith, List, [], ◌∷◌, ◌++◌, length, take, drop, refl, sym, ap, subst, ◌∙◌, Option, append_assoc, length-append}
use Rattle.std.proofs.KnownBytes.{Appends-nil}
use Rattle.std.proofs.lemmas.List.{append-nil, take-append-drop}
use Rattle.std.specs.Io.KnownBytes.{Appends}
use Rattle.rws_board.specs.Boards.{events_given}
use Rattle.rws_board.specs.Boards.Standing.{Going, Ended as AtEnd, NextFailed}
use Rattle.rws_board.specs.Faults.{Rises}
use Rattle.rws_board.specs.declared.board_fault.BoardFault.TheVariants as faults
use Rattle.rws_board.specs.declared.event.Event.{Event}
use Rattle.rws_board.specs.declared.interaction.Interaction.{Interaction}
use Rattle.rws_board.specs.declared.interaction.Interaction.TheVariants.{Gave}
use Rattle.rws_board.proofs.JoinLemmas.{events_given-append}
use Rattle.rws_config.specs.declared.config.Config.{Config}
use Rattle.rws_record.specs.Run.{Entry, events_of, done_in}
use Rattle.rws_record.specs.Run.IsRun.{starts}
use Rattle.rws_trace.specs.Printing.{text_of, text_of_one}
use Rattle.rws_trace.specs.Reader.{ReaderState, fresh}
use Rattle.rws_trace.specs.ScriptBoards.{ScriptBoardState, ScriptDid, FirstEvents, Goes, Ends, InputFails, IsCutShort}
use Rattle.rws_trace.specs.declared.side.Side.{Side}
use Rattle.rws_trace.proofs.Texts.{text_of-append}
use Rattle.rws_worker.specs.Standing.{interactions_of}
use Rattle.rws_worker.specs.Working.{IsResting, IsFront, IsSpent, Works}
use Rattle.rws_worker.specs.Working.Works.{ended, unread as untold, untaken, too_many as full, spent as used_up, starved_reading, starved_acting}
use Rattle.rws_worker.specs.declared.work.WorkEnd.{WorkEnd}
use Rattle.rws_worker.proofs.InteractionLemmas.{IsCutAt, cut_at, flat_map-without_gave, without_gave-run}
use Rattle.rws_top.specs.Trace.{AnswersTrace, HasHeardAll, IsBegun, IsCut, IsScript, settings_of}
use Rattle.rws_top.specs.Trace.Traces.{unread, unwritten, out_of_memory, too_many, spent}
use Rattle.rws_top.specs.Tracing.{EndsSo, IsClosing, board_over, end_of, failing_end}
use Rattle.rws_top.specs.declared.trace.TraceEnd.{TraceEnd}
use Rattle.rws_top.proofs.ScriptLemmas.{StartsWith, starts_with, unread_yet, reads_first, part_first, out_script, heard_all}

-- what passes in a run has the text of what the run did outside
text_of-run : (run : List Entry) → text_of (interactions_of run) ≡ text_of (done_in run)
text_of-run run = sym (flat_map-without_gave text_of_one (λ event. refl) (interactions_of run)) ∙ ap text_of (without_gave-run run)

-- a front of the lines of what a run did, whose first part this is
front_of_lines : (run : List Entry) (front behind : List Interaction) (count : ℕ) → interactions_of run ≡ front ++ behind
    → text_of (done_in run) ≡ take count (text_of front) ++ (drop count (text_of front) ++ text_of behind)
front_of_lines run front behind count parted =
    sym (text_of-run run) ∙ ap text_of parted ∙ text_of-append front behind
    ∙ ap (λ (bytes : List ℕ). bytes ++ text_of behind) (sym (take-append-drop count (text_of front)))
    ∙ append_assoc (take count (text_of front)) (drop count (text_of front)) (text_of behind)

module _ (config : Config) (before taken : Option (List ℕ)) (input output : ℕ) (side : Option Side) (new : ScriptBoardState) where
  -- a board over a trace that wasn't read yet
  abbrev pub start : ScriptBoardState
  start = record { reader = fresh (settings_of config); left = before; taken = taken; input_faults = input; output_faults = output; failed = side }

  abbrev pub Answers : ℕ → Type 0
  Answers status = AnswersTrace config before new.left taken new.taken (Rises input new.input_faults) (Rises output new.output_faults) status

  abbrev Ending : TraceEnd → Type 0
  Ending end = EndsSo config before new.left taken new.taken (Rises input new.input_faults) (Rises output new.output_faults) end

  -- the text of a run that rests
  abbrev begins : (run : List Entry) (resting : IsResting config run) → (s : StartsWith config before (events_of run))
      → IsBegun config s.script (text_of (done_in run))
  begins run resting s = record {
    heard = events_of run;
    ahead = s.ahead;
    parted = s.parted;
    run = run;
    over = record { legal = resting.legal; rests = resting.rests; heard = refl };
    printed = refl;
  }

  -- all lines of the run were put
  all_put : (run : List Entry) → Appends taken new.taken (text_of (interactions_of run)) → Appends taken new.taken (text_of (done_in run))
  all_put run put = subst (λ (bytes : List ℕ). Appends taken new.taken bytes) (text_of-run run) put

  closing : (run : List Entry) → IsResting config run → ScriptDid start new (interactions_of run) AtEnd
      → IsClosing config before new.left taken new.taken new.reader.place.events new.reader.place.bad_line
  closing run resting d =
      let e : Ends start new (interactions_of run) = d.stands in
      record {
        script = record { events = events_of run; bad_line = new.reader.place.bad_line };
        of_input = subst (λ (xs : List Event). IsScript config before (record { events = xs; bad_line = new.reader.place.bad_line })) resting.told (out_script config new.reader.place (events_given (interactions_of run)) new.reader.held before new.left e.read);
        stops = refl;
        counted = (let c = d.counts.events in let l = ap length resting.told in omega arith);
        few = resting.few;
        at_end = e.end;
        run = run;
        over = record { legal = resting.legal; rests = resting.rests; heard = refl };
        put = all_put run e.printed;
      }

  input_failed : (run : List Entry) → IsResting config run → ScriptDid start new (interactions_of run) (NextFailed faults.Failed) → Answers 4
  input_failed run resting d =
      let f : InputFails start new (interactions_of run) = d.stands.1 in
      let events = events_given (interactions_of run) in
      let s : StartsWith config before (events_of run) =
      starts_with config before (events_of run)
      (subst (λ (xs : List Event). FirstEvents (fresh (settings_of config)) before xs) resting.told
      (part_first config new.reader.place events new.reader.held before new.left f.read)) in
      record {
        script = s.script;
        printed = text_of (done_in run);
        of_input = s.of_input;
        took = all_put run f.printed;
        by_status = unread refl f.rises (begins run resting s)
            (subst (λ (xs : List Event). HasHeardAll config before new.left xs) resting.told
            (heard_all config new.reader.place events new.reader.held before new.left f.drained f.read));
      }

  -- A front of the lines of a run was put.

  module _ (done : List Interaction) (at : IsCutAt config done) (short : IsCutShort start new done) where
    abbrev lines : List ℕ
    lines = take short.printed.0 (text_of done)

    abbrev script_so_far : StartsWith config before (events_given done)
    script_so_far = starts_with config before (events_given done) short.read

    is_cut : IsCut config script_so_far.script lines
    is_cut = record {
      whole = text_of (done_in at.run);
      of_script = inr (record {
        heard = events_given done;
        ahead = script_so_far.ahead;
        parted = script_so_far.parted;
        run = at.run;
        over = record { legal = at.legal; rests = at.rests; heard = at.heard };
        printed = refl;
      });
      front = record {
        rest = drop short.printed.0 (text_of done) ++ text_of at.rest;
        parted = front_of_lines at.run done at.rest short.printed.0 at.parted;
      };
    }

    unput : Rises output new.output_faults → Answers 5
    unput rose = record {
      script = script_so_far.script;
      printed = lines;
      of_input = script_so_far.of_input;
      took = short.printed.1;
      by_status = unwritten refl rose is_cut;
    }

    cut_for_memory : Answers 9
    cut_for_memory = record {
      script = script_so_far.script;
      printed = lines;
      of_input = script_so_far.of_input;
      took = short.printed.1;
      by_status = out_of_memory refl is_cut;
    }

  -- All lines of what was done were put, and nothing more can be numbered.

  module _ (done : List Interaction) (at : IsCutAt config done) (is_spent : IsSpent config done) (d : ScriptDid start new done Going) where
    abbrev script_done : StartsWith config before (events_given done)
    script_done =
        let g : Goes start new done = d.stands in
        starts_with config before (events_given done)
        (reads_first config new.reader.place (events_given done) new.reader.held before new.left g.read)

    nothing_left : Answers 10
    nothing_left =
        let g : Goes start new done = d.stands in
        record {
          script = script_done.script;
          printed = text_of done;
          of_input = script_done.of_input;
          took = g.printed;
          by_status = spent refl done is_spent refl (record {
            whole = text_of (done_in at.run);
            of_script = inr (record {
              heard = events_given done;
              ahead = script_done.ahead;
              parted = script_done.parted;
              run = at.run;
              over = record { legal = at.legal; rests = at.rests; heard = at.heard };
              printed = refl;
            });
            front = record {
              rest = text_of at.rest;
              parted = sym (text_of-run at.run) ∙ ap text_of at.parted ∙ text_of-append done at.rest;
            };
          });
        }

  cut_by : (done : List Interaction) → IsFront config done → IsCutAt config done
  cut_by done f = cut_at config done f.run f.rest f.resting.legal f.resting.rests f.resting.told f.parted

  cut_whole : (run : List Entry) → IsResting config run → IsCutAt config (interactions_of run)
  cut_whole run resting = record {
    run = run;
    legal = resting.legal;
    rests = resting.rests;
    heard = sym resting.told;
    rest = [];
    parted = sym (append-nil (interactions_of run));
  }

  -- One more event came and isn't handled.

  module _ (run : List Entry) (event : Event) (resting : IsResting config run) (d : ScriptDid start new (interactions_of run ++ Gave event ∷ []) Going) where
    abbrev script_more : StartsWith config before (events_of run ++ event ∷ [])
    script_more =
        let g : Goes start new (interactions_of run ++ Gave event ∷ []) = d.stands in
        starts_with config before (events_of run ++ event ∷ [])
        (subst (λ (xs : List Event). FirstEvents (fresh (settings_of config)) before xs)
        (events_given-append (interactions_of run) (Gave event ∷ []) ∙ ap (λ (xs : List Event). xs ++ event ∷ []) resting.told)
        (reads_first config new.reader.place (events_given (interactions_of run ++ Gave event ∷ [])) new.reader.held before new.left g.read))

    abbrev script_for : StartsWith config before (events_of run)
    script_for = record {
      script = script_more.script;
      of_input = script_more.of_input;
      ahead = event ∷ script_more.ahead;
      parted = script_more.parted ∙ append_assoc (events_of run) (event ∷ []) script_more.ahead;
    }

    all_put_before : Appends taken new.taken (text_of (done_in run))
    all_put_before =
        let g : Goes start new (interactions_of run ++ Gave event ∷ []) = d.stands in
        all_put run (subst (λ (bytes : List ℕ). Appends taken new.taken bytes)
        (text_of-append (interactions_of run) (Gave event ∷ []) ∙ append-nil (text_of (interactions_of run))) g.printed)

    one_too_many : length (events_of run) + 1 ≡ 2 ^ 32 → Answers 10
    one_too_many last = record {
      script = script_for.script;
      printed = text_of (done_in run);
      of_input = script_for.of_input;
      took = all_put_before;
      by_status = too_many refl (begins run resting script_for) last longer;
    }
      where
        longer : 2 ^ 32 ≤ length script_for.script.events
        longer =
            let all = ap length script_for.parted in
            let parts = length-append (events_of run) (event ∷ script_more.ahead) in omega arith

  pub ends_so : {end : WorkEnd} → Works config (ScriptDid start new) end
      → EndsSo config before new.left taken new.taken (Rises input new.input_faults) (Rises output new.output_faults)
      (end_of end new.failed new.reader.place.events new.reader.place.bad_line)
  ends_so (ended run resting d) = closing run resting d
  ends_so (untold run resting d) = subst (λ (failed : Option Side). Ending (failing_end failed)) (sym d.stands.0) (input_failed run resting d)
  ends_so (untaken done front d) =
      subst (λ (failed : Option Side). Ending (failing_end failed)) (sym d.stands.0) (unput done (cut_by done front) d.stands.2 d.stands.1)
  ends_so (full run event resting last d) = one_too_many run event resting d last
  ends_so (used_up done front is_spent d) = nothing_left done (cut_by done front) is_spent d
  ends_so (starved_reading run resting d) = cut_for_memory (interactions_of run) (cut_whole run resting) d.stands
  ends_so (starved_acting done front d) = cut_for_memory done (cut_by done front) d.stands

-- memory was wanting before anything was read
pub not_begun : (config : Config) (before left taken : Option (List ℕ)) (input_failed output_failed : Type 0)
    → AnswersTrace config before left taken taken input_failed output_failed 9
not_begun config before left taken input_failed output_failed =
    let s : StartsWith config before [] = starts_with config before [] (unread_yet config before) in
    record {
      script = s.script;
      printed = [];
      of_input = s.of_input;
      took = Appends-nil taken;
      by_status = out_of_memory refl (record {
        whole = [];
        of_script = inr (record { heard = []; ahead = s.ahead; parted = s.parted; run = []; over = record { legal = starts; rests = refl; heard = refl }; printed = refl });
        front = record { rest = []; parted = refl };
      });
    }

module _ {I O : Type 0} (left : I → Option (List ℕ)) (input_faults : I → ℕ) (taken : O → Option (List ℕ)) (output_faults : O → ℕ)
    (config : Config) (end : WorkEnd) where
  -- a worker's work over a board that was lent these first, and these then
  abbrev pub WorksOver : ReaderState → I → O → Option Side → ReaderState → I → O → Option Side → Type 0
  WorksOver r0 i0 o0 f0 r1 i1 o1 f1 =
      Works config (ScriptDid (board_over left input_faults taken output_faults r0 i0 o0 f0) (board_over left input_faults taken output_faults r1 i1 o1 f1)) end

  pub same_board : (r0 r0' r1 r1' : ReaderState) (i0 i0' i1 i1' : I) (o0 o0' o1 o1' : O) (f0 f0' f1 f1' : Option Side)
      → r0 ≡ r0' → i0 ≡ i0' → o0 ≡ o0' → f0 ≡ f0' → r1 ≡ r1' → i1 ≡ i1' → o1 ≡ o1' → f1 ≡ f1'
      → WorksOver r0 i0 o0 f0 r1 i1 o1 f1 → WorksOver r0' i0' o0' f0' r1' i1' o1' f1'
  same_board r0 r0' r1 r1' i0 i0' i1 i1' o0 o0' o1 o1' f0 f0' f1 f1' er0 ei0 eo0 ef0 er1 ei1 eo1 ef1 works =
      subst (λ (f : Option Side). WorksOver r0' i0' o0' f0' r1' i1' o1' f) ef1
      (subst (λ (o : O). WorksOver r0' i0' o0' f0' r1' i1' o f1) eo1
      (subst (λ (i : I). WorksOver r0' i0' o0' f0' r1' i o1 f1) ei1
      (subst (λ (r : ReaderState). WorksOver r0' i0' o0' f0' r i1 o1 f1) er1
      (subst (λ (f : Option Side). WorksOver r0' i0' o0' f r1 i1 o1 f1) ef0
      (subst (λ (o : O). WorksOver r0' i0' o f0 r1 i1 o1 f1) eo0
      (subst (λ (i : I). WorksOver r0' i o0 f0 r1 i1 o1 f1) ei0
      (subst (λ (r : ReaderState). WorksOver r i0 o0 f0 r1 i1 o1 f1) er0 works)))))))

-- the reader is a fresh one
pub ends_over : (config : Config) (old new : ScriptBoardState) (end : WorkEnd) (result : TraceEnd) → old.reader ≡ fresh (settings_of config)
    → result ≡ end_of end new.failed new.reader.place.events new.reader.place.bad_line → Works config (ScriptDid old new) end
    → EndsSo config old.left new.left old.taken new.taken (Rises old.input_faults new.input_faults) (Rises old.output_faults new.output_faults) result
ends_over config old new end result first is works =
    subst (λ (e : TraceEnd). EndsSo config old.left new.left old.taken new.taken (Rises old.input_faults new.input_faults) (Rises old.output_faults new.output_faults) e)
    (sym is) (ends_so config old.left old.taken old.input_faults old.output_faults old.failed new
    (subst (λ (r : ReaderState). Works config (ScriptDid (record {
      reader = r;
      left = old.left;
      taken = old.taken;
      input_faults = old.input_faults;
      output_faults = old.output_faults;
      failed = old.failed;
    }) new) end) first works))
