-- What a board over a trace did, and then did more.
use Rattle.std.specs.Prelude.{◌≡◌, ℕ, List, [], ◌∷◌, ◌++◌, length, Option, Some, None, Result, Ok, Err, MatchResult}
use Rattle.std.specs.Io.KnownBytes.{Appends}
use Rattle.std.proofs.Common.{sym, ◌∙◌, ap, subst, arith, append-nil, length-append}
use Rattle.std.proofs.KnownBytes.{Appends-trans}
use Rattle.rws_board.specs.Boards.{Standing, events_given, given, standing_after}
use Rattle.rws_board.specs.Boards.Standing.{Going, Ended, NextFailed, ActFailed}
use Rattle.rws_board.proofs.JoinLemmas.{events_given-append}
use Rattle.rws_board.specs.Put.{AppendsFront}
use Rattle.rws_board.specs.declared.board_fault.BoardFault.{BoardFault}
use Rattle.rws_board.specs.declared.board_fault.BoardFault.TheVariants as faults
use Rattle.rws_board.specs.declared.event.Event.{Event}
use Rattle.rws_board.specs.declared.interaction.Interaction.{Interaction}
use Rattle.rws_trace.specs.Printing.{text_of}
use Rattle.rws_trace.specs.Reader.{Ahead, Reads, ReadsPart, ReadsOut}
use Rattle.rws_trace.specs.Script.{all_before}
use Rattle.rws_trace.specs.ScriptBoards.{ScriptBoardState, AheadOf, FirstEvents, Counts, Goes, Ends, InputFails, IsCutShort, ScriptDid, StandsSo}
use Rattle.rws_trace.specs.ScriptState.{Did}
use Rattle.rws_trace.specs.declared.script_board.ScriptBoard.{ScriptBoard}
use Rattle.rws_trace.specs.declared.script_board.ScriptBoard.{ScriptBoard}
use Rattle.rws_trace.proofs.AheadLemmas.{ahead-then}
use Rattle.rws_trace.proofs.ReadsLemmas.{reads-then, reads_part-then, reads_out-then, reads-script, all_before-then}
use Rattle.rws_trace.proofs.Texts.{text_of-append, front-behind}

module _ (a b c : ScriptBoardState) (xs ys : List Interaction) where
  events_more : events_given (xs ++ ys) ≡ events_given xs ++ events_given ys
  events_more = events_given-append xs ys

  texts_more : text_of (xs ++ ys) ≡ text_of xs ++ text_of ys
  texts_more = text_of-append xs ys

  counts_more : Counts a b xs → Counts b c ys → Counts a c (xs ++ ys)
  counts_more first next = record {
    input = let one = first.input in let two = next.input in omega arith;
    output = let one = first.output in let two = next.output in omega arith;
    events = let one = first.events in let two = next.events in let lengths = ap length events_more ∙ length-append (events_given xs) (events_given ys) in omega arith;
  }

  printed_more : Appends a.taken b.taken (text_of xs) → Appends b.taken c.taken (text_of ys) → Appends a.taken c.taken (text_of (xs ++ ys))
  printed_more first next =
      subst (λ (bytes : List ℕ). Appends a.taken c.taken bytes) (sym texts_more)
      (Appends-trans a.taken b.taken c.taken (text_of xs) (text_of ys) first next)

  front_more : Appends a.taken b.taken (text_of xs) → AppendsFront b.taken c.taken (text_of ys) → AppendsFront a.taken c.taken (text_of (xs ++ ys))
  front_more first next =
      subst (λ (bytes : List ℕ). AppendsFront a.taken c.taken bytes) (sym texts_more)
      (front-behind a.taken b.taken c.taken (text_of xs) (text_of ys) first next)

  reads_more : (P Q : List Event → List ℕ → List ℕ → Type 0) → ((x y z : List ℕ) → Reads a.reader.place b.reader.place (events_given xs) x y → P (events_given ys) y z → Q (events_given xs ++ events_given ys) x z)
      → AheadOf a b (Reads a.reader.place b.reader.place (events_given xs)) → AheadOf b c (P (events_given ys)) → AheadOf a c (Q (events_given (xs ++ ys)))
  reads_more P Q joins first next =
      subst (λ (events : List Event). AheadOf a c (Q events)) (sym events_more)
      (ahead-then (Reads a.reader.place b.reader.place (events_given xs)) (P (events_given ys)) (Q (events_given xs ++ events_given ys)) joins
      a.reader.held b.reader.held c.reader.held a.left b.left c.left first next)

  goes_more : Goes a b xs → Goes b c ys → Goes a c (xs ++ ys)
  goes_more first next = record {
    read = reads_more (Reads b.reader.place c.reader.place) (Reads a.reader.place c.reader.place)
        (reads-then a.reader.place b.reader.place c.reader.place (events_given xs) (events_given ys)) first.read next.read;
    printed = printed_more first.printed next.printed;
  }

  ends_more : Goes a b xs → Ends b c ys → Ends a c (xs ++ ys)
  ends_more first next = record {
    read = reads_more (ReadsOut b.reader.place c.reader.place) (ReadsOut a.reader.place c.reader.place)
        (reads_out-then a.reader.place b.reader.place c.reader.place (events_given xs) (events_given ys)) first.read next.read;
    end = next.end;
    printed = printed_more first.printed next.printed;
  }

  input_more : Counts a b xs → Goes a b xs → InputFails b c ys → InputFails a c (xs ++ ys)
  input_more counts first next = record {
    rises = let one = counts.input in let two = next.rises in omega arith;
    drained = next.drained;
    read = reads_more (ReadsPart b.reader.place c.reader.place) (ReadsPart a.reader.place c.reader.place)
        (reads_part-then a.reader.place b.reader.place c.reader.place (events_given xs) (events_given ys)) first.read next.read;
    printed = printed_more first.printed next.printed;
  }

  first_more : (left middle : Option (List ℕ)) → Ahead (Reads a.reader.place b.reader.place (events_given xs)) a.reader.held left b.reader.held middle
      → FirstEvents b.reader middle (events_given ys) → FirstEvents a.reader left (events_given (xs ++ ys))
  first_more None middle read next = tt
  first_more (Some left) None read next = absurd read
  first_more (Some left) (Some middle) read next = (
    next.0,
    reads-script a.reader.place b.reader.place (events_given xs) (a.reader.held ++ left) (b.reader.held ++ middle) read
        ∙ ap (all_before (events_given xs)) next.1 ∙ all_before-then (events_given xs) (events_given ys) next.0
        ∙ sym (ap (λ (events : List Event). all_before events next.0) events_more),
  )

  cut_more : Goes a b xs → IsCutShort b c ys → IsCutShort a c (xs ++ ys)
  cut_more first next = record {
    read = first_more a.left b.left first.read next.read;
    printed = front_more first.printed next.printed;
  }

  stands_more : (standing : Standing) → Counts a b xs → Goes a b xs → StandsSo b c ys standing → StandsSo a c (xs ++ ys) standing
  stands_more Going counts first next = goes_more first next
  stands_more Ended counts first next = ends_more first next
  stands_more (NextFailed faults.Failed) counts first next = (next.0, input_more counts first next.1)
  stands_more (NextFailed faults.OutOfMemory) counts first next = cut_more first next
  stands_more (ActFailed faults.Failed) counts first next =
      (next.0, (let one = counts.output in let two = next.1 in omega arith), cut_more first next.2)
  stands_more (ActFailed faults.OutOfMemory) counts first next = cut_more first next

pub script_did_more : (a b c : ScriptBoardState) (xs ys : List Interaction) (standing : Standing) → ScriptDid a b xs Going → ScriptDid b c ys standing → ScriptDid a c (xs ++ ys) standing
script_did_more a b c xs ys standing first next = record {
  counts = counts_more a b c xs ys first.counts next.counts;
  stands = stands_more a b c xs ys standing first.counts first.stands next.stands;
}

module _ {I O : Type 0} (left : I → Option (List ℕ)) (input_faults : I → ℕ) (taken : O → Option (List ℕ)) (output_faults : O → ℕ) (start old new : ScriptBoard I O) where
  did_more : (before more : List Interaction) (standing : Standing) → Did left input_faults taken output_faults start old before Going → Did left input_faults taken output_faults old new more standing
      → Did left input_faults taken output_faults start new (before ++ more) standing
  did_more before more standing first next = record {
    reader = next.reader ∙ first.reader;
    input = next.input ∙ first.input;
    out = next.out ∙ first.out;
    did = script_did_more _ _ _ before more standing first.did next.did;
  }

  -- a call that gave an event
  pub then_gave : (before : List Interaction) (result : Result Event BoardFault)
      → MatchResult result (λ event. Did left input_faults taken output_faults old new (given event) (standing_after event)) (λ fault. Did left input_faults taken output_faults old new [] (NextFailed fault))
      → Did left input_faults taken output_faults start old before Going
      → MatchResult result (λ event. Did left input_faults taken output_faults start new (before ++ given event) (standing_after event)) (λ fault. Did left input_faults taken output_faults start new before (NextFailed fault))
  then_gave before (Ok event) did first = did_more before (given event) (standing_after event) first did
  then_gave before (Err fault) did first =
      subst (λ (interactions : List Interaction). Did left input_faults taken output_faults start new interactions (NextFailed fault)) (append-nil before) (did_more before [] (NextFailed fault) first did)

  -- a call that was handed something
  pub then_took : (before : List Interaction) (handed : Interaction) (result : Result (Unit {0}) BoardFault)
      → MatchResult result (λ _. Did left input_faults taken output_faults old new (handed ∷ []) Going) (λ fault. Did left input_faults taken output_faults old new (handed ∷ []) (ActFailed fault))
      → Did left input_faults taken output_faults start old before Going
      → MatchResult result (λ _. Did left input_faults taken output_faults start new (before ++ handed ∷ []) Going) (λ fault. Did left input_faults taken output_faults start new (before ++ handed ∷ []) (ActFailed fault))
  then_took before handed (Ok unit) did first = did_more before (handed ∷ []) Going first did
  then_took before handed (Err fault) did first = did_more before (handed ∷ []) (ActFailed fault) first did
