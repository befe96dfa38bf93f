-- What a board over a trace did in one call.
use Rattle.std.proofs.Common.{◌≡◌, ℕ, ◌+◌, ◌≤◌, List, [], ◌∷◌, ◌++◌, length, Option, Some, None, refl, sym, ◌∙◌, ap, subst, append-nil, arith}
use Rattle.std.proofs.KnownBytes.{Appends-nil}
use Rattle.std.specs.Io.KnownBytes.{Appends, IsAtEnd}
use Rattle.rws_board.specs.Boards.{IsHanded, events_given, given, standing_after}
use Rattle.rws_board.specs.Boards.Standing.{Going, NextFailed, ActFailed}
use Rattle.rws_board.specs.Faults.{Rises}
use Rattle.rws_board.specs.Put.{AppendsFront}
use Rattle.rws_board.specs.declared.board_fault.BoardFault.TheVariants as faults
use Rattle.rws_board.specs.declared.event.Event.{Event}
use Rattle.rws_board.specs.declared.event.Event.TheVariants.{Accept, Begin, ClientBytes, ClientGone, LinkReady, LinkBytes, LinkGone, Clock, Observed, End}
use Rattle.rws_board.specs.declared.interaction.Interaction.{Interaction}
use Rattle.rws_board.specs.declared.interaction.Interaction.TheVariants.{Gave, Took, Told}
use Rattle.rws_trace.specs.Counting.{PassesOver}
use Rattle.rws_trace.specs.Lines.{lines_of}
use Rattle.rws_trace.specs.Printing.{text_of, text_of_one}
use Rattle.rws_trace.specs.Reader.{Ahead, ReaderState, Reads, ReadsPart, Tells, TellsNext, count_of, script_at}
use Rattle.rws_trace.specs.ScriptBoards.{ScriptBoardState, Counts, FirstEvents, IsCutShort, ScriptDid}
use Rattle.rws_trace.specs.declared.place.Place.{Place}
use Rattle.rws_trace.specs.declared.side.Side.{Side}
use Rattle.rws_trace.specs.declared.side.Side.TheVariants.{Input, Output}
use Rattle.rws_trace.proofs.ReadsLemmas.{ahead-none}

ahead-map : (P Q : List ℕ → List ℕ → Type 0) → ((x y : List ℕ) → P x y → Q x y) → (h0 h1 : List ℕ) (l0 l1 : Option (List ℕ)) → Ahead P h0 l0 h1 l1 → Ahead Q h0 l0 h1 l1
ahead-map P Q maps h0 h1 None l1 p = tt
ahead-map P Q maps h0 h1 (Some x) None p = absurd p
ahead-map P Q maps h0 h1 (Some x) (Some y) p = maps (h0 ++ x) (h1 ++ y) p

no_events : (reader : ReaderState) (left : Option (List ℕ)) → FirstEvents reader left []
no_events reader None = tt
no_events reader (Some left) = (script_at reader.place (lines_of (reader.held ++ left)), refl)

-- a call of the reader
module _ (reader reader' : ReaderState) (left left' taken : Option (List ℕ)) (input input' output : ℕ) (rises : input ≤ input') where
  abbrev unread : Option Side → ScriptBoardState
  unread side = record { reader = reader; left = left; taken = taken; input_faults = input; output_faults = output; failed = side }

  abbrev read : Option Side → ScriptBoardState
  read side = record { reader = reader'; left = left'; taken = taken; input_faults = input'; output_faults = output; failed = side }

  one_event : (event : Event) (side : Option Side)
      → ((x y : List ℕ) → Tells event reader.place reader'.place x y → Reads reader.place reader'.place (event ∷ []) x y)
      → TellsNext reader left event reader' left' → reader'.place.events ≡ reader.place.events + 1 → ScriptDid (unread side) (read side) (Gave event ∷ []) Going
  one_event event side reads tells counted = record {
    counts = record { input = rises; output = omega arith; events = counted };
    stands = record {
      read = ahead-map (Tells event reader.place reader'.place) (Reads reader.place reader'.place (event ∷ [])) reads reader.held reader'.held left left' tells;
      printed = Appends-nil taken;
    };
  }

  pub gave : (event : Event) (side : Option Side) → TellsNext reader left event reader' left' → reader'.place.events ≡ reader.place.events + count_of event
      → (event ≡ End → reader'.place.bad_line ≡ None → IsAtEnd left') → ScriptDid (unread side) (read side) (given event) (standing_after event)
  gave End side tells counted end = record {
    counts = record { input = rises; output = omega arith; events = counted };
    stands = record { read = tells; end = end refl; printed = Appends-nil taken };
  }
  gave (Accept session scramble) side tells counted end = one_event (Accept session scramble) side (λ x y t. t.0) tells counted
  gave (Begin session server) side tells counted end = one_event (Begin session server) side (λ x y t. t.0) tells counted
  gave (ClientBytes session bytes) side tells counted end = one_event (ClientBytes session bytes) side (λ x y t. t.0) tells counted
  gave (ClientGone session) side tells counted end = one_event (ClientGone session) side (λ x y t. t.0) tells counted
  gave (LinkReady link) side tells counted end = one_event (LinkReady link) side (λ x y t. t.0) tells counted
  gave (LinkBytes link bytes) side tells counted end = one_event (LinkBytes link bytes) side (λ x y t. t.0) tells counted
  gave (LinkGone link) side tells counted end = one_event (LinkGone link) side (λ x y t. t.0) tells counted
  gave (Clock now) side tells counted end = one_event (Clock now) side (λ x y t. t.0) tells counted
  gave (Observed round) side tells counted end = one_event (Observed round) side (λ x y t. t.0) tells counted

  no_more : PassesOver reader.place reader'.place → reader'.place.events ≡ reader.place.events + 0
  no_more over = ap (λ (place : Place). place.events) over.same ∙ omega arith

  pub input_failed : (side : Option Side) → PassesOver reader.place reader'.place → Rises input input' → reader'.held ≡ []
      → Ahead (ReadsPart reader.place reader'.place []) reader.held left reader'.held left' → ScriptDid (unread side) (read (Some Input)) [] (NextFailed faults.Failed)
  input_failed side over rose drained cut = record {
    counts = record { input = rises; output = omega arith; events = no_more over };
    stands = (refl, record { rises = rose; drained = drained; read = cut; printed = Appends-nil taken });
  }

  pub no_memory_to_read : (side : Option Side) → PassesOver reader.place reader'.place → ScriptDid (unread side) (read side) [] (NextFailed faults.OutOfMemory)
  no_memory_to_read side over = record {
    counts = record { input = rises; output = omega arith; events = no_more over };
    stands = record { read = no_events reader left; printed = (0, Appends-nil taken) };
  }

given-none : (handed : Interaction) → IsHanded handed → events_given (handed ∷ []) ≡ []
given-none (Gave event) is = absurd is
given-none (Took action) is = refl
given-none (Told call) is = refl

-- a put of the line of what the board was handed
module _ (reader : ReaderState) (left taken taken' : Option (List ℕ)) (input output output' : ℕ) (handed : Interaction) (is : IsHanded handed) (bytes : List ℕ) (line : text_of_one handed ≡ bytes) (rises : output ≤ output') where
  abbrev unput : Option Side → ScriptBoardState
  unput side = record { reader = reader; left = left; taken = taken; input_faults = input; output_faults = output; failed = side }

  abbrev put : Option Side → ScriptBoardState
  put side = record { reader = reader; left = left; taken = taken'; input_faults = input; output_faults = output'; failed = side }

  one_line : text_of (handed ∷ []) ≡ bytes
  one_line = append-nil (text_of_one handed) ∙ line

  no_event : events_given (handed ∷ []) ≡ []
  no_event = given-none handed is

  none_read : FirstEvents reader left (events_given (handed ∷ []))
  none_read = subst (λ (events : List Event). FirstEvents reader left events) (sym no_event) (no_events reader left)

  none_counted : (side : Option Side) → Counts (unput side) (put side) (handed ∷ [])
  none_counted side = record { input = omega arith; output = rises; events = (let none = ap length no_event in omega arith) }

  pub took : (side : Option Side) → Appends taken taken' bytes → ScriptDid (unput side) (put side) (handed ∷ []) Going
  took side printed = record {
    counts = none_counted side;
    stands = record {
      read = subst (λ (events : List Event). Ahead (Reads reader.place reader.place events) reader.held left reader.held left) (sym no_event)
          (ahead-none reader.place reader.held left);
      printed = subst (λ (text : List ℕ). Appends taken taken' text) (sym one_line) printed;
    };
  }

  cut : AppendsFront taken taken' bytes → IsCutShort (unput None) (put None) (handed ∷ [])
  cut front = record { read = none_read; printed = subst (λ (text : List ℕ). AppendsFront taken taken' text) (sym one_line) front }

  pub output_failed : (side : Option Side) → Rises output output' → AppendsFront taken taken' bytes → ScriptDid (unput side) (put (Some Output)) (handed ∷ []) (ActFailed faults.Failed)
  output_failed side rose front = record {
    counts = record { input = omega arith; output = rises; events = (let none = ap length no_event in omega arith) };
    stands = (refl, rose, record { read = none_read; printed = (cut front).printed });
  }

  pub no_memory_to_print : (side : Option Side) → AppendsFront taken taken' bytes → ScriptDid (unput side) (put side) (handed ∷ []) (ActFailed faults.OutOfMemory)
  no_memory_to_print side front = record {
    counts = none_counted side;
    stands = record { read = none_read; printed = (cut front).printed };
  }
