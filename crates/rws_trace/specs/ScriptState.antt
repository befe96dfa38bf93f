-- A board over a trace, as contracts see it.
use Rattle.std.specs.Prelude.{◌≡◌, ℕ, List, [], Option, Some, None, refl}
use Rattle.std.proofs.Common.{inl, arith}
use Rattle.std.proofs.KnownBytes.{Appends-nil}
use Rattle.rws_board.specs.Boards.{Standing}
use Rattle.rws_board.specs.Boards.Standing.{Going}
use Rattle.rws_board.specs.declared.interaction.Interaction.{Interaction}
use Rattle.rws_trace.specs.Reader.{Ahead, Reads}
use Rattle.rws_trace.specs.Reader.Reads.{whole}
use Rattle.rws_trace.specs.ScriptBoards.{ScriptBoardState, ScriptDid}
use Rattle.rws_trace.specs.declared.place.Place.{Place}
use Rattle.rws_trace.specs.declared.script_board.ScriptBoard.{ScriptBoard}

module _ {I O : Type 0} (left : I → Option (List ℕ)) (input_faults : I → ℕ) (taken : O → Option (List ℕ)) (output_faults : O → ℕ) where
  abbrev pub state_of : ScriptBoard I O → ScriptBoardState
  state_of board = record {
    reader = board.reader.now;
    left = left board.input.now;
    taken = taken board.out.now;
    input_faults = input_faults board.input.now;
    output_faults = output_faults board.out.now;
    failed = board.failed;
  }

  -- the board did this and stands so, with the same reader, input and output
  pub record Did (old new : ScriptBoard I O) (interactions : List Interaction) (standing : Standing) : Type 0 where
    pub reader : new.reader.ghost_name ≡ old.reader.ghost_name
    pub input : new.input.ghost_name ≡ old.input.ghost_name
    pub out : new.out.ghost_name ≡ old.out.ghost_name
    pub did : ScriptDid (state_of old) (state_of new) interactions standing

nothing_read : (place : Place) (held : List ℕ) (left : Option (List ℕ)) → Ahead (Reads place place []) held left held left
nothing_read place held None = tt
nothing_read place held (Some left) = whole [] (inl refl) refl (λ lines. refl)

-- a board that wasn't called did nothing
pub did_nothing : (board : ScriptBoardState) → ScriptDid board board [] Going
did_nothing board = record {
  counts = record { input = omega arith; output = omega arith; events = omega arith };
  stands = record {
    read = nothing_read board.reader.place board.reader.held board.left;
    printed = Appends-nil board.taken;
  };
}
