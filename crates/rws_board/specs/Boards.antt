-- What boards do.
use Rattle.std.specs.Prelude.{◌≡◌, ℕ, ◌⊎◌, List, [], ◌∷◌, ◌++◌, ⊤}
use Rattle.rws_board.specs.declared.board_fault.BoardFault.{BoardFault}
use Rattle.rws_board.specs.declared.event.Event.{Event}
use Rattle.rws_board.specs.declared.event.Event.TheVariants.{End}
use Rattle.rws_board.specs.declared.interaction.Interaction.{Interaction}
use Rattle.rws_board.specs.declared.interaction.Interaction.TheVariants.{Gave, Took, Told}

-- how a board stands: it may be called, it gave the end, or its last call failed, which asked for an event, or was to take
-- an action or to hear of a step of the pool
pub data Standing : Type 0 where
  Going : Standing
  Ended : Standing
  NextFailed : BoardFault → Standing
  ActFailed : BoardFault → Standing

-- what an event adds to the list of what the board did: the end nothing
abbrev pub given : Event → List Interaction
given End = []
given event = Gave event ∷ []

abbrev pub standing_after : Event → Standing
standing_after End = Ended
standing_after event = Going

-- the events that were given
abbrev pub events_given : List Interaction → List Event
events_given [] = []
events_given (Gave event ∷ interactions) = event ∷ events_given interactions
events_given (Took action ∷ interactions) = events_given interactions
events_given (Told call ∷ interactions) = events_given interactions

-- it isn't an event: an action that is to be taken, or a step of the pool that is told
abbrev pub IsHanded : Interaction → Type 0
IsHanded (Gave event) = ⊥
IsHanded (Took action) = ⊤
IsHanded (Told call) = ⊤

-- all of it was done, but for the last
pub record IsAllButLast (done interactions : List Interaction) : Type 0 where
  pub last : Interaction
  pub parted : interactions ≡ done ++ last ∷ []

-- A board in memory: the events ahead, all that it did, and which calls are to fail, how many were made and how many
-- of them failed.
pub record ListBoardState : Type 0 where
  pub ahead : List Event
  pub done : List Interaction
  pub fails : List ℕ
  pub calls : ℕ
  pub faults : ℕ

-- no event is ahead of the end
abbrev pub IsOver : List Event → Type 0
IsOver [] = ⊤
IsOver (End ∷ events) = ⊤
IsOver (event ∷ events) = ⊥

-- it did this, and then stands so; events are given from the front of those ahead
abbrev pub ListDid : ListBoardState → ListBoardState → List Interaction → Standing → Type 0
ListDid old new interactions Going =
    (new.done ≡ old.done ++ interactions) × (old.ahead ≡ events_given interactions ++ new.ahead)
ListDid old new interactions Ended =
    (new.done ≡ old.done ++ interactions) × (ahead : List Event) × (old.ahead ≡ events_given interactions ++ ahead) × IsOver ahead
ListDid old new interactions (NextFailed fault) =
    (new.done ≡ old.done ++ interactions) × (ahead : List Event) × (old.ahead ≡ events_given interactions ++ ahead)
ListDid old new interactions (ActFailed fault) =
    (done : List Interaction) × ((done ≡ interactions) ⊎ IsAllButLast done interactions) × (new.done ≡ old.done ++ done)
    × (ahead : List Event) × (old.ahead ≡ events_given interactions ++ ahead)
