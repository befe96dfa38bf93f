-- Boards in memory that are still to be made, and what their maker did.
use Rattle.std.specs.Prelude.{◌≡◌, ◌+◌, ℕ, List, [], ◌∷◌, ◌++◌, Option, None, Some, slice_get, ⊤}
use Rattle.rws_board.specs.Boards.{ListBoardState}
use Rattle.rws_board.specs.declared.event.Event.{Event}
use Rattle.rws_make.specs.Makers.{Making, boards_back, places_asked}
use Rattle.rws_make.specs.Makers.Making.{Made, Refused, TookBack}
use Rattle.rws_make.specs.declared.planned_board.PlannedBoard.{PlannedBoard}

-- a board that is to give these events and then the end; `fails`: the numbers, from 0, of the calls that are to fail
pub record Plan : Type 0 where
  pub events : List Event
  pub fails : List ℕ

-- the board of a plan, before its first call
abbrev pub list_of : Plan → ListBoardState
list_of plan = record { ahead = plan.events; done = []; fails = plan.fails; calls = 0; faults = 0 }

abbrev pub board_of : Plan → PlannedBoard
board_of plan = record { board = list_of plan; faults = 0 }

-- `plans`: by place; `asked`: the places that were asked for; `back`: the boards that came back; `lent`: how many are out
pub record ListMakerState : Type 0 where
  pub plans : List Plan
  pub asked : List ℕ
  pub back : List PlannedBoard
  pub lent : ℕ
  pub faults : ℕ

-- a board was made by the plan of its place
abbrev pub IsPlanned : List Plan → Making PlannedBoard → Type 0
IsPlanned plans (Made place board) = (plan : Plan) × (slice_get plans place ≡ Some plan) × (board ≡ board_of plan)
IsPlanned plans (Refused place fault) = ⊤
IsPlanned plans (TookBack board) = ⊤

abbrev pub ArePlanned : List Plan → List (Making PlannedBoard) → Type 0
ArePlanned plans [] = ⊤
ArePlanned plans (making ∷ makings) = IsPlanned plans making × ArePlanned plans makings

-- it did this: its lists grew by the places asked for and the boards that came back, and each board was made by its plan
pub record ListMakerDid (old new : ListMakerState) (makings : List (Making PlannedBoard)) : Type 0 where
  pub plans : new.plans ≡ old.plans
  pub asked : new.asked ≡ old.asked ++ places_asked makings
  pub back : new.back ≡ old.back ++ boards_back makings
  pub planned : ArePlanned old.plans makings
