-- What a worker over a board answers, and what the board did by then.
use Rattle.std.specs.Prelude.{◌≡◌, ℕ, Bool, true, false, ◌+◌, ◌-◌, ◌^◌, ◌<◌, ◌≤◌, List, [], ◌∷◌, ◌++◌, length, None, Result, Ok, Err}
use Rattle.rws_board.specs.Boards.{Standing, events_given}
use Rattle.rws_board.specs.Boards.Standing.{Going, Ended as AtEnd, NextFailed, ActFailed}
use Rattle.rws_board.specs.declared.board_fault.BoardFault.{BoardFault}
use Rattle.rws_board.specs.declared.board_fault.BoardFault.TheVariants as faults
use Rattle.rws_board.specs.declared.event.Event.{Event}
use Rattle.rws_board.specs.declared.event.Event.TheVariants.{End}
use Rattle.rws_board.specs.declared.interaction.Interaction.{Interaction}
use Rattle.rws_board.specs.declared.interaction.Interaction.TheVariants.{Gave, Took, Told}
use Rattle.rws_pool.specs.declared.events.PoolEvent.{PoolEvent}
use Rattle.rws_pool.specs.declared.words.PoolWords.{PoolWords}
use Rattle.rws_pool.specs.History.{event_of}
use Rattle.rws_pool.specs.Machine.{CanStep, new_words, pool_from}
use Rattle.rws_config.specs.declared.config.Config.{Config}
use Rattle.rws_record.specs.Run.{Entry, IsRun, next_entry, events_of, last_link}
use Rattle.rws_worker.specs.Stepping.{IsIdle, done_ahead, is_awaiting}
use Rattle.rws_worker.specs.Standing.{interactions_of, WorkerStands}
use Rattle.rws_worker.specs.declared.work.WorkEnd.{WorkEnd}
use Rattle.rws_worker.specs.declared.work.WorkEnd.TheVariants as ends
use Rattle.rws_worker.specs.declared.work.Next.{Next}
use Rattle.rws_worker.specs.declared.work.Next.TheVariants as nexts
use Rattle.rws_worker.specs.declared.step.Step.{Step}
use Rattle.rws_worker.specs.declared.step.Step.TheVariants.{Call}
use Rattle.rws_worker.specs.declared.worker.Worker.{Worker}

-- the steps of the pool that a board was told of
abbrev pub events_told : List Interaction → List PoolEvent
events_told [] = []
events_told (Gave event ∷ interactions) = events_told interactions
events_told (Took action ∷ interactions) = events_told interactions
events_told (Told call ∷ interactions) = event_of call ∷ events_told interactions

-- A board did this, and the words took the steps that it was told of; also the last one, where the board failed at that.
abbrev pub WithWords : (did : List Interaction → Standing → Type 0) → (first now : PoolWords) → List Interaction → Standing → Type 0
WithWords did first now interactions standing = did interactions standing × (now ≡ pool_from first (events_told interactions))

-- a run that rests, over fewer than 2^32 events
pub record IsResting (config : Config) (run : List Entry) : Type 0 where
  pub legal : IsRun config run
  pub rests : next_entry config run ≡ None
  pub few : length (events_of run) < 2 ^ 32
  -- the end isn't among the events
  pub told : events_given (interactions_of run) ≡ events_of run

-- what was done is a front of what passes in a run that rests
pub record IsFront (config : Config) (done : List Interaction) : Type 0 where
  pub run : List Entry
  pub resting : IsResting config run
  pub rest : List Interaction
  pub parted : interactions_of run ≡ done ++ rest

-- No link can be opened any more: the next one would have the number 2^64 - 1, in a run as far as it came, of which this was done.
-- Or 2^64 - 1 things were done.
pub data IsSpent (config : Config) (done : List Interaction) : Type 0 where
  unnumbered : (run : List Entry) (rest : List Interaction) → IsRun config run → 2 ^ 64 ≤ last_link run + 2
      → interactions_of run ≡ done ++ rest → IsSpent config done
  unbegun : (run : List Entry) (event : Event) → IsRun config run → 2 ^ 64 ≤ last_link run + 2
      → done ≡ interactions_of run ++ Gave event ∷ [] → IsSpent config done
  countless : 2 ^ 64 - 1 ≤ length done → IsSpent config done

-- How a worker's work ended, where `did` says what the board did and how it stands. What the board did is what passes
-- in a run, or a front of it.
pub data Works (config : Config) (did : List Interaction → Standing → Type 0) : WorkEnd → Type 0 where
  -- the board gave the end
  ended : (run : List Entry) → IsResting config run → did (interactions_of run) AtEnd → Works config did ends.Ended
  -- it gave no event, where all that came of those before was done
  unread : (run : List Entry) → IsResting config run → did (interactions_of run) (NextFailed faults.Failed)
      → Works config did ends.BoardFailed
  -- it didn't take an action, or hear of a step of the pool, which is the last of these
  untaken : (done : List Interaction) → IsFront config done → did done (ActFailed faults.Failed)
      → Works config did ends.BoardFailed
  -- the event of number 2^32 came, and isn't handled
  too_many : (run : List Entry) (event : Event) → IsResting config run → length (events_of run) + 1 ≡ 2 ^ 32
      → did (interactions_of run ++ Gave event ∷ []) Going → Works config did ends.TooMany
  -- or nothing more can be numbered
  spent : (done : List Interaction) → IsFront config done → IsSpent config done → did done Going → Works config did ends.TooMany
  -- memory was wanting in the board
  starved_reading : (run : List Entry) → IsResting config run → did (interactions_of run) (NextFailed faults.OutOfMemory)
      → Works config did ends.OutOfMemory
  starved_acting : (done : List Interaction) → IsFront config done → did done (ActFailed faults.OutOfMemory)
      → Works config did ends.OutOfMemory

-- In the middle of an event: what is ahead of the worker is left of what passes in a run, and so many things were done since the
-- event came, or more.
pub record IsUnderway (config : Config) (did : List Interaction → Standing → Type 0) (worker : Worker) (events things : ℕ) : Type 0 where
  pub run : List Entry
  pub stands : WorkerStands config worker run
  pub answered : is_awaiting worker.asker ≡ false
  pub counted : events ≡ length (events_of run)
  pub few : events < 2 ^ 32
  pub told : events_given (interactions_of run) ≡ events_of run
  pub done : List Interaction
  pub many : things ≤ length done
  pub parted : interactions_of run ≡ done ++ done_ahead worker
  pub done_so_far : did done Going

-- for some board, and some words that it began with
pub record HasBegun {B : Type 0} (config : Config) (did : B → List Interaction → Standing → Type 0) (words : PoolWords) (worker : Worker) (events : ℕ)
    : Type 0 where
  pub start : B
  pub first : PoolWords
  pub is_new : first ≡ new_words config.gtid_domain
  pub underway : IsUnderway config (WithWords (did start) first words) worker events 0

-- how it stands when something more was done
abbrev pub GoesSo : Config → (did : List Interaction → Standing → Type 0) → Worker → (events things : ℕ) → Next → Type 0
GoesSo config did worker events things nexts.Goes = IsUnderway config did worker events (things + 1)
GoesSo config did worker events things nexts.Rests = IsUnderway config did worker events 0 × IsIdle worker
GoesSo config did worker events things nexts.Spent = Works config did ends.TooMany

-- where the board failed, the work ends so
abbrev pub end_by : BoardFault → WorkEnd
end_by faults.Failed = ends.BoardFailed
end_by faults.OutOfMemory = ends.OutOfMemory

-- all that came of an event was done, or it was too much, or the board failed
abbrev pub DoesAll : Config → (did : List Interaction → Standing → Type 0) → Worker → (events : ℕ) → Result Bool BoardFault → Type 0
DoesAll config did worker events (Ok true) = IsUnderway config did worker events 0 × IsIdle worker
DoesAll config did worker events (Ok false) = Works config did ends.TooMany
DoesAll config did worker events (Err fault) = Works config did (end_by fault)

-- a step of the pool that is to be done can be taken
abbrev pub CanBeDone : ℕ → Step → Type 0
CanBeDone domain (Call call) = CanStep domain (event_of call)
CanBeDone domain _ = Unit {0}

-- it is the end
abbrev pub is_end : Event → Bool
is_end End = true
is_end event = false
