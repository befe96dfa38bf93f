-- For which runs a worker stands. It keeps the sessions that aren't over, and nothing of the run.
use Rattle.std.specs.Prelude.{◌≡◌, ◌⊎◌, ℕ, ◌+◌, ◌<◌, ◌≤◌, ◌^◌, Bool, true, false, ◌&&◌, List, [], ◌∷◌, ◌++◌, map, Option, Some, None, if◌then◌else◌}
use Rattle.std.specs.BTreeMap.{get}
use Rattle.std.specs.Ordering.{nat_cmp}
use Rattle.rws_board.specs.declared.event.Event.{Event}
use Rattle.rws_board.specs.declared.interaction.Interaction.{Interaction}
use Rattle.rws_board.specs.declared.interaction.Interaction.TheVariants.{Gave, Took, Told}
use Rattle.rws_board.specs.Boards.{given}
use Rattle.rws_pool.specs.declared.events.PoolCall.TheVariants.{Observe}
use Rattle.rws_config.specs.declared.config.Config.{Config}
use Rattle.rws_record.specs.Item.{Item}
use Rattle.rws_record.specs.Item.Item.{Ticks}
use Rattle.rws_record.specs.Outputs.{done_for as done_by}
use Rattle.rws_record.specs.Run.{Entry, IsRun, answer_of, hearer, last_clock, record_of, is_live, owner, last_link, greatest, events_of, round_of, step_of, unobserved, untold}
use Rattle.rws_record.specs.Run.Entry.{Came, Heard, Did, Observes}
use Rattle.rws_record.specs.Values.{is_starved, links, contains}
use Rattle.rws_session.specs.Kept.{Kept, StandsOr}
use Rattle.rws_session.specs.Turning.{heard}
use Rattle.rws_session.specs.declared.input.SessionInput.{SessionInput}
use Rattle.rws_worker.specs.declared.worker.Worker.{Worker}
use Rattle.rws_worker.specs.declared.ahead.Ahead.TheVariants.{Nothing}
use Rattle.rws_worker.specs.declared.asker.Asker.TheVariants.{Nobody}
use Rattle.rws_worker.specs.declared.step.Step.{Step}
use Rattle.rws_worker.specs.declared.step.Step.TheVariants.{Idle, Spent}
use Rattle.rws_worker.specs.Stepping.{IsIdle, asker_in, done_ahead, done_for, from_of, is_asking, is_awaiting, is_going, is_route, links_ahead}
use Rattle.rws_worker.specs.Tallies.{seven, tally_of}

-- what passes between a worker and its board in a run, oldest first
abbrev pub interactions_of : List Entry → List Interaction
interactions_of [] = []
interactions_of (Came event ∷ run) = interactions_of run ++ given event
interactions_of (Heard session item ∷ run) = interactions_of run
interactions_of (Did session item ∷ run) = interactions_of run ++ done_by session item (record_of session run)
interactions_of (Observes round ∷ run) = interactions_of run ++ Told (Observe round) ∷ []

-- all but the events: what is done outside
abbrev pub without_gave : List Interaction → List Interaction
without_gave [] = []
without_gave (Gave event ∷ interactions) = without_gave interactions
without_gave (Took action ∷ interactions) = Took action ∷ without_gave interactions
without_gave (Told call ∷ interactions) = Told call ∷ without_gave interactions

-- a session that goes on: what is kept of it stands for its record, which rests, or asks
pub record IsSeated (config : Config) (number : ℕ) (asks : Bool) (session : Kept) (run : List Entry) : Type 0 where
  pub live : is_live (record_of number run) ≡ true
  pub stands : StandsOr asks config session (record_of number run)
  pub numbered : session.number ≡ number

-- a session is kept where it goes on
abbrev pub SeatStands : Config → ℕ → (asks : Bool) → Option Kept → List Entry → Type 0
SeatStands config number asks (Some session) run = IsSeated config number asks session run
SeatStands config number asks None run = is_live (record_of number run) ≡ false

-- the session goes on and has the link
abbrev pub holds : ℕ → List Item → Bool
holds link past = is_live past && contains link (links past)

-- The clock's reading is told on

-- these sessions are all that are open from this number on, in order
abbrev pub AreOpen : List Entry → (number : ℕ) → List ℕ → Type 0
AreOpen run number [] = (other : ℕ) → number ≤ other → is_live (record_of other run) ≡ false
AreOpen run number (session ∷ others) =
    (number ≤ session) × (is_live (record_of session run) ≡ true)
    × ((other : ℕ) → number ≤ other → other < session → is_live (record_of other run) ≡ false) × AreOpen run (session + 1) others

-- the reading is still to be told to those from this number on
pub record TellsFrom (number reading : ℕ) (run : List Entry) (told : List (ℕ × Item)) : Type 0 where
  pub sessions : List ℕ
  pub are_open : AreOpen run number sessions
  pub are : told ≡ map (λ session. (session, Ticks reading)) sessions

-- what is told next is just that
abbrev pub ToTell : Option ℕ → (reading : ℕ) → List Entry → List (ℕ × Item) → Type 0
ToTell None reading run told = told ≡ []
ToTell (Some number) reading run told = TellsFrom number reading run told

-- a session that had its turn is none of them
abbrev pub IsBehind : Option ℕ → (session : ℕ) → Type 0
IsBehind None session = Unit {0}
IsBehind (Some number) session = session < number

-- the session asks, of which the run heard last
pub record IsAsking (run : List Entry) (worker : Worker) (session : ℕ) : Type 0 where
  pub hears : hearer run ≡ Some session
  pub live : is_live (record_of session run) ≡ true
  pub fed : is_starved (record_of session run) ≡ false
  pub behind : IsBehind (from_of worker.telling) session
  pub unbroken : worker.broken ≡ None
  pub unclosed : worker.closing ≡ None
  pub linkless : links_ahead worker.ahead ≡ []

-- it was told outside that a session asks, and a link can be numbered for it
pub record CanAnswer (worker : Worker) : Type 0 where
  pub numbers : worker.last_link + 2 < 2 ^ 64
  pub nothing : worker.ahead ≡ Nothing
  pub unobserved : worker.observed ≡ None

-- What a worker keeps of a run between any two turns. What came of the last turn may still have to be fetched.
pub record WorkerStands (config : Config) (worker : Worker) (run : List Entry) : Type 0 where
  pub legal : IsRun config run
  -- the session that heard last has no step of its own, and is answered or asks
  pub steps_none : step_of config (hearer run) run ≡ None
  pub answers_none : worker.asker ≡ Nobody → answer_of config (hearer run) run ≡ None
  pub asks : (session : ℕ) → asker_in worker.asker ≡ Some session → IsAsking run worker session
  pub awaits : is_awaiting worker.asker ≡ true → CanAnswer worker
  pub told : ToTell (from_of worker.telling) worker.now_ms run (untold config run)
  pub observed : unobserved config run ≡ None
  pub seats : (session : ℕ) → SeatStands config session (is_asking session worker.asker) (get nat_cmp worker.sessions session) run
  -- all that a session gave out is fetched, but of the one whose outputs came of the last turn
  pub fetched : (session : ℕ) (kept : Kept) → get nat_cmp worker.sessions session ≡ Some kept → is_going session worker.ahead ≡ false
      → kept.outs ≡ []
  -- a link's owner is the session for which it was opened, and is there as long as that has the link
  pub owned : (link session : ℕ) → get nat_cmp worker.owners link ≡ Some session → owner link run ≡ Some session
  pub owns : (link session : ℕ) → owner link run ≡ Some session
      → holds link (record_of session run) ≡ true
      → get nat_cmp worker.owners link ≡ Some session
  pub links : worker.last_link ≡ last_link run
  pub numbers : worker.last_link < 2 ^ 64
  pub begun : worker.greatest ≡ greatest run
  pub clock : worker.now_ms ≡ last_clock run
  -- what is open is counted
  pub tallied : worker.tallies ≡ seven (λ server. tally_of run server)
  pub unspent : worker.spent ≡ false

-- the worker stands for a run over these events, of which this was done and what is ahead is left, and no answer is awaited
pub record Advances (config : Config) (done : List Interaction) (events : List Event) (worker : Worker) : Type 0 where
  pub now : List Entry
  pub stands : WorkerStands config worker now
  pub heard : events_of now ≡ events
  pub did : interactions_of now ≡ done ++ done_ahead worker
  pub answered : is_awaiting worker.asker ≡ false

-- the run went on over one more event
abbrev pub Gives : Config → List Entry → Event → Worker → Type 0
Gives config run event worker = Advances config (interactions_of run ++ given event) (events_of run ++ event ∷ []) worker

-- or a session was to begin, and no link can be numbered for it
pub record IsUnbegun (config : Config) (event : Event) (old new : Worker) : Type 0 where
  pub spent : new.spent ≡ true
  pub numbers : 2 ^ 64 ≤ old.last_link + 2
  pub no_round : round_of config event ≡ None

abbrev pub GivesOr : Config → List Entry → Event → Worker → Worker → Type 0
GivesOr config run event old new = IsUnbegun config event old new ⊎ Gives config run event new

-- Behind a step the worker stands for the run as it is by then, and what is left is behind what the step does.
pub record StepsOn (config : Config) (run : List Entry) (step : Step) (old new : Worker) : Type 0 where
  pub now : List Entry
  pub stands : WorkerStands config new now
  pub heard : events_of now ≡ events_of run
  pub did : (done : List Interaction) → interactions_of run ≡ done ++ done_ahead old
      → interactions_of now ≡ done ++ (done_for step ++ done_ahead new)

-- idle is where nothing is left
abbrev pub EndsAt : Step → Worker → Type 0
EndsAt Idle worker = IsIdle worker
EndsAt Spent worker = 2 ^ 64 ≤ worker.last_link + 2
EndsAt _ worker = Unit {0}

-- and behind a Route an answer is awaited
abbrev pub Steps : Config → List Entry → Step → Worker → Worker → Type 0
Steps config run step old new = StepsOn config run step old new × EndsAt step new × (is_awaiting new.asker ≡ is_route step)

-- what an input tells a session that goes on
abbrev pub told_item : ℕ → Option Item → List (ℕ × Item)
told_item session (Some item) = (session, item) ∷ []
told_item session None = []

abbrev pub told_with : ℕ → SessionInput → List Item → List (ℕ × Item)
told_with session input past = if is_live past then told_item session (heard input past) else []

abbrev pub told_through : Option ℕ → SessionInput → List Entry → List (ℕ × Item)
told_through (Some session) input run = told_with session input (record_of session run)
told_through None input run = []

-- an input is of this link: a session without it hears nothing
abbrev pub IsOn : ℕ → SessionInput → Type 0
IsOn link input = (past : List Item) → contains link (links past) ≡ false → heard input past ≡ None
