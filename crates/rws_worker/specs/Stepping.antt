-- What a worker's steps give, and what they leave.
use Rattle.std.specs.Prelude.{◌≡◌, ℕ, ◌+◌, ◌≤◌, ◌^◌, ◌==◌, Bool, true, false, List, [], ◌∷◌, ◌++◌, map, Option, Some, None}
use Rattle.std.specs.BTreeMap.{BTreeMap, get}
use Rattle.std.specs.Ordering.{nat_cmp}
use Rattle.rws_wire.specs.declared.close_reason.CloseReason.TheVariants.{Memory}
use Rattle.rws_wire.specs.declared.drop_cause.DropCause.TheVariants.{End}
use Rattle.rws_board.specs.declared.action.Action.TheVariants.{ToClient, Close, Drop}
use Rattle.rws_board.specs.declared.interaction.Interaction.{Interaction}
use Rattle.rws_board.specs.declared.interaction.Interaction.TheVariants.{Took, Told}
use Rattle.rws_pool.specs.declared.events.PoolCall.TheVariants.{Observe, Record, Route}
use Rattle.rws_pool.specs.declared.words.Round.{Round}
use Rattle.rws_record.specs.declared.output.Output.{Output}
use Rattle.rws_record.specs.declared.output.Output.TheVariants as outputs
use Rattle.rws_session.specs.State.{numbered}
use Rattle.rws_session.specs.Kept.{Kept, numbers}
use Rattle.rws_worker.specs.declared.ahead.Ahead.{Ahead}
use Rattle.rws_worker.specs.declared.ahead.Ahead.TheVariants.{Nothing, Going, Over, Starved, Unmade}
use Rattle.std.specs.declared.ops.Bound.{Bound}
use Rattle.std.specs.declared.ops.Bound.TheVariants.{Excluded, Unbounded}
use Rattle.rws_worker.specs.declared.asker.Telling.{Telling}
use Rattle.rws_worker.specs.declared.asker.Telling.TheVariants.{Told as AllTold, All, Above}
use Rattle.rws_worker.specs.declared.asker.Asker.{Asker}
use Rattle.rws_worker.specs.declared.asker.Asker.TheVariants.{Nobody, Asks, Awaits}
use Rattle.rws_worker.specs.declared.step.Step.{Step}
use Rattle.rws_worker.specs.declared.step.Step.TheVariants.{Idle, Act, Call, Broken, Spent}
use Rattle.rws_worker.specs.declared.worker.Worker.{Worker}

-- Where the outputs of the last event are

abbrev pub over_in : Option Kept → Ahead
over_in (Some k) = Over k
over_in None = Nothing

abbrev pub starved_in : Option Kept → Ahead
starved_in (Some k) = Starved k
starved_in None = Nothing

-- the session that goes on
abbrev pub going_in : Ahead → Option ℕ
going_in (Going session) = Some session
going_in _ = None

abbrev pub is_session : ℕ → Option ℕ → Bool
is_session session (Some other) = other == session
is_session session None = false

-- the outputs are this session's, which goes on
abbrev pub is_going : ℕ → Ahead → Bool
is_going session ahead = is_session session (going_in ahead)

-- what a session gave out that doesn't go on
abbrev pub held_outs : Ahead → List Output
held_outs (Over k) = k.outs
held_outs (Starved k) = k.outs
held_outs _ = []

abbrev pub outs_of_seat : Option Kept → List Output
outs_of_seat (Some k) = k.outs
outs_of_seat None = []

abbrev pub outs_by : Option ℕ → List Output → BTreeMap ℕ Kept → List Output
outs_by (Some session) held sessions = outs_of_seat (get nat_cmp sessions session)
outs_by None held sessions = held

-- what is told of a session to which memory was wanting
abbrev pub farewell_ahead : Ahead → List ℕ
farewell_ahead (Starved k) = numbered k.state.want_number k.state.farewell
farewell_ahead _ = []

-- the links that are given up for want of memory
abbrev pub links_ahead : Ahead → List ℕ
links_ahead (Starved k) = numbers k
links_ahead (Unmade link) = link ∷ []
links_ahead _ = []

-- Who asks for the words of the pool

abbrev pub asker_in : Asker → Option ℕ
asker_in Nobody = None
asker_in (Asks session) = Some session
asker_in (Awaits session) = Some session

-- this session does
abbrev pub is_asking : ℕ → Asker → Bool
is_asking session asker = is_session session (asker_in asker)

-- it was told outside, so that the session is to be answered before the next step
abbrev pub is_awaiting : Asker → Bool
is_awaiting (Awaits session) = true
is_awaiting _ = false

-- To whom the clock's reading is still to be told: to the sessions from this number on

abbrev pub from_of : Telling → Option ℕ
from_of AllTold = None
from_of All = Some 0
from_of (Above session) = Some (session + 1)

-- the same as a bound
abbrev pub start_of : Telling → Option (Bound ℕ)
start_of AllTold = None
start_of All = Some Unbounded
start_of (Above session) = Some (Excluded session)

-- The steps that are still to be made

-- something that a session gave out is done outside, or the words take it
abbrev pub step_for : Output → Step
step_for (outputs.Act action) = Act action
step_for (outputs.Record server gtid) = Call (Record server gtid)

-- a round that is to be taken in
abbrev pub calls_by : Option Round → List Step
calls_by (Some round) = Call (Observe round) ∷ []
calls_by None = []

abbrev pub outs_ahead : Worker → List Output
outs_ahead worker = outs_by (going_in worker.ahead) (held_outs worker.ahead) worker.sessions

-- a session asks
abbrev pub routes_by : Asker → List Step
routes_by (Asks session) = Call (Route session) ∷ []
routes_by _ = []

-- there is a farewell, unless the session couldn't be made
abbrev pub broken_by : Option ℕ → (farewell : List ℕ) → List Step
broken_by (Some session) (byte ∷ bytes) = Broken session (byte ∷ bytes) ∷ []
broken_by (Some session) [] = []
broken_by None farewell = []

abbrev pub closes_by : Option ℕ → List Step
closes_by (Some session) = Act (Close session Memory) ∷ []
closes_by None = []

abbrev pub drops : List ℕ → List Output
drops links = map (λ link. outputs.Act (Drop link End)) links

abbrev pub endings_by : (broken closing : Option ℕ) → (farewell links : List ℕ) → List Step
endings_by broken closing farewell links = broken_by broken farewell ++ (closes_by closing ++ map step_for (drops links))

-- where memory was wanting: this is told, the session is closed, and its links are given up in order of number
abbrev pub endings : Worker → List Step
endings worker = endings_by worker.broken worker.closing (farewell_ahead worker.ahead) (links_ahead worker.ahead)

-- A round is taken in first; behind all that a session gave out it asks, or comes how it ends.
abbrev pub steps_ahead : Worker → List Step
steps_ahead worker = calls_by worker.observed ++ (map step_for (outs_ahead worker) ++ (routes_by worker.asker ++ endings worker))

-- What is done for them

abbrev pub done_for : Step → List Interaction
done_for Idle = []
done_for (Act action) = Took action ∷ []
done_for (Call call) = Told call ∷ []
done_for (Broken session farewell) = Took (ToClient session farewell) ∷ []
done_for Spent = []

abbrev pub all_done_for : List Step → List Interaction
all_done_for [] = []
all_done_for (step ∷ others) = done_for step ++ all_done_for others

abbrev pub done_ahead : Worker → List Interaction
done_ahead worker = all_done_for (steps_ahead worker)

-- Nothing is ahead

-- nor does a session ask
pub record IsBare (worker : Worker) : Type 0 where
  pub nothing : worker.ahead ≡ Nothing
  pub unbroken : worker.broken ≡ None
  pub unclosed : worker.closing ≡ None
  pub unobserved : worker.observed ≡ None
  pub unasked : worker.asker ≡ Nobody

-- nor is a reading of the clock to be told on
pub record IsIdle (worker : Worker) : Type 0 where
  pub bare : IsBare worker
  pub all_told : from_of worker.telling ≡ None

-- the words of the pool are asked for
abbrev pub is_route : Step → Bool
is_route (Call (Route session)) = true
is_route _ = false

-- The first of the steps ahead is made, where there is one; or no number is left for the link that it would lead to.
abbrev pub Fetches : Option Step → Worker → Worker → Type 0
Fetches None old new = (steps_ahead old ≡ []) × IsBare new × (done_ahead new ≡ [])
Fetches (Some Idle) old new = ⊥
Fetches (Some Spent) old new = (2 ^ 64 ≤ new.last_link + 2) × (steps_ahead old ≡ steps_ahead new) × (is_awaiting new.asker ≡ false)
Fetches (Some step) old new = (steps_ahead old ≡ step ∷ steps_ahead new) × (is_awaiting new.asker ≡ is_route step)

-- the same of a session that asks
abbrev pub Routes : Option Step → Worker → Worker → Type 0
Routes None old new = (routes_by old.asker ≡ []) × (new ≡ old)
Routes (Some (Call call)) old new =
    (routes_by old.asker ≡ Call call ∷ []) × (routes_by new.asker ≡ []) × (is_awaiting new.asker ≡ is_route (Call call))
    × (new ≡ record old { asker = new.asker; ahead = Nothing })
Routes (Some Spent) old new = (2 ^ 64 ≤ old.last_link + 2) × (new ≡ old)
Routes (Some _) old new = ⊥
