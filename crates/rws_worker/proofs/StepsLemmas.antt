-- What is ahead of a worker.
use Rattle.std.proofs.Common.{◌≡◌, ℕ, Bool, true, false, List, [], ◌∷◌, ◌++◌, map, refl, sym, ap, ◌∙◌, Some, None}
use Rattle.std.proofs.lemmas.List.{append-nil, map-append}
use Rattle.std.specs.BTreeMap.{get}
use Rattle.std.specs.Ordering.{nat_cmp}
use Rattle.rws_wire.specs.Packets.{full_packet, spelling}
use Rattle.rws_wire.specs.declared.close_reason.CloseReason.TheVariants.{Memory}
use Rattle.rws_wire.specs.declared.drop_cause.DropCause.TheVariants.{End}
use Rattle.rws_msgs.specs.ErrLayout.{err_bytes}
use Rattle.rws_board.specs.declared.action.Action.TheVariants.{ToClient, Close, Drop}
use Rattle.rws_board.specs.declared.interaction.Interaction.{Interaction}
use Rattle.rws_board.specs.declared.interaction.Interaction.TheVariants.{Took, Told}
use Rattle.rws_pool.specs.declared.events.PoolCall.TheVariants.{Record}
use Rattle.rws_session.specs.State.{farewell_packet, numbered}
use Rattle.rws_session.specs.Kept.{Kept, numbers}
use Rattle.rws_worker.specs.declared.ahead.Ahead.TheVariants.{Nothing, Going, Over, Starved, Unmade}
use Rattle.rws_worker.specs.declared.asker.Asker.{Asker}
use Rattle.rws_worker.specs.declared.asker.Asker.TheVariants.{Nobody, Asks}
use Rattle.rws_worker.specs.declared.step.Step.{Step}
use Rattle.rws_worker.specs.declared.step.Step.TheVariants.{Act, Broken}
use Rattle.rws_worker.specs.declared.worker.Worker.{Worker}
use Rattle.rws_worker.specs.Stepping.{IsBare, all_done_for, broken_by, done_ahead, drops, endings, is_going, outs_ahead, routes_by, step_for}
use Rattle.rws_worker.specs.InTurn.{asks_outside}
use Rattle.rws_record.specs.Outputs.{done_as}
use Rattle.rws_record.specs.declared.output.Output.{Output}
use Rattle.rws_record.specs.declared.output.Output.TheVariants as outputs
use Rattle.rws_worker.proofs.WantLemmas.{ends_so}

-- what sessions gave out comes first
outs_first : (outs : List Output) (others : List Step)
    → all_done_for (map step_for outs ++ others) ≡ map done_as outs ++ all_done_for others
outs_first [] others = refl
outs_first (outputs.Act action ∷ outs) others = ap (λ (all : List Interaction). Took action ∷ all) (outs_first outs others)
outs_first (outputs.Record server gtid ∷ outs) others = ap (λ (all : List Interaction). Told (Record server gtid) ∷ all) (outs_first outs others)

outs_alone : (outs : List Output) → all_done_for (map step_for outs) ≡ map done_as outs
outs_alone [] = refl
outs_alone (outputs.Act action ∷ outs) = ap (λ (all : List Interaction). Took action ∷ all) (outs_alone outs)
outs_alone (outputs.Record server gtid ∷ outs) = ap (λ (all : List Interaction). Told (Record server gtid) ∷ all) (outs_alone outs)

there_is_one : (session number : ℕ)
    → broken_by (Some session) (numbered number farewell_packet) ≡ Broken session (numbered number farewell_packet) ∷ []
unfolding full_packet spelling err_bytes
there_is_one session number = refl

-- a worker with nothing ahead

pub bare_on : (old new : Worker) → new.ahead ≡ old.ahead → new.broken ≡ old.broken → new.closing ≡ old.closing
    → new.observed ≡ old.observed → new.asker ≡ old.asker → IsBare old → IsBare new
bare_on old new ahead broken closing observed asker bare = record {
  nothing = ahead ∙ bare.nothing;
  unbroken = broken ∙ bare.unbroken;
  unclosed = closing ∙ bare.unclosed;
  unobserved = observed ∙ bare.unobserved;
  unasked = asker ∙ bare.unasked;
}

pub bare_has_none : (worker : Worker) → IsBare worker → done_ahead worker ≡ []
bare_has_none worker bare = rw (bare.unobserved, bare.nothing, bare.unbroken, bare.unclosed, bare.unasked) refl

-- also behind a round
pub bare_has_none_behind : (worker : Worker) → IsBare worker
    → all_done_for (map step_for (outs_ahead worker) ++ (routes_by worker.asker ++ endings worker)) ≡ []
bare_has_none_behind worker bare = rw (bare.nothing, bare.unbroken, bare.unclosed, bare.unasked) refl

pub bare_goes_none : (worker : Worker) → IsBare worker → (session : ℕ) → is_going session worker.ahead ≡ false
bare_goes_none worker bare session = rw bare.nothing refl

-- one behind the turn of a session

-- the session asks or doesn't
abbrev pub asker_for : (asks : Bool) → ℕ → Asker
asker_for true session = Asks session
asker_for false session = Nobody

asks_so : (asks : Bool) (session : ℕ) → all_done_for (routes_by (asker_for asks session) ++ []) ≡ asks_outside asks session
asks_so true session = refl
asks_so false session = refl

pub going_does : (worker : Worker) (session : ℕ) (asks : Bool) (kept : Kept) → worker.ahead ≡ Going session
    → get nat_cmp worker.sessions session ≡ Some kept → worker.broken ≡ None → worker.closing ≡ None → worker.observed ≡ None
    → worker.asker ≡ asker_for asks session → done_ahead worker ≡ map done_as kept.outs ++ asks_outside asks session
going_does worker session asks kept ahead has broken closing observed asker =
    rw (observed, ahead, has, broken, closing, asker) (outs_first kept.outs _
    ∙ ap (λ (others : List Interaction). map done_as kept.outs ++ others) (asks_so asks session))

pub over_does : (worker : Worker) (kept : Kept) → worker.ahead ≡ Over kept → worker.broken ≡ None → worker.closing ≡ None
    → worker.observed ≡ None → worker.asker ≡ Nobody → done_ahead worker ≡ map done_as kept.outs
over_does worker kept ahead broken closing observed asker =
    rw (observed, ahead, broken, closing, asker) (outs_first kept.outs [] ∙ append-nil (map done_as kept.outs))

-- and where memory was wanting to it

-- what is told of a session that ended so
abbrev pub farewell_by : Kept → List ℕ
farewell_by kept = numbered kept.state.want_number kept.state.farewell

pub starved_does : (worker : Worker) (session : ℕ) (kept : Kept) → worker.ahead ≡ Starved kept → worker.broken ≡ None
    → worker.closing ≡ None → worker.observed ≡ None → worker.asker ≡ Nobody
    → done_ahead worker ≡ map done_as (kept.outs ++ ends_so session true (farewell_by kept) (numbers kept))
starved_does worker session kept ahead broken closing observed asker =
    rw (observed, ahead, broken, closing, asker) (outs_first kept.outs (map step_for (drops (numbers kept)))
    ∙ ap (λ (others : List Interaction). map done_as kept.outs ++ others) (outs_alone (drops (numbers kept)))
    ∙ sym (map-append done_as kept.outs (drops (numbers kept))))

pub broken_does : (worker : Worker) (session : ℕ) (kept : Kept) → worker.ahead ≡ Starved kept → worker.broken ≡ Some session
    → worker.closing ≡ Some session → worker.observed ≡ None → worker.asker ≡ Nobody → kept.state.farewell ≡ farewell_packet
    → done_ahead worker ≡ map done_as (kept.outs ++ ends_so session false (farewell_by kept) (numbers kept))
broken_does worker session kept ahead broken closing observed asker told =
    let packet : List ℕ = numbered kept.state.want_number farewell_packet in
    rw (observed, ahead, broken, closing, asker, told) (outs_first kept.outs _
    ∙ ap (λ (first : List Step). map done_as kept.outs ++ all_done_for (first ++ (Act (Close session Memory) ∷ map step_for (drops (numbers kept))))) (there_is_one session kept.state.want_number)
    ∙ ap (λ (others : List Interaction). map done_as kept.outs ++ Took (ToClient session packet) ∷ Took (Close session Memory) ∷ others) (outs_alone (drops (numbers kept)))
    ∙ sym (map-append done_as kept.outs (outputs.Act (ToClient session packet) ∷ outputs.Act (Close session Memory) ∷ drops (numbers kept))))

-- or where there was none for it

pub unmade_without_does : (worker : Worker) (session : ℕ) → worker.ahead ≡ Nothing → worker.broken ≡ Some session
    → worker.closing ≡ Some session → worker.observed ≡ None → worker.asker ≡ Nobody → done_ahead worker ≡ map done_as (outputs.Act (Close session Memory) ∷ [])
unmade_without_does worker session ahead broken closing observed asker = rw (observed, ahead, broken, closing, asker) refl

pub unmade_does : (worker : Worker) (session link : ℕ) → worker.ahead ≡ Unmade link → worker.broken ≡ Some session
    → worker.closing ≡ Some session → worker.observed ≡ None → worker.asker ≡ Nobody
    → done_ahead worker ≡ map done_as (outputs.Act (Close session Memory) ∷ outputs.Act (Drop link End) ∷ [])
unmade_does worker session link ahead broken closing observed asker = rw (observed, ahead, broken, closing, asker) refl
