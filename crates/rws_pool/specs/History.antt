-- One history of the pool events of all passes, and the words after it.
use Rattle.std.specs.Prelude.{ℕ, List, ◌==◌, map, filter}
use Rattle.rws_pool.specs.declared.words.PoolWords.{PoolWords}
use Rattle.rws_pool.specs.declared.events.PoolCall.{PoolCall}
use Rattle.rws_pool.specs.declared.events.PoolCall.TheVariants as call
use Rattle.rws_pool.specs.declared.events.PoolEvent.{PoolEvent}
use Rattle.rws_pool.specs.declared.events.PoolEvent.TheVariants.{Route, Record, Observe}
use Rattle.rws_pool.specs.declared.events.Entry.{Entry}
use Rattle.rws_pool.specs.Machine.{pool_after}

-- the event of a call; the session isn't part of it
abbrev pub event_of : PoolCall → PoolEvent
event_of (call.Route session) = Route
event_of (call.Record server g) = Record server g
event_of (call.Observe round) = Observe round

abbrev pub entry : ℕ → PoolEvent → Entry
entry pass event = record { pass = pass; event = event }

-- the words after all entries
abbrev pub words_after : ℕ → List Entry → PoolWords
words_after domain history = pool_after domain (map (λ (e : Entry). e.event) history)

-- the events of one pass, in order
abbrev pub calls_by : ℕ → List Entry → List PoolEvent
calls_by pass history = map (λ (e : Entry). e.event) (filter (λ (e : Entry). e.pass == pass) history)
