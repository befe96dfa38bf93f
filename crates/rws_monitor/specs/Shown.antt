-- What a round shows of each server, and what holds of it.
use Rattle.std.specs.Prelude.{◌≡◌, ◌⊎◌, ℕ, List, Option, Some, None, slice_index_or}
use Rattle.std.specs.Option.{option_map}
use Rattle.rws_pool.specs.declared.words.State.TheVariants.{Master, Maintenance}
use Rattle.rws_pool.specs.declared.words.Seen.{Seen}
use Rattle.rws_monitor.specs.declared.probe.Probe.{Probe}
use Rattle.rws_monitor.specs.declared.probe.Probe.TheVariants as probe
use Rattle.rws_monitor.specs.declared.states.States.{States}

abbrev pub shown : States → ℕ → Option Seen
shown states server = slice_index_or states.round.seen server None

abbrev pub IsMaster : States → ℕ → Type 0
IsMaster states server = option_map (λ (seen : Seen). seen.state) (shown states server) ≡ Some Master

-- at most one server is Master
abbrev pub HasOneMaster : States → Type 0
HasOneMaster states = (a b : ℕ) → IsMaster states a → IsMaster states b → a ≡ b

-- the server is neither Master nor Slave, and has no position
abbrev pub IsOutOfService : States → ℕ → Type 0
IsOutOfService states server = shown states server ≡ Some (record { state = Maintenance; position = 0 })

-- the probe tells this position
abbrev pub Tells : Option Probe → ℕ → Type 0
Tells (Some (probe.Found id position source)) n = position ≡ n
Tells _ n = ⊥

-- no position comes out of nothing: each is that of the server's probe, or 0
abbrev pub ArePositionsProbed : List (Option Probe) → States → Type 0
ArePositionsProbed probes states = (server : ℕ) (seen : Seen) → shown states server ≡ Some seen → (seen.position ≡ 0) ⊎ Tells (slice_index_or probes server None) seen.position
