-- The rule of a round, in five parts. A server is named by its index, 0 to 6; lists of probes and of what is seen are by index.
use Rattle.std.specs.Prelude.{ℕ, ◌^◌, Bool, true, false, not, ◌&&◌, ◌||◌, ◌==◌, nat_le, List, map, Option, Some, None, position, count_by, bit_and, if◌then◌else◌, slice_index_or}
use Rattle.std.specs.List.{range_with_len, list_all}
use Rattle.rws_pool.specs.declared.words.State.{State}
use Rattle.rws_pool.specs.declared.words.State.TheVariants as state
use Rattle.rws_pool.specs.declared.words.Seen.{Seen}
use Rattle.rws_monitor.specs.declared.probe.Probe.{Probe}
use Rattle.rws_monitor.specs.declared.probe.Probe.TheVariants.{Down, Found}
use Rattle.rws_monitor.specs.declared.probe.Source.{Source}
use Rattle.rws_monitor.specs.declared.states.States.{States}

-- bit k of a set stands for the server at index k
abbrev pub is_in : ℕ → ℕ → Bool
is_in set server = not (bit_and set (2 ^ server) == 0)

-- FOUND SERVERS AND ROOTS. A server is found where its probe says so and it isn't in maintenance: of one in maintenance no probe counts
abbrev pub counted_at : List (Option Probe) → ℕ → ℕ → Option Probe
counted_at probes maintenance server = if is_in maintenance server then None else slice_index_or probes server None

abbrev pub counted : List (Option Probe) → ℕ → List (Option Probe)
counted probes maintenance = map (counted_at probes maintenance) (range_with_len 0 7)

-- a root is a found server without a source
abbrev pub is_root : Option Probe → Bool
is_root (Some (Found id position None)) = true
is_root _ = false

-- THE PRIMARY. Whether a found server names this id as that of its source
abbrev pub names : ℕ → Option Probe → Bool
names id (Some (Found own position (Some source))) = source.primary_id == id
names id _ = false

abbrev pub followers : List (Option Probe) → Option Probe → ℕ
followers probes (Some (Found id position source)) = count_by (names id) probes
followers probes _ = 0

-- it is no root that has more followers than this
abbrev pub is_within : List (Option Probe) → ℕ → Option Probe → Bool
is_within probes most probe = not (is_root probe) || nat_le (followers probes probe) most

-- a root that no other root exceeds in followers
abbrev pub leads : List (Option Probe) → Option Probe → Bool
leads probes root = is_root root && list_all (is_within probes (followers probes root)) probes

abbrev pub is_root_at : List (Option Probe) → Option ℕ → Bool
is_root_at probes None = false
is_root_at probes (Some server) = is_root (slice_index_or probes server None)

-- the old primary where it is a root, else the root with the most followers, the lowest index at a tie
abbrev pub primary_of : List (Option Probe) → Option ℕ → Option ℕ
primary_of probes old = if is_root_at probes old then old else position (leads probes) probes

-- THE KEPT ID: the primary's, or the old one where there is no primary
abbrev pub id_or : ℕ → Option Probe → ℕ
id_or old (Some (Found id position source)) = id
id_or old _ = old

abbrev pub kept_id : List (Option Probe) → Option ℕ → ℕ → ℕ
kept_id probes None old = old
kept_id probes (Some server) old = id_or old (slice_index_or probes server None)

-- THE ROLE of a found server: the primary is Master, one that replicates from the kept id is Slave, every other Running
abbrev pub follows : ℕ → Option Source → Bool
follows kept None = false
follows kept (Some source) = source.io && (source.sql && (source.primary_id == kept))

abbrev pub role : Bool → ℕ → Option Source → State
role is_primary kept source = if is_primary then state.Master else (if follows kept source then state.Slave else state.Running)

-- WHAT IS SEEN: a server in maintenance and one that is down have position 0; of one that wasn't asked the round says nothing
abbrev pub seen_in : Bool → Bool → ℕ → Option Probe → Option Seen
seen_in true is_primary kept probe = Some (record { state = state.Maintenance; position = 0 })
seen_in false is_primary kept None = None
seen_in false is_primary kept (Some Down) = Some (record { state = state.Down; position = 0 })
seen_in false is_primary kept (Some (Found id position source)) = Some (record { state = role is_primary kept source; position = position })

abbrev pub is_at : Option ℕ → ℕ → Bool
is_at None server = false
is_at (Some primary) server = primary == server

abbrev pub seen_at : List (Option Probe) → ℕ → Option ℕ → ℕ → ℕ → Option Seen
seen_at probes maintenance primary kept server = seen_in (is_in maintenance server) (is_at primary server) kept (slice_index_or probes server None)

-- the states after a round with this primary and this kept id
abbrev pub states_with : List (Option Probe) → ℕ → Option ℕ → ℕ → States
states_with probes maintenance primary kept = record {
  round = record { seen = map (seen_at probes maintenance primary kept) (range_with_len 0 7) };
  primary = primary;
  primary_id = kept;
}

abbrev pub round_of : List (Option Probe) → ℕ → States → States
round_of probes maintenance old =
    let primary = primary_of (counted probes maintenance) old.primary in
    states_with probes maintenance primary (kept_id (counted probes maintenance) primary old.primary_id)
