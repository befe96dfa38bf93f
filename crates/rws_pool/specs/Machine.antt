-- The pool machine: the words that all workers share, and how each event changes them.
use Rattle.std.specs.Prelude.{◌≡◌, ℕ, ◌<◌, ◌≤◌, List, [], ◌∷◌, Option, Some, None, replicate, max, nat_lt, if◌then◌else◌, slice_index_or, slice_set}
use Rattle.rws_gtid.specs.declared.Gtid.{Gtid}
use Rattle.rws_pool.specs.declared.words.State.TheVariants.{Down}
use Rattle.rws_pool.specs.declared.words.Seen.{Seen}
use Rattle.rws_pool.specs.declared.words.PoolWords.{PoolWords}
use Rattle.rws_pool.specs.declared.events.PoolEvent.{PoolEvent}
use Rattle.rws_pool.specs.declared.events.PoolEvent.TheVariants.{Route, Record, Observe}

abbrev pub down : Seen
down = record { state = Down; position = 0 }

-- all servers are down, and nothing was committed
abbrev pub new_words : ℕ → PoolWords
new_words domain = record { last = record { domain = domain; server = 0; sequence = 0 }; servers = replicate 7 down }

-- the GTID of the greater sequence, the first at a tie; its domain stays
abbrev pub later : Gtid → Gtid → Gtid
later last g = if nat_lt last.sequence g.sequence then record { domain = last.domain; server = g.server; sequence = g.sequence } else last

abbrev pub raised : Seen → ℕ → Seen
raised seen sequence = record { state = seen.state; position = max seen.position sequence }

-- what is known of the server at this index
abbrev pub seen_at : PoolWords → ℕ → Seen
seen_at words server = slice_index_or words.servers server down

abbrev pub recorded : PoolWords → ℕ → Gtid → PoolWords
recorded words server g = record {
  last = later words.last g;
  servers = slice_set words.servers server (raised (seen_at words server) g.sequence);
}

-- a server that is named takes the state, and the position where it is higher
abbrev pub observed : Seen → Option Seen → Seen
observed seen None = seen
observed seen (Some named) = record { state = named.state; position = max seen.position named.position }

abbrev pub each_observed : List Seen → List (Option Seen) → List Seen
each_observed servers [] = servers
each_observed [] (named ∷ more) = []
each_observed (seen ∷ servers) (named ∷ more) = observed seen named ∷ each_observed servers more

abbrev pub pool_step : PoolWords → PoolEvent → PoolWords
pool_step words Route = words
pool_step words (Record server g) = recorded words server g
pool_step words (Observe round) = record { last = words.last; servers = each_observed words.servers round.seen }

-- the words after a list of events
abbrev pub pool_from : PoolWords → List PoolEvent → PoolWords
pool_from words [] = words
pool_from words (event ∷ events) = pool_from (pool_step words event) events

abbrev pub pool_after : ℕ → List PoolEvent → PoolWords
pool_after domain events = pool_from (new_words domain) events

-- the event may happen to words of this domain
abbrev pub CanStep : ℕ → PoolEvent → Type 0
CanStep domain Route = Unit {0}
CanStep domain (Record server g) = (server < 7) × (g.domain ≡ domain)
CanStep domain (Observe round) = Unit {0}

-- nothing that was recorded or observed is forgotten
pub record NotBelow (before after : PoolWords) : Type 0 where
  pub last : before.last.sequence ≤ after.last.sequence
  pub positions : (server : ℕ) → (seen_at before server).position ≤ (seen_at after server).position
