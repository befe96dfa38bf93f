-- What reading the first payload of bytes gives.
use Rattle.std.specs.Prelude.{◌≡◌, ◌≤◌, ℕ, List, ◌++◌, length}
use Rattle.rws_wire.specs.declared.gathering.Look.{Look}
use Rattle.rws_wire.specs.declared.gathering.Look.TheVariants as looks
use Rattle.rws_wire.specs.declared.payload.Payload.{Payload}
use Rattle.rws_wire.specs.Packets.{number_behind, spelling}
use Rattle.rws_wire.specs.Payloads.{Beginning, Nothing, Whole, Faulty}

-- what headers alone tell of what bytes begin with
abbrev pub look_of : Beginning → Look
look_of Nothing = looks.Partial
look_of (Whole payload next rest) = looks.Whole (length payload)
look_of (Faulty fault) = looks.Bad fault

-- the payload's spelling is what stood in front of the rest, and its length is within the limit
abbrev pub IsSpelled : ℕ → List ℕ → ℕ → List ℕ → Payload → Type 0
IsSpelled limit held first rest payload =
    (held ≡ spelling first payload.bytes ++ rest) × (payload.next ≡ number_behind first payload.bytes)
    × (length payload.bytes ≤ limit)
