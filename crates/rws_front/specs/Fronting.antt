-- Where a front stands.
use Rattle.std.specs.Prelude.{ℕ, List, ◌++◌}
use Rattle.rws_wire.specs.Deframing.{Deframing}
use Rattle.rws_front.specs.declared.phase.Phase.{Phase}

-- the number of its session, the scramble of its greeting, how far the connection has come, and the client's bytes that
-- aren't handed out
pub record Fronting : Type 0 where
  pub session : ℕ
  pub scramble : List ℕ
  pub phase : Phase
  pub stream : Deframing

-- the same with so many bytes more of the client
abbrev pub fed : Fronting → List ℕ → Fronting
fed front more = record front { stream = record front.stream { held = front.stream.held ++ more } }
