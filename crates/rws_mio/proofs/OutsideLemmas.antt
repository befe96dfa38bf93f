-- Events from outside.
use Rattle.std.specs.Prelude.{◌≡◌, ℕ, refl}
use Rattle.rws_board.specs.declared.event.Event.{Event}
use Rattle.rws_board.specs.declared.event.Event.TheVariants.{Accept, Begin, ClientBytes, ClientGone, LinkReady, LinkBytes, LinkGone, Clock, Observed, End}
use Rattle.rws_mio.specs.Outside.{CameAt, IsHeard}

-- what came from a socket moves no clock
pub heard_at : (old new : ℕ) (event : Event) → new ≡ old → IsHeard event → CameAt old new event
heard_at old new (Accept session scramble) same heard = (same, heard)
heard_at old new (Begin session server) same heard = (same, heard)
heard_at old new (ClientBytes session bytes) same heard = (same, heard)
heard_at old new (ClientGone session) same heard = (same, heard)
heard_at old new (LinkReady link) same heard = (same, heard)
heard_at old new (LinkBytes link bytes) same heard = (same, heard)
heard_at old new (LinkGone link) same heard = (same, heard)
heard_at old new (Clock now) same heard = absurd heard
heard_at old new (Observed round) same heard = (same, heard)
heard_at old new End same heard = absurd heard
