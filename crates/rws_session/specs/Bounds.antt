-- What a session holds of the bytes that came to it.
use Rattle.std.specs.Prelude.{◌≡◌, ◌+◌, ◌≤◌, false, length}
use Rattle.rws_config.specs.declared.config.Config.{Config}
use Rattle.rws_config.specs.declared.limits.TheConstants.{FLOOD_ROOM}
use Rattle.rws_links.specs.Bounds.{HoldFew}
use Rattle.rws_session.specs.Kept.{Kept}

-- Of the client no more than a command and the room beside it; of each link less than a server's longest payload takes.
pub record HoldsFew (config : Config) (k : Kept) : Type 0 where
  pub client : length k.state.front.stream.held ≤ config.command_bytes + FLOOD_ROOM
  pub links : HoldFew k.state.links

-- while it goes on; one that is over is to be forgotten
abbrev pub IsBounded : Config → Kept → Type 0
IsBounded config k = k.state.over ≡ false → HoldsFew config k
