use Rattle.std.specs.Prelude.{length}
use Rattle.rws_mio.proofs.peer.Peer.read.Goals as goal

pub returns-in-Err : goal.returns-in-Err
returns-in-Err c = c.read_failed.ensures (length c.read.new.buf)
