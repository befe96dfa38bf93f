use Rattle.std.proofs.Common.{length}
use Rattle.rws_links.proofs.sending.+send_each.Given as goal

abbrev pub decreases-send_each : goal.decreases-send_each
decreases-send_each l = length l.payloads.now
