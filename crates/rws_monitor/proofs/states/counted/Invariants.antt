use Rattle.std.proofs.Common.{◌≡◌, ℕ, ◌<◌, None, length, get_or}
use Rattle.rws_monitor.specs.Rounds.{counted_at}
use Rattle.rws_monitor.proofs.states.counted.Given as goal

abbrev pub invariant-loop-server : goal.invariant-loop-server
invariant-loop-server l = (length l.counted ≡ 7) × ((k : ℕ) → k < l.server → get_or l.counted k None ≡ counted_at l.probes l.maintenance k)
