use Rattle.std.proofs.Common.{◌≡◌, ℕ, ◌<◌, None, length, get_or}
use Rattle.rws_monitor.specs.Rounds.{seen_at}
use Rattle.rws_monitor.proofs.states.seen.Given as goal

abbrev pub invariant-loop-server : goal.invariant-loop-server
invariant-loop-server l = (length l.seen ≡ 7) × ((k : ℕ) → k < l.server → get_or l.seen k None ≡ seen_at l.probes l.maintenance l.primary l.primary_id k)
