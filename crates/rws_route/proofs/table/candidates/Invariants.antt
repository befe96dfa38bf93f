use Rattle.std.proofs.Common.{◌≡◌, ℕ, ◌<◌, None, length, get_or}
use Rattle.rws_route.specs.Targets.{candidate_at}
use Rattle.rws_route.proofs.table.candidates.Given as goal

abbrev pub invariant-loop-place : goal.invariant-loop-place
invariant-loop-place l = (length l.candidates ≡ 7) × ((k : ℕ) → k < l.place → get_or l.candidates k None ≡ candidate_at l.servers l.loads l.tried l.banned k)
