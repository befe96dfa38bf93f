use Rattle.std.proofs.Common.{◌≡◌, take}
use Rattle.rws_pool.specs.Machine.{each_observed}
use Rattle.rws_pool.proofs.words.PoolWords.observe.Given as goal

abbrev pub invariant-loop-place : goal.invariant-loop-place
invariant-loop-place l = (l.self.last ≡ l.initial.self.last) × (l.self.servers ≡ each_observed l.initial.self.servers (take l.place l.round.seen))
