use Rattle.std.proofs.Common.{◌≡◌, length}
use Rattle.rws_config.specs.Settings.{least, least_from, repeated}
use Rattle.rws_config.proofs.repeats.least_repeated.Given as goal

abbrev pub invariant-loop-rest : goal.invariant-loop-rest
invariant-loop-rest l = least_from l.least (repeated l.rest) ≡ least (repeated l.names)

abbrev pub decreases-loop-rest : goal.decreases-loop-rest
decreases-loop-rest l = length l.rest
