use Rattle.std.proofs.Common.{◌≡◌, ◌++◌, length}
use Rattle.rws_set.specs.Targets.{lower}
use Rattle.rws_vars.proofs.collector.lower.Given as goal

abbrev pub invariant-loop-rest : goal.invariant-loop-rest
invariant-loop-rest l = l.text ++ lower l.rest ≡ lower l.name

abbrev pub decreases-loop-rest : goal.decreases-loop-rest
decreases-loop-rest l = length l.rest
