use Rattle.std.proofs.Common.{◌≡◌, length}
use Rattle.rws_vars.specs.Map.{applied}
use Rattle.rws_vars.proofs.settings.Settings.with.Given as goal

abbrev pub invariant-loop-rest : goal.invariant-loop-rest
invariant-loop-rest l = applied l.copy l.rest ≡ applied l.self l.settings

abbrev pub decreases-loop-rest : goal.decreases-loop-rest
decreases-loop-rest l = length l.rest
