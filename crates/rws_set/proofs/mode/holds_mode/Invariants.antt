use Rattle.std.proofs.Common.{◌≡◌, length}
use Rattle.rws_set.specs.Modes.{mode_words}
use Rattle.rws_set.specs.Modes.{holds_mode}
use Rattle.rws_set.proofs.mode.holds_mode.Given as goal

abbrev pub invariant-loop-rest : goal.invariant-loop-rest
invariant-loop-rest l = holds_mode mode_words l.rest ≡ holds_mode mode_words l.bytes

abbrev pub decreases-loop-rest : goal.decreases-loop-rest
decreases-loop-rest l = length l.rest
