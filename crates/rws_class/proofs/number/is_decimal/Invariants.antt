use Rattle.std.proofs.Common.{◌≡◌, true, length}
use Rattle.rws_class.specs.Numbers.{is_decimal}
use Rattle.rws_class.proofs.number.is_decimal.Given as goal

abbrev pub invariant-loop-rest : goal.invariant-loop-rest
invariant-loop-rest l = is_decimal l.signed l.dot l.rest ≡ is_decimal l.signed true l.bytes

abbrev pub decreases-loop-rest : goal.decreases-loop-rest
decreases-loop-rest l = length l.rest
