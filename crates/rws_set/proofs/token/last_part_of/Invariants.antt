use Rattle.std.proofs.Common.{◌≡◌, length}
use Rattle.rws_set.specs.Values.{last_part_from}
use Rattle.rws_set.proofs.token.last_part_of.Given as goal

abbrev pub invariant-loop-rest : goal.invariant-loop-rest
invariant-loop-rest l = last_part_from l.part l.rest ≡ last_part_from l.name l.name

abbrev pub decreases-loop-rest : goal.decreases-loop-rest
decreases-loop-rest l = length l.rest
