use Rattle.std.proofs.Common.{length}
use Rattle.rws_track.proofs.StateLemmas.{VariablesLeft}
use Rattle.rws_track.proofs.state.last_in_variables.Given as goal

abbrev pub invariant-loop-rest : goal.invariant-loop-rest
invariant-loop-rest l = VariablesLeft l.domain l.fn.found l.bytes l.rest l.last

abbrev pub decreases-loop-rest : goal.decreases-loop-rest
decreases-loop-rest l = length l.rest
