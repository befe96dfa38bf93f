use Rattle.std.proofs.Common.{length}
use Rattle.rws_track.proofs.StateLemmas.{EntriesLeft}
use Rattle.rws_track.proofs.state.last_in_state.Given as goal

abbrev pub invariant-loop-rest : goal.invariant-loop-rest
invariant-loop-rest l = EntriesLeft l.domain l.fn.state l.rest l.last

abbrev pub decreases-loop-rest : goal.decreases-loop-rest
decreases-loop-rest l = length l.rest
