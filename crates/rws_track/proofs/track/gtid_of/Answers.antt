use Rattle.std.proofs.Common.{◌∙◌}
use Rattle.rws_track.proofs.StateLemmas.{named_by}
use Rattle.rws_track.proofs.track.gtid_of.Goals as goal

pub returns-clause-named : goal.returns-clause-named
returns-clause-named c = λ shown are.
    c.unwrap_or.ensures ∙ named_by c.as_slice.result.now c.args.domain c.last_in_state.result c.last_in_state.ensures.read c.last_in_state.ensures.broken shown (rw c.as_slice.ensures are)
