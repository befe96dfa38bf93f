use Rattle.rws_reply.proofs.ProgressLemmas.{progress_is_exact}
use Rattle.rws_reply.proofs.law.progress_is_exact.Goals as goal

pub returns : goal.returns
returns c = progress_is_exact
