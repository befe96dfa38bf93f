use Rattle.rws_reply.proofs.RoleLemmas.{role_is_exact}
use Rattle.rws_reply.proofs.law.role_is_exact.Goals as goal

pub returns : goal.returns
returns c = role_is_exact
