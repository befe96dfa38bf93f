use Rattle.rws_reply.proofs.ProgressLemmas.{one_outcome, whole_ends}
use Rattle.rws_reply.proofs.law.replies_end_once.Goals as goal

pub returns-clause-outcome : goal.returns-clause-outcome
returns-clause-outcome c = one_outcome

pub returns-clause-end : goal.returns-clause-end
returns-clause-end c = whole_ends
