use Rattle.rws_vars.proofs.ReductionLemmas.{may_not_compose}
use Rattle.rws_vars.proofs.law.reductions_may_not_compose.Goals as goal

pub returns : goal.returns
returns c = may_not_compose
