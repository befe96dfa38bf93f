use Rattle.rws_vars.proofs.ReductionLemmas.{compose}
use Rattle.rws_vars.proofs.law.reductions_compose.Goals as goal

pub returns : goal.returns
returns c = compose
