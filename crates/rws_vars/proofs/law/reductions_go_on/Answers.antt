use Rattle.rws_vars.proofs.ReductionLemmas.{go_on}
use Rattle.rws_vars.proofs.law.reductions_go_on.Goals as goal

pub returns : goal.returns
returns c = go_on
