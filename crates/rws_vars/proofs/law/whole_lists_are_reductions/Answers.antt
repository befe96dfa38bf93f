use Rattle.rws_vars.proofs.ReductionLemmas.{whole_list}
use Rattle.rws_vars.proofs.law.whole_lists_are_reductions.Goals as goal

pub returns : goal.returns
returns c = whole_list
