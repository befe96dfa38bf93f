use Rattle.rws_result.proofs.OneValueLemmas.{law}
use Rattle.rws_result.proofs.law.one_values_are_read.Goals as goal

pub returns : goal.returns
returns c = law
