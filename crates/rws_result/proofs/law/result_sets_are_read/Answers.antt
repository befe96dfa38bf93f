use Rattle.rws_result.proofs.GrammarLemmas.{law}
use Rattle.rws_result.proofs.law.result_sets_are_read.Goals as goal

pub returns : goal.returns
returns c = law
