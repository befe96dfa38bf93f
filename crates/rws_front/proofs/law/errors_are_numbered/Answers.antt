use Rattle.rws_front.proofs.NumberLemmas.{errors_are_numbered}
use Rattle.rws_front.proofs.law.errors_are_numbered.Goals as goal

pub returns : goal.returns
returns c = errors_are_numbered
