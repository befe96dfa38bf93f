use Rattle.rws_pool.proofs.Rising.{words_after-rises}
use Rattle.rws_pool.proofs.law.nothing_is_forgotten.Goals as goal

pub returns : goal.returns
returns c = words_after-rises
