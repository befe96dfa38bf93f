use Rattle.rws_vars.proofs.MapLemmas.{keep_the_map}
use Rattle.rws_vars.proofs.law.reductions_keep_the_map.Goals as goal

pub returns : goal.returns
returns c = keep_the_map
