use Rattle.rws_config.proofs.LeastLemmas.{least_is, none_is_least}
use Rattle.rws_config.proofs.law.the_least_is_named.Goals as goal

pub returns-clause-some : goal.returns-clause-some
returns-clause-some c = least_is

pub returns-clause-none : goal.returns-clause-none
returns-clause-none c = none_is_least
