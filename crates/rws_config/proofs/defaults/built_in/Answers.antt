use Rattle.std.proofs.Common.{rules}
use Rattle.rws_config.proofs.BuiltInLemmas.{is_allowed}
use Rattle.rws_config.proofs.defaults.built_in.Goals as goal

pub returns-clause-allowed : goal.returns-clause-allowed
returns-clause-allowed c = is_allowed _ (search rules)
