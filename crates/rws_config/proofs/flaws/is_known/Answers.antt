use Rattle.std.proofs.Common.{◌∙◌}
use Rattle.rws_config.proofs.LeastLemmas.{known_among}
use Rattle.rws_config.proofs.flaws.is_known.Goals as goal

pub returns : goal.returns
returns c = c.is_among.ensures ∙ known_among c.args.name.now c.args.keys.now
