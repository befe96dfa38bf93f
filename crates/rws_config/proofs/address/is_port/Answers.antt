use Rattle.std.proofs.Common.{◌∙◌, arith}
use Rattle.std.proofs.lemmas.Grind.{common_steps}
use Rattle.rws_config.proofs.AddressLemmas.{is_port_parsed}
use Rattle.rws_config.proofs.address.is_port.Goals as goal

pub returns-in-49-to-57 : goal.returns-in-49-to-57
returns-in-49-to-57 c = c.is_ok.ensures.value ∙ is_port_parsed c.args.text.now c.parse.result c.parse.ensures.value.0 (grind (arith, common_steps)) (grind (arith, common_steps))
