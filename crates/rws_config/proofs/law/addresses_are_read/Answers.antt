use Rattle.rws_config.proofs.AddressLemmas.{address_is, address_is_read}
use Rattle.rws_config.proofs.law.addresses_are_read.Goals as goal

pub returns : goal.returns
returns c = λ text. (address_is text, address_is_read text)
