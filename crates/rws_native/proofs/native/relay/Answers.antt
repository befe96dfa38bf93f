use Rattle.rws_native.proofs.MixingLemmas.{found_in}
use Rattle.rws_native.proofs.native.relay.Goals as goal

pub returns-clause-found : goal.returns-clause-found
returns-clause-found c =
    found_in c.stage1.inside.0 c.args.stage1.now c.args.scramble.now c.digest-stored.result c.mask_of.result c.mixed.result c.stage1.told c.stage1.view_is c.mixed.ensures c.mask_of.ensures c.digest-stored.ensures
