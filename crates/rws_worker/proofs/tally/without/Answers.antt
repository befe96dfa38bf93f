use Rattle.std.proofs.Common.{◌∙◌}
use Rattle.rws_worker.specs.Tallies.{plus, tally_in}
use Rattle.rws_worker.proofs.TallyLemmas.{minus_plus, seven_same}
use Rattle.rws_worker.proofs.tally.without.Goals as goal

pub returns : goal.returns
returns c = λ config past is rest e.
    c.all_less.ensures config past is (λ server. plus (rest server) (tally_in past server)) e
    ∙ seven_same _ rest (λ server. minus_plus (rest server) (tally_in past server))
