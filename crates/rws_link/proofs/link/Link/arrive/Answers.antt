use Rattle.rws_link.proofs.LinkLemmas.{read_again}
use Rattle.rws_link.proofs.link.Link.arrive.Goals as goal

pub returns-in-Some-clause-arrives : goal.returns-in-Some-clause-arrives
returns-in-Some-clause-arrives c = λ held is.
    rw (is, c.in-Some.is) (read_again c.args.first c.in-Some.payload held (rw c.in-Some.is at c.requires))
