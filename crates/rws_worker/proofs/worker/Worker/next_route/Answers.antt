use Rattle.std.proofs.Common.{sym, subst, arith}
use Rattle.rws_worker.specs.declared.worker.Worker.{Worker}
use Rattle.rws_worker.specs.Standing.{WorkerStands}
use Rattle.rws_worker.proofs.StandLemmas.{awaits_answer}
use Rattle.rws_worker.proofs.worker.Worker.next_route.Goals as goal

pub returns-else-self-ge-LAST_LINK-clause-stands : goal.returns-else-self-ge-LAST_LINK-clause-stands
returns-else-self-ge-LAST_LINK-clause-stands c = λ config run w none.
    subst (λ (v : Worker). WorkerStands config v run) (sym c.clear.ensures)
    (awaits_answer w c.in-Asks.session c.in-Asks.is none c.requires.unobserved (let h = c.if-self-ge-LAST_LINK.false in omega arith))
