use Rattle.rws_top.proofs.WorkLemmas.{works_always, works_map}
use Rattle.rws_top.proofs.trace.work_on.Goals as goal

pub returns-clause-reader : goal.returns-clause-reader
returns-clause-reader g c = works_always (λ done standing d. d.0.reader) c.work_here.ensures.works

pub returns-clause-input : goal.returns-clause-input
returns-clause-input g c = works_always (λ done standing d. d.0.input) c.work_here.ensures.works

pub returns-clause-out : goal.returns-clause-out
returns-clause-out g c = works_always (λ done standing d. d.0.out) c.work_here.ensures.works

pub returns-clause-works : goal.returns-clause-works
returns-clause-works g c = works_map (λ done standing d. d.0.did) c.work_here.ensures.works
