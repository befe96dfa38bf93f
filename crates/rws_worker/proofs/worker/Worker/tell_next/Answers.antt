use Rattle.rws_worker.proofs.ClockLemmas.{all_were_told, further, tells_next}
use Rattle.rws_worker.proofs.worker.Worker.tell_next.Goals as goal

pub returns-in_default-clause-stands : goal.returns-in_default-clause-stands
returns-in_default-clause-stands c = λ e run w bare. all_were_told w bare c.in_default.ensures

pub returns-clause-told : goal.returns-clause-told
returns-clause-told c = λ e. rw c.tell.ensures.telling (further c.args.self.now.telling c.in-Some.session c.args.self.now.sessions c.in-Some.ensures)

pub returns-clause-advances : goal.returns-clause-advances
returns-clause-advances c = λ e run w bare.
    tells_next w bare c.in-Some.session c.in-Some.ensures
    (λ now b its behind more tells told. c.tell.ensures.advances now b its behind more tells told)
