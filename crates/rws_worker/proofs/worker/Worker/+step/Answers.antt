use Rattle.rws_worker.proofs.FetchLemmas.{fetch_goes}
use Rattle.rws_worker.proofs.WorkLemmas.{can_be_done}
use Rattle.rws_worker.proofs.worker.Worker.+step.Goals as goal

pub returns-in-Some-clause-steps : goal.returns-in-Some-clause-steps
returns-in-Some-clause-steps t c = λ run w waits.
    fetch_goes c.in-Some.step c.args.self.now c.fetch.new.self (c.fetch.ensures.stands c.args.config.now run w)
    (c.in-Some.ensures.fetches c.args.config.now run w waits)

pub returns-in-Some-clause-can : goal.returns-in-Some-clause-can
returns-in-Some-clause-can t c = λ run done w waits allowed parted.
    let s = fetch_goes c.in-Some.step c.args.self.now c.fetch.new.self (c.fetch.ensures.stands c.args.config.now run w)
    (c.in-Some.ensures.fetches c.args.config.now run w waits) in can_be_done c.in-Some.step allowed s.0 done parted
