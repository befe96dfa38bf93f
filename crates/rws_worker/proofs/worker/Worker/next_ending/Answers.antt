use Rattle.std.proofs.Common.{refl}
use Rattle.rws_worker.proofs.StandLemmas.{stands_on}
use Rattle.rws_worker.proofs.worker.Worker.next_ending.Goals as goal

pub returns-in-Some-take-clause-stands : goal.returns-in-Some-take-clause-stands
returns-in-Some-take-clause-stands c = λ config run w.
    let mid = c.next_broken.new.self in
    stands_on (c.next_broken.ensures.stands config run w) mid.ahead mid.broken c.take.new.self mid.observed refl
    (λ e. e) (λ _. c.take.ensures.after) (λ e. e) (λ e. e) (λ e. e)
