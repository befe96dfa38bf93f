use Rattle.std.proofs.Common.{refl}
use Rattle.rws_worker.proofs.StandLemmas.{stands_on}
use Rattle.rws_worker.proofs.worker.Worker.next_round.Goals as goal

pub returns-clause-stands : goal.returns-clause-stands
returns-clause-stands c = λ config run w.
    stands_on w c.args.self.now.ahead c.args.self.now.broken c.args.self.now.closing c.take.new.self refl (λ e. e) (λ e. e) (λ e. e)
    (λ _. c.take.ensures.after) (λ e. e)
