use Rattle.std.proofs.Common.{◌∙◌}
use Rattle.rws_worker.proofs.StandLemmas.{stands_on}
use Rattle.rws_worker.proofs.worker.Worker.next_broken.Goals as goal

pub returns-then-is_empty-clause-stands : goal.returns-then-is_empty-clause-stands
returns-then-is_empty-clause-stands c = λ config run w.
    stands_on w c.farewell-farewell.new.self c.take.new.self c.args.self.now.closing c.args.self.now.observed c.farewell-farewell.ensures.going
    (λ _. c.take.ensures.after) (λ e. e) c.farewell-farewell.ensures.nothing (λ e. e) (λ e. c.farewell-farewell.ensures.links ∙ e)

pub returns-clause-stands : goal.returns-clause-stands
returns-clause-stands c = λ config run w.
    stands_on w c.farewell-farewell.new.self c.take.new.self c.args.self.now.closing c.args.self.now.observed c.farewell-farewell.ensures.going
    (λ _. c.take.ensures.after) (λ e. e) c.farewell-farewell.ensures.nothing (λ e. e) (λ e. c.farewell-farewell.ensures.links ∙ e)
