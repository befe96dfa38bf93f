use Rattle.std.proofs.Common.{◌∙◌}
use Rattle.rws_worker.proofs.StandLemmas.{stands_on}
use Rattle.rws_worker.proofs.worker.Worker.next_out.Goals as goal

pub returns-in-None-clause-stands : goal.returns-in-None-clause-stands
returns-in-None-clause-stands c = λ config run w.
    stands_on w c.next_out.new.self c.args.self.now.broken c.args.self.now.closing c.args.self.now.observed c.next_out.ensures.going
    (λ e. e) (λ e. e) c.next_out.ensures.nothing (λ e. e) (λ e. c.next_out.ensures.links ∙ e)
