use Rattle.rws_worker.proofs.StandLemmas.{none_taken, stands_on}
use Rattle.rws_worker.proofs.worker.Worker.next_drop.Goals as goal

pub returns-in_err-link-clause-stands : goal.returns-in_err-link-clause-stands
returns-in_err-link-clause-stands c = λ config run w.
    stands_on w c.next_link.new.self c.args.self.now.broken c.args.self.now.closing c.args.self.now.observed c.next_link.ensures.going
    (λ e. e) (λ e. e) c.next_link.ensures.nothing (λ e. e) (none_taken c.next_link.result _ _ c.next_link.ensures.taken)

pub returns-clause-stands : goal.returns-clause-stands
returns-clause-stands c = λ config run w.
    c.release.ensures.stands config run (stands_on w c.next_link.new.self c.args.self.now.broken c.args.self.now.closing c.args.self.now.observed
    c.next_link.ensures.going (λ e. e) (λ e. e) c.next_link.ensures.nothing (λ e. e) (none_taken c.next_link.result _ _ c.next_link.ensures.taken))
