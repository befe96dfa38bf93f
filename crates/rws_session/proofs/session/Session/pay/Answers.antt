use Rattle.rws_session.proofs.TryLemmas.{paid}
use Rattle.rws_session.proofs.session.Session.pay.Goals as goal

pub returns-in_ok-give-in-Some-clause-ok : goal.returns-in_ok-give-in-Some-clause-ok
returns-in_ok-give-in-Some-clause-ok c = λ config past is.
    paid config past c.args.self.now c.next_owed.new.self c.give.new.self c.in-Some.out is c.in-Some.ensures.0 c.in-Some.ensures.1
    c.in_ok-give-in-Some.ensures.ok
