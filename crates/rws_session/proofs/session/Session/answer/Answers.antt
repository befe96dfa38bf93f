use Rattle.rws_session.proofs.AnswerLemmas.{answered_or_not}
use Rattle.rws_session.proofs.session.Session.answer.Goals as goal

pub returns-clause-ok : goal.returns-clause-ok
returns-clause-ok g c = λ past asks.
    answered_or_not c.args.config.now past c.args.words.now c.args.loads.now c.args.next c.found-found.result c.check-check.result c.args.self.now
    c.take_route.new.self c.take_route.result asks c.found-found.ensures.found c.check-check.ensures c.take_route.ensures.ok
