use Rattle.rws_session.proofs.BoundLemmas.{started_bounded}
use Rattle.rws_session.proofs.session.Session.start.Goals as goal

pub returns-clause-bounded : goal.returns-clause-bounded
returns-clause-bounded c = λ past is allowed.
    started_bounded c.args.config.now past c.args.self.now c.settle.new.self c.settle.result allowed (c.settle.ensures.ok past is)
