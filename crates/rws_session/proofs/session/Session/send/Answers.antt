use Rattle.std.proofs.Common.{sym, refl, ◌∙◌}
use Rattle.rws_session.proofs.TryLemmas.{sent_nothing}
use Rattle.rws_session.proofs.session.Session.send.Goals as goal

pub returns-in-None-clause-ok : goal.returns-in-None-clause-ok
returns-in-None-clause-ok c = λ past is o. (sent_nothing c.args.config.now past c.args.self.now is (sym c.due.ensures ∙ c.in-None.is), refl)

pub returns-in-Some-clause-ok : goal.returns-in-Some-clause-ok
returns-in-Some-clause-ok c = λ past is o. c.send_due.ensures.ok past is o (sym c.due.ensures ∙ c.in-Some.is)
