use Rattle.std.proofs.Common.{refl, sym, ◌∙◌}
use Rattle.rws_session.proofs.TryLemmas.{flooded, flooded_nothing}
use Rattle.rws_session.proofs.session.Session.refuse_flood.Goals as goal

pub returns-in-None-clause-ok : goal.returns-in-None-clause-ok
returns-in-None-clause-ok c = λ past is o. (flooded_nothing c.args.config.now past c.args.self.now is (sym c.flood.ensures ∙ c.in-None.is), refl)

pub returns-in_ok-break_off-in-Some-clause-ok : goal.returns-in_ok-break_off-in-Some-clause-ok
returns-in_ok-break_off-in-Some-clause-ok c = λ past is o.
    flooded c.args.config.now past c.args.self.now c.break_off.new.self c.in-Some.held is o (sym c.flood.ensures ∙ c.in-Some.is)
    c.in_ok-break_off-in-Some.ensures.ok
