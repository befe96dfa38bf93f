use Rattle.std.proofs.Common.{sym, ◌∙◌}
use Rattle.rws_session.proofs.TryLemmas.{took_said}
use Rattle.rws_session.proofs.session.Session.take_up.Goals as goal

pub returns-clause-ok : goal.returns-clause-ok
returns-clause-ok c = λ past is o.
    took_said c.args.config.now past c.args.self.now c.next_said.new.self c.take_said.new.self c.recount.new.self c.in_ok-said.said
    c.in_ok-went.went is o (sym c.is_busy.ensures ∙ c.if-is_busy.false) c.in_ok-said.ensures.said c.in_ok-said.ensures.rest
    c.in_ok-went.ensures.ok c.recount.ensures
