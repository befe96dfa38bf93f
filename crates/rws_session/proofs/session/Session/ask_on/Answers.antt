use Rattle.std.proofs.Common.{refl, sym, ap, ◌∙◌}
use Rattle.rws_links.specs.declared.finding.DueKind.TheVariants.{Command as ACommand}
use Rattle.rws_session.specs.Kept.{Kept}
use Rattle.rws_session.proofs.TryLemmas.{asked_first_or_not, asked_nothing_on, close_before_command, closed_or_not, sent_or_not}
use Rattle.rws_session.proofs.session.Session.ask_on.Goals as goal

pub returns-then-not-is_busy-clause-ok : goal.returns-then-not-is_busy-clause-ok
returns-then-not-is_busy-clause-ok c = λ past is o first.
    (asked_nothing_on c.args.config.now past c.args.self.now c.args.link c.args.serial is first (sym c.is_busy.ensures ∙ c.if-not-is_busy.true), refl)

pub returns-in-Some-clause-ok : goal.returns-in-Some-clause-ok
returns-in-Some-clause-ok c = λ past is o first.
    closed_or_not c.args.config.now past c.args.link c.args.serial c.in-Some.id ACommand c.args.self.now c.take_stale.new.self
    c.send_close.new.self c.send_close.result is o first refl
    (close_before_command c.args.config.now past c.args.self.now c.args.link c.args.serial c.in-Some.id is
    (sym c.is_busy.ensures ∙ c.if-not-is_busy.false) (sym c.take_stale.ensures.result ∙ c.in-Some.is))
    c.take_stale.ensures.rest c.send_close.ensures.sends (c.send_close.ensures.links past)

pub returns-in-Some-checks_first-clause-ok : goal.returns-in-Some-checks_first-clause-ok
returns-in-Some-checks_first-clause-ok c = λ past is o first.
    let same = c.take_stale.ensures.none c.in_default.is in
    let checks = ap (λ (k : Kept). k.state.routing.check) (sym same) ∙ sym c.checks_first.ensures ∙ c.in-Some-checks_first.is in
    asked_first_or_not c.args.config.now past c.args.link c.args.serial c.in-Some-checks_first.check c.args.self.now c.send_check.new.self
    c.send_check.result is o first (sym c.is_busy.ensures ∙ c.if-not-is_busy.false)
    (sym c.take_stale.ensures.result ∙ c.in_default.is) checks (rw same at c.send_check.ensures.sends)
    (rw same at (c.send_check.ensures.links past))

pub returns-in-None-clause-ok : goal.returns-in-None-clause-ok
returns-in-None-clause-ok c = λ past is o first.
    let same = c.take_stale.ensures.none c.in_default.is in
    let unchecked = ap (λ (k : Kept). k.state.routing.check) (sym same) ∙ sym c.checks_first.ensures ∙ c.in-None.is in
    sent_or_not c.args.config.now past c.args.link c.args.serial c.args.self.now c.send_pending.new.self c.send_pending.result is o first
    (sym c.take_stale.ensures.result ∙ c.in_default.is) unchecked (rw same at c.send_pending.ensures.sends)
    (rw same at (c.send_pending.ensures.links past))
