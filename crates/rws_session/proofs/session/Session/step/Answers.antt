use Rattle.std.proofs.Common.{sym, ◌∙◌}
use Rattle.rws_session.proofs.BreakLemmas.{on_err}
use Rattle.rws_session.proofs.TurnLemmas.{flooded_in_part, read_in_part, read_went, sent_in_part, stepped, stepped_in_part}
use Rattle.rws_session.proofs.session.Session.step.Goals as goal

pub returns-clause-ok : goal.returns-clause-ok
returns-clause-ok c = λ past is.
    stepped c.args.config.now past c.args.self.now c.pay.new.self c.ask.new.self c.send.new.self
    is (sym c.is_asking.ensures ∙ c.if-is_asking.false) (sym c.is_over.ensures.kept ∙ c.if-is_over.false)
    (rw c.if-branch.false at (c.in_ok-pay.ensures.ok c.args.config.now past is))
    (λ is_1 o a. rw c.if-ask.false at (c.ask.ensures c.args.config.now past is_1 o a))
    (λ is_2 o. rw c.if-branch-2.false at (c.in_ok-send.ensures.ok past is_2 o))
    c.refuse_flood.new.self
    (λ is_3 o. rw c.if-branch-3.false at (c.in_ok-refuse_flood.ensures.ok past is_3 o))
    c.read_links.new.self
    (λ is_4 o. rw c.if-branch-4.false at (c.in_ok-read_links.ensures.ok past is_4 o))
    c.take_up.new.self c.take_up.result (λ is_5 o. c.take_up.ensures.ok past is_5 o)

pub returns-clause-err : goal.returns-clause-err
returns-clause-err c = λ past is.
    stepped_in_part c.args.config.now past c.args.self.now c.pay.new.self c.ask.new.self c.send.new.self
    is (sym c.is_asking.ensures ∙ c.if-is_asking.false) (sym c.is_over.ensures.kept ∙ c.if-is_over.false)
    (rw c.if-branch.false at (c.in_ok-pay.ensures.ok c.args.config.now past is))
    (λ is_1 o a. rw c.if-ask.false at (c.ask.ensures c.args.config.now past is_1 o a))
    (λ is_2 o. rw c.if-branch-2.false at (c.in_ok-send.ensures.ok past is_2 o))
    c.refuse_flood.new.self
    (λ is_3 o. rw c.if-branch-3.false at (c.in_ok-refuse_flood.ensures.ok past is_3 o))
    c.read_links.new.self
    (λ is_4 o. rw c.if-branch-4.false at (c.in_ok-read_links.ensures.ok past is_4 o))
    c.take_up.new.self c.take_up.result c.take_up.ensures.err

pub returns-in_err-read_links-clause-err : goal.returns-in_err-read_links-clause-err
returns-in_err-read_links-clause-err c = λ past is.
    on_err _ (read_in_part c.args.config.now past c.args.self.now c.pay.new.self c.ask.new.self c.send.new.self
    is (sym c.is_asking.ensures ∙ c.if-is_asking.false) (sym c.is_over.ensures.kept ∙ c.if-is_over.false)
    (rw c.if-branch.false at (c.in_ok-pay.ensures.ok c.args.config.now past is))
    (λ is_1 o a. rw c.if-ask.false at (c.ask.ensures c.args.config.now past is_1 o a))
    (λ is_2 o. rw c.if-branch-2.false at (c.in_ok-send.ensures.ok past is_2 o))
    c.refuse_flood.new.self
    (λ is_3 o. rw c.if-branch-3.false at (c.in_ok-refuse_flood.ensures.ok past is_3 o))
    c.read_links.new.self c.in_err-read_links.ensures.err)

pub returns-in_err-refuse_flood-clause-err : goal.returns-in_err-refuse_flood-clause-err
returns-in_err-refuse_flood-clause-err c = λ past is.
    on_err _ (flooded_in_part c.args.config.now past c.args.self.now c.pay.new.self c.ask.new.self c.send.new.self
    is (sym c.is_asking.ensures ∙ c.if-is_asking.false) (sym c.is_over.ensures.kept ∙ c.if-is_over.false)
    (rw c.if-branch.false at (c.in_ok-pay.ensures.ok c.args.config.now past is))
    (λ is_1 o a. rw c.if-ask.false at (c.ask.ensures c.args.config.now past is_1 o a))
    (λ is_2 o. rw c.if-branch-2.false at (c.in_ok-send.ensures.ok past is_2 o))
    c.refuse_flood.new.self c.in_err-refuse_flood.ensures.err)

pub returns-in_err-send-clause-err : goal.returns-in_err-send-clause-err
returns-in_err-send-clause-err c = λ past is.
    on_err _ (sent_in_part c.args.config.now past c.args.self.now c.pay.new.self c.ask.new.self c.send.new.self is
    (sym c.is_asking.ensures ∙ c.if-is_asking.false)
    (rw c.if-branch.false at (c.in_ok-pay.ensures.ok c.args.config.now past is))
    (λ is_1 o a. rw c.if-ask.false at (c.ask.ensures c.args.config.now past is_1 o a))
    (λ is_2. c.in_err-send.ensures.err))

pub returns-then-branch-4-clause-ok : goal.returns-then-branch-4-clause-ok
returns-then-branch-4-clause-ok c = λ past is.
    read_went c.args.config.now past c.args.self.now c.pay.new.self c.ask.new.self c.send.new.self
    is (sym c.is_asking.ensures ∙ c.if-is_asking.false) (sym c.is_over.ensures.kept ∙ c.if-is_over.false)
    (rw c.if-branch.false at (c.in_ok-pay.ensures.ok c.args.config.now past is))
    (λ is_1 o a. rw c.if-ask.false at (c.ask.ensures c.args.config.now past is_1 o a))
    (λ is_2 o. rw c.if-branch-2.false at (c.in_ok-send.ensures.ok past is_2 o))
    c.refuse_flood.new.self
    (λ is_3 o. rw c.if-branch-3.false at (c.in_ok-refuse_flood.ensures.ok past is_3 o))
    c.read_links.new.self
    (λ is_4 o. rw c.if-branch-4.true at (c.in_ok-read_links.ensures.ok past is_4 o))
