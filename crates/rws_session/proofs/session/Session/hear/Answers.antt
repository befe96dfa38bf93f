use Rattle.std.proofs.Common.{sym, ◌∙◌}
use Rattle.rws_session.proofs.BreakLemmas.{hears_part_of_bytes, hears_part_of_client, hears_part_of_gone, hears_part_of_loss, on_err}
use Rattle.rws_session.proofs.TurnLemmas.{hears_bytes, hears_client, hears_clock, hears_gone, hears_loss, hears_no_bytes, hears_no_loss, hears_ready}
use Rattle.rws_session.proofs.session.Session.hear.Goals as goal

pub returns-in_ok-feed_client-in-Client-clause-ok : goal.returns-in_ok-feed_client-in-Client-clause-ok
returns-in_ok-feed_client-in-Client-clause-ok c = λ past stands.
    rw c.in-Client.is (hears_client c.args.config.now past c.in-Client.bytes c.args.self.now c.feed_client.new.self stands (sym c.is_over.ensures.kept ∙ c.if-is_over.false)
    (rw c.as_slice.ensures at c.in_ok-feed_client-in-Client.ensures.ok))

pub returns-in_ok-leave-in-ClientGone-clause-ok : goal.returns-in_ok-leave-in-ClientGone-clause-ok
returns-in_ok-leave-in-ClientGone-clause-ok c = λ past stands.
    rw c.in-ClientGone.is (hears_gone c.args.config.now past c.args.self.now c.leave.new.self stands (sym c.is_over.ensures.kept ∙ c.if-is_over.false)
    c.in_ok-leave-in-ClientGone.ensures.ok)

pub returns-in-Ready-clause-ok : goal.returns-in-Ready-clause-ok
returns-in-Ready-clause-ok c = λ past stands.
    rw c.in-Ready.is (hears_ready c.args.config.now past c.in-Ready.link c.ready_link.result c.args.self.now c.ready_link.new.self stands
    (sym c.is_over.ensures.kept ∙ c.if-is_over.false) c.ready_link.ensures.readies c.ready_link.ensures.rest)

pub returns-then-not-has_link-clause-ok : goal.returns-then-not-has_link-clause-ok
returns-then-not-has_link-clause-ok c = λ past stands.
    rw c.in-Link.is (hears_no_bytes c.args.config.now past c.in-Link.link c.in-Link.bytes c.args.self.now stands (sym c.is_over.ensures.kept ∙ c.if-is_over.false)
    c.if-not-has_link.ensures.kept)

pub returns-in_ok-feed_link-in-Link-clause-ok : goal.returns-in_ok-feed_link-in-Link-clause-ok
returns-in_ok-feed_link-in-Link-clause-ok c = λ past stands.
    rw c.in-Link.is (hears_bytes c.args.config.now past c.in-Link.link c.in-Link.bytes c.args.self.now c.feed_link.new.self stands
    (sym c.is_over.ensures.kept ∙ c.if-is_over.false) c.if-not-has_link.ensures.kept
    (rw c.as_slice-in-Link.ensures at c.in_ok-feed_link-in-Link.ensures.fed) c.in_ok-feed_link-in-Link.ensures.rest)

pub returns-then-not-has_link-2-clause-ok : goal.returns-then-not-has_link-2-clause-ok
returns-then-not-has_link-2-clause-ok c = λ past stands.
    rw c.in-LinkGone.is (hears_no_loss c.args.config.now past c.in-LinkGone.link c.args.self.now stands (sym c.is_over.ensures.kept ∙ c.if-is_over.false)
    c.if-not-has_link-2.ensures.kept)

pub returns-in_ok-lose_link-in-LinkGone-clause-ok : goal.returns-in_ok-lose_link-in-LinkGone-clause-ok
returns-in_ok-lose_link-in-LinkGone-clause-ok c = λ past stands.
    rw c.in-LinkGone.is (hears_loss c.args.config.now past c.in-LinkGone.link c.args.self.now c.lose_link.new.self stands (sym c.is_over.ensures.kept ∙ c.if-is_over.false)
    c.if-not-has_link-2.ensures.kept c.in_ok-lose_link-in-LinkGone.ensures.ok)

pub returns-in_err-feed_client-in-Client-clause-err : goal.returns-in_err-feed_client-in-Client-clause-err
returns-in_err-feed_client-in-Client-clause-err c = λ past stands.
    rw c.in-Client.is (on_err _ (hears_part_of_client c.args.config.now past c.in-Client.bytes c.args.self.now c.feed_client.new.self stands
    (sym c.is_over.ensures.kept ∙ c.if-is_over.false) (rw c.as_slice.ensures at c.in_err-feed_client-in-Client.ensures.err)))

pub returns-in_err-leave-in-ClientGone-clause-err : goal.returns-in_err-leave-in-ClientGone-clause-err
returns-in_err-leave-in-ClientGone-clause-err c = λ past stands.
    rw c.in-ClientGone.is (on_err _ (hears_part_of_gone c.args.config.now past c.args.self.now c.leave.new.self stands (sym c.is_over.ensures.kept ∙ c.if-is_over.false)
    c.in_err-leave-in-ClientGone.ensures.err))

pub returns-in_err-feed_link-in-Link-clause-err : goal.returns-in_err-feed_link-in-Link-clause-err
returns-in_err-feed_link-in-Link-clause-err c = λ past stands.
    rw c.in-Link.is (on_err _ (hears_part_of_bytes c.args.config.now past c.in-Link.link c.in-Link.bytes c.args.self.now c.feed_link.new.self stands
    (sym c.is_over.ensures.kept ∙ c.if-is_over.false) c.if-not-has_link.ensures.kept c.in_err-feed_link-in-Link.ensures.err))

pub returns-in_err-lose_link-in-LinkGone-clause-err : goal.returns-in_err-lose_link-in-LinkGone-clause-err
returns-in_err-lose_link-in-LinkGone-clause-err c = λ past stands.
    rw c.in-LinkGone.is (on_err _ (hears_part_of_loss c.args.config.now past c.in-LinkGone.link c.args.self.now c.lose_link.new.self stands
    (sym c.is_over.ensures.kept ∙ c.if-is_over.false) c.if-not-has_link-2.ensures.kept c.in_err-lose_link-in-LinkGone.ensures.err))

pub returns-in-Clock-clause-ok : goal.returns-in-Clock-clause-ok
returns-in-Clock-clause-ok c = λ past stands.
    rw c.in-Clock.is (hears_clock c.args.config.now past c.in-Clock.now_ms c.args.self.now c.tick.new.self stands
    (sym c.is_over.ensures.kept ∙ c.if-is_over.false) c.tick.ensures)
