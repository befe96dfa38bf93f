use Rattle.std.proofs.Common.{◌≡◌, ap, ◌∙◌}
use Rattle.rws_session.specs.Kept.{Kept}
use Rattle.rws_session.specs.Steps.{transaction_behind}
use Rattle.rws_session.proofs.TryLemmas.{passed_last}
use Rattle.rws_session.proofs.session.Session.pass_last.Goals as goal

pub returns-clause-ok : goal.returns-clause-ok
returns-clause-ok c =
    let link = c.args.link in
    let moved : c.answered_by-transaction.result ≡ transaction_behind link c.args.ending.outcome c.args.self.now.state =
    c.answered_by-transaction.ensures ∙ ap (λ (k : Kept). transaction_behind link c.args.ending.outcome k.state) c.self.view_is in
    passed_last c.args.self.now c.answer_pending.new.self c.note.new.self c.tell.new.self c.end_reply.new.self c.args.number link c.in_ok-next.next
    c.args.payload.now c.args.ending c.answered_by-transaction.result c.args.recording moved c.in_ok-answer_pending.ensures.ok
    c.in_ok-note.ensures.ok c.in_ok-next.ensures.told c.in_ok-next.ensures.next c.end_reply.ensures
