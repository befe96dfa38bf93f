use Rattle.std.proofs.Common.{◌≡◌, ap, ◌∙◌}
use Rattle.rws_record.specs.Rules.{again_by, goes_if, is_link}
use Rattle.rws_session.specs.Kept.{Kept}
use Rattle.rws_session.specs.Steps.{ending_in, going}
use Rattle.rws_session.proofs.session.Session.loss.Goals as goal

pub returns : goal.returns
returns c =
    let link = c.args.link in
    let told : c.is_link.result ≡ is_link link c.args.self.now.state.told_from =
    c.is_link.ensures ∙ ap (λ (k : Kept). is_link link k.state.told_from) c.self.view_is in
    let sent : c.is_link-2.result ≡ is_link link c.args.self.now.state.sent_on =
    c.is_link-2.ensures ∙ ap (λ (k : Kept). is_link link k.state.sent_on) c.self.view_is in
    let again : c.sends_again.result ≡ again_by c.args.self.now.state.pending c.args.self.now.state.transaction.state =
    c.sends_again.ensures ∙ ap (λ (k : Kept). again_by k.state.pending k.state.transaction.state) c.self.view_is in
    let kept : c.is_link-3.result ≡ is_link link c.args.self.now.state.kept_on =
    c.is_link-3.ensures ∙ ap (λ (k : Kept). is_link link k.state.kept_on) c.self.view_is in
    let opened : c.is_link-4.result ≡ is_link link c.args.self.now.state.transaction.link =
    c.is_link-4.ensures ∙ ap (λ (k : Kept). is_link link k.state.transaction.link) c.self.view_is in
    let reason : c.not_replayable.result ≡ ending_in c.args.self.now.state =
    c.not_replayable.ensures ∙ ap (λ (k : Kept). ending_in k.state) c.self.view_is in
    rw (told, sent, again, kept, opened, reason) at (c.closing.ensures
    (is_link link (goes_if c.args.self.now.state.pending (going c.args.self.now.state))))
