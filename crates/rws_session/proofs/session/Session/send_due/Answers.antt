use Rattle.std.proofs.Common.{ap, ◌∙◌, Some}
use Rattle.rws_links.specs.declared.finding.DueKind.{DueKind}
use Rattle.rws_session.proofs.TryLemmas.{prepared_or_not}
use Rattle.rws_session.proofs.session.Session.send_due.Goals as goal

pub returns-in-Preamble-clause-ok : goal.returns-in-Preamble-clause-ok
returns-in-Preamble-clause-ok c = λ past is o first.
    prepared_or_not c.args.config.now past c.args.due.link c.args.due.entry c.args.self.now c.send_preamble.new.self c.send_preamble.result is o
    (first ∙ ap (λ (what : DueKind). Some (record { link = c.args.due.link; what = what; entry = c.args.due.entry })) c.in-Preamble.is)
    c.send_preamble.ensures.sends (c.send_preamble.ensures.links past)

pub returns-in-Entry-clause-ok : goal.returns-in-Entry-clause-ok
returns-in-Entry-clause-ok c = λ past is o first.
    c.play.ensures.ok c.args.config.now past is o
    (first ∙ ap (λ (what : DueKind). Some (record { link = c.args.due.link; what = what; entry = c.args.due.entry })) c.in-Entry.is)

pub returns-in-Command-clause-ok : goal.returns-in-Command-clause-ok
returns-in-Command-clause-ok c = λ past is o first.
    c.ask_on.ensures.ok past is o
    (first ∙ ap (λ (what : DueKind). Some (record { link = c.args.due.link; what = what; entry = c.args.due.entry })) c.in-Command.is)
