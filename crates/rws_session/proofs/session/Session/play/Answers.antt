use Rattle.std.proofs.Common.{refl, sym, ◌∙◌}
use Rattle.rws_links.specs.declared.finding.DueKind.TheVariants.{Entry as AnEntry}
use Rattle.rws_session.proofs.TryLemmas.{close_before_entry, closed_or_not, played_nothing, played_or_not}
use Rattle.rws_session.proofs.session.Session.play.Goals as goal

pub returns-then-not-has_unplayed-clause-ok : goal.returns-then-not-has_unplayed-clause-ok
returns-then-not-has_unplayed-clause-ok c = λ config past is o first.
    (played_nothing config past c.args.self.now c.args.link c.args.serial is first (sym c.has_unplayed.ensures ∙ c.if-not-has_unplayed.true), refl)

pub returns-in-Some-clause-ok : goal.returns-in-Some-clause-ok
returns-in-Some-clause-ok c = λ config past is o first.
    closed_or_not config past c.args.link c.args.serial c.in-Some.id AnEntry c.args.self.now c.take_stale.new.self c.send_close.new.self
    c.send_close.result is o first refl
    (close_before_entry config past c.args.self.now c.args.link c.args.serial c.in-Some.id is (sym c.has_unplayed.ensures ∙ c.if-not-has_unplayed.false)
    (sym c.take_stale.ensures.result ∙ c.in-Some.is))
    c.take_stale.ensures.rest c.send_close.ensures.sends (c.send_close.ensures.links past)

pub returns-in-None-clause-ok : goal.returns-in-None-clause-ok
returns-in-None-clause-ok c = λ config past is o first.
    let same = c.take_stale.ensures.none c.in-None.is in
    played_or_not config past c.args.link c.args.serial c.args.self.now c.send_entry.new.self c.send_entry.result is o first
    (sym c.take_stale.ensures.result ∙ c.in-None.is) (rw same at c.send_entry.ensures.sends) (rw same at (c.send_entry.ensures.links past))
