use Rattle.rws_session.specs.Turning.{heard}
use Rattle.rws_session.proofs.BreakLemmas.{breaks_at_once, on_err}
use Rattle.rws_session.proofs.BoundLemmas.{unheard_bounded}
use Rattle.rws_session.proofs.session.Session.turn.Goals as goal

pub returns-in_err-hear-clause-err : goal.returns-in_err-hear-clause-err
returns-in_err-hear-clause-err c = λ past stands.
    on_err _ (breaks_at_once c.args.config.now past (heard c.args.input past) c.args.self.now c.hear.new.self
    (c.in_err-hear.ensures.err past stands))

pub returns-clause-bounded : goal.returns-clause-bounded
returns-clause-bounded c = λ past stands allowed e.
    unheard_bounded c.args.config.now past (heard c.args.input past) c.args.self.now c.hear.new.self allowed stands
    (rw c.if-branch.false at (c.in_ok-hear.ensures.ok past stands))
