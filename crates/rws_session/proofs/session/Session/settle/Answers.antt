use Rattle.std.proofs.Common.{refl}
use Rattle.rws_session.proofs.BreakLemmas.{on_err, stops}
use Rattle.rws_session.proofs.TurnLemmas.{comes_to_rest, goes_nowhere, goes_on}
use Rattle.rws_session.proofs.session.Session.settle.Goals as goal

pub loop-init : goal.loop-init
loop-init c = λ past is. goes_nowhere c.args.config.now past c.args.self.now is

pub loop-preserved : goal.loop-preserved
loop-preserved c = λ past is.
    let g = c.loop.invariant past is in
    goes_on c.args.config.now past c.args.self.now c.loop.self c.step.new.self g
    (rw c.if-not-branch.false at (c.in_ok-step.ensures.ok g.reached g.is))

pub returns-then-not-branch-clause-ok : goal.returns-then-not-branch-clause-ok
returns-then-not-branch-clause-ok c = λ past is.
    let g = c.loop.invariant past is in
    rw c.is_asking.ensures (comes_to_rest c.args.config.now past c.args.self.now c.loop.self c.step.new.self g
    (rw c.if-not-branch.true at (c.in_ok-step.ensures.ok g.reached g.is)))

pub returns-in_err-step-clause-err : goal.returns-in_err-step-clause-err
returns-in_err-step-clause-err c = λ past is.
    let g = c.loop.invariant past is in
    on_err _ (stops c.args.config.now past c.args.self.now c.loop.self c.step.new.self g (c.in_err-step.ensures.err g.reached g.is))

pub returns-clause-err : goal.returns-clause-err
returns-clause-err c = λ past is.
    stops c.args.config.now past c.args.self.now c.loop.self c.loop.self (c.loop.invariant past is) refl
