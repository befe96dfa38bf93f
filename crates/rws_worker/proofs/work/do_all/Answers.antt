use Rattle.std.proofs.Common.{arith, subst}
use Rattle.rws_worker.specs.Working.{GoesSo, WithWords}
use Rattle.rws_worker.specs.declared.work.Next.{Next}
use Rattle.rws_worker.proofs.WorkLemmas.{ends_countless, is_underway}
use Rattle.rws_worker.proofs.work.do_all.Goals as goal

pub do_next-requires-clause-begun : goal.do_next-requires-clause-begun
do_next-requires-clause-begun g c κs within =
    let begun = c.requires.begun.1 in (
      c.requires.begun.0,
      record {
        start = begun.start;
        first = begun.first;
        is_new = begun.is_new;
        underway = is_underway (c.loop.invariant.0 begun.start begun.first c.requires.begun.0 begun.is_new begun.underway);
      },
    )

pub loop-init : goal.loop-init
loop-init g c = (λ start first events is u. u, omega arith)

pub loop-preserved : goal.loop-preserved
loop-preserved g c = (
  λ start first events is u.
      subst (λ (next : Next). GoesSo c.args.config.now (WithWords (g.B.Board.did start c.do_next.new.board) first c.do_next.new.words) c.do_next.new.worker events c.loop.counter next)
      c.in-Ok-Goes.field-0-is (c.in-Ok-Goes.ensures.acts start first events c.loop.counter is (c.loop.invariant.0 start first events is u)),
  let a = c.loop.invariant.1 in let b = c.do_next.ensures.counts in omega arith,
)

pub returns-in-Ok-Rests-clause-acts : goal.returns-in-Ok-Rests-clause-acts
returns-in-Ok-Rests-clause-acts g c = λ start first events is u.
    subst (λ (next : Next). GoesSo c.args.config.now (WithWords (g.B.Board.did start c.do_next.new.board) first c.do_next.new.words) c.do_next.new.worker events c.loop.counter next)
    c.in-Ok-Rests.field-0-is (c.in-Ok-Rests.ensures.acts start first events c.loop.counter is (c.loop.invariant.0 start first events is u))

pub returns-in-Ok-Spent-clause-acts : goal.returns-in-Ok-Spent-clause-acts
returns-in-Ok-Spent-clause-acts g c = λ start first events is u.
    subst (λ (next : Next). GoesSo c.args.config.now (WithWords (g.B.Board.did start c.do_next.new.board) first c.do_next.new.words) c.do_next.new.worker events c.loop.counter next)
    c.in-Ok-Spent.field-0-is (c.in-Ok-Spent.ensures.acts start first events c.loop.counter is (c.loop.invariant.0 start first events is u))

pub returns-in-Err-clause-acts : goal.returns-in-Err-clause-acts
returns-in-Err-clause-acts g c = λ start first events is u.
    c.in-Err.ensures.acts start first events c.loop.counter is (c.loop.invariant.0 start first events is u)

pub returns-clause-acts : goal.returns-clause-acts
returns-clause-acts g c = λ start first events is u.
    ends_countless (c.loop.invariant.0 start first events is u) (let h = c.loop-test.false in omega arith)
