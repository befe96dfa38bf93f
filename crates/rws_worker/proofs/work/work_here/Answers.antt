use Rattle.std.proofs.Common.{[], sym, ap, refl, arith}
use Rattle.rws_worker.specs.Stepping.{is_awaiting}
use Rattle.rws_worker.proofs.StepsLemmas.{bare_has_none}
use Rattle.rws_worker.proofs.work.work_here.Goals as goal

pub events-init : goal.events-init
events-init g c = (
  record {
    run = [];
    stands = c.new-worker.ensures.stands c.args.config.now;
    answered = ap is_awaiting c.new-worker.ensures.idle.bare.unasked;
    counted = refl;
    few = omega arith;
    told = refl;
    done = [];
    many = omega arith;
    parted = sym (bare_has_none c.new-worker.result c.new-worker.ensures.idle.bare);
    done_so_far = (g.met.B.Board.did_nothing c.args.board.now, refl);
  },
  c.new-worker.ensures.idle,
  omega arith,
  refl,
  refl,
)

pub returns-in-Some-clause-works : goal.returns-in-Some-clause-works
returns-in-Some-clause-works g c = c.in-Some.ensures.goes c.args.board.now c.args.words.now c.requires.words c.events.invariant.0

pub events-preserved : goal.events-preserved
events-preserved g c =
    let next = c.in_default.ensures.goes c.args.board.now c.args.words.now c.requires.words c.events.invariant.0 in
    (next.0, next.1, (let a = c.events.invariant.2 in let b = c.handle_next.ensures.counts in omega arith), refl, refl)
