use Rattle.std.proofs.Common.{sym, subst, refl}
use Rattle.rws_board.specs.declared.action.Action.TheVariants.{ToClient}
use Rattle.rws_board.specs.declared.interaction.Interaction.TheVariants.{Told}
use Rattle.rws_worker.specs.Stepping.{is_route}
use Rattle.rws_worker.specs.Working.{GoesSo, WithWords}
use Rattle.rws_worker.specs.declared.step.Step.TheVariants.{Idle, Act, Call, Broken, Spent}
use Rattle.rws_worker.specs.declared.work.Next.{Next}
use Rattle.rws_worker.proofs.WorkLemmas.{acts_so, can_take, ends_failing, ends_spent, underway_called, underway_idle, words_at_call}
use Rattle.rws_worker.proofs.work.do_next.Goals as goal

pub call_out-requires : goal.call_out-requires
call_out-requires g c =
    let begun = c.requires.begun.1 in
    let u = begun.underway in
    record { can = can_take begun c.in-Call.call (c.in-Call.ensures.can u.run u.done u.stands u.answered c.requires.allowed u.parted) }

pub returns-in-Idle-clause-acts : goal.returns-in-Idle-clause-acts
returns-in-Idle-clause-acts g c = λ start first events things is u.
    let s = c.in-Idle.ensures.steps u.run u.stands u.answered in
    (underway_idle u Idle c.step.new.self s.0 {now_did = WithWords (g.B.Board.did start c.args.board.now) first c.args.words.now} s.2 refl u.done_so_far, s.1)

pub returns-in-Spent-clause-acts : goal.returns-in-Spent-clause-acts
returns-in-Spent-clause-acts g c = λ start first events things is u.
    let s = c.in-Spent.ensures.steps u.run u.stands u.answered in
    ends_spent u Spent c.step.new.self s.0 {now_did = WithWords (g.B.Board.did start c.args.board.now) first c.args.words.now} s.1 refl u.done_so_far

pub returns-in-Act-clause-acts : goal.returns-in-Act-clause-acts
returns-in-Act-clause-acts g c = λ start first events things is u.
    let s = c.in-Act.ensures.steps u.run u.stands u.answered in
    acts_so u (Act c.in-Act.action) c.step.new.self s.0 c.in-Act.action refl first c.args.words.now (g.B.Board.did start c.act.new.board)
    s.2 u.done_so_far.1 c.act.result (c.act.ensures.did start u.done u.done_so_far.0)

pub returns-in-Broken-clause-acts : goal.returns-in-Broken-clause-acts
returns-in-Broken-clause-acts g c = λ start first events things is u.
    let s = c.in-Broken.ensures.steps u.run u.stands u.answered in
    acts_so u (Broken c.in-Broken.session c.in-Broken.farewell) c.step.new.self s.0 (ToClient c.in-Broken.session c.in-Broken.farewell) refl
    first c.args.words.now (g.B.Board.did start c.act-in-Broken.new.board)
    s.2 u.done_so_far.1 c.act-in-Broken.result (c.act-in-Broken.ensures.did start u.done u.done_so_far.0)

pub returns-in-Ok-clause-acts : goal.returns-in-Ok-clause-acts
returns-in-Ok-clause-acts g c = λ start first events things is u.
    let s = c.in-Call.ensures.steps u.run u.stands u.answered in
    let d = c.in-Ok.ensures.did start u.done u.done_so_far.0 in
    subst (λ (n : Next). GoesSo c.args.config.now (WithWords (g.B.Board.did start c.call_out.new.board) first c.call_out.new.words) c.answer.new.self events things n)
    (sym d.1)
    (underway_called u c.in-Call.call c.step.new.self s.0 c.answer.new.self first c.call_out.new.words (g.B.Board.did start c.call_out.new.board)
    (is_route (Call c.in-Call.call)) s.2 is c.answer.ensures.advances c.answer.ensures.none d.0
    (words_at_call first c.args.words.now c.call_out.new.words u.done c.in-Call.call u.done_so_far.1 c.call_out.ensures.step))

pub returns-in-Err-clause-acts : goal.returns-in-Err-clause-acts
returns-in-Err-clause-acts g c = λ start first events things is u.
    let s = c.in-Call.ensures.steps u.run u.stands u.answered in
    ends_failing u (Call c.in-Call.call) c.step.new.self s.0 (Told c.in-Call.call) refl
    {now_did = WithWords (g.B.Board.did start c.call_out.new.board) first c.call_out.new.words} c.in-Err.fault (
      c.in-Err.ensures.did start u.done u.done_so_far.0,
      words_at_call first c.args.words.now c.call_out.new.words u.done c.in-Call.call u.done_so_far.1 c.call_out.ensures.step,
    )
