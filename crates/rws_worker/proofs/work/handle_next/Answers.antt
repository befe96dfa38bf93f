use Rattle.std.proofs.Common.{◌≡◌, ◌+◌, ◌<◌, ◌^◌, Bool, false, Ok, sym, ◌∙◌, subst, arith}
use Rattle.rws_board.specs.Boards.Standing.{NextFailed}
use Rattle.rws_board.specs.declared.board_fault.BoardFault.{BoardFault}
use Rattle.rws_worker.specs.Working.{DoesAll, WithWords, Works, end_by, is_end}
use Rattle.rws_worker.specs.Working.Works.{ended, unread, too_many, starved_reading}
use Rattle.rws_worker.specs.Standing.{interactions_of}
use Rattle.rws_worker.proofs.WorkLemmas.{all_done, at_end, ends_unbegun, goes_given, not_at_end, resting, unbegun_given, underway_given, words_at_event}
use Rattle.rws_worker.proofs.work.handle_next.Goals as goal

pub do_all-requires-clause-begun : goal.do_all-requires-clause-begun
do_all-requires-clause-begun g c κs within =
    let begun = c.requires.begun in
    let u = begun.underway in
    let d = all_done u c.requires.idle in
    let no_end : is_end c.in-Ok.event ≡ false = sym c.is_end.ensures ∙ c.if-is_end.false in
    let more : c.args.events.now + 1 < 2 ^ 32 = (let f = u.few in let h = c.if-events-eq4294967295.false in omega arith) in (
      c.args.events.now + 1,
      record {
        start = begun.start;
        first = begun.first;
        is_new = begun.is_new;
        underway = underway_given u c.in-Ok.event no_end c.give.new.self
            (goes_given c.args.config.now u.run c.in-Ok.event c.args.worker.now c.give.new.self (c.give.ensures.advances u.run u.stands) (sym c.is_spent.ensures ∙ c.if-is_spent.false)) more
            (not_at_end (WithWords (g.B.Board.did begun.start c.next.new.self) begun.first c.args.words.now) (interactions_of u.run) c.in-Ok.event no_end
            (c.in-Ok.ensures.did begun.start (interactions_of u.run) d.0, words_at_event begun.first c.args.words.now (interactions_of u.run) c.in-Ok.event d.1));
      },
    )

pub returns-in-Err-Failed-clause-goes : goal.returns-in-Err-Failed-clause-goes
returns-in-Err-Failed-clause-goes g c = λ start first is u.
    let d = all_done u c.requires.idle in
    unread u.run (resting u c.requires.idle) (
      subst (λ (fault : BoardFault). g.B.Board.did start c.next.new.self (interactions_of u.run) (NextFailed fault)) c.in-Err-Failed.field-0-is
          (c.in-Err-Failed.ensures.did start (interactions_of u.run) d.0),
      d.1,
    )

pub returns-in-Err-OutOfMemory-clause-goes : goal.returns-in-Err-OutOfMemory-clause-goes
returns-in-Err-OutOfMemory-clause-goes g c = λ start first is u.
    let d = all_done u c.requires.idle in
    starved_reading u.run (resting u c.requires.idle) (
      subst (λ (fault : BoardFault). g.B.Board.did start c.next.new.self (interactions_of u.run) (NextFailed fault)) c.in-Err-OutOfMemory.field-0-is
          (c.in-Err-OutOfMemory.ensures.did start (interactions_of u.run) d.0),
      d.1,
    )

pub returns-then-is_end-clause-goes : goal.returns-then-is_end-clause-goes
returns-then-is_end-clause-goes g c = λ start first is u.
    let d = all_done u c.requires.idle in
    ended u.run (resting u c.requires.idle)
    (at_end (WithWords (g.B.Board.did start c.next.new.self) first c.args.words.now) (interactions_of u.run) c.in-Ok.event
    (sym c.is_end.ensures ∙ c.if-is_end.true)
    (c.in-Ok.ensures.did start (interactions_of u.run) d.0, words_at_event first c.args.words.now (interactions_of u.run) c.in-Ok.event d.1))

pub returns-then-events-eq4294967295-clause-goes : goal.returns-then-events-eq4294967295-clause-goes
returns-then-events-eq4294967295-clause-goes g c = λ start first is u.
    let d = all_done u c.requires.idle in
    let no_end : is_end c.in-Ok.event ≡ false = sym c.is_end.ensures ∙ c.if-is_end.false in
    too_many u.run c.in-Ok.event (resting u c.requires.idle) (let n = u.counted in let h = c.if-events-eq4294967295.true in omega arith)
    (not_at_end (WithWords (g.B.Board.did start c.next.new.self) first c.args.words.now) (interactions_of u.run) c.in-Ok.event no_end
    (c.in-Ok.ensures.did start (interactions_of u.run) d.0, words_at_event first c.args.words.now (interactions_of u.run) c.in-Ok.event d.1))

pub returns-then-is_spent-clause-goes : goal.returns-then-is_spent-clause-goes
returns-then-is_spent-clause-goes g c = λ start first is u.
    let d = all_done u c.requires.idle in
    let no_end : is_end c.in-Ok.event ≡ false = sym c.is_end.ensures ∙ c.if-is_end.false in
    let more : c.args.events.now + 1 < 2 ^ 32 = (let f = u.few in let h = c.if-events-eq4294967295.false in omega arith) in
    ends_unbegun {now_did = WithWords (g.B.Board.did start c.next.new.self) first c.args.words.now} u c.requires.idle c.in-Ok.event no_end c.give.new.self
    (unbegun_given c.args.config.now u.run c.in-Ok.event c.args.worker.now c.give.new.self (c.give.ensures.advances u.run u.stands) (sym c.is_spent.ensures ∙ c.if-is_spent.true)) more
    (not_at_end (WithWords (g.B.Board.did start c.next.new.self) first c.args.words.now) (interactions_of u.run) c.in-Ok.event no_end
    (c.in-Ok.ensures.did start (interactions_of u.run) d.0, words_at_event first c.args.words.now (interactions_of u.run) c.in-Ok.event d.1))

pub returns-in-Ok-true-clause-goes : goal.returns-in-Ok-true-clause-goes
returns-in-Ok-true-clause-goes g c = λ start first is u.
    let d = all_done u c.requires.idle in
    let no_end : is_end c.in-Ok.event ≡ false = sym c.is_end.ensures ∙ c.if-is_end.false in
    let more : c.args.events.now + 1 < 2 ^ 32 = (let f = u.few in let h = c.if-events-eq4294967295.false in omega arith) in
    subst (λ (all : Bool). DoesAll c.args.config.now (WithWords (g.B.Board.did start c.do_all.new.board) first c.do_all.new.words) c.do_all.new.worker
    (c.args.events.now + 1) (Ok all)) c.in-Ok-true.field-0-test
    (c.in-Ok-true.ensures.acts start first (c.args.events.now + 1) is
    (underway_given u c.in-Ok.event no_end c.give.new.self
    (goes_given c.args.config.now u.run c.in-Ok.event c.args.worker.now c.give.new.self (c.give.ensures.advances u.run u.stands) (sym c.is_spent.ensures ∙ c.if-is_spent.false)) more
    (not_at_end (WithWords (g.B.Board.did start c.next.new.self) first c.args.words.now) (interactions_of u.run) c.in-Ok.event no_end
    (c.in-Ok.ensures.did start (interactions_of u.run) d.0, words_at_event first c.args.words.now (interactions_of u.run) c.in-Ok.event d.1))))

pub returns-in-Ok-false-clause-goes : goal.returns-in-Ok-false-clause-goes
returns-in-Ok-false-clause-goes g c = λ start first is u.
    let d = all_done u c.requires.idle in
    let no_end : is_end c.in-Ok.event ≡ false = sym c.is_end.ensures ∙ c.if-is_end.false in
    let more : c.args.events.now + 1 < 2 ^ 32 = (let f = u.few in let h = c.if-events-eq4294967295.false in omega arith) in
    subst (λ (all : Bool). DoesAll c.args.config.now (WithWords (g.B.Board.did start c.do_all.new.board) first c.do_all.new.words) c.do_all.new.worker
    (c.args.events.now + 1) (Ok all)) c.in-Ok-false.field-0-test
    (c.in-Ok-false.ensures.acts start first (c.args.events.now + 1) is
    (underway_given u c.in-Ok.event no_end c.give.new.self
    (goes_given c.args.config.now u.run c.in-Ok.event c.args.worker.now c.give.new.self (c.give.ensures.advances u.run u.stands) (sym c.is_spent.ensures ∙ c.if-is_spent.false)) more
    (not_at_end (WithWords (g.B.Board.did start c.next.new.self) first c.args.words.now) (interactions_of u.run) c.in-Ok.event no_end
    (c.in-Ok.ensures.did start (interactions_of u.run) d.0, words_at_event first c.args.words.now (interactions_of u.run) c.in-Ok.event d.1))))

pub returns-in-Err-Failed-do_all-clause-goes : goal.returns-in-Err-Failed-do_all-clause-goes
returns-in-Err-Failed-do_all-clause-goes g c = λ start first is u.
    let d = all_done u c.requires.idle in
    let no_end : is_end c.in-Ok.event ≡ false = sym c.is_end.ensures ∙ c.if-is_end.false in
    let more : c.args.events.now + 1 < 2 ^ 32 = (let f = u.few in let h = c.if-events-eq4294967295.false in omega arith) in
    subst (λ (fault : BoardFault). Works c.args.config.now (WithWords (g.B.Board.did start c.do_all.new.board) first c.do_all.new.words) (end_by fault))
    c.in-Err-Failed-do_all.field-0-is
    (c.in-Err-Failed-do_all.ensures.acts start first (c.args.events.now + 1) is
    (underway_given u c.in-Ok.event no_end c.give.new.self
    (goes_given c.args.config.now u.run c.in-Ok.event c.args.worker.now c.give.new.self (c.give.ensures.advances u.run u.stands) (sym c.is_spent.ensures ∙ c.if-is_spent.false)) more
    (not_at_end (WithWords (g.B.Board.did start c.next.new.self) first c.args.words.now) (interactions_of u.run) c.in-Ok.event no_end
    (c.in-Ok.ensures.did start (interactions_of u.run) d.0, words_at_event first c.args.words.now (interactions_of u.run) c.in-Ok.event d.1))))

pub returns-in-Err-OutOfMemory-do_all-clause-goes : goal.returns-in-Err-OutOfMemory-do_all-clause-goes
returns-in-Err-OutOfMemory-do_all-clause-goes g c = λ start first is u.
    let d = all_done u c.requires.idle in
    let no_end : is_end c.in-Ok.event ≡ false = sym c.is_end.ensures ∙ c.if-is_end.false in
    let more : c.args.events.now + 1 < 2 ^ 32 = (let f = u.few in let h = c.if-events-eq4294967295.false in omega arith) in
    subst (λ (fault : BoardFault). Works c.args.config.now (WithWords (g.B.Board.did start c.do_all.new.board) first c.do_all.new.words) (end_by fault))
    c.in-Err-OutOfMemory-do_all.field-0-is
    (c.in-Err-OutOfMemory-do_all.ensures.acts start first (c.args.events.now + 1) is
    (underway_given u c.in-Ok.event no_end c.give.new.self
    (goes_given c.args.config.now u.run c.in-Ok.event c.args.worker.now c.give.new.self (c.give.ensures.advances u.run u.stands) (sym c.is_spent.ensures ∙ c.if-is_spent.false)) more
    (not_at_end (WithWords (g.B.Board.did start c.next.new.self) first c.args.words.now) (interactions_of u.run) c.in-Ok.event no_end
    (c.in-Ok.ensures.did start (interactions_of u.run) d.0, words_at_event first c.args.words.now (interactions_of u.run) c.in-Ok.event d.1))))
