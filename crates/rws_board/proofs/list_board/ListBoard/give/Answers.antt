use Rattle.std.proofs.Common.{rules}
use Rattle.rws_board.specs.Boards.{ListBoardState}
use Rattle.rws_board.specs.declared.board_fault.BoardFault.TheVariants.{Failed, OutOfMemory}
use Rattle.rws_board.proofs.ListBoardLemmas.{at_err, planned_failure, not_given}
use Rattle.rws_board.proofs.list_board.ListBoard.give.Goals as goal

pub returns-in_err-call-clause-planned : goal.returns-in_err-call-clause-planned
returns-in_err-call-clause-planned c =
    rw (← c.self.view_is) (planned_failure c.from_residual.result Failed _ c.from_residual.ensures.1 (c.in_err-call.ensures.planned.0 (search rules)))

pub returns-in_err-note-in-Some-clause-did : goal.returns-in_err-note-in-Some-clause-did
returns-in_err-note-in-Some-clause-did c =
    let board = c.self.inside in
    let plan = c.call.new.self in
    let old : ListBoardState = record { ahead = board.ahead.items; done = board.done.items; fails = board.plan.fails; calls = board.plan.calls; faults = board.plan.faults } in
    let new : ListBoardState = record { ahead = c.pop_front.new.self.items; done = c.note.new.done.items; fails = plan.fails; calls = plan.calls; faults = plan.faults } in
    rw (← c.self.view_is)
    (at_err c.from_residual-in_err-note-in-Some.result _ _ OutOfMemory c.from_residual-in_err-note-in-Some.ensures.1
    (not_given old new OutOfMemory c.in_err-note-in-Some.ensures.err))
