use Rattle.std.proofs.Common.{rules}
use Rattle.rws_board.specs.Boards.{ListBoardState}
use Rattle.rws_board.specs.declared.board_fault.BoardFault.TheVariants.{Failed, OutOfMemory}
use Rattle.rws_board.specs.declared.interaction.Interaction.TheVariants.{Took}
use Rattle.rws_board.proofs.ListBoardLemmas.{at_err, planned_failure, not_taken}
use Rattle.rws_board.proofs.list_board.ListBoard.take.Goals as goal

pub returns-in_err-call-clause-planned : goal.returns-in_err-call-clause-planned
returns-in_err-call-clause-planned c =
    rw (← c.self.view_is) (planned_failure c.from_residual.result Failed _ c.from_residual.ensures.1 (c.in_err-call.ensures.planned.0 (search rules)))

pub returns-in_err-remember-clause-did : goal.returns-in_err-remember-clause-did
returns-in_err-remember-clause-did c =
    let board = c.self.inside in
    let plan = c.call.new.self in
    let old : ListBoardState = record { ahead = board.ahead.items; done = board.done.items; fails = board.plan.fails; calls = board.plan.calls; faults = board.plan.faults } in
    let new : ListBoardState = record { ahead = board.ahead.items; done = c.remember.new.done.items; fails = plan.fails; calls = plan.calls; faults = plan.faults } in
    rw (← c.self.view_is)
    (at_err c.from_residual-in_err-remember.result _ _ OutOfMemory c.from_residual-in_err-remember.ensures.1
    (not_taken old new (Took c.args.action) OutOfMemory tt c.in_err-remember.ensures.err))
