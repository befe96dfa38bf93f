use Rattle.rws_board.proofs.JoinLemmas.{then_gave}
use Rattle.rws_board.proofs.list_board.ListBoardBoard.next.Goals as goal

pub returns-clause-did : goal.returns-clause-did
returns-clause-did c = λ start before first. then_gave start c.args.self.now c.give.new.self before c.give.result c.give.ensures.did first
