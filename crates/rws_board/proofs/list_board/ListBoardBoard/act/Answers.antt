use Rattle.rws_board.specs.declared.interaction.Interaction.TheVariants.{Took}
use Rattle.rws_board.proofs.JoinLemmas.{then_took}
use Rattle.rws_board.proofs.list_board.ListBoardBoard.act.Goals as goal

pub returns-clause-did : goal.returns-clause-did
returns-clause-did c = λ start before first. then_took start c.args.self.now c.take.new.self before (Took c.args.action) c.take.result c.take.ensures.did first
