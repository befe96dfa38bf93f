use Rattle.rws_board.specs.declared.interaction.Interaction.TheVariants.{Told}
use Rattle.rws_board.proofs.JoinLemmas.{then_took}
use Rattle.rws_board.proofs.list_board.ListBoardBoard.tell.Goals as goal

pub returns-clause-did : goal.returns-clause-did
returns-clause-did c = λ start before first. then_took start c.args.self.now c.hear.new.self before (Told c.args.call.now) c.hear.result c.hear.ensures.did first
