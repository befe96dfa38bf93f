use Rattle.rws_make.proofs.MakerLemmas.{then_asked}
use Rattle.rws_make.proofs.list_maker.ListMakerBoardMaker.make.Goals as goal

pub returns-clause-did : goal.returns-clause-did
returns-clause-did c =
    λ start before first. then_asked start c.args.self.now c.put_out.new.self before c.args.place c.put_out.result c.put_out.ensures.did first
