use Rattle.std.specs.Prelude.{[], ◌∷◌}
use Rattle.rws_make.specs.Makers.Making.{TookBack}
use Rattle.rws_make.proofs.MakerLemmas.{maker_did_more}
use Rattle.rws_make.proofs.list_maker.ListMakerBoardMaker.take_back.Goals as goal

pub returns-clause-did : goal.returns-clause-did
returns-clause-did c =
    λ start before first. maker_did_more start c.args.self.now c.put_away.new.self before (TookBack c.args.board ∷ []) first c.put_away.ensures.did
