use Rattle.rws_cuts.proofs.LinkTurnLemmas as lemmas
use Rattle.rws_cuts.proofs.CutLemmas as cuts
use Rattle.rws_cuts.proofs.law.link_pieces_join.Goals as goal

pub returns-clause-both : goal.returns-clause-both
returns-clause-both c = lemmas.link_pieces_join

pub returns-clause-lost : goal.returns-clause-lost
returns-clause-lost c = lemmas.link_pieces_lost

pub returns-clause-cuts : goal.returns-clause-cuts
returns-clause-cuts c = cuts.link_cuts_agree
