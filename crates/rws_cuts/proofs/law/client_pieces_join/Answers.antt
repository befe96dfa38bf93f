use Rattle.rws_cuts.proofs.ClientLemmas as lemmas
use Rattle.rws_cuts.proofs.CutLemmas as cuts
use Rattle.rws_cuts.proofs.PartingLemmas as parting
use Rattle.rws_cuts.proofs.law.client_pieces_join.Goals as goal

pub returns-clause-both : goal.returns-clause-both
returns-clause-both c = lemmas.client_pieces_join

pub returns-clause-parts : goal.returns-clause-parts
returns-clause-parts c = parting.client_pieces_part

pub returns-clause-over : goal.returns-clause-over
returns-clause-over c = lemmas.client_pieces_end

pub returns-clause-cuts : goal.returns-clause-cuts
returns-clause-cuts c = cuts.client_cuts_agree
