use Rattle.rws_cuts.proofs.LinkCutLemmas as lemmas
use Rattle.rws_cuts.proofs.law.pieces_may_wait.Goals as goal

pub returns-clause-links : goal.returns-clause-links
returns-clause-links c = lemmas.link_piece_may_wait

pub returns-clause-clients : goal.returns-clause-clients
returns-clause-clients c = lemmas.client_piece_may_wait
