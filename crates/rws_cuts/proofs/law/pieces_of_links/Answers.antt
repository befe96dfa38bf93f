use Rattle.rws_cuts.proofs.LinkCutLemmas as lemmas
use Rattle.rws_cuts.proofs.law.pieces_of_links.Goals as goal

pub returns-clause-links : goal.returns-clause-links
returns-clause-links c = lemmas.pieces_of_links

pub returns-clause-clients : goal.returns-clause-clients
returns-clause-clients c = lemmas.pieces_of_clients
