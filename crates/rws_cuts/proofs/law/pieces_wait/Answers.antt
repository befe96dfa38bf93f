use Rattle.rws_cuts.proofs.ClientWaitLemmas as of_clients
use Rattle.rws_cuts.proofs.LinkWaitLemmas as of_links
use Rattle.rws_cuts.proofs.law.pieces_wait.Goals as goal

pub returns-clause-links : goal.returns-clause-links
returns-clause-links c = of_links.link_piece_waits

pub returns-clause-clients : goal.returns-clause-clients
returns-clause-clients c = of_clients.client_piece_waits
