use Rattle.rws_laws.proofs.PinnedLemmas as lemmas
use Rattle.rws_laws.proofs.law.stays_on_its_link.Goals as goal

pub returns-clause-sends : goal.returns-clause-sends
returns-clause-sends c = lemmas.stays_on_its_link

pub returns-clause-routes : goal.returns-clause-routes
returns-clause-routes c = lemmas.pinned_takes_no_route
