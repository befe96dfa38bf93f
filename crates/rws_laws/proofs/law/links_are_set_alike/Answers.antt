use Rattle.rws_laws.proofs.SharedLemmas as lemmas
use Rattle.rws_laws.proofs.law.links_are_set_alike.Goals as goal

pub returns-clause-asked : goal.returns-clause-asked
returns-clause-asked c = lemmas.sets_before_it_asks

pub returns-clause-front : goal.returns-clause-front
returns-clause-front c = lemmas.sets_in_order

pub returns-clause-left : goal.returns-clause-left
returns-clause-left c = lemmas.only_prepares_leave

pub returns-clause-played : goal.returns-clause-played
returns-clause-played c = lemmas.plays_in_order
