use Rattle.rws_cuts.proofs.AgreementLemmas as lemmas
use Rattle.rws_cuts.proofs.law.agreement_lasts.Goals as goal

pub returns-clause-next : goal.returns-clause-next
returns-clause-next c = lemmas.next_same

pub returns-clause-found : goal.returns-clause-found
returns-clause-found c = lemmas.found_same

pub returns-clause-items : goal.returns-clause-items
returns-clause-items c = lemmas.agreement_lasts
