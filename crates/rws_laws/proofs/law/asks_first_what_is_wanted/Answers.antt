use Rattle.rws_laws.proofs.OnceAskedLemmas.{one_question_a_route}
use Rattle.rws_laws.proofs.ReadLemmas as lemmas
use Rattle.rws_laws.proofs.law.asks_first_what_is_wanted.Goals as goal

pub returns-clause-waits : goal.returns-clause-waits
returns-clause-waits c = lemmas.waits_for_what_is_wanted

pub returns-clause-probes : goal.returns-clause-probes
returns-clause-probes c = lemmas.probes_for_what_is_wanted

pub returns-clause-once : goal.returns-clause-once
returns-clause-once c = one_question_a_route
