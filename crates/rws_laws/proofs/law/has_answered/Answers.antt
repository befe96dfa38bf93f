use Rattle.rws_laws.proofs.AnswersLemmas as lemmas
use Rattle.rws_laws.proofs.law.has_answered.Goals as goal

pub returns-clause-records : goal.returns-clause-records
returns-clause-records c = lemmas.answered

pub returns-clause-runs : goal.returns-clause-runs
returns-clause-runs c = lemmas.answered_in_runs
