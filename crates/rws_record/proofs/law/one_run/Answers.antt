use Rattle.rws_record.proofs.OneRunLemmas as lemmas
use Rattle.rws_record.proofs.law.one_run.Goals as goal

pub returns-clause-run : goal.returns-clause-run
returns-clause-run c = lemmas.one_run

pub returns-clause-outcome : goal.returns-clause-outcome
returns-clause-outcome c = lemmas.one_outcome
