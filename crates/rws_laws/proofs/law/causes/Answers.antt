use Rattle.rws_laws.proofs.CausesLemmas as lemmas
use Rattle.rws_laws.proofs.law.causes.Goals as goal

pub returns-clause-records : goal.returns-clause-records
returns-clause-records c = lemmas.causes

pub returns-clause-runs : goal.returns-clause-runs
returns-clause-runs c = lemmas.causes_in_runs
