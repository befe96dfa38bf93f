use Rattle.rws_laws.proofs.CommitLemmas as lemmas
use Rattle.rws_laws.proofs.law.records_come_first.Goals as goal

pub returns-clause-next : goal.returns-clause-next
returns-clause-next c = lemmas.records_first

pub returns-clause-passed : goal.returns-clause-passed
returns-clause-passed c = lemmas.passes_behind_records
