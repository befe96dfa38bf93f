use Rattle.rws_record.proofs.LinkLemmas as links
use Rattle.rws_record.proofs.RecordLemmas as sessions
use Rattle.rws_record.proofs.law.records.Goals as goal

pub returns-clause-legal : goal.returns-clause-legal
returns-clause-legal c = sessions.records

pub returns-clause-apart : goal.returns-clause-apart
returns-clause-apart c = links.apart
