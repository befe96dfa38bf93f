use Rattle.rws_laws.proofs.ReadLemmas as lemmas
use Rattle.rws_laws.proofs.law.reads_see_commits.Goals as goal

pub returns : goal.returns
returns c = lemmas.reads_see_commits
