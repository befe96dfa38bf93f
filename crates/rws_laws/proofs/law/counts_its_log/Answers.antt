use Rattle.rws_laws.proofs.CountsLemmas as lemmas
use Rattle.rws_laws.proofs.law.counts_its_log.Goals as goal

pub returns : goal.returns
returns c = lemmas.counts_its_log
