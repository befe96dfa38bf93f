use Rattle.rws_laws.proofs.BarredLemmas as lemmas
use Rattle.rws_laws.proofs.law.no_change_in_read_only.Goals as goal

pub returns : goal.returns
returns c = lemmas.no_change_in_read_only
