use Rattle.rws_laws.proofs.WritesLemmas as lemmas
use Rattle.rws_laws.proofs.law.writes_at_primary.Goals as goal

pub returns : goal.returns
returns c = lemmas.writes_at_primary
