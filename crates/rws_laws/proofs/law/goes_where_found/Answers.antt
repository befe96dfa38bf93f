use Rattle.rws_laws.proofs.AimedLemmas as lemmas
use Rattle.rws_laws.proofs.law.goes_where_found.Goals as goal

pub returns : goal.returns
returns c = lemmas.goes_where_found
