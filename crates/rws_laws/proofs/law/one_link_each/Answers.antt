use Rattle.rws_laws.proofs.OnceLemmas as lemmas
use Rattle.rws_laws.proofs.law.one_link_each.Goals as goal

pub returns : goal.returns
returns c = lemmas.one_link_each
