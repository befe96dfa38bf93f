use Rattle.rws_laws.proofs.HiddenLemmas as lemmas
use Rattle.rws_laws.proofs.law.nothing_behind_hidden.Goals as goal

pub returns : goal.returns
returns c = lemmas.nothing_behind_hidden
