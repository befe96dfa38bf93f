use Rattle.rws_laws.proofs.WholeLemmas as lemmas
use Rattle.rws_laws.proofs.law.replies_are_whole.Goals as goal

pub returns : goal.returns
returns c = lemmas.whole_replies
