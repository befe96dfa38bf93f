use Rattle.rws_causal.proofs.CommitLemmas.{commit_is}
use Rattle.rws_causal.proofs.commits.commit_of.Goals as goal

pub returns : goal.returns
returns c = commit_is c.args.domain c.args.ok.now c.gtid_of.result c.gtid_of.ensures.named c.gtid_of.ensures.whole
