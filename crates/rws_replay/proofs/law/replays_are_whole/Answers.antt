use Rattle.rws_replay.proofs.RunLemmas.{law}
use Rattle.rws_replay.proofs.law.replays_are_whole.Goals as goal

pub returns : goal.returns
returns c = law
