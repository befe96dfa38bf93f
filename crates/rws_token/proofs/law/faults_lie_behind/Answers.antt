use Rattle.rws_token.proofs.SpanLemmas.{faults_lie_behind}
use Rattle.rws_token.proofs.law.faults_lie_behind.Goals as goal

pub returns : goal.returns
returns c = faults_lie_behind
