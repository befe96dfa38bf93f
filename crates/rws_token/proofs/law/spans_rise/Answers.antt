use Rattle.rws_token.proofs.SpanLemmas.{spans_rise}
use Rattle.rws_token.proofs.law.spans_rise.Goals as goal

pub returns : goal.returns
returns c = spans_rise
