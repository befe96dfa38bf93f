use Rattle.rws_wire.proofs.PayloadLemmas.{first_payload-spelling}
use Rattle.rws_wire.proofs.framing.frame.Goals as goal

pub returns-then-is_err-clause-read_back : goal.returns-then-is_err-clause-read_back
returns-then-is_err-clause-read_back c = λ limit rest within. first_payload-spelling limit c.args.first c.args.payload.now rest within

pub returns-else-is_err-clause-read_back : goal.returns-else-is_err-clause-read_back
returns-else-is_err-clause-read_back c = λ limit rest within. first_payload-spelling limit c.args.first c.args.payload.now rest within
