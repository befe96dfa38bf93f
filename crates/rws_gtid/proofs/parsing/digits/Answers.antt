use Rattle.rws_gtid.proofs.DigitLemmas.{digits_in_run}
use Rattle.rws_gtid.proofs.parsing.digits.Goals as goal

pub returns-in_default-clause-digits : goal.returns-in_default-clause-digits
returns-in_default-clause-digits c = rw c.digit_run.ensures (digits_in_run c.args.bytes.now)
