use Rattle.rws_gtid.proofs.DigitLemmas.{Counted}
use Rattle.rws_gtid.proofs.parsing.value_up_to.Given as goal

abbrev pub invariant-loop-digit : goal.invariant-loop-digit
invariant-loop-digit l = Counted l.digits l.digit-index l.value l.most
