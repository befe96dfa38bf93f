use Rattle.std.proofs.Common.{sym, ◌∙◌}
use Rattle.rws_gtid.proofs.DigitLemmas.{too_big}
use Rattle.rws_gtid.proofs.parsing.value_up_to.Goals as goal

pub returns-in_err-value : goal.returns-in_err-value
returns-in_err-value c =
    c.from_residual.ensures ∙ sym (too_big c.args.digits.now c.loop-digit.digit-index c.loop-digit.value c.args.most c.loop-digit.invariant c.loop-digit-test.true (sym c.with_digit.ensures ∙ c.in_err-value.was))
