use Rattle.std.proofs.Common.{sym}
use Rattle.std.proofs.lemmas.Str.{IsUtf8-from_ascii}
use Rattle.rws_monitor.proofs.Numbers.{digits_ascii, number_of-parse}
use Rattle.rws_monitor.proofs.reading.number.Goals as goal

-- digits are text
pub returns-in-Err : goal.returns-in-Err
returns-in-Err c =
    let text = c.args.text.now in
    absurd (c.in-Err.ensures.cases.0 (IsUtf8-from_ascii text (digits_ascii text (sym c.if-not-is_digits.ensures))))

pub returns-in-Ok : goal.returns-in-Ok
returns-in-Ok c =
    let parsed = rw c.in-Ok.ensures.cases.0 at c.parse.ensures.value.0 in
    rw c.ok.ensures.value (number_of-parse c.args.text.now c.parse.result (sym c.if-not-is_digits.ensures) parsed)
