use Rattle.std.proofs.Common.{sym}
use Rattle.std.proofs.lemmas.Str.{IsUtf8-from_ascii}
use Rattle.rws_trace.proofs.Numbers.{is_number-ascii, number_within-parse}
use Rattle.rws_trace.proofs.number.read_u64.Goals as goal

-- digits are text
pub returns-in-Err : goal.returns-in-Err
returns-in-Err c =
    let word = c.args.word.now in
    absurd (c.in-Err.ensures.cases.0 (IsUtf8-from_ascii word (is_number-ascii word (sym c.if-not-is_number.ensures))))

pub returns-in-Ok : goal.returns-in-Ok
returns-in-Ok c =
    let parsed = rw c.in-Ok.ensures.cases.0 at c.parse.ensures.value.0 in
    rw c.ok.ensures.value (number_within-parse c.args.word.now c.parse.result (sym c.if-not-is_number.ensures) parsed)
