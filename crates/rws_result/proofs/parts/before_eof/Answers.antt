use Rattle.std.proofs.Common.{◌≡◌, true, false, sym}
use Rattle.rws_result.specs.Cells.{is_eof}
use Rattle.rws_result.proofs.PartLemmas.{before_at}
use Rattle.rws_result.proofs.parts.before_eof.Goals as goal

pub returns-then-is_eof : goal.returns-then-is_eof
returns-then-is_eof c =
    let ends : is_eof c.in_ok-last.last.now ≡ true = cc in
    sym (before_at _ c.in_ok-last.rows.now c.in_ok-last.last.now true c.in_ok-last.ensures.cases.0 ends)

pub returns-else-is_eof : goal.returns-else-is_eof
returns-else-is_eof c =
    let goes_on : is_eof c.in_ok-last.last.now ≡ false = cc in
    sym (before_at _ c.in_ok-last.rows.now c.in_ok-last.last.now false c.in_ok-last.ensures.cases.0 goes_on)
