use Rattle.std.proofs.lemmas.Result.{err_from_is_err_and}
use Rattle.rws_msgs.specs.PrepareOkLayout.{prepare_ok_at}
use Rattle.rws_msgs.proofs.FieldLemmas.{ended_ok, ended_err}
use Rattle.rws_msgs.proofs.prepare_ok.PrepareOk.decode.Goals as goal

pub returns-in_err-end : goal.returns-in_err-end
unfolding prepare_ok_at
returns-in_err-end c =
    let p = err_from_is_err_and c.from_residual-in_err-end.result c.from_residual-in_err-end.ensures.1 in
    rw (p.1, p.2, c.in_ok-rest.ensures, c.in_ok-id.ensures, c.in_ok-columns.ensures, c.in_ok-parameters.ensures, c.in_ok-rest-2.ensures, c.in_ok-warnings.ensures)
    (ended_err _ c.in_ok-warnings.rest.now c.in_err-end.field-0.0 c.in_err-end.ensures)

pub returns : goal.returns
unfolding prepare_ok_at
returns c =
    rw (c.in_ok-rest.ensures, c.in_ok-id.ensures, c.in_ok-columns.ensures, c.in_ok-parameters.ensures, c.in_ok-rest-2.ensures, c.in_ok-warnings.ensures)
    (ended_ok _ c.in_ok-warnings.rest.now c.in_ok-end.ensures)
