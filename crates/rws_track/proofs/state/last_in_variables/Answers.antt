use Rattle.std.proofs.Common.{arith}
use Rattle.rws_msgs.proofs.FieldLemmas.{text_shorter}
use Rattle.rws_track.proofs.StateLemmas.{name_broken, value_broken, one_variable, variables_end, on_err, is_longer, is_none}
use Rattle.rws_track.proofs.state.last_in_variables.Goals as goal

pub returns-in_err-name-clause-broken : goal.returns-in_err-name-clause-broken
returns-in_err-name-clause-broken c =
    on_err _ _ (name_broken c.args.domain c.args.found c.args.bytes.now c.loop-rest.rest.now c.loop-rest.last c.loop-rest.invariant (is_longer _ _ c.is_empty.ensures c.loop-rest-test.true) c.in_err-name.ensures)

pub returns-in_err-value-clause-broken : goal.returns-in_err-value-clause-broken
returns-in_err-value-clause-broken c =
    on_err _ _ (value_broken c.args.domain c.args.found c.args.bytes.now c.loop-rest.rest.now c.loop-rest.last c.loop-rest.invariant (is_longer _ _ c.is_empty.ensures c.loop-rest-test.true) c.in_ok-name.name.now c.in_ok-name.behind.now c.in_ok-name.ensures c.in_err-value.ensures)

pub loop-rest-smaller : goal.loop-rest-smaller
loop-rest-smaller c =
    omega (arith, text_shorter _ _ _ c.in_ok-name.ensures, text_shorter _ _ _ c.in_ok-value.ensures)

pub loop-rest-preserved : goal.loop-rest-preserved
loop-rest-preserved c =
    rw (c.or-last.ensures, c.gtid_of_variable.ensures)
    (one_variable c.args.domain c.args.found c.args.bytes.now c.loop-rest.rest.now c.loop-rest.last c.loop-rest.invariant c.in_ok-name.name.now c.in_ok-name.behind.now c.in_ok-value.value.now c.in_ok-value.others.now c.in_ok-name.ensures c.in_ok-value.ensures)

pub returns-clause-read : goal.returns-clause-read
returns-clause-read c =
    variables_end c.args.domain c.args.found c.args.bytes.now c.loop-rest.rest.now c.loop-rest.last c.loop-rest.invariant (is_none _ _ c.is_empty.ensures c.loop-rest-test.false)
