use Rattle.std.proofs.Common.{arith, length-drop}
use Rattle.std.proofs.lemmas.List.{take_rest}
use Rattle.rws_msgs.proofs.FieldLemmas.{text_shorter}
use Rattle.rws_track.proofs.StateLemmas.{entry_broken, inner_broken, one_entry, no_bytes, on_err, is_cons}
use Rattle.rws_track.proofs.state.last_in_state.Goals as goal

pub returns-in_err-inner-clause-broken : goal.returns-in_err-inner-clause-broken
returns-in_err-inner-clause-broken c =
    on_err _ _ (entry_broken c.args.domain c.args.state.now c.loop-rest.rest.now c.loop-rest.last c.loop-rest.invariant _ _ (is_cons c.loop-rest.rest.now c.in-len1-up.len_at_least) c.in_err-inner.ensures)

pub returns-in_err-last-clause-broken : goal.returns-in_err-last-clause-broken
returns-in_err-last-clause-broken c =
    on_err _ _ (inner_broken c.args.domain c.args.state.now c.loop-rest.rest.now c.loop-rest.last c.loop-rest.invariant _ _ (is_cons c.loop-rest.rest.now c.in-len1-up.len_at_least) c.in_ok-inner.inner.now c.in_ok-inner.others.now c.in_ok-inner.ensures c.in_err-last.ensures.broken)

pub loop-rest-smaller : goal.loop-rest-smaller
loop-rest-smaller c =
    let shorter = rw take_rest at (text_shorter _ _ _ c.in_ok-inner.ensures) in
    omega (arith, shorter, length-drop 1 c.loop-rest.rest.now, c.in-len1-up.len_at_least)

pub loop-rest-preserved : goal.loop-rest-preserved
loop-rest-preserved c =
    let read = c.in_ok-last.ensures.read in
    rw read.2 (one_entry c.args.domain c.args.state.now c.loop-rest.rest.now c.loop-rest.last c.loop-rest.invariant _ _ (is_cons c.loop-rest.rest.now c.in-len1-up.len_at_least) c.in_ok-inner.inner.now c.in_ok-inner.others.now read.0 c.in_ok-inner.ensures read.1)

pub returns-clause-read : goal.returns-clause-read
returns-clause-read c = no_bytes c.args.domain c.args.state.now c.loop-rest.rest.now c.loop-rest.last c.in_default.len_below c.loop-rest.invariant
