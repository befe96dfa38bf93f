use Rattle.std.proofs.Common.{◌∙◌, sym, ap, length, refl, add_assoc}
use Rattle.rws_gtid.specs.Parsing.{gtids_of, position_in}
use Rattle.rws_gtid.proofs.EntryLemmas.{all_left, fault_stays, found_by, last_found, others_left}
use Rattle.std.proofs.lemmas.Result.{err_from_is_err_and}
use Rattle.std.proofs.Common.{Option, Ok}
use Rattle.rws_gtid.specs.declared.Gtid.{Gtid}
use Rattle.rws_gtid.proofs.parsing.first_of.Goals as goal

pub returns-then-is_empty : goal.returns-then-is_empty
unfolding gtids_of position_in
returns-then-is_empty c = let empty = sym c.is_empty.ensures ∙ c.if-is_empty.true in rw empty refl

pub loop-gtid-init : goal.loop-gtid-init
loop-gtid-init c = all_left c.args.list.now c.args.domain (sym c.is_empty.ensures ∙ c.if-is_empty.false)

pub returns-in_err-gtid : goal.returns-in_err-gtid
returns-in_err-gtid c =
    let fault = err_from_is_err_and c.from_residual.result c.from_residual.ensures.1 in
    rw (fault.1, fault.2) (sym (fault_stays c.args.list.now c.args.domain c.loop-gtid.found c.loop-gtid.at c.loop-gtid.rest.now c.cut_at_comma.result.0.now c.loop-gtid.invariant c.in_err-gtid.field-0.0 _ c.cut_at_comma.ensures (sym c.whole_gtid.ensures ∙ c.in_err-gtid.was)))

pub returns-in_default : goal.returns-in_default
returns-in_default c =
    let cuts = rw c.in_default.is at c.cut_at_comma.ensures in
    sym (last_found c.args.list.now c.args.domain c.loop-gtid.found c.loop-gtid.at c.loop-gtid.rest.now c.cut_at_comma.result.0.now c.loop-gtid.invariant c.in_ok-gtid.gtid cuts (sym c.whole_gtid.ensures ∙ c.in_ok-gtid.was) ∙ ap (λ (o : Option Gtid). Ok o) (sym (found_by c.loop-gtid.found c.then_some.result c.or-found.result c.args.domain c.in_ok-gtid.gtid c.or-found.ensures c.then_some.ensures)))

pub loop-gtid-preserved : goal.loop-gtid-preserved
loop-gtid-preserved c =
    let cuts = rw c.in-Some.is at c.cut_at_comma.ensures in
    let left = others_left c.args.list.now c.args.domain c.loop-gtid.found c.loop-gtid.at c.loop-gtid.rest.now c.cut_at_comma.result.0.now c.loop-gtid.invariant c.in_ok-gtid.gtid c.in-Some.others.now cuts (sym c.whole_gtid.ensures ∙ c.in_ok-gtid.was) in
    rw (found_by c.loop-gtid.found c.then_some.result c.or-found.result c.args.domain c.in_ok-gtid.gtid c.or-found.ensures c.then_some.ensures, ← add_assoc c.loop-gtid.at (length c.cut_at_comma.result.0.now) 1) left
