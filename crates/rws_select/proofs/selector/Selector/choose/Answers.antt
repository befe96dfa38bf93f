use Rattle.std.proofs.Common.{◌≡◌, ◌<◌, ◌≤◌, None, List, Option, length, take, sym, ◌∙◌, ap, subst, arith}
use Rattle.std.specs.Option.{option_map}
use Rattle.std.proofs.lemmas.List.{take_more, length-take-le, take_all}
use Rattle.rws_select.specs.declared.selector.Load.{Load}
use Rattle.rws_select.specs.declared.selector.Scored.{Scored}
use Rattle.rws_select.specs.Scored.{IsBest}
use Rattle.rws_select.proofs.OneChoice.{best_is}
use Rattle.rws_select.proofs.selector.Selector.choose.Goals as goal

pub loop-place-preserved : goal.loop-place-preserved
loop-place-preserved g c =
    let wide : c.loop-place.place < length c.args.candidates.now = omega arith in
    let seen : length (take c.loop-place.place c.args.candidates.now) ≡ c.loop-place.place = length-take-le c.loop-place.place c.args.candidates.now (omega arith) in
    rw (take_more c.args.candidates.now c.loop-place.place None wide) (rw c.from.ensures at (c.better-best.ensures (take c.loop-place.place c.args.candidates.now) seen c.loop-place.invariant))

pub returns-in_err-best-clause-function : goal.returns-in_err-best-clause-function
returns-in_err-best-clause-function g c =
    let all : length c.args.candidates.now ≤ c.loop-place.place = omega arith in
    let best = subst (λ (seen : List (Option Load)). IsBest seen c.loop-place.best) (take_all c.loop-place.place c.args.candidates.now all) c.loop-place.invariant in
    c.from_residual.ensures ∙ ap (option_map (λ (scored : Scored). scored.place)) (sym c.in_err-best.was) ∙ best_is c.args.candidates.now c.loop-place.best best

pub returns-clause-function : goal.returns-clause-function
returns-clause-function g c =
    let all : length c.args.candidates.now ≤ c.loop-place.place = omega arith in
    let best = subst (λ (seen : List (Option Load)). IsBest seen c.loop-place.best) (take_all c.loop-place.place c.args.candidates.now all) c.loop-place.invariant in
    ap (option_map (λ (scored : Scored). scored.place)) (sym c.in_ok-best.was) ∙ best_is c.args.candidates.now c.loop-place.best best
