use Rattle.std.proofs.Common.{[], ◌∷◌, ◌++◌, sym, subst, arith}
use Rattle.rws_select.specs.Scored.{IsBest, IsBestAt}
use Rattle.rws_select.proofs.Choices.{skips, stays, begins, takes}
use Rattle.rws_select.proofs.selector.Selector.better.Goals as goal

-- the state that a call of the scoring function shows
pub returns-in_default : goal.returns-in_default
returns-in_default g c = λ seen is best. subst (λ next. IsBest (seen ++ next ∷ []) c.args.best) (sym c.in_default.is) (skips c.args.best seen best)

pub returns-in_default-best : goal.returns-in_default-best
returns-in_default-best g c = λ seen is best.
    let none = subst (IsBest seen) c.in_default-best.is best in
    let found = c.requires.scores _ _ c.score-score.ensures in
    subst (λ next. IsBestAt (seen ++ next ∷ []) (record { place = c.args.place; score = c.score-score.result })) (sym c.in-Some.is) (begins seen c.args.place c.score-score.result c.in-Some.load is found none)

pub returns-then-found-least : goal.returns-then-found-least
returns-then-found-least g c = λ seen is best.
    let was = subst (IsBest seen) c.in-Some-best.is best in
    let found = c.requires.scores _ _ c.score-score.ensures in
    subst (λ next. IsBestAt (seen ++ next ∷ []) (record { place = c.args.place; score = c.score-score.result })) (sym c.in-Some.is) (takes seen c.in-Some-best.least c.args.place c.score-score.result c.in-Some.load is found was c.if-found-least.true)

pub returns-else-found-least : goal.returns-else-found-least
returns-else-found-least g c = λ seen is best.
    let was = subst (IsBest seen) c.in-Some-best.is best in
    let found = c.requires.scores _ _ c.score-score.ensures in
    subst (λ next. IsBestAt (seen ++ next ∷ []) c.in-Some-best.least) (sym c.in-Some.is) (stays seen c.in-Some-best.least c.in-Some.load was (omega (arith, found)))
