-- The choice among the servers that were looked at, beside its score.
use Rattle.std.specs.Prelude.{◌≡◌, List, Option, MatchOption}
use Rattle.rws_select.specs.declared.selector.Load.{Load}
use Rattle.rws_select.specs.declared.selector.Scored.{Scored}
use Rattle.rws_select.specs.Choice.{score_of, HasNone, IsChoice}

pub record IsBestAt (seen : List (Option Load)) (best : Scored) : Type 0 where
  pub choice : IsChoice seen best.place
  pub scored : best.score ≡ score_of choice.load

abbrev pub IsBest : List (Option Load) → Option Scored → Type 0
IsBest seen best = MatchOption best (HasNone seen) (λ scored. IsBestAt seen scored)
