-- Where no candidate is left, a read falls back to the primary.
use Rattle.std.proofs.Common.{ℕ, true, false, cond, List, Option, Some, None, refl}
use Rattle.rws_select.specs.declared.selector.Load.{Load}
use Rattle.rws_select.specs.Choice.{HasNone}
use Rattle.rws_route.specs.declared.destination.Target.TheVariants.{Primary, NoPrimary}
use Rattle.rws_route.specs.Targets.{is_in, unless_tried, IsReadTarget}

pub falls_back : (candidates : List (Option Load)) (tried : ℕ) (primary : Option ℕ) → HasNone candidates
    → IsReadTarget candidates (unless_tried tried primary) (unless_tried tried primary)
falls_back candidates tried None none = (none, refl)
falls_back candidates tried (Some place) none =
    elim (is_in tried place) as (λ b. let to = cond b NoPrimary (Primary place) in IsReadTarget candidates to to) [ true ↦ (none, refl) | false ↦ (none, refl) ]
