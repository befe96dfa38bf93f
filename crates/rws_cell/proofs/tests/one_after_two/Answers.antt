use Rattle.std.proofs.Common.{[], ◌∷◌, sym, subst}
use Rattle.rws_pool.specs.declared.events.PoolEvent.TheVariants.{Route, Observe}
use Rattle.rws_cell.specs.declared.view.View.{View}
use Rattle.rws_cell.specs.Views.{first_view, left_half, right_half}
use Rattle.rws_cell.specs.Passes.{Passes}
use Rattle.rws_cell.specs.Passes.Passes.{opened, put_first, called, split, joined}
use Rattle.rws_cell.proofs.tests.one_after_two.Goals as goal

pub returns : goal.returns
returns g c =
    let first = c.split-second.new.pass.view in
    let second = c.split-second.result.view in
    let begun : Passes (c.in_ok-cell.first.view ∷ []) = subst (λ (v : View). Passes (v ∷ [])) (sym c.in_ok-cell.ensures.view) opened in
    let cut : Passes (left_half c.in_ok-cell.first.view ∷ right_half c.in_ok-cell.first.view ∷ []) = split c.in_ok-cell.first.view [] begun in
    let left : Passes (c.split-second.new.pass.view ∷ right_half c.in_ok-cell.first.view ∷ []) =
    subst (λ (v : View). Passes (v ∷ right_half c.in_ok-cell.first.view ∷ [])) (sym c.split-second.ensures.this) cut in
    let both : Passes (c.split-second.new.pass.view ∷ c.split-second.result.view ∷ []) =
    subst (λ (v : View). Passes (c.split-second.new.pass.view ∷ v ∷ [])) (sym c.split-second.ensures.new) left in
    let observed = called second c.observe.new.pass.view (Observe _) (first ∷ []) c.observe.ensures.call (put_first second (first ∷ []) [] both) in
    let routed = called first c.route.new.pass.view Route (c.observe.new.pass.view ∷ []) c.route.ensures.call (put_first first (c.observe.new.pass.view ∷ []) [] observed) in
    c.each_entry_has_its_pass.ensures.joined c.join.new.pass.view (joined c.route.new.pass.view c.observe.new.pass.view c.join.new.pass.view [] c.join.ensures.joined routed)
