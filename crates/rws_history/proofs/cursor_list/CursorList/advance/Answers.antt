use Rattle.std.proofs.Common.{◌+◌, ◌<◌, ◌^◌, ℕ, Option, sym, ◌∙◌, ap, subst, arith}
use Rattle.std.specs.Prelude.{IfSome}
use Rattle.rws_history.specs.Cursors.{moved}
use Rattle.rws_history.proofs.CursorLemmas.{placed_at, found_at, not_found}
use Rattle.rws_history.proofs.cursor_list.CursorList.advance.Goals as goal

pub overflow_add-at : goal.overflow_add-at
overflow_add-at c =
    let found = found_at c.args.link _ c.args.self.now c.in-Some.index c.index.result.now c.self.view_is c.index.ensures (sym c.index_of.ensures.index ∙ c.in-Some.is) in
    let below = subst (λ (place : Option ℕ). IfSome place (λ at. at + 1 < 2 ^ 64)) found c.requires in
    omega (arith, below)

pub returns-in-Some : goal.returns-in-Some
returns-in-Some c =
    let at_index = sym c.index_of.ensures.index ∙ c.in-Some.is in
    let found = found_at c.args.link _ c.args.self.now c.in-Some.index c.index.result.now c.self.view_is c.index.ensures at_index in
    placed_at c.args.link (c.index.result.now.at + 1) _ c.args.self.now c.in-Some.index c.self.view_is at_index ∙ ap (moved c.args.self.now c.args.link) (sym found)

pub returns-in_default : goal.returns-in_default
returns-in_default c = ap (moved c.args.self.now c.args.link) (sym (not_found c.args.link c.args.self.now (sym c.index_of.ensures.index ∙ c.in_default.is)))
