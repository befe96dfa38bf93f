use Rattle.std.proofs.Common.{◌==◌, ℕ, ap, sym, ◌∙◌}
use Rattle.rws_handles.proofs.OpenLemmas.{crowded_is}
use Rattle.rws_handles.proofs.PlaceLemmas.{count_of_slab}
use Rattle.rws_handles.proofs.statements.Statements.is_full.Goals as goal

pub returns-clause-crowded : goal.returns-clause-crowded
returns-clause-crowded c =
    let count = c.len.ensures ∙ sym (count_of_slab c.self.inside.entries c.self.inside.freed.items c.self.invariant.given) in
    rw (← c.self.view_is) (ap (λ (n : ℕ). n == 65536) count ∙ sym (crowded_is _ c.self.invariant.given))

pub returns-clause-count : goal.returns-clause-count
returns-clause-count c =
    let count = c.len.ensures ∙ sym (count_of_slab c.self.inside.entries c.self.inside.freed.items c.self.invariant.given) in
    rw (← c.self.view_is) (ap (λ (n : ℕ). n == 65536) count)
