use Rattle.std.proofs.Common.{◌≤◌, ℕ, ap, sym, ◌∙◌, arith}
use Rattle.rws_handles.proofs.OpenLemmas.{next_from_slab}
use Rattle.rws_handles.proofs.PlaceLemmas.{count_of_slab}
use Rattle.rws_handles.proofs.statements.Statements.next_number.Goals as goal

pub next_number-requires : goal.next_number-requires
next_number-requires c =
    let count = count_of_slab c.self.inside.entries c.self.inside.freed.items c.self.invariant.given in
    omega (arith, c.len.ensures, count, c.self.invariant.given.counted, c.self.invariant.given.few)

pub returns : goal.returns
returns c =
    rw (← c.self.view_is) (next_from_slab c.self.inside.entries c.self.inside.freed.items c.next_number.result c.self.invariant.given
    (rw (c.deref.ensures.value, c.len.ensures) at c.next_number.ensures))
