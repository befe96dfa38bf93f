use Rattle.std.proofs.Common.{◌≤◌, List, [], ℕ, length, vec_capacity, ap, sym, subst, arith}
use Rattle.std.proofs.lemmas.List.Sorted.{IsNonDecreasingBy-from_sort}
use Rattle.rws_handles.specs.Slots.{Slots, closed_numbers}
use Rattle.rws_handles.specs.StatementsView.{AreGivenOut, AreListed, slots_of}
use Rattle.rws_handles.proofs.SlotLemmas.{given_all}
use Rattle.rws_handles.proofs.SweepLemmas.{all_left, all_out, listed_none, sorted_is}
use Rattle.rws_handles.proofs.statements.Statements.sweep.Goals as goal

pub invariant_of-self : goal.invariant_of-self
invariant_of-self c =
    let old : Slots = slots_of c.self.inside.entries c.self.inside.freed.items in
    let sorted : List ℕ = c.sort_unstable.new.self.items in
    let is = sorted_is old c.self.inside.closing.items sorted c.self.invariant.listed c.sort_unstable.ensures.permutation (IsNonDecreasingBy-from_sort (λ x. x) sorted c.sort_unstable.ensures.sorted) in
    let same = ap (λ v. v.items) c.loop-at.invariant.closing in
    let end : length sorted ≤ c.loop-at.at = omega (arith, c.loop-at-test.false, c.len-at-end.ensures, c.sort_unstable.new.self.ok.0) in
    let out = all_out sorted c.loop-at.self-inside.closing.items c.loop-at.at (slots_of c.loop-at.self-inside.entries c.loop-at.self-inside.freed.items) old same end is c.loop-at.invariant.slots in
    let room = ap (λ v. vec_capacity v) c.loop-at.invariant.closing in
    record {
      listed = rw c.clear.ensures.items (subst (λ (s : Slots). AreListed s []) (sym out) (listed_none old c.self.inside.closing.items c.self.invariant.listed));
      given = subst (λ (s : Slots). AreGivenOut s) (sym out) (given_all (closed_numbers old) old c.self.invariant.given);
      behind = c.loop-at.invariant.behind;
      freed_room = c.loop-at.invariant.room;
      closing_room = omega (arith, c.loop-at.invariant.fewer, room, c.clear.ensures.capacity, c.sort_unstable.ensures.capacity, c.self.invariant.closing_room);
    }

pub returns-clause-statements : goal.returns-clause-statements
returns-clause-statements c =
    let old : Slots = slots_of c.self.inside.entries c.self.inside.freed.items in
    let sorted : List ℕ = c.sort_unstable.new.self.items in
    let is = sorted_is old c.self.inside.closing.items sorted c.self.invariant.listed c.sort_unstable.ensures.permutation (IsNonDecreasingBy-from_sort (λ x. x) sorted c.sort_unstable.ensures.sorted) in
    let same = ap (λ v. v.items) c.loop-at.invariant.closing in
    let end : length sorted ≤ c.loop-at.at = omega (arith, c.loop-at-test.false, c.len-at-end.ensures, c.sort_unstable.new.self.ok.0) in
    rw (← c.self.view_is) (all_out sorted c.loop-at.self-inside.closing.items c.loop-at.at (slots_of c.loop-at.self-inside.entries c.loop-at.self-inside.freed.items) old same end is c.loop-at.invariant.slots)

pub returns-clause-links : goal.returns-clause-links
returns-clause-links c =
    let old : Slots = slots_of c.self.inside.entries c.self.inside.freed.items in
    let sorted : List ℕ = c.sort_unstable.new.self.items in
    let is = sorted_is old c.self.inside.closing.items sorted c.self.invariant.listed c.sort_unstable.ensures.permutation (IsNonDecreasingBy-from_sort (λ x. x) sorted c.sort_unstable.ensures.sorted) in
    let same = ap (λ v. v.items) c.loop-at.invariant.closing in
    let end : length sorted ≤ c.loop-at.at = omega (arith, c.loop-at-test.false, c.len-at-end.ensures, c.sort_unstable.new.self.ok.0) in
    rw (← c.self.view_is) (all_left sorted c.loop-at.self-inside.closing.items (closed_numbers old) c.loop-at.at c.loop-at.links c.args.links.now same end is c.loop-at.invariant.links)
