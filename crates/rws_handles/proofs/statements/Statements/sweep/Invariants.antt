use Rattle.std.proofs.Common.{◌≡◌, ◌+◌, ◌≤◌, drop, vec_len, vec_capacity}
use Rattle.slab.specs.Slab.{slab_len}
use Rattle.rws_handles.specs.Links.{left_all}
use Rattle.rws_handles.specs.Slots.{without_all}
use Rattle.rws_handles.specs.StatementsView.{HasNoneBehind, slots_of}
use Rattle.rws_handles.proofs.statements.Statements.sweep.Given as goal

-- when those behind have left too, all have left
abbrev pub invariant-loop-at : goal.invariant-loop-at
invariant-loop-at l = record {
  closing : l.self-inside.closing ≡ l.initial.self-inside.closing;
  slots : without_all (drop l.at l.self-inside.closing.items) (slots_of l.self-inside.entries l.self-inside.freed.items)
      ≡ without_all l.self-inside.closing.items (slots_of l.initial.self-inside.entries l.initial.self-inside.freed.items);
  links : left_all (drop l.at l.self-inside.closing.items) l.links ≡ left_all l.self-inside.closing.items l.initial.links;
  behind : HasNoneBehind l.self-inside.entries l.self-inside.freed.items;
  room : slab_len l.self-inside.entries + vec_len l.self-inside.freed ≤ vec_capacity l.self-inside.freed;
  fewer : slab_len l.self-inside.entries ≤ slab_len l.initial.self-inside.entries;
}
