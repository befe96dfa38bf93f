use Rattle.std.proofs.Common.{◌≡◌, ◌++◌, map, take, drop}
use Rattle.rws_handles.specs.LinkIds.{with_left}
use Rattle.rws_handles.proofs.links.LinkList.leave.Given as goal

-- the links so far as they are, and those behind changed, are all changed
abbrev pub invariant-loop-at : goal.invariant-loop-at
invariant-loop-at l =
    take l.at l.self-inside.links.items ++ map (with_left l.number) (drop l.at l.self-inside.links.items) ≡ map (with_left l.number) l.initial.self-inside.links.items
