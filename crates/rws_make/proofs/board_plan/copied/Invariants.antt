use Rattle.std.proofs.Common.{◌≡◌, take}
use Rattle.rws_make.proofs.board_plan.copied.Given as goal

-- the list so far has the events so far
abbrev pub invariant-loop-event : goal.invariant-loop-event
invariant-loop-event l = l.list ≡ take l.event-index l.events
