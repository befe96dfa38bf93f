use Rattle.std.proofs.Common.{◌≡◌, ◌≤◌, ◌-◌, ◌^◌}
use Rattle.rws_worker.specs.Stepping.{IsIdle}
use Rattle.rws_worker.specs.Working.{IsUnderway, WithWords}
use Rattle.rws_worker.proofs.work.work_here.Given as goal

abbrev pub invariant-events : goal.invariant-events
invariant-events g l =
    IsUnderway l.config (WithWords (g.B.Board.did l.initial.board l.board) l.initial.words l.words) l.worker l.events 0 × IsIdle l.worker
    × (g.B.Board.faults l.initial.board ≤ g.B.Board.faults l.board) × (l.config ≡ l.initial.config) × (l.selector ≡ l.initial.selector)

abbrev pub decreases-events : goal.decreases-events
decreases-events g l = 2 ^ 32 - l.events
