use Rattle.std.proofs.Common.{◌≡◌, ◌≤◌, ℕ}
use Rattle.rws_pool.specs.declared.words.PoolWords.{PoolWords}
use Rattle.rws_pool.specs.Machine.{new_words}
use Rattle.rws_worker.specs.Working.{IsUnderway, WithWords}
use Rattle.rws_worker.proofs.work.do_all.Given as goal

abbrev pub invariant-loop : goal.invariant-loop
invariant-loop g l =
    ((start : g.row.B.Denot) (first : PoolWords) (events : ℕ) → first ≡ new_words l.config.gtid_domain
    → IsUnderway l.config (WithWords (g.B.Board.did start l.initial.board) first l.initial.words) l.initial.worker events 0
    → IsUnderway l.config (WithWords (g.B.Board.did start l.board) first l.words) l.worker events l.counter)
    × (g.B.Board.faults l.initial.board ≤ g.B.Board.faults l.board)
