-- When a read may be sent to the server that was chosen for it.
use Rattle.std.specs.Prelude.{ℕ, Bool, List, [], ◌∷◌, Option, Some, None, Result, Ok, Err, nat_le, nat_eq, codes, if◌then◌else◌}
use Rattle.std.specs.Cmp.Lexicographic.{pointwise}
use Rattle.rws_wire.specs.declared.mode.Mode.{Mode}
use Rattle.rws_wire.specs.declared.mode.Mode.TheVariants.{Nothing, Local, Global}
use Rattle.rws_gtid.specs.declared.Gtid.{Gtid}
use Rattle.rws_gtid.specs.declared.GtidFault.{GtidFault}
use Rattle.rws_gtid.specs.Parsing.{position_in}
use Rattle.rws_pool.specs.declared.words.PoolWords.{PoolWords}
use Rattle.rws_result.specs.declared.rows.Rows.{Rows}
use Rattle.rws_result.specs.Cells.{Cell}
use Rattle.rws_causal.specs.declared.causal.Causal.{Causal}
use Rattle.rws_causal.specs.declared.causal.Causal.TheVariants.{Go, Wait, Probe, TryPrimary, Stale, Unreadable}

-- A read has to see nothing, the last commit of its own session, or the last one that any worker saw.
abbrev pub wanted : Mode → PoolWords → Option Gtid → Option Gtid
wanted Nothing words own = None
wanted Local words own = own
wanted Global words own = Some words.last

-- 1. Where nothing is wanted, or the server is known to have reached it, the read is sent. Else a replica first waits for it, and
-- the primary is first asked where it is.
abbrev pub before_read : Option Gtid → ℕ → Bool → Causal
before_read None position on_primary = Go
before_read (Some gtid) position on_primary =
    if nat_le gtid.sequence position then Go else (if on_primary then Probe gtid else Wait gtid)

-- the only column of the only row, where it is a text
abbrev pub only_cell : List (List Cell) → Cell
only_cell ((cell ∷ []) ∷ []) = cell
only_cell _ = None

-- what a statement was answered; None for an error
abbrev pub only_text : Option Rows → Option (List ℕ)
only_text (Some rows) = only_cell rows.rows
only_text None = None

-- 2. A wait that was answered `0` lets the read be sent; every other answer sends it to the primary.
abbrev pub after_wait : Option (List ℕ) → Causal
after_wait (Some text) = if pointwise nat_eq text (codes "0") then Go else TryPrimary
after_wait None = TryPrimary

-- the sequence of a position; a server without one in the domain has reached nothing
abbrev pub reached : Option Gtid → ℕ
reached (Some gtid) = gtid.sequence
reached None = 0

abbrev pub at_position : ℕ → Result (Option Gtid) GtidFault → Causal
at_position sequence (Ok position) = if nat_le sequence (reached position) then Go else Stale sequence (reached position)
at_position sequence (Err fault) = Unreadable

-- 3. A primary whose position has reached what is wanted lets the read be sent, and one that is behind doesn't; every other answer is
-- no position.
abbrev pub after_probe : Gtid → Option (List ℕ) → Causal
after_probe wanted (Some list) = at_position wanted.sequence (position_in wanted.domain list)
after_probe wanted None = Unreadable
