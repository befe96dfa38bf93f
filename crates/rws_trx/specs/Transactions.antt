-- The state of a session's transaction, and its step at a whole reply: the class of the command, and how the reply ended.
-- Status bits are those of MariaDB's OK packet ("Server status flag"): 0x0001 a transaction is open, 0x0002 autocommit is on.
use Rattle.std.specs.Prelude.{◌≡◌, ℕ, Bool, true, false, not, ◌&&◌, ◌||◌, ◌==◌, bit_and, if◌then◌else◌}
use Rattle.rws_class.specs.declared.class.Class.{Class}
use Rattle.rws_class.specs.declared.class.Class.TheVariants.{Write, Begin, BeginReadOnly, Commit, Rollback, AutocommitOn, Ddl, Other}
use Rattle.rws_msgs.specs.declared.status.TheConstants.{IN_TRANS, AUTOCOMMIT}
use Rattle.rws_reply.specs.declared.kind.Outcome.{Outcome}
use Rattle.rws_reply.specs.declared.kind.Outcome.TheVariants.{Done, Failed}
use Rattle.rws_trx.specs.declared.state.Course.{Course}
use Rattle.rws_trx.specs.declared.state.Course.TheVariants.{GoesOn, Begins, IsNone}
use Rattle.rws_trx.specs.declared.state.Open.{Open}
use Rattle.rws_trx.specs.declared.state.Open.TheVariants.{Nothing, ReadWrite, ReadOnly}
use Rattle.rws_trx.specs.declared.state.TrxState.{TrxState}

-- classes --------------------------------------------------------------------------------------------

abbrev pub begins : Class → Bool
begins Begin = true
begins BeginReadOnly = true
begins _ = false

abbrev pub begins_read_only : Class → Bool
begins_read_only BeginReadOnly = true
begins_read_only _ = false

abbrev pub is_write : Class → Bool
is_write Write = true
is_write _ = false

abbrev pub is_ddl : Class → Bool
is_ddl Ddl = true
is_ddl _ = false

abbrev pub is_other : Class → Bool
is_other Other = true
is_other _ = false

-- commits, rolls back, or begins anew, or nobody knows what it does
abbrev pub ends_transactions : Class → Bool
ends_transactions Begin = true
ends_transactions BeginReadOnly = true
ends_transactions Commit = true
ends_transactions Rollback = true
ends_transactions AutocommitOn = true
ends_transactions Ddl = true
ends_transactions Other = true
ends_transactions _ = false

-- the state ------------------------------------------------------------------------------------------

abbrev pub at_start : TrxState
at_start = record { autocommit = true; opened = Nothing; tainted = false }

abbrev pub is_transaction : Open → Bool
is_transaction Nothing = false
is_transaction _ = true

abbrev pub is_open : TrxState → Bool
is_open state = is_transaction state.opened

-- the step -------------------------------------------------------------------------------------------

abbrev pub shows_open : ℕ → Bool
shows_open status = not (bit_and status IN_TRANS == 0)

abbrev pub shows_autocommit : ℕ → Bool
shows_autocommit status = not (bit_and status AUTOCOMMIT == 0)

-- the transaction that was open is open still: no command began another one
abbrev pub goes_on : Class → ℕ → TrxState → Bool
goes_on class status state = (is_open state && shows_open status) && not (begins class)

-- a transaction that this command opens can't write
abbrev pub is_read_only : Class → TrxState → Bool
is_read_only class state = (begins_read_only class && state.autocommit) && not (is_open state)

-- what is open behind a reply with this status
abbrev pub opened_after : Class → ℕ → TrxState → Open
opened_after class status state =
    if goes_on class status state then state.opened
    else (if not (shows_open status) then Nothing
    else (if is_read_only class state then ReadOnly else ReadWrite))

-- a reply without an error says what is open and whether autocommit is on; the taint stays with its transaction. An error
-- taints an open transaction, and changes nothing else
abbrev pub after : Class → Outcome → TrxState → TrxState
after class (Done status) state = record {
  autocommit = shows_autocommit status;
  opened = opened_after class status state;
  tainted = goes_on class status state && state.tainted;
}
after class (Failed code) state = record state { tainted = state.tainted || is_open state }

-- what a reply means for the transaction: the one that was open goes on, with this command; one begins with it; or none is open
abbrev pub course : Class → Outcome → TrxState → Course
course class (Done status) state =
    if goes_on class status state then GoesOn else (if shows_open status then Begins else IsNone)
course class (Failed code) state = if is_open state then GoesOn else IsNone

-- losses ---------------------------------------------------------------------------------------------

-- the command may end the transaction that is open
abbrev pub may_end : Class → TrxState → Bool
may_end class state = is_open state && ends_transactions class

-- outside of a transaction: what the command does is committed at once
abbrev pub commits_alone : Class → TrxState → Bool
commits_alone class state = not (is_open state) && ((is_write class && state.autocommit) || is_ddl class)

-- Once the link is lost that the command was sent on, nobody knows what it did: it is Other, or it may end the open
-- transaction, or it is a Write with autocommit on or a Ddl, outside of a transaction
abbrev pub leaves_unknown : Class → TrxState → Bool
leaves_unknown class state = (is_other class || may_end class state) || commits_alone class state

-- only an open transaction is tainted
abbrev pub IsSound : TrxState → Type 0
IsSound state = is_open state ≡ false → state.tainted ≡ false
