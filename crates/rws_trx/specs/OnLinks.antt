-- A session's transaction: its state, the link that it is open on, and how long its commands are.
use Rattle.std.specs.Prelude.{◌≡◌, ℕ, ◌+◌, ◌-◌, ◌^◌, min, Option, Some, None, is_some, if◌then◌else◌}
use Rattle.rws_msgs.specs.declared.status.TheConstants.{IN_TRANS, AUTOCOMMIT}
use Rattle.rws_trx.specs.declared.state.Course.{Course}
use Rattle.rws_trx.specs.declared.state.Course.TheVariants.{GoesOn, Begins, IsNone}
use Rattle.rws_trx.specs.declared.transaction.Answer.{Answer}
use Rattle.rws_trx.specs.declared.transaction.Transaction.{Transaction}
use Rattle.rws_trx.specs.declared.state.TrxState.{TrxState}
use Rattle.rws_trx.specs.Transactions.{after, at_start, course, is_open}

-- a session begins without one
abbrev pub no_transaction : Transaction
no_transaction = record { state = at_start; link = None; bytes = 0 }

-- something of a transaction that goes on, of one that begins, or where none is open
abbrev pub by_course : {A : Type 0} → Course → (goes_on begins none : A) → A
by_course GoesOn goes_on begins none = goes_on
by_course Begins goes_on begins none = begins
by_course IsNone goes_on begins none = none

-- bytes and some more; they stop at the greatest that can be counted
abbrev pub added : ℕ → ℕ → ℕ
added bytes more = min (bytes + more) (2 ^ 64 - 1)

-- what the reply means
abbrev pub course_of : Answer → Transaction → Course
course_of answer t = course answer.class answer.outcome t.state

-- the step at a reply that speaks of the transaction
abbrev pub answered : Answer → Transaction → Transaction
answered answer t = record {
  state = after answer.class answer.outcome t.state;
  link = by_course (course_of answer t) t.link (Some answer.link) None;
  bytes = by_course (course_of answer t) (added t.bytes answer.bytes) (added 0 answer.bytes) 0;
}

-- the status bits of an OK that show a state
abbrev pub status_of : TrxState → ℕ
status_of state = (if is_open state then IN_TRANS else 0) + (if state.autocommit then AUTOCOMMIT else 0)

-- a transaction is open exactly where it is open on a link
abbrev pub IsPlaced : Transaction → Type 0
IsPlaced t = is_some t.link ≡ is_open t.state
