-- The statements of a session, with the ids that they have on its links: what each call makes of them.
use Rattle.std.specs.Prelude.{ℕ, Bool, true, false, if◌then◌else◌, ◌==◌, List, [], unwrap_or, Option, Some, None, Result, Err}
use Rattle.std.specs.Option.{option_and_then}
use Rattle.rws_handles.specs.declared.fault.ExecuteFault.{ExecuteFault}
use Rattle.rws_handles.specs.declared.fault.ExecuteFault.TheVariants.{UnknownHandle}
use Rattle.rws_handles.specs.Prepared.{Prepared, closed_later, long_bytes, prepared}
use Rattle.rws_handles.specs.PlainForm.{Plain, plain_form, handle_in}
use Rattle.rws_handles.specs.LinkIds.{Ids}
use Rattle.rws_handles.specs.Links.{left_all, left_on}
use Rattle.rws_handles.specs.Slots.{Slots, no_slots, next_number, statement_at, updated, with_opened, without_statement, closed_numbers, without_all}

pub record Table : Type 0 where
  pub statements : Slots
  -- the number that was given out last; None before, and where a later prepare failed
  pub last : Option ℕ
  -- the ids on links, one entry a link
  pub links : List Ids

abbrev pub empty : Table
empty = record { statements = no_slots; last = None; links = [] }

-- ---- how statements come

-- a statement came under the next number, and is the last that was prepared
abbrev pub opened : (text : List ℕ) → (columns parameters : ℕ) → Table → Table
opened text columns parameters table = record table {
  statements = with_opened (prepared (next_number table.statements) text columns parameters) table.statements;
  last = Some (next_number table.statements);
}

-- ---- what a handle names

-- the number that a handle in a command stands for: itself, but 0xFFFFFFFF stands for the last prepare's
abbrev pub named : Option ℕ → ℕ → ℕ
named last handle = if handle == 4294967295 then unwrap_or last 0 else handle

abbrev pub if_open : Option Prepared → Option Prepared
if_open None = None
if_open (Some statement) = if statement.closed then None else Some statement

-- the statement that a handle names, unless it was closed
abbrev pub open_at : Table → ℕ → Option Prepared
open_at table handle = if_open (statement_at table.statements (named table.last handle))

-- how many bytes of long data a statement holds
abbrev pub held_by : Option Prepared → ℕ
held_by None = 0
held_by (Some statement) = long_bytes statement.long_data

-- the statement that the handle names is changed so
abbrev pub changed : (Prepared → Prepared) → Table → ℕ → Table
changed change table handle = record table { statements = updated change (named table.last handle) table.statements }

-- ---- executes

abbrev pub plain_if_open : Option Prepared → List ℕ → Result Plain ExecuteFault
plain_if_open None payload = Err UnknownHandle
plain_if_open (Some statement) payload = plain_form statement payload

-- the plain form of an execute, or why it is refused: an unknown handle, a cursor, a malformed execute, in this order
abbrev pub execute_of : Table → List ℕ → Result Plain ExecuteFault
execute_of table payload = plain_if_open (option_and_then (open_at table) (handle_in payload)) payload

-- the client's own number of the statement
abbrev pub number_of_execute : Table → List ℕ → ℕ
number_of_execute table payload = named table.last (unwrap_or (handle_in payload) 0)

-- ---- how statements leave

-- the statement of this number leaves, and its ids are stale
abbrev pub left : ℕ → Table → Table
left number table = record table { statements = without_statement number table.statements; links = left_on number table.links }

-- a statement that the client closes is kept for now or leaves
abbrev pub closed : Bool → Table → ℕ → Table
closed true table handle = changed closed_later table handle
closed false table handle = left (named table.last handle) table

-- those that were closed later leave, by rising number
abbrev pub swept : Table → Table
swept table = record table { statements = without_all (closed_numbers table.statements) table.statements; links = left_all (closed_numbers table.statements) table.links }
