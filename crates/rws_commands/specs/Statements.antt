-- The prepared statements of a session together with its history, and the steps by which they move. An entry that prepares a
-- statement stands in the history as long as the statement stands in the table.
use Rattle.std.specs.Prelude.{ℕ, ◌+◌, nat_lt, Bool, true, false, not, ◌&&◌, ◌||◌, ◌==◌, List, [], ◌∷◌, ◌++◌, length, filter, is_some, unwrap_or, Option, Some, None, Result, Ok, Err, if◌then◌else◌}
use Rattle.rws_wire.specs.Numbers.{number_of}
use Rattle.rws_msgs.specs.declared.prepare_ok.PrepareOk.{PrepareOk}
use Rattle.rws_reply.specs.declared.kind.Kind.{Kind}
use Rattle.rws_reply.specs.declared.kind.Kind.TheVariants.{Simple, Query, Prepare as PrepareReply, FieldList}
use Rattle.rws_reply.specs.declared.kind.Outcome.{Outcome}
use Rattle.rws_reply.specs.declared.kind.Outcome.TheVariants.{Done, Failed}
use Rattle.rws_handles.specs.declared.fault.ExecuteFault.{ExecuteFault}
use Rattle.rws_handles.specs.LinkIds.{Ids, least}
use Rattle.rws_handles.specs.Links.{ids_on, with_id_on, with_stale_on, without_least_on, without_link}
use Rattle.rws_handles.specs.PlainForm.{Plain, handle_in}
use Rattle.rws_handles.specs.Prepared.{LongData, executed, with_long_data, without_long_data}
use Rattle.rws_handles.specs.Slots.{Slots, is_crowded, next_number, statement_at}
use Rattle.rws_handles.specs.Table as tables
use Rattle.rws_handles.specs.Table.{Table, changed, closed, empty, execute_of, open_at, opened}
use Rattle.rws_commands.specs.declared.command.Command.{Command}
use Rattle.rws_commands.specs.declared.history.HistoryEntry.{HistoryEntry}
use Rattle.rws_commands.specs.declared.history.PreparedAs.{PreparedAs}
use Rattle.rws_commands.specs.declared.judged.Judged.{Judged}
use Rattle.rws_commands.specs.declared.judged.Judged.TheVariants.{IsRefused, HasTooMuch}
use Rattle.rws_commands.specs.declared.request.Request.{Request}
use Rattle.rws_commands.specs.declared.request.Request.TheVariants.{Prepare, Execute, SendLongData, CloseStatement, ResetStatement}
use Rattle.rws_commands.specs.Commands.{payload_of}
use Rattle.rws_commands.specs.Requests.{arguments_of, request_of}

pub record Statements : Type 0 where
  pub table : Table
  -- the entries of the session's history that stand, in order
  pub history : List HistoryEntry

abbrev pub no_statements : Statements
no_statements = record { table = empty; history = [] }

-- The history

-- an entry stands while its statement does, if it prepares one
abbrev pub stands : Slots → Option PreparedAs → Bool
stands slots (Some how) = is_some (statement_at slots how.number)
stands slots None = true

-- the table is this one now; the entries of statements that have left it leave too
abbrev pub with_table : Table → Statements → Statements
with_table table s = record s { table = table; history = filter (λ entry. stands table.statements entry.statement) s.history }

-- the first entry from this serial on
abbrev pub entry_from : (serial : ℕ) → List HistoryEntry → Option HistoryEntry
entry_from serial [] = None
entry_from serial (first ∷ others) = if nat_lt first.serial serial then entry_from serial others else Some first

-- what a link is to play next that has played all entries below this serial
abbrev pub unplayed : (cursor : ℕ) → Statements → Option HistoryEntry
unplayed cursor s = entry_from cursor s.history

-- the serial of the last entry
abbrev pub last_serial : List HistoryEntry → Option ℕ
last_serial [] = None
last_serial (first ∷ []) = Some first.serial
last_serial (first ∷ others) = last_serial others

-- a link that has played all entries below this serial hasn't played the last one
abbrev pub is_behind : (last : Option ℕ) → (cursor : ℕ) → Bool
is_behind (Some last) cursor = not (nat_lt last cursor)
is_behind None cursor = false

-- the entry of this serial stands
abbrev pub has_serial : (serial : ℕ) → List HistoryEntry → Bool
has_serial serial [] = false
has_serial serial (first ∷ others) = (first.serial == serial) || has_serial serial others

-- there is no room for a further entry
abbrev pub is_full : (limit : ℕ) → Statements → Bool
is_full limit s = not (nat_lt (length s.history) limit)

-- A command is taken up

abbrev pub executing : Result Plain ExecuteFault → (handle : ℕ) → Table → Table
executing (Ok plain) handle table = changed (executed plain.types) table handle
executing (Err fault) handle table = table

-- an execute stores its types, and takes the long data
abbrev pub execute : (payload : List ℕ) → Table → Table
execute payload table = executing (execute_of table payload) (unwrap_or (handle_in payload) 0) table

-- what a COM_STMT_SEND_LONG_DATA says, and of which statement
abbrev pub piece_in : List ℕ → Option (ℕ × LongData)
piece_in (tag ∷ a ∷ b ∷ c ∷ d ∷ e ∷ f ∷ bytes) =
    Some (number_of (a ∷ b ∷ c ∷ d ∷ []), record { parameter = number_of (e ∷ f ∷ []); bytes = bytes })
piece_in _ = None

abbrev pub adding : Option (ℕ × LongData) → Table → Table
adding (Some (handle, piece)) table =
    if is_some (open_at table handle) then changed (λ statement. with_long_data statement piece) table handle else table
adding None table = table

-- long data is kept for the next execute of an open statement
abbrev pub add_long_data : (payload : List ℕ) → Table → Table
add_long_data payload table = adding (piece_in payload) table

abbrev pub closing : (later : Bool) → Option ℕ → Statements → Statements
closing later (Some handle) s = if is_some (open_at s.table handle) then with_table (closed later s.table handle) s else s
closing later None s = s

-- an open statement leaves, or is kept until the transaction ends that is open
abbrev pub close : (later : Bool) → (payload : List ℕ) → Statements → Statements
close later payload s = closing later (handle_in payload) s

abbrev pub resetting : Option ℕ → Table → Table
resetting (Some handle) table = if is_some (open_at table handle) then changed without_long_data table handle else table
resetting None table = table

-- the long data of an open statement is forgotten
abbrev pub reset : (payload : List ℕ) → Table → Table
reset payload table = resetting (handle_in payload) table

-- a prepare failed, here or at its server: no statement is the last one
abbrev pub failed : Statements → Statements
failed s = record s { table = record s.table { last = None } }

abbrev pub failed_if : (prepares : Bool) → Statements → Statements
failed_if true s = failed s
failed_if false s = s

abbrev pub is_prepare : Request → Bool
is_prepare Prepare = true
is_prepare _ = false

-- a command that nothing refuses; `in_transaction` is that one is open
abbrev pub taken : Request → (in_transaction : Bool) → (payload : List ℕ) → Statements → Statements
taken Execute in_transaction payload s = record s { table = execute payload s.table }
taken SendLongData in_transaction payload s = record s { table = add_long_data payload s.table }
taken CloseStatement in_transaction payload s = close in_transaction payload s
taken ResetStatement in_transaction payload s = record s { table = reset payload s.table }
taken _ in_transaction payload s = s

abbrev pub taken_for : Judged → Request → (in_transaction : Bool) → (payload : List ℕ) → Statements → Statements
taken_for (IsRefused error) request in_transaction payload s = failed_if (is_prepare request) s
taken_for (HasTooMuch bytes) request in_transaction payload s = s
taken_for _ request in_transaction payload s = taken request in_transaction payload s

-- one that was taken for this
abbrev pub taken_as : Judged → (in_transaction : Bool) → (payload : List ℕ) → Statements → Statements
taken_as judged in_transaction payload s = taken_for judged (request_of payload) in_transaction payload s

-- A reply is whole

abbrev pub is_prepared : Kind → Bool
is_prepared Simple = false
is_prepared Query = false
is_prepared PrepareReply = true
is_prepared FieldList = false

-- the statement comes under the next number, and this link's server has its own id for it
abbrev pub opened_on : (link : ℕ) → (text : List ℕ) → PrepareOk → Table → Table
opened_on link text ok table = record (opened text ok.columns ok.parameters table) {
  links = with_id_on link (next_number table.statements) ok.id table.links;
}

-- A prepare of this text was answered so on a link. It isn't sent where the table is full.
abbrev pub prepared_by : (link : ℕ) → (text : List ℕ) → Outcome → Option PrepareOk → Table → Table
prepared_by link text (Done status) (Some ok) table =
    if is_crowded table.statements then record table { last = None } else opened_on link text ok table
prepared_by link text (Done status) None table = record table { last = None }
prepared_by link text (Failed code) named table = record table { last = None }

-- as what it stands in the history
abbrev pub prepared_as : (number : ℕ) → Option PrepareOk → Option PreparedAs
prepared_as number (Some ok) = Some (record { number = number; columns = ok.columns; parameters = ok.parameters })
prepared_as number None = None

abbrev pub entry_of : (serial : ℕ) → Command → Option PreparedAs → HistoryEntry
entry_of serial command statement =
    record { serial = serial; payload = payload_of command.body; kind = command.kind; statement = statement }

-- the command is added to the history under this serial, if it has one
abbrev pub with_entry : (serial : Option ℕ) → Command → Option PreparedAs → Statements → Statements
with_entry (Some serial) command statement s = record s { history = s.history ++ entry_of serial command statement ∷ [] }
with_entry None command statement s = s

abbrev pub answered_by : (prepares : Bool) → (link : ℕ) → Command → Outcome → Option PrepareOk → (serial : Option ℕ) → Statements → Statements
answered_by true link command outcome named serial s =
    with_entry serial command (prepared_as (next_number s.table.statements) named)
    (record s { table = prepared_by link (arguments_of (payload_of command.body)) outcome named s.table })
answered_by false link command outcome named serial s = with_entry serial command None s

-- The client has the whole reply to this command, which came on a link and ended so; `named` is what it told of a prepared statement. The
-- command is added to the history under this serial, or isn't.
abbrev pub answered : (link : ℕ) → Command → Outcome → Option PrepareOk → (serial : Option ℕ) → Statements → Statements
answered link command outcome named serial s = answered_by (is_prepared command.kind) link command outcome named serial s

-- a transaction ended, or not: the statements leave that were closed in it
abbrev pub swept_if : (ends : Bool) → Statements → Statements
swept_if true s = with_table (tables.swept s.table) s
swept_if false s = s

-- An entry was played on a link without an error, and named a statement: the link's server has an id for it, which is to be closed
-- where the statement has left meanwhile.
abbrev pub named_ids : (stands : Bool) → (link : ℕ) → PreparedAs → PrepareOk → List Ids → List Ids
named_ids true link how ok ids = with_id_on link how.number ok.id ids
named_ids false link how ok ids = with_stale_on link ok.id ids

abbrev pub played : (link serial : ℕ) → Option PreparedAs → Option PrepareOk → Statements → Statements
played link serial (Some how) (Some ok) s =
    record s { table = record s.table { links = named_ids (has_serial serial s.history) link how ok s.table.links } }
played link serial _ _ s = s

-- a server prepared an entry otherwise than the one that the client was answered by
abbrev pub is_otherwise : Option PreparedAs → Option PrepareOk → Bool
is_otherwise (Some how) (Some ok) = not ((how.columns == ok.columns) && (how.parameters == ok.parameters))
is_otherwise _ _ = false

-- Links

-- the least id that a link's server is to close
abbrev pub stale_on : (link : ℕ) → Statements → Option ℕ
stale_on link s = least (ids_on link s.table.links).stale

-- it is sent, and forgotten
abbrev pub forgotten : (link : ℕ) → Statements → Statements
forgotten link s = record s { table = record s.table { links = without_least_on link s.table.links } }

-- a link is gone, with all its ids
abbrev pub unlinked : (link : ℕ) → Statements → Statements
unlinked link s = record s { table = record s.table { links = without_link link s.table.links } }

-- the number that the next statement has for the client
abbrev pub next_handle : Statements → ℕ
next_handle s = next_number s.table.statements
