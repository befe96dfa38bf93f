-- What a command of the client is taken for.
use Rattle.std.specs.Prelude.{◌≡◌, ℕ, ◌+◌, nat_lt, Bool, true, false, ◌&&◌, List, [], ◌∷◌, length, is_none, is_some, unwrap_or, Option, Some, None, Result, Ok, Err, if◌then◌else◌}
use Rattle.std.specs.Option.{option_and_then}
use Rattle.rws_class.specs.Classes.{class_of}
use Rattle.rws_class.specs.declared.class.Class.{Class}
use Rattle.rws_class.specs.declared.class.Class.TheVariants.{Read, PrimaryRead, Session, Commit, Rollback, Refused, Other}
use Rattle.rws_reply.specs.declared.kind.Kind.{Kind}
use Rattle.rws_reply.specs.declared.kind.Kind.TheVariants.{Simple, Query as QueryReply, Prepare as PrepareReply, FieldList as FieldListReply}
use Rattle.rws_handles.specs.declared.fault.ExecuteFault.{ExecuteFault}
use Rattle.rws_handles.specs.declared.fault.ExecuteFault.TheVariants.{UnknownHandle, CursorAsked, BadExecute as ABadExecute}
use Rattle.rws_handles.specs.PlainForm.{Plain, handle_in, spelled}
use Rattle.rws_handles.specs.Prepared.{LongData}
use Rattle.rws_handles.specs.Slots.{is_crowded}
use Rattle.rws_handles.specs.Table.{Table, execute_of, held_by, number_of_execute, open_at}
use Rattle.rws_commands.specs.declared.command.Body.TheVariants.{Payload, Run}
use Rattle.rws_commands.specs.declared.command.Command.{Command}
use Rattle.rws_commands.specs.declared.judged.Judged.{Judged}
use Rattle.rws_commands.specs.declared.judged.Judged.TheVariants.{Leaves, IsOwn, IsRefused, IsSilent, HasTooMuch, Serves}
use Rattle.rws_commands.specs.declared.judged.Situation.{Situation}
use Rattle.rws_commands.specs.declared.proxy_error.ProxyError.{ProxyError}
use Rattle.rws_commands.specs.declared.proxy_error.ProxyError.TheVariants.{UnknownCommand, NotSupported, UnknownStatement, BadExecute, TooManyStatements, NotInReadOnly}
use Rattle.rws_commands.specs.declared.request.Request.{Request}
use Rattle.rws_commands.specs.declared.request.Request.TheVariants.{Quit, Ping, Query, FieldList, InitDb, Prepare, Execute, SendLongData, CloseStatement, ResetStatement, Unsupported, Unknown}
use Rattle.rws_commands.specs.Commands.{added, as_executed, client_bytes}
use Rattle.rws_commands.specs.Requests.{class_by, request_of}
use Rattle.rws_commands.specs.Statements.{Statements, is_full, is_prepare, piece_in}

-- Whether a command is refused, and with what: the first of these that fits is the answer.
abbrev pub refusal_by : (unknown unsupported unopened cursor malformed crowded forbidden changing : Bool) → Option ProxyError
refusal_by unknown unsupported unopened cursor malformed crowded forbidden changing =
    -- no command has this first byte, or there is none
    if unknown then Some UnknownCommand
    -- a command that the proxy doesn't take
    else (if unsupported then Some NotSupported
    -- an execute or reset of a statement that isn't open
    else (if unopened then Some UnknownStatement
    -- an execute that asks for a cursor
    else (if cursor then Some NotSupported
    -- an execute out of its layout
    else (if malformed then Some BadExecute
    -- a prepare where the table of statements is full
    else (if crowded then Some TooManyStatements
    -- a text that sets what replication or the proxy stands on
    else (if forbidden then Some NotSupported
    -- a command that changes something, in a read-only transaction
    else (if changing then Some NotInReadOnly
    else None)))))))

abbrev pub is_unknown : Request → Bool
is_unknown Unknown = true
is_unknown _ = false

abbrev pub is_unsupported : Request → Bool
is_unsupported Unsupported = true
is_unsupported _ = false

abbrev pub is_unknown_handle : Result Plain ExecuteFault → Bool
is_unknown_handle (Err UnknownHandle) = true
is_unknown_handle _ = false

-- an execute or reset of a statement that isn't open
abbrev pub is_unopened : Table → Request → List ℕ → Bool
is_unopened table Execute payload = is_unknown_handle (execute_of table payload)
is_unopened table ResetStatement payload = is_none (option_and_then (open_at table) (handle_in payload))
is_unopened table _ payload = false

abbrev pub is_cursor_asked : Result Plain ExecuteFault → Bool
is_cursor_asked (Err CursorAsked) = true
is_cursor_asked _ = false

abbrev pub is_bad_execute : Result Plain ExecuteFault → Bool
is_bad_execute (Err ABadExecute) = true
is_bad_execute _ = false

-- an execute that asks for a cursor
abbrev pub asks_for_cursor : Table → Request → List ℕ → Bool
asks_for_cursor table Execute payload = is_cursor_asked (execute_of table payload)
asks_for_cursor table _ payload = false

-- an execute out of its layout
abbrev pub is_malformed : Table → Request → List ℕ → Bool
is_malformed table Execute payload = is_bad_execute (execute_of table payload)
is_malformed table _ payload = false

-- a text that sets what replication or the proxy stands on
abbrev pub is_forbidden : Class → Bool
is_forbidden Refused = true
is_forbidden _ = false

-- A command of this class may change something that a read-only transaction mustn't, or can't be repeated where the history is full.
abbrev pub changes : (full : Bool) → Class → Bool
changes full Read = false
changes full PrimaryRead = false
changes full Commit = false
changes full Rollback = false
changes full Session = full
changes full _ = true

-- a server is to answer it
abbrev pub is_for_server : Request → Bool
is_for_server Query = true
is_for_server FieldList = true
is_for_server InitDb = true
is_for_server Prepare = true
is_for_server Execute = true
is_for_server _ = false

-- a command that changes something, in a read-only transaction
abbrev pub changes_in_read_only : Situation → Statements → Request → Class → Bool
changes_in_read_only now s request class = is_for_server request && (now.read_only && changes (is_full now.history_limit s) class)

abbrev pub refusal_of : Situation → Statements → Request → Class → List ℕ → Option ProxyError
refusal_of now s request class payload =
    refusal_by (is_unknown request) (is_unsupported request) (is_unopened s.table request payload)
    (asks_for_cursor s.table request payload) (is_malformed s.table request payload)
    (is_prepare request && is_crowded s.table.statements) (is_forbidden class) (changes_in_read_only now s request class)

-- the class of what an execute runs
abbrev pub class_run : Result Plain ExecuteFault → Class
class_run (Ok plain) = as_executed (class_of plain.text)
class_run (Err fault) = Other

-- the class of a command
abbrev pub class_in : Table → Request → List ℕ → Class
class_in table Execute payload = class_run (execute_of table payload)
class_in table request payload = class_by request payload

-- a command that goes to a server as it came
abbrev pub whole : List ℕ → Kind → ℕ → Command
whole payload kind number = record { body = Payload payload; kind = kind; number = number }

abbrev pub run_by : (handle : ℕ) → Result Plain ExecuteFault → List ℕ → ℕ → Judged
run_by handle (Ok plain) payload number = Serves (record {
  body = Run (record { text = plain.text; commands = spelled handle plain; bytes = client_bytes (length payload) (spelled handle plain) });
  kind = QueryReply;
  number = number;
})
run_by handle (Err fault) payload number = IsRefused BadExecute

-- how many bytes of long data the statement of a piece holds, that among them
abbrev pub held_with : Table → Option (ℕ × LongData) → ℕ
held_with table (Some (handle, piece)) = if is_some (open_at table handle) then added (held_by (open_at table handle)) (length piece.bytes) else 0
held_with table None = 0

-- with these bytes of long data the statement would hold so many
abbrev pub long_data_as : (room held : ℕ) → Judged
long_data_as room held = if nat_lt room held then HasTooMuch held else IsSilent

-- what a command is taken for that nothing refuses
abbrev pub accepted_as : Situation → Statements → Request → List ℕ → ℕ → Judged
accepted_as now s Quit payload number = Leaves
accepted_as now s Ping payload number = IsOwn
accepted_as now s Query payload number = Serves (whole payload QueryReply number)
accepted_as now s FieldList payload number = Serves (whole payload FieldListReply number)
accepted_as now s InitDb payload number = Serves (whole payload Simple number)
accepted_as now s Prepare payload number = Serves (whole payload PrepareReply number)
accepted_as now s Execute payload number =
    run_by (number_of_execute s.table payload) (execute_of s.table payload) payload number
accepted_as now s SendLongData payload number = long_data_as now.room (held_with s.table (piece_in payload))
accepted_as now s CloseStatement payload number = IsSilent
accepted_as now s ResetStatement payload number = IsOwn
accepted_as now s Unsupported payload number = IsRefused NotSupported
accepted_as now s Unknown payload number = IsRefused UnknownCommand

abbrev pub judged_by : Option ProxyError → Judged → Judged
judged_by (Some error) accepted = IsRefused error
judged_by None accepted = accepted

abbrev pub judged_for : Request → Situation → Statements → List ℕ → ℕ → Judged
judged_for request now s payload number =
    judged_by (refusal_of now s request (class_in s.table request payload) payload) (accepted_as now s request payload number)

-- a command of these bytes, whose reply begins with this number
abbrev pub judged : Situation → Statements → List ℕ → ℕ → Judged
judged now s payload number = judged_for (request_of payload) now s payload number

-- what an execute is answered by that is refused as such
abbrev pub IsRefusal : ExecuteFault → Judged → Type 0
IsRefusal fault judgement = judged_by (refusal_by false false (is_unknown_handle (Err fault)) (is_cursor_asked (Err fault)) (is_bad_execute (Err fault)) false false false) (IsRefused BadExecute) ≡ judgement
