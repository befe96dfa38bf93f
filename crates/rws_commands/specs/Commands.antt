-- What a server is asked by a command of the client, and of which class it is.
use Rattle.std.specs.Prelude.{ℕ, ◌+◌, ◌-◌, ◌^◌, Bool, true, false, List, [], ◌∷◌, length, map, min, Option, Some, None}
use Rattle.rws_class.specs.Classes.{class_of}
use Rattle.rws_class.specs.declared.class.Class.{Class}
use Rattle.rws_class.specs.declared.class.Class.TheVariants.{Session, AutocommitOn, AutocommitOff, TrxLocal, Other}
use Rattle.rws_handles.specs.LinkIds.{Ids}
use Rattle.rws_handles.specs.Links.{id_on}
use Rattle.rws_handles.specs.PlainForm.{number_in, renumbered}
use Rattle.rws_commands.specs.declared.command.Body.{Body}
use Rattle.rws_commands.specs.declared.command.Body.TheVariants.{Payload, Run}
use Rattle.rws_commands.specs.declared.command.Command.{Command}
use Rattle.rws_commands.specs.Requests.{class_by, request_of}

-- The class of an execute whose text has this class. What sets something counts as anything: the other links wouldn't know of it.
abbrev pub as_executed : Class → Class
as_executed Session = Other
as_executed AutocommitOn = Other
as_executed AutocommitOff = Other
as_executed TrxLocal = Other
as_executed class = class

abbrev pub class_of_body : Body → Class
class_of_body (Payload payload) = class_by (request_of payload) payload
class_of_body (Run execution) = as_executed (class_of execution.text)

abbrev pub class_of_command : Command → Class
class_of_command command = class_of_body command.body

-- a command by which anything may be changed keeps the session on its link
abbrev pub keeps : Class → Bool
keeps Other = true
keeps _ = false

-- it sets the session alone, and can be repeated on other links
abbrev pub is_session : Class → Bool
is_session Session = true
is_session AutocommitOn = true
is_session AutocommitOff = true
is_session _ = false

-- bytes and some more; they stop at the greatest that can be counted
abbrev pub added : ℕ → ℕ → ℕ
added bytes more = min (bytes + more) (2 ^ 64 - 1)

-- how many bytes the client sent for an execute of so many, with the long data that stands before it in these commands
abbrev pub client_bytes : (own : ℕ) → List (List ℕ) → ℕ
client_bytes own [] = own
client_bytes own (execute ∷ []) = own
client_bytes own (piece ∷ others) = added (length piece) (client_bytes own others)

-- how many bytes the client sent for a command
abbrev pub bytes_of : Body → ℕ
bytes_of (Payload payload) = length payload
bytes_of (Run execution) = execution.bytes

-- the payload of a command that sets something: an execute never does
abbrev pub payload_of : Body → List ℕ
payload_of (Payload payload) = payload
payload_of (Run execution) = []

-- What goes on a link

-- the id that the link's server has for the statement of an execute
abbrev pub id_for : (link : ℕ) → Body → List Ids → Option ℕ
id_for link (Payload payload) ids = None
id_for link (Run execution) ids = id_on ids link (number_in execution.commands)

-- the payloads that ask a server, which has this id for the statement; without one nothing is sent
abbrev pub asked_under : Option ℕ → Body → List (List ℕ)
asked_under id (Payload payload) = payload ∷ []
asked_under (Some id) (Run execution) = map (renumbered id) execution.commands
asked_under None (Run execution) = []
