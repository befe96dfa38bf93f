-- What came of a client: what its bytes begin with, in its login and with its commands. A front is where the client stands
-- (`fronted`).
use Rattle.std.specs.Prelude.{◌≡◌, ℕ, ◌+◌, ◌≤◌, length, true, false, List, ◌∷◌, codes, Bool, ◌==◌, None, Some, Option}
use Rattle.rws_wire.specs.Packets.{next_number, spelling}
use Rattle.rws_wire.specs.Payloads.{Beginning, first_payload}
use Rattle.rws_wire.specs.Payloads.Beginning.{Nothing, Whole, Faulty}
use Rattle.rws_wire.specs.declared.close_reason.CloseReason.{CloseReason}
use Rattle.rws_wire.specs.declared.close_reason.CloseReason.TheVariants as reasons
use Rattle.rws_wire.specs.declared.fault.WireFault.{WireFault}
use Rattle.rws_wire.specs.declared.fault.WireFault.TheVariants as faults
use Rattle.rws_msgs.specs.declared.response.Response.{Response}
use Rattle.rws_msgs.specs.ErrLayout.{err_bytes}
use Rattle.rws_msgs.specs.GreetingLayout.{greeting_bytes}
use Rattle.rws_msgs.specs.OkLayout.{ok_bytes}
use Rattle.rws_msgs.specs.SwitchLayout.{switch_bytes}
use Rattle.rws_config.specs.declared.account.Account.{Account}
use Rattle.rws_config.specs.declared.config.Config.{Config}
use Rattle.rws_config.specs.declared.limits.TheConstants.{FLOOD_ROOM}
use Rattle.rws_front.specs.declared.phase.Phase.TheVariants.{Greets, AwaitsResponse, AwaitsAnswer, LogsIn, Commands}
use Rattle.rws_front.specs.declared.step.FrontStep.{FrontStep}
use Rattle.rws_front.specs.declared.step.FrontStep.TheVariants as fronts
use Rattle.rws_front.specs.Accesses.{account_of, is_answer}
use Rattle.rws_front.specs.Fronting.{Fronting}
use Rattle.rws_front.specs.Messages.{greeting_of, switch_of, welcome}
use Rattle.rws_front.specs.Connection.{fault_number, is_native, response_in}
use Rattle.rws_front.specs.Laws.{IsProved}
use Rattle.rws_commands.specs.declared.command.Command.{Command}
use Rattle.rws_record.specs.Item.{Item}
use Rattle.rws_record.specs.Item.Item.{Connects, Takes, Floods, Puts}
use Rattle.rws_commands.specs.declared.judged.Judged.TheVariants.{Serves}
use Rattle.rws_record.specs.Item.Put.{Hands}
use Rattle.rws_commands.specs.Judging.{judged}
use Rattle.rws_record.specs.Values.{fronted, held, pending, statements}
use Rattle.rws_record.specs.Rules.{situation}

-- what the client's bytes begin with, whose next packet is to have this number
abbrev pub begins_with : Config → Fronting → (first : ℕ) → Beginning
begins_with config front first = first_payload config.command_bytes first front.stream.held

-- Its commands

-- The record's newest item takes up this command, whose reply begins with this number: the payload that the client's bytes
-- began with, where it had logged in and no command before waited for its answer.
pub data Took (config : Config) (payload : List ℕ) (number : ℕ) : List Item → Type 0 where
  took : {past : List Item} {rest : List ℕ} → pending past ≡ None → (fronted config past).phase ≡ Commands
      → begins_with config (fronted config past) 0 ≡ Whole payload number rest
      → Took config payload number (Takes (judged (situation config past) (statements config past) payload number) number ∷ past)

-- the command was taken up from the client's bytes, and is one for a server
pub data Asked (config : Config) (command : Command) : List Item → Type 0 where
  here : {past : List Item} {payload : List ℕ} → Took config payload command.number (Takes (Serves command) command.number ∷ past)
      → Asked config command (Takes (Serves command) command.number ∷ past)
  before : {item : Item} {past : List Item} → Asked config command past → Asked config command (item ∷ past)

-- the client's command that isn't answered yet
pub record IsPending (config : Config) (command : Command) (past : List Item) : Type 0 where
  pub waits : pending past ≡ Some command
  pub asked : Asked config command past

-- The record's newest item notes a flood: behind a command that isn't answered there are at least so many bytes of the client,
-- which is one more than a command and the room beside it may have.
pub data Flooded (config : Config) (bytes : ℕ) : List Item → Type 0 where
  flooded : {past : List Item} (command : Command) → IsPending config command past
      → bytes ≡ config.command_bytes + FLOOD_ROOM + 1 → bytes ≤ length (held config past)
      → Flooded config bytes (Floods bytes ∷ past)

-- Its login

-- the response to the greeting is awaited, and came: this payload, in packets from 1 on; a reply to it has this number
pub record Responded (config : Config) (front : Fronting) (payload : List ℕ) (number : ℕ) : Type 0 where
  pub awaited : front.phase ≡ AwaitsResponse
  pub rest : List ℕ
  pub came : begins_with config front 1 ≡ Whole payload number rest

-- A client that responded so has answered the scramble by this: in its response, by the plugin that is offered, or when it was
-- asked for an answer by that plugin.
pub data Proved (config : Config) (front : Fronting) (response : Response) (answer : List ℕ) (number : ℕ) : Type 0 where
  at_once : {payload : List ℕ} → Responded config front payload number → response_in payload ≡ Some response
      → is_native response.plugin ≡ true → answer ≡ response.answer → Proved config front response answer number
  when_asked : {asked : ℕ} {rest : List ℕ} → front.phase ≡ AwaitsAnswer response asked
      → begins_with config front (next_number asked) ≡ Whole answer number rest → Proved config front response answer number

-- whether an answer to the scramble is that of the password for which this is stored; of an empty one, for which nothing is, it
-- is empty
abbrev pub is_right : Option (List ℕ) → (scramble answer : List ℕ) → Bool
is_right None scramble answer = length answer == 0
is_right (Some stored) scramble answer = is_answer stored scramble answer

-- an account, if there is one, is that of who answers so
abbrev pub is_its : Option Account → (scramble answer : List ℕ) → Bool
is_its None scramble answer = false
is_its (Some account) scramble answer = is_right account.stored scramble answer

-- the user of the response has an account, and the answer is that of its password
abbrev pub may_enter : Config → Fronting → Response → (answer : List ℕ) → Bool
may_enter config front response answer = is_its (account_of config.accounts response.user) front.scramble answer

-- what is sent to the client in its login: the greeting, the question for an answer by the native plugin, or the OK
pub data Sent (config : Config) (front : Fronting) : List ℕ → Type 0 where
  greeting : front.phase ≡ Greets → Sent config front (spelling 0 (greeting_bytes (greeting_of front.session front.scramble)))
  question : {payload : List ℕ} {response : Response} {number : ℕ} → Responded config front payload number
      → response_in payload ≡ Some response → is_native response.plugin ≡ false
      → Sent config front (spelling number (switch_bytes (switch_of front.scramble)))
  ok : {response : Response} {answer : List ℕ} {number : ℕ} → Proved config front response answer number
      → may_enter config front response answer ≡ true
      → Sent config front (spelling number (ok_bytes false welcome))

-- The client's packets have this fault, and the error that says so has this number: 1 with the commands; in the login the one
-- behind the last packet of the client that came whole and in order.
pub data Broken (config : Config) (front : Fronting) (fault : WireFault) : (number : ℕ) → Type 0 where
  in_response : front.phase ≡ AwaitsResponse → begins_with config front 1 ≡ Faulty fault
      → Broken config front fault (fault_number 1 1 fault)
  in_answer : {response : Response} {asked : ℕ} → front.phase ≡ AwaitsAnswer response asked
      → begins_with config front (next_number asked) ≡ Faulty fault
      → Broken config front fault (fault_number asked (next_number asked) fault)
  in_commands : front.phase ≡ Commands → begins_with config front 0 ≡ Faulty fault → Broken config front fault 1

-- an error, in packets from this number on
abbrev pub error_with : (number code : ℕ) → (state text : List ℕ) → List ℕ
error_with number code state text = spelling number (err_bytes (record { code = code; state = state; text = text }))

-- why the client isn't let in, or isn't read on, and the error that says so
pub data Refused (config : Config) (front : Fronting) : (error : List ℕ) → CloseReason → Type 0 where
  -- its response isn't one, or speaks another protocol or TLS
  not_spoken : {payload : List ℕ} {number : ℕ} → Responded config front payload number → response_in payload ≡ None
      → Refused config front (error_with number 1043 (codes "08S01") (codes "bad handshake")) reasons.Handshake
  -- it has no account, or the answer isn't that of the password
  denied : {response : Response} {answer : List ℕ} {number : ℕ} → Proved config front response answer number
      → may_enter config front response answer ≡ false
      → Refused config front (error_with number 1045 (codes "28000") (codes "access denied")) reasons.Access
  out_of_order : {want got number : ℕ} → Broken config front (faults.OutOfOrder want got) number
      → Refused config front (error_with number 1156 (codes "08S01") (codes "packets out of order")) (reasons.OutOfOrder want got)
  too_large : {length number : ℕ} → Broken config front (faults.TooLarge length) number
      → Refused config front (error_with number 1153 (codes "08S01") (codes "command too large")) (reasons.TooLarge length)

-- what came of the client but for its commands; who logs in has proved the password of its account
abbrev pub IsSaid : Config → Fronting → FrontStep → Type 0
IsSaid config front (fronts.Send packets) = Sent config front packets
IsSaid config front (fronts.LoggedIn login) = (front.phase ≡ LogsIn login) × IsProved config.accounts login.user login.stage1
IsSaid config front (fronts.End packets reason) = Refused config front packets reason
IsSaid config front _ = ⊥

-- these packets are to be sent to the client, as the newest item says
pub data Handed (config : Config) (packets : List ℕ) : List Item → Type 0 where
  in_login : {past : List Item} → Sent config (fronted config past) packets
      → Handed config packets (Connects (fronts.Send packets) ∷ past)
  at_end : {past : List Item} {reason : CloseReason} → Refused config (fronted config past) packets reason
      → Handed config packets (Connects (fronts.End packets reason) ∷ past)

-- the client was refused for this reason, and then told
pub data WasRefused (config : Config) (reason : CloseReason) : List Item → Type 0 where
  refused : {past : List Item} {packets : List ℕ} → Refused config (fronted config past) packets reason
      → WasRefused config reason (Puts (Hands packets) ∷ Connects (fronts.End packets reason) ∷ past)

-- Too little came for anything to come of the client: of its response, of the answer that it was asked for, or of a command.
pub data IsAwaited (config : Config) (front : Fronting) : Type 0 where
  for_response : front.phase ≡ AwaitsResponse → begins_with config front 1 ≡ Nothing → IsAwaited config front
  for_answer : {response : Response} {asked : ℕ} → front.phase ≡ AwaitsAnswer response asked
      → begins_with config front (next_number asked) ≡ Nothing → IsAwaited config front
  for_command : front.phase ≡ Commands → begins_with config front 0 ≡ Nothing → IsAwaited config front
