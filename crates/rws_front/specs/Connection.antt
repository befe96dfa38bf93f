-- A connection as a front sees it, step by step ("Connection"): the greeting, the client's response, a switch to the native
-- plugin with the client's answer to it, the OK, and then the commands.
use Rattle.std.specs.Prelude.{ℕ, ◌+◌, ◌-◌, ◌/◌, ◌%◌, ◌≡◌, Bool, true, false, not, ◌&&◌, ◌==◌, if◌then◌else◌, bit_and, List, [], Option, Some, None}
use Rattle.std.specs.Option.{option_and_then}
use Rattle.std.specs.Result.{result_ok}
use Rattle.std.specs.Str.{bytes_eq}
use Rattle.rws_wire.specs.declared.close_reason.CloseReason.TheVariants.{Memory}
use Rattle.rws_wire.specs.declared.fault.WireFault.{WireFault}
use Rattle.rws_wire.specs.declared.fault.WireFault.TheVariants.{OutOfOrder, TooLarge}
use Rattle.rws_wire.specs.Packets.{full_packet, next_number, spelling}
use Rattle.rws_wire.specs.Payloads.{Beginning, Nothing, Whole, Faulty}
use Rattle.rws_wire.specs.Deframing.{Deframing, next_of}
use Rattle.rws_wire.specs.Due.{number_due}
use Rattle.rws_msgs.specs.declared.capability.TheConstants.{OFFERED_TO_CLIENTS, PROTOCOL_41, SECURE_CONNECTION, SSL}
use Rattle.rws_msgs.specs.declared.response.Response.{Response}
use Rattle.rws_msgs.specs.ErrLayout.{err_bytes}
use Rattle.rws_msgs.specs.GreetingLayout.{greeting_bytes}
use Rattle.rws_msgs.specs.OkLayout.{ok_bytes}
use Rattle.rws_msgs.specs.ResponseLayout.{has, response_at}
use Rattle.rws_msgs.specs.SwitchLayout.{switch_bytes}
use Rattle.rws_native.specs.declared.login.Login.{Login}
use Rattle.rws_config.specs.declared.account.Account.{Account}
use Rattle.rws_front.specs.declared.access.Access.{Access}
use Rattle.rws_front.specs.declared.access.Access.TheVariants.{Denied, Granted}
use Rattle.rws_front.specs.declared.phase.Phase.{Phase}
use Rattle.rws_front.specs.declared.phase.Phase.TheVariants.{Greets, AwaitsResponse, AwaitsAnswer, LogsIn, Commands, Ended}
use Rattle.rws_front.specs.declared.refusal.Refusal.{Refusal}
use Rattle.rws_front.specs.declared.refusal.Refusal.TheVariants.{BadHandshake, AccessDenied, Fault}
use Rattle.rws_front.specs.declared.step.FrontStep.{FrontStep}
use Rattle.rws_front.specs.declared.step.FrontStep.TheVariants.{Idle, Send, LoggedIn, Command, End}
use Rattle.rws_front.specs.Accesses.{access_of}
use Rattle.rws_front.specs.Fronting.{Fronting}
use Rattle.rws_front.specs.Messages.{native_plugin, greeting_of, switch_of, welcome}
use Rattle.rws_front.specs.Refusals.{error_of, reason_of}

-- the error in a packet of this number, and then nothing more
abbrev pub refused : Refusal → ℕ → FrontStep × Phase
refused refusal number = (End (spelling number (err_bytes (error_of refusal))) (reason_of refusal), Ended (reason_of refusal))

-- what is kept of a login that was accepted; of the client's capabilities those that it was offered
abbrev pub login_of : Response → Option (List ℕ) → Login
login_of response stage1 = record {
  user = response.user;
  stage1 = stage1;
  database = response.database;
  charset = response.charset;
  flags = bit_and response.flags OFFERED_TO_CLIENTS;
}

-- a login is accepted or refused, in the packet with this number
abbrev pub settled : Access → Response → ℕ → FrontStep × Phase
settled Denied response number = refused AccessDenied number
settled (Granted stage1) response number = (Send (spelling number (ok_bytes false welcome)), LogsIn (login_of response stage1))

-- the client's capabilities are those of this protocol, without TLS
abbrev pub is_spoken : ℕ → Bool
is_spoken flags = has flags PROTOCOL_41 && has flags SECURE_CONNECTION && not (has flags SSL)

-- the response that a payload is, if it is one that can be taken up
abbrev pub spoken : Response → Option Response
spoken response = if is_spoken response.flags then Some response else None

abbrev pub response_in : List ℕ → Option Response
response_in payload = option_and_then spoken (result_ok (response_at payload))

-- the plugin by which the client answers; where none is named it is the native one
abbrev pub is_native : Option (List ℕ) → Bool
is_native None = true
is_native (Some plugin) = bytes_eq plugin native_plugin

-- a response is refused, asked for an answer by the native plugin, or accepted or refused by its answer
abbrev pub responded : List Account → List ℕ → Option Response → ℕ → FrontStep × Phase
responded accounts scramble None number = refused BadHandshake number
responded accounts scramble (Some response) number =
    if is_native response.plugin then settled (access_of accounts response.user scramble response.answer) response number
    else (Send (spelling number (switch_bytes (switch_of scramble))), AwaitsAnswer response number)

-- The number of the error at a fault in the login: the one behind the last packet of the client that came whole and in
-- order. That is the last full packet in front of the header at fault, or where there is none the last packet of the payload
-- before, `behind` being the number behind it.
abbrev pub fault_number : ℕ → ℕ → WireFault → ℕ
fault_number behind due (OutOfOrder want got) = if want == due then behind else want
fault_number behind due (TooLarge length) =
    let full = (length - 1) / full_packet in if full == 0 then behind else (due + full) % 256

-- What the client's bytes begin with: a payload, which is replied to by the number behind its last packet, a fault, which ends
-- the front by an error of this number, or nothing as yet.
abbrev pub heard : Fronting → (List ℕ → ℕ → FrontStep × Phase) → (WireFault → ℕ) → Beginning → FrontStep × Fronting
heard front reply number Nothing = (Idle, front)
heard front reply number (Whole payload next rest) =
    ((reply payload next).0, record front { phase = (reply payload next).1; stream = record front.stream { held = rest } })
heard front reply number (Faulty fault) = (
  (refused (Fault fault) (number fault)).0,
  record front { phase = (refused (Fault fault) (number fault)).1; stream = record front.stream { stopped = Some fault } },
)

-- each command is handed out; its packets begin at 0, and an error has 1
abbrev pub commanded : Fronting → FrontStep × Fronting
commanded front =
    heard front (λ payload next. (Command (record { bytes = payload; next = next }), Commands)) (λ fault. 1)
    (next_of front.stream 0)

-- What a front answers in each phase, and where it stands then. In the login the packets of both sides count on.
abbrev pub step_in : List Account → Fronting → Phase → FrontStep × Fronting
step_in accounts front Greets =
    (Send (spelling 0 (greeting_bytes (greeting_of front.session front.scramble))), record front { phase = AwaitsResponse })
step_in accounts front AwaitsResponse =
    heard front (λ payload next. responded accounts front.scramble (response_in payload) next) (fault_number 1 1)
    (next_of front.stream 1)
step_in accounts front (AwaitsAnswer response asked) =
    heard front (λ payload next. settled (access_of accounts response.user front.scramble payload) response next)
    (fault_number asked (next_number asked)) (next_of front.stream (next_number asked))
step_in accounts front (LogsIn login) = (LoggedIn login, record front { phase = Commands })
step_in accounts front Commands = commanded front
step_in accounts front (Ended reason) = (End [] reason, front)

abbrev pub step_of : List Account → Fronting → FrontStep × Fronting
step_of accounts front = step_in accounts front front.phase

-- the number behind the last packet of the client's answer that came, or where none did that of the question
abbrev pub behind_answer : ℕ → ℕ → ℕ
behind_answer asked due = if due == next_number asked then asked else due

-- The number of an error that is no reply to the client's bytes, as one for want of memory. Before the login is accepted it is
-- the number behind the last packet of the client that came whole and in order, or 1 where there is none; with the commands 1.
abbrev pub error_number_in : Deframing → Phase → ℕ
error_number_in stream Greets = 1
error_number_in stream AwaitsResponse = number_due stream.limit 1 stream.held
error_number_in stream (AwaitsAnswer response asked) =
    behind_answer asked (number_due stream.limit (next_number asked) stream.held)
error_number_in stream (LogsIn login) = 1
error_number_in stream Commands = 1
error_number_in stream (Ended reason) = 1

abbrev pub error_number : Fronting → ℕ
error_number front = error_number_in front.stream front.phase

-- bytes begin with a payload or a fault
abbrev pub IsHeard : Beginning → Type 0
IsHeard Nothing = ⊥
IsHeard (Whole payload next rest) = Unit {0}
IsHeard (Faulty fault) = Unit {0}

-- where memory may be wanted: for the greeting, and for a payload of the client or the error at a fault
abbrev pub MayWantMemory : Deframing → Phase → Type 0
MayWantMemory stream Greets = Unit {0}
MayWantMemory stream AwaitsResponse = IsHeard (next_of stream 1)
MayWantMemory stream (AwaitsAnswer response asked) = IsHeard (next_of stream (next_number asked))
MayWantMemory stream (LogsIn login) = ⊥
MayWantMemory stream Commands = IsHeard (next_of stream 0)
MayWantMemory stream (Ended reason) = ⊥

-- a front that had no memory for a step has ended, whatever is left of the client's bytes
abbrev pub IsSpent : Fronting → Fronting → Type 0
IsSpent old new = new ≡ record old { phase = Ended Memory; stream = new.stream }
