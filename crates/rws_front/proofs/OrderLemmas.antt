-- Each step is one of those that there are.
use Rattle.std.proofs.Common.{ℕ, Bool, true, false, cond, List, Option, Some, None}
use Rattle.rws_wire.specs.declared.fault.WireFault.{WireFault}
use Rattle.rws_wire.specs.Deframing.{Deframing, next_of}
use Rattle.rws_wire.specs.Packets.{spelling, next_number}
use Rattle.rws_wire.specs.Payloads.{Beginning, Nothing, Whole, Faulty}
use Rattle.rws_msgs.specs.declared.response.Response.{Response}
use Rattle.rws_msgs.specs.ErrLayout.{err_bytes}
use Rattle.rws_msgs.specs.SwitchLayout.{switch_bytes}
use Rattle.rws_native.specs.declared.login.Login.{Login}
use Rattle.rws_config.specs.declared.account.Account.{Account}
use Rattle.rws_front.specs.declared.access.Access.{Access}
use Rattle.rws_front.specs.declared.access.Access.TheVariants.{Denied, Granted}
use Rattle.rws_front.specs.declared.phase.Phase.{Phase}
use Rattle.rws_front.specs.declared.phase.Phase.TheVariants.{Greets, AwaitsResponse, AwaitsAnswer, LogsIn, Commands, Ended}
use Rattle.rws_front.specs.declared.refusal.Refusal.{Refusal}
use Rattle.rws_front.specs.declared.refusal.Refusal.TheVariants.{BadHandshake, AccessDenied, Fault}
use Rattle.rws_front.specs.declared.step.FrontStep.{FrontStep}
use Rattle.rws_front.specs.declared.step.FrontStep.TheVariants.{Send}
use Rattle.rws_front.specs.Accesses.{access_of}
use Rattle.rws_front.specs.Fronting.{Fronting}
use Rattle.rws_front.specs.Messages.{switch_of}
use Rattle.rws_front.specs.Refusals.{error_of, reason_of}
use Rattle.rws_front.specs.Connection.{refused, settled, responded, response_in, is_native, fault_number, heard, step_of}
use Rattle.rws_front.specs.Laws.{IsHearing, Moves, greets, asks, accepts, accepts_answer, logs_in, commands, idles, ends, has_ended, StepsAreMoves}

-- a reply and the phase behind it
abbrev MovesBy : Phase → FrontStep × Phase → Type 0
MovesBy phase reply = Moves phase reply.0 reply.1

refused_moves : (phase : Phase) (refusal : Refusal) (number : ℕ) → IsHearing phase → MovesBy phase (refused refusal number)
refused_moves phase refusal number hearing = ends phase (spelling number (err_bytes (error_of refusal))) (reason_of refusal) hearing

settled_moves : (phase : Phase) (access : Access) (response : Response) (number : ℕ) → IsHearing phase
    → ((ok : List ℕ) (login : Login) → Moves phase (Send ok) (LogsIn login)) → MovesBy phase (settled access response number)
settled_moves phase Denied response number hearing accepted = refused_moves phase AccessDenied number hearing
settled_moves phase (Granted stage1) response number hearing accepted = accepted _ _

by_plugin : (native : Bool) (scramble : List ℕ) (access : Access) (response : Response) (number : ℕ)
    → MovesBy AwaitsResponse (cond native (settled access response number) (Send (spelling number (switch_bytes (switch_of scramble))), AwaitsAnswer response number))
by_plugin true scramble access response number = settled_moves AwaitsResponse access response number tt accepts
by_plugin false scramble access response number = asks _ response number

responded_moves : (accounts : List Account) (scramble : List ℕ) (response : Option Response) (number : ℕ)
    → MovesBy AwaitsResponse (responded accounts scramble response number)
responded_moves accounts scramble None number = refused_moves AwaitsResponse BadHandshake number tt
responded_moves accounts scramble (Some response) number =
    by_plugin (is_native response.plugin) scramble (access_of accounts response.user scramble response.answer) response number

heard_moves : (front : Fronting) (reply : List ℕ → ℕ → FrontStep × Phase) (number : WireFault → ℕ) (beginning : Beginning) → IsHearing front.phase
    → ((payload : List ℕ) (next : ℕ) → MovesBy front.phase (reply payload next))
    → Moves front.phase (heard front reply number beginning).0 (heard front reply number beginning).1.phase
heard_moves front reply number Nothing hearing replies = idles front.phase hearing
heard_moves front reply number (Whole payload next rest) hearing replies = replies payload next
heard_moves front reply number (Faulty fault) hearing replies = refused_moves front.phase (Fault fault) (number fault) hearing

by_phase : (accounts : List Account) (session : ℕ) (scramble : List ℕ) (phase : Phase) (stream : Deframing)
    → let front : Fronting = record { session = session; scramble = scramble; phase = phase; stream = stream } in
    Moves phase (step_of accounts front).0 (step_of accounts front).1.phase
by_phase accounts session scramble Greets stream = greets _
by_phase accounts session scramble AwaitsResponse stream =
    heard_moves (record { session = session; scramble = scramble; phase = AwaitsResponse; stream = stream })
    (λ payload next. responded accounts scramble (response_in payload) next) (fault_number 1 1) (next_of stream 1) tt
    (λ payload next. responded_moves accounts scramble (response_in payload) next)
by_phase accounts session scramble (AwaitsAnswer response asked) stream =
    heard_moves (record { session = session; scramble = scramble; phase = AwaitsAnswer response asked; stream = stream })
    (λ payload next. settled (access_of accounts response.user scramble payload) response next) (fault_number asked (next_number asked))
    (next_of stream (next_number asked)) tt
    (λ payload next. settled_moves (AwaitsAnswer response asked) (access_of accounts response.user scramble payload) response next tt (accepts_answer response asked))
by_phase accounts session scramble (LogsIn login) stream = logs_in login
by_phase accounts session scramble Commands stream =
    heard_moves (record { session = session; scramble = scramble; phase = Commands; stream = stream }) _ (λ fault. 1) (next_of stream 0) tt
    (λ payload next. commands (record { bytes = payload; next = next }))
by_phase accounts session scramble (Ended reason) stream = has_ended reason

pub steps_are_moves : StepsAreMoves
steps_are_moves accounts front = by_phase accounts front.session front.scramble front.phase front.stream
