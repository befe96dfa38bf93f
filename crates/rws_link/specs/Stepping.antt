-- What a link is and does, as a machine on the server's bytes: its phase with the bytes that aren't read yet, and one step.
use Rattle.std.specs.Prelude.{ℕ, Bool, true, false, not, ◌&&◌, List, [], ◌∷◌, ◌++◌, Option, Some, None, if◌then◌else◌}
use Rattle.rws_wire.specs.Packets.{number_behind}
use Rattle.rws_wire.specs.Payloads.{Beginning, Nothing, Whole, Faulty, first_payload}
use Rattle.rws_reply.specs.declared.kind.Kind.{Kind}
use Rattle.rws_reply.specs.declared.kind.Progress.{Progress}
use Rattle.rws_reply.specs.declared.kind.Progress.TheVariants.{More, Whole as Ends}
use Rattle.rws_reply.specs.declared.role.Role.{Role}
use Rattle.rws_reply.specs.Tracking.{progress, role}
use Rattle.rws_config.specs.declared.limits.TheConstants.{SERVER_PAYLOAD}
use Rattle.rws_native.specs.declared.login.Login.{Login}
use Rattle.rws_link.specs.declared.handshake.Handshake.{Handshake}
use Rattle.rws_link.specs.declared.handshake.Handshake.TheVariants.{Greeting as AwaitsGreeting, Answered}
use Rattle.rws_link.specs.declared.handshake.Reaction.{Reaction}
use Rattle.rws_link.specs.declared.handshake.Reaction.TheVariants.{Answers, Accepted, Loses}
use Rattle.rws_link.specs.declared.step.LinkCause.{LinkCause}
use Rattle.rws_link.specs.declared.step.LinkCause.TheVariants.{BadWire, BadReply, Unasked}
use Rattle.rws_link.specs.declared.step.LinkStep.{LinkStep}
use Rattle.rws_link.specs.declared.step.LinkStep.TheVariants as steps
use Rattle.rws_link.specs.Handshake.{awaits_greeting, due, reaction}

-- a reply that the server owes: its kind, the number of the packet that comes next, and the payloads so far
pub record Exchange : Type 0 where
  pub kind : Kind
  pub next : ℕ
  pub sofar : List (List ℕ)

-- what a link waits for; where that is the server's word, with the bytes that came and aren't read
pub data LinkState : Type 0 where
  -- the next payload of the login
  LogsIn : Handshake → (unread : List ℕ) → LinkState
  -- a command: nothing was asked, and no byte came since
  Rests : LinkState
  -- the next payload of a reply
  Awaits : Exchange → (unread : List ℕ) → LinkState
  -- nothing any more
  IsLost : LinkCause → LinkState

abbrev pub is_some_byte : List ℕ → Bool
is_some_byte [] = false
is_some_byte (byte ∷ bytes) = true

-- What is done to a link

-- before any byte came
abbrev pub opened : Login → LinkState
opened login = LogsIn (AwaitsGreeting login) []

-- the greeting is awaited, and no byte of it came
abbrev pub is_new : LinkState → Bool
is_new (LogsIn handshake unread) = awaits_greeting handshake && not (is_some_byte unread)
is_new _ = false

-- greeting and login count as done on a new link; any other stays as it is
abbrev pub readied : LinkState → LinkState
readied link = if is_new link then Rests else link

-- Bytes come. Where the server was asked nothing the first one costs the link, and a lost one reads none.
abbrev pub fed : List ℕ → LinkState → LinkState
fed piece (LogsIn handshake unread) = LogsIn handshake (unread ++ piece)
fed [] Rests = Rests
fed (byte ∷ bytes) Rests = IsLost Unasked
fed piece (Awaits e unread) = Awaits e (unread ++ piece)
fed piece (IsLost cause) = IsLost cause

-- A command is sent on a link that rests, in packets from the number 0 on. Its reply, if it has one, counts on from them.
abbrev pub sent : List ℕ → Option Kind → LinkState
sent payload (Some kind) = Awaits (record { kind = kind; next = number_behind 0 payload; sofar = [] }) []
sent payload None = Rests

-- What comes next on a link

pub record Step : Type 0 where
  pub answer : LinkStep
  pub after : LinkState

abbrev pub lost : LinkCause → Step
lost cause = record { answer = steps.Lost cause; after = IsLost cause }

-- behind the last payload that the server owed it was asked nothing
abbrev pub settled : List ℕ → LinkState
settled [] = Rests
settled (byte ∷ bytes) = IsLost Unasked

-- a login that the server took, with a byte behind its word, is none
abbrev pub logged_in : List ℕ → Step
logged_in [] = record { answer = steps.LoggedIn; after = Rests }
logged_in (byte ∷ bytes) = lost Unasked

abbrev pub reacted : List ℕ → Reaction → Step
reacted rest (Answers bytes stage1 next) = record { answer = steps.Send bytes; after = LogsIn (Answered stage1 next) rest }
reacted rest Accepted = logged_in rest
reacted rest (Loses cause) = lost cause

-- the reply with this payload
abbrev pub with_part : List ℕ → ℕ → Exchange → Exchange
with_part payload next e = record e { next = next; sofar = e.sofar ++ payload ∷ [] }

abbrev pub behind_part : Exchange → List ℕ → Progress → LinkState
behind_part e rest More = Awaits e rest
behind_part e rest (Ends outcome) = settled rest

-- a payload has a role and brings the reply on, or the payloads begin no reply of the kind
abbrev pub replied_by : Exchange → List ℕ → ℕ → List ℕ → Option Role → Option Progress → Step
replied_by e payload next rest (Some role) (Some progress) = record {
  answer = steps.Part payload role progress next (is_some_byte rest);
  after = behind_part (with_part payload next e) rest progress;
}
replied_by e payload next rest _ _ = lost BadReply

abbrev pub replied : Exchange → List ℕ → ℕ → List ℕ → Step
replied e payload next rest =
    replied_by e payload next rest (role e.kind e.sofar payload) (progress e.kind e.sofar payload)

-- the bytes begin with a whole payload, with a fault, or with neither as yet
abbrev pub read_by : LinkState → (List ℕ → ℕ → List ℕ → Step) → Beginning → Step
read_by link on_payload Nothing = record { answer = steps.Idle; after = link }
read_by link on_payload (Whole payload next rest) = on_payload payload next rest
read_by link on_payload (Faulty fault) = lost BadWire

abbrev pub step : LinkState → Step
step (LogsIn handshake unread) =
    read_by (LogsIn handshake unread) (λ payload next rest. reacted rest (reaction handshake payload next))
    (first_payload SERVER_PAYLOAD (due handshake) unread)
step Rests = record { answer = steps.Idle; after = Rests }
step (Awaits e unread) = read_by (Awaits e unread) (replied e) (first_payload SERVER_PAYLOAD e.next unread)
step (IsLost cause) = lost cause
