-- What a link keeps, for one who holds it: they need not look inside, as a link that stands for a state goes on as the state
-- does.
use Rattle.std.specs.Prelude.{true, ◌≡◌, ◌==◌, ℕ, ◌≤◌, Bool, false, List, [], ◌++◌, length, Option, Some, None, Result, Ok, Err}
use Rattle.rws_wire.specs.declared.fault.NextError.{NextError}
use Rattle.rws_wire.specs.declared.fault.NextError.TheVariants.{Fault, OutOfMemory}
use Rattle.rws_wire.specs.declared.payload.Payload.{Payload}
use Rattle.rws_wire.specs.Packets.{number_behind, spelling}
use Rattle.rws_wire.specs.Payloads.{Nothing, Whole, Faulty, first_payload}
use Rattle.rws_reply.specs.Tracking.{tracked}
use Rattle.rws_config.specs.declared.limits.TheConstants.{SERVER_PAYLOAD}
use Rattle.rws_link.specs.declared.handshake.Handshake.{Handshake}
use Rattle.rws_link.specs.declared.phase.Awaited.{Awaited}
use Rattle.rws_link.specs.declared.phase.Phase.{Phase}
use Rattle.rws_link.specs.declared.phase.Phase.TheVariants as phases
use Rattle.rws_link.specs.declared.step.LinkCause.{LinkCause}
use Rattle.rws_link.specs.declared.step.LinkStep.{LinkStep}
use Rattle.rws_link.specs.Handshake.{due}
use Rattle.rws_link.specs.Stepping.{Exchange, LinkState, LogsIn, Rests, Awaits, IsLost, Step}

-- a phase, with the bytes that aren't read
pub data Linking : Type 0 where
  Opening : Handshake → (unread : List ℕ) → Linking
  Ready : (unread : List ℕ) → Linking
  Awaiting : Awaited → (unread : List ℕ) → Linking
  Lost : LinkCause → (unread : List ℕ) → Linking

abbrev pub awaited_of : Exchange → Awaited
awaited_of e = record { next = e.next; tracker = tracked e.kind e.sofar }

-- the link that stands for a state
abbrev pub kept : LinkState → Linking
kept (LogsIn handshake unread) = Opening handshake unread
kept Rests = Ready []
kept (Awaits e unread) = Awaiting (awaited_of e) unread
kept (IsLost cause) = Lost cause []

-- a command may be sent: the login is done, and nothing is awaited
abbrev pub IsReady : Linking → Type 0
IsReady (Ready unread) = Unit {0}
IsReady (Opening handshake unread) = ⊥
IsReady (Awaiting awaited unread) = ⊥
IsReady (Lost cause unread) = ⊥

-- a reply is awaited
abbrev pub is_awaiting : Linking → Bool
is_awaiting (Opening handshake unread) = false
is_awaiting (Ready unread) = false
is_awaiting (Awaiting awaited unread) = true
is_awaiting (Lost cause unread) = false

-- the link that stands for a state takes a step of the state
abbrev pub Takes : Step → LinkStep → Linking → Type 0
Takes step answer new = (answer ≡ step.answer) × (new ≡ kept step.after)

-- The fields of a link

-- the bytes of a payload that was read and couldn't be answered for want of memory
abbrev pub taken : ℕ → Option Payload → List ℕ
taken first (Some payload) = spelling first payload.bytes
taken first None = []

abbrev pub nothing_came : Option Payload → ℕ → Bool
nothing_came (Some payload) held = false
nothing_came None held = held == 0

abbrev pub linking : Phase → List ℕ → Linking
linking (phases.Opening handshake came) held = Opening handshake (taken (due handshake) came ++ held)
linking phases.Ready held = Ready held
linking (phases.Awaiting awaited) held = Awaiting awaited held
linking (phases.Lost cause) held = Lost cause held

-- it was read from its one spelling from this number on
abbrev pub IsRead : ℕ → Payload → Type 0
IsRead first payload = (payload.next ≡ number_behind first payload.bytes) × (length payload.bytes ≤ SERVER_PAYLOAD)

abbrev pub CameWhole : ℕ → Option Payload → Type 0
CameWhole first (Some payload) = IsRead first payload
CameWhole first None = Unit {0}

abbrev pub IsSound : Phase → Type 0
IsSound (phases.Opening handshake came) = CameWhole (due handshake) came
IsSound phases.Ready = Unit {0}
IsSound (phases.Awaiting awaited) = Unit {0}
IsSound (phases.Lost cause) = Unit {0}

abbrev pub held_of : Linking → List ℕ
held_of (Opening handshake unread) = unread
held_of (Ready unread) = unread
held_of (Awaiting awaited unread) = unread
held_of (Lost cause unread) = unread

-- What the unread bytes begin with comes out of them.
abbrev pub Arrives : ℕ → List ℕ → Result (Option Payload) NextError → Linking → Type 0
Arrives first bytes (Ok (Some payload)) new =
    (new ≡ Ready (held_of new)) × (first_payload SERVER_PAYLOAD first bytes ≡ Whole payload.bytes payload.next (held_of new))
    × (bytes ≡ spelling first payload.bytes ++ held_of new)
Arrives first bytes (Ok None) new = (first_payload SERVER_PAYLOAD first bytes ≡ Nothing) × (new ≡ Ready bytes)
Arrives first bytes (Err (Fault fault)) new = first_payload SERVER_PAYLOAD first bytes ≡ Faulty fault
Arrives first bytes (Err OutOfMemory) new = new ≡ Ready bytes
