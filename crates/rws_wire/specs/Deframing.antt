-- What a `Deframer` holds, and what it hands out next.
use Rattle.std.specs.Prelude.{◌≡◌, ℕ, List, Option, Some, None, Result, Ok, Err}
use Rattle.rws_wire.specs.declared.fault.NextError.{NextError}
use Rattle.rws_wire.specs.declared.fault.NextError.TheVariants.{Fault, OutOfMemory}
use Rattle.rws_wire.specs.declared.fault.WireFault.{WireFault}
use Rattle.rws_wire.specs.declared.payload.Payload.{Payload}
use Rattle.rws_wire.specs.Payloads.{Beginning, Nothing, Whole, Faulty, first_payload}

-- the greatest length of a payload, the bytes that were fed and not handed out, and the fault that was answered
pub record Deframing : Type 0 where
  pub limit : ℕ
  pub held : List ℕ
  pub stopped : Option WireFault

abbrev pub unless_stopped : Option WireFault → Beginning → Beginning
unless_stopped (Some fault) beginning = Faulty fault
unless_stopped None beginning = beginning

-- what comes next: for good the fault that was answered, else what the held bytes begin with
abbrev pub next_of : Deframing → ℕ → Beginning
next_of d first = unless_stopped d.stopped (first_payload d.limit first d.held)

-- bytes begin with a whole payload
abbrev pub IsWhole : Beginning → Type 0
IsWhole (Whole payload next rest) = Unit {0}
IsWhole Nothing = ⊥
IsWhole (Faulty fault) = ⊥

-- What is handed out where the next packet is to have the number `first`, and what is held from then on.
abbrev pub HandsOut : Deframing → ℕ → Result (Option Payload) NextError → Deframing → Type 0
-- the next whole payload, whose bytes are held no longer
HandsOut old first (Ok (Some payload)) new =
    (next_of old first ≡ Whole payload.bytes payload.next new.held) × (new ≡ record old { held = new.held })
-- nothing, as no payload is whole and no fault shows
HandsOut old first (Ok None) new = (next_of old first ≡ Nothing) × (new ≡ old)
-- the stream's fault, which stays for good
HandsOut old first (Err (Fault fault)) new = (next_of old first ≡ Faulty fault) × (new ≡ record old { stopped = Some fault })
-- nothing, as memory is wanted for a payload that is whole, and is held as before
HandsOut old first (Err OutOfMemory) new = IsWhole (next_of old first) × (new ≡ old)
