-- A step that wants no more bytes stays the same when more come.
use Rattle.std.proofs.Common.{◌≡◌, ℕ, List, ◌++◌, Option, Some, None, refl, ap}
use Rattle.rws_wire.specs.declared.fault.WireFault.{WireFault}
use Rattle.rws_wire.specs.Deframing.{next_of}
use Rattle.rws_wire.specs.Packets.{next_number}
use Rattle.rws_wire.specs.Payloads.{Beginning, Nothing, Whole, Faulty, first_payload}
use Rattle.rws_wire.proofs.PayloadLemmas.{first_payload-Whole-append, first_payload-Faulty-append}
use Rattle.rws_config.specs.declared.account.Account.{Account}
use Rattle.rws_front.specs.declared.phase.Phase.{Phase}
use Rattle.rws_front.specs.declared.phase.Phase.TheVariants.{Greets, AwaitsResponse, AwaitsAnswer, LogsIn, Commands, Ended}
use Rattle.rws_front.specs.declared.step.FrontStep.{FrontStep}
use Rattle.rws_front.specs.declared.step.FrontStep.TheVariants.{Idle, Send, LoggedIn, Command, End}
use Rattle.rws_front.specs.Accesses.{access_of}
use Rattle.rws_front.specs.Fronting.{Fronting, fed}
use Rattle.rws_front.specs.Connection.{settled, responded, response_in, fault_number, heard, step_of}
use Rattle.rws_front.specs.Laws.{IsSame, StepsAreKept}

same : (step : FrontStep) (new : Fronting) (more : List ℕ) (then : FrontStep × Fronting) → then ≡ (step, fed new more) → IsSame more (step, new) then
same Idle new more then is = tt
same (Send bytes) new more then is = is
same (LoggedIn login) new more then is = is
same (Command payload) new more then is = is
same (End bytes reason) new more then is = is

-- by what the bytes begin with
by_beginning : (front : Fronting) (more : List ℕ) (reply : List ℕ → ℕ → FrontStep × Phase) (number : WireFault → ℕ) (first : ℕ) (beginning : Beginning)
    → first_payload front.stream.limit first front.stream.held ≡ beginning
    → IsSame more (heard front reply number beginning)
    (heard (fed front more) reply number (first_payload front.stream.limit first (front.stream.held ++ more)))
by_beginning front more reply number first Nothing is = tt
by_beginning front more reply number first (Whole payload next rest) is =
    same (reply payload next).0 (record front { phase = (reply payload next).1; stream = record front.stream { held = rest } }) more _
    (ap (heard (fed front more) reply number) (first_payload-Whole-append front.stream.limit first front.stream.held more payload next rest is))
by_beginning front more reply number first (Faulty fault) is =
    ap (heard (fed front more) reply number) (first_payload-Faulty-append front.stream.limit first front.stream.held more fault is)

-- a fault that was answered stays
by_stop : (session : ℕ) (scramble : List ℕ) (phase : Phase) (limit : ℕ) (held : List ℕ) (stopped : Option WireFault) (more : List ℕ)
    → (reply : List ℕ → ℕ → FrontStep × Phase) (number : WireFault → ℕ) (first : ℕ)
    → let front : Fronting = record { session = session; scramble = scramble; phase = phase; stream = record { limit = limit; held = held; stopped = stopped } } in
    IsSame more (heard front reply number (next_of front.stream first)) (heard (fed front more) reply number (next_of (fed front more).stream first))
by_stop session scramble phase limit held (Some fault) more reply number first = refl
by_stop session scramble phase limit held None more reply number first =
    by_beginning (record { session = session; scramble = scramble; phase = phase; stream = record { limit = limit; held = held; stopped = None } })
    more reply number first (first_payload limit first held) refl

by_phase : (accounts : List Account) (session : ℕ) (scramble : List ℕ) (phase : Phase) (limit : ℕ) (held : List ℕ) (stopped : Option WireFault) (more : List ℕ)
    → let front : Fronting = record { session = session; scramble = scramble; phase = phase; stream = record { limit = limit; held = held; stopped = stopped } } in
    IsSame more (step_of accounts front) (step_of accounts (fed front more))
by_phase accounts session scramble Greets limit held stopped more = refl
by_phase accounts session scramble AwaitsResponse limit held stopped more =
    by_stop session scramble AwaitsResponse limit held stopped more
    (λ payload next. responded accounts scramble (response_in payload) next) (fault_number 1 1) 1
by_phase accounts session scramble (AwaitsAnswer response asked) limit held stopped more =
    by_stop session scramble (AwaitsAnswer response asked) limit held stopped more
    (λ payload next. settled (access_of accounts response.user scramble payload) response next) (fault_number asked (next_number asked))
    (next_number asked)
by_phase accounts session scramble (LogsIn login) limit held stopped more = refl
by_phase accounts session scramble Commands limit held stopped more =
    by_stop session scramble Commands limit held stopped more
    (λ payload next. (Command (record { bytes = payload; next = next }), Commands)) (λ fault. 1) 0
by_phase accounts session scramble (Ended reason) limit held stopped more = refl

pub steps_are_kept : StepsAreKept
steps_are_kept accounts front more =
    by_phase accounts front.session front.scramble front.phase front.stream.limit front.stream.held front.stream.stopped more
