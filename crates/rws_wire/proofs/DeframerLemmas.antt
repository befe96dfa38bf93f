-- What is left of the bytes behind a payload.
use Rattle.std.proofs.Common.{◌≡◌, ℕ, ◌+◌, ◌-◌, ◌≤◌, List, ◌++◌, length, take, drop, None, refl, sym, ap, ◌∙◌, arith}
use Rattle.std.proofs.lemmas.List.{drop_at, drop-drop, length-append, length-drop, take_rest}
use Rattle.rws_wire.specs.declared.fault.WireFault.{WireFault}
use Rattle.rws_wire.specs.declared.gathering.Look.TheVariants as looks
use Rattle.rws_wire.specs.Payloads.{Beginning, Nothing, Whole, Faulty, first_payload}
use Rattle.rws_wire.specs.Gathering.{look_of}
use Rattle.rws_wire.specs.Deframing.{Deframing, next_of}

-- what is behind the bytes from start on, found by its length
pub record IsBehind (start : ℕ) (bytes front behind : List ℕ) : Type 0 where
  pub fits : length behind ≤ length bytes
  pub left : drop (length bytes - length behind) bytes ≡ behind
  pub spelled : drop start bytes ≡ front ++ drop (length bytes - length behind) bytes

pub is_behind : (start : ℕ) (bytes front behind : List ℕ) → start ≤ length bytes → take (length bytes - start) (drop start bytes) ≡ front ++ behind
    → IsBehind start bytes front behind
is_behind start bytes front behind within h =
    let e : drop start bytes ≡ front ++ behind = sym (take_rest bytes start) ∙ h in
    let sizes : length bytes - start ≡ length front + length behind = sym (length-drop start bytes) ∙ ap length e ∙ length-append front behind in
    let place : length bytes - length behind ≡ start + length front = omega arith in
    let left : drop (length bytes - length behind) bytes ≡ behind =
    ap (λ (n : ℕ). drop n bytes) place ∙ sym (drop-drop (length front) start bytes) ∙ ap (drop (length front)) e ∙ drop_at front behind (length front) refl in
    record {
      fits = omega arith;
      left = left;
      spelled = e ∙ ap (λ (t : List ℕ). front ++ t) (sym left);
    }

-- ---- faults

-- a fault that headers tell is what the bytes begin with
pub fault_of_look : (beginning : Beginning) (fault : WireFault) → looks.Bad fault ≡ look_of beginning → beginning ≡ Faulty fault
fault_of_look Nothing fault e = absurd cc
fault_of_look (Whole payload next rest) fault e = absurd cc
fault_of_look (Faulty found) fault e = let same : found ≡ fault = cc in ap (λ (f : WireFault). Faulty f) same

-- what comes next where no fault was answered
pub next_unstopped : (d : Deframing) (first limit start : ℕ) (bytes : List ℕ) (beginning : Beginning) → d.stopped ≡ None → limit ≡ d.limit → drop start bytes ≡ d.held
    → first_payload limit first (take (length bytes - start) (drop start bytes)) ≡ beginning → next_of d first ≡ beginning
next_unstopped d first limit start bytes beginning none same held e =
    rw (none, ← same, ← held) (ap (first_payload limit first) (sym (take_rest bytes start)) ∙ e)
