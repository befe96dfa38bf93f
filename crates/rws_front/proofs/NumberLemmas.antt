-- The number of an error counts the client's packets.
use Rattle.std.proofs.Common.{◌≡◌, ℕ, zero, suc, ◌+◌, ◌-◌, ◌*◌, ◌/◌, ◌%◌, ◌<◌, ◌≤◌, ◌^◌, Bool, cond, ◌==◌, List, length, refl, sym, ap, ◌∙◌, arith}
use Rattle.std.proofs.lemmas.Bool.{eq-eqb, ne_eqb}
use Rattle.rws_wire.specs.declared.fault.WireFault.{WireFault}
use Rattle.rws_wire.specs.Packets.{full_packet}
use Rattle.rws_wire.specs.Payloads.{Beginning, Nothing, Whole, Faulty}
use Rattle.rws_wire.specs.Beginnings.{due, Begins, whole, other_number, too_large, short_header, short_packet}
use Rattle.rws_front.specs.Connection.{fault_number}
use Rattle.rws_front.specs.Laws.{behind_full, full_before, ErrorsAreNumbered}

-- of a fault that bytes begin with
abbrev OfFault : Beginning → (WireFault → Type 0) → Type 0
OfFault Nothing P = Unit {0}
OfFault (Whole payload next rest) P = Unit {0}
OfFault (Faulty fault) P = P fault

-- fewer than 256 full packets are within the limit
few_packets : (limit full : ℕ) (carried : List ℕ) → limit < 256 * full_packet → length carried ≡ full * full_packet → length carried ≤ limit → full < 256
unfolding full_packet
few_packets limit full carried few size within = omega arith

wrong_number : (behind first full : ℕ) → first < 256 → full < 256
    → cond (due first full == first) behind (due first full) ≡ behind_full behind first full
wrong_number behind first zero low small =
    ap (λ (b : Bool). cond b behind (due first zero)) (eq-eqb (due first zero) first (omega arith))
wrong_number behind first (suc full) low small =
    ap (λ (b : Bool). cond b behind (due first (suc full))) (ne_eqb (due first (suc full)) first (λ h. omega arith))

-- the header at fault announces at least one byte, and no more than a full packet
packets_of : (limit full announced : ℕ) → full * full_packet ≤ limit → announced < 2 ^ 24 → limit < full * full_packet + announced
    → (full * full_packet + announced - 1) / full_packet ≡ full
unfolding full_packet
packets_of limit full announced within small above = omega arith

too_long : (behind first full : ℕ) → cond (full == 0) behind ((first + full) % 256) ≡ behind_full behind first full
too_long behind first zero = refl
too_long behind first (suc full) =
    ap (λ (b : Bool). cond b behind ((first + suc full) % 256)) (ne_eqb (suc full) 0 (λ h. omega arith))

numbered : (limit behind first : ℕ) (bytes : List ℕ) (beginning : Beginning) → limit < 256 * full_packet → first < 256
    → (begins : Begins limit first bytes beginning)
    → OfFault beginning (λ fault. fault_number behind first fault ≡ behind_full behind first (full_before begins))
numbered limit behind first bytes beginning few low (whole payload rest spelled within) = tt
numbered limit behind first bytes beginning few low (other_number full announced got rest leads other) =
    wrong_number behind first full low (few_packets limit full leads.carried few leads.size leads.within)
numbered limit behind first bytes beginning few low (too_large full announced rest leads small above) =
    let within : full * full_packet ≤ limit = rw (sym leads.size) leads.within in
    ap (λ (n : ℕ). cond (n == 0) behind ((first + n) % 256)) (packets_of limit full announced within small above)
    ∙ too_long behind first full
numbered limit behind first bytes beginning few low (short_header full rest leads short) = tt
numbered limit behind first bytes beginning few low (short_packet full announced rest leads small within short) = tt

pub errors_are_numbered : ErrorsAreNumbered
errors_are_numbered limit behind first bytes fault few low begins = numbered limit behind first bytes (Faulty fault) few low begins
