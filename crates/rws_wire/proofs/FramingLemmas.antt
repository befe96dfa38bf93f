-- Writing a payload packet by packet.
use Rattle.std.proofs.Common.{◌≡◌, ℕ, suc, ◌+◌, ◌-◌, ◌/◌, ◌%◌, ◌^◌, ◌<◌, ◌≤◌, List, ◌++◌, length, take, drop, refl, sym, ap, ◌∙◌, append_assoc, arith, add-one}
use Rattle.std.proofs.lemmas.List.{take-append-le, take_all, length-drop, length-take}
use Rattle.std.proofs.Math.Nat.{div-eq_of_lt, div-eq-sub-div}
use Rattle.rws_wire.specs.Packets.{full_packet, packet, packets, next_number, spelling, number_behind}
use Rattle.rws_wire.proofs.PayloadLemmas.{full_packet-pos, full_packet-lt, number_zero, number_suc}

-- what was written so far and the packets of what is left are the packets of all
pub record Writes (first : ℕ) (payload out : List ℕ) (number : ℕ) (rest now : List ℕ) : Type 0 where
  pub spelled : now ++ packets (length rest / full_packet) number rest ≡ out ++ spelling first payload
  pub counted : (number + length rest / full_packet + 1) % 256 ≡ number_behind first payload
  pub kept : take (length out) now ≡ out

kept_length : (out now : List ℕ) → take (length out) now ≡ out → length out ≤ length now
kept_length out now kept = omega (arith, length-take (length out) now, ap length kept)

pub writes_none : (first : ℕ) (payload out : List ℕ) → Writes first payload out first payload out
unfolding spelling number_behind
writes_none first payload out = record { spelled = refl; counted = refl; kept = take_all (length out) out (omega arith) }

pub writes_more : (first : ℕ) (payload out : List ℕ) (number : ℕ) (rest now : List ℕ) → full_packet ≤ length rest
    → Writes first payload out number rest now
    → Writes first payload out (next_number number) (drop full_packet rest) (now ++ packet number (take full_packet rest))
writes_more first payload out number rest now long w =
    let behind : List ℕ = drop full_packet rest in
    let left : length behind ≡ length rest - full_packet = length-drop full_packet rest in
    let count : length rest / full_packet ≡ suc (length behind / full_packet) =
    div-eq-sub-div {m = full_packet} {n = length rest} full_packet-pos long ∙ ap (λ (n : ℕ). n / full_packet + 1) (sym left) ∙ add-one (length behind / full_packet) in
    let kept : length out ≤ length now = kept_length out now w.kept in
    record {
      spelled = append_assoc now (packet number (take full_packet rest)) (packets (length behind / full_packet) (next_number number) behind)
          ∙ ap (λ (full : ℕ). now ++ packets full number rest) (sym count) ∙ w.spelled;
      counted = number_suc number (length behind / full_packet) ∙ ap (λ (full : ℕ). (number + full + 1) % 256) (sym count) ∙ w.counted;
      kept = take-append-le (length out) now (packet number (take full_packet rest)) kept ∙ w.kept;
    }

pub writes_last : (first : ℕ) (payload out : List ℕ) (number : ℕ) (rest now : List ℕ) → length rest < full_packet
    → Writes first payload out number rest now
    → (now ++ packet number rest ≡ out ++ spelling first payload) × (next_number number ≡ number_behind first payload)
writes_last first payload out number rest now short w =
    let none : length rest / full_packet ≡ 0 = div-eq_of_lt {n = length rest} {m = full_packet} short in (
      ap (λ (full : ℕ). now ++ packets full number rest) (sym none) ∙ w.spelled,
      sym (number_zero number) ∙ ap (λ (full : ℕ). (number + full + 1) % 256) (sym none) ∙ w.counted,
    )

pub chunk_small : (payload chunk : List ℕ) → chunk ≡ take full_packet payload → length chunk < 2 ^ 24
chunk_small payload chunk e = rw e (omega (arith, length-take full_packet payload, full_packet-lt))

pub behind_shorter : (payload behind : List ℕ) → behind ≡ drop full_packet payload → full_packet ≤ length payload → length behind < length payload
behind_shorter payload behind e long = rw e (omega (arith, length-drop full_packet payload, full_packet-pos))
