-- Bytes that begin with no whole payload and no fault are fewer than the longest payload takes.
use Rattle.std.proofs.Common.{◌≡◌, ℕ, zero, suc, ◌+◌, ◌-◌, ◌*◌, ◌/◌, ◌<◌, ◌≤◌, List, [], ◌∷◌, ◌++◌, length, take, drop, refl, sym, ap, ◌∙◌, arith, inl, inr}
use Rattle.std.proofs.lemmas.Bool.{cases_eq, eq-eqb, ne_eqb}
use Rattle.std.proofs.lemmas.List.{length-append, length-take, length-drop}
use Rattle.std.proofs.Math.Nat.{div-eq-sub-div}
use Rattle.rws_wire.specs.declared.packet.Packet.{Packet}
use Rattle.rws_wire.specs.declared.packet.Packet.TheVariants.{Partial, Bad, More, Last}
use Rattle.rws_wire.specs.Numbers.{number_of}
use Rattle.rws_wire.specs.Packets.{full_packet, packet, packets, next_number, spelled_length, spelling}
use Rattle.rws_wire.specs.Payloads.{packet_of, packet_with, Nothing, Whole, Faulty, continued, payload_behind, first_payload}
use Rattle.rws_wire.proofs.PacketLemmas.{TellsFront, goes_on, tells_front, TellsRest, too_large, partial, full, last, tells_rest}
use Rattle.rws_wire.proofs.PayloadLemmas.{behind_more, count_more, first_payload-is, full_packet-pos, payload_behind-step}

-- a packet that isn't whole
waits_with : (limit before announced : ℕ) (rest : List ℕ) (p : Packet) → TellsRest limit before announced rest p → p ≡ Partial
    → 4 + length rest < 4 + (limit - before)
waits_with limit before announced rest p (too_large above) e = absurd cc
waits_with limit before announced rest p (partial within short) e = omega arith
waits_with limit before announced rest p (full within long same) e = absurd cc
waits_with limit before announced rest p (last within long other) e = absurd cc

waits : (limit number before : ℕ) (bytes : List ℕ) → packet_of limit number before bytes ≡ Partial → length bytes < 4 + (limit - before)
waits limit number before [] e = omega arith
waits limit number before (a ∷ []) e = omega arith
waits limit number before (a ∷ b ∷ []) e = omega arith
waits limit number before (a ∷ b ∷ c ∷ []) e = omega arith
waits limit number before (a ∷ b ∷ c ∷ got ∷ rest) e =
    elim (cases_eq got number) [
      | inl same ↦
          let is : packet_with limit before (number_of (a ∷ b ∷ c ∷ [])) rest ≡ Partial = rw (eq-eqb got number same) at e in
          let few = waits_with limit before (number_of (a ∷ b ∷ c ∷ [])) rest (packet_with limit before (number_of (a ∷ b ∷ c ∷ [])) rest)
          (tells_rest limit before (number_of (a ∷ b ∷ c ∷ [])) rest) is in
          omega arith
      | inr other ↦ let e = rw (ne_eqb got number other) at e in absurd cc
    ]

-- a full packet leaves less room
one_more : (room : ℕ) → full_packet ≤ room → spelled_length room ≡ 4 + full_packet + spelled_length (room - full_packet)
one_more room fits = omega (arith, div-eq-sub-div {m = full_packet} {n = room} full_packet-pos fits)

-- behind full packets of so many bytes
module _ (limit : ℕ) where
  by_front : (bound number : ℕ) (before bytes : List ℕ) (p : Packet) → length bytes ≤ suc bound
      → TellsFront limit number (length before) bytes p → packet_of limit number (length before) bytes ≡ p
      → ((number : ℕ) (before bytes : List ℕ) → length bytes ≤ bound → payload_behind limit number before bytes ≡ Nothing
      → length bytes < spelled_length (limit - length before))
      → payload_behind limit number before bytes ≡ Nothing → length bytes < spelled_length (limit - length before)
  by_front bound number before bytes Partial small tells is below e =
      let few = waits limit number (length before) bytes is in omega arith
  by_front bound number before bytes (Bad fault) small tells is below e =
      let fault_is : Faulty fault ≡ Nothing = sym (payload_behind-step limit number before bytes ∙ ap (continued (payload_behind limit (next_number number)) number before bytes) is) ∙ e in
      absurd cc
  by_front bound number before bytes (Last size) small tells is below e =
      let whole : Whole (before ++ take size (drop 4 bytes)) (next_number number) (drop size (drop 4 bytes)) ≡ Nothing =
      sym (payload_behind-step limit number before bytes ∙ ap (continued (payload_behind limit (next_number number)) number before bytes) is) ∙ e in
      absurd cc
  by_front bound number before bytes (More size) small (goes_on n front within same) is below e =
      let rest : List ℕ = drop n (drop 4 bytes) in
      let now : List ℕ = before ++ take n (drop 4 bytes) in
      let size_now : length now ≡ length before + n = omega (arith, length-append before (take n (drop 4 bytes)), length-take n (drop 4 bytes), length-drop 4 bytes, front.whole) in
      let size_rest : length bytes ≡ 4 + n + length rest = omega (arith, length-drop n (drop 4 bytes), length-drop 4 bytes, front.whole) in
      let few = below (next_number number) now rest (omega (arith, size_rest)) (sym (behind_more limit number before bytes n is) ∙ e) in
      let room : limit - length now ≡ limit - length before - full_packet = omega (arith, size_now, same) in
      let few : length rest < spelled_length (limit - length before - full_packet) = rw room at few in
      let more = one_more (limit - length before) (omega (arith, within, same)) in
      omega (arith, few, more, size_rest, same)

  few_behind : (bound number : ℕ) (before bytes : List ℕ) → length bytes ≤ bound → payload_behind limit number before bytes ≡ Nothing
      → length bytes < spelled_length (limit - length before)
  few_behind zero number before bytes small e = omega arith
  few_behind (suc bound) number before bytes small e =
      by_front bound number before bytes (packet_of limit number (length before) bytes) small
      (tells_front limit number (length before) bytes) refl (few_behind bound) e

pub unread_is_bounded : (limit first : ℕ) (bytes : List ℕ) → first_payload limit first bytes ≡ Nothing → length bytes < spelled_length limit
unread_is_bounded limit first bytes e =
    let none : limit - 0 ≡ limit = omega arith in
    let few = few_behind limit (length bytes) first [] bytes (omega arith) (sym (first_payload-is limit first bytes) ∙ e) in
    rw none at few

-- The spelling of a payload

length_packet : (number : ℕ) (chunk : List ℕ) → length (packet number chunk) ≡ 4 + length chunk
length_packet number chunk = omega arith

length_packets : (count number : ℕ) (payload : List ℕ) → length payload / full_packet ≡ count
    → length (packets count number payload) ≡ length payload + 4 * (count + 1)
length_packets zero number payload is = omega (arith, length_packet number payload)
length_packets (suc count) number payload is =
    let more = count_more (length payload) full_packet count full_packet-pos is in
    let left : length (drop full_packet payload) ≡ length payload - full_packet = length-drop full_packet payload in
    let there = length_packets count (next_number number) (drop full_packet payload) (ap (λ (n : ℕ). n / full_packet) left ∙ more.1) in
    omega (arith, length-append (packet number (take full_packet payload)) (packets count (next_number number) (drop full_packet payload)), there, left, more.0, length-take full_packet payload, length_packet number (take full_packet payload))

pub length_spelling : (first : ℕ) (payload : List ℕ) → length (spelling first payload) ≡ spelled_length (length payload)
unfolding spelling
length_spelling first payload = length_packets (length payload / full_packet) first payload refl
