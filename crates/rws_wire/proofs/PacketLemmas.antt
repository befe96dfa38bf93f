-- One packet: what was written is read back, what was read is what was written, and more bytes change no answer.
use Rattle.std.proofs.Common.{◌≡◌, ◌≢◌, ℕ, zero, suc, ◌+◌, ◌^◌, ◌<◌, ◌≤◌, true, false, eqb, List, [], ◌∷◌, ◌++◌, length, take, drop, refl, sym, ap, subst, ◌∙◌, arith, inl, inr}
use Rattle.std.proofs.lemmas.Bool.{cases_lt, cases_eq, lt-ltb, le-ltb, eq-eqb, ne_eqb}
use Rattle.std.proofs.lemmas.List.{take-append-drop, length-append, length-take}
use Rattle.rws_wire.specs.declared.fault.WireFault.{WireFault}
use Rattle.rws_wire.specs.declared.fault.WireFault.TheVariants.{OutOfOrder, TooLarge}
use Rattle.rws_wire.specs.declared.packet.Packet.{Packet}
use Rattle.rws_wire.specs.declared.packet.Packet.TheVariants.{Partial, Bad, More, Last}
use Rattle.rws_wire.specs.Numbers.{AreBytes, number_of, bytes_of}
use Rattle.rws_wire.specs.Packets.{full_packet, packet}
use Rattle.rws_wire.specs.Payloads.{packet_with, packet_of}
use Rattle.rws_wire.proofs.NumberLemmas.{number_of-bytes_of, number_of-lt, bytes_of-number_of}

-- ---- a header, then so many bytes

pub with_too_large : (limit before announced : ℕ) (rest : List ℕ) → limit < before + announced → packet_with limit before announced rest ≡ Bad (TooLarge (before + announced))
with_too_large limit before announced rest above = rw (lt-ltb limit (before + announced) above) refl

pub with_partial : (limit before announced : ℕ) (rest : List ℕ) → before + announced ≤ limit → length rest < announced → packet_with limit before announced rest ≡ Partial
with_partial limit before announced rest within short = rw (le-ltb limit (before + announced) within, lt-ltb (length rest) announced short) refl

pub with_full : (limit before announced : ℕ) (rest : List ℕ) → before + announced ≤ limit → announced ≤ length rest → announced ≡ full_packet → packet_with limit before announced rest ≡ More announced
with_full limit before announced rest within long full = rw (le-ltb limit (before + announced) within, le-ltb (length rest) announced long, eq-eqb announced full_packet full) refl

pub with_last : (limit before announced : ℕ) (rest : List ℕ) → before + announced ≤ limit → announced ≤ length rest → announced ≢ full_packet → packet_with limit before announced rest ≡ Last announced
with_last limit before announced rest within long other = rw (le-ltb limit (before + announced) within, le-ltb (length rest) announced long, ne_eqb announced full_packet other) refl

-- what a packet says of the bytes behind the header
pub data TellsRest (limit before announced : ℕ) (rest : List ℕ) : Packet → Type 0 where
  too_large : limit < before + announced → TellsRest limit before announced rest (Bad (TooLarge (before + announced)))
  partial : before + announced ≤ limit → length rest < announced → TellsRest limit before announced rest Partial
  full : before + announced ≤ limit → announced ≤ length rest → announced ≡ full_packet → TellsRest limit before announced rest (More announced)
  last : before + announced ≤ limit → announced ≤ length rest → announced ≢ full_packet → TellsRest limit before announced rest (Last announced)

pub tells_rest : (limit before announced : ℕ) (rest : List ℕ) → TellsRest limit before announced rest (packet_with limit before announced rest)
tells_rest limit before announced rest =
    elim (cases_lt limit (before + announced)) [
      | inl above ↦ rw (with_too_large limit before announced rest above) (too_large above)
      | inr within ↦ elim (cases_lt (length rest) announced) [
        | inl short ↦ rw (with_partial limit before announced rest within short) (partial within short)
        | inr long ↦ elim (cases_eq announced full_packet) [
          | inl same ↦ rw (with_full limit before announced rest within long same) (full within long same)
          | inr other ↦ rw (with_last limit before announced rest within long other) (last within long other)
        ]
      ]
    ]

pub packet_with-append : (limit before announced : ℕ) (rest more : List ℕ) → packet_with limit before announced rest ≢ Partial
    → packet_with limit before announced (rest ++ more) ≡ packet_with limit before announced rest
packet_with-append limit before announced rest more whole =
    let longer = length-append rest more in
    elim (cases_lt limit (before + announced)) [
      | inl above ↦ with_too_large limit before announced (rest ++ more) above ∙ sym (with_too_large limit before announced rest above)
      | inr within ↦ elim (cases_lt (length rest) announced) [
        | inl short ↦ absurd (whole (with_partial limit before announced rest within short))
        | inr long ↦ elim (cases_eq announced full_packet) [
          | inl same ↦ with_full limit before announced (rest ++ more) within (omega arith) same ∙ sym (with_full limit before announced rest within long same)
          | inr other ↦ with_last limit before announced (rest ++ more) within (omega arith) other ∙ sym (with_last limit before announced rest within long other)
        ]
      ]
    ]

-- ---- a whole packet

pub packet_of-append : (limit number before : ℕ) (bytes more : List ℕ) → packet_of limit number before bytes ≢ Partial
    → packet_of limit number before (bytes ++ more) ≡ packet_of limit number before bytes
packet_of-append limit number before (a ∷ b ∷ c ∷ got ∷ rest) more whole =
    elim (cases_eq got number) [
      | inl same ↦
          let is : eqb got number ≡ true = eq-eqb got number same in
          let whole : packet_with limit before (number_of (a ∷ b ∷ c ∷ [])) rest ≢ Partial = rw is at whole in
          rw is (packet_with-append limit before (number_of (a ∷ b ∷ c ∷ [])) rest more whole)
      | inr other ↦ let is : eqb got number ≡ false = ne_eqb got number other in rw is refl
    ]
packet_of-append limit number before [] more whole = absurd (whole refl)
packet_of-append limit number before (a ∷ []) more whole = absurd (whole refl)
packet_of-append limit number before (a ∷ b ∷ []) more whole = absurd (whole refl)
packet_of-append limit number before (a ∷ b ∷ c ∷ []) more whole = absurd (whole refl)

-- a packet that was written, whatever follows
pub packet_of-packet : (limit number before : ℕ) (chunk rest : List ℕ) → length chunk < 2 ^ 24
    → packet_of limit number before (packet number chunk ++ rest) ≡ packet_with limit before (length chunk) (chunk ++ rest)
packet_of-packet limit number before chunk rest small =
    let length-is : number_of (bytes_of 3 (length chunk)) ≡ length chunk = number_of-bytes_of 3 (length chunk) small in
    rw (eq-eqb number number refl) (ap (λ (size : ℕ). packet_with limit before size (chunk ++ rest)) length-is)

-- a packet of so many bytes at the front
pub record Front (number size : ℕ) (bytes : List ℕ) : Type 0 where
  pub spelled : AreBytes bytes → bytes ≡ packet number (take size (drop 4 bytes)) ++ drop size (drop 4 bytes)
  pub whole : 4 + size ≤ length bytes
  pub small : AreBytes bytes → size < 2 ^ 24

pub three_fit : (a b c number : ℕ) (rest : List ℕ) → AreBytes (a ∷ b ∷ c ∷ number ∷ rest) → AreBytes (a ∷ b ∷ c ∷ [])
three_fit a b c number rest fit zero = fit 0
three_fit a b c number rest fit (suc zero) = fit 1
three_fit a b c number rest fit (suc (suc zero)) = fit 2
three_fit a b c number rest fit (suc (suc (suc i))) = omega arith

packet_front : (number announced a b c : ℕ) (rest : List ℕ) → number_of (a ∷ b ∷ c ∷ []) ≡ announced → announced ≤ length rest
    → Front number announced (a ∷ b ∷ c ∷ number ∷ rest)
packet_front number announced a b c rest e long = record {
  spelled = λ fit.
      let three = three_fit a b c number rest fit in
      let size : length (take announced rest) ≡ announced = omega (arith, length-take announced rest) in
      let written : bytes_of 3 (length (take announced rest)) ≡ a ∷ b ∷ c ∷ [] = ap (bytes_of 3) (size ∙ sym e) ∙ bytes_of-number_of (a ∷ b ∷ c ∷ []) three in
      sym (ap (λ (w : List ℕ). (w ++ number ∷ []) ++ take announced rest ++ drop announced rest) written
      ∙ ap (λ (t : List ℕ). a ∷ b ∷ c ∷ number ∷ t) (take-append-drop announced rest));
  whole = omega arith;
  small = λ fit. rw (← e) (number_of-lt (a ∷ b ∷ c ∷ []) (three_fit a b c number rest fit));
}

-- what the answer on a packet says of the bytes
pub data TellsFront (limit number before : ℕ) (bytes : List ℕ) : Packet → Type 0 where
  nothing : TellsFront limit number before bytes Partial
  bad : (fault : WireFault) → TellsFront limit number before bytes (Bad fault)
  goes_on : (size : ℕ) → Front number size bytes → before + size ≤ limit → size ≡ full_packet → TellsFront limit number before bytes (More size)
  ends : (size : ℕ) → Front number size bytes → before + size ≤ limit → size ≢ full_packet → TellsFront limit number before bytes (Last size)

tells_front_with : (limit number before announced a b c : ℕ) (rest : List ℕ) (p : Packet) → number_of (a ∷ b ∷ c ∷ []) ≡ announced
    → TellsRest limit before announced rest p → TellsFront limit number before (a ∷ b ∷ c ∷ number ∷ rest) p
tells_front_with limit number before announced a b c rest p e (too_large above) = bad (TooLarge (before + announced))
tells_front_with limit number before announced a b c rest p e (partial within short) = nothing
tells_front_with limit number before announced a b c rest p e (full within long same) =
    goes_on announced (packet_front number announced a b c rest e long) within same
tells_front_with limit number before announced a b c rest p e (last within long other) =
    ends announced (packet_front number announced a b c rest e long) within other

pub tells_front : (limit number before : ℕ) (bytes : List ℕ) → TellsFront limit number before bytes (packet_of limit number before bytes)
tells_front limit number before [] = nothing
tells_front limit number before (a ∷ []) = nothing
tells_front limit number before (a ∷ b ∷ []) = nothing
tells_front limit number before (a ∷ b ∷ c ∷ []) = nothing
tells_front limit number before (a ∷ b ∷ c ∷ got ∷ rest) =
    elim (cases_eq got number) [
      | inl same ↦
          let announced = number_of (a ∷ b ∷ c ∷ []) in
          let read = tells_front_with limit number before announced a b c rest (packet_with limit before announced rest) refl (tells_rest limit before announced rest) in
          rw (eq-eqb got number same) (subst (λ (n : ℕ). TellsFront limit number before (a ∷ b ∷ c ∷ n ∷ rest) (packet_with limit before announced rest)) (sym same) read)
      | inr other ↦ rw (ne_eqb got number other) (bad (OutOfOrder number got))
    ]
