-- Reading a payload packet by packet.
use Rattle.std.proofs.Common.{◌≡◌, ℕ, ◌+◌, ◌≤◌, List, [], ◌++◌, length, take, drop, refl, sym, ap, ◌∙◌, arith}
use Rattle.std.proofs.lemmas.List.{length-append, length-drop, length-take}
use Rattle.rws_wire.specs.declared.fault.WireFault.{WireFault}
use Rattle.rws_wire.specs.declared.packet.Packet.{Packet}
use Rattle.rws_wire.specs.declared.packet.Packet.TheVariants.{Partial, Bad, More, Last}
use Rattle.rws_wire.specs.Numbers.{AreBytes}
use Rattle.rws_wire.specs.Packets.{next_number, number_behind, spelling}
use Rattle.rws_wire.specs.Payloads.{packet_of, Beginning, Nothing, Whole, Faulty, payload_behind, first_payload}
use Rattle.rws_wire.specs.Gathering.{look_of}
use Rattle.rws_wire.specs.declared.gathering.Look.TheVariants as looks
use Rattle.rws_wire.proofs.PayloadLemmas.{behind_partial, behind_bad, behind_more, behind_last, first_payload-is, first_payload_spelled, more_fits, last_fits}

-- what is read behind the bytes so far is what all bytes begin with
pub record Gathers (limit first : ℕ) (bytes : List ℕ) (number : ℕ) (before rest : List ℕ) : Type 0 where
  pub room : length before + length rest ≤ length bytes
  pub same : payload_behind limit number before rest ≡ first_payload limit first bytes

pub gathers_none : (limit first : ℕ) (bytes before : List ℕ) → before ≡ [] → Gathers limit first bytes first before bytes
gathers_none limit first bytes before none =
    rw none (record { room = omega arith; same = sym (first_payload-is limit first bytes) })

pub gathers_partial : (limit first : ℕ) (bytes : List ℕ) (number : ℕ) (before rest : List ℕ) → Gathers limit first bytes number before rest
    → packet_of limit number (length before) rest ≡ Partial → first_payload limit first bytes ≡ Nothing
gathers_partial limit first bytes number before rest r e = sym r.same ∙ behind_partial limit number before rest e

pub gathers_bad : (limit first : ℕ) (bytes : List ℕ) (number : ℕ) (before rest : List ℕ) (fault : WireFault) → Gathers limit first bytes number before rest
    → packet_of limit number (length before) rest ≡ Bad fault → first_payload limit first bytes ≡ Faulty fault
gathers_bad limit first bytes number before rest fault r e = sym r.same ∙ behind_bad limit number before rest fault e

pub gathers_last : (limit first : ℕ) (bytes : List ℕ) (number : ℕ) (before rest : List ℕ) (size : ℕ) → Gathers limit first bytes number before rest
    → packet_of limit number (length before) rest ≡ Last size
    → first_payload limit first bytes ≡ Whole (before ++ take size (drop 4 rest)) (next_number number) (drop size (drop 4 rest))
gathers_last limit first bytes number before rest size r e = sym r.same ∙ behind_last limit number before rest size e

pub last_spelled : (limit first : ℕ) (bytes : List ℕ) (number : ℕ) (before rest : List ℕ) (size : ℕ) → AreBytes bytes → Gathers limit first bytes number before rest
    → packet_of limit number (length before) rest ≡ Last size
    → (bytes ≡ spelling first (before ++ take size (drop 4 rest)) ++ drop size (drop 4 rest)) × (next_number number ≡ number_behind first (before ++ take size (drop 4 rest)))
    × (length (before ++ take size (drop 4 rest)) ≤ limit)
last_spelled limit first bytes number before rest size fit r e =
    let read = first_payload_spelled limit first bytes (before ++ take size (drop 4 rest)) (next_number number) (drop size (drop 4 rest)) fit (gathers_last limit first bytes number before rest size r e) in
    (read.spelled, read.behind, read.within)

pub gathers_more : (limit first : ℕ) (bytes : List ℕ) (number : ℕ) (before rest : List ℕ) (size : ℕ) → Gathers limit first bytes number before rest
    → packet_of limit number (length before) rest ≡ More size
    → Gathers limit first bytes (next_number number) (before ++ take size (drop 4 rest)) (drop size (drop 4 rest))
gathers_more limit first bytes number before rest size r e =
    let fits = more_fits limit number (length before) rest size e in
    record {
      room = omega (arith, r.room, length-append before (take size (drop 4 rest)), length-take size (drop 4 rest), length-drop size (drop 4 rest), length-drop 4 rest);
      same = sym (behind_more limit number before rest size e) ∙ r.same;
    }

-- the same where the bytes so far aren't kept, only their number
pub record Looks (limit first : ℕ) (bytes : List ℕ) (number before : ℕ) (rest : List ℕ) : Type 0 where
  pub seen : List ℕ
  pub long : length seen ≡ before
  pub gathers : Gathers limit first bytes number seen rest

pub looks_none : (limit first : ℕ) (bytes : List ℕ) → Looks limit first bytes first 0 bytes
looks_none limit first bytes = record { seen = []; long = refl; gathers = gathers_none limit first bytes [] refl }

pub looks_partial : (limit first : ℕ) (bytes : List ℕ) (number before : ℕ) (rest : List ℕ) → Looks limit first bytes number before rest
    → packet_of limit number before rest ≡ Partial → first_payload limit first bytes ≡ Nothing
looks_partial limit first bytes number before rest l e =
    gathers_partial limit first bytes number l.seen rest l.gathers (ap (λ (n : ℕ). packet_of limit number n rest) l.long ∙ e)

pub looks_bad : (limit first : ℕ) (bytes : List ℕ) (number before : ℕ) (rest : List ℕ) (fault : WireFault) → Looks limit first bytes number before rest
    → packet_of limit number before rest ≡ Bad fault → look_of (first_payload limit first bytes) ≡ looks.Bad fault
looks_bad limit first bytes number before rest fault l e =
    ap look_of (gathers_bad limit first bytes number l.seen rest fault l.gathers (ap (λ (n : ℕ). packet_of limit number n rest) l.long ∙ e))

pub looks_last : (limit first : ℕ) (bytes : List ℕ) (number before : ℕ) (rest : List ℕ) (size : ℕ) → Looks limit first bytes number before rest
    → packet_of limit number before rest ≡ Last size → look_of (first_payload limit first bytes) ≡ looks.Whole (before + size)
looks_last limit first bytes number before rest size l e =
    let fits : 4 + size ≤ length rest = last_fits limit number before rest size e in
    let chunk : List ℕ = take size (drop 4 rest) in
    let len : length chunk ≡ size = omega (arith, length-take size (drop 4 rest), length-drop 4 rest) in
    let total : length (l.seen ++ chunk) ≡ before + size = length-append l.seen chunk ∙ omega (arith, l.long) in
    ap look_of (gathers_last limit first bytes number l.seen rest size l.gathers (ap (λ (n : ℕ). packet_of limit number n rest) l.long ∙ e))
    ∙ ap (λ (n : ℕ). looks.Whole n) total

-- what is whole is neither partial nor faulty
pub whole_not_partial : (beginning : Beginning) (size : ℕ) → look_of beginning ≡ looks.Whole size → beginning ≡ Nothing → ⊥
whole_not_partial beginning size whole e = let same = sym (ap look_of e) ∙ whole in cc

pub whole_not_bad : (beginning : Beginning) (size : ℕ) (fault : WireFault) → look_of beginning ≡ looks.Whole size → beginning ≡ Faulty fault → ⊥
whole_not_bad beginning size fault whole e = let same = sym (ap look_of e) ∙ whole in cc

pub looks_more : (limit first : ℕ) (bytes : List ℕ) (number before : ℕ) (rest : List ℕ) (size : ℕ) → Looks limit first bytes number before rest
    → packet_of limit number before rest ≡ More size
    → Looks limit first bytes (next_number number) (before + size) (drop size (drop 4 rest))
looks_more limit first bytes number before rest size l e =
    let fits = more_fits limit number before rest size e in
    let chunk : List ℕ = take size (drop 4 rest) in
    let len : length chunk ≡ size = omega (arith, length-take size (drop 4 rest), length-drop 4 rest) in
    record {
      seen = l.seen ++ chunk;
      long = length-append l.seen chunk ∙ omega (arith, l.long);
      gathers = gathers_more limit first bytes number l.seen rest size l.gathers (ap (λ (n : ℕ). packet_of limit number n rest) l.long ∙ e);
    }

-- an answer of `packet_of` at the number of bytes so far
pub at_length : (limit number n : ℕ) (before rest : List ℕ) (p : Packet) → n ≡ length before → p ≡ packet_of limit number n rest → packet_of limit number (length before) rest ≡ p
at_length limit number n before rest p same e = ap (λ (k : ℕ). packet_of limit number k rest) (sym same) ∙ sym e
