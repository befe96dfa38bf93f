-- What stands behind full packets, and the reading packet by packet: they say the same of what bytes begin with.
use Rattle.std.proofs.Common.{◌≡◌, ◌≢◌, ℕ, zero, suc, ◌+◌, ◌*◌, ◌^◌, ◌<◌, ◌≤◌, List, [], ◌∷◌, ◌++◌, length, take, drop, refl, sym, ap, subst, ◌∙◌, append_assoc, arith, inl, inr}
use Rattle.std.proofs.lemmas.Bool.{cases_eq, eq-eqb, ne_eqb}
use Rattle.std.proofs.lemmas.List.{take_all, append-nil, take-append-le, drop-append-le, take-append-drop, length-append, length-take, length-drop, nil_from_length}
use Rattle.std.proofs.Math.Nat.{suc-mul}
use Rattle.rws_wire.specs.declared.fault.WireFault.TheVariants.{OutOfOrder, TooLarge}
use Rattle.rws_wire.specs.declared.packet.Packet.{Packet}
use Rattle.rws_wire.specs.declared.packet.Packet.TheVariants.{Partial, Bad, Last}
use Rattle.rws_wire.specs.Numbers.{AreBytes, number_of, bytes_of}
use Rattle.rws_wire.specs.Packets.{full_packet, next_number, header, packet, number_behind}
use Rattle.rws_wire.specs.Payloads.{packet_with, packet_of, Beginning, Nothing, Whole, Faulty, payload_behind, first_payload}
use Rattle.rws_wire.specs.Beginnings.{full_packets, due, Leads, Begins, whole, other_number, too_large, short_header, short_packet, BeginningsAreRead}
use Rattle.rws_wire.proofs.NumberLemmas.{AreBytes-drop, number_of-bytes_of, number_of-lt, bytes_of-number_of}
use Rattle.rws_wire.proofs.PacketLemmas as at
use Rattle.rws_wire.proofs.PacketLemmas.{TellsRest, tells_rest, three_fit, with_too_large, with_partial, with_last}
use Rattle.rws_wire.proofs.PayloadLemmas.{behind_bad, behind_last, behind_partial, first_payload-is, first_payload-spelling, first_payload_spelled, full_read}

-- ---- full packets

due_none : (first : ℕ) → first < 256 → due first zero ≡ first
due_none first low = omega arith

due_more : (first full : ℕ) → due (next_number first) full ≡ due first (suc full)
due_more first full = omega arith

next_low : (number : ℕ) → next_number number < 256
next_low number = omega arith

-- one more at their end
full_packets_more : (full number : ℕ) (carried chunk : List ℕ) → number < 256 → length carried ≡ full * full_packet → length chunk ≡ full_packet
    → full_packets (suc full) number (carried ++ chunk) ≡ full_packets full number carried ++ packet (due number full) chunk
full_packets_more zero number carried chunk low size one =
    let none : carried ≡ [] = nil_from_length carried (omega arith) in
    let all : take full_packet chunk ≡ chunk = take_all full_packet chunk (omega arith) in
    ap (λ (t : List ℕ). full_packets (suc zero) number (t ++ chunk)) none
    ∙ append-nil (packet number (take full_packet chunk))
    ∙ ap (packet number) all
    ∙ ap (λ (n : ℕ). packet n chunk) (sym (due_none number low))
full_packets_more (suc full) number carried chunk low size one =
    let long : full_packet ≤ length carried = omega (arith, suc-mul full full_packet) in
    let front : List ℕ = take full_packet carried in
    let behind : List ℕ = drop full_packet carried in
    let left : length behind ≡ full * full_packet = omega (arith, suc-mul full full_packet, length-drop full_packet carried) in
    ap (λ (t : List ℕ). packet number t ++ full_packets (suc full) (next_number number) (drop full_packet (carried ++ chunk))) (take-append-le full_packet carried chunk long)
    ∙ ap (λ (t : List ℕ). packet number front ++ full_packets (suc full) (next_number number) t) (drop-append-le full_packet carried chunk long)
    ∙ ap (λ (t : List ℕ). packet number front ++ t) (full_packets_more full (next_number number) behind chunk (next_low number) left one)
    ∙ sym (append_assoc (packet number front) (full_packets full (next_number number) behind) (packet (due (next_number number) full) chunk))
    ∙ ap (λ (n : ℕ). full_packets (suc full) number carried ++ packet n chunk) (due_more number full)

full_packets_read : (full limit number : ℕ) (before carried rest : List ℕ) → number < 256 → length carried ≡ full * full_packet → length before + length carried ≤ limit
    → payload_behind limit number before (full_packets full number carried ++ rest) ≡ payload_behind limit (due number full) (before ++ carried) rest
full_packets_read zero limit number before carried rest low size within =
    let none : carried ≡ [] = nil_from_length carried (omega arith) in
    ap (λ (n : ℕ). payload_behind limit n before rest) (sym (due_none number low))
    ∙ ap (λ (t : List ℕ). payload_behind limit (due number zero) t rest) (sym (ap (λ (t : List ℕ). before ++ t) none ∙ append-nil before))
full_packets_read (suc full) limit number before carried rest low size within =
    let chunk : List ℕ = take full_packet carried in
    let behind : List ℕ = drop full_packet carried in
    let long : full_packet ≤ length carried = omega (arith, suc-mul full full_packet) in
    let one : length chunk ≡ full_packet = omega (arith, length-take full_packet carried) in
    let left : length behind ≡ full * full_packet = omega (arith, suc-mul full full_packet, length-drop full_packet carried) in
    let grown : length (before ++ chunk) + length behind ≤ limit = omega (arith, length-append before chunk, suc-mul full full_packet) in
    let joined : (before ++ chunk) ++ behind ≡ before ++ carried = append_assoc before chunk behind ∙ ap (λ (t : List ℕ). before ++ t) (take-append-drop full_packet carried) in
    ap (payload_behind limit number before) (append_assoc (packet number chunk) (full_packets full (next_number number) behind) rest)
    ∙ full_read limit number before chunk (full_packets full (next_number number) behind ++ rest) one (omega arith)
    ∙ full_packets_read full limit (next_number number) (before ++ chunk) behind rest (next_low number) left grown
    ∙ ap (λ (n : ℕ). payload_behind limit n ((before ++ chunk) ++ behind) rest) (due_more number full)
    ∙ ap (λ (t : List ℕ). payload_behind limit (due number (suc full)) t rest) joined

leads_read : (limit first full : ℕ) (bytes rest : List ℕ) → first < 256 → (l : Leads limit first full bytes rest)
    → first_payload limit first bytes ≡ payload_behind limit (due first full) l.carried rest
leads_read limit first full bytes rest low l =
    ap (first_payload limit first) l.spelled
    ∙ first_payload-is limit first (full_packets full first l.carried ++ rest)
    ∙ full_packets_read full limit first [] l.carried rest low l.size (omega (arith, l.within))

leads_none : (limit first : ℕ) (bytes : List ℕ) → Leads limit first zero bytes bytes
leads_none limit first bytes = record { carried = []; size = omega arith; within = omega arith; spelled = refl }

leads_more : (limit first full : ℕ) (bytes chunk rest : List ℕ) → first < 256 → length chunk ≡ full_packet → full * full_packet + full_packet ≤ limit
    → Leads limit first full bytes (packet (due first full) chunk ++ rest) → Leads limit first (suc full) bytes rest
leads_more limit first full bytes chunk rest low one within l =
    let total : length (l.carried ++ chunk) ≡ full * full_packet + full_packet = omega (arith, length-append l.carried chunk, l.size) in
    record {
      carried = l.carried ++ chunk;
      size = omega (arith, suc-mul full full_packet);
      within = omega arith;
      spelled = l.spelled
          ∙ sym (append_assoc (full_packets full first l.carried) (packet (due first full) chunk) rest)
          ∙ ap (λ (t : List ℕ). t ++ rest) (sym (full_packets_more full first l.carried chunk low l.size one));
    }

leads_to : (limit first full : ℕ) (bytes one other : List ℕ) → one ≡ other → Leads limit first full bytes one → Leads limit first full bytes other
leads_to limit first full bytes one other same l = subst (Leads limit first full bytes) same l

-- ---- the header behind them

other_at : (limit number before announced got : ℕ) (rest : List ℕ) → got ≢ number
    → packet_of limit number before (header announced got ++ rest) ≡ Bad (OutOfOrder number got)
other_at limit number before announced got rest other = rw (ne_eqb got number other) refl

due_at : (limit number before announced : ℕ) (rest : List ℕ) → announced < 2 ^ 24
    → packet_of limit number before (header announced number ++ rest) ≡ packet_with limit before announced rest
due_at limit number before announced rest small =
    let announces : number_of (bytes_of 3 announced) ≡ announced = number_of-bytes_of 3 announced small in
    rw (eq-eqb number number refl) (ap (λ (size : ℕ). packet_with limit before size rest) announces)

short_at : (limit number before : ℕ) (rest : List ℕ) → length rest < 4 → packet_of limit number before rest ≡ Partial
short_at limit number before [] short = refl
short_at limit number before (a ∷ []) short = refl
short_at limit number before (a ∷ b ∷ []) short = refl
short_at limit number before (a ∷ b ∷ c ∷ []) short = refl
short_at limit number before (a ∷ b ∷ c ∷ got ∷ rest) short = absurd (omega arith)

header_is : (a b c got : ℕ) (rest : List ℕ) → AreBytes (a ∷ b ∷ c ∷ got ∷ rest)
    → a ∷ b ∷ c ∷ got ∷ rest ≡ header (number_of (a ∷ b ∷ c ∷ [])) got ++ rest
header_is a b c got rest fit =
    sym (ap (λ (w : List ℕ). (w ++ got ∷ []) ++ rest) (bytes_of-number_of (a ∷ b ∷ c ∷ []) (three_fit a b c got rest fit)))

-- ---- what bytes begin with is read

begins_read : (limit first : ℕ) (bytes : List ℕ) (beginning : Beginning) → first < 256 → Begins limit first bytes beginning → first_payload limit first bytes ≡ beginning
begins_read limit first bytes beginning low (whole payload rest is within) =
    ap (first_payload limit first) is ∙ first_payload-spelling limit first payload rest within
begins_read limit first bytes beginning low (other_number full announced got rest l other) =
    leads_read limit first full bytes (header announced got ++ rest) low l
    ∙ behind_bad limit (due first full) l.carried (header announced got ++ rest) (OutOfOrder (due first full) got)
    (other_at limit (due first full) (length l.carried) announced got rest other)
begins_read limit first bytes beginning low (too_large full announced rest l small above) =
    let over : limit < length l.carried + announced = omega (arith, l.size) in
    leads_read limit first full bytes (header announced (due first full) ++ rest) low l
    ∙ behind_bad limit (due first full) l.carried (header announced (due first full) ++ rest) (TooLarge (length l.carried + announced))
    (due_at limit (due first full) (length l.carried) announced rest small ∙ with_too_large limit (length l.carried) announced rest over)
    ∙ ap (λ (n : ℕ). Faulty (TooLarge (n + announced))) l.size
begins_read limit first bytes beginning low (short_header full rest l short) =
    leads_read limit first full bytes rest low l
    ∙ behind_partial limit (due first full) l.carried rest (short_at limit (due first full) (length l.carried) rest short)
begins_read limit first bytes beginning low (short_packet full announced rest l small within short) =
    let fits : length l.carried + announced ≤ limit = omega (arith, l.size) in
    leads_read limit first full bytes (header announced (due first full) ++ rest) low l
    ∙ behind_partial limit (due first full) l.carried (header announced (due first full) ++ rest)
    (due_at limit (due first full) (length l.carried) announced rest small ∙ with_partial limit (length l.carried) announced rest fits short)

-- ---- bytes begin with something

record Begun (limit first : ℕ) (bytes : List ℕ) : Type 0 where
  beginning : Beginning
  begins : Begins limit first bytes beginning

-- the last packet of a payload is there
begun_whole : (limit first full announced : ℕ) (bytes rest : List ℕ) → AreBytes bytes → first < 256 → announced < 2 ^ 24
    → Leads limit first full bytes (header announced (due first full) ++ rest)
    → full * full_packet + announced ≤ limit → announced ≤ length rest → announced ≢ full_packet → Begun limit first bytes
begun_whole limit first full announced bytes rest fit low small l within long other =
    let front : List ℕ = header announced (due first full) ++ rest in
    let payload : List ℕ = l.carried ++ take announced (drop 4 front) in
    let behind : List ℕ = drop announced (drop 4 front) in
    let fits : length l.carried + announced ≤ limit = omega (arith, l.size) in
    let last : packet_of limit (due first full) (length l.carried) front ≡ Last announced =
    due_at limit (due first full) (length l.carried) announced rest small ∙ with_last limit (length l.carried) announced rest fits long other in
    let read = first_payload_spelled limit first bytes payload (next_number (due first full)) behind fit
    (leads_read limit first full bytes front low l ∙ behind_last limit (due first full) l.carried front announced last) in
    record { beginning = Whole payload (number_behind first payload) behind; begins = whole payload behind read.spelled read.within }

-- a full packet is there
leads_on : (limit first full announced : ℕ) (bytes rest : List ℕ) → first < 256
    → Leads limit first full bytes (header announced (due first full) ++ rest)
    → full * full_packet + announced ≤ limit → announced ≤ length rest → announced ≡ full_packet → Leads limit first (suc full) bytes (drop announced rest)
leads_on limit first full announced bytes rest low l within long same =
    let number = due first full in
    let chunk : List ℕ = take announced rest in
    let size : length chunk ≡ announced = omega (arith, length-take announced rest) in
    let split : header announced number ++ rest ≡ packet number chunk ++ drop announced rest =
    ap (λ (t : List ℕ). header announced number ++ t) (sym (take-append-drop announced rest))
    ∙ ap (λ (n : ℕ). header n number ++ (chunk ++ drop announced rest)) (sym size)
    ∙ sym (append_assoc (header (length chunk) number) chunk (drop announced rest)) in
    leads_more limit first full bytes chunk (drop announced rest) low (size ∙ same) (omega arith)
    (leads_to limit first full bytes (header announced number ++ rest) (packet number chunk ++ drop announced rest) split l)

begun_at : (limit first full announced : ℕ) (bytes rest : List ℕ) (p : Packet) → AreBytes bytes → first < 256 → announced < 2 ^ 24
    → Leads limit first full bytes (header announced (due first full) ++ rest)
    → TellsRest limit (full * full_packet) announced rest p
    → (Leads limit first (suc full) bytes (drop announced rest) → Begun limit first bytes) → Begun limit first bytes
begun_at limit first full announced bytes rest p fit low small l (at.too_large above) further =
    record { beginning = Faulty (TooLarge (full * full_packet + announced)); begins = too_large full announced rest l small above }
begun_at limit first full announced bytes rest p fit low small l (at.partial within short) further =
    record { beginning = Nothing; begins = short_packet full announced rest l small within short }
begun_at limit first full announced bytes rest p fit low small l (at.full within long same) further =
    further (leads_on limit first full announced bytes rest low l within long same)
begun_at limit first full announced bytes rest p fit low small l (at.last within long other) further =
    begun_whole limit first full announced bytes rest fit low small l within long other

begun_short : (limit first full : ℕ) (bytes rest : List ℕ) → Leads limit first full bytes rest → length rest < 4 → Begun limit first bytes
begun_short limit first full bytes rest l short = record { beginning = Nothing; begins = short_header full rest l short }

begun : (f limit first full : ℕ) (bytes rest : List ℕ) → AreBytes bytes → first < 256 → AreBytes rest → length rest ≤ f
    → Leads limit first full bytes rest → Begun limit first bytes
begun zero limit first full bytes rest fit low fits room l = begun_short limit first full bytes rest l (omega arith)
begun (suc f) limit first full bytes [] fit low fits room l = begun_short limit first full bytes [] l (omega arith)
begun (suc f) limit first full bytes (a ∷ []) fit low fits room l = begun_short limit first full bytes (a ∷ []) l (omega arith)
begun (suc f) limit first full bytes (a ∷ b ∷ []) fit low fits room l = begun_short limit first full bytes (a ∷ b ∷ []) l (omega arith)
begun (suc f) limit first full bytes (a ∷ b ∷ c ∷ []) fit low fits room l = begun_short limit first full bytes (a ∷ b ∷ c ∷ []) l (omega arith)
begun (suc f) limit first full bytes (a ∷ b ∷ c ∷ got ∷ rest) fit low fits room l =
    let announced : ℕ = number_of (a ∷ b ∷ c ∷ []) in
    let small : announced < 2 ^ 24 = number_of-lt (a ∷ b ∷ c ∷ []) (three_fit a b c got rest fits) in
    let found : Leads limit first full bytes (header announced got ++ rest) =
    leads_to limit first full bytes (a ∷ b ∷ c ∷ got ∷ rest) (header announced got ++ rest) (header_is a b c got rest fits) l in
    elim (cases_eq got (due first full)) [
      | inl same ↦
          begun_at limit first full announced bytes rest (packet_with limit (full * full_packet) announced rest) fit low small
          (leads_to limit first full bytes (header announced got ++ rest) (header announced (due first full) ++ rest) (ap (λ (n : ℕ). header announced n ++ rest) same) found)
          (tells_rest limit (full * full_packet) announced rest)
          (λ next. begun f limit first (suc full) bytes (drop announced rest) fit low
          (AreBytes-drop announced rest (λ i. fits (suc (suc (suc (suc i)))))) (omega (arith, length-drop announced rest)) next)
      | inr other ↦ record { beginning = Faulty (OutOfOrder (due first full) got); begins = other_number full announced got rest found other }
    ]

pub beginnings_are_read : BeginningsAreRead
beginnings_are_read limit first bytes beginning fit low = (
  λ e.
      let some = begun (length bytes) limit first zero bytes bytes fit low fit (omega arith) (leads_none limit first bytes) in
      subst (Begins limit first bytes) (sym (begins_read limit first bytes some.beginning low some.begins) ∙ e) some.begins,
  λ begins. begins_read limit first bytes beginning low begins,
)
