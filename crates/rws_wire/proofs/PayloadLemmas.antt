-- The first payload of a stream: how it is read packet by packet, that bytes behind it change nothing, and that it
-- is what its spelling says.
use Rattle.std.proofs.Common.{◌≡◌, ◌≢◌, ℕ, zero, suc, ◌+◌, ◌-◌, ◌/◌, ◌%◌, ◌^◌, ◌<◌, ◌≤◌, List, [], ◌∷◌, ◌++◌, length, take, drop, refl, sym, ap, subst, ◌∙◌, append_assoc, arith, ◌⊎◌, inl, inr, lit<, add-one}
use Rattle.std.proofs.lemmas.Bool.{cases_lt}
use Rattle.std.proofs.lemmas.List.{take_at, drop_at, take-append-le, drop-append-le, take-append-drop, length-append, length-take, length-drop, nil_from_length}
use Rattle.std.proofs.Math.Nat.{add-div_left, div-eq_of_lt, div-eq-sub-div}
use Rattle.rws_wire.specs.declared.fault.WireFault.{WireFault}
use Rattle.rws_wire.specs.declared.packet.Packet.{Packet}
use Rattle.rws_wire.specs.declared.packet.Packet.TheVariants.{Partial, Bad, More, Last}
use Rattle.rws_wire.specs.Numbers.{AreBytes}
use Rattle.rws_wire.specs.Packets.{full_packet, packet, packets, next_number, spelling, number_behind}
use Rattle.rws_wire.specs.Payloads.{packet_of, Beginning, Nothing, Whole, Faulty, continued, gathered, payload_behind, first_payload}
use Rattle.rws_wire.proofs.NumberLemmas.{AreBytes-drop}
use Rattle.rws_wire.proofs.PacketLemmas.{TellsFront, nothing, bad, goes_on, ends, tells_front, with_full, with_last, packet_of-append, packet_of-packet, Front}

-- ---- packet by packet

same_continued : (p : Packet) (one other : List ℕ → List ℕ → Beginning) (number : ℕ) (before bytes : List ℕ)
    → ((size : ℕ) (chunk : List ℕ) → one chunk (drop size (drop 4 bytes)) ≡ other chunk (drop size (drop 4 bytes)))
    → continued one number before bytes p ≡ continued other number before bytes p
same_continued Partial one other number before bytes same = refl
same_continued (Bad fault) one other number before bytes same = refl
same_continued (More size) one other number before bytes same = same size (before ++ take size (drop 4 bytes))
same_continued (Last size) one other number before bytes same = refl

pub length-behind : (size : ℕ) (bytes : List ℕ) → length (drop size (drop 4 bytes)) ≤ length bytes - 4
length-behind size bytes = omega (arith, length-drop size (drop 4 bytes), length-drop 4 bytes)

-- more than as many packets as bytes change nothing
gathered_enough : (f g limit number : ℕ) (before bytes : List ℕ) → length bytes ≤ f → length bytes ≤ g
    → gathered f limit number before bytes ≡ gathered g limit number before bytes
gathered_enough zero zero limit number before bytes p q = refl
gathered_enough zero (suc g) limit number before bytes p q =
    let none = nil_from_length bytes (omega arith) in rw none refl
gathered_enough (suc f) zero limit number before bytes p q =
    let none = nil_from_length bytes (omega arith) in rw none refl
gathered_enough (suc f) (suc g) limit number before bytes p q =
    same_continued (packet_of limit number (length before) bytes) (gathered f limit (next_number number)) (gathered g limit (next_number number)) number before bytes
    (λ size chunk. gathered_enough f g limit (next_number number) chunk (drop size (drop 4 bytes)) (omega (arith, length-behind size bytes)) (omega (arith, length-behind size bytes)))

pub payload_behind-step : (limit number : ℕ) (before bytes : List ℕ)
    → payload_behind limit number before bytes ≡ continued (payload_behind limit (next_number number)) number before bytes (packet_of limit number (length before) bytes)
unfolding payload_behind
payload_behind-step limit number before [] = refl
payload_behind-step limit number before (b ∷ bytes) =
    same_continued (packet_of limit number (length before) (b ∷ bytes)) (gathered (length bytes) limit (next_number number)) (payload_behind limit (next_number number)) number before (b ∷ bytes)
    (λ size chunk.
    let rest : List ℕ = drop size (drop 4 (b ∷ bytes)) in
    let shorter : length rest ≤ length bytes = omega (arith, length-behind size (b ∷ bytes)) in
    gathered_enough (length bytes) (length rest) limit (next_number number) chunk rest shorter (omega arith))

pub first_payload-is : (limit number : ℕ) (bytes : List ℕ) → first_payload limit number bytes ≡ payload_behind limit number [] bytes
unfolding first_payload
first_payload-is limit number bytes = refl

-- by the packet at the front

pub behind_partial : (limit number : ℕ) (before bytes : List ℕ) → packet_of limit number (length before) bytes ≡ Partial → payload_behind limit number before bytes ≡ Nothing
behind_partial limit number before bytes e = payload_behind-step limit number before bytes ∙ ap (continued (payload_behind limit (next_number number)) number before bytes) e

pub behind_bad : (limit number : ℕ) (before bytes : List ℕ) (fault : WireFault) → packet_of limit number (length before) bytes ≡ Bad fault → payload_behind limit number before bytes ≡ Faulty fault
behind_bad limit number before bytes fault e = payload_behind-step limit number before bytes ∙ ap (continued (payload_behind limit (next_number number)) number before bytes) e

pub behind_more : (limit number : ℕ) (before bytes : List ℕ) (size : ℕ) → packet_of limit number (length before) bytes ≡ More size
    → payload_behind limit number before bytes ≡ payload_behind limit (next_number number) (before ++ take size (drop 4 bytes)) (drop size (drop 4 bytes))
behind_more limit number before bytes size e = payload_behind-step limit number before bytes ∙ ap (continued (payload_behind limit (next_number number)) number before bytes) e

pub behind_last : (limit number : ℕ) (before bytes : List ℕ) (size : ℕ) → packet_of limit number (length before) bytes ≡ Last size
    → payload_behind limit number before bytes ≡ Whole (before ++ take size (drop 4 bytes)) (next_number number) (drop size (drop 4 bytes))
behind_last limit number before bytes size e = payload_behind-step limit number before bytes ∙ ap (continued (payload_behind limit (next_number number)) number before bytes) e

-- a packet that is there has its bytes
more_whole : (limit number before : ℕ) (bytes : List ℕ) (size : ℕ) (p : Packet) → TellsFront limit number before bytes p → p ≡ More size → 4 + size ≤ length bytes
more_whole limit number before bytes size p nothing e = absurd cc
more_whole limit number before bytes size p (bad fault) e = absurd cc
more_whole limit number before bytes size p (goes_on n front within same) e = let is : n ≡ size = cc in rw (← is) front.whole
more_whole limit number before bytes size p (ends n front within other) e = absurd cc

last_whole : (limit number before : ℕ) (bytes : List ℕ) (size : ℕ) (p : Packet) → TellsFront limit number before bytes p → p ≡ Last size → 4 + size ≤ length bytes
last_whole limit number before bytes size p nothing e = absurd cc
last_whole limit number before bytes size p (bad fault) e = absurd cc
last_whole limit number before bytes size p (goes_on n front within same) e = absurd cc
last_whole limit number before bytes size p (ends n front within other) e = let is : n ≡ size = cc in rw (← is) front.whole

pub more_fits : (limit number before : ℕ) (bytes : List ℕ) (size : ℕ) → packet_of limit number before bytes ≡ More size → 4 + size ≤ length bytes
more_fits limit number before bytes size e = more_whole limit number before bytes size (packet_of limit number before bytes) (tells_front limit number before bytes) e

pub last_fits : (limit number before : ℕ) (bytes : List ℕ) (size : ℕ) → packet_of limit number before bytes ≡ Last size → 4 + size ≤ length bytes
last_fits limit number before bytes size e = last_whole limit number before bytes size (packet_of limit number before bytes) (tells_front limit number before bytes) e

-- ---- bytes behind it change nothing

-- with so many bytes more at the end
abbrev pub followed_by : List ℕ → Beginning → Beginning
followed_by more Nothing = Nothing
followed_by more (Whole payload next rest) = Whole payload next (rest ++ more)
followed_by more (Faulty fault) = Faulty fault

drop-drop-append : (size : ℕ) (bytes more : List ℕ) → 4 + size ≤ length bytes → drop size (drop 4 (bytes ++ more)) ≡ drop size (drop 4 bytes) ++ more
drop-drop-append size bytes more long =
    ap (drop size) (drop-append-le 4 bytes more (omega arith)) ∙ drop-append-le size (drop 4 bytes) more (omega (arith, length-drop 4 bytes))

take-drop-append : (size : ℕ) (bytes more : List ℕ) → 4 + size ≤ length bytes → take size (drop 4 (bytes ++ more)) ≡ take size (drop 4 bytes)
take-drop-append size bytes more long =
    ap (take size) (drop-append-le 4 bytes more (omega arith)) ∙ take-append-le size (drop 4 bytes) more (omega (arith, length-drop 4 bytes))

continued-append : (p : Packet) (one other : List ℕ → List ℕ → Beginning) (limit number : ℕ) (before bytes more : List ℕ)
    → TellsFront limit number (length before) bytes p → p ≢ Partial
    → ((chunk rest : List ℕ) → other chunk (rest ++ more) ≡ followed_by more (one chunk rest) ⊎ (one chunk rest ≡ Nothing))
    → (continued other number before (bytes ++ more) p ≡ followed_by more (continued one number before bytes p)) ⊎ (continued one number before bytes p ≡ Nothing)
continued-append p one other limit number before bytes more nothing whole step = absurd (whole refl)
continued-append p one other limit number before bytes more (bad fault) whole step = inl refl
continued-append p one other limit number before bytes more (goes_on size front within same) whole step =
    rw (take-drop-append size bytes more front.whole, drop-drop-append size bytes more front.whole)
    (step (before ++ take size (drop 4 bytes)) (drop size (drop 4 bytes)))
continued-append p one other limit number before bytes more (ends size front within shorter) whole step =
    rw (take-drop-append size bytes more front.whole, drop-drop-append size bytes more front.whole) (inl refl)

partial_or_not : (p : Packet) → (p ≡ Partial) ⊎ (p ≢ Partial)
partial_or_not Partial = inl refl
partial_or_not (Bad fault) = inr (λ e. absurd cc)
partial_or_not (More size) = inr (λ e. absurd cc)
partial_or_not (Last size) = inr (λ e. absurd cc)

-- a payload or a fault stays so when bytes come behind it
gathered-append : (f limit number : ℕ) (before bytes more : List ℕ)
    → (payload_behind limit number before (bytes ++ more) ≡ followed_by more (gathered f limit number before bytes)) ⊎ (gathered f limit number before bytes ≡ Nothing)
gathered-append zero limit number before bytes more = inr refl
gathered-append (suc f) limit number before bytes more =
    let p = packet_of limit number (length before) bytes in
    let one = gathered f limit (next_number number) in
    let other = payload_behind limit (next_number number) in
    elim (partial_or_not p) [
      | inl is ↦ inr (ap (continued one number before bytes) is)
      | inr whole ↦
          rw (payload_behind-step limit number before (bytes ++ more), packet_of-append limit number (length before) bytes more whole)
          (continued-append p one other limit number before bytes more (tells_front limit number (length before) bytes) whole
          (λ chunk rest. gathered-append f limit (next_number number) chunk rest more))
    ]

-- what is not nothing stays so when bytes come behind it
pub first_payload-append : (limit number : ℕ) (bytes more : List ℕ) → first_payload limit number bytes ≢ Nothing
    → first_payload limit number (bytes ++ more) ≡ followed_by more (first_payload limit number bytes)
unfolding first_payload payload_behind
first_payload-append limit number bytes more whole =
    elim (gathered-append (length bytes) limit number [] bytes more) [ inl e ↦ e | inr none ↦ absurd (whole none) ]

pub first_payload-Whole-append : (limit number : ℕ) (bytes more payload : List ℕ) (next : ℕ) (rest : List ℕ) → first_payload limit number bytes ≡ Whole payload next rest
    → first_payload limit number (bytes ++ more) ≡ Whole payload next (rest ++ more)
first_payload-Whole-append limit number bytes more payload next rest e =
    first_payload-append limit number bytes more (λ none. absurd (let clash : Whole payload next rest ≡ Nothing = sym e ∙ none in cc)) ∙ ap (followed_by more) e

pub first_payload-Faulty-append : (limit number : ℕ) (bytes more : List ℕ) (fault : WireFault) → first_payload limit number bytes ≡ Faulty fault
    → first_payload limit number (bytes ++ more) ≡ Faulty fault
first_payload-Faulty-append limit number bytes more fault e =
    first_payload-append limit number bytes more (λ none. absurd (let clash : Faulty fault ≡ Nothing = sym e ∙ none in cc)) ∙ ap (followed_by more) e

-- ---- a payload that was spelled is read

pub full_packet-pos : 0 < full_packet
unfolding full_packet
full_packet-pos = lit< tt

pub full_packet-lt : full_packet < 2 ^ 24
unfolding full_packet
full_packet-lt = lit< tt

-- how many full packets there are
pub count_none : (n m : ℕ) → 0 < m → n / m ≡ 0 → n < m
count_none n m pos none =
    elim (cases_lt n m) [ inl lt ↦ lt | inr le ↦ absurd (omega (arith, div-eq-sub-div {m = m} {n = n} pos le)) ]

pub count_more : (n m k : ℕ) → 0 < m → n / m ≡ suc k → (m ≤ n) × ((n - m) / m ≡ k)
count_more n m k pos more =
    elim (cases_lt n m) [
      | inl lt ↦ absurd (omega (arith, div-eq_of_lt {n = n} {m = m} lt))
      | inr le ↦ (le, omega (arith, div-eq-sub-div {m = m} {n = n} pos le))
    ]

pub number_zero : (number : ℕ) → (number + 0 + 1) % 256 ≡ next_number number
number_zero number = ap (λ (n : ℕ). n % 256) (omega arith)

pub number_suc : (number full : ℕ) → (next_number number + full + 1) % 256 ≡ (number + suc full + 1) % 256
number_suc number full = omega arith

last_read : (limit number : ℕ) (before payload rest : List ℕ) → length payload < full_packet → length before + length payload ≤ limit
    → payload_behind limit number before (packet number payload ++ rest) ≡ Whole (before ++ payload) (next_number number) rest
last_read limit number before payload rest small within =
    let long : length payload ≤ length (payload ++ rest) = omega (arith, length-append payload rest) in
    let other : length payload ≢ full_packet = λ e. omega arith in
    let read : packet_of limit number (length before) (packet number payload ++ rest) ≡ Last (length payload) =
    packet_of-packet limit number (length before) payload rest (omega (arith, full_packet-lt)) ∙ with_last limit (length before) (length payload) (payload ++ rest) within long other in
    payload_behind-step limit number before (packet number payload ++ rest)
    ∙ ap (continued (payload_behind limit (next_number number)) number before (packet number payload ++ rest)) read
    ∙ ap (λ (t : List ℕ). Whole (before ++ t) (next_number number) (drop (length payload) (payload ++ rest))) (take_at payload rest (length payload) refl)
    ∙ ap (λ (t : List ℕ). Whole (before ++ payload) (next_number number) t) (drop_at payload rest (length payload) refl)

pub full_read : (limit number : ℕ) (before chunk rest : List ℕ) → length chunk ≡ full_packet → length before + length chunk ≤ limit
    → payload_behind limit number before (packet number chunk ++ rest) ≡ payload_behind limit (next_number number) (before ++ chunk) rest
full_read limit number before chunk rest same within =
    let long : length chunk ≤ length (chunk ++ rest) = omega (arith, length-append chunk rest) in
    let read : packet_of limit number (length before) (packet number chunk ++ rest) ≡ More (length chunk) =
    packet_of-packet limit number (length before) chunk rest (omega (arith, full_packet-lt)) ∙ with_full limit (length before) (length chunk) (chunk ++ rest) within long same in
    payload_behind-step limit number before (packet number chunk ++ rest)
    ∙ ap (continued (payload_behind limit (next_number number)) number before (packet number chunk ++ rest)) read
    ∙ ap (λ (t : List ℕ). payload_behind limit (next_number number) (before ++ t) (drop (length chunk) (chunk ++ rest))) (take_at chunk rest (length chunk) refl)
    ∙ ap (λ (t : List ℕ). payload_behind limit (next_number number) (before ++ chunk) t) (drop_at chunk rest (length chunk) refl)

packets_read : (full limit number : ℕ) (before payload rest : List ℕ) → length payload / full_packet ≡ full → length before + length payload ≤ limit
    → payload_behind limit number before (packets full number payload ++ rest) ≡ Whole (before ++ payload) ((number + full + 1) % 256) rest
packets_read zero limit number before payload rest count within =
    last_read limit number before payload rest (count_none (length payload) full_packet full_packet-pos count) within
    ∙ ap (λ (n : ℕ). Whole (before ++ payload) n rest) (sym (number_zero number))
packets_read (suc full) limit number before payload rest count within =
    let step = count_more (length payload) full_packet full full_packet-pos count in
    let chunk : List ℕ = take full_packet payload in
    let behind : List ℕ = drop full_packet payload in
    let size : length chunk ≡ full_packet = omega (arith, length-take full_packet payload) in
    let left : length behind ≡ length payload - full_packet = length-drop full_packet payload in
    let more : length behind / full_packet ≡ full = ap (λ (n : ℕ). n / full_packet) left ∙ step.1 in
    let grown : length (before ++ chunk) + length behind ≤ limit = omega (arith, length-append before chunk) in
    let joined : (before ++ chunk) ++ behind ≡ before ++ payload = append_assoc before chunk behind ∙ ap (λ (t : List ℕ). before ++ t) (take-append-drop full_packet payload) in
    ap (payload_behind limit number before) (append_assoc (packet number chunk) (packets full (next_number number) behind) rest)
    ∙ full_read limit number before chunk (packets full (next_number number) behind ++ rest) size (omega arith)
    ∙ packets_read full limit (next_number number) (before ++ chunk) behind rest more grown
    ∙ ap (λ (t : List ℕ). Whole t ((next_number number + full + 1) % 256) rest) joined
    ∙ ap (λ (n : ℕ). Whole (before ++ payload) n rest) (number_suc number full)

-- a payload that was spelled is read, whatever follows
pub first_payload-spelling : (limit number : ℕ) (payload rest : List ℕ) → length payload ≤ limit
    → first_payload limit number (spelling number payload ++ rest) ≡ Whole payload (number_behind number payload) rest
unfolding first_payload spelling number_behind
first_payload-spelling limit number payload rest within =
    packets_read (length payload / full_packet) limit number [] payload rest refl (omega arith)

-- ---- a payload that was read was spelled

pub full_packet-is : full_packet + 1 ≡ 2 ^ 24
unfolding full_packet
full_packet-is = refl

-- the bytes spell what is read behind so many bytes of its payload
record Spelled (limit number : ℕ) (before bytes payload : List ℕ) (next : ℕ) (rest : List ℕ) : Type 0 where
  left : List ℕ
  whole : payload ≡ before ++ left
  spelled : bytes ≡ packets (length left / full_packet) number left ++ rest
  behind : next ≡ (number + length left / full_packet + 1) % 256
  within : length payload ≤ limit

Whole-parts : (p q : List ℕ) (m n : ℕ) (r s : List ℕ) → Whole p m r ≡ Whole q n s → (p ≡ q) × (m ≡ n) × (r ≡ s)
Whole-parts p q m n r s e = (cc, cc, cc)

last_spelled : (limit number : ℕ) (before bytes : List ℕ) (size : ℕ) → AreBytes bytes → Front number size bytes → length before + size ≤ limit → size ≢ full_packet
    → Spelled limit number before bytes (before ++ take size (drop 4 bytes)) (next_number number) (drop size (drop 4 bytes))
last_spelled limit number before bytes size fit front within other =
    let chunk : List ℕ = take size (drop 4 bytes) in
    let small : size < 2 ^ 24 = front.small fit in
    let fits : 4 + size ≤ length bytes = front.whole in
    let len : length chunk ≡ size = omega (arith, length-take size (drop 4 bytes), length-drop 4 bytes) in
    let none : length chunk / full_packet ≡ 0 = div-eq_of_lt {n = length chunk} {m = full_packet} (omega (arith, full_packet-is)) in
    record {
      left = chunk;
      whole = refl;
      spelled = front.spelled fit ∙ ap (λ (full : ℕ). packets full number chunk ++ drop size (drop 4 bytes)) (sym none);
      behind = sym (ap (λ (full : ℕ). (number + full + 1) % 256) none ∙ number_zero number);
      within = omega (arith, length-append before chunk);
    }

more_spelled : (limit number : ℕ) (before bytes : List ℕ) (size : ℕ) (payload : List ℕ) (next : ℕ) (rest : List ℕ) → AreBytes bytes → Front number size bytes → size ≡ full_packet
    → Spelled limit (next_number number) (before ++ take size (drop 4 bytes)) (drop size (drop 4 bytes)) payload next rest
    → Spelled limit number before bytes payload next rest
more_spelled limit number before bytes size payload next rest fit front same s =
    let chunk : List ℕ = take size (drop 4 bytes) in
    let fits : 4 + size ≤ length bytes = front.whole in
    let len : length chunk ≡ full_packet = omega (arith, length-take size (drop 4 bytes), length-drop 4 bytes) in
    let total : length (chunk ++ s.left) ≡ full_packet + length s.left = omega (arith, length-append chunk s.left) in
    let count : length (chunk ++ s.left) / full_packet ≡ suc (length s.left / full_packet) =
    ap (λ (n : ℕ). n / full_packet) total ∙ add-div_left (length s.left) {k = full_packet} full_packet-pos ∙ add-one (length s.left / full_packet) in
    let tail : List ℕ = packets (length s.left / full_packet) (next_number number) s.left in
    let written : packets (suc (length s.left / full_packet)) number (chunk ++ s.left) ≡ packet number chunk ++ tail =
    ap (λ (t : List ℕ). packet number t ++ packets (length s.left / full_packet) (next_number number) (drop full_packet (chunk ++ s.left))) (take_at chunk s.left full_packet len)
    ∙ ap (λ (t : List ℕ). packet number chunk ++ packets (length s.left / full_packet) (next_number number) t) (drop_at chunk s.left full_packet len) in
    record {
      left = chunk ++ s.left;
      whole = s.whole ∙ append_assoc before chunk s.left;
      spelled = front.spelled fit
          ∙ ap (λ (t : List ℕ). packet number chunk ++ t) s.spelled
          ∙ sym (append_assoc (packet number chunk) tail rest)
          ∙ ap (λ (t : List ℕ). t ++ rest) (sym written)
          ∙ ap (λ (full : ℕ). packets full number (chunk ++ s.left) ++ rest) (sym count);
      behind = s.behind ∙ number_suc number (length s.left / full_packet) ∙ ap (λ (full : ℕ). (number + full + 1) % 256) (sym count);
      within = s.within;
    }

continued_spelled : (p : Packet) (one : List ℕ → List ℕ → Beginning) (limit number : ℕ) (before bytes payload : List ℕ) (next : ℕ) (rest : List ℕ)
    → AreBytes bytes → TellsFront limit number (length before) bytes p
    → ((chunk behind : List ℕ) → AreBytes behind → one chunk behind ≡ Whole payload next rest → Spelled limit (next_number number) chunk behind payload next rest)
    → continued one number before bytes p ≡ Whole payload next rest
    → Spelled limit number before bytes payload next rest
continued_spelled p one limit number before bytes payload next rest fit nothing step e = absurd cc
continued_spelled p one limit number before bytes payload next rest fit (bad fault) step e = absurd cc
continued_spelled p one limit number before bytes payload next rest fit (goes_on size front within same) step e =
    let behind = AreBytes-drop size (drop 4 bytes) (AreBytes-drop 4 bytes fit) in
    more_spelled limit number before bytes size payload next rest fit front same (step (before ++ take size (drop 4 bytes)) (drop size (drop 4 bytes)) behind e)
continued_spelled p one limit number before bytes payload next rest fit (ends size front within other) step e =
    let is = Whole-parts (before ++ take size (drop 4 bytes)) payload (next_number number) next (drop size (drop 4 bytes)) rest e in
    let whole = last_spelled limit number before bytes size fit front within other in
    subst (λ (t : List ℕ). Spelled limit number before bytes payload next t) is.2
    (subst (λ (n : ℕ). Spelled limit number before bytes payload n (drop size (drop 4 bytes))) is.1
    (subst (λ (t : List ℕ). Spelled limit number before bytes t (next_number number) (drop size (drop 4 bytes))) is.0 whole))

gathered_spelled : (f limit number : ℕ) (before bytes payload : List ℕ) (next : ℕ) (rest : List ℕ) → AreBytes bytes
    → gathered f limit number before bytes ≡ Whole payload next rest → Spelled limit number before bytes payload next rest
gathered_spelled zero limit number before bytes payload next rest fit e = absurd cc
gathered_spelled (suc f) limit number before bytes payload next rest fit e =
    continued_spelled (packet_of limit number (length before) bytes) (gathered f limit (next_number number)) limit number before bytes payload next rest fit
    (tells_front limit number (length before) bytes)
    (λ chunk behind fits h. gathered_spelled f limit (next_number number) chunk behind payload next rest fits h) e

-- what was read: its spelling stands in front of the rest
pub record IsRead (limit number : ℕ) (bytes payload : List ℕ) (next : ℕ) (rest : List ℕ) : Type 0 where
  pub spelled : bytes ≡ spelling number payload ++ rest
  pub behind : next ≡ number_behind number payload
  pub within : length payload ≤ limit

pub first_payload_spelled : (limit number : ℕ) (bytes payload : List ℕ) (next : ℕ) (rest : List ℕ) → AreBytes bytes
    → first_payload limit number bytes ≡ Whole payload next rest → IsRead limit number bytes payload next rest
unfolding first_payload payload_behind spelling number_behind
first_payload_spelled limit number bytes payload next rest fit e =
    let s = gathered_spelled (length bytes) limit number [] bytes payload next rest fit e in
    record {
      spelled = s.spelled ∙ ap (λ (t : List ℕ). packets (length t / full_packet) number t ++ rest) (sym s.whole);
      behind = s.behind ∙ ap (λ (t : List ℕ). (number + length t / full_packet + 1) % 256) (sym s.whole);
      within = s.within;
    }
