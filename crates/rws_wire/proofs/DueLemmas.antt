-- The number that the next packet is to have, packet by packet.
use Rattle.std.proofs.Common.{◌≡◌, ℕ, zero, suc, ◌+◌, ◌<◌, ◌≤◌, List, [], ◌∷◌, length, drop, refl, sym, ap, ◌∙◌, arith}
use Rattle.std.proofs.lemmas.List.{nil_from_length}
use Rattle.rws_wire.specs.declared.packet.Packet.{Packet}
use Rattle.rws_wire.specs.declared.packet.Packet.TheVariants.{Partial, Bad, More, Last}
use Rattle.rws_wire.specs.Packets.{next_number}
use Rattle.rws_wire.specs.Payloads.{packet_of}
use Rattle.rws_wire.specs.Due.{numbered, counted, due_behind, number_due, unless_bad}
use Rattle.rws_wire.proofs.PacketLemmas.{TellsFront, nothing, bad, goes_on, ends, tells_front}
use Rattle.rws_wire.proofs.PayloadLemmas.{length-behind, more_fits}

same_numbered : (p : Packet) (one other : ℕ → List ℕ → ℕ) (number before : ℕ) (bytes : List ℕ)
    → ((size n : ℕ) → one n (drop size (drop 4 bytes)) ≡ other n (drop size (drop 4 bytes)))
    → numbered one number before bytes p ≡ numbered other number before bytes p
same_numbered Partial one other number before bytes same = refl
same_numbered (Bad fault) one other number before bytes same = refl
same_numbered (More size) one other number before bytes same = same size (before + size)
same_numbered (Last size) one other number before bytes same = refl

-- more than as many packets as bytes change nothing
counted_enough : (f g limit number before : ℕ) (bytes : List ℕ) → length bytes ≤ f → length bytes ≤ g
    → counted f limit number before bytes ≡ counted g limit number before bytes
counted_enough zero zero limit number before bytes p q = refl
counted_enough zero (suc g) limit number before bytes p q =
    let none = nil_from_length bytes (omega arith) in rw none refl
counted_enough (suc f) zero limit number before bytes p q =
    let none = nil_from_length bytes (omega arith) in rw none refl
counted_enough (suc f) (suc g) limit number before bytes p q =
    same_numbered (packet_of limit number before bytes) (counted f limit (next_number number)) (counted g limit (next_number number)) number before bytes
    (λ size n. counted_enough f g limit (next_number number) n (drop size (drop 4 bytes)) (omega (arith, length-behind size bytes)) (omega (arith, length-behind size bytes)))

due_behind-step : (limit number before : ℕ) (bytes : List ℕ)
    → due_behind limit number before bytes ≡ numbered (due_behind limit (next_number number)) number before bytes (packet_of limit number before bytes)
unfolding due_behind
due_behind-step limit number before [] = refl
due_behind-step limit number before (b ∷ bytes) =
    same_numbered (packet_of limit number before (b ∷ bytes)) (counted (length bytes) limit (next_number number)) (due_behind limit (next_number number)) number before (b ∷ bytes)
    (λ size n.
    let rest : List ℕ = drop size (drop 4 (b ∷ bytes)) in
    let shorter : length rest ≤ length bytes = omega (arith, length-behind size (b ∷ bytes)) in
    counted_enough (length bytes) (length rest) limit (next_number number) n rest shorter (omega arith))

-- a faulty packet counts as none
numbered_unless : (p : Packet) (go_on : ℕ → List ℕ → ℕ) (number before : ℕ) (bytes : List ℕ)
    → numbered go_on number before bytes p ≡ numbered go_on number before bytes (unless_bad p)
numbered_unless Partial go_on number before bytes = refl
numbered_unless (Bad fault) go_on number before bytes = refl
numbered_unless (More size) go_on number before bytes = refl
numbered_unless (Last size) go_on number before bytes = refl

more_unless : (p : Packet) (size : ℕ) → More size ≡ unless_bad p → p ≡ More size
more_unless Partial size e = absurd cc
more_unless (Bad fault) size e = absurd cc
more_unless (More n) size e = cc
more_unless (Last n) size e = absurd cc

more_within : (limit number before : ℕ) (bytes : List ℕ) (size : ℕ) (p : Packet) → TellsFront limit number before bytes p → p ≡ More size → before + size ≤ limit
more_within limit number before bytes size p nothing e = absurd cc
more_within limit number before bytes size p (bad fault) e = absurd cc
more_within limit number before bytes size p (goes_on n front within same) e = let is : n ≡ size = cc in rw (← is) within
more_within limit number before bytes size p (ends n front within other) e = absurd cc

-- no packet is in fewer bytes than a header has
pub short_partial : (limit number before : ℕ) (bytes : List ℕ) → length bytes < 4 → packet_of limit number before bytes ≡ Partial
short_partial limit number before [] short = refl
short_partial limit number before (a ∷ []) short = refl
short_partial limit number before (a ∷ b ∷ []) short = refl
short_partial limit number before (a ∷ b ∷ c ∷ []) short = refl
short_partial limit number before (a ∷ b ∷ c ∷ got ∷ rest) short = absurd (omega arith)

-- what is counted behind the packets so far is what all bytes give
pub record Counts (limit first : ℕ) (bytes : List ℕ) (number before : ℕ) (rest : List ℕ) : Type 0 where
  pub within : before ≤ limit
  pub same : due_behind limit number before rest ≡ number_due limit first bytes

pub counts_none : (limit first : ℕ) (bytes : List ℕ) → Counts limit first bytes first 0 bytes
unfolding number_due
counts_none limit first bytes = record { within = omega arith; same = refl }

pub counts_by : (limit first : ℕ) (bytes : List ℕ) (number before : ℕ) (rest : List ℕ) (p : Packet) → Counts limit first bytes number before rest
    → p ≡ unless_bad (packet_of limit number before rest)
    → number_due limit first bytes ≡ numbered (due_behind limit (next_number number)) number before rest p
counts_by limit first bytes number before rest p c e =
    sym c.same ∙ due_behind-step limit number before rest
    ∙ numbered_unless (packet_of limit number before rest) (due_behind limit (next_number number)) number before rest
    ∙ ap (numbered (due_behind limit (next_number number)) number before rest) (sym e)

pub more_is : (limit number before : ℕ) (rest : List ℕ) (size : ℕ) → More size ≡ unless_bad (packet_of limit number before rest)
    → (4 + size ≤ length rest) × (before + size ≤ limit)
more_is limit number before rest size e =
    let is = more_unless (packet_of limit number before rest) size e in
    (more_fits limit number before rest size is, more_within limit number before rest size (packet_of limit number before rest) (tells_front limit number before rest) is)

pub counts_more : (limit first : ℕ) (bytes : List ℕ) (number before : ℕ) (rest : List ℕ) (size : ℕ) → Counts limit first bytes number before rest
    → More size ≡ unless_bad (packet_of limit number before rest)
    → Counts limit first bytes (next_number number) (before + size) (drop size (drop 4 rest))
counts_more limit first bytes number before rest size c e = record {
  within = (more_is limit number before rest size e).1;
  same = sym (counts_by limit first bytes number before rest (More size) c e);
}
