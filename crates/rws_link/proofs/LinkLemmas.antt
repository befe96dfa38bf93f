-- Pieces are joined, also in front of a payload that was read before.
use Rattle.std.proofs.Common.{◌≡◌, ℕ, zero, suc, ◌/◌, true, false, List, [], ◌∷◌, ◌++◌, length, Option, Some, None, Ok, refl, ap, sym, ◌∙◌, append_assoc, rules}
use Rattle.std.specs.Prelude.{not}
use Rattle.rws_wire.specs.declared.payload.Payload.{Payload}
use Rattle.rws_wire.specs.Packets.{full_packet, packets, spelling}
use Rattle.rws_wire.specs.Payloads.{Whole}
use Rattle.rws_wire.proofs.PayloadLemmas.{first_payload-spelling}
use Rattle.rws_config.specs.declared.limits.TheConstants.{SERVER_PAYLOAD}
use Rattle.rws_link.specs.declared.handshake.Handshake.{Handshake}
use Rattle.rws_link.specs.Handshake.{awaits_greeting}
use Rattle.rws_link.specs.declared.step.LinkCause.TheVariants.{Unasked}
use Rattle.rws_link.specs.Stepping.{LinkState, LogsIn, Rests, Awaits, IsLost, is_new, is_some_byte, logged_in, lost, settled}
use Rattle.rws_link.specs.Linking.{Opening, Ready, Arrives, IsRead, kept, nothing_came, taken}
use Rattle.rws_link.specs.Laws.{PiecesAreJoined}

pub pieces_join : PiecesAreJoined
pieces_join (LogsIn handshake unread) piece more = ap (LogsIn handshake) (append_assoc unread piece more)
pieces_join Rests [] more = refl
pieces_join Rests (byte ∷ bytes) more = refl
pieces_join (Awaits e unread) piece more = ap (Awaits e) (append_assoc unread piece more)
pieces_join (IsLost cause) piece more = refl

pub no_byte : (held : List ℕ) → is_some_byte held ≡ false → held ≡ []
no_byte [] none = refl
no_byte (byte ∷ bytes) none = absurd cc

pub settled-some : (held : List ℕ) → is_some_byte held ≡ true → settled held ≡ IsLost Unasked
settled-some [] some = absurd cc
settled-some (byte ∷ bytes) some = refl

pub logged_in-some : (held : List ℕ) → is_some_byte held ≡ true → logged_in held ≡ lost Unasked
logged_in-some [] some = absurd cc
logged_in-some (byte ∷ bytes) some = refl

packets_some : (full number : ℕ) (payload held : List ℕ) → is_some_byte (packets full number payload ++ held) ≡ true
packets_some zero number payload held = refl
packets_some (suc full) number payload held = refl

-- each payload takes a packet
pub spelling_some : (number : ℕ) (payload held : List ℕ) → is_some_byte (spelling number payload ++ held) ≡ true
unfolding spelling
spelling_some number payload held = packets_some (length payload / full_packet) number payload held

-- a payload that was read before is read again, whatever came behind it
pub read_again : (first : ℕ) (payload : Payload) (held : List ℕ) → IsRead first payload
    → Arrives first (spelling first payload.bytes ++ held) (Ok (Some payload)) (Ready held)
read_again first payload held read =
    (refl, first_payload-spelling SERVER_PAYLOAD first payload.bytes held read.1 ∙ ap (λ (n : ℕ). Whole payload.bytes n held) (sym read.0), refl)

-- a link is new where nothing of its login came, read before or not
unread_none : (came : Option Payload) (first : ℕ) (held : List ℕ) → nothing_came came (length held) ≡ not (is_some_byte (taken first came ++ held))
unread_none (Some payload) first held = sym (ap not (spelling_some first payload.bytes held))
unread_none None first [] = refl
unread_none None first (byte ∷ bytes) = search rules

pub new_by : (handshake : Handshake) (first : ℕ) (came : Option Payload) (held : List ℕ) (link : LinkState)
    → awaits_greeting handshake ≡ true → Opening handshake (taken first came ++ held) ≡ kept link
    → nothing_came came (length held) ≡ is_new link
new_by handshake first came held (LogsIn other unread) awaits is =
    let same : handshake ≡ other = cc in
    let bytes : taken first came ++ held ≡ unread = cc in
    rw (← same, ← bytes, awaits) (unread_none came first held)
new_by handshake first came held Rests awaits is = absurd cc
new_by handshake first came held (Awaits e unread) awaits is = absurd cc
new_by handshake first came held (IsLost cause) awaits is = absurd cc
