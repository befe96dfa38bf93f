-- A whole stream: payloads, each with the number of its first packet, and a rest that begins with no whole payload.
use Rattle.std.specs.Prelude.{◌≡◌, ◌≢◌, ◌↔◌, ℕ, ◌≤◌, List, [], ◌∷◌, ◌++◌, length, All}
use Rattle.rws_wire.specs.Numbers.{AreBytes}
use Rattle.rws_wire.specs.Packets.{spelling, number_behind}
use Rattle.rws_wire.specs.Payloads.{Whole, first_payload}

-- the spellings of the payloads, one behind the other, and then the rest
abbrev pub stream_bytes : List (ℕ × List ℕ) → List ℕ → List ℕ
stream_bytes [] rest = rest
stream_bytes (one ∷ others) rest = spelling one.0 one.1 ++ stream_bytes others rest

-- a payload is no longer than the limit
abbrev pub IsWithin : ℕ → ℕ × List ℕ → Type 0
IsWithin limit one = length one.1 ≤ limit

-- no payload within the limit is read whole, if its first packet is to have the number `first`
abbrev pub ReadsNone : ℕ → ℕ → List ℕ → Type 0
ReadsNone limit first bytes = (payload : List ℕ) (next : ℕ) (rest : List ℕ) → first_payload limit first bytes ≢ Whole payload next rest

-- no spelling of a payload within the limit stands in front, from the number `first` on
abbrev pub SpellsNone : ℕ → ℕ → List ℕ → Type 0
SpellsNone limit first bytes = (payload rest : List ℕ) → length payload ≤ limit → bytes ≢ spelling first payload ++ rest

-- Bytes are a stream of these payloads: one after the other is what the bytes begin with, and the rest behind the last
-- one begins with no whole payload. Which number a packet is to have is the reader's to say, as a command's first packet
-- has 0 and a reply's the number behind the command's last: it stands beside each payload, and `due` is that of the rest.
pub data IsStream (limit due : ℕ) : List ℕ → List (ℕ × List ℕ) → List ℕ → Type 0 where
  ends : (rest : List ℕ) → ReadsNone limit due rest → IsStream limit due rest [] rest
  goes_on : (first : ℕ) (payload bytes behind : List ℕ) (others : List (ℕ × List ℕ)) (rest : List ℕ)
      → first_payload limit first bytes ≡ Whole payload (number_behind first payload) behind
      → IsStream limit due behind others rest → IsStream limit due bytes ((first, payload) ∷ others) rest

-- These payloads and this rest are read exactly where the bytes are the payloads' spellings and the rest, each payload
-- is within the limit, and the rest begins with no spelling of one.
abbrev pub StreamsAreRead : Type 0
StreamsAreRead =
    (limit due : ℕ) (bytes : List ℕ) (payloads : List (ℕ × List ℕ)) (rest : List ℕ) → AreBytes bytes
    → IsStream limit due bytes payloads rest
    ↔ ((bytes ≡ stream_bytes payloads rest) × All (IsWithin limit) payloads × SpellsNone limit due rest)

-- When more bytes come the same payloads are read, and behind them those with which the rest and the new bytes begin.
abbrev pub StreamsAreKept : Type 0
StreamsAreKept =
    (limit due then : ℕ) (bytes more : List ℕ) (payloads others : List (ℕ × List ℕ)) (rest left : List ℕ)
    → IsStream limit due bytes payloads rest → IsStream limit then (rest ++ more) others left
    → IsStream limit then (bytes ++ more) (payloads ++ others) left
