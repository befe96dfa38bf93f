-- What bytes begin with, said of whole packets: so many full ones, and what stands behind them.
use Rattle.std.specs.Prelude.{◌≡◌, ◌≢◌, ◌↔◌, ℕ, zero, suc, ◌+◌, ◌*◌, ◌%◌, ◌^◌, ◌<◌, ◌≤◌, List, [], ◌++◌, length, take, drop}
use Rattle.rws_wire.specs.declared.fault.WireFault.TheVariants.{OutOfOrder, TooLarge}
use Rattle.rws_wire.specs.Numbers.{AreBytes}
use Rattle.rws_wire.specs.Packets.{full_packet, next_number, header, packet, spelling, number_behind}
use Rattle.rws_wire.specs.Payloads.{Beginning, Nothing, Whole, Faulty, first_payload}

-- so many full packets that carry these bytes, numbered from a number on
abbrev pub full_packets : ℕ → ℕ → List ℕ → List ℕ
full_packets zero number bytes = []
full_packets (suc full) number bytes =
    packet number (take full_packet bytes) ++ full_packets full (next_number number) (drop full_packet bytes)

-- the number that the packet behind them is to have
abbrev pub due : ℕ → ℕ → ℕ
due first full = (first + full) % 256

-- bytes are so many full packets, which carry no more than the limit, and then the rest
pub record Leads (limit first full : ℕ) (bytes rest : List ℕ) : Type 0 where
  pub carried : List ℕ
  pub size : length carried ≡ full * full_packet
  pub within : length carried ≤ limit
  pub spelled : bytes ≡ full_packets full first carried ++ rest

-- what bytes begin with, if their first packet is to have the number `first`
pub data Begins (limit first : ℕ) (bytes : List ℕ) : Beginning → Type 0 where
  -- the spelling of a payload within the limit
  whole : (payload rest : List ℕ) → bytes ≡ spelling first payload ++ rest → length payload ≤ limit
      → Begins limit first bytes (Whole payload (number_behind first payload) rest)
  -- full packets and a header whose number isn't the due one, whatever its length
  other_number : (full announced got : ℕ) (rest : List ℕ)
      → Leads limit first full bytes (header announced got ++ rest) → got ≢ due first full
      → Begins limit first bytes (Faulty (OutOfOrder (due first full) got))
  -- full packets and a header with the due number, whose length lifts the payload above the limit
  too_large : (full announced : ℕ) (rest : List ℕ)
      → Leads limit first full bytes (header announced (due first full) ++ rest) → announced < 2 ^ 24
      → limit < full * full_packet + announced
      → Begins limit first bytes (Faulty (TooLarge (full * full_packet + announced)))
  -- full packets and fewer bytes than a header has
  short_header : (full : ℕ) (rest : List ℕ) → Leads limit first full bytes rest → length rest < 4
      → Begins limit first bytes Nothing
  -- full packets and a header with the due number, within the limit, and fewer bytes than it announces
  short_packet : (full announced : ℕ) (rest : List ℕ)
      → Leads limit first full bytes (header announced (due first full) ++ rest) → announced < 2 ^ 24
      → full * full_packet + announced ≤ limit → length rest < announced
      → Begins limit first bytes Nothing

-- what is read packet by packet is what the bytes begin with, and nothing else is
abbrev pub BeginningsAreRead : Type 0
BeginningsAreRead =
    (limit first : ℕ) (bytes : List ℕ) (beginning : Beginning) → AreBytes bytes → first < 256
    → (first_payload limit first bytes ≡ beginning) ↔ Begins limit first bytes beginning
