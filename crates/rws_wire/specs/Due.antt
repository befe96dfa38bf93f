-- The number that the next packet of a stream is to have, by the packets of one payload that came.
use Rattle.std.specs.Prelude.{ℕ, zero, suc, ◌+◌, List, length, drop}
use Rattle.rws_wire.specs.declared.packet.Packet.{Packet}
use Rattle.rws_wire.specs.declared.packet.Packet.TheVariants.{Partial, Bad, More, Last}
use Rattle.rws_wire.specs.Packets.{next_number}
use Rattle.rws_wire.specs.Payloads.{packet_of}

-- By the packet that comes next, where so many bytes of its payload came before: the due number where there is none that is
-- whole, in order and within the limit; behind a full one it goes on; and the payload's last one is the last that counts.
abbrev pub numbered : (ℕ → List ℕ → ℕ) → ℕ → ℕ → List ℕ → Packet → ℕ
numbered go_on number before bytes Partial = number
numbered go_on number before bytes (Bad fault) = number
numbered go_on number before bytes (More size) = go_on (before + size) (drop size (drop 4 bytes))
numbered go_on number before bytes (Last size) = next_number number

-- the same with a bound on the number of packets
abbrev pub counted : ℕ → ℕ → ℕ → ℕ → List ℕ → ℕ
counted zero limit number before bytes = number
counted (suc bound) limit number before bytes =
    numbered (counted bound limit (next_number number)) number before bytes (packet_of limit number before bytes)

-- each packet takes at least four bytes, so there are no more packets than bytes
unfoldable pub due_behind : ℕ → ℕ → ℕ → List ℕ → ℕ
due_behind limit number before bytes = counted (length bytes) limit number before bytes

-- The number behind the whole packets, in order and within the limit, of the payload that bytes begin with, if its first
-- packet is to have the number `first`; `first` itself where there is none.
unfoldable pub number_due : ℕ → ℕ → List ℕ → ℕ
number_due limit first bytes = due_behind limit first 0 bytes

-- a packet that is whole, in order and within the limit, or none
abbrev pub unless_bad : Packet → Packet
unless_bad (Bad fault) = Partial
unless_bad Partial = Partial
unless_bad (More size) = More size
unless_bad (Last size) = Last size
