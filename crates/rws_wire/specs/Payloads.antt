-- Which payload the bytes of a stream begin with, if its first packet is to have a given number.
use Rattle.std.specs.Prelude.{ℕ, zero, suc, ◌+◌, List, [], ◌∷◌, ◌++◌, length, take, drop, nat_lt, ◌==◌, if◌then◌else◌}
use Rattle.rws_wire.specs.declared.fault.WireFault.{WireFault}
use Rattle.rws_wire.specs.declared.fault.WireFault.TheVariants.{OutOfOrder, TooLarge}
use Rattle.rws_wire.specs.declared.packet.Packet.{Packet}
use Rattle.rws_wire.specs.declared.packet.Packet.TheVariants.{Partial, Bad, More, Last}
use Rattle.rws_wire.specs.Numbers.{number_of}
use Rattle.rws_wire.specs.Packets.{full_packet, next_number}

-- The packet that bytes begin with, if it is to have this number and so many bytes of its payload come before
-- it. A fault shows at the header's fourth byte, and a wrong number before a length above the limit.
abbrev pub packet_with : ℕ → ℕ → ℕ → List ℕ → Packet
packet_with limit before announced rest =
    if nat_lt limit (before + announced) then Bad (TooLarge (before + announced)) else
    (if nat_lt (length rest) announced then Partial else
    (if announced == full_packet then More announced else Last announced))

abbrev pub packet_of : ℕ → ℕ → ℕ → List ℕ → Packet
packet_of limit number before (a ∷ b ∷ c ∷ got ∷ rest) =
    if got == number then packet_with limit before (number_of (a ∷ b ∷ c ∷ [])) rest
    else Bad (OutOfOrder number got)
packet_of limit number before bytes = Partial

-- what bytes begin with
pub data Beginning : Type 0 where
  -- no whole payload as yet, and no fault
  Nothing : Beginning
  -- a payload, the number behind its last packet and the bytes behind it
  Whole : (payload : List ℕ) → (next : ℕ) → (rest : List ℕ) → Beginning
  Faulty : (fault : WireFault) → Beginning

-- A payload of which some bytes came in full packets before, by the packet that comes next: a full one is
-- followed by what the bytes behind it begin with.
abbrev pub continued : (List ℕ → List ℕ → Beginning) → ℕ → List ℕ → List ℕ → Packet → Beginning
continued go_on number before bytes Partial = Nothing
continued go_on number before bytes (Bad fault) = Faulty fault
continued go_on number before bytes (More size) = go_on (before ++ take size (drop 4 bytes)) (drop size (drop 4 bytes))
continued go_on number before bytes (Last size) =
    Whole (before ++ take size (drop 4 bytes)) (next_number number) (drop size (drop 4 bytes))

-- the same with a bound on the number of packets
abbrev pub gathered : ℕ → ℕ → ℕ → List ℕ → List ℕ → Beginning
gathered zero limit number before bytes = Nothing
gathered (suc bound) limit number before bytes =
    continued (gathered bound limit (next_number number)) number before bytes
    (packet_of limit number (length before) bytes)

-- each packet takes at least four bytes, so there are no more packets than bytes
unfoldable pub payload_behind : ℕ → ℕ → List ℕ → List ℕ → Beginning
payload_behind limit number before bytes = gathered (length bytes) limit number before bytes

-- what bytes begin with, under a limit on the length of a payload
unfoldable pub first_payload : ℕ → ℕ → List ℕ → Beginning
first_payload limit number bytes = payload_behind limit number [] bytes
