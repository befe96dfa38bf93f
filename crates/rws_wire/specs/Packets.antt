-- How a payload is spelled on the wire ("Standard packet"): packets of 0xFFFFFF bytes and one last shorter one,
-- which may be empty, each behind a header of its length and its number. The numbers count on modulo 256.
use Rattle.std.specs.Prelude.{ℕ, zero, suc, ◌+◌, ◌*◌, ◌/◌, ◌%◌, List, [], ◌∷◌, ◌++◌, length, take, drop}
use Rattle.rws_wire.specs.Numbers.{bytes_of}

-- the bytes of a packet behind which its payload goes on
unfoldable pub full_packet : ℕ
full_packet = 0xFFFFFF

-- the number of the packet behind one
abbrev pub next_number : ℕ → ℕ
next_number number = (number + 1) % 256

-- three bytes of length and one of number
abbrev pub header : ℕ → ℕ → List ℕ
header length number = bytes_of 3 length ++ number ∷ []

abbrev pub packet : ℕ → List ℕ → List ℕ
packet number bytes = header (length bytes) number ++ bytes

-- so many full packets and a last one
abbrev pub packets : ℕ → ℕ → List ℕ → List ℕ
packets zero number payload = packet number payload
packets (suc full) number payload =
    packet number (take full_packet payload) ++ packets full (next_number number) (drop full_packet payload)

-- the one spelling of a payload whose first packet has this number
unfoldable pub spelling : ℕ → List ℕ → List ℕ
spelling number payload = packets (length payload / full_packet) number payload

-- how many bytes the spelling of a payload of so many bytes has: those, and a header of four for each of its packets
abbrev pub spelled_length : ℕ → ℕ
spelled_length bytes = bytes + 4 * (bytes / full_packet + 1)

-- the number behind its last packet
unfoldable pub number_behind : ℕ → List ℕ → ℕ
number_behind number payload = (number + length payload / full_packet + 1) % 256
