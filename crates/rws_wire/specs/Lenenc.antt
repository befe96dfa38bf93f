-- Length-encoded integers ("Protocol Data Types", length-encoded integers). A first byte below 0xFB is the
-- number itself; after 0xFC, 0xFD and 0xFE it stands in the next 2, 3 and 8 bytes. 0xFB is NULL in a row, and
-- 0xFF begins an error packet: neither begins a number.
use Rattle.std.specs.Prelude.{ℕ, ◌-◌, ◌^◌, List, [], ◌∷◌, length, take, drop, nat_lt, ◌==◌, if◌then◌else◌, Option, Some, None}
use Rattle.std.specs.Option.{option_map}
use Rattle.rws_wire.specs.Numbers.{number_of, bytes_of}

-- what bytes begin with
pub data Lenenc : Type 0 where
  -- a length-encoded integer, and the bytes behind it
  Integer : (value : ℕ) → (rest : List ℕ) → Lenenc
  -- too few bytes for one
  Cut : Lenenc
  -- a byte that begins none
  NoInteger : Lenenc

-- a number in the next so many bytes
abbrev pub sized : ℕ → List ℕ → Lenenc
sized size bytes =
    if nat_lt (length bytes) size then Cut else Integer (number_of (take size bytes)) (drop size bytes)

unfoldable pub lenenc : List ℕ → Lenenc
lenenc [] = Cut
lenenc (first ∷ bytes) =
    if nat_lt first 0xFB then Integer first bytes else
    (if first == 0xFC then sized 2 bytes else
    (if first == 0xFD then sized 3 bytes else
    (if first == 0xFE then sized 8 bytes else NoInteger)))

-- the integer and the bytes behind it, if there is one
abbrev pub integer : Lenenc → Option (ℕ × List ℕ)
integer (Integer value rest) = Some (value, rest)
integer Cut = None
integer NoInteger = None

-- the integer at a place of the bytes, and the place behind it
abbrev pub integer_at : List ℕ → ℕ → Option (ℕ × ℕ)
integer_at bytes at =
    option_map (λ found. (found.0, length bytes - length found.1)) (integer (lenenc (drop at bytes)))

-- the shortest spelling of a number below 2 ^ 64
unfoldable pub lenenc_bytes : ℕ → List ℕ
lenenc_bytes n =
    if nat_lt n 0xFB then n ∷ [] else
    (if nat_lt n (2 ^ 16) then 0xFC ∷ bytes_of 2 n else
    (if nat_lt n (2 ^ 24) then 0xFD ∷ bytes_of 3 n else
    0xFE ∷ bytes_of 8 n))
