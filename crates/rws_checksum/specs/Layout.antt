-- What a sum is the digest of (SHA-1 of FIPS 180-4, which the kit's `sha1` defines).
use Rattle.std.specs.Prelude.{ℕ, ◌<◌, ◌^◌, List, [], ◌∷◌, ◌++◌, length}
use Rattle.std.specs.Int.{w64, to_le_bytes}
use Rattle.std.specs.List.{AllByRecursion}
use Rattle.sha1.specs.Sha1.{sha1}

-- a payload behind its length, which stands in 8 bytes, the lowest first
unfoldable pub prefixed : List ℕ → List ℕ
prefixed payload = to_le_bytes w64 (length payload) ++ payload

-- one payload behind the other
abbrev pub layout : List (List ℕ) → List ℕ
layout [] = []
layout (payload ∷ payloads) = prefixed payload ++ layout payloads

-- the sum of these payloads
abbrev pub sum_of : List (List ℕ) → List ℕ
sum_of payloads = sha1 (layout payloads)

-- the length of each payload fits the 8 bytes that it is written in
abbrev pub HaveLengths : List (List ℕ) → Type 0
HaveLengths payloads = AllByRecursion (λ payload. length payload < 2 ^ 64) payloads
