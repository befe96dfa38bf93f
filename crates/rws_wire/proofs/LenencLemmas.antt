-- Length-encoded integers: what was written is read back whatever follows, and no spelling is shorter.
use Rattle.std.proofs.Common.{◌≡◌, ℕ, suc, ◌+◌, ◌^◌, ◌<◌, ◌≤◌, Bool, true, false, cond, ltb, eqb, List, [], ◌∷◌, ◌++◌, length, take, drop, refl, arith, inl, inr}
use Rattle.std.proofs.lemmas.Bool.{cases_lt, lt-ltb, le-ltb}
use Rattle.std.proofs.lemmas.List.{take_at, drop_at, length-append, length-take, length-drop}
use Rattle.rws_wire.specs.Numbers.{AreBytes, number_of, bytes_of}
use Rattle.rws_wire.specs.Lenenc.{Integer, Cut, NoInteger, sized, lenenc, lenenc_bytes}
use Rattle.rws_wire.proofs.NumberLemmas.{AreBytes-take, length-bytes_of, number_of-bytes_of, number_of-lt}

pub sized-bytes_of : (size n : ℕ) (rest : List ℕ) → n < 256 ^ size → sized size (bytes_of size n ++ rest) ≡ Integer n rest
sized-bytes_of size n rest lt =
    let len = length-bytes_of size n in
    let long : ltb (length (bytes_of size n ++ rest)) size ≡ false = le-ltb _ _ (omega (arith, length-append (bytes_of size n) rest)) in
    rw (long, take_at (bytes_of size n) rest size len, drop_at (bytes_of size n) rest size len, number_of-bytes_of size n lt) refl

-- the value that its spelling is read as
pub lenenc-lenenc_bytes : (n : ℕ) (rest : List ℕ) → n < 2 ^ 64 → lenenc (lenenc_bytes n ++ rest) ≡ Integer n rest
unfolding lenenc lenenc_bytes
lenenc-lenenc_bytes n rest lt =
    elim (cases_lt n 0xFB) [
      | inl a ↦ rw (lt-ltb n 0xFB a, lt-ltb n 0xFB a) refl
      | inr b ↦ elim (cases_lt n (2 ^ 16)) [
        | inl c ↦ rw (le-ltb n 0xFB b, lt-ltb n (2 ^ 16) c) (sized-bytes_of 2 n rest c)
        | inr d ↦ elim (cases_lt n (2 ^ 24)) [
          | inl e ↦ rw (le-ltb n 0xFB b, le-ltb n (2 ^ 16) d, lt-ltb n (2 ^ 24) e) (sized-bytes_of 3 n rest e)
          | inr f ↦ rw (le-ltb n 0xFB b, le-ltb n (2 ^ 16) d, le-ltb n (2 ^ 24) f) (sized-bytes_of 8 n rest lt)
        ]
      ]
    ]

length-lenenc_bytes_1 : (n : ℕ) → n < 0xFB → length (lenenc_bytes n) ≡ 1
unfolding lenenc_bytes
length-lenenc_bytes_1 n lt = rw (lt-ltb n 0xFB lt) refl

pub length-lenenc_bytes_3 : (n : ℕ) → n < 2 ^ 16 → length (lenenc_bytes n) ≤ 3
unfolding lenenc_bytes
length-lenenc_bytes_3 n lt =
    elim (cases_lt n 0xFB) [
      | inl a ↦ rw (lt-ltb n 0xFB a) (omega arith)
      | inr b ↦ rw (le-ltb n 0xFB b, lt-ltb n (2 ^ 16) lt) (omega arith)
    ]

pub length-lenenc_bytes_4 : (n : ℕ) → n < 2 ^ 24 → length (lenenc_bytes n) ≤ 4
unfolding lenenc_bytes
length-lenenc_bytes_4 n lt =
    elim (cases_lt n (2 ^ 16)) [
      | inl a ↦ omega (arith, length-lenenc_bytes_3 n a)
      | inr b ↦ rw (le-ltb n 0xFB (omega arith), le-ltb n (2 ^ 16) b, lt-ltb n (2 ^ 24) lt) (omega arith)
    ]

pub length-lenenc_bytes_9 : (n : ℕ) → length (lenenc_bytes n) ≤ 9
unfolding lenenc_bytes
length-lenenc_bytes_9 n =
    elim (cases_lt n (2 ^ 24)) [
      | inl a ↦ omega (arith, length-lenenc_bytes_4 n a)
      | inr b ↦ rw (le-ltb n 0xFB (omega arith), le-ltb n (2 ^ 16) (omega arith), le-ltb n (2 ^ 24) b) (omega arith)
    ]

Integer-parts : (m n : ℕ) (xs ys : List ℕ) → Integer m xs ≡ Integer n ys → (m ≡ n) × (xs ≡ ys)
Integer-parts m n xs ys e = (cc, cc)

-- an integer that was read from so many bytes takes them, and its value fits them
sized-Integer : (size value : ℕ) (bytes rest : List ℕ) → AreBytes bytes → sized size bytes ≡ Integer value rest → (length bytes ≡ size + length rest) × (value < 256 ^ size)
sized-Integer size value bytes rest fit e =
    elim (cases_lt (length bytes) size) [
      | inl lt ↦ absurd (let short : Cut ≡ Integer value rest = rw (lt-ltb (length bytes) size lt) at e in cc)
      | inr le ↦
          let whole = Integer-parts (number_of (take size bytes)) value (drop size bytes) rest (rw (le-ltb (length bytes) size le) at e) in
          let len : length (take size bytes) ≡ size = omega (arith, length-take size bytes) in
          let small : number_of (take size bytes) < 256 ^ size = rw len at (number_of-lt (take size bytes) (AreBytes-take size bytes fit)) in
          (rw (← whole.1) (omega (arith, length-drop size bytes)), rw (← whole.0) small)
    ]

-- a spelling in 2, 3 or 8 bytes behind its first
sized_shortest : (two three eight : Bool) (value : ℕ) (bytes rest : List ℕ) → AreBytes bytes
    → cond two (sized 2 bytes) (cond three (sized 3 bytes) (cond eight (sized 8 bytes) NoInteger)) ≡ Integer value rest
    → length (lenenc_bytes value) + length rest ≤ suc (length bytes)
sized_shortest true three eight value bytes rest fit e =
    let read = sized-Integer 2 value bytes rest fit e in omega (arith, length-lenenc_bytes_3 value read.1)
sized_shortest false true eight value bytes rest fit e =
    let read = sized-Integer 3 value bytes rest fit e in omega (arith, length-lenenc_bytes_4 value read.1)
sized_shortest false false true value bytes rest fit e =
    let read = sized-Integer 8 value bytes rest fit e in omega (arith, length-lenenc_bytes_9 value)
sized_shortest false false false value bytes rest fit e = absurd cc

-- the shortest spelling is no longer than a spelling in so many bytes behind its first byte
pub shortest : (value : ℕ) (bytes rest : List ℕ) → AreBytes bytes → lenenc bytes ≡ Integer value rest → length (lenenc_bytes value) + length rest ≤ length bytes
unfolding lenenc
shortest value [] rest fit e = absurd cc
shortest value (first ∷ bytes) rest fit e =
    let behind : AreBytes bytes = λ i. fit (suc i) in
    elim (cases_lt first 0xFB) [
      | inl a ↦
          let one = Integer-parts first value bytes rest (rw (lt-ltb first 0xFB a) at e) in
          rw (← one.0, ← one.1, length-lenenc_bytes_1 first a) (omega arith)
      | inr b ↦ sized_shortest (eqb first 0xFC) (eqb first 0xFD) (eqb first 0xFE) value bytes rest behind (rw (le-ltb first 0xFB b) at e)
    ]
