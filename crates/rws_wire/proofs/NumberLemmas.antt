-- What is written as bytes is read back, and the other way round.
use Rattle.std.proofs.Common.{◌≡◌, ℕ, zero, suc, ◌+◌, ◌*◌, ◌/◌, ◌%◌, ◌^◌, ◌<◌, List, [], ◌∷◌, length, take, drop, refl, ap, arith, inl, inr, lit<}
use Rattle.std.proofs.lemmas.Nat.{div_below}
use Rattle.std.proofs.lemmas.Bool.{cases_lt}
use Rattle.std.proofs.lemmas.List.{get_or-drop, get_or-take, get_or_past, length-take}
use Rattle.std.proofs.Math.Nat.{mod-add-div, pow-suc}
use Rattle.rws_wire.specs.Numbers.{AreBytes, number_of, bytes_of}

pub AreBytes-drop : (n : ℕ) (bytes : List ℕ) → AreBytes bytes → AreBytes (drop n bytes)
AreBytes-drop n bytes fit i = rw get_or-drop (fit (n + i))

pub AreBytes-take : (n : ℕ) (bytes : List ℕ) → AreBytes bytes → AreBytes (take n bytes)
AreBytes-take n bytes fit i =
    elim (cases_lt i n) [
      | inl lt ↦ rw (get_or-take n bytes i 0 lt) (fit i)
      | inr le ↦ rw (get_or_past (take n bytes) i 0 (omega (arith, length-take n bytes))) (omega arith)
    ]

pub length-bytes_of : (size n : ℕ) → length (bytes_of size n) ≡ size
length-bytes_of zero n = refl
length-bytes_of (suc size) n = ap suc (length-bytes_of size (n / 256))

-- a number that fits is read back
pub number_of-bytes_of : (size n : ℕ) → n < 256 ^ size → number_of (bytes_of size n) ≡ n
number_of-bytes_of zero n lt = omega arith
number_of-bytes_of (suc size) n lt =
    let below : n < 256 ^ size * 256 = omega (arith, pow-suc 256 size) in
    let high = number_of-bytes_of size (n / 256) (div_below n 256 (256 ^ size) (lit< tt) below) in
    rw high (mod-add-div n 256)

-- a number of so many bytes fits
pub number_of-lt : (bytes : List ℕ) → AreBytes bytes → number_of bytes < 256 ^ length bytes
number_of-lt [] fit = omega arith
number_of-lt (byte ∷ bytes) fit =
    let high : number_of bytes < 256 ^ length bytes = number_of-lt bytes (λ i. fit (suc i)) in
    let low : byte < 256 = fit 0 in
    omega (arith, pow-suc 256 (length bytes))

-- bytes that were read are written back
pub bytes_of-number_of : (bytes : List ℕ) → AreBytes bytes → bytes_of (length bytes) (number_of bytes) ≡ bytes
bytes_of-number_of [] fit = refl
bytes_of-number_of (byte ∷ bytes) fit =
    let low : byte < 256 = fit 0 in
    let lowest : (byte + 256 * number_of bytes) % 256 ≡ byte = omega arith in
    let others : (byte + 256 * number_of bytes) / 256 ≡ number_of bytes = omega arith in
    rw (lowest, others, bytes_of-number_of bytes (λ i. fit (suc i))) refl
