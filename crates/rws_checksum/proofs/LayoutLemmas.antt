-- A layout grows payload by payload, and is read back.
use Rattle.std.proofs.Common.{◌≡◌, ◌^◌, ◌<◌, ℕ, List, [], ◌∷◌, ◌++◌, length, take, drop, refl, sym, ap, ◌∙◌, append_assoc, rules}
use Rattle.std.specs.Int.{w64, to_le_bytes, from_le_bytes}
use Rattle.std.proofs.Math.Seq.{take-append_seam, drop-append_seam}
use Rattle.std.proofs.lemmas.Nat.{from_le_bytes-to_le_bytes_8}
use Rattle.rws_checksum.specs.Layout.{prefixed, layout, HaveLengths}

-- one payload more
pub layout_grows : (payloads : List (List ℕ)) (payload : List ℕ) → layout (payloads ++ payload ∷ []) ≡ layout payloads ++ prefixed payload
layout_grows [] payload = search rules
layout_grows (first ∷ payloads) payload =
    ap (λ (rest : List ℕ). prefixed first ++ rest) (layout_grows payloads payload) ∙ sym (append_assoc (prefixed first) (layout payloads) (prefixed payload))

-- the length in front of a payload, and what stands behind it
same_length : (n m : ℕ) (rest others : List ℕ) → n < 2 ^ 64 → m < 2 ^ 64 → to_le_bytes w64 n ++ rest ≡ to_le_bytes w64 m ++ others → n ≡ m
same_length n m rest others n_fits m_fits same =
    let sizes : to_le_bytes w64 n ≡ to_le_bytes w64 m = ap (λ (bytes : List ℕ). take 8 bytes) same in
    sym (from_le_bytes-to_le_bytes_8 n n_fits) ∙ (ap (from_le_bytes w64) sizes ∙ from_le_bytes-to_le_bytes_8 m m_fits)

same_behind : (n m : ℕ) (rest others : List ℕ) → to_le_bytes w64 n ++ rest ≡ to_le_bytes w64 m ++ others → rest ≡ others
same_behind n m rest others same = ap (λ (bytes : List ℕ). drop 8 bytes) same

same_front : (p q rest others : List ℕ) → length p ≡ length q → p ++ rest ≡ q ++ others → p ≡ q
same_front p q rest others sizes same =
    sym (take-append_seam p rest) ∙ (ap (λ (bytes : List ℕ). take (length p) bytes) same
    ∙ (ap (λ (n : ℕ). take n (q ++ others)) sizes ∙ take-append_seam q others))

same_back : (p q rest others : List ℕ) → length p ≡ length q → p ++ rest ≡ q ++ others → rest ≡ others
same_back p q rest others sizes same =
    sym (drop-append_seam p rest) ∙ (ap (λ (bytes : List ℕ). drop (length p) bytes) same
    ∙ (ap (λ (n : ℕ). drop n (q ++ others)) sizes ∙ drop-append_seam q others))

pub layout_same : (these those : List (List ℕ)) → HaveLengths these → HaveLengths those → layout these ≡ layout those → these ≡ those
unfolding prefixed
layout_same [] [] fit other_fit same = refl
layout_same [] (q ∷ those) fit other_fit same = absurd cc
layout_same (p ∷ these) [] fit other_fit same = absurd cc
layout_same (p ∷ these) (q ∷ those) fit other_fit same =
    let parted : to_le_bytes w64 (length p) ++ (p ++ layout these) ≡ to_le_bytes w64 (length q) ++ (q ++ layout those) =
    sym (append_assoc (to_le_bytes w64 (length p)) p (layout these)) ∙ (same ∙ append_assoc (to_le_bytes w64 (length q)) q (layout those)) in
    let sizes : length p ≡ length q = same_length (length p) (length q) (p ++ layout these) (q ++ layout those) fit.0 other_fit.0 parted in
    let behind : p ++ layout these ≡ q ++ layout those = same_behind (length p) (length q) (p ++ layout these) (q ++ layout those) parted in
    let first : p ≡ q = same_front p q (layout these) (layout those) sizes behind in
    let others : these ≡ those = layout_same these those fit.1 other_fit.1 (same_back p q (layout these) (layout those) sizes behind) in
    cc
