-- Two digests are the same where no byte of one differs from the other's.
use Rattle.std.proofs.Common.{◌≡◌, ◌==◌, ℕ, ◌+◌, ◌<◌, ◌≤◌, true, List, length, get_or, refl, sym, ap, ◌∙◌, arith, inl, inr, bit_xor}
use Rattle.std.proofs.lemmas.List.{ext_get_or}
use Rattle.std.specs.Prelude.{◌↔◌}
use Rattle.std.specs.Int.Bits.{bit_or, xor_self, xor_zero_l, or_zero_l}
use Rattle.std.proofs.lemmas.Bool.{cases_lt, eq-eqb, eqb-true}
use Rattle.std.proofs.lemmas.Nat.{le_or_l, le_or_r}
use Rattle.rws_native.proofs.MixingLemmas.{byte_again}

xor_none : (a b : ℕ) → bit_xor a b ≡ 0 → a ≡ b
xor_none a b none = sym (byte_again a b) ∙ ap (λ (d : ℕ). bit_xor d b) none ∙ xor_zero_l b

xor_same : (a b : ℕ) → a ≡ b → bit_xor a b ≡ 0
xor_same a b same = ap (bit_xor a) (sym same) ∙ xor_self a

-- so many first bytes are the same exactly where no difference was found in them
pub record Differ (count : ℕ) (left right : List ℕ) (difference : ℕ) : Type 0 where
  pub same : difference ≡ 0 → (k : ℕ) → k < count → get_or left k 0 ≡ get_or right k 0
  pub none : ((k : ℕ) → k < count → get_or left k 0 ≡ get_or right k 0) → difference ≡ 0

pub differ_none : (left right : List ℕ) → Differ 0 left right 0
differ_none left right = record { same = λ e k lt. absurd (omega arith); none = λ all. refl }

pub differ_more : (i : ℕ) (left right : List ℕ) (difference : ℕ) → Differ i left right difference
    → Differ (i + 1) left right (bit_or difference (bit_xor (get_or left i 0) (get_or right i 0)))
differ_more i left right difference d =
    let one : ℕ = bit_xor (get_or left i 0) (get_or right i 0) in
    record {
      same = λ e k lt.
          elim (cases_lt k i) [
            | inl before ↦ d.same (omega (arith, le_or_l difference one, e)) k before
            | inr behind ↦
                let here : k ≡ i = omega arith in
                let equal = xor_none (get_or left i 0) (get_or right i 0) (omega (arith, le_or_r difference one, e)) in
                rw here equal
          ];
      none = λ all.
          let before : difference ≡ 0 = d.none (λ k lt. all k (omega arith)) in
          let here : one ≡ 0 = xor_same (get_or left i 0) (get_or right i 0) (all i (omega arith)) in
          ap (λ (n : ℕ). bit_or n one) before ∙ or_zero_l one ∙ here;
    }

-- all bytes were looked at
pub compared : (left right : List ℕ) (i difference : ℕ) → length left ≡ 20 → length right ≡ 20 → 20 ≤ i → Differ i left right difference
    → ((difference == 0) ≡ true) ↔ (left ≡ right)
compared left right i difference size other whole d = (
  λ e.
      let zero_ : difference ≡ 0 = eqb-true difference 0 e in
      ext_get_or 0 left right (size ∙ sym other) (λ k lt. d.same zero_ k (omega arith)),
  λ same. eq-eqb difference 0 (d.none (λ k lt. ap (λ (t : List ℕ). get_or t k 0) same)),
)
