-- Mixing with a mask twice gives the digest back.
use Rattle.std.proofs.Common.{◌≡◌, ℕ, List, length, get_or, sym, ap, ◌∙◌, arith}
use Rattle.std.specs.Int.Bits.{bit_xor, xor_assoc, xor_self, xor_zero_r}
use Rattle.std.proofs.lemmas.List.FromFn.{fill_by_all, get_or-map-range_with_len}
use Rattle.sha1.specs.Sha1.{sha1}
use Rattle.rws_native.specs.Native.{xor, mask, stage1_in}

pub byte_again : (a b : ℕ) → bit_xor (bit_xor a b) b ≡ a
byte_again a b = xor_assoc a b b ∙ ap (bit_xor a) (xor_self b) ∙ xor_zero_r a

pub xor_again : (digest mask : List ℕ) → length digest ≡ 20 → xor (xor digest mask) mask ≡ digest
unfolding xor
xor_again digest mask whole =
    sym (fill_by_all (λ k. bit_xor (get_or (xor digest mask) k 0) (get_or mask k 0)) digest 20 0 whole
    (λ k h. sym (byte_again (get_or digest k 0) (get_or mask k 0))
    ∙ ap (λ (b : ℕ). bit_xor b (get_or mask k 0)) (sym (get_or-map-range_with_len (λ (i : ℕ). bit_xor (get_or digest i 0) (get_or mask i 0)) 0 20 k k 0 h (omega arith)))))

-- what an answer is made of, and so the first stage is found in it
pub found_in : (digest stage1 scramble stored masking answer : List ℕ) → length digest ≡ 20 → digest ≡ stage1 → answer ≡ xor digest masking → masking ≡ mask scramble stored → stored ≡ sha1 digest → stage1_in answer scramble (sha1 stage1) ≡ stage1
found_in digest stage1 scramble stored masking answer whole same mixed masked hashed =
    rw (← same, mixed, masked, hashed) (xor_again digest (mask scramble (sha1 digest)) whole)
