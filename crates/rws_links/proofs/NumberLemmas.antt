-- Two numbers that differ.
use Rattle.std.proofs.Common.{◌≡◌, ℕ, false, sym, ne_eqb}
use Rattle.std.proofs.lemmas.Bool.{eqb-false}
use Rattle.std.specs.Prelude.{◌==◌}

-- read from the other side
pub apart : (a b : ℕ) → (a == b) ≡ false → (b == a) ≡ false
apart a b differ = ne_eqb b a (λ same. eqb-false a b differ (sym same))
