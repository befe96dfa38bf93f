-- A list of links without one of them.
use Rattle.std.proofs.Common.{◌≡◌, ℕ, Bool, true, false, List, [], ◌∷◌, refl}
use Rattle.std.specs.Prelude.{◌==◌, if◌then◌else◌}
use Rattle.rws_record.specs.Values.{contains, without}

pub without_keeps_out : (link other : ℕ) (links : List ℕ) → contains other links ≡ false → contains other (without link links) ≡ false
without_keeps_out link other [] e = refl
without_keeps_out link other (first ∷ rest) e =
    by_tests (first == link) (first == other) refl refl e (without_keeps_out link other rest)
  where
    by_tests : (test also : Bool) → (first == link) ≡ test → (first == other) ≡ also
        → (if also then true else contains other rest) ≡ false
        → (contains other rest ≡ false → contains other (without link rest) ≡ false)
        → contains other (without link (first ∷ rest)) ≡ false
    by_tests test true t a e behind = absurd cc
    by_tests true false t a e behind = rw t (behind e)
    by_tests false false t a e behind = rw t (rw a (behind e))

pub without_has_not : (link : ℕ) (links : List ℕ) → contains link (without link links) ≡ false
without_has_not link [] = refl
without_has_not link (first ∷ rest) = by_test (first == link) refl (without_has_not link rest)
  where
    by_test : (test : Bool) → (first == link) ≡ test → contains link (without link rest) ≡ false
        → contains link (without link (first ∷ rest)) ≡ false
    by_test true t behind = rw t behind
    by_test false t behind = rw t (rw t behind)

pub without_has_less : (link other : ℕ) (links : List ℕ) → contains other (without link links) ≡ true → contains other links ≡ true
without_has_less link other links e = by_test (contains other links) refl
  where
    by_test : (test : Bool) → contains other links ≡ test → contains other links ≡ true
    by_test true t = t
    by_test false t = let out = without_keeps_out link other links t in absurd cc
