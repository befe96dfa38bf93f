-- How what is ahead goes on from call to call.
use Rattle.std.proofs.Common.{◌≡◌, ℕ, List, ◌++◌, Option, Some, None}
use Rattle.rws_trace.specs.Reader.{Ahead}

-- one call after another
pub ahead-then : (P Q R : List ℕ → List ℕ → Type 0) → ((x y z : List ℕ) → P x y → Q y z → R x z) → (h0 h1 h2 : List ℕ) (l0 l1 l2 : Option (List ℕ)) → Ahead P h0 l0 h1 l1 → Ahead Q h1 l1 h2 l2 → Ahead R h0 l0 h2 l2
ahead-then P Q R joins h0 h1 h2 None l1 l2 p q = tt
ahead-then P Q R joins h0 h1 h2 (Some x) None l2 p q = absurd p
ahead-then P Q R joins h0 h1 h2 (Some x) (Some y) None p q = absurd q
ahead-then P Q R joins h0 h1 h2 (Some x) (Some y) (Some z) p q = joins (h0 ++ x) (h1 ++ y) (h2 ++ z) p q

-- a change of what is held alone
pub ahead-held : (P : List ℕ → List ℕ → Type 0) (h0 h1 : List ℕ) → ((rest : List ℕ) → P (h0 ++ rest) (h1 ++ rest)) → (left : Option (List ℕ)) → Ahead P h0 left h1 left
ahead-held P h0 h1 holds None = tt
ahead-held P h0 h1 holds (Some rest) = holds rest

-- a change of what is held, after a piece was read
pub ahead-filled : (P : List ℕ → List ℕ → Type 0) (h0 h1 h2 : List ℕ) (l0 l1 : Option (List ℕ)) → Ahead (λ before after. before ≡ after) h0 l0 h1 l1 → ((rest : List ℕ) → P (h1 ++ rest) (h2 ++ rest)) → Ahead P h0 l0 h2 l1
ahead-filled P h0 h1 h2 l0 l1 same holds =
    ahead-then (λ before after. before ≡ after) P P (λ x y z e p. rw e p) h0 h1 h2 l0 l1 l1 same (ahead-held P h1 h2 holds l1)
