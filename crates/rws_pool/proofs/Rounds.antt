-- A round changes one server after the other.
use Rattle.std.proofs.Common.{◌≡◌, ◌<◌, ℕ, zero, suc, List, [], ◌∷◌, length, get_or, set, take, Option, ap, arith}
use Rattle.rws_pool.specs.declared.words.Seen.{Seen}
use Rattle.rws_pool.specs.Machine.{observed, each_observed}

pub each_observed-more : (servers : List Seen) (round : List (Option Seen)) (k : ℕ) (new d : Seen) (e : Option Seen) → k < length servers → k < length round
    → new ≡ observed (get_or (each_observed servers (take k round)) k d) (get_or round k e)
    → set (each_observed servers (take k round)) k new ≡ each_observed servers (take (suc k) round)
each_observed-more [] round k new d e inside named is = absurd (omega arith)
each_observed-more (s ∷ ss) [] k new d e inside named is = absurd (omega arith)
each_observed-more (s ∷ ss) (o ∷ os) zero new d e inside named is = ap (λ x. x ∷ ss) is
each_observed-more (s ∷ ss) (o ∷ os) (suc k) new d e inside named is = ap (λ xs. observed s o ∷ xs) (each_observed-more ss os k new d e (omega arith) (omega arith) is)
