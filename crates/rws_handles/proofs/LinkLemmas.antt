-- The ids on links.
use Rattle.std.proofs.Common.{◌≡◌, ◌==◌, ℕ, not, List, filter, Some, refl}
use Rattle.rws_handles.specs.LinkIds.{Ids, least, without_least}

-- the least of the stale ids is taken out
pub taken_least : (on : Ids) (gone : ℕ) (rest : List ℕ) → least on.stale ≡ Some gone → rest ≡ filter (λ id. not (id == gone)) on.stale → record on { stale = rest } ≡ without_least on
taken_least on gone rest is kept = rw (is, kept) refl
