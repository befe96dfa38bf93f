-- Where no id is stale on a link, none is forgotten.
use Rattle.std.proofs.Common.{◌≡◌, ℕ, zero, suc, List, [], ◌∷◌, refl, sym, ap, ◌∙◌, Option, Some, None, unwrap_or}
use Rattle.std.specs.Prelude.{slice_get, slice_set}
use Rattle.rws_handles.specs.LinkIds.{Ids, least, no_ids, without_least}
use Rattle.rws_handles.specs.Links.{forget_at, ids_at, ids_on, place_of, without_least_on}

none_stale : (stale : List ℕ) → least stale ≡ None → stale ≡ []
none_stale [] e = refl
none_stale (id ∷ ids) e = absurd cc

nothing_less : (on : Ids) → least on.stale ≡ None → without_least on ≡ on
nothing_less on e = let empty = none_stale on.stale e in rw empty refl

same_set : (ids : List Ids) (at : ℕ) (otherwise : Ids) → slice_set ids at (unwrap_or (slice_get ids at) otherwise) ≡ ids
same_set [] at otherwise = refl
same_set (first ∷ others) zero otherwise = refl
same_set (first ∷ others) (suc at) otherwise = ap (λ (list : List Ids). first ∷ list) (same_set others at otherwise)

same_at : (link : ℕ) (ids : List Ids) (place : Option ℕ) → least (ids_at link ids place).stale ≡ None → forget_at link ids place ≡ ids
same_at link ids None e = refl
same_at link ids (Some at) e =
    ap (λ (on : Ids). slice_set ids at on) (nothing_less (ids_at link ids (Some at)) e) ∙ same_set ids at (no_ids link)

pub same_where_none_stale : (link : ℕ) (ids : List Ids) → least (ids_on link ids).stale ≡ None → without_least_on link ids ≡ ids
same_where_none_stale link ids e = same_at link ids (place_of link ids) e
