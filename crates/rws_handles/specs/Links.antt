-- The ids that the servers gave to statements, one entry a link.
use Rattle.std.specs.Prelude.{ℕ, not, ◌==◌, List, [], ◌∷◌, ◌++◌, map, filter, slice_get, slice_set, unwrap_or, Option, Some, None}
use Rattle.std.specs.List.{position_from}
use Rattle.rws_handles.specs.LinkIds.{Ids, no_ids, id_of, with_id, with_left, with_stale_id, without_least}

abbrev pub place_of : ℕ → List Ids → Option ℕ
place_of link links = position_from (λ on. on.link == link) 0 links

abbrev pub ids_at : ℕ → List Ids → Option ℕ → Ids
ids_at link links None = no_ids link
ids_at link links (Some at) = unwrap_or (slice_get links at) (no_ids link)

-- the ids on this link
abbrev pub ids_on : ℕ → List Ids → Ids
ids_on link links = ids_at link links (place_of link links)

abbrev pub put_at : List Ids → Option ℕ → Ids → List Ids
put_at links None on = links ++ on ∷ []
put_at links (Some at) on = slice_set links at on

-- the server of the link gave this id to the statement
abbrev pub with_id_on : ℕ → ℕ → ℕ → List Ids → List Ids
with_id_on link number id links = put_at links (place_of link links) (with_id number id (ids_on link links))

-- the server of the link gave this id to a statement that has left
abbrev pub with_stale_on : (link id : ℕ) → List Ids → List Ids
with_stale_on link id links = put_at links (place_of link links) (with_stale_id id (ids_on link links))

abbrev pub forget_at : ℕ → List Ids → Option ℕ → List Ids
forget_at link links None = links
forget_at link links (Some at) = slice_set links at (without_least (ids_at link links (Some at)))

-- the least stale id on the link is forgotten
abbrev pub without_least_on : ℕ → List Ids → List Ids
without_least_on link links = forget_at link links (place_of link links)

-- all ids on the link are forgotten
abbrev pub without_link : ℕ → List Ids → List Ids
without_link link links = filter (λ on. not (on.link == link)) links

-- the id of the statement with this number on this link
abbrev pub id_on : List Ids → ℕ → ℕ → Option ℕ
id_on links link number = id_of number (ids_on link links)

-- the statement with this number left the table
abbrev pub left_on : ℕ → List Ids → List Ids
left_on number links = map (with_left number) links

-- these left, one after the other
abbrev pub left_all : List ℕ → List Ids → List Ids
left_all [] links = links
left_all (number ∷ numbers) links = left_all numbers (left_on number links)
