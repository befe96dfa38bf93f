-- The ids that a server gave to statements on one link.
use Rattle.std.specs.Prelude.{ℕ, min, not, ◌==◌, if◌then◌else◌, List, [], ◌∷◌, ◌++◌, filter, Option, Some, None}
use Rattle.std.specs.Ordering.{nat_cmp}
use Rattle.std.specs.BTreeMap.{insert_entry, is_at}
use Rattle.std.specs.Map.{lookup, remove_entry}

pub record Ids : Type 0 where
  pub link : ℕ
  -- the id of each statement that is in the table, by the client's number of the statement
  pub ids : List (ℕ × ℕ)
  -- the ids of statements that have left the table, for the server to close
  pub stale : List ℕ

abbrev pub no_ids : ℕ → Ids
no_ids link = record { link = link; ids = []; stale = [] }

abbrev pub id_of : ℕ → Ids → Option ℕ
id_of number on = lookup (is_at (nat_cmp number)) on.ids

-- the list with an id at its end; none is put
abbrev pub with_stale : List ℕ → Option ℕ → List ℕ
with_stale stale None = stale
with_stale stale (Some id) = stale ++ id ∷ []

-- an id that another takes the place of
abbrev pub replaced : ℕ → Option ℕ → Option ℕ
replaced id None = None
replaced id (Some before) = if before == id then None else Some before

-- the server gave this id to the statement. One that it gave before is stale
abbrev pub with_id : ℕ → ℕ → Ids → Ids
with_id number id on = record on { ids = insert_entry nat_cmp on.ids number id; stale = with_stale on.stale (replaced id (id_of number on)) }

-- the statement left the table
abbrev pub with_left : ℕ → Ids → Ids
with_left number on = record on { ids = remove_entry (is_at (nat_cmp number)) on.ids; stale = with_stale on.stale (id_of number on) }

-- an id of a statement that has left
abbrev pub with_stale_id : ℕ → Ids → Ids
with_stale_id id on = record on { stale = on.stale ++ id ∷ [] }

abbrev pub min_or : ℕ → List ℕ → ℕ
min_or least [] = least
min_or least (id ∷ ids) = min_or (min least id) ids

abbrev pub least : List ℕ → Option ℕ
least [] = None
least (id ∷ ids) = Some (min_or id ids)

abbrev pub without_id : Option ℕ → List ℕ → List ℕ
without_id None ids = ids
without_id (Some gone) ids = filter (λ id. not (id == gone)) ids

-- the least stale id is forgotten
abbrev pub without_least : Ids → Ids
without_least on = record on { stale = without_id (least on.stale) on.stale }
