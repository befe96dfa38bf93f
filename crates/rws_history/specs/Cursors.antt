-- The places of links in a list: how many of its entries a link has taken.
use Rattle.std.specs.Prelude.{ℕ, Bool, ◌+◌, ◌-◌, ◌==◌, nat_lt, not, List, [], ◌∷◌, map, filter, find, Option, Some, None, if◌then◌else◌}
use Rattle.std.specs.Option.{option_map}
use Rattle.rws_history.specs.declared.cursor_list.LinkCursor.{LinkCursor}

-- the cursor is that of this link
abbrev pub is_of : ℕ → LinkCursor → Bool
is_of link cursor = cursor.link == link

abbrev pub cursor_of : List LinkCursor → ℕ → Option ℕ
cursor_of cursors link = option_map (λ (cursor : LinkCursor). cursor.at) (find (is_of link) cursors)

-- with this link at this place, be it known already or not
abbrev pub placed : List LinkCursor → ℕ → ℕ → List LinkCursor
placed [] link at = record { link = link; at = at } ∷ []
placed (cursor ∷ cursors) link at = if cursor.link == link then record { link = link; at = at } ∷ cursors else cursor ∷ placed cursors link at

-- with this link one place further, where it is known
abbrev pub moved : List LinkCursor → ℕ → Option ℕ → List LinkCursor
moved cursors link None = cursors
moved cursors link (Some at) = placed cursors link (at + 1)

-- without this link
abbrev pub without : List LinkCursor → ℕ → List LinkCursor
without cursors link = filter (λ (cursor : LinkCursor). not (cursor.link == link)) cursors

-- a place, once the entry at `removed` is gone: one lower where it lies above
abbrev pub lowered : ℕ → ℕ → ℕ
lowered removed at = if nat_lt removed at then at - 1 else at

abbrev pub cursor_lowered : ℕ → LinkCursor → LinkCursor
cursor_lowered removed cursor = record { link = cursor.link; at = lowered removed cursor.at }

abbrev pub all_lowered : ℕ → List LinkCursor → List LinkCursor
all_lowered removed cursors = map (cursor_lowered removed) cursors
