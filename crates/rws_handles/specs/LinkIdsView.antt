-- What a `LinkIds` stands for, and what is true of its fields.
use Rattle.std.specs.Prelude.{◌+◌, ◌≤◌, vec_len}
use Rattle.std.specs.Vec.{vec_capacity}
use Rattle.std.specs.BTreeMap.{btree_map_len}
use Rattle.rws_handles.specs.declared.link_ids.LinkIds.TheInside.{Inside}
use Rattle.rws_handles.specs.LinkIds.{Ids}

abbrev pub link_ids_view : Inside → Ids
link_ids_view on = record { link = on.link; ids = on.ids.entries; stale = on.stale.items }

-- there is room for each id to become stale
abbrev pub HasRoomForAll : Inside → Type 0
HasRoomForAll on = btree_map_len on.ids + vec_len on.stale ≤ vec_capacity on.stale
