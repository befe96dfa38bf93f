use Rattle.std.proofs.Common.{◌≡◌, map, drop}
use Rattle.std.specs.List.{filter}
use Rattle.toml.specs.View.{members_view}
use Rattle.rws_config.specs.Keys.{Entry, entry_of}
use Rattle.rws_config.specs.Settings.{has_bad_value, keys_in, least_from}
use Rattle.rws_config.proofs.LeastLemmas.{full_name}
use Rattle.rws_config.proofs.flaws.with_bad.Given as goal

abbrev pub invariant-loop-key : goal.invariant-loop-key
invariant-loop-key l =
    least_from l.least (map (full_name l.place) (map (λ (key : Entry). key.name) (filter (has_bad_value (members_view l.table.entries)) (map entry_of (drop l.key-index l.key-items)))))
    ≡ least_from l.fn.least (map (full_name l.place) (map (λ (key : Entry). key.name) (filter (has_bad_value (members_view l.table.entries)) (keys_in l.place))))
