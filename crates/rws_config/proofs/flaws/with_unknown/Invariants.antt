use Rattle.std.proofs.Common.{◌≡◌, not, map}
use Rattle.std.specs.List.{filter}
use Rattle.toml.specs.View.{members_view}
use Rattle.rws_config.specs.Settings.{is_known, keys_in, least_from, names_of}
use Rattle.rws_config.proofs.LeastLemmas.{full_name}
use Rattle.rws_config.proofs.flaws.with_unknown.Given as goal

abbrev pub invariant-members : goal.invariant-members
invariant-members l =
    goal.iterator-members.can_next l.name-iterator
    × goal.iterator-members.is_finite l.name-iterator
    × (least_from l.least (map (full_name l.place) (filter (λ name. not (is_known (keys_in l.place) name)) (names_of (members_view l.name-iterator))))
    ≡ least_from l.fn.least (map (full_name l.place) (filter (λ name. not (is_known (keys_in l.place) name)) (names_of (members_view l.table.entries)))))
