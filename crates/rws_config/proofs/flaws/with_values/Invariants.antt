use Rattle.std.proofs.Common.{◌≡◌, map, take}
use Rattle.std.specs.List.{filter_map, flat_map}
use Rattle.toml.specs.Data.{as_table}
use Rattle.toml.specs.View.{view}
use Rattle.rws_config.specs.Settings.{flawed, keys_in, least_from}
use Rattle.rws_config.proofs.LeastLemmas.{full_name}
use Rattle.rws_config.proofs.flaws.with_values.Given as goal

abbrev pub invariant-loop-value : goal.invariant-loop-value
invariant-loop-value l = l.least ≡ least_from l.fn.least (map (full_name l.place) (flat_map (flawed l.flaw (keys_in l.place)) (filter_map as_table (map view (take l.value-index l.values)))))
