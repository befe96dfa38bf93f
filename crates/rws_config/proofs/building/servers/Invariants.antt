use Rattle.std.proofs.Common.{◌≡◌, map, take}
use Rattle.std.specs.List.{filter_map}
use Rattle.toml.specs.Data.{as_table}
use Rattle.toml.specs.View.{view}
use Rattle.rws_config.specs.Values.{server_of}
use Rattle.rws_config.proofs.building.servers.Given as goal

abbrev pub invariant-loop-value : goal.invariant-loop-value
invariant-loop-value l = l.servers ≡ map server_of (filter_map as_table (map view (take l.value-index l.values)))
