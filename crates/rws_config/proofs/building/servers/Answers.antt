use Rattle.std.proofs.Common.{◌++◌, map, take, sym, ap, ◌∙◌}
use Rattle.std.specs.List.{filter_map}
use Rattle.std.specs.Option.{option_to_list}
use Rattle.std.proofs.lemmas.List.{map-append}
use Rattle.toml.specs.Data.{as_table}
use Rattle.toml.specs.View.{view}
use Rattle.rws_config.specs.Values.{server_of}
use Rattle.rws_config.proofs.ArrayLemmas.{chosen_more}
use Rattle.rws_config.proofs.building.servers.Goals as goal

pub loop-value-preserved : goal.loop-value-preserved
loop-value-preserved c =
    let more = chosen_more as_table c.args.values.now c.loop-value.value-index c.value-item.result c.loop-value-test.true (sym c.value-item.is) in
    let joined = map-append server_of (filter_map as_table (map view (take c.loop-value.value-index c.args.values.now))) (option_to_list (as_table (view c.value-item.result))) in
    c.in_ok-push_server.ensures ∙ ap (λ servers. servers ++ map server_of (option_to_list (as_table (view c.value-item.result)))) c.loop-value.invariant
    ∙ sym (ap (map server_of) more ∙ joined)
