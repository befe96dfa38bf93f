use Rattle.std.proofs.Common.{map, take, sym, ap, ◌∙◌}
use Rattle.std.specs.List.{filter_map, flat_map}
use Rattle.std.specs.Option.{option_to_list}
use Rattle.toml.specs.Data.{as_table}
use Rattle.toml.specs.View.{view}
use Rattle.rws_config.specs.Settings.{flawed, keys_in, least_from}
use Rattle.rws_config.proofs.ArrayLemmas.{chosen_more}
use Rattle.rws_config.proofs.LeastLemmas.{full_name, over_tables}
use Rattle.rws_config.proofs.flaws.with_values.Goals as goal

pub loop-value-preserved : goal.loop-value-preserved
loop-value-preserved c =
    let more = chosen_more as_table c.args.values.now c.loop-value.value-index c.value-item.result c.loop-value-test.true (sym c.value-item.is) in
    let done = filter_map as_table (map view (take c.loop-value.value-index c.args.values.now)) in
    let here = option_to_list (as_table (view c.value-item.result)) in
    c.in_ok-least.ensures
    ∙ ap (λ best. least_from best (map (full_name c.args.place) (flat_map (flawed c.args.flaw (keys_in c.args.place)) here))) c.loop-value.invariant
    ∙ over_tables c.args.least c.args.place (flawed c.args.flaw (keys_in c.args.place)) done here
    ∙ sym (ap (λ tables. least_from c.args.least (map (full_name c.args.place) (flat_map (flawed c.args.flaw (keys_in c.args.place)) tables))) more)
