use Rattle.std.proofs.Common.{◌++◌, sym, ap, ◌∙◌}
use Rattle.std.specs.Option.{option_to_list}
use Rattle.toml.specs.Data.{as_str}
use Rattle.toml.specs.View.{view}
use Rattle.rws_config.proofs.ArrayLemmas.{chosen_more}
use Rattle.rws_config.proofs.building.texts.Goals as goal

pub loop-value-preserved : goal.loop-value-preserved
loop-value-preserved c =
    let more = chosen_more as_str c.args.values.now c.loop-value.value-index c.value-item.result c.loop-value-test.true (sym c.value-item.is) in
    c.in_ok-push_text.ensures ∙ ap (λ texts. texts ++ option_to_list (as_str (view c.value-item.result))) c.loop-value.invariant ∙ sym more
