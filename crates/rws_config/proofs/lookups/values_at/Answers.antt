use Rattle.std.proofs.Common.{◌≡◌, Some, rules}
use Rattle.toml.specs.declared.value.Value.{the_lemmas}
use Rattle.toml.specs.Data.{array, get_member}
use Rattle.toml.specs.View.{items_view, table_view}
use Rattle.rws_config.proofs.ArrayLemmas.{tables_at_array}
use Rattle.rws_config.proofs.lookups.values_at.Goals as goal

pub returns-in-Some-Array : goal.returns-in-Some-Array
returns-in-Some-Array c =
    let found : get_member c.args.key.now (table_view c.args.table.now) ≡ Some (array (items_view c.as_slice.result.now)) = search (rules, the_lemmas) in
    tables_at_array c.args.key.now (table_view c.args.table.now) c.as_slice.result.now found
