use Rattle.std.proofs.Common.{◌≡◌, Some, codes, map, ◌∙◌, rules}
use Rattle.std.specs.List.{filter_map}
use Rattle.std.proofs.lemmas.Result.{IfOk-weaker}
use Rattle.toml.specs.declared.value.Value.{the_lemmas}
use Rattle.toml.specs.Data.{array, as_str, get_member}
use Rattle.toml.specs.View.{items_view, table_view, view}
use Rattle.rws_config.specs.BuiltIn.{built_in}
use Rattle.rws_config.specs.Values.{texts_at}
use Rattle.rws_config.proofs.ArrayLemmas.{texts_at_array}
use Rattle.rws_config.proofs.building.listen.Goals as goal

pub returns-in-Some-Array : goal.returns-in-Some-Array
returns-in-Some-Array c =
    let found : get_member (codes "listen") (table_view c.args.file.now) ≡ Some (array (items_view c.deref.result.now)) = search (rules, the_lemmas) in
    IfOk-weaker c.texts.result (λ texts. texts ≡ filter_map as_str (map view c.deref.result.now)) (λ texts. texts ≡ texts_at built_in.listen (codes "listen") (table_view c.args.file.now))
    (λ texts e. e ∙ texts_at_array built_in.listen (codes "listen") (table_view c.args.file.now) c.deref.result.now found) c.texts.ensures
