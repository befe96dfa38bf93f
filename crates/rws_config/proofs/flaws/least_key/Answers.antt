use Rattle.std.proofs.Common.{◌≡◌, ap, ◌∙◌}
use Rattle.std.proofs.lemmas.Result.{IfOk-weaker}
use Rattle.toml.specs.View.{table_view}
use Rattle.rws_config.specs.declared.keys.Place.TheVariants.{Servers, Accounts}
use Rattle.rws_config.specs.Settings.{flawed_in, flawed_keys, least, least_from}
use Rattle.rws_config.proofs.LeastLemmas.{over_places}
use Rattle.rws_config.proofs.flaws.least_key.Goals as goal

pub returns : goal.returns
returns c =
    let file = table_view c.args.file.now in
    let before = c.in_ok-least-2.ensures ∙ ap (λ best. least_from best (flawed_in c.args.flaw file Servers)) c.in_ok-least.ensures in
    IfOk-weaker c.with_place-3.result (λ key. key ≡ least_from c.in_ok-least-2.least (flawed_in c.args.flaw file Accounts)) (λ key. key ≡ least (flawed_keys c.args.flaw file))
    (λ key e. e ∙ ap (λ best. least_from best (flawed_in c.args.flaw file Accounts)) before ∙ over_places c.args.flaw file) c.with_place-3.ensures
