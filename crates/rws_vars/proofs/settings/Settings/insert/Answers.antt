use Rattle.std.proofs.Common.{ap, ◌∙◌}
use Rattle.std.specs.FinMap.{insert}
use Rattle.rws_vars.specs.Map.{Map}
use Rattle.rws_vars.proofs.SettingsLemmas.{inserted}
use Rattle.rws_vars.proofs.settings.Settings.insert.Goals as goal

pub returns : goal.returns
returns c =
    inserted c.self.inside.values.entries c.insert.new.self.entries c.args.name c.args.value c.in_ok-insert.ensures.updates.0
    ∙ ap (λ (m : Map). insert m c.args.name c.args.value) c.self.view_is
