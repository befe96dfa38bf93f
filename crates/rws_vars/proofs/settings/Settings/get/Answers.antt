use Rattle.std.proofs.Common.{sym, ap, ◌∙◌}
use Rattle.std.specs.FinMap.{get}
use Rattle.rws_vars.specs.Map.{Map}
use Rattle.rws_vars.proofs.SettingsLemmas.{get-at}
use Rattle.rws_vars.proofs.settings.Settings.get.Goals as goal

pub returns : goal.returns
returns c =
    c.get.ensures.value ∙ sym (get-at c.args.name.now _) ∙ ap (λ (m : Map). get m c.args.name.now) c.self.view_is
