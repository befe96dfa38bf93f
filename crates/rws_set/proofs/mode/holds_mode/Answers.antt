use Rattle.std.proofs.Common.{◌≡◌, true, sym, ◌∙◌}
use Rattle.rws_set.specs.Modes.{mode_words}
use Rattle.rws_set.specs.Modes.{begins_mode}
use Rattle.rws_set.proofs.ModeLemmas.{holds_mode-here}
use Rattle.rws_set.proofs.mode.holds_mode.Goals as goal

pub returns-in-len1-up : goal.returns-in-len1-up
returns-in-len1-up c =
    let begins : begins_mode mode_words c.loop-rest.rest.now ≡ true = cc in
    sym (holds_mode-here mode_words c.loop-rest.rest.now c.in-len1-up.len_at_least begins) ∙ c.loop-rest.invariant
