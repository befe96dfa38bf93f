use Rattle.rws_set.specs.Modes.{mode_words}
use Rattle.rws_set.proofs.mode.begins_mode.Goals as goal

-- the program's list is the list of words
pub returns : goal.returns
unfolding mode_words
returns c = c.begins_any.ensures
