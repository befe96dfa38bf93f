use Rattle.rws_words.specs.Words.{character_sets}
use Rattle.rws_words.proofs.lists.is_character_set_name.Goals as goal

-- the program's list is the list of words
pub returns : goal.returns
unfolding character_sets
returns c = c.is_among.ensures
