use Rattle.rws_words.specs.Words.{pure_names}
use Rattle.rws_words.proofs.lists.is_pure.Goals as goal

-- the program's list is the list of words
pub returns : goal.returns
unfolding pure_names
returns c = c.is_among.ensures
