use Rattle.rws_words.specs.Words.{primary_names}
use Rattle.rws_words.proofs.lists.is_primary.Goals as goal

-- the program's list is the list of words
pub returns : goal.returns
unfolding primary_names
returns c = c.is_among.ensures
