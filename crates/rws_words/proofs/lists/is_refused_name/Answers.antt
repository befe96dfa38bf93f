use Rattle.rws_words.specs.Words.{refused_names}
use Rattle.rws_words.proofs.lists.is_refused_name.Goals as goal

-- the program's list is the list of words
pub returns : goal.returns
unfolding refused_names
returns c = c.is_among.ensures
