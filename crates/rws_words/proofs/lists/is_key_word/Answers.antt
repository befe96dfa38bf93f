use Rattle.rws_words.specs.Words.{key_words}
use Rattle.rws_words.proofs.lists.is_key_word.Goals as goal

-- the program's list is the list of words
pub returns : goal.returns
unfolding key_words
returns c = c.is_among.ensures
