use Rattle.rws_words.specs.Words.{setting_names}
use Rattle.rws_words.proofs.lists.is_setting.Goals as goal

-- the program's list is the list of words
pub returns : goal.returns
unfolding setting_names
returns c = c.is_among.ensures
