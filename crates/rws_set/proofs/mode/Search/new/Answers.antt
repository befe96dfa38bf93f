use Rattle.std.proofs.Common.{refl}
use Rattle.rws_token.specs.Lexeme.{same_word}
use Rattle.rws_set.specs.Modes.{mode_words}
use Rattle.rws_set.proofs.mode.Search.new.Goals as goal

-- no word begins with a zero byte
pub returns : goal.returns
unfolding mode_words same_word
returns c = λ bs. refl
