use Rattle.std.proofs.lemmas.Bool.Decides.{same_from_decides}
use Rattle.std.proofs.lemmas.Slice.Eq.{bytes_eq-Decides}
use Rattle.rws_token.specs.Lexeme.{same_word}
use Rattle.rws_token.proofs.lexeme.same_word.Goals as goal

pub returns : goal.returns
unfolding same_word
returns c = same_from_decides _ _ c.eq_ignore_ascii_case.ensures.test (bytes_eq-Decides _ _)
