use Rattle.rws_token.proofs.GrammarLemmas.{comments_end_by_grammar}
use Rattle.rws_token.proofs.law.comments_end_by_grammar.Goals as goal

pub returns : goal.returns
returns c = comments_end_by_grammar
