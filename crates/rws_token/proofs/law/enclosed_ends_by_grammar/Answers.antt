use Rattle.rws_token.proofs.GrammarLemmas.{ends_by_grammar}
use Rattle.rws_token.proofs.law.enclosed_ends_by_grammar.Goals as goal

pub returns : goal.returns
returns c = ends_by_grammar
