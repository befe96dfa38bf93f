use Rattle.std.proofs.Common.{◌≡◌, map, length}
use Rattle.rws_vars.specs.Assignments.{behind_words, statement_of}
use Rattle.rws_vars.specs.States.{tokens_left}
use Rattle.rws_vars.proofs.heading.behind_words.Given as goal

abbrev pub invariant-loop-rest : goal.invariant-loop-rest
invariant-loop-rest l =
    behind_words (map (λ word. word.now) l.rest) (tokens_left l.statement) ≡ behind_words (map (λ word. word.now) l.words) (statement_of l.text)

abbrev pub decreases-loop-rest : goal.decreases-loop-rest
decreases-loop-rest l = length l.rest
