use Rattle.std.proofs.Common.{◌≡◌, length}
use Rattle.rws_vars.specs.Assignments.{given}
use Rattle.rws_vars.specs.States.{tokens_left, draft_left}
use Rattle.rws_vars.proofs.heading.given.Given as goal

abbrev pub invariant-loop-lexeme : goal.invariant-loop-lexeme
invariant-loop-lexeme l =
    draft_left l.draft (tokens_left l.statement) ≡ given l.name (tokens_left l.initial.statement)

abbrev pub decreases-loop-lexeme : goal.decreases-loop-lexeme
decreases-loop-lexeme l = length (tokens_left l.statement)
