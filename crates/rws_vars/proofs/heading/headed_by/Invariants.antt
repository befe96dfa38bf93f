use Rattle.std.proofs.Common.{◌≡◌, map, length}
use Rattle.rws_vars.specs.Assignments.{headed, statement_of}
use Rattle.rws_vars.specs.States.{heading_of}
use Rattle.rws_vars.proofs.heading.headed_by.Given as goal

abbrev pub invariant-loop-rest : goal.invariant-loop-rest
invariant-loop-rest l =
    headed (map heading_of l.rest) (statement_of l.text) ≡ headed (map heading_of l.headings) (statement_of l.text)

abbrev pub decreases-loop-rest : goal.decreases-loop-rest
decreases-loop-rest l = length l.rest
