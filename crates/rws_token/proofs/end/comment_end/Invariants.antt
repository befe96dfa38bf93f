use Rattle.std.proofs.Common.{◌≡◌, ◌+◌, length}
use Rattle.rws_token.specs.Ends.{comment_end}
use Rattle.rws_token.proofs.end.comment_end.Given as goal

abbrev pub invariant-loop-rest : goal.invariant-loop-rest
invariant-loop-rest l = record {
  same_end : comment_end l.passed l.rest ≡ comment_end 0 l.bytes;
  all_bytes : l.passed + length l.rest ≡ length l.bytes;
}

abbrev pub decreases-loop-rest : goal.decreases-loop-rest
decreases-loop-rest l = length l.rest
