use Rattle.std.proofs.Common.{◌≡◌, ◌+◌, length}
use Rattle.rws_token.specs.Ends.{run_len}
use Rattle.rws_token.proofs.end.run_len.Given as goal

abbrev pub invariant-loop-rest : goal.invariant-loop-rest
invariant-loop-rest l = record {
  same_end : l.passed + run_len l.run l.rest ≡ run_len l.run l.bytes;
  all_bytes : l.passed + length l.rest ≡ length l.bytes;
}

abbrev pub decreases-loop-rest : goal.decreases-loop-rest
decreases-loop-rest l = length l.rest
