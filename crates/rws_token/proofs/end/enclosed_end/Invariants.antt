use Rattle.std.proofs.Common.{◌≡◌, ◌+◌, false, length}
use Rattle.rws_token.specs.Ends.{enclosed_end}
use Rattle.rws_token.proofs.end.enclosed_end.Given as goal

abbrev pub invariant-loop-rest : goal.invariant-loop-rest
invariant-loop-rest l = record {
  same_end : enclosed_end l.quote l.stays l.passed l.rest ≡ enclosed_end l.quote false 0 l.bytes;
  all_bytes : l.passed + length l.rest ≡ length l.bytes;
}

abbrev pub decreases-loop-rest : goal.decreases-loop-rest
decreases-loop-rest l = length l.rest
