use Rattle.std.proofs.Common.{◌≡◌, ◌+◌, ◌-◌, ◌≤◌, length, drop}
use Rattle.rws_token.specs.Lexed.{lexed_from}
use Rattle.rws_token.proofs.tokens.next_token.Given as goal

abbrev pub invariant-loop-rest : goal.invariant-loop-rest
invariant-loop-rest l = record {
  same_left : lexed_from 0 l.start l.rest ≡ lexed_from 0 l.at l.bytes;
  is_rest : l.rest ≡ drop (l.start - l.at) l.bytes;
  behind : l.at ≤ l.start;
  all_bytes : l.start + length l.rest ≡ l.at + length l.bytes;
}

abbrev pub decreases-loop-rest : goal.decreases-loop-rest
decreases-loop-rest l = length l.rest
