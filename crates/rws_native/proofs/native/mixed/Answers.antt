use Rattle.std.proofs.Common.{ℕ, get_or, bit_xor, arith}
use Rattle.rws_native.specs.Native.{xor}
use Rattle.std.proofs.lemmas.List.FromFn.{fill_by_all}
use Rattle.rws_native.proofs.native.mixed.Goals as goal

pub returns : goal.returns
unfolding xor
returns c =
    fill_by_all (λ (k : ℕ). bit_xor (get_or c.args.left.now k 0) (get_or c.args.right.now k 0)) c.loop-i.bytes 20 0 c.loop-i.invariant.0 (λ k h. c.loop-i.invariant.1 k (omega arith))
