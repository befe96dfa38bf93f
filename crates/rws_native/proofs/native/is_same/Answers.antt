use Rattle.std.proofs.Common.{arith}
use Rattle.rws_native.proofs.ComparingLemmas.{differ_more, compared}
use Rattle.rws_native.proofs.native.is_same.Goals as goal

pub loop-i-preserved : goal.loop-i-preserved
loop-i-preserved c = differ_more c.loop-i.i c.args.left.now c.args.right.now c.loop-i.difference c.loop-i.invariant

pub returns : goal.returns
returns c =
    compared c.args.left.now c.args.right.now c.loop-i.i c.loop-i.difference c.told-left c.told-right (omega arith) c.loop-i.invariant
