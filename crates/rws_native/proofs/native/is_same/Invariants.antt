use Rattle.rws_native.proofs.ComparingLemmas.{Differ}
use Rattle.rws_native.proofs.native.is_same.Given as goal

abbrev pub invariant-loop-i : goal.invariant-loop-i
invariant-loop-i l = Differ l.i l.left l.right l.difference
