use Rattle.std.proofs.Common.{◌≡◌, ℕ, List, ◌++◌, length}
use Rattle.rws_set.specs.Search.{found_in}
use Rattle.rws_set.proofs.mode.Search.read.Given as goal

abbrev pub invariant-loop-rest : goal.invariant-loop-rest
invariant-loop-rest l = (bs : List ℕ) → found_in l.self (l.rest ++ bs) ≡ found_in l.initial.self (l.bytes ++ bs)

abbrev pub decreases-loop-rest : goal.decreases-loop-rest
decreases-loop-rest l = length l.rest
