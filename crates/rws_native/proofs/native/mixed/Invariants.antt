use Rattle.std.proofs.Common.{◌≡◌, ℕ, ◌<◌, length, get_or, bit_xor}
use Rattle.rws_native.proofs.native.mixed.Given as goal

abbrev pub invariant-loop-i : goal.invariant-loop-i
invariant-loop-i l =
    (length l.bytes ≡ 20) × ((k : ℕ) → k < l.i → get_or l.bytes k 0 ≡ bit_xor (get_or l.left k 0) (get_or l.right k 0))
