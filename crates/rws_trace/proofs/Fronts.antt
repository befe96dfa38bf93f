-- Fronts of lists.
use Rattle.std.proofs.Common.{◌≡◌, ℕ, ◌+◌, ◌-◌, ◌≤◌, List, take, drop, arith}
use Rattle.std.proofs.lemmas.List.{drop-take, drop-drop}

-- a range that begins later is what the range has behind its front
pub range-skip : (xs : List ℕ) (start end count : ℕ) → start + count ≤ end → take (end - (start + count)) (drop (start + count) xs) ≡ drop count (take (end - start) (drop start xs))
range-skip xs start end count within =
    let rest = end - (start + count) in
    let parts : end - start ≡ count + rest = omega arith in
    rw (parts, drop-take count rest (drop start xs), drop-drop count start xs)
