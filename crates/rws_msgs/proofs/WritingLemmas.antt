-- What stood before a message was written stands there still.
use Rattle.std.proofs.Common.{◌≡◌, ℕ, ◌≤◌, List, ◌++◌, length, take, Result, refl, sym, ap, ◌∙◌, arith}
use Rattle.std.specs.Prelude.{OnErr}
use Rattle.std.proofs.lemmas.List.{take_at, take-take, length-append}
use Rattle.std.proofs.lemmas.Result.{on_err_weaker}

still_there : (old mid new more : List ℕ) → mid ≡ old ++ more → take (length mid) new ≡ mid → take (length old) new ≡ old
still_there old mid new more e kept =
    let fits : length old ≤ length mid = omega (arith, ap length e, length-append old more) in
    sym (take-take (length old) (length mid) new fits) ∙ ap (take (length old)) (kept ∙ e) ∙ take_at old more (length old) refl

-- where a last step broke off behind what was appended before it
pub still_on_err : {T E : Type 0} (r : Result T E) (old mid new more : List ℕ) → mid ≡ old ++ more → OnErr r (take (length mid) new ≡ mid) → OnErr r (take (length old) new ≡ old)
still_on_err r old mid new more e kept = on_err_weaker r (still_there old mid new more e) kept
