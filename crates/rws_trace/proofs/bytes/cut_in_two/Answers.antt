use Rattle.std.proofs.Common.{◌≡◌, ℕ, ◌<◌, ◌==◌, List, [], ◌∷◌, length, None, refl, arith}
use Rattle.std.specs.List.{slice_split}
use Rattle.std.proofs.lemmas.List.Splits.{length-slice_split}
use Rattle.rws_trace.specs.EventLine.{two_of}
use Rattle.rws_trace.proofs.bytes.cut_in_two.Goals as goal

more_parts : (left right : List ℕ) (parts : List (List ℕ)) → 0 < length parts → two_of (left ∷ right ∷ parts) ≡ None
more_parts left right [] some = absurd (omega arith)
more_parts left right (part ∷ parts) some = refl

pub returns-in-Some : goal.returns-in-Some
returns-in-Some c =
    let behind = c.in-Some.field-0.1.now in
    let count = length-slice_split (λ b. b == c.args.byte) behind in
    rw (c.in_ok-left.ensures.parts, c.in-Some.ensures.parts)
    (more_parts c.in_ok-left.left.now c.in-Some.field-0.0.now (slice_split (λ b. b == c.args.byte) behind) (omega arith))
