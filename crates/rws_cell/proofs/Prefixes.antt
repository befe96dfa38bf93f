-- Beginnings of one history.
use Rattle.std.proofs.Common.{◌≡◌, ◌≤◌, Bool, true, false, cond, List, [], ◌∷◌, ◌++◌, length, nat_lt, refl, sym, ap, ◌∙◌, append_assoc, arith}
use Rattle.std.proofs.lemmas.List.{append-nil}
use Rattle.std.proofs.lemmas.Bool.Decides.{nat_tests}
use Rattle.rws_pool.specs.declared.events.Entry.{Entry}
use Rattle.rws_cell.specs.Views.{StartsWith, longer, shorter}

pub starts_itself : (xs : List Entry) → StartsWith xs xs
starts_itself xs = ([], sym (append-nil xs))

pub starts_with_none : (xs : List Entry) → StartsWith xs []
starts_with_none xs = (xs, refl)

pub starts_more : (log xs more : List Entry) → StartsWith log xs → StartsWith (log ++ more) xs
starts_more log xs more s = (s.0 ++ more, ap (λ l. l ++ more) s.1 ∙ append_assoc xs s.0 more)

-- of two beginnings of one history the longer begins with the shorter
pub begins_longer : (log xs ys : List Entry) → StartsWith log xs → StartsWith log ys → length xs ≤ length ys → StartsWith ys xs
begins_longer log [] ys x y le = starts_with_none ys
begins_longer log (a ∷ xs) [] x y le = absurd (omega arith)
begins_longer [] (a ∷ xs) (b ∷ ys) x y le = absurd (cc (x.1))
begins_longer (l ∷ log) (a ∷ xs) (b ∷ ys) x y le =
    let s = begins_longer log xs ys (x.0, cc (x.1)) (y.0, cc (y.1)) (omega arith) in
    let same : b ≡ a = cc (x.1, y.1) in
    (s.0, λ i. same i ∷ s.1 i)

pub record Longer (log xs ys : List Entry) : Type 0 where
  pub begins : StartsWith log (longer xs ys)
  pub this : StartsWith (longer xs ys) xs
  pub that : StartsWith (longer xs ys) ys
  pub told : StartsWith (longer xs ys) (shorter xs ys)

pub longer_of : (log xs ys : List Entry) → StartsWith log xs → StartsWith log ys → Longer log xs ys
longer_of log xs ys x y = record { begins = (all (nat_lt (length xs) (length ys)) refl).0; this = (all (nat_lt (length xs) (length ys)) refl).1; that = (all (nat_lt (length xs) (length ys)) refl).2; told = (all (nat_lt (length xs) (length ys)) refl).3 }
  where
    all : (b : Bool) → nat_lt (length xs) (length ys) ≡ b
        → StartsWith log (cond b ys xs) × StartsWith (cond b ys xs) xs × StartsWith (cond b ys xs) ys × StartsWith (cond b ys xs) (cond b xs ys)
    all true e =
        let le : length xs ≤ length ys = grind (arith, nat_tests) in
        let s = begins_longer log xs ys x y le in
        (y, s, starts_itself ys, s)
    all false e =
        let le : length ys ≤ length xs = grind (arith, nat_tests) in
        let s = begins_longer log ys xs y x le in
        (x, starts_itself xs, s, s)

-- the longer of two begins with both, where it begins with the shorter
pub longer_has : (xs ys : List Entry) → StartsWith (longer xs ys) (shorter xs ys) → StartsWith (longer xs ys) xs × StartsWith (longer xs ys) ys
longer_has xs ys told = go (nat_lt (length xs) (length ys)) told
  where
    go : (b : Bool) → StartsWith (cond b ys xs) (cond b xs ys) → StartsWith (cond b ys xs) xs × StartsWith (cond b ys xs) ys
    go true s = (s, starts_itself ys)
    go false s = (starts_itself xs, s)
