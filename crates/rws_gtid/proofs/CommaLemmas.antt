-- A list of entries that commas part, cut at its first comma.
use Rattle.std.proofs.Common.{◌≡◌, ◌==◌, nat_lt, ℕ, ◌+◌, ◌-◌, ◌<◌, ◌≤◌, Bool, true, false, cond, List, [], ◌∷◌, length, take, drop, refl, ap, ◌∙◌, arith, Some, None, subst}
use Rattle.std.specs.List.{position, position_or_len, slice_split, onto_first}
use Rattle.std.proofs.lemmas.List.{take_rest, length-take-le, length-drop}
use Rattle.std.proofs.lemmas.List.Splits.{slice_split_first, slice_split-cons_no}
use Rattle.std.proofs.lemmas.Bool.Decides.{nat_tests}
use Rattle.rws_gtid.specs.Parsing.{CutsAtComma}

abbrev pub is_comma : ℕ → Bool
is_comma c = c == 44

chosen : (b : Bool) (n i : ℕ) → cond b (Some n) None ≡ Some i → (b ≡ true) × (n ≡ i)
chosen true n i e = (refl, cc)
chosen false n i e = absurd cc

refused : (b : Bool) (n : ℕ) → cond b (Some n) None ≡ None → b ≡ false
refused true n e = absurd cc
refused false n e = refl

is_below : (m n : ℕ) → nat_lt m n ≡ true → m < n
is_below m n e = grind (arith, nat_tests)

is_from : (m n : ℕ) → nat_lt m n ≡ false → n ≤ m
is_from m n e = grind (arith, nat_tests)

-- the first entry ends at the first comma, at i
abbrev CutsAt : List ℕ → ℕ → Type 0
CutsAt list i = (i < length list) × (slice_split is_comma list ≡ take i list ∷ slice_split is_comma (drop (i + 1) list))

cut : (list : List ℕ) (i : ℕ) → position is_comma list ≡ Some i → CutsAt list i
cut list i e =
    let found = chosen (nat_lt (position_or_len is_comma list) (length list)) (position_or_len is_comma list) i e in
    let inside = is_below (position_or_len is_comma list) (length list) found.0 in
    subst (λ (k : ℕ). CutsAt list k) found.1 (inside, slice_split_first is_comma list 0 inside)

pub cuts : (list : List ℕ) (i : ℕ) → position is_comma list ≡ Some i → CutsAtComma list (take i list) (Some (take (length list - (i + 1)) (drop (i + 1) list)))
cuts list i e =
    let h = cut list i e in
    rw take_rest (h.1, omega (arith, length-take-le i list, length-drop {A = ℕ} (i + 1) list, h.0))

unfound : (list : List ℕ) → length list ≤ position_or_len is_comma list → slice_split is_comma list ≡ list ∷ []
unfound [] h = refl
unfound (b ∷ bs) h = unfound_by (is_comma b) refl (unfound bs)
  where
    unfound_by : (test : Bool) → is_comma b ≡ test → (length bs ≤ position_or_len is_comma bs → slice_split is_comma bs ≡ bs ∷ []) → slice_split is_comma (b ∷ bs) ≡ (b ∷ bs) ∷ []
    unfound_by true e others = absurd (let none = rw e at h in omega arith)
    unfound_by false e others =
        slice_split-cons_no is_comma b bs e ∙ ap (onto_first b) (others (let more = rw e at h in omega arith))

pub uncut : (list : List ℕ) → position is_comma list ≡ None → slice_split is_comma list ≡ list ∷ []
uncut list e = unfound list (is_from _ _ (refused _ _ e))
