-- The numbers that a pass owns, and how a split shares them.
use Rattle.std.proofs.Common.{true, zero, suc, ◌≡◌, ◌≢◌, ◌⊎◌, ◌+◌, ◌*◌, ◌<◌, ◌≤◌, ℕ, List, [], ◌∷◌, ◌++◌, sym, ap, ◌∙◌, inl, inr, ⊎_elim, mul-le-mul_right, lt_of_not-le, arith}
use native.Mathlib.Decide.{dec_le}
use Rattle.rws_cell.specs.declared.view.Part.{Part}
use Rattle.rws_cell.specs.declared.view.View.{View}
use Rattle.rws_cell.specs.Views.{Has, Owns, AnyOwns, own_part, left_half, right_half}
use Rattle.rws_cell.specs.Rule.{Claims}

pub owns_number : (p : Part) → Owns p p.number
owns_number p = (0, omega arith)

pub has_owned : (ps : List Part) (n : ℕ) → Has ps n → AnyOwns ps n
has_owned [] n h = h
has_owned (p ∷ ps) n h = ⊎_elim (λ e. inl (0, sym e ∙ omega arith)) (λ r. inr (has_owned ps n r)) h

pub owned-append : (ps qs : List Part) (n : ℕ) → AnyOwns (ps ++ qs) n → AnyOwns ps n ⊎ AnyOwns qs n
owned-append [] qs n o = inr o
owned-append (p ∷ ps) qs n o = ⊎_elim (λ a. inl (inl a)) (λ r. ⊎_elim (λ a. inl (inr a)) (λ b. inr b) (owned-append ps qs n r)) o

pub owned_left : (ps qs : List Part) (n : ℕ) → AnyOwns ps n → AnyOwns (ps ++ qs) n
owned_left [] qs n o = absurd o
owned_left (p ∷ ps) qs n o = ⊎_elim (λ a. inl a) (λ r. inr (owned_left ps qs n r)) o

pub owned_right : (ps qs : List Part) (n : ℕ) → AnyOwns qs n → AnyOwns (ps ++ qs) n
owned_right [] qs n o = o
owned_right (p ∷ ps) qs n o = inr (owned_right ps qs n o)

pub claims_number : (v : View) → v.live ≡ true → Claims v v.number
claims_number v live = (live, inl (owns_number (own_part v)))

pub left_owned : (v : View) (n : ℕ) → Owns (own_part (left_half v)) n → Owns (own_part v) n
left_owned v n o = (o.0 + o.0, omega (arith, o.1))

pub right_owned : (v : View) (n : ℕ) → Owns (own_part (right_half v)) n → Owns (own_part v) n
right_owned v n o = (o.0 + o.0 + 1, omega (arith, o.1))

-- a number of the second pass isn't that of the first
pub right_apart : (v : View) (n : ℕ) → 0 < v.step → Owns (own_part (right_half v)) n → n ≢ v.number
right_apart v n stepped o same = omega (arith, o.1, same)

pub halves_apart : (v : View) (n : ℕ) → 0 < v.step → Owns (own_part (left_half v)) n → ¬ Owns (own_part (right_half v)) n
halves_apart v n stepped a b = go (dec_le a.0 b.0)
  where
    go : Dec (a.0 ≤ b.0) → ⊥
    go (yes below) = let m : a.0 * v.step ≤ b.0 * v.step = mul-le-mul_right v.step below in omega (arith, a.1, b.1, m)
    go (no above) =
        let over : suc b.0 ≤ a.0 = lt_of_not-le above in
        let m : suc b.0 * v.step ≤ a.0 * v.step = mul-le-mul_right v.step over in
        omega (arith, a.1, b.1, m)

-- each number is even or odd
halved : (k : ℕ) → ((j : ℕ) × (k ≡ j + j)) ⊎ ((j : ℕ) × (k ≡ j + j + 1))
halved zero = inl (0, omega arith)
halved (suc k) = ⊎_elim (λ (e : (j : ℕ) × (k ≡ j + j)). inr (e.0, omega (arith, e.1))) (λ (o : (j : ℕ) × (k ≡ j + j + 1)). inl (suc o.0, omega (arith, o.1))) (halved k)

-- what a pass owns one of its halves owns
pub halves_own : (v : View) (n : ℕ) → Owns (own_part v) n → Owns (own_part (left_half v)) n ⊎ Owns (own_part (right_half v)) n
halves_own v n o =
    ⊎_elim
    (λ (e : (j : ℕ) × (o.0 ≡ j + j)). let at = ap (λ (k : ℕ). v.number + k * v.step) e.1 in inl (e.0, omega (arith, o.1 ∙ at)))
    (λ (e : (j : ℕ) × (o.0 ≡ j + j + 1)). let at = ap (λ (k : ℕ). v.number + k * v.step) e.1 in inr (e.0, omega (arith, o.1 ∙ at)))
    (halved o.0)
