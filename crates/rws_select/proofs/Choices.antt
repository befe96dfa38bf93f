-- How the best of the servers seen so far changes with one more server.
use Rattle.std.proofs.Common.{◌≡◌, ◌⊎◌, ◌<◌, ◌≤◌, ℕ, zero, suc, List, [], ◌∷◌, ◌++◌, length, Option, Some, None, refl, sym, ap, inl, inr, ⊎_elim, subst, arith}
use Rattle.std.specs.Prelude.{slice_get}
use Rattle.std.proofs.lemmas.Option.{slice_get_within}
use Rattle.rws_select.specs.declared.selector.Load.{Load}
use Rattle.rws_select.specs.declared.selector.Scored.{Scored}
use Rattle.rws_select.specs.Choice.{score_of, IsCandidate, HasNone}
use Rattle.rws_select.specs.Scored.{IsBest, IsBestAt}

module _ {A : Type 0} where
  at_seam : (xs : List A) (x y : A) (k : ℕ) → slice_get (xs ++ x ∷ []) k ≡ Some y → (slice_get xs k ≡ Some y) ⊎ ((k ≡ length xs) × (x ≡ y))
  at_seam [] x y zero e = inr (refl, cc)
  at_seam [] x y (suc k) e = absurd (cc)
  at_seam (z ∷ xs) x y zero e = inl e
  at_seam (z ∷ xs) x y (suc k) e = ⊎_elim (λ l. inl l) (λ r. inr (ap suc r.0, r.1)) (at_seam xs x y k e)

  front : (xs ys : List A) (k : ℕ) (y : A) → slice_get xs k ≡ Some y → slice_get (xs ++ ys) k ≡ Some y
  front [] ys k y e = absurd (cc)
  front (x ∷ xs) ys zero y e = e
  front (x ∷ xs) ys (suc k) y e = front xs ys k y e

  at_end : (xs : List A) (x : A) → slice_get (xs ++ x ∷ []) (length xs) ≡ Some x
  at_end [] x = refl
  at_end (y ∷ xs) x = at_end xs x

-- what holds of each candidate seen so far, and of the next one, holds of each
grows : (P : ℕ → Load → Type 0) (seen : List (Option Load)) (next : Load)
    → ((k : ℕ) (l : Load) → IsCandidate seen k l → P k l) → P (length seen) next
    → (k : ℕ) (l : Load) → IsCandidate (seen ++ Some next ∷ []) k l → P k l
grows P seen next before here k l at =
    ⊎_elim (before k l)
    (λ (t : (k ≡ length seen) × (Some next ≡ Some l)). let same : next ≡ l = cc in subst (λ j. P j l) (sym t.0) (subst (P (length seen)) same here))
    (at_seam seen (Some next) (Some l) k at)

-- a server that is no candidate changes nothing
thins : (seen : List (Option Load)) (k : ℕ) (l : Load) → IsCandidate (seen ++ None ∷ []) k l → IsCandidate seen k l
thins seen k l at = ⊎_elim (λ e. e) (λ t. absurd (cc (t.1))) (at_seam seen None (Some l) k at)

pub skips : (best : Option Scored) (seen : List (Option Load)) → IsBest seen best → IsBest (seen ++ None ∷ []) best
skips None seen none = λ k l at. none k l (thins seen k l at)
skips (Some best) seen is = record {
  choice = record {
    load = is.choice.load;
    present = front seen (None ∷ []) best.place (Some is.choice.load) is.choice.present;
    least = λ k l at. is.choice.least k l (thins seen k l at);
    lowest = λ k l below at. is.choice.lowest k l below (thins seen k l at);
  };
  scored = is.scored;
}

-- one that isn't strictly below leaves the best
pub stays : (seen : List (Option Load)) (best : Scored) (next : Load) → IsBestAt seen best → best.score ≤ score_of next → IsBestAt (seen ++ Some next ∷ []) best
stays seen best next is above =
    let within = slice_get_within seen best.place (Some is.choice.load) is.choice.present in
    record {
      choice = record {
        load = is.choice.load;
        present = front seen (Some next ∷ []) best.place (Some is.choice.load) is.choice.present;
        least = grows (λ k l. score_of is.choice.load ≤ score_of l) seen next is.choice.least (subst (λ n. n ≤ score_of next) is.scored above);
        lowest = λ k l below at. grows (λ j m. j < best.place → score_of is.choice.load < score_of m) seen next (λ j m e b. is.choice.lowest j m b e) (λ b. absurd (omega arith)) k l at below;
      };
      scored = is.scored;
    }

lands : (seen : List (Option Load)) (place score : ℕ) (next : Load) → length seen ≡ place → score ≡ score_of next
    → ((k : ℕ) (l : Load) → IsCandidate seen k l → score_of next < score_of l) → IsBestAt (seen ++ Some next ∷ []) (record { place = place; score = score })
lands seen place score next is scored below = record {
  choice = record {
    load = next;
    present = subst (λ n. IsCandidate (seen ++ Some next ∷ []) n next) is (at_end seen (Some next));
    least = grows (λ k l. score_of next ≤ score_of l) seen next (λ k l at. omega (arith, below k l at)) (omega arith);
    lowest = λ k l b at. grows (λ j m. j < place → score_of next < score_of m) seen next (λ j m e _. below j m e) (λ s. absurd (omega arith)) k l at b;
  };
  scored = scored;
}

-- the first candidate is the best, and so is one strictly below the best
pub begins : (seen : List (Option Load)) (place score : ℕ) (next : Load) → length seen ≡ place → score ≡ score_of next → HasNone seen
    → IsBestAt (seen ++ Some next ∷ []) (record { place = place; score = score })
begins seen place score next is scored none = lands seen place score next is scored (λ k l at. absurd (none k l at))

pub takes : (seen : List (Option Load)) (best : Scored) (place score : ℕ) (next : Load) → length seen ≡ place → score ≡ score_of next → IsBestAt seen best
    → score < best.score → IsBestAt (seen ++ Some next ∷ []) (record { place = place; score = score })
takes seen best place score next is scored was lower =
    lands seen place score next is scored (λ k l at. let m = was.choice.least k l at in let s = was.scored in omega (arith, m, s, scored))
