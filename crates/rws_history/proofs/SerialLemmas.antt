-- How the place of a serial number changes.
use Rattle.std.proofs.Common.{◌≡◌, ◌<◌, ◌≤◌, ⊎_elim, ℕ, zero, suc, ◌+◌, nat_lt, List, [], ◌∷◌, ◌++◌, length, filter, remove, slice_get, Some, refl, sym, ◌∙◌, ap, subst, arith, add-one}
use Rattle.std.proofs.lemmas.Bool.{lt-ltb, le-ltb, cases_lt}
use Rattle.rws_history.specs.Cursors.{lowered}
use Rattle.rws_history.specs.Serials.{place_of, AreSerials, PlacesFollow}

below_all : List ℕ → ℕ → List ℕ
below_all serials at = filter (λ (one : ℕ). nat_lt one at) serials

-- an entry with a smaller number counts, and no other
place_of-behind : (s at : ℕ) (ss : List ℕ) → s < at → place_of (s ∷ ss) at ≡ place_of ss at + 1
place_of-behind s at ss below = rw (lt-ltb s at below) (rw add-one refl)

place_of-before : (s at : ℕ) (ss : List ℕ) → at ≤ s → place_of (s ∷ ss) at ≡ place_of ss at
place_of-before s at ss above = rw (le-ltb s at above) refl

-- no entry stands before the first number
place_of-first : (serials : List ℕ) (first next at : ℕ) → AreSerials first serials next → at ≤ first → place_of serials at ≡ 0
place_of-first [] first next at are below = refl
place_of-first (s ∷ ss) first next at are below = place_of-before s at ss (omega (arith, are.0)) ∙ place_of-first ss (s + 1) next at are.1 (omega (arith, are.0))

place_of-push : (serials : List ℕ) (next at : ℕ) → at ≤ next → place_of (serials ++ next ∷ []) at ≡ place_of serials at
place_of-push [] next at below = place_of-before next at [] below
place_of-push (s ∷ ss) next at below =
    ⊎_elim
    (λ less. place_of-behind s at (ss ++ next ∷ []) less ∙ ap (λ n. n + 1) (place_of-push ss next at below) ∙ sym (place_of-behind s at ss less))
    (λ more. place_of-before s at (ss ++ next ∷ []) more ∙ place_of-push ss next at below ∙ sym (place_of-before s at ss more))
    (cases_lt s at)

lowered-zero : (removed : ℕ) → lowered removed 0 ≡ 0
lowered-zero removed = rw (le-ltb removed 0 (omega arith)) refl

lowered-first : (at : ℕ) → lowered 0 (at + 1) ≡ at
lowered-first at = rw (lt-ltb 0 (at + 1) (omega arith)) (omega arith)

lowered-both : (removed at : ℕ) → lowered (suc removed) (at + 1) ≡ lowered removed at + 1
lowered-both removed at =
    ⊎_elim
    (λ less. rw (lt-ltb (suc removed) (at + 1) (omega (arith, less))) (rw (lt-ltb removed at less) (omega (arith, less))))
    (λ more. rw (le-ltb (suc removed) (at + 1) (omega (arith, more))) (rw (le-ltb removed at more) refl))
    (cases_lt removed at)

-- the numbers of the entries from `first` on aren't below it
from_first : (serials : List ℕ) (first next place serial : ℕ) → AreSerials first serials next → slice_get serials place ≡ Some serial → first ≤ serial
from_first [] first next place serial are there = absurd (cc (there))
from_first (s ∷ ss) first next zero serial are there = let is : s ≡ serial = cc in omega (arith, are.0)
from_first (s ∷ ss) first next (suc place) serial are there = let above = from_first ss (s + 1) next place serial are.1 there in omega (arith, are.0, above)

up_to_next : (serials : List ℕ) (first next : ℕ) → AreSerials first serials next → first ≤ next
up_to_next [] first next are = are
up_to_next (s ∷ ss) first next are = let above = up_to_next ss (s + 1) next are.1 in omega (arith, are.0, above)

place_of-remove : (serials : List ℕ) (first next place at : ℕ) → AreSerials first serials next → place < length serials
    → place_of (remove serials place) at ≡ lowered place (place_of serials at)
place_of-remove [] first next place at are inside = absurd (omega arith)
place_of-remove (s ∷ ss) first next zero at are inside =
    ⊎_elim
    (λ less. sym (lowered-first (place_of ss at)) ∙ ap (lowered 0) (sym (place_of-behind s at ss less)))
    (λ more.
    let none = place_of-first ss (s + 1) next at are.1 (omega (arith, more)) in
    none ∙ sym (lowered-zero 0) ∙ ap (lowered 0) (sym (place_of-before s at ss more ∙ none)))
    (cases_lt s at)
place_of-remove (s ∷ ss) first next (suc place) at are inside =
    let rest = place_of-remove ss (s + 1) next place at are.1 (omega (arith, inside)) in
    ⊎_elim
    (λ less. place_of-behind s at (remove ss place) less ∙ ap (λ n. n + 1) rest ∙ sym (lowered-both place (place_of ss at)) ∙ ap (lowered (suc place)) (sym (place_of-behind s at ss less)))
    (λ more.
    let none = place_of-first ss (s + 1) next at are.1 (omega (arith, more)) in
    place_of-before s at (remove ss place) more ∙ rest ∙ ap (lowered place) none ∙ lowered-zero place ∙ sym (lowered-zero (suc place))
    ∙ ap (lowered (suc place)) (sym (place_of-before s at ss more ∙ none)))
    (cases_lt s at)

place_of-next : (serials : List ℕ) (first next at serial : ℕ) → AreSerials first serials next → slice_get serials (place_of serials at) ≡ Some serial
    → place_of serials (serial + 1) ≡ place_of serials at + 1
place_of-next [] first next at serial are there = absurd (cc (there))
place_of-next (s ∷ ss) first next at serial are there =
    ⊎_elim
    (λ less.
    let behind = place_of-behind s at ss less in
    let later : slice_get ss (place_of ss at) ≡ Some serial = subst (λ k. slice_get (s ∷ ss) k ≡ Some serial) (behind ∙ add-one (place_of ss at)) there in
    let above = from_first ss (s + 1) next (place_of ss at) serial are.1 later in
    place_of-behind s (serial + 1) ss (omega (arith, above)) ∙ ap (λ n. n + 1) (place_of-next ss (s + 1) next at serial are.1 later) ∙ ap (λ n. n + 1) (sym behind))
    (λ more.
    let none = place_of-before s at ss more ∙ place_of-first ss (s + 1) next at are.1 (omega (arith, more)) in
    let here : slice_get (s ∷ ss) 0 ≡ Some serial = subst (λ k. slice_get (s ∷ ss) k ≡ Some serial) none there in
    let same : s ≡ serial = cc in
    let last : place_of ss (serial + 1) ≡ 0 = place_of-first ss (s + 1) next (serial + 1) are.1 (omega (arith, same)) in
    place_of-behind s (serial + 1) ss (omega (arith, same)) ∙ ap (λ n. n + 1) last ∙ ap (λ n. n + 1) (sym none))
    (cases_lt s at)

place_of-end : (serials : List ℕ) (first next : ℕ) → AreSerials first serials next → place_of serials next ≡ length serials
place_of-end [] first next are = refl
place_of-end (s ∷ ss) first next are =
    let below : s < next = omega (arith, up_to_next ss (s + 1) next are.1) in
    place_of-behind s next ss below ∙ rw add-one (ap (λ n. suc n) (place_of-end ss (s + 1) next are.1))

pub places_follow : (serials : List ℕ) (next : ℕ) → AreSerials 0 serials next → PlacesFollow serials next
places_follow serials next are = record {
  begins = place_of-first serials 0 next 0 are (omega arith);
  accepts = λ at below. place_of-push serials next at below;
  takes_out = λ place at inside. place_of-remove serials 0 next place at are inside;
  goes_on = λ at serial there. place_of-next serials 0 next at serial are there;
  ends = place_of-end serials 0 next are;
}
