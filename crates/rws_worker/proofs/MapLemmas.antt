-- Maps of which one key changes.
use Rattle.std.proofs.Common.{◌≡◌, ℕ, ⊎_elim, false, sym, ap, ◌∙◌, subst, Option, Some, is_some, IfOk, Result, Ok}
use Rattle.std.proofs.lemmas.Bool.{ne_eqb, cases_lt, le-ltb, lt-ltb}
use Rattle.std.specs.BTreeMap.{BTreeMap, is_at, UpdatesBy, WritesThrough, get}
use Rattle.std.specs.Ordering.{nat_cmp}
use Rattle.rws_worker.specs.Telling.{Changes}

not_at : (key other : ℕ) → (key ≡ other → ⊥) → is_at (nat_cmp key) other ≡ false
not_at key other apart =
    ⊎_elim (λ low. rw (lt-ltb key other low)) (λ high. rw (le-ltb key other high, ne_eqb key other apart)) (cases_lt key other)

pub changes : {X : Type 0} (old new : BTreeMap ℕ X) (key : ℕ) (value : Option X) → UpdatesBy nat_cmp (nat_cmp key) old new value
    → Changes old new key value
changes old new key value u = record { here = u.1; apart = λ other apart. u.2 other (not_at key other apart) }

pub written : {X : Type 0} (old new : BTreeMap ℕ X) (key : ℕ) (v w : X) → Some v ≡ get nat_cmp old key
    → WritesThrough nat_cmp (nat_cmp key) old w new → Changes old new key (Some w)
written old new key v w had writes = changes old new key (Some w) (writes.3 (ap is_some (sym had)))

pub then_changes : {X : Type 0} (old mid new : BTreeMap ℕ X) (key : ℕ) (v w : Option X) → Changes old mid key v → Changes mid new key w
    → Changes old new key w
then_changes old mid new key v w first second =
    record { here = second.here; apart = λ other apart. second.apart other apart ∙ first.apart other apart }

-- what holds of a value that was made
pub of_made : {A E : Type 0} (P : A → Type 0) (made : Result A E) (value : A) → made ≡ Ok value → IfOk made P → P value
of_made {A = A} {E = E} P made value is holds = subst (λ (r : Result A E). IfOk r P) is holds
