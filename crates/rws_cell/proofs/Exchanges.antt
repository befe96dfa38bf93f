-- An exchange whose call and expected words were picked.
use Rattle.std.proofs.Common.{◌≡◌, ◌<◌, ◌^◌, ℕ, Bool, true, false, cond, List, Result, Ok, Err, nat_eq, sym, ap, ◌∙◌, subst, MatchBool, MatchResult}
use Rattle.std.specs.Prelude.{slice_index}
use lib.Pointwise.{pointwise}
use Rattle.crossbeam_utils.specs.Register.{Turns}
use Rattle.rws_pool.specs.declared.words.PoolWords.{PoolWords}
use Rattle.rws_pool.specs.declared.events.PoolEvent.{PoolEvent}
use Rattle.rws_pool.specs.Machine.{pool_step}
use Rattle.rws_cell.specs.declared.view.View.{View}
use Rattle.rws_cell.specs.Packing.{packed_words}
use Rattle.rws_cell.specs.Views.{Extends}
use Rattle.rws_cell.specs.Rule.{Kept, Updated, Steps}
use Rattle.rws_cell.proofs.Moves.{exchanges}

pub exchanges_as : (domain seat : ℕ) (v : View) (call event : PoolEvent) (before expected new : List ℕ) → call ≡ event → before ≡ expected → v.live ≡ true → Steps domain event expected new → slice_index new 0 < 2 ^ 32
    → Turns Kept seat v (λ x. cond (pointwise nat_eq x expected) new x) (Updated call before)
exchanges_as domain seat v call event before expected new is was live steps narrow =
    subst (λ (e : PoolEvent). Turns Kept seat v (λ x. cond (pointwise nat_eq x expected) new x) (Updated e before)) (sym is)
    (subst (λ (b : List ℕ). Turns Kept seat v (λ x. cond (pointwise nat_eq x expected) new x) (Updated event b)) (sym was) (exchanges domain seat v event expected new live steps narrow))

-- what the exchange told, for the call that it was
told : (v w : View) (call event : PoolEvent) (before expected x y : List ℕ) (b : Bool) → call ≡ event → before ≡ expected → pointwise nat_eq x expected ≡ b
    → Updated call before v x y w → MatchBool b (Extends v event w) ((w ≡ v) × (slice_index x 0 < 2 ^ 32))
told v w call event before expected x y b is was tested u =
    let e = subst (λ (e : PoolEvent). Updated e before v x y w) is u in
    let f = subst (λ (s : List ℕ). Updated event s v x y w) was e in
    subst (λ (t : Bool). MatchBool t (Extends v event w) ((w ≡ v) × (slice_index x 0 < 2 ^ 32))) tested f

pub tells : (v w : View) (call event : PoolEvent) (before expected new : List ℕ) (r : Result (List ℕ) (List ℕ)) → call ≡ event → before ≡ expected
    → MatchResult r (λ x. (pointwise nat_eq x expected ≡ true) × Updated call before v x new w) (λ x. (pointwise nat_eq x expected ≡ false) × Updated call before v x x w)
    → MatchResult r (λ _. Extends v event w) (λ found. (w ≡ v) × (slice_index found 0 < 2 ^ 32))
tells v w call event before expected new (Ok x) is was m = told v w call event before expected x new true is was m.0 m.1
tells v w call event before expected new (Err x) is was m = told v w call event before expected x x false is was m.0 m.1

-- the words that are packed again after the event
pub steps_by : (domain : ℕ) (event : PoolEvent) (expected new : List ℕ) (words after : PoolWords)
    → ((w : PoolWords) → w.last.domain ≡ domain → expected ≡ packed_words w → words ≡ w) → after ≡ pool_step words event → new ≡ packed_words after → Steps domain event expected new
steps_by domain event expected new words after read stepped packed w same is =
    packed ∙ ap packed_words (stepped ∙ ap (λ (x : PoolWords). pool_step x event) (read w same is))
