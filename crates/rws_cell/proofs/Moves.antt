-- Each step of the cell keeps the rule.
use Rattle.std.proofs.Common.{◌≡◌, ◌≢◌, ◌⊎◌, ◌<◌, ◌^◌, ℕ, zero, suc, Bool, true, false, true≢false, cond, List, [], ◌∷◌, ◌++◌, length, set, nat_eq, refl, sym, ap, ◌∙◌, subst, inl, inr, ⊎_elim, MatchBool, lit<}
use Rattle.std.specs.Prelude.{slice_index}
use mathlib.Core.Option.{some, some-injective, some-ne-none}
use lib.ListN.{get_elem?}
use lib.Pointwise.{pointwise, bytes_decides}
use Rattle.crossbeam_utils.specs.Register.{Turns, Forks, Merges}
use Rattle.atomic_table.proofs.Lists.{at_set, set_again}
use Rattle.rws_pool.specs.declared.events.PoolEvent.{PoolEvent}
use Rattle.rws_pool.specs.declared.events.PoolEvent.TheVariants.{Route}
use Rattle.rws_pool.specs.declared.events.Entry.{Entry}
use Rattle.rws_pool.specs.Machine.{new_words, pool_step}
use Rattle.rws_pool.specs.History.{entry, words_after}
use Rattle.rws_pool.proofs.Histories.{words_after-push, words_after-domain}
use Rattle.rws_cell.specs.declared.view.View.{View}
use Rattle.rws_cell.specs.Packing.{packed_words}
use Rattle.rws_cell.specs.Views.{called, Extends, left_half, right_half, both_views, first_view}
use Rattle.rws_cell.specs.Rule.{Claims, Fits, AllFit, Apart, Kept, Routed, Learned, Updated, Steps, nobody}
use Rattle.rws_cell.proofs.Packs.{packed-words_after}
use Rattle.rws_cell.proofs.Numbers.{claims_number, left_owned, right_owned, halves_apart}
use Rattle.rws_cell.proofs.Standing.{others_quiet, caller_fits, other_fits, left_fits, right_fits, both_fit, both_claim, first_fits}

-- a list with one element more at its end
at_seam : {A : Type 0} → (xs : List A) (a b : A) (j : ℕ) → get_elem? (xs ++ a ∷ []) j ≡ some b → (get_elem? xs j ≡ some b) ⊎ ((j ≡ length xs) × (a ≡ b))
at_seam [] a b zero e = inr (refl, some-injective a b e)
at_seam [] a b (suc j) e = absurd (some-ne-none b (sym e))
at_seam (x ∷ xs) a b zero e = inl e
at_seam (x ∷ xs) a b (suc j) e = ⊎_elim (λ l. inl l) (λ r. inr (ap suc r.0, r.1)) (at_seam xs a b j e)

apart_set : (views : List View) (seat : ℕ) (v w : View) → get_elem? views seat ≡ some v → ((n : ℕ) → Claims w n → Claims v n) → Apart views → Apart (set views seat w)
apart_set views seat v w at less apart i j x y xi yj ne n cx cy =
    ⊎_elim
    (λ (s : (i ≡ seat) × (w ≡ x)).
    ⊎_elim (λ (t : (j ≡ seat) × (w ≡ y)). ne (s.0 ∙ sym t.0))
    (λ (t : (j ≢ seat) × (get_elem? views j ≡ some y)). apart seat j v y at t.1 (λ e. t.0 (sym e)) n (less n (subst (λ u. Claims u n) (sym s.1) cx)) cy)
    (at_set views seat j w y yj))
    (λ (s : (i ≢ seat) × (get_elem? views i ≡ some x)).
    ⊎_elim (λ (t : (j ≡ seat) × (w ≡ y)). apart i seat x v s.1 at s.0 n cx (less n (subst (λ u. Claims u n) (sym t.1) cy)))
    (λ (t : (j ≢ seat) × (get_elem? views j ≡ some y)). apart i j x y s.1 t.1 ne n cx cy)
    (at_set views seat j w y yj))
    (at_set views seat i w x xi)

apart_push : (views : List View) (w : View) → Apart views → ((j : ℕ) (u : View) → get_elem? views j ≡ some u → (n : ℕ) → Claims u n → ¬ Claims w n) → Apart (views ++ w ∷ [])
apart_push views w apart new i j x y xi yj ne n cx cy =
    ⊎_elim
    (λ (s : get_elem? views i ≡ some x).
    ⊎_elim (λ (t : get_elem? views j ≡ some y). apart i j x y s t ne n cx cy)
    (λ (t : (j ≡ length views) × (w ≡ y)). new i x s n cx (subst (λ u. Claims u n) (sym t.1) cy))
    (at_seam views w y j yj))
    (λ (s : (i ≡ length views) × (w ≡ x)).
    ⊎_elim (λ (t : get_elem? views j ≡ some y). new j y t n cy (subst (λ u. Claims u n) (sym s.1) cx))
    (λ (t : (j ≡ length views) × (w ≡ y)). ne (s.0 ∙ sym t.0))
    (at_seam views w y j yj))
    (at_seam views w x i xi)

fit_set : (log : List Entry) (views : List View) (seat : ℕ) (w : View) → ((j : ℕ) (u : View) → j ≢ seat → get_elem? views j ≡ some u → u.live ≡ true → Fits log u)
    → (w.live ≡ true → Fits log w) → AllFit log (set views seat w)
fit_set log views seat w others mine j u e live =
    ⊎_elim (λ (t : (j ≡ seat) × (w ≡ u)). subst (Fits log) t.1 (mine (ap (λ (x : View). x.live) t.1 ∙ live)))
    (λ (t : (j ≢ seat) × (get_elem? views j ≡ some u)). others j u t.0 t.1 live)
    (at_set views seat j w u e)

-- what a call needs of the words that it leaves
abbrev LeavesWords : List ℕ → PoolEvent → List Entry → Type 0
LeavesWords new event log = ((domain : ℕ) → new ≡ packed_words (pool_step (words_after domain log) event)) × (slice_index new 0 < 2 ^ 32)

-- a call of a pass extends the history
pub record Made (v : View) (event : PoolEvent) (new : List ℕ) (views : List View) (seat : ℕ) : Type 0 where
  pub between : List Entry
  pub kept : Kept new (set views seat (called v between event))
  pub extends : Extends v event (called v between event)
  pub words_are : (domain : ℕ) → new ≡ packed_words (words_after domain (called v between event).seen)

makes : (v : View) (event : PoolEvent) (words new : List ℕ) (views : List View) (seat : ℕ) → (k : Kept words views) → get_elem? views seat ≡ some v → v.live ≡ true
    → LeavesWords new event k.log → Made v event new views seat
makes v event words new views seat k at live leaves =
    let f = k.fits seat v at live in
    let between = f.begins.0 in
    let is = f.begins.1 in
    let f' = subst (λ l. Fits l v) is f in
    let own = caller_fits v between event f' in
    let w = called v between event in
    let words_are : (domain : ℕ) → new ≡ packed_words (words_after domain ((v.seen ++ f.begins.0) ++ entry v.number event ∷ [])) =
    λ domain. leaves.0 domain ∙ ap (λ (l : List Entry). packed_words (pool_step (words_after domain l) event)) is ∙ ap packed_words (sym (words_after-push domain (v.seen ++ f.begins.0) (entry v.number event))) in
    record {
      between = f.begins.0;
      kept = record {
        log = (v.seen ++ f.begins.0) ++ entry v.number event ∷ [];
        words_are = words_are;
        narrow = leaves.1;
        fits = fit_set _ views seat (called v f.begins.0 event)
            (λ j u other there alive. other_fits (v.seen ++ f.begins.0) u v.number event
            (λ c. k.apart seat j v u at there (λ e. other (sym e)) v.number (claims_number v live) c)
            (subst (λ l. Fits l u) is (k.fits j u there alive)))
            (λ _. own);
        apart = apart_set views seat v (called v f.begins.0 event) at (λ n c. c) k.apart;
      };
      extends = record { between = f.begins.0; others = others_quiet v f.begins.0 f'; is = refl; whole = own.whole };
      words_are = words_are;
    }

-- the new cell, whose history is empty
pub begins : (domain : ℕ) → Kept (packed_words (new_words domain)) (first_view ∷ [])
begins domain = record {
  log = [];
  words_are = λ d. refl;
  narrow = lit< tt;
  fits = fits;
  apart = apart;
}
  where
    fits : AllFit [] (first_view ∷ [])
    fits zero v e live = subst (Fits []) (some-injective _ _ e) first_fits
    fits (suc seat) v e live = absurd (some-ne-none v (sym e))

    apart : Apart (first_view ∷ [])
    apart zero zero v w e d ne n c c' = ne refl
    apart zero (suc j) v w e d ne n c c' = absurd (some-ne-none w (sym d))
    apart (suc i) j v w e d ne n c c' = absurd (some-ne-none v (sym e))

-- a load that is the pool event Route
pub routes : (seat : ℕ) (v : View) → v.live ≡ true → Turns Kept seat v (λ x. x) Routed
routes seat v live words views k at =
    let m = makes v Route words words views seat k at live (k.words_are, k.narrow) in
    (called v m.between Route, m.kept, record { extended = m.extends; words_are = m.words_are; narrow = k.narrow })

-- a load that is no pool event
pub learns : (seat : ℕ) (v : View) → v.live ≡ true → Turns Kept seat v (λ x. x) Learned
learns seat v live words views k at =
    let f = k.fits seat v at live in
    (v, subst (Kept words) (sym (set_again views seat v at)) k, record { same = refl; whole = f.whole; told = f.told; narrow = k.narrow })

-- an exchange, which changes the words where they are the expected ones
pub exchanges : (domain seat : ℕ) (v : View) (event : PoolEvent) (expected new : List ℕ) → v.live ≡ true → Steps domain event expected new → slice_index new 0 < 2 ^ 32
    → Turns Kept seat v (λ x. cond (pointwise nat_eq x expected) new x) (Updated event expected)
exchanges domain seat v event expected new live steps narrow words views k at = go (pointwise nat_eq words expected) refl
  where
    go : (b : Bool) → pointwise nat_eq words expected ≡ b
        → (w : View) × Kept (cond b new words) (set views seat w) × MatchBool b (Extends v event w) ((w ≡ v) × (slice_index words 0 < 2 ^ 32))
    go true e =
        let same = (bytes_decides words expected).0 e in
        let here = steps (words_after domain k.log) (words_after-domain domain k.log) (sym same ∙ k.words_are domain) in
        let leaves : (d : ℕ) → new ≡ packed_words (pool_step (words_after d k.log) event) =
        λ d. here ∙ ap packed_words (sym (words_after-push domain k.log (entry 0 event))) ∙ packed-words_after domain d (k.log ++ entry 0 event ∷ []) ∙ ap packed_words (words_after-push d k.log (entry 0 event)) in
        let m = makes v event words new views seat k at live (leaves, narrow) in
        (called v m.between event, m.kept, m.extends)
    go false e = (v, subst (Kept words) (sym (set_again views seat v at)) k, (refl, k.narrow))

-- a view is cut in two, each of which claims a part of what it claimed
forks : (seat : ℕ) (v left right : View) → v.live ≡ true
    → ((log : List Entry) → Fits log v → left.live ≡ true → Fits log left) → ((log : List Entry) → Fits log v → right.live ≡ true → Fits log right)
    → ((n : ℕ) → Claims left n → Claims v n) → ((n : ℕ) → Claims right n → Claims v n)
    → ((log : List Entry) → Fits log v → (n : ℕ) → Claims left n → ¬ Claims right n) → Forks Kept seat v left right
forks seat v left right live left_fit right_fit left_less right_less apart words views k at =
    let f = k.fits seat v at live in
    record {
      log = k.log;
      words_are = k.words_are;
      narrow = k.narrow;
      fits = λ j u e alive. ⊎_elim
          (λ (old : get_elem? (set views seat left) j ≡ some u). fit_set k.log views seat left (λ i x other there here. k.fits i x there here) (left_fit k.log f) j u old alive)
          (λ (new : (j ≡ length (set views seat left)) × (right ≡ u)). subst (Fits k.log) new.1 (right_fit k.log f (ap (λ (x : View). x.live) new.1 ∙ alive)))
          (at_seam (set views seat left) right u j e);
      apart = apart_push (set views seat left) right (apart_set views seat v left at left_less k.apart)
          (λ j u e n c c'. ⊎_elim
          (λ (t : (j ≡ seat) × (left ≡ u)). apart k.log f n (subst (λ x. Claims x n) (sym t.1) c) c')
          (λ (t : (j ≢ seat) × (get_elem? views j ≡ some u)). k.apart j seat u v t.1 at t.0 n c (right_less n c'))
          (at_set views seat j left u e));
    }

nobody_claims : (n : ℕ) → ¬ Claims nobody n
nobody_claims n c = true≢false (sym c.0)

pub splits : (seat : ℕ) (v : View) → v.live ≡ true → Forks Kept seat v (left_half v) (right_half v)
splits seat v live =
    forks seat v (left_half v) (right_half v) live (λ log f _. left_fits log v f) (λ log f _. right_fits log v f)
    (λ n c. (live, ⊎_elim (λ o. inl (left_owned v n o)) (λ h. inr h) c.1))
    (λ n c. (live, ⊎_elim (λ o. inl (right_owned v n o)) (λ h. absurd h) c.1))
    (λ log f n c c'. ⊎_elim (λ o'. ⊎_elim (λ o. halves_apart v n f.whole.stepped o o') (λ h. f.whole.apart.0 n (right_owned v n o') h) c.1) (λ h. absurd h) c'.1)

-- the whole view is handed over
pub hands : (seat : ℕ) (v : View) → v.live ≡ true → Forks Kept seat v nobody v
hands seat v live =
    forks seat v nobody v live (λ log f none. absurd (true≢false (sym none))) (λ log f _. f) (λ n c. absurd (nobody_claims n c)) (λ n c. c) (λ log f n c c'. nobody_claims n c)

-- where a seat's claims come from once one view was taken into another
located : (views : List View) (seat other : ℕ) (v w : View) → v.live ≡ true → w.live ≡ true → (j : ℕ) (u : View) → get_elem? (set (set views seat (both_views v w)) other nobody) j ≡ some u → (n : ℕ) → Claims u n
    → ((j ≡ seat) × (Claims v n ⊎ Claims w n)) ⊎ ((j ≢ seat) × (j ≢ other) × (get_elem? views j ≡ some u))
located views seat other v w live live' j u e n c =
    ⊎_elim
    (λ (t : (j ≡ other) × (nobody ≡ u)). absurd (nobody_claims n (subst (λ x. Claims x n) (sym t.1) c)))
    (λ (t : (j ≢ other) × (get_elem? (set views seat (both_views v w)) j ≡ some u)). ⊎_elim
    (λ (s : (j ≡ seat) × (both_views v w ≡ u)). inl (s.0, both_claim v w n live live' (subst (λ x. Claims x n) (sym s.1) c)))
    (λ (s : (j ≢ seat) × (get_elem? views j ≡ some u)). inr (s.0, t.0, s.1))
    (at_set views seat j (both_views v w) u t.1))
    (at_set (set views seat (both_views v w)) other j nobody u e)

apart_joined : (views : List View) (seat other : ℕ) (v w : View) → v.live ≡ true → w.live ≡ true → get_elem? views seat ≡ some v → get_elem? views other ≡ some w → Apart views
    → Apart (set (set views seat (both_views v w)) other nobody)
apart_joined views seat other v w live live' at second apart i j x y xi yj ne n cx cy =
    ⊎_elim
    (λ (s : (i ≡ seat) × (Claims v n ⊎ Claims w n)). ⊎_elim
    (λ (t : (j ≡ seat) × (Claims v n ⊎ Claims w n)). ne (s.0 ∙ sym t.0))
    (λ (t : (j ≢ seat) × (j ≢ other) × (get_elem? views j ≡ some y)).
    ⊎_elim (λ c. apart seat j v y at t.2 (λ e. t.0 (sym e)) n c cy) (λ c. apart other j w y second t.2 (λ e. t.1 (sym e)) n c cy) s.1)
    (located views seat other v w live live' j y yj n cy))
    (λ (s : (i ≢ seat) × (i ≢ other) × (get_elem? views i ≡ some x)). ⊎_elim
    (λ (t : (j ≡ seat) × (Claims v n ⊎ Claims w n)).
    ⊎_elim (λ c. apart i seat x v s.2 at s.0 n cx c) (λ c. apart i other x w s.2 second s.1 n cx c) t.1)
    (λ (t : (j ≢ seat) × (j ≢ other) × (get_elem? views j ≡ some y)). apart i j x y s.2 t.2 ne n cx cy)
    (located views seat other v w live live' j y yj n cy))
    (located views seat other v w live live' i x xi n cx)

-- a view is taken in
pub joins : (seat : ℕ) (v : View) (other : ℕ) (w : View) → v.live ≡ true → w.live ≡ true → Merges Kept seat v other w (both_views v w) nobody
joins seat v other w live live' words views k at ne there =
    let both = both_views v w in
    let second : get_elem? views other ≡ some w = ⊎_elim (λ (t : (other ≡ seat) × (both_views v w ≡ w)). absurd (ne t.0)) (λ (t : (other ≢ seat) × (get_elem? views other ≡ some w)). t.1) (at_set views seat other (both_views v w) w there) in
    let apart : (n : ℕ) → Claims v n → ¬ Claims w n = λ n c c'. k.apart seat other v w at second (λ e. ne (sym e)) n c c' in
    let fit = both_fit k.log v w (k.fits seat v at live) (k.fits other w second live') apart in
    record {
      log = k.log;
      words_are = k.words_are;
      narrow = k.narrow;
      fits = fit_set k.log (set views seat (both_views v w)) other nobody
          (λ j u _ e alive. fit_set k.log views seat (both_views v w) (λ i x _ e' here. k.fits i x e' here) (λ _. fit) j u e alive)
          (λ none. absurd (true≢false (sym none)));
      apart = apart_joined views seat other v w live live' at second k.apart;
    }
