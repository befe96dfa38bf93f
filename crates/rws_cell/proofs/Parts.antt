-- The calls of the parts of a view, in a history that grows.
use Rattle.std.proofs.Common.{◌≡◌, ◌≢◌, ℕ, Bool, true, false, true≢false, List, [], ◌∷◌, ◌++◌, ◌==◌, eqb-true, eq-eqb, refl, sym, ap, ◌∙◌, subst, inl, inr, ⊎_elim, append_assoc}
use Rattle.std.proofs.lemmas.List.{append-nil, append_cancel_left}
use Rattle.rws_pool.specs.declared.events.PoolEvent.{PoolEvent}
use Rattle.rws_pool.specs.declared.events.Entry.{Entry}
use Rattle.rws_pool.specs.History.{entry, calls_by}
use Rattle.rws_pool.proofs.Histories.{calls_by-append, calls_by-other}
use Rattle.rws_cell.specs.declared.view.Part.{Part}
use Rattle.rws_cell.specs.Views.{StartsWith, Owns, AnyOwns, AllApart, Stands, EachStands}
use Rattle.rws_cell.proofs.Numbers.{owns_number, owned-append}

-- a call of another pass
pub calls_by-others : (n m : ℕ) (event : PoolEvent) (log : List Entry) → m ≢ n → calls_by n (log ++ entry m event ∷ []) ≡ calls_by n log
calls_by-others n m event log other =
    calls_by-append n log (entry m event ∷ []) ∙ ap (λ (c : List PoolEvent). calls_by n log ++ c) (calls_by-other n m event other) ∙ append-nil (calls_by n log)

pub stands_on : (m : ℕ) (event : PoolEvent) (ps : List Part) (log : List Entry) → ¬ AnyOwns ps m → EachStands log ps → EachStands (log ++ entry m event ∷ []) ps
stands_on m event [] log none s = tt
stands_on m event (p ∷ ps) log none s = (
  (
    calls_by-others p.number m event log (λ same. none (inl (subst (Owns p) (sym same) (owns_number p)))) ∙ s.0.0,
    λ n owns other. calls_by-others n m event log (λ same. none (inl (subst (Owns p) (sym same) owns))) ∙ s.0.1 n owns other,
  ),
  stands_on m event ps log (λ o. none (inr o)) s.1,
)

pub stands_append : (log : List Entry) (ps qs : List Part) → EachStands log ps → EachStands log qs → EachStands log (ps ++ qs)
stands_append log [] qs s t = t
stands_append log (p ∷ ps) qs s t = (s.0, stands_append log ps qs s.1 t)

pub apart_append : (ps qs : List Part) → AllApart ps → AllApart qs → ((n : ℕ) → AnyOwns ps n → ¬ AnyOwns qs n) → AllApart (ps ++ qs)
apart_append [] qs a b apart = b
apart_append (p ∷ ps) qs a b apart =
    ((λ n o any. ⊎_elim (λ r. a.0 n o r) (λ r. apart n (inl o) r) (owned-append ps qs n any)), apart_append ps qs a.1 b (λ n o. apart n (inr o)))

module _ {A : Type 0} where
  pub nothing_right : (xs ys : List A) → xs ++ ys ≡ [] → ys ≡ []
  nothing_right [] ys e = e
  nothing_right (x ∷ xs) ys e = absurd (cc)

  nothing_left : (xs ys : List A) → xs ++ ys ≡ [] → xs ≡ []
  nothing_left [] ys e = refl
  nothing_left (x ∷ xs) ys e = absurd (cc)

  pub nothing_more : (xs ys : List A) → xs ++ ys ≡ xs → ys ≡ []
  nothing_more xs ys e = append_cancel_left xs ys [] (e ∙ sym (append-nil xs))

-- who has as many calls in a beginning as in the whole has them in each beginning between
pub calls_by-between : (n : ℕ) (log middle begin : List Entry) (calls : List PoolEvent) → StartsWith log middle → StartsWith middle begin
    → calls_by n begin ≡ calls → calls_by n log ≡ calls → calls_by n middle ≡ calls
calls_by-between n log middle begin calls whole part first all =
    let inner = calls_by n part.0 in
    let outer = calls_by n whole.0 in
    let m : calls_by n middle ≡ calls ++ calls_by n part.0 = ap (calls_by n) part.1 ∙ calls_by-append n begin part.0 ∙ ap (λ (c : List PoolEvent). c ++ calls_by n part.0) first in
    let l : calls_by n log ≡ calls_by n middle ++ calls_by n whole.0 = ap (calls_by n) whole.1 ∙ calls_by-append n middle whole.0 in
    let both : calls ++ (calls_by n part.0 ++ calls_by n whole.0) ≡ calls = sym (append_assoc calls (calls_by n part.0) (calls_by n whole.0)) ∙ ap (λ (c : List PoolEvent). c ++ calls_by n whole.0) (sym m) ∙ sym l ∙ all in
    let none = nothing_left (calls_by n part.0) (calls_by n whole.0) (nothing_more calls (calls_by n part.0 ++ calls_by n whole.0) both) in
    m ∙ ap (λ (c : List PoolEvent). calls ++ c) none ∙ append-nil calls

-- the same of a beginning, where there is no call in the whole
pub calls_by-none : (n : ℕ) (log begin : List Entry) → StartsWith log begin → calls_by n log ≡ [] → calls_by n begin ≡ []
calls_by-none n log begin s none = nothing_left (calls_by n begin) (calls_by n s.0) (sym (calls_by-append n begin s.0) ∙ sym (ap (calls_by n) s.1) ∙ none)

pub stands_between : (ps : List Part) (log middle begin : List Entry) → StartsWith log middle → StartsWith middle begin → EachStands begin ps → EachStands log ps → EachStands middle ps
stands_between [] log middle begin whole part s t = tt
stands_between (p ∷ ps) log middle begin whole part s t = (
  (calls_by-between p.number log middle begin p.calls whole part s.0.0 t.0.0, λ n owns other. calls_by-none n log middle whole (t.0.1 n owns other)),
  stands_between ps log middle begin whole part s.1 t.1,
)

-- what stands in a beginning and in the whole leaves no call under an owned number between them
quiet_part : (p : Part) (begin between : List Entry) → Stands begin p → Stands (begin ++ between) p → (n : ℕ) → Owns p n → calls_by n between ≡ []
quiet_part p begin between s t n owns = go (n == p.number) refl
  where
    go : (b : Bool) → (n == p.number) ≡ b → calls_by n between ≡ []
    go true e =
        let same : n ≡ p.number = eqb-true n p.number e in
        let begun : calls_by n begin ≡ p.calls = ap (λ (m : ℕ). calls_by m begin) same ∙ s.0 in
        let all : calls_by n (begin ++ between) ≡ p.calls = ap (λ (m : ℕ). calls_by m (begin ++ between)) same ∙ t.0 in
        nothing_more (calls_by n begin) (calls_by n between) (sym (calls_by-append n begin between) ∙ all ∙ sym begun)
    go false e =
        let other : n ≢ p.number = λ same. true≢false (sym (eq-eqb n p.number same) ∙ e) in
        ap (λ (c : List PoolEvent). c ++ calls_by n between) (sym (s.1 n owns other)) ∙ sym (calls_by-append n begin between) ∙ t.1 n owns other

pub quiet_parts : (ps : List Part) (begin between : List Entry) → EachStands begin ps → EachStands (begin ++ between) ps → (n : ℕ) → AnyOwns ps n → calls_by n between ≡ []
quiet_parts [] begin between s t n o = absurd o
quiet_parts (p ∷ ps) begin between s t n o = ⊎_elim (λ owns. quiet_part p begin between s.0 t.0 n owns) (λ r. quiet_parts ps begin between s.1 t.1 n r) o
