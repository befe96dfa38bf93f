-- All passes of one cell: each number has an owner among them, so each entry has its pass.
use Rattle.std.proofs.Common.{◌≡◌, ◌≢◌, ◌⊎◌, ℕ, Bool, true, false, true≢false, List, [], ◌∷◌, ◌++◌, ◌==◌, All, eqb-true, eq-eqb, refl, sym, ap, ◌∙◌, subst, inl, inr, ⊎_elim, arith}
use Rattle.std.proofs.lemmas.List.Elements.{All-nil, All-cons}
use Rattle.rws_pool.specs.declared.events.PoolEvent.{PoolEvent}
use Rattle.rws_pool.specs.declared.events.Entry.{Entry}
use Rattle.rws_pool.specs.History.{calls_by}
use Rattle.rws_pool.proofs.Histories.{calls_by-append, calls_by-own}
use Rattle.rws_cell.specs.declared.view.Part.{Part}
use Rattle.rws_cell.specs.declared.view.View.{View}
use Rattle.rws_cell.specs.Views.{Has, Owns, AnyOwns, EachStands, parts, IsWhole}
use Rattle.rws_cell.specs.Passes.{Passes, SomeOwns, AllOf, AllOfThese}
use Rattle.rws_cell.specs.Passes.Passes.{opened, put_first, called as makes, split, joined}
use Rattle.rws_cell.proofs.Numbers.{halves_own, owned_left, owned_right}
use Rattle.rws_cell.proofs.Parts.{nothing_right}
use Rattle.rws_cell.proofs.Standing.{first_whole, left_whole, right_whole}

-- the pass put first owns what it owned
owned_first : (v : View) (before after : List View) (n : ℕ) → SomeOwns (before ++ v ∷ after) n → SomeOwns (v ∷ before ++ after) n
owned_first v [] after n o = o
owned_first v (u ∷ before) after n o =
    ⊎_elim (λ a. inr (inl a)) (λ r. ⊎_elim (λ a. inl a) (λ b. inr (inr b)) (owned_first v before after n r)) o

pub some_owns : (views : List View) → Passes views → (n : ℕ) → SomeOwns views n
some_owns _ opened n = inl (inl (n, omega arith))
some_owns _ (put_first v before after ps) n = owned_first v before after n (some_owns (before ++ v ∷ after) ps n)
some_owns _ (makes v w event others e ps) n =
    ⊎_elim (λ o. inl (subst (λ (u : View). AnyOwns (parts u) n) (sym e.is) o)) (λ r. inr r) (some_owns (v ∷ others) ps n)
some_owns _ (split v others ps) n =
    ⊎_elim
    (λ (o : AnyOwns (parts v) n). ⊎_elim (λ own. ⊎_elim (λ l. inl (inl l)) (λ r. inr (inl (inl r))) (halves_own v n own)) (λ j. inl (inr j)) o)
    (λ r. inr (inr r))
    (some_owns (v ∷ others) ps n)
some_owns _ (joined v other w others j ps) n =
    let same = λ (o : AnyOwns (parts v ++ parts other) n). subst (λ (u : View). AnyOwns (parts u) n) (sym j.is) o in
    ⊎_elim
    (λ o. inl (same (owned_left (parts v) (parts other) n o)))
    (λ r. ⊎_elim (λ o. inl (same (owned_right (parts v) (parts other) n o))) (λ s. inr s) r)
    (some_owns (v ∷ other ∷ others) ps n)

abbrev EachWhole : List View → Type 0
EachWhole [] = Unit {0}
EachWhole (v ∷ views) = IsWhole v × EachWhole views

whole_first : (v : View) (before after : List View) → EachWhole (before ++ v ∷ after) → EachWhole (v ∷ before ++ after)
whole_first v [] after w = w
whole_first v (u ∷ before) after w = let r = whole_first v before after w.1 in (r.0, (w.0, r.1))

each_whole : (views : List View) → Passes views → EachWhole views
each_whole _ opened = (first_whole, tt)
each_whole _ (put_first v before after ps) = whole_first v before after (each_whole (before ++ v ∷ after) ps)
each_whole _ (makes v w event others e ps) = (e.whole, (each_whole (v ∷ others) ps).1)
each_whole _ (split v others ps) = let w = each_whole (v ∷ others) ps in (left_whole v w.0, (right_whole v w.0, w.1))
each_whole _ (joined v other w others j ps) = (j.whole, (each_whole (v ∷ other ∷ others) ps).1.1)

-- of an owned number the history has no entry but that of a part
own_or_none : (ps : List Part) (history : List Entry) (n : ℕ) → EachStands history ps → AnyOwns ps n → Has ps n ⊎ (calls_by n history ≡ [])
own_or_none [] history n s o = absurd o
own_or_none (p ∷ ps) history n s o =
    ⊎_elim (λ owns. here owns (n == p.number) refl) (λ r. ⊎_elim (λ h. inl (inr h)) (λ none. inr none) (own_or_none ps history n s.1 r)) o
  where
    here : Owns p n → (b : Bool) → (n == p.number) ≡ b → Has (p ∷ ps) n ⊎ (calls_by n history ≡ [])
    here owns true e = inl (inl (sym (eqb-true n p.number e)))
    here owns false e = inr (s.0.1 n owns (λ same. true≢false (sym (eq-eqb n p.number same) ∙ e)))

-- an entry has a call under its number
not_none : (e : Entry) (history : List Entry) → calls_by e.pass (e ∷ history) ≢ []
not_none e history none =
    let own = ap (λ (c : List PoolEvent). c ++ calls_by e.pass history) (sym (calls_by-own e.pass e.event)) in
    absurd (cc (own ∙ sym (calls_by-append e.pass (e ∷ []) history) ∙ none))

each_of : (P : ℕ → Type 0) (history : List Entry) → ((n : ℕ) → P n ⊎ (calls_by n history ≡ [])) → All (λ (e : Entry). P e.pass) history
each_of P [] known = All-nil (λ (e : Entry). P e.pass)
each_of P (e ∷ history) known =
    All-cons (λ (e : Entry). P e.pass) e history
    (⊎_elim (λ p. p) (λ none. absurd (not_none e history none)) (known e.pass))
    (each_of P history (λ n. ⊎_elim (λ p. inl p) (λ none. inr (behind n none)) (known n)))
  where
    behind : (n : ℕ) → calls_by n (e ∷ history) ≡ [] → calls_by n history ≡ []
    behind n none = nothing_right (calls_by n (e ∷ [])) (calls_by n history) (sym (calls_by-append n (e ∷ []) history) ∙ none)

pub seen_of : (v : View) (others : List View) → Passes (v ∷ others) → AllOfThese (parts v) others v.seen
seen_of v others ps =
    each_of (λ n. Has (parts v) n ⊎ SomeOwns others n) v.seen
    (λ n. ⊎_elim
    (λ (o : AnyOwns (parts v) n). ⊎_elim (λ h. inl (inl h)) (λ none. inr none) (own_or_none (parts v) v.seen n (each_whole (v ∷ others) ps).0.stands o))
    (λ s. inl (inr s))
    (some_owns (v ∷ others) ps n))

pub joined_of : (v : View) → Passes (v ∷ []) → AllOf (parts v) v.seen
joined_of v ps =
    each_of (Has (parts v)) v.seen
    (λ n. ⊎_elim (λ o. own_or_none (parts v) v.seen n (each_whole (v ∷ []) ps).0.stands o) (λ none. absurd none) (some_owns (v ∷ []) ps n))
