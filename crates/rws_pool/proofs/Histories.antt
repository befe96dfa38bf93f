-- How a history grows: its words, and the calls of a pass.
use Rattle.std.proofs.Common.{◌≡◌, ◌≢◌, ℕ, List, [], ◌∷◌, ◌++◌, Bool, true, false, ◌==◌, map, filter, refl, ap, ◌∙◌, eq-eqb, ne_eqb, cond, nat_lt}
use Rattle.std.proofs.lemmas.List.{map-append}
use Rattle.std.proofs.lemmas.List.Elements.{filter-append}
use Rattle.rws_gtid.specs.declared.Gtid.{Gtid}
use Rattle.rws_pool.specs.declared.words.PoolWords.{PoolWords}
use Rattle.rws_pool.specs.declared.events.PoolEvent.{PoolEvent}
use Rattle.rws_pool.specs.declared.events.PoolEvent.TheVariants.{Route, Record, Observe}
use Rattle.rws_pool.specs.declared.events.Entry.{Entry}
use Rattle.rws_pool.specs.Machine.{new_words, later, pool_step, pool_from}
use Rattle.rws_pool.specs.History.{entry, words_after, calls_by}

pub pool_from-push : (words : PoolWords) (h : List Entry) (e : Entry)
    → pool_from words (map (λ (x : Entry). x.event) (h ++ e ∷ [])) ≡ pool_step (pool_from words (map (λ (x : Entry). x.event) h)) e.event
pool_from-push words [] e = refl
pool_from-push words (x ∷ h) e = pool_from-push (pool_step words x.event) h e

pub words_after-push : (domain : ℕ) (h : List Entry) (e : Entry) → words_after domain (h ++ e ∷ []) ≡ pool_step (words_after domain h) e.event
words_after-push domain h e = pool_from-push (new_words domain) h e

later-domain : (last g : Gtid) → (later last g).domain ≡ last.domain
later-domain last g = elim (nat_lt last.sequence g.sequence) as (λ b. (cond b (record { domain = last.domain; server = g.server; sequence = g.sequence }) last).domain ≡ last.domain) [ true ↦ refl | false ↦ refl ]

step-domain : (words : PoolWords) (event : PoolEvent) → (pool_step words event).last.domain ≡ words.last.domain
step-domain words Route = refl
step-domain words (Record server g) = later-domain words.last g
step-domain words (Observe round) = refl

pub pool_from-domain : (words : PoolWords) (h : List PoolEvent) → (pool_from words h).last.domain ≡ words.last.domain
pool_from-domain words [] = refl
pool_from-domain words (e ∷ h) = pool_from-domain (pool_step words e) h ∙ step-domain words e

-- the domain of the words never changes
pub words_after-domain : (domain : ℕ) (h : List Entry) → (words_after domain h).last.domain ≡ domain
words_after-domain domain h = pool_from-domain (new_words domain) (map (λ (e : Entry). e.event) h)

-- a pass has its own number
same_pass : (pass : ℕ) → (pass == pass) ≡ true
same_pass pass = eq-eqb pass pass refl

module _ (pass : ℕ) where
  pub calls_by-append : (xs ys : List Entry) → calls_by pass (xs ++ ys) ≡ calls_by pass xs ++ calls_by pass ys
  calls_by-append xs ys =
      ap (map (λ (e : Entry). e.event)) (filter-append (λ (e : Entry). e.pass == pass) xs ys)
      ∙ map-append (λ (e : Entry). e.event) (filter (λ (e : Entry). e.pass == pass) xs) (filter (λ (e : Entry). e.pass == pass) ys)

  pub calls_by-own : (event : PoolEvent) → calls_by pass (entry pass event ∷ []) ≡ event ∷ []
  calls_by-own event = ap (λ (b : Bool). map (λ (e : Entry). e.event) (cond b (entry pass event ∷ []) [])) (same_pass pass)

  pub calls_by-other : (n : ℕ) (event : PoolEvent) → n ≢ pass → calls_by pass (entry n event ∷ []) ≡ []
  calls_by-other n event apart = ap (λ (b : Bool). map (λ (e : Entry). e.event) (cond b (entry n event ∷ []) [])) (ne_eqb n pass apart)
