-- No step forgets what was recorded or observed.
use Rattle.std.proofs.Common.{◌≡◌, ◌<◌, ◌≤◌, ℕ, zero, suc, Bool, true, false, cond, List, [], ◌∷◌, ◌++◌, map, Option, Some, None, nat_lt, refl, sym, subst, le_refl, le_trans, arith}
use Rattle.std.specs.Prelude.{slice_index_or, slice_set}
use Rattle.std.proofs.lemmas.Bool.Decides.{nat_tests}
use Rattle.rws_gtid.specs.declared.Gtid.{Gtid}
use Rattle.rws_pool.specs.declared.words.Seen.{Seen}
use Rattle.rws_pool.specs.declared.words.PoolWords.{PoolWords}
use Rattle.rws_pool.specs.declared.events.PoolEvent.{PoolEvent}
use Rattle.rws_pool.specs.declared.events.PoolEvent.TheVariants.{Route, Record, Observe}
use Rattle.rws_pool.specs.declared.events.Entry.{Entry}
use Rattle.rws_pool.specs.Machine.{down, new_words, later, raised, observed, each_observed, pool_step, pool_from, NotBelow}
use Rattle.rws_pool.specs.History.{words_after}

later_rises : (last g : Gtid) → last.sequence ≤ (later last g).sequence
later_rises last g = go (nat_lt last.sequence g.sequence) refl
  where
    go : (b : Bool) → nat_lt last.sequence g.sequence ≡ b → last.sequence ≤ (cond b (record { domain = last.domain; server = g.server; sequence = g.sequence }) last).sequence
    go true lower = let below : last.sequence < g.sequence = grind (arith, nat_tests) in omega arith
    go false same = le_refl last.sequence

recorded_rises : (servers : List Seen) (server sequence k : ℕ)
    → (slice_index_or servers k down).position ≤ (slice_index_or (slice_set servers server (raised (slice_index_or servers server down) sequence)) k down).position
recorded_rises [] server sequence k = le_refl _
recorded_rises (s ∷ ss) zero sequence zero = omega arith
recorded_rises (s ∷ ss) zero sequence (suc k) = le_refl _
recorded_rises (s ∷ ss) (suc server) sequence zero = le_refl _
recorded_rises (s ∷ ss) (suc server) sequence (suc k) = recorded_rises ss server sequence k

one_observed_rises : (seen : Seen) (named : Option Seen) → seen.position ≤ (observed seen named).position
one_observed_rises seen None = le_refl seen.position
one_observed_rises seen (Some named) = omega arith

observed_rises : (servers : List Seen) (round : List (Option Seen)) (k : ℕ) → (slice_index_or servers k down).position ≤ (slice_index_or (each_observed servers round) k down).position
observed_rises servers [] k = le_refl _
observed_rises [] (named ∷ more) k = le_refl _
observed_rises (s ∷ ss) (named ∷ more) zero = one_observed_rises s named
observed_rises (s ∷ ss) (named ∷ more) (suc k) = observed_rises ss more k

step_rises : (words : PoolWords) (event : PoolEvent) → NotBelow words (pool_step words event)
step_rises words Route = record { last = le_refl _; positions = λ server. le_refl _ }
step_rises words (Record server g) = record { last = later_rises words.last g; positions = recorded_rises words.servers server g.sequence }
step_rises words (Observe round) = record { last = le_refl _; positions = observed_rises words.servers round.seen }

not_below_trans : (a b c : PoolWords) → NotBelow a b → NotBelow b c → NotBelow a c
not_below_trans a b c x y = record { last = le_trans x.last y.last; positions = λ server. le_trans (x.positions server) (y.positions server) }

pub pool_from-rises : (words : PoolWords) (events : List PoolEvent) → NotBelow words (pool_from words events)
pool_from-rises words [] = record { last = le_refl _; positions = λ server. le_refl _ }
pool_from-rises words (event ∷ events) = not_below_trans words (pool_step words event) (pool_from (pool_step words event) events) (step_rises words event) (pool_from-rises (pool_step words event) events)

pool_from-history : (words : PoolWords) (history more : List Entry)
    → pool_from words (map (λ (e : Entry). e.event) (history ++ more)) ≡ pool_from (pool_from words (map (λ (e : Entry). e.event) history)) (map (λ (e : Entry). e.event) more)
pool_from-history words [] more = refl
pool_from-history words (e ∷ history) more = pool_from-history (pool_step words e.event) history more

-- the words after a longer history aren't below those after its beginning
pub words_after-rises : (domain : ℕ) (history more : List Entry) → NotBelow (words_after domain history) (words_after domain (history ++ more))
words_after-rises domain history more =
    subst (NotBelow (words_after domain history)) (sym (pool_from-history (new_words domain) history more)) (pool_from-rises (words_after domain history) (map (λ (e : Entry). e.event) more))
