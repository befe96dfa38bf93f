-- The words that were packed are read back, and a step on them doesn't look at the domain.
use Rattle.std.proofs.Common.{◌≡◌, ℕ, true, false, cond, List, [], ◌∷◌, length, get_or, map, nat_lt, refl, sym, ap, ◌∙◌}
use Rattle.std.specs.List.{range_with_len}
use Rattle.std.proofs.lemmas.List.FromFn.{fill_by_all}
use Rattle.rws_gtid.specs.declared.Gtid.{Gtid}
use Rattle.rws_pool.specs.declared.words.State.{State}
use Rattle.rws_pool.specs.declared.words.Seen.{Seen}
use Rattle.rws_pool.specs.declared.words.PoolWords.{PoolWords}
use Rattle.rws_pool.specs.declared.events.PoolEvent.{PoolEvent}
use Rattle.rws_pool.specs.declared.events.PoolEvent.TheVariants.{Route, Record, Observe}
use Rattle.rws_pool.specs.declared.events.Entry.{Entry}
use Rattle.rws_pool.specs.Machine.{new_words, later, pool_step, pool_from}
use Rattle.rws_pool.specs.History.{words_after}
use Rattle.rws_cell.specs.Packing.{code_of, packed_servers, packed_words}

-- a list of this length, element by element
pub written_out : {X : Type 0} (xs : List X) (n : ℕ) (d : X) → length xs ≡ n → xs ≡ map (λ k. get_or xs k d) (range_with_len 0 n)
written_out xs n d wide = fill_by_all (λ k. get_or xs k d) xs n d wide (λ k below. refl)

-- each server was read from two words
abbrev pub ReadsAll : List Seen → List ℕ → Type 0
ReadsAll [] [] = Unit {0}
ReadsAll [] (x ∷ xs) = ⊥
ReadsAll (s ∷ ss) [] = ⊥
ReadsAll (s ∷ ss) (x ∷ []) = ⊥
ReadsAll (s ∷ ss) (code ∷ position ∷ rest) = (((state : State) → code ≡ code_of state → s.state ≡ state) × (s.position ≡ position)) × ReadsAll ss rest

read_back : (ss ts : List Seen) (words : List ℕ) → ReadsAll ss words → words ≡ packed_servers ts → ss ≡ ts
read_back [] [] words reads is = refl
read_back [] (t ∷ ts) [] reads is = absurd (cc)
read_back [] (t ∷ ts) (x ∷ xs) reads is = absurd reads
read_back (s ∷ ss) ts [] reads is = absurd reads
read_back (s ∷ ss) ts (x ∷ []) reads is = absurd reads
read_back (s ∷ ss) [] (code ∷ position ∷ rest) reads is = absurd (cc)
read_back (s ∷ ss) (t ∷ ts) (code ∷ position ∷ rest) reads is =
    let first : code ≡ code_of t.state = cc in
    let state = reads.0.0 t.state first in
    let place : s.position ≡ t.position = reads.0.1 ∙ (cc) in
    let more = read_back ss ts rest reads.1 (cc) in
    λ i. record { state = state i; position = place i } ∷ more i

pub unpacks : (domain server sequence : ℕ) (rest : List ℕ) (servers : List Seen) (words : PoolWords) → words.last.domain ≡ domain
    → ReadsAll servers rest → server ∷ sequence ∷ rest ≡ packed_words words
    → record { last = record { domain = domain; server = server; sequence = sequence }; servers = servers } ≡ words
unpacks domain server sequence rest servers words same reads is =
    let s : server ≡ words.last.server = cc in
    let n : sequence ≡ words.last.sequence = cc in
    let all = read_back servers words.servers rest reads (cc) in
    λ i. record { last = record { domain = sym same i; server = s i; sequence = n i }; servers = all i }

abbrev moved : ℕ → Gtid → Gtid
moved domain g = record { domain = domain; server = g.server; sequence = g.sequence }

-- the same words in this domain
abbrev in_domain : ℕ → PoolWords → PoolWords
in_domain domain words = record { last = moved domain words.last; servers = words.servers }

later-moved : (domain : ℕ) (last g : Gtid) → later (moved domain last) g ≡ moved domain (later last g)
later-moved domain last g =
    let next : Gtid = record { domain = last.domain; server = g.server; sequence = g.sequence } in
    elim (nat_lt last.sequence g.sequence) as (λ b. cond b (moved domain g) (moved domain last) ≡ moved domain (cond b next last)) [ true ↦ refl | false ↦ refl ]

pool_step-in_domain : (domain : ℕ) (words : PoolWords) (event : PoolEvent) → pool_step (in_domain domain words) event ≡ in_domain domain (pool_step words event)
pool_step-in_domain domain words Route = refl
pool_step-in_domain domain words (Record server g) = λ i. record { last = later-moved domain words.last g i; servers = (pool_step words (Record server g)).servers }
pool_step-in_domain domain words (Observe round) = refl

packed-pool_from : (domain : ℕ) (words : PoolWords) (events : List PoolEvent) → packed_words (pool_from (in_domain domain words) events) ≡ packed_words (pool_from words events)
packed-pool_from domain words [] = refl
packed-pool_from domain words (event ∷ events) =
    ap (λ (w : PoolWords). packed_words (pool_from w events)) (pool_step-in_domain domain words event) ∙ packed-pool_from domain (pool_step words event) events

-- the packed words of a history don't tell the domain
pub packed-words_after : (a b : ℕ) (history : List Entry) → packed_words (words_after a history) ≡ packed_words (words_after b history)
packed-words_after a b history =
    let events = map (λ (e : Entry). e.event) history in
    packed-pool_from a (new_words 0) (map (λ (e : Entry). e.event) history) ∙ sym (packed-pool_from b (new_words 0) (map (λ (e : Entry). e.event) history))
