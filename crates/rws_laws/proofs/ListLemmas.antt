-- A list of links: which it has, and that it has each once.
use Rattle.std.proofs.Common.{◌≡◌, ℕ, zero, suc, ◌<◌, Bool, true, false, List, [], ◌∷◌, ◌++◌, length, refl, sym, ap, ◌∙◌, arith, eqb-true}
use Rattle.std.specs.Prelude.{◌==◌, Contains, slice_index_or, if◌then◌else◌}
use Rattle.std.proofs.lemmas.Bool.{eq-eqb}
use Rattle.rws_record.specs.Item.{Item}
use Rattle.rws_record.specs.Item.Item.{Accepted, TurnsAway, Began, ClientBytes, LinkReady, LinkBytes, ClientGone, LinkLost, Ticks, Routed, Comes, Connects, Takes, Floods, Puts, Starves}
use Rattle.rws_record.specs.Item.Put.{Hands, Tells, Records, Routes, Opens, LogsInto, Sends, Forgets, Drops, Closes}
use Rattle.rws_record.specs.Values.{contains, links, without}
use Rattle.rws_record.proofs.WithoutLemmas.{without_has_not, without_keeps_out}

-- One way to say that a list has a link leads to the other

has_at : (list : List ℕ) (link k : ℕ) → k < length list → slice_index_or list k link ≡ link → contains link list ≡ true
has_at [] link k below is = absurd (omega arith)
has_at (first ∷ others) link zero below is = let yes : (first == link) ≡ true = eq-eqb first link is in rw yes refl
has_at (first ∷ others) link (suc k) below is = by_test (first == link) (has_at others link k (omega arith) is)
  where
    by_test : (test : Bool) → contains link others ≡ true → (if test then true else contains link others) ≡ true
    by_test true behind = refl
    by_test false behind = behind

pub has_it : (list : List ℕ) (link : ℕ) → Contains list link → contains link list ≡ true
has_it list link has = has_at list link has.0 has.1 has.2

-- One link fewer, or more

pub differs : (one other : ℕ) → (one == other) ≡ false → (other == one) ≡ false
differs one other e = by_test (other == one) refl
  where
    by_test : (test : Bool) → (other == one) ≡ test → (other == one) ≡ false
    by_test true t =
        let same : one ≡ other = sym (eqb-true other one t) in let yes : (one == other) ≡ true = eq-eqb one other same in absurd cc
    by_test false t = t

pub other_stays : (gone link : ℕ) (list : List ℕ) → (link == gone) ≡ false → contains link list ≡ true
    → contains link (without gone list) ≡ true
other_stays gone link [] n e = absurd cc
other_stays gone link (first ∷ others) n e =
    by_tests (first == gone) (first == link) refl refl e (other_stays gone link others n)
  where
    by_tests : (test also : Bool) → (first == gone) ≡ test → (first == link) ≡ also
        → (if also then true else contains link others) ≡ true
        → (contains link others ≡ true → contains link (without gone others) ≡ true)
        → contains link (without gone (first ∷ others)) ≡ true
    by_tests true true t a e behind =
        let same : link ≡ gone = sym (eqb-true first link a) ∙ eqb-true first gone t in
        let yes : (link == gone) ≡ true = eq-eqb link gone same in absurd cc
    by_tests true false t a e behind = rw t (behind e)
    by_tests false true t a e behind = rw t (rw a refl)
    by_tests false false t a e behind = rw t (rw a (behind e))

pub stays_other : (gone link : ℕ) (list : List ℕ) → contains link (without gone list) ≡ true → (link == gone) ≡ false
stays_other gone link list e = by_test (link == gone) refl
  where
    by_test : (test : Bool) → (link == gone) ≡ test → (link == gone) ≡ false
    by_test true t =
        let none : contains link (without gone list) ≡ false =
        ap (λ (l : ℕ). contains l (without gone list)) (eqb-true link gone t) ∙ without_has_not gone list in absurd cc
    by_test false t = t

pub has_last : (list : List ℕ) (link : ℕ) → contains link (list ++ link ∷ []) ≡ true
has_last [] link = let itself : (link == link) ≡ true = eq-eqb link link refl in rw itself refl
has_last (first ∷ others) link = by_test (first == link) (has_last others link)
  where
    by_test : (test : Bool) → contains link (others ++ link ∷ []) ≡ true → (if test then true else contains link (others ++ link ∷ [])) ≡ true
    by_test true behind = refl
    by_test false behind = behind

pub still_has : (list : List ℕ) (link last : ℕ) → contains link list ≡ true → contains link (list ++ last ∷ []) ≡ true
still_has [] link last e = absurd cc
still_has (first ∷ others) link last e = by_test (first == link) e (still_has others link last)
  where
    by_test : (test : Bool) → (if test then true else contains link others) ≡ true
        → (contains link others ≡ true → contains link (others ++ last ∷ []) ≡ true)
        → (if test then true else contains link (others ++ last ∷ [])) ≡ true
    by_test true e behind = refl
    by_test false e behind = behind e

-- a link that is opened is another one
pub no_more : (link opened : ℕ) (list : List ℕ) → contains link list ≡ false → (opened == link) ≡ false → contains link (list ++ opened ∷ []) ≡ false
no_more link opened [] none t = rw t refl
no_more link opened (first ∷ others) none t = by_test (first == link) none (no_more link opened others)
  where
    by_test : (test : Bool) → (if test then true else contains link others) ≡ false
        → (contains link others ≡ false → (opened == link) ≡ false → contains link (others ++ opened ∷ []) ≡ false)
        → (if test then true else contains link (others ++ opened ∷ [])) ≡ false
    by_test true none behind = absurd cc
    by_test false none behind = behind none t

pub had_before : (link opened : ℕ) (list : List ℕ) → (opened == link) ≡ false → contains link (without opened list ++ opened ∷ []) ≡ true
    → contains link list ≡ true
had_before link opened list n e = by_test (contains link list) refl
  where
    by_test : (test : Bool) → contains link list ≡ test → contains link list ≡ true
    by_test true t = t
    by_test false t =
        let none = no_more link opened (without opened list) (without_keeps_out opened link list t) n in absurd cc

pub has_still : (link opened : ℕ) (list : List ℕ) → contains link list ≡ true → contains link (without opened list ++ opened ∷ []) ≡ true
has_still link opened list e = by_test (link == opened) refl
  where
    by_test : (test : Bool) → (link == opened) ≡ test → contains link (without opened list ++ opened ∷ []) ≡ true
    by_test true t =
        ap (λ (l : ℕ). contains l (without opened list ++ opened ∷ [])) (eqb-true link opened t) ∙ has_last (without opened list) opened
    by_test false t = still_has (without opened list) link opened (other_stays opened link list t e)

-- Each is there once

abbrev pub Distinct : List ℕ → Type 0
Distinct [] = Unit {0}
Distinct (link ∷ others) = (contains link others ≡ false) × Distinct others

pub without_absent : (link : ℕ) (list : List ℕ) → contains link list ≡ false → without link list ≡ list
without_absent link [] none = refl
without_absent link (first ∷ others) none = by_test (first == link) refl none (without_absent link others)
  where
    by_test : (test : Bool) → (first == link) ≡ test → (if test then true else contains link others) ≡ false
        → (contains link others ≡ false → without link others ≡ others) → without link (first ∷ others) ≡ first ∷ others
    by_test true t none behind = absurd cc
    by_test false t none behind = rw t (ap (λ (l : List ℕ). first ∷ l) (behind none))

pub without_first : (link : ℕ) (others : List ℕ) → contains link others ≡ false → without link (link ∷ others) ≡ others
without_first link others none =
    let itself : (link == link) ≡ true = eq-eqb link link refl in rw itself (without_absent link others none)

pub distinct_without : (link : ℕ) (list : List ℕ) → Distinct list → Distinct (without link list)
distinct_without link [] d = tt
distinct_without link (first ∷ others) d = by_test (first == link) refl (distinct_without link others d.1)
  where
    by_test : (test : Bool) → (first == link) ≡ test → Distinct (without link others) → Distinct (without link (first ∷ others))
    by_test true t behind = rw t behind
    by_test false t behind = rw t (without_keeps_out link first others d.0, behind)

distinct_with : (list : List ℕ) (link : ℕ) → contains link list ≡ false → Distinct list → Distinct (list ++ link ∷ [])
distinct_with [] link none d = (refl, tt)
distinct_with (first ∷ others) link none d = by_test (first == link) refl none (λ none. distinct_with others link none d.1)
  where
    by_test : (test : Bool) → (first == link) ≡ test → (if test then true else contains link others) ≡ false
        → (contains link others ≡ false → Distinct (others ++ link ∷ [])) → Distinct (first ∷ (others ++ link ∷ []))
    by_test true t none behind = absurd cc
    by_test false t none behind = (no_more first link others d.0 (differs first link t), behind none)

with_opened_so : (link : ℕ) (list : List ℕ) → Distinct list → Distinct (without link list ++ link ∷ [])
with_opened_so link list d = distinct_with (without link list) link (without_has_not link list) (distinct_without link list d)

-- the links of a session are
pub distinct_links : (past : List Item) → Distinct (links past)
distinct_links [] = tt
distinct_links (LinkLost link ∷ past) = distinct_without link (links past) (distinct_links past)
distinct_links (Puts (Drops link cause) ∷ past) = distinct_without link (links past) (distinct_links past)
distinct_links (Began link server reading ∷ past) = with_opened_so link (links past) (distinct_links past)
distinct_links (Puts (Opens link server login) ∷ past) = with_opened_so link (links past) (distinct_links past)
distinct_links (Accepted session scramble reading ∷ past) = distinct_links past
distinct_links (TurnsAway told ∷ past) = distinct_links past
distinct_links (ClientBytes bytes ∷ past) = distinct_links past
distinct_links (LinkReady link ∷ past) = distinct_links past
distinct_links (LinkBytes link bytes ∷ past) = distinct_links past
distinct_links (ClientGone ∷ past) = distinct_links past
distinct_links (Ticks reading ∷ past) = distinct_links past
distinct_links (Routed words loads next found ∷ past) = distinct_links past
distinct_links (Comes link said ∷ past) = distinct_links past
distinct_links (Connects said ∷ past) = distinct_links past
distinct_links (Takes judged number ∷ past) = distinct_links past
distinct_links (Floods bytes ∷ past) = distinct_links past
distinct_links (Starves made number ∷ past) = distinct_links past
distinct_links (Puts (Hands packets) ∷ past) = distinct_links past
distinct_links (Puts (Records server gtid) ∷ past) = distinct_links past
distinct_links (Puts (Tells number tell) ∷ past) = distinct_links past
distinct_links (Puts Routes ∷ past) = distinct_links past
distinct_links (Puts (Forgets link id) ∷ past) = distinct_links past
distinct_links (Puts (LogsInto link packets) ∷ past) = distinct_links past
distinct_links (Puts (Sends link purpose) ∷ past) = distinct_links past
distinct_links (Puts (Closes reason) ∷ past) = distinct_links past
