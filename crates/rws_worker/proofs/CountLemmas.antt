-- How many sessions are open: as many as the worker keeps.
use Rattle.std.proofs.Common.{◌≡◌, ◌==◌, ℕ, suc, inl, inr, ⊎_elim, Bool, true, false, List, [], ◌∷◌, ◌++◌, filter, length, refl, sym, ap, subst, ◌∙◌, Option, Some, None, is_some, arith, cond, ◌&&◌, ◌||◌, ◌⊎◌, if◌then◌else◌}
use Rattle.std.proofs.lemmas.Bool.{cases_eq, eqb-true}
use Rattle.std.proofs.lemmas.Cmp.{eq_by_cmp_equiv, nat_cmp_total}
use Rattle.std.proofs.lemmas.List.{append-nil}
use Rattle.std.proofs.lemmas.List.Folds.{list_any-append}
use Rattle.std.proofs.lemmas.Map.Keys.{IsDistinct-from_sorted}
use Rattle.std.proofs.lemmas.Map.Made.{length-le_from_is_member}
use Rattle.std.proofs.lemmas.Map.Views.{any-filter_same}
use Rattle.std.specs.BTreeMap.{BTreeMap, IsOrdered, get, is_at, keys}
use Rattle.std.specs.Cmp.{unsigned_tied}
use Rattle.std.specs.List.{AllByRecursion, IsDistinct}
use Rattle.std.specs.Ordering.{eq_by_cmp, nat_cmp}
use Rattle.std.specs.Set.{is_member}
use Rattle.std.specs.Map.{keys_of, lookup}
use Rattle.rws_config.specs.declared.config.Config.{Config}
use Rattle.rws_record.specs.Item.{Item}
use Rattle.rws_record.specs.Item.Item.{Accepted, TurnsAway, Began, ClientBytes, LinkReady, LinkBytes, ClientGone, LinkLost, Ticks, Starves}
use Rattle.rws_record.specs.Record.{IsBeginning, IsInput}
use Rattle.rws_record.specs.Run.{Entry, IsRun, begins_session, begun, hearer, is_live, open_sessions, record_of}
use Rattle.rws_record.specs.Run.Entry.{Heard, Did}
use Rattle.rws_record.specs.Run.IsRun.{starts, came, goes_on, starves}
use Rattle.rws_record.proofs.EntryLemmas.{Next, of_next_entry}
use Rattle.rws_record.proofs.EntryLemmas.Next.{did, answered, heard, observes}
use Rattle.rws_record.proofs.RecordLemmas.{Hearable, each_of, first_of, one_more}
use Rattle.rws_record.proofs.RecordLemmas.Hearable.{begins_it, comes_in}
use Rattle.rws_session.specs.Kept.{Kept}
use Rattle.rws_worker.specs.Standing.{SeatStands}

abbrev pub same_number : ℕ → ℕ → Bool
same_number = eq_by_cmp nat_cmp

abbrev pub has : List ℕ → ℕ → Bool
has numbers n = is_member same_number numbers n

-- Lists of numbers

all_behind : (P : ℕ → Type 0) (list : List ℕ) (last : ℕ) → AllByRecursion P list → P last → AllByRecursion P (list ++ last ∷ [])
all_behind P [] last all p = (p, tt)
all_behind P (x ∷ xs) last all p = (all.0, all_behind P xs last all.1 p)

pub differs : (x last : ℕ) → (x ≡ last → ⊥) → same_number x last ≡ false
differs x last apart = by_test (x == last) refl
  where
    by_test : (test : Bool) → (x == last) ≡ test → same_number x last ≡ false
    by_test true e = absurd (apart (eqb-true x last e))
    by_test false e = unsigned_tied x last ∙ e

pub same_at : (x last : ℕ) → same_number last x ≡ true → last ≡ x
same_at x last e = eqb-true last x (sym (unsigned_tied last x) ∙ e)

itself : (n : ℕ) → same_number n n ≡ true
itself n = (eq_by_cmp_equiv nat_cmp_total).refl n

either_true : (a b : Bool) → (a || b) ≡ true → (a ≡ true) ⊎ (b ≡ true)
either_true true b e = inl refl
either_true false b e = inr e

or_true : (a : Bool) → (a || true) ≡ true
or_true true = refl
or_true false = refl

none_in : (a b : Bool) → (a || b) ≡ false → (a ≡ false) × (b ≡ false)
none_in true b e = absurd cc
none_in false b e = (refl, e)

distinct_behind : (list : List ℕ) (last : ℕ) → IsDistinct same_number list → has list last ≡ false
    → IsDistinct same_number (list ++ last ∷ [])
unfolding IsDistinct
distinct_behind [] last d none = (tt, tt)
distinct_behind (x ∷ xs) last d none =
    let both = none_in (same_number last x) (has xs last) none in
    let other : same_number x last ≡ false = (eq_by_cmp_equiv nat_cmp_total).symm x last ∙ both.0 in
    (all_behind (λ y. same_number x y ≡ false) xs last d.0 other, distinct_behind xs last d.1 both.1)

all_filtered : (P : ℕ → Type 0) (p : ℕ → Bool) (list : List ℕ) → AllByRecursion P list → AllByRecursion P (filter p list)
all_filtered P p [] all = tt
all_filtered P p (x ∷ xs) all = by_test (p x) (all_filtered P p xs all.1)
  where
    by_test : (test : Bool) → AllByRecursion P (filter p xs) → AllByRecursion P (if test then x ∷ filter p xs else filter p xs)
    by_test true rest = (all.0, rest)
    by_test false rest = rest

distinct_filtered : (p : ℕ → Bool) (list : List ℕ) → IsDistinct same_number list → IsDistinct same_number (filter p list)
unfolding IsDistinct
distinct_filtered p [] d = tt
distinct_filtered p (x ∷ xs) d = by_test (p x) (all_filtered (λ y. same_number x y ≡ false) p xs d.0) (distinct_filtered p xs d.1)
  where
    by_test : (test : Bool) → AllByRecursion (λ y. same_number x y ≡ false) (filter p xs) → IsDistinct same_number (filter p xs)
        → IsDistinct same_number (if test then x ∷ filter p xs else filter p xs)
    by_test true apart rest = (apart, rest)
    by_test false apart rest = rest

keys_have : {X : Type 0} (n : ℕ) (es : List (ℕ × X)) → has (keys_of es) n ≡ is_some (lookup (is_at (nat_cmp n)) es)
keys_have n [] = refl
keys_have n (e ∷ es) = by_test (is_at (nat_cmp n) e.0) (keys_have n es)
  where
    by_test : (test : Bool) → has (keys_of es) n ≡ is_some (lookup (is_at (nat_cmp n)) es)
        → (test || has (keys_of es) n) ≡ is_some (cond test (Some e.1) (lookup (is_at (nat_cmp n)) es))
    by_test true same = refl
    by_test false same = same

-- The sessions that ever began

pub record Known (run : List Entry) : Type 0 where
  pub some : (n : ℕ) → (record_of n run ≡ [] → ⊥) → has (begun run) n ≡ true
  pub only : (n : ℕ) → has (begun run) n ≡ true → record_of n run ≡ [] → ⊥
  pub distinct : IsDistinct same_number (begun run)
  pub its : (n : ℕ) → hearer run ≡ Some n → record_of n run ≡ [] → ⊥

beginning_begins : (session : ℕ) (item : Item) → IsBeginning item → begins_session session item ≡ session ∷ []
beginning_begins session (Accepted number scramble reading) it = refl
beginning_begins session (TurnsAway told) it = refl
beginning_begins session (Began link server reading) it = refl
beginning_begins session _ it = absurd it

input_begins_none : (session : ℕ) (item : Item) (past : List Item) → IsInput item past → begins_session session item ≡ []
input_begins_none session (ClientBytes bytes) past input = refl
input_begins_none session ClientGone past input = refl
input_begins_none session (LinkReady link) past input = refl
input_begins_none session (LinkBytes link bytes) past input = refl
input_begins_none session (LinkLost link) past input = refl
input_begins_none session (Ticks reading) past input = refl
input_begins_none session _ past input = absurd input

-- one that has begun has an item more
module _ (run now : List Entry) (session : ℕ) (item : Item)
    (records : (n : ℕ) → record_of n now ≡ (if session == n then item ∷ record_of n run else record_of n run))
    (k : Known run) where
  still_there : (n : ℕ) → (record_of n run ≡ [] → ⊥) → record_of n now ≡ [] → ⊥
  still_there n there e =
      one_more (λ past. past ≡ [] → ⊥) session n item (record_of n run) (λ _ none. absurd cc) (λ _ none. there none) (sym (records n) ∙ e)

  it_is_there : record_of session now ≡ [] → ⊥
  it_is_there e =
      one_more (λ past. past ≡ [] → ⊥) session session item (record_of session run) (λ _ none. absurd cc)
      (λ differ none. differ refl) (sym (records session) ∙ e)

  was_there : (n : ℕ) → (session ≡ n → ⊥) → (record_of n now ≡ [] → ⊥) → record_of n run ≡ [] → ⊥
  was_there n apart there none =
      there (records n ∙ one_more (λ past. past ≡ []) session n item (record_of n run) (λ same. absurd (apart same)) (λ _. none))

  goes_known : begun now ≡ begun run → (record_of session run ≡ [] → ⊥) → ((n : ℕ) → hearer now ≡ Some n → record_of n now ≡ [] → ⊥)
      → Known now
  goes_known same had hearer_there = record {
    some = λ n there. ap (λ (list : List ℕ). has list n) same ∙ k.some n
        (⊎_elim (λ (here : session ≡ n). subst (λ (m : ℕ). record_of m run ≡ [] → ⊥) here had)
        (λ (apart : session ≡ n → ⊥). was_there n apart there) (cases_eq session n));
    only = λ n is. still_there n (k.only n (ap (λ (list : List ℕ). has list n) (sym same) ∙ is));
    distinct = subst (λ (list : List ℕ). IsDistinct same_number list) (sym same) k.distinct;
    its = hearer_there;
  }

  begins_known : begun now ≡ begun run ++ session ∷ [] → record_of session run ≡ [] → ((n : ℕ) → hearer now ≡ Some n → record_of n now ≡ [] → ⊥)
      → Known now
  begins_known more none hearer_there = record {
    some = λ n there. ap (λ (list : List ℕ). has list n) more ∙ list_any-append (same_number n) (begun run) (session ∷ [])
        ∙ ⊎_elim
        (λ (here : session ≡ n). rw (subst (λ (m : ℕ). same_number m session ≡ true) here (itself session)) (or_true (has (begun run) n)))
        (λ (apart : session ≡ n → ⊥). rw (k.some n (was_there n apart there)) refl)
        (cases_eq session n);
    only = λ n is. ⊎_elim
        (λ (before : has (begun run) n ≡ true). still_there n (k.only n before))
        (λ (here : has (session ∷ []) n ≡ true). subst (λ (m : ℕ). record_of m now ≡ [] → ⊥) (sym (same_at session n (last_is (same_number n session) here))) it_is_there)
        (either_true (has (begun run) n) (has (session ∷ []) n)
        (sym (list_any-append (same_number n) (begun run) (session ∷ [])) ∙ ap (λ (list : List ℕ). has list n) (sym more) ∙ is));
    distinct = subst (λ (list : List ℕ). IsDistinct same_number list) (sym more)
        (distinct_behind (begun run) session k.distinct (not_had (has (begun run) session) refl));
    its = hearer_there;
  }
    where
      not_had : (had : Bool) → has (begun run) session ≡ had → has (begun run) session ≡ false
      not_had false e = e
      not_had true e = absurd (k.only session e none)

      last_is : (test : Bool) → (test || false) ≡ true → test ≡ true
      last_is true e = refl
      last_is false e = absurd cc

heard_known : (run : List Entry) (session : ℕ) (item : Item) → Hearable run session item → Known run → Known (Heard session item ∷ run)
heard_known run session item (begins_it none it next) k =
    begins_known run (Heard session item ∷ run) session item (λ n. refl) k
    (ap (λ (list : List ℕ). begun run ++ list) (beginning_begins session item it)) none
    (λ n h. let same : session ≡ n = cc in subst (λ (m : ℕ). record_of m (Heard session item ∷ run) ≡ [] → ⊥) same
    (it_is_there run (Heard session item ∷ run) session item (λ n. refl) k))
heard_known run session item (comes_in live input) k =
    goes_known run (Heard session item ∷ run) session item (λ n. refl) k
    (ap (λ (list : List ℕ). begun run ++ list) (input_begins_none session item (record_of session run) input) ∙ append-nil (begun run))
    (λ none. let clash : false ≡ true = rw none at live in absurd cc)
    (λ n h. let same : session ≡ n = cc in subst (λ (m : ℕ). record_of m (Heard session item ∷ run) ≡ [] → ⊥) same
    (it_is_there run (Heard session item ∷ run) session item (λ n. refl) k))

did_known : (run : List Entry) (session : ℕ) (item : Item) → hearer run ≡ Some session → Known run → Known (Did session item ∷ run)
did_known run session item h k =
    goes_known run (Did session item ∷ run) session item (λ n. refl) k refl (k.its session h)
    (λ n is. still_there run (Did session item ∷ run) session item (λ n. refl) k n (k.its n is))

next_known : {config : Config} {run : List Entry} {entry : Entry} → IsRun config run → Next config run entry → Known run → Known (entry ∷ run)
next_known {run = run} legal (did {session = session} {item = item} h n) k = did_known run session item h k
next_known {run = run} legal (answered {session = session} h a) k = did_known run session _ h k
next_known {run = run} legal (heard {session = session} {item = item} quiet none u) k =
    heard_known run session item (first_of (each_of legal) (each_of legal).tells u).hearable k
next_known legal (observes quiet none u o) k = record { some = k.some; only = k.only; distinct = k.distinct; its = k.its }

pub known : {config : Config} {run : List Entry} → IsRun config run → Known run
unfolding IsDistinct
known starts = record { some = λ n there. absurd (there refl); only = λ n is. absurd cc; distinct = tt; its = λ n h. absurd cc }
known (came {run = run} legal quiet) =
    let k = known legal in record { some = k.some; only = k.only; distinct = k.distinct; its = λ n h. absurd cc }
known {config} (goes_on {run = run} {entry = entry} legal e) = next_known legal (of_next_entry config run entry e) (known legal)
known (starves {run = run} {session = session} {number = number} {made = made} legal h once can it) =
    did_known run session (Starves made number) h (known legal)

-- Those that are open

pub live_is_there : (past : List Item) → is_live past ≡ true → past ≡ [] → ⊥
live_is_there past live none = let clash : false ≡ true = rw none at live in cc

open_has : {config : Config} {run : List Entry} → IsRun config run → (n : ℕ) → has (open_sessions run) n ≡ is_live (record_of n run)
open_has {run = run} legal n =
    any-filter_same (same_number n) (λ session. is_live (record_of session run)) (is_live (record_of n run))
    (λ m same. ap (λ (it : ℕ). is_live (record_of it run)) (sym (same_at m n same))) (begun run)
    ∙ by_live (is_live (record_of n run)) refl
  where
    by_live : (live : Bool) → is_live (record_of n run) ≡ live → (live && has (begun run) n) ≡ live
    by_live false e = refl
    by_live true e = (known legal).some n (live_is_there (record_of n run) e)

seat_has : (config : Config) (n : ℕ) (asks : Bool) (o : Option Kept) (run : List Entry) → SeatStands config n asks o run → is_some o ≡ is_live (record_of n run)
seat_has config n asks (Some kept) run seat = sym seat.live
seat_has config n asks None run seat = sym seat

pub as_many : (config : Config) (sessions : BTreeMap ℕ Kept) (run : List Entry) → IsRun config run → IsOrdered nat_cmp sessions
    → ((n : ℕ) → SeatStands config n false (get nat_cmp sessions n) run) → length sessions.entries ≡ length (open_sessions run)
as_many config sessions run legal ordered seats =
    let laws = eq_by_cmp_equiv nat_cmp_total in
    let there : (n : ℕ) → has (keys sessions) n ≡ has (open_sessions run) n =
    λ n. keys_have n sessions.entries ∙ seat_has config n false (get nat_cmp sessions n) run (seats n) ∙ sym (open_has legal n) in
    let low = length-le_from_is_member laws (keys sessions) (open_sessions run) (IsDistinct-from_sorted nat_cmp (keys sessions) ordered)
    (λ n is. sym (there n) ∙ is) in
    let high = length-le_from_is_member laws (open_sessions run) (keys sessions)
    (distinct_filtered (λ session. is_live (record_of session run)) (begun run) (known legal).distinct)
    (λ n is. there n ∙ is) in
    let same : length (keys sessions) ≡ length sessions.entries = keys_count sessions.entries in
    omega arith
  where
    keys_count : {X : Type 0} (es : List (ℕ × X)) → length (keys_of es) ≡ length es
    keys_count [] = refl
    keys_count (e ∷ es) = ap (λ (n : ℕ). suc n) (keys_count es)
