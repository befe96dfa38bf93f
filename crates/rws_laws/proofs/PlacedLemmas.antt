-- What has set a session on a link, in lists: the entries of the history that stand among it, and those behind it.
use Rattle.std.proofs.Common.{◌≡◌, ℕ, zero, suc, ◌+◌, ◌<◌, ◌≤◌, Bool, true, false, List, [], ◌∷◌, ◌++◌, filter, length, refl, sym, ap, subst, ◌∙◌, arith, append_assoc, Option, Some, None}
use Rattle.std.specs.Prelude.{Contains, ◌==◌, ◌||◌, nat_lt, is_some, slice_index_or, if◌then◌else◌}
use Rattle.std.proofs.lemmas.Bool.{eq-eqb, eqb-true, lt-ltb, le-ltb}
use Rattle.std.proofs.lemmas.List.{append-nil}
use Rattle.std.proofs.lemmas.List.Elements.{filter-append}
use Rattle.rws_commands.specs.declared.history.HistoryEntry.{HistoryEntry}
use Rattle.rws_commands.specs.declared.history.PreparedAs.{PreparedAs}
use Rattle.rws_commands.specs.Statements.{entry_from, has_serial}
use Rattle.rws_record.proofs.HistoryLemmas.{Rise}
use Rattle.rws_laws.specs.History.{Rises, below_serial, standing}
use Rattle.rws_laws.proofs.HistoryLemmas.{Shrinks}

-- the entries of a list that stand, in the order of the others; what has left is a prepare
pub data Among : (list set : List HistoryEntry) → Type 0 where
  none : Among [] []
  stays : {first : HistoryEntry} {list set : List HistoryEntry} → Among list set → Among (first ∷ list) (first ∷ set)
  left : {first : HistoryEntry} {list set : List HistoryEntry} → is_some first.statement ≡ true → Among list set → Among list (first ∷ set)

-- the serials are at least this
abbrev pub From : ℕ → List HistoryEntry → Type 0
From least [] = Unit {0}
From least (first ∷ others) = (least ≤ first.serial) × From least others

-- they are below it
abbrev pub Below : ℕ → List HistoryEntry → Type 0
Below bound [] = Unit {0}
Below bound (first ∷ others) = (first.serial < bound) × Below bound others

-- Serials

pub rises_end : (least count : ℕ) (set : List HistoryEntry) (entry : HistoryEntry) → least ≤ entry.serial → count ≤ entry.serial → Rises least count set
    → Rises least (entry.serial + 1) (set ++ entry ∷ [])
rises_end least count [] entry less within rises = (less, omega arith, tt)
rises_end least count (first ∷ others) entry less within rises =
    (rises.0, omega (arith, rises.1), rises_end (first.serial + 1) count others entry (omega (arith, rises.1)) within rises.2)

pub from_less : (least lower : ℕ) (list : List HistoryEntry) → lower ≤ least → From least list → From lower list
from_less least lower [] less from = tt
from_less least lower (first ∷ others) less from = (omega (arith, from.0), from_less least lower others less from.1)

from_filtered : (keeps : HistoryEntry → Bool) (least : ℕ) (list : List HistoryEntry) → From least list → From least (filter keeps list)
from_filtered keeps least [] from = tt
from_filtered keeps least (first ∷ others) from = by_test (keeps first) (from_filtered keeps least others from.1)
  where
    by_test : (test : Bool) → From least (filter keeps others) → From least (if test then first ∷ filter keeps others else filter keeps others)
    by_test true rest = (from.0, rest)
    by_test false rest = rest

pub from_end : (least : ℕ) (list : List HistoryEntry) (entry : HistoryEntry) → least ≤ entry.serial → From least list → From least (list ++ entry ∷ [])
from_end least [] entry less from = (less, tt)
from_end least (first ∷ others) entry less from = (from.0, from_end least others entry less from.1)

rise_from : (least bound lower : ℕ) (list : List HistoryEntry) → lower ≤ least → Rise least bound list → From lower list
rise_from least bound lower [] less rise = tt
rise_from least bound lower (first ∷ others) less rise =
    (omega (arith, rise.0), rise_from (first.serial + 1) bound lower others (omega (arith, rise.0)) rise.2)

-- what stands behind an entry is above it
pub behind_from : (least bound : ℕ) (lower : List HistoryEntry) (entry : HistoryEntry) (rest : List HistoryEntry)
    → Rise least bound (lower ++ entry ∷ rest) → From (entry.serial + 1) rest
behind_from least bound [] entry rest rise = rise_from (entry.serial + 1) bound (entry.serial + 1) rest (omega arith) rise.2
behind_from least bound (first ∷ lower) entry rest rise = behind_from (first.serial + 1) bound lower entry rest rise.2

pub among_below : {list set : List HistoryEntry} (least count : ℕ) → Among list set → Rises least count set → Below count list
among_below least count none rises = tt
among_below least count (stays {first = first} among) rises = (rises.1, among_below (first.serial + 1) count among rises.2)
among_below least count (left {first = first} prepared among) rises = among_below (first.serial + 1) count among rises.2

among_from : {list set : List HistoryEntry} (least count : ℕ) → Among list set → Rises least count set → From least list
among_from least count none rises = tt
among_from least count (stays {first = first} {list = list} among) rises =
    (rises.0, from_less (first.serial + 1) least list (omega (arith, rises.0)) (among_from (first.serial + 1) count among rises.2))
among_from least count (left {first = first} {list = list} prepared among) rises =
    from_less (first.serial + 1) least list (omega (arith, rises.0)) (among_from (first.serial + 1) count among rises.2)

-- no entry from a serial on has a lower one
from_has_not : (least serial : ℕ) (list : List HistoryEntry) → serial < least → From least list → has_serial serial list ≡ false
from_has_not least serial [] less from = refl
from_has_not least serial (first ∷ others) less from =
    by_test (first.serial == serial) refl (from_has_not least serial others less from.1)
  where
    by_test : (test : Bool) → (first.serial == serial) ≡ test → has_serial serial others ≡ false → (test || has_serial serial others) ≡ false
    by_test true t rest = let same = eqb-true first.serial serial t in absurd (omega (arith, from.0, same))
    by_test false t rest = rest

-- Entries that leave, and more that come

pub among_filtered : {list set : List HistoryEntry} (keeps : HistoryEntry → Bool)
    → ((entry : HistoryEntry) → keeps entry ≡ false → is_some entry.statement ≡ true) → Among list set → Among (filter keeps list) set
among_filtered keeps prepared none = none
among_filtered keeps prepared (stays {first = first} {list = list} {set = set} among) =
    by_test (keeps first) refl (among_filtered keeps prepared among)
  where
    by_test : (test : Bool) → keeps first ≡ test → Among (filter keeps list) set
        → Among (if test then first ∷ filter keeps list else filter keeps list) (first ∷ set)
    by_test true t rest = stays rest
    by_test false t rest = left (prepared first t) rest
among_filtered keeps prepared (left its among) = left its (among_filtered keeps prepared among)

pub among_end : {list set : List HistoryEntry} (entry : HistoryEntry) → Among list set → Among (list ++ entry ∷ []) (set ++ entry ∷ [])
among_end entry none = stays none
among_end entry (stays among) = stays (among_end entry among)
among_end entry (left prepared among) = left prepared (among_end entry among)

pub among_shrinks : {old new set : List HistoryEntry} → Shrinks old new → Among old set → Among new set
among_shrinks {set = set} shrinks among =
    subst (λ (list : List HistoryEntry). Among list set) (sym shrinks.is) (among_filtered shrinks.keeps shrinks.prepared among)

-- What has set a link: a front of the history stands among it, and the rest isn't below the link's cursor

pub record Placed (history set : List HistoryEntry) (count : ℕ) : Type 0 where
  pub lower : List HistoryEntry
  pub upper : List HistoryEntry
  pub is : history ≡ lower ++ upper
  pub among : Among lower set
  pub rises : Rises 0 count set
  pub above : From count upper

pub placed_shrinks : {old new set : List HistoryEntry} {count : ℕ} → Shrinks old new → Placed old set count → Placed new set count
placed_shrinks {count = count} shrinks placed = record {
  lower = filter shrinks.keeps placed.lower;
  upper = filter shrinks.keeps placed.upper;
  is = shrinks.is ∙ ap (filter shrinks.keeps) placed.is ∙ filter-append shrinks.keeps placed.lower placed.upper;
  among = among_filtered shrinks.keeps shrinks.prepared placed.among;
  rises = placed.rises;
  above = from_filtered shrinks.keeps count placed.upper placed.above;
}

-- an entry more, that was led elsewhere
pub placed_more : {history set : List HistoryEntry} {count : ℕ} (entry : HistoryEntry) → count ≤ entry.serial → Placed history set count
    → Placed (history ++ entry ∷ []) set count
placed_more {count = count} entry less placed = record {
  lower = placed.lower;
  upper = placed.upper ++ entry ∷ [];
  is = ap (λ (list : List HistoryEntry). list ++ entry ∷ []) placed.is ∙ append_assoc placed.lower placed.upper (entry ∷ []);
  among = placed.among;
  rises = placed.rises;
  above = from_end count placed.upper entry less placed.above;
}

-- or that the link led, which had all before
pub placed_led : {history set : List HistoryEntry} {count : ℕ} (entry : HistoryEntry) → count ≤ entry.serial → Among history set → Rises 0 count set
    → Placed (history ++ entry ∷ []) (set ++ entry ∷ []) (entry.serial + 1)
placed_led {history} {set} {count} entry less among rises = record {
  lower = history ++ entry ∷ [];
  upper = [];
  is = sym (append-nil (history ++ entry ∷ []));
  among = among_end entry among;
  rises = rises_end 0 count set entry (omega arith) less rises;
  above = tt;
}

-- What is next

skips : (count : ℕ) (lower upper : List HistoryEntry) → Below count lower → entry_from count (lower ++ upper) ≡ entry_from count upper
skips count [] upper below = refl
skips count (first ∷ lower) upper below = rw (lt-ltb first.serial count below.0) (skips count lower upper below.1)

next_of : (count : ℕ) (upper : List HistoryEntry) (entry : HistoryEntry) → From count upper → entry_from count upper ≡ Some entry
    → (rest : List HistoryEntry) × (upper ≡ entry ∷ rest)
next_of count [] entry from e = absurd cc
next_of count (first ∷ others) entry from e =
    let here : Some first ≡ Some entry = rw (le-ltb first.serial count from.0) at e in
    let same : first ≡ entry = cc in (others, ap (λ (x : HistoryEntry). x ∷ others) same)

none_of : (count : ℕ) (upper : List HistoryEntry) → From count upper → entry_from count upper ≡ None → upper ≡ []
none_of count [] from e = refl
none_of count (first ∷ others) from e = let here : Some first ≡ None = rw (le-ltb first.serial count from.0) at e in absurd cc

module _ {history set : List HistoryEntry} {count : ℕ} (placed : Placed history set count) where
  next_is : entry_from count history ≡ entry_from count placed.upper
  next_is = ap (entry_from count) placed.is ∙ skips count placed.lower placed.upper (among_below 0 count placed.among placed.rises)

  -- an entry that is next stands directly behind what has set the link
  pub next_placed : (entry : HistoryEntry) → entry_from count history ≡ Some entry
      → (rest : List HistoryEntry) × (history ≡ placed.lower ++ entry ∷ rest) × (placed.upper ≡ entry ∷ rest)
  next_placed entry e =
      let next = next_of count placed.upper entry placed.above (sym next_is ∙ e) in
      (next.0, placed.is ∙ ap (λ (list : List HistoryEntry). placed.lower ++ list) next.1, next.1)

  -- where none is next, all of the history has set it
  pub all_placed : entry_from count history ≡ None → Among history set
  all_placed e =
      let none = none_of count placed.upper placed.above (sym next_is ∙ e) in
      let all : history ≡ placed.lower = placed.is ∙ ap (λ (list : List HistoryEntry). placed.lower ++ list) none ∙ append-nil placed.lower in
      subst (λ (list : List HistoryEntry). Among list set) (sym all) placed.among

  -- it then has set it too
  pub played_next : (bound : ℕ) (entry : HistoryEntry) → Rise 0 bound history → entry_from count history ≡ Some entry → count ≤ entry.serial
      → Placed history (set ++ entry ∷ []) (entry.serial + 1)
  played_next bound entry rise e less =
      let next = next_placed entry e in
      let rise : Rise 0 bound (placed.lower ++ entry ∷ next.0) = subst (Rise 0 bound) next.1 rise in
      record {
        lower = placed.lower ++ entry ∷ [];
        upper = next.0;
        is = next.1 ∙ sym (append_assoc placed.lower (entry ∷ []) next.0);
        among = among_end entry placed.among;
        rises = rises_end 0 count set entry (omega arith) less placed.rises;
        above = behind_from 0 bound placed.lower entry next.0 rise;
      }

-- nothing is next where all has set the link
pub none_next : {history set : List HistoryEntry} (count : ℕ) → Among history set → Rises 0 count set → entry_from count history ≡ None
none_next {history} count among rises = by_list history (among_below 0 count among rises)
  where
    by_list : (list : List HistoryEntry) → Below count list → entry_from count list ≡ None
    by_list [] below = refl
    by_list (first ∷ others) below = rw (lt-ltb first.serial count below.0) (by_list others below.1)

-- What stands

below_all : (count : ℕ) (list : List HistoryEntry) → Below count list → below_serial count list ≡ list
below_all count [] below = refl
below_all count (first ∷ others) below =
    rw (lt-ltb first.serial count below.0) (ap (λ (list : List HistoryEntry). first ∷ list) (below_all count others below.1))

below_none : (count : ℕ) (list : List HistoryEntry) → From count list → below_serial count list ≡ []
below_none count [] from = refl
below_none count (first ∷ others) from = rw (le-ltb first.serial count from.0) (below_none count others from.1)

-- a test that an entry's serial passes exactly where it is in a list; the list stands among a set
record Tests (least count : ℕ) (list : List HistoryEntry) (test : ℕ → Bool) : Type 0 where
  has : (serial : ℕ) → has_serial serial list ≡ true → test serial ≡ true
  has_not : (serial : ℕ) → least ≤ serial → serial < count → has_serial serial list ≡ false → test serial ≡ false

first_has : (first : HistoryEntry) (others : List HistoryEntry) → has_serial first.serial (first ∷ others) ≡ true
first_has first others = let itself : (first.serial == first.serial) ≡ true = eq-eqb first.serial first.serial refl in rw itself refl

or_true : (test : Bool) → (test || true) ≡ true
or_true true = refl
or_true false = refl

others_test : {least count : ℕ} {first : HistoryEntry} {others : List HistoryEntry} {test : ℕ → Bool} → Tests least count (first ∷ others) test
    → least ≤ first.serial → Tests (first.serial + 1) count others test
others_test {least} {count} {first} {others} {test} tests less = record {
  has = λ serial e. tests.has serial (ap (λ (rest : Bool). (first.serial == serial) || rest) e ∙ or_true (first.serial == serial));
  has_not = λ serial above below e. tests.has_not serial (omega (arith, less)) below (by_test serial above e (first.serial == serial) refl);
}
  where
    by_test : (serial : ℕ) → first.serial + 1 ≤ serial → has_serial serial others ≡ false → (same : Bool) → (first.serial == serial) ≡ same
        → (same || has_serial serial others) ≡ false
    by_test serial above e true t = let same = eqb-true first.serial serial t in absurd (omega arith)
    by_test serial above e false t = e

later_test : {least count : ℕ} {list : List HistoryEntry} {test : ℕ → Bool} (more : ℕ) → Tests least count list test → least ≤ more
    → Tests more count list test
later_test more tests less = record { has = tests.has; has_not = λ serial above below e. tests.has_not serial (omega (arith, less)) below e }

-- an entry that has left isn't in what is among the set behind it
left_has_not : (first : HistoryEntry) {list set : List HistoryEntry} (count : ℕ) → Among list set → Rises (first.serial + 1) count set
    → has_serial first.serial list ≡ false
left_has_not first {list} count among rises =
    from_has_not (first.serial + 1) first.serial list (omega arith) (among_from (first.serial + 1) count among rises)

standing_is : {list set : List HistoryEntry} (least count : ℕ) (test : ℕ → Bool) → Among list set → Rises least count set → Tests least count list test
    → filter (λ entry. test entry.serial) set ≡ list
standing_is least count test none rises tests = refl
standing_is least count test (stays {first = first} {list = list} among) rises tests =
    rw (tests.has first.serial (first_has first list))
    (ap (λ (rest : List HistoryEntry). first ∷ rest) (standing_is (first.serial + 1) count test among rises.2 (others_test tests rises.0)))
standing_is least count test (left {first = first} {list = list} prepared among) rises tests =
    rw (tests.has_not first.serial rises.0 rises.1 (left_has_not first count among rises.2))
    (standing_is (first.serial + 1) count test among rises.2 (later_test (first.serial + 1) tests (omega (arith, rises.0))))

-- what has left is a prepare
left_prepares : {list set : List HistoryEntry} (least count : ℕ) (test : ℕ → Bool) → Among list set → Rises least count set → Tests least count list test
    → (entry : HistoryEntry) (k : ℕ) → k < length set → slice_index_or set k entry ≡ entry → test entry.serial ≡ false → is_some entry.statement ≡ true
left_prepares least count test none rises tests entry k within at t = absurd (omega arith)
left_prepares least count test (stays {first = first} {list = list} among) rises tests entry zero within at t =
    let yes : test first.serial ≡ true = tests.has first.serial (first_has first list) in
    let here : first ≡ entry = at in
    let clash : true ≡ false = sym yes ∙ ap (λ (x : HistoryEntry). test x.serial) here ∙ t in absurd cc
left_prepares least count test (stays {first = first} among) rises tests entry (suc k) within at t =
    left_prepares (first.serial + 1) count test among rises.2 (others_test tests rises.0) entry k (omega arith) at t
left_prepares least count test (left {first = first} prepared among) rises tests entry zero within at t =
    let here : first ≡ entry = at in ap (λ (x : HistoryEntry). is_some x.statement) (sym here) ∙ prepared
left_prepares least count test (left {first = first} prepared among) rises tests entry (suc k) within at t =
    left_prepares (first.serial + 1) count test among rises.2 (later_test (first.serial + 1) tests (omega (arith, rises.0))) entry k (omega arith) at t

has_in_front : (serial : ℕ) (lower upper : List HistoryEntry) → has_serial serial lower ≡ true → has_serial serial (lower ++ upper) ≡ true
has_in_front serial [] upper e = absurd cc
has_in_front serial (first ∷ lower) upper e = by_test (first.serial == serial) e (has_in_front serial lower upper)
  where
    by_test : (test : Bool) → (test || has_serial serial lower) ≡ true → (has_serial serial lower ≡ true → has_serial serial (lower ++ upper) ≡ true)
        → (test || has_serial serial (lower ++ upper)) ≡ true
    by_test true e rest = refl
    by_test false e rest = rest e

has_in_none : (serial : ℕ) (lower upper : List HistoryEntry) → has_serial serial lower ≡ false → has_serial serial upper ≡ false
    → has_serial serial (lower ++ upper) ≡ false
has_in_none serial [] upper e u = u
has_in_none serial (first ∷ lower) upper e u = by_test (first.serial == serial) e (λ none. has_in_none serial lower upper none u)
  where
    by_test : (test : Bool) → (test || has_serial serial lower) ≡ false → (has_serial serial lower ≡ false → has_serial serial (lower ++ upper) ≡ false)
        → (test || has_serial serial (lower ++ upper)) ≡ false
    by_test true e rest = absurd cc
    by_test false e rest = rest e

module _ {history set : List HistoryEntry} {count : ℕ} (placed : Placed history set count) where
  tests : Tests 0 count placed.lower (λ serial. has_serial serial history)
  tests = record {
    has = λ serial e. ap (has_serial serial) placed.is ∙ has_in_front serial placed.lower placed.upper e;
    has_not = λ serial above below e.
        ap (has_serial serial) placed.is
        ∙ has_in_none serial placed.lower placed.upper e (from_has_not count serial placed.upper below placed.above);
  }

  pub standing_lower : standing history set ≡ placed.lower
  standing_lower = standing_is 0 count (λ serial. has_serial serial history) placed.among placed.rises tests

  pub below_lower : below_serial count history ≡ placed.lower
  below_lower =
      ap (below_serial count) placed.is ∙ filter-append (λ entry. nat_lt entry.serial count) placed.lower placed.upper
      ∙ ap (λ (list : List HistoryEntry). list ++ below_serial count placed.upper) (below_all count placed.lower (among_below 0 count placed.among placed.rises))
      ∙ ap (λ (list : List HistoryEntry). placed.lower ++ list) (below_none count placed.upper placed.above)
      ∙ append-nil placed.lower

  pub only_prepares : (entry : HistoryEntry) → Contains set entry → has_serial entry.serial history ≡ false
      → (statement : PreparedAs) × (entry.statement ≡ Some statement)
  only_prepares entry at e =
      some_is entry.statement (left_prepares 0 count (λ serial. has_serial serial history) placed.among placed.rises tests entry at.0 at.1 at.2 e)
    where
      some_is : (found : Option PreparedAs) → is_some found ≡ true → (statement : PreparedAs) × (found ≡ Some statement)
      some_is (Some statement) e = (statement, refl)
      some_is None e = absurd cc

-- where all has set the link
pub standing_all : {history set : List HistoryEntry} (count : ℕ) → Among history set → Rises 0 count set → standing history set ≡ history
standing_all {history} count among rises =
    standing_is 0 count (λ serial. has_serial serial history) among rises (record { has = λ serial e. e; has_not = λ serial above below e. e })
