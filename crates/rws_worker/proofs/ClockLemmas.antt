-- The clock's reading is told to the open sessions, in order of number.
use Rattle.std.proofs.Common.{◌≡◌, ◌==◌, ℕ, ◌+◌, ◌-◌, ◌^◌, ◌<◌, ◌≤◌, ⊎_elim, Bool, true, false, List, [], ◌∷◌, ◌++◌, filter, map, refl, sym, ap, subst, ◌∙◌, Option, Some, None, arith, ◌||◌, if◌then◌else◌}
use Rattle.std.specs.List.{AllByRecursion}
use Rattle.std.specs.BTreeMap.{BTreeMap, get}
use Rattle.std.specs.BTreeMap.Range.{IsFromStart}
use Rattle.std.specs.Ordering.{nat_cmp}
use Rattle.std.specs.declared.cmp.Ordering.TheVariants.{Less, Equal, Greater}
use Rattle.std.specs.declared.ops.Bound.{Bound}
use Rattle.std.specs.declared.ops.Bound.TheVariants.{Excluded, Unbounded}
use Rattle.std.proofs.lemmas.Bool.{cases_eq, cases_lt, le-ltb, lt-ltb}
use Rattle.rws_board.specs.declared.event.Event.TheVariants as events
use Rattle.rws_config.specs.declared.config.Config.{Config}
use Rattle.rws_record.specs.Item.{Item}
use Rattle.rws_record.specs.Item.Item.{Ticks}
use Rattle.rws_record.specs.Run.{Entry, IsRun, begun, events_of, is_live, open_sessions, record_of, untold}
use Rattle.rws_record.proofs.LoadLemmas.{begun_rises}
use Rattle.rws_record.proofs.OrderLemmas.{Rises}
use Rattle.rws_session.specs.Kept.{Kept}
use Rattle.rws_session.specs.declared.input.SessionInput.TheVariants as inputs
use Rattle.rws_worker.specs.declared.asker.Telling.{Telling}
use Rattle.rws_worker.specs.declared.asker.Telling.TheVariants.{Told as AllTold, All, Above}
use Rattle.rws_worker.specs.declared.worker.Worker.{Worker}
use Rattle.rws_worker.specs.InTurn.{IsBetween}
use Rattle.rws_worker.specs.Standing.{Advances, AreOpen, Gives, IsBehind, SeatStands, TellsFrom, ToTell, WorkerStands, interactions_of, told_with}
use Rattle.rws_worker.specs.Stepping.{IsBare, IsIdle, from_of, start_of}
use Rattle.rws_worker.specs.Telling.{IsFirst, IsNext, NoneIsNext, TellsFurther}
use Rattle.rws_worker.proofs.CountLemmas.{has, known, live_is_there, same_at}
use Rattle.rws_worker.proofs.EventLemmas.{between, came_between, idle_untold, nothing_told, stands_between}
use Rattle.rws_worker.proofs.StepsLemmas.{bare_has_none, bare_on}
use Rattle.rws_worker.proofs.TellLemmas.{between_same, live_open}

-- The open sessions are those of the ones that began that go on

either_so : (a b : Bool) → (a || b) ≡ true → (a ≡ true → b ≡ true) → b ≡ true
either_so true b e so = so refl
either_so false b e so = e

module _ (run : List Entry) where
  -- below the first nobody goes on that isn't here
  weaker : (from least : ℕ) (list : List ℕ) → from ≤ least → ((other : ℕ) → from ≤ other → other < least → is_live (record_of other run) ≡ false)
      → AreOpen run least list → AreOpen run from list
  weaker from least [] low none are = λ other above. ⊎_elim (λ small. none other above small) (λ big. are other big) (cases_lt other least)
  weaker from least (first ∷ others) low none are =
      let above = are.0 in
      (omega arith, are.1, λ other high small. ⊎_elim (λ below. none other high below) (λ big. are.2 other big small) (cases_lt other least), are.3)

  open_of : (from : ℕ) (list : List ℕ) → AllByRecursion (λ other. from ≤ other) list → Rises list
      → ((other : ℕ) → from ≤ other → is_live (record_of other run) ≡ true → has list other ≡ true)
      → AreOpen run from (filter (λ session. is_live (record_of session run)) list)
  open_of from [] above rises all = λ other high. by_live other high (is_live (record_of other run)) refl
    where
      by_live : (other : ℕ) → from ≤ other → (live : Bool) → is_live (record_of other run) ≡ live → is_live (record_of other run) ≡ false
      by_live other high false e = e
      by_live other high true e = let clash : false ≡ true = all other high e in absurd cc
  open_of from (first ∷ others) above rises all =
      by_test (is_live (record_of first run)) refl
      (open_of (first + 1) others (above_first others rises.0) rises.1
      (λ other high live. let low = above.0 in
      either_so _ (has others other) (all other (omega arith) live) (λ same. let it = same_at first other same in absurd (omega arith))))
    where
      above_first : (list : List ℕ) → AllByRecursion (λ other. first < other) list → AllByRecursion (λ other. first + 1 ≤ other) list
      above_first [] all = tt
      above_first (x ∷ xs) all = let here = all.0 in (omega arith, above_first xs all.1)

      -- between, nobody goes on
      gap : (other : ℕ) → from ≤ other → other < first → is_live (record_of other run) ≡ false
      gap other high low = by_live (is_live (record_of other run)) refl
        where
          not_in : (list : List ℕ) → AllByRecursion (λ x. other < x) list → has list other ≡ true → false ≡ true
          not_in [] all e = e
          not_in (x ∷ xs) all e =
              not_in xs all.1 (either_so _ (has xs other) e (λ same. let it = same_at x other same in let big = all.0 in absurd (omega arith)))

          higher : (list : List ℕ) → AllByRecursion (λ x. first < x) list → AllByRecursion (λ x. other < x) list
          higher [] all = tt
          higher (x ∷ xs) all = let big = all.0 in (omega arith, higher xs all.1)

          by_live : (live : Bool) → is_live (record_of other run) ≡ live → is_live (record_of other run) ≡ false
          by_live false e = e
          by_live true e = let clash = not_in (first ∷ others) (low, higher others rises.0) (all other high e) in absurd cc

      by_test : (live : Bool) → is_live (record_of first run) ≡ live → AreOpen run (first + 1) (filter (λ session. is_live (record_of session run)) others)
          → AreOpen run from (if live then first ∷ filter (λ session. is_live (record_of session run)) others else filter (λ session. is_live (record_of session run)) others)
      by_test true e are = (above.0, e, λ other high low. gap other high low, are)
      by_test false e are =
          weaker from (first + 1) (filter (λ session. is_live (record_of session run)) others) (let low = above.0 in omega arith)
          (λ other high low. ⊎_elim
          (λ (same : other ≡ first). subst (λ (n : ℕ). is_live (record_of n run) ≡ false) (sym same) e)
          (λ (apart : other ≡ first → ⊥). gap other high (⊎_elim (λ small. small) (λ big. absurd (apart (omega arith))) (cases_lt other first)))
          (cases_eq other first)) are

all_from_0 : (list : List ℕ) → AllByRecursion (λ other. 0 ≤ other) list
all_from_0 [] = tt
all_from_0 (x ∷ xs) = (omega arith, all_from_0 xs)

pub all_open : {config : Config} {run : List Entry} → IsRun config run → AreOpen run 0 (open_sessions run)
all_open {config} {run} legal =
    open_of run 0 (begun run) (all_from_0 (begun run)) (begun_rises legal)
    (λ other high live. (known legal).some other (live_is_there (record_of other run) live))

-- The clock is read

pub clock_read : (config : Config) (old : Worker) (run : List Entry) (reading : ℕ) → WorkerStands config old run → IsIdle old
    → Gives config run (events.Clock reading) (record old { now_ms = reading; telling = All })
clock_read config old run reading w idle =
    let b = between w idle.bare in
    let c = came_between b (idle_untold w idle.all_told) (events.Clock reading) refl old.greatest reading (let g = w.begun in omega arith) refl in
    let new : Worker = record old { now_ms = reading; telling = All } in
    nothing_told {worker = new} (record {
      legal = c.legal;
      steps_none = c.steps_none;
      answers_none = c.answers_none;
      observed = c.observed;
      seats = c.seats;
      fetched = c.fetched;
      owned = c.owned;
      owns = c.owns;
      links = c.links;
      numbers = c.numbers;
      begun = c.begun;
      clock = c.clock;
      tallied = c.tallied;
      unspent = c.unspent;
    }) idle.bare.unasked (bare_has_none new (bare_on old new refl refl refl refl refl idle.bare))
    (record { sessions = open_sessions run; are_open = all_open c.legal; are = refl })

-- It is told on

none_at : {config : Config} {worker : Worker} {run : List Entry} → IsBetween config worker run → (session : ℕ)
    → get nat_cmp worker.sessions session ≡ None → is_live (record_of session run) ≡ false
none_at {config} {worker} {run} b session none = subst (λ (o : Option Kept). SeatStands config session false o run) none (b.seats session)

some_at : {config : Config} {worker : Worker} {run : List Entry} → IsBetween config worker run → (session : ℕ) (kept : Kept)
    → get nat_cmp worker.sessions session ≡ Some kept → is_live (record_of session run) ≡ true
some_at {config} {worker} {run} b session kept some =
    let seat = subst (λ (o : Option Kept). SeatStands config session false o run) some (b.seats session) in seat.live

nat_less : (a b : ℕ) → a < b → nat_cmp a b ≡ Less
nat_less a b less = rw (lt-ltb a b less) refl

less_nat : (a b : ℕ) → nat_cmp a b ≡ Less → a < b
less_nat a b e = ⊎_elim (λ small. small) (λ big. absurd (not_less big e)) (cases_lt a b)
  where
    by_eq : (test : Bool) → (if test then Equal else Greater) ≡ Less → ⊥
    by_eq true e = cc
    by_eq false e = cc

    not_less : b ≤ a → nat_cmp a b ≡ Less → ⊥
    not_less big e = by_eq (a == b) (rw (le-ltb a b big) at e)

-- from a bound on is from its number on
from_bound : (telling : Telling) (start : Bound ℕ) (number : ℕ) → start_of telling ≡ Some start → from_of telling ≡ Some number → (other : ℕ)
    → number ≤ other → IsFromStart nat_cmp start other
from_bound AllTold start number s n other above = absurd cc
from_bound All start number s n other above = let same : Unbounded ≡ start = cc in subst (λ (b : Bound ℕ). IsFromStart nat_cmp b other) same tt
from_bound (Above session) start number s n other above =
    let same : Excluded session ≡ start = cc in
    let least : session + 1 ≡ number = cc in
    subst (λ (b : Bound ℕ). IsFromStart nat_cmp b other) same (nat_less session other (omega arith))

bound_from : (telling : Telling) (start : Bound ℕ) (number : ℕ) → start_of telling ≡ Some start → from_of telling ≡ Some number → (other : ℕ)
    → IsFromStart nat_cmp start other → number ≤ other
bound_from AllTold start number s n other from = absurd cc
bound_from All start number s n other from = let least : 0 ≡ number = cc in omega arith
bound_from (Above session) start number s n other from =
    let same : Excluded session ≡ start = cc in
    let least : session + 1 ≡ number = cc in
    let less = less_nat session other (subst (λ (b : Bound ℕ). IsFromStart nat_cmp b other) (sym same) from) in omega arith

-- the first session that is told
pub record TellsFirst (reading : ℕ) (run : List Entry) (told : List (ℕ × Item)) (session : ℕ) : Type 0 where
  pub live : is_live (record_of session run) ≡ true
  pub more : List (ℕ × Item)
  pub are : told ≡ (session, Ticks reading) ∷ more
  pub later : TellsFrom (session + 1) reading run more

module _ {config : Config} {worker : Worker} {run : List Entry} (b : IsBetween config worker run) (telling : Telling) (reading : ℕ)
    (told : List (ℕ × Item)) where
  module _ (start : Bound ℕ) (number : ℕ) (s : start_of telling ≡ Some start) (n : from_of telling ≡ Some number) where
    none_told : NoneIsNext (Some start) worker.sessions → (list : List ℕ) → AreOpen run number list
        → told ≡ map (λ session. (session, Ticks reading)) list → told ≡ []
    none_told none [] are is = is
    none_told none (first ∷ others) are is =
        let gone = none_at b first (none first (from_bound telling start number s n first are.0)) in
        let live = are.1 in absurd cc

    one_told : (session : ℕ) → IsFirst start session worker.sessions → (list : List ℕ) → AreOpen run number list
        → told ≡ map (λ session. (session, Ticks reading)) list → TellsFirst reading run told session
    one_told session it [] are is =
        let live = some_at b session it.kept it.here in
        let gone = are session (bound_from telling start number s n session it.from) in absurd cc
    one_told session it (first ∷ others) are is =
        let live = some_at b session it.kept it.here in
        let same : first ≡ session = ⊎_elim
        (λ (small : first < session).
        let gone = none_at b first (it.between first (from_bound telling start number s n first are.0) small) in
        let clash : false ≡ true = sym gone ∙ are.1 in absurd cc)
        (λ big. ⊎_elim
        (λ (less : session < first).
        let gone = are.2 session (bound_from telling start number s n session it.from) less in
        let clash : false ≡ true = sym gone ∙ live in absurd cc)
        (λ least. omega arith) (cases_lt session first))
        (cases_lt first session) in
        record {
          live = live;
          more = map (λ session. (session, Ticks reading)) others;
          are = is ∙ ap (λ (k : ℕ). (k, Ticks reading) ∷ map (λ session. (session, Ticks reading)) others) same;
          later = record {
            sessions = others;
            are_open = subst (λ (k : ℕ). AreOpen run (k + 1) others) same are.3;
            are = refl;
          };
        }

  pub none_next : ToTell (from_of telling) reading run told → NoneIsNext (start_of telling) worker.sessions → told ≡ []
  none_next = by_telling telling refl
    where
      by_telling : (t : Telling) → telling ≡ t → ToTell (from_of t) reading run told → NoneIsNext (start_of t) worker.sessions → told ≡ []
      by_telling AllTold is tells none = tells
      by_telling All is tells none =
          none_told Unbounded 0 (ap start_of is) (ap from_of is) none tells.sessions tells.are_open tells.are
      by_telling (Above session) is tells none =
          none_told (Excluded session) (session + 1) (ap start_of is) (ap from_of is) none tells.sessions tells.are_open tells.are

  pub one_next : (session : ℕ) → ToTell (from_of telling) reading run told → IsNext (start_of telling) session worker.sessions
      → TellsFirst reading run told session
  one_next session = by_telling telling refl
    where
      by_telling : (t : Telling) → telling ≡ t → ToTell (from_of t) reading run told → IsNext (start_of t) session worker.sessions
          → TellsFirst reading run told session
      by_telling AllTold is tells it = absurd it
      by_telling All is tells it =
          one_told Unbounded 0 (ap start_of is) (ap from_of is) session it tells.sessions tells.are_open tells.are
      by_telling (Above last) is tells it =
          one_told (Excluded last) (last + 1) (ap start_of is) (ap from_of is) session it tells.sessions tells.are_open tells.are

pub further : (telling : Telling) (session : ℕ) (sessions : BTreeMap ℕ Kept) → IsNext (start_of telling) session sessions
    → TellsFurther telling (Above session)
further AllTold session sessions it = absurd it
further All session sessions it = it.fits
further (Above last) session sessions it = (less_nat last session it.from, it.fits)

-- the reading is told to a session that goes on
pub ticks : (config : Config) (run : List Entry) (session reading : ℕ) → is_live (record_of session run) ≡ true
    → told_with session (inputs.Clock reading) (record_of session run) ≡ (session, Ticks reading) ∷ []
ticks config run session reading live = rw (live, live_open (record_of session run) live) refl

-- at most so many sessions are still told
abbrev pub left_to_tell : Telling → ℕ
left_to_tell AllTold = 0
left_to_tell All = 2 ^ 32 + 1
left_to_tell (Above session) = 2 ^ 32 - session

-- a worker tells the next one
pub tells_next : {config : Config} {old new : Worker} {run : List Entry} → WorkerStands config old run → IsBare old → (session : ℕ)
    → IsNext (start_of old.telling) session old.sessions
    → ((now : List Entry) → IsBetween config (record old { telling = Above session }) now → IsBare (record old { telling = Above session })
    → IsBehind (Some (session + 1)) session → (more : List (ℕ × Item)) → ToTell (Some (session + 1)) old.now_ms now more
    → untold config now ≡ told_with session (inputs.Clock old.now_ms) (record_of session now) ++ more
    → Advances config (interactions_of now) (events_of now) new)
    → Advances config (interactions_of run) (events_of run) new
tells_next {config} {old} {new} {run} w bare session it tells =
    let b = between w bare in
    let t = one_next b old.telling old.now_ms (untold config run) session w.told it in
    let mid : Worker = record old { telling = Above session } in
    tells run (between_same {new = mid} b (λ n. refl) refl refl refl refl refl refl) (bare_on old mid refl refl refl refl refl bare) (omega arith) t.more t.later
    (t.are ∙ ap (λ (list : List (ℕ × Item)). list ++ t.more) (sym (ticks config run session old.now_ms t.live)))

-- or all were told
pub all_were_told : {config : Config} {old : Worker} {run : List Entry} → WorkerStands config old run → IsBare old
    → NoneIsNext (start_of old.telling) old.sessions → WorkerStands config (record old { telling = AllTold }) run
all_were_told {config} {old} {run} w bare none =
    let b = between w bare in
    let new : Worker = record old { telling = AllTold } in
    stands_between {worker = new} (between_same {new = new} b (λ n. refl) refl refl refl refl refl refl) bare.unasked
    (none_next b old.telling old.now_ms (untold config run) w.told none)
