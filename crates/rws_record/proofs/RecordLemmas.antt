-- In a legal run the record of each session is legal. A session rests unless it is the one that heard of the last event last: at a
-- clock's event the sessions hear one after the other, in order of number, and each goes on until it rests.
use Rattle.std.proofs.Common.{◌≡◌, ℕ, suc, ◌+◌, ◌<◌, max, Bool, true, false, List, [], ◌∷◌, ◌++◌, filter, map, refl, sym, ap, subst, ◌∙◌, arith, inl, inr, Option, Some, None}
use Rattle.std.specs.Prelude.{◌⊎◌, Contains, nat_lt, ◌==◌, ◌&&◌, not, length, if◌then◌else◌}
use Rattle.std.specs.Option.{option_map}
use Rattle.std.proofs.lemmas.Bool.{ltb-true, eqb-true, eqb-false, eq-eqb}
use Rattle.std.proofs.lemmas.List.{append-nil}
use Rattle.std.specs.List.{AllByRecursion}
use Rattle.rws_wire.specs.Payloads.{payload_behind, first_payload}
use Rattle.rws_board.specs.declared.event.Event.{Event}
use Rattle.rws_board.specs.declared.event.Event.TheVariants as events
use Rattle.rws_config.specs.declared.config.Config.{Config}
use Rattle.rws_record.specs.Item.{Item}
use Rattle.rws_record.specs.Item.Item.{Accepted, TurnsAway, Began, ClientBytes, LinkReady, LinkBytes, ClientGone, LinkLost, Ticks, Starves}
use Rattle.rws_link.specs.Stepping.{LinkState, is_new}
use Rattle.rws_record.specs.Values.{asking, links, linked, is_over, is_starved, contains, opens}
use Rattle.rws_record.specs.Rules.{next}
use Rattle.rws_record.specs.Record.{IsBeginning, IsRecord, IsInput, CanBeMade, want_number}
use Rattle.rws_record.specs.Record.IsRecord.{begins, steps, answers, hears, starves}
use Rattle.rws_record.specs.Run.{Entry, IsRun, next_entry, record_of, is_live, begins_session, begun, begun_by, greatest, last_clock, last_link, owner, if_so, told_by, told_on, untold, hearer, step_of, answer_for, answer_of, answering, has_room, beginning}
use Rattle.rws_record.specs.Run.Entry.{Came, Heard, Did, Observes}
use Rattle.rws_record.specs.Run.IsRun.{starts, came, goes_on, starves as run_starves}
use Rattle.rws_record.specs.Laws.{Records}
use Rattle.rws_record.proofs.OrderLemmas.{AreBelow, Rises, below_behind, below_more, rises_behind}
use Rattle.rws_record.proofs.EntryLemmas.{Next, of_next_entry, rests}
use Rattle.rws_record.proofs.EntryLemmas.Next.{did, answered, heard, observes}

-- the same fact on a record and on one with an item more
module _ (P : List Item → Type 0) (session other : ℕ) (item : Item) (past : List Item)
    (more : session ≡ other → P (item ∷ past)) (same : (session ≡ other → ⊥) → P past) where
  by_test : (test : Bool) → (session == other) ≡ test → P (if test then item ∷ past else past)
  by_test true e = more (eqb-true session other e)
  by_test false e = same (eqb-false session other e)

  pub one_more : P (if session == other then item ∷ past else past)
  one_more = by_test (session == other) refl

nothing_at_first : (config : Config) → next config [] ≡ None
unfolding first_payload payload_behind
nothing_at_first config = refl

-- what a session that rests may hear: the first item of one that hasn't begun, or what comes from outside
pub data Hearable (run : List Entry) (session : ℕ) : Item → Type 0 where
  begins_it : {item : Item} → record_of session run ≡ [] → IsBeginning item
      → ((link server : ℕ) → opens item ≡ Some (link, server) → link ≡ last_link run + 1) → Hearable run session item
  comes_in : {item : Item} → is_live (record_of session run) ≡ true → IsInput item (record_of session run)
      → Hearable run session item

-- a session of this number is told something before these are
abbrev pub IsBefore : ℕ → List (ℕ × Item) → Type 0
IsBefore session others = AllByRecursion (λ (told : ℕ × Item). session < told.0) others

-- What is still to be told to sessions that are open, in order of number: none of them is the one that heard last, so what goes on
-- between leaves their records as they are.
pub data Waits (run : List Entry) : List (ℕ × Item) → Type 0 where
  nobody : Waits run []
  another : {session : ℕ} {item : Item} {others : List (ℕ × Item)} → is_live (record_of session run) ≡ true
      → IsInput item (record_of session run) → (hearer run ≡ Some session → ⊥) → IsBefore session others → Waits run others
      → Waits run ((session, item) ∷ others)

-- What is still to be told: how one session begins, of a number above those of all that began, and nobody heard of the event yet;
-- or what sessions hear that are open.
pub data Tells (run : List Entry) : List (ℕ × Item) → Type 0 where
  begins_one : {session : ℕ} {item : Item} → hearer run ≡ None → (greatest run < session → ⊥) → AreBelow (begun run) session
      → record_of session run ≡ [] → IsBeginning item
      → ((link server : ℕ) → opens item ≡ Some (link, server) → link ≡ last_link run + 1) → Tells run ((session, item) ∷ [])
  waits : {told : List (ℕ × Item)} → Waits run told → Tells run told

-- a record that rests, and waits for no answer
abbrev pub IsStill : Config → List Item → Type 0
IsStill config past = (next config past ≡ None) × (asking past ≡ false)

pub record Each (config : Config) (run : List Entry) : Type 0 where
  -- a session rests, unless it is the one that heard of the last event last
  pub rests : (session : ℕ) → (hearer run ≡ Some session → ⊥) → IsStill config (record_of session run)
  -- a session of a greater number hasn't begun
  pub unborn : (session : ℕ) → greatest run < session → record_of session run ≡ []
  pub legal : (session : ℕ) → (record_of session run ≡ []) ⊎ IsRecord config (record_of session run)
  -- also where some sessions have heard, and others are still to hear
  pub tells : Tells run (untold config run)
  -- the numbers of the sessions that began rise, up to the greatest
  pub numbers : Rises (begun run)
  pub within : AreBelow (begun run) (greatest run + 1)

-- A run that rests

none_from_map : (session : ℕ) (step : Option Item) → option_map {U = Entry} (λ item. Did session item) step ≡ None → step ≡ None
none_from_map session None e = refl
none_from_map session (Some item) e = absurd cc

none_from_answer : (config : Config) (session : ℕ) (run : List Entry) (asks : Bool) → answering config asks session run ≡ None
    → asks ≡ false
none_from_answer config session run false e = refl
none_from_answer config session run true e = absurd cc

pub rests_each : {config : Config} (run : List Entry) → Each config run → step_of config (hearer run) run ≡ None
    → answer_of config (hearer run) run ≡ None → (session : ℕ) → IsStill config (record_of session run)
rests_each {config} run each quiet unasked session = by_hearer (hearer run) refl quiet unasked
  where
    by_number : (number : ℕ) (test : Bool) → (number == session) ≡ test → hearer run ≡ Some number
        → step_of config (Some number) run ≡ None → answer_of config (Some number) run ≡ None → IsStill config (record_of session run)
    by_number number true t h e a =
        subst (λ (n : ℕ). IsStill config (record_of n run)) (eqb-true number session t) (
          none_from_map number (next config (record_of number run)) e,
          none_from_answer config number run (asking (record_of number run)) a,
        )
    by_number number false t h e a =
        each.rests session (λ is. let both : Some number ≡ Some session = sym h ∙ is in let same : number ≡ session = cc in eqb-false number session t same)

    by_hearer : (its : Option ℕ) → hearer run ≡ its → step_of config its run ≡ None → answer_of config its run ≡ None
        → IsStill config (record_of session run)
    by_hearer None h e a = each.rests session (λ is. absurd cc)
    by_hearer (Some number) h e a = by_number number (number == session) refl h e a

-- What an event tells

both_hold : (a b : Bool) → (a && b) ≡ true → (a ≡ true) × (b ≡ true)
both_hold true b e = (refl, e)
both_hold false b e = absurd cc

here_or_there : (link first : ℕ) (others : List ℕ) (test : Bool) → (first == link) ≡ test
    → (contains link others ≡ true → Contains others link)
    → (if test then true else contains link others) ≡ true → Contains (first ∷ others) link
here_or_there link first others true t in_others e = (0, omega arith, eqb-true first link t)
here_or_there link first others false t in_others e = let there = in_others e in (suc there.0, omega arith, there.2)

-- a link of a list is an element of it
pub contained : (link : ℕ) (list : List ℕ) → contains link list ≡ true → Contains list link
contained link [] e = absurd cc
contained link (first ∷ others) e = here_or_there link first others (first == link) refl (contained link others) e

module _ {config : Config} (run : List Entry) (each : Each config run) (event : Event) where
  live_tells : (session : ℕ) (item : Item) (test : Bool) → (test ≡ true → is_live (record_of session run) ≡ true)
      → (test ≡ true → IsInput item (record_of session run)) → Tells (Came event ∷ run) (if_so test (session, item))
  live_tells session item false live input = waits nobody
  live_tells session item true live input = waits (another (live refl) (input refl) (λ h. absurd cc) tt nobody)

  link_tells : (link : ℕ) (item : Item) (is_so : LinkState → Bool) (of : Option ℕ)
      → ((past : List Item) → Contains (links past) link → is_so (linked link past) ≡ true → IsInput item past)
      → Tells (Came event ∷ run) (told_on link item is_so of run)
  link_tells link item is_so None input = waits nobody
  link_tells link item is_so (Some session) input =
      let past : List Item = record_of session run in
      live_tells session item (is_live past && (contains link (links past) && is_so (linked link past)))
      (λ t. (both_hold (is_live past) (contains link (links past) && is_so (linked link past)) t).0)
      (λ t.
      let fits = both_hold (contains link (links past)) (is_so (linked link past))
      (both_hold (is_live past) (contains link (links past) && is_so (linked link past)) t).1 in
      input past (contained link (links past) fits.0) fits.1)

  begin_tells : (session : ℕ) (item : Item) (told test : Bool) (room : Bool) → (test ≡ true → greatest run < session)
      → begun_by event ≡ session → IsBeginning item → ((link server : ℕ) → opens item ≡ Some (link, server) → link ≡ last_link run + 1)
      → Tells (Came event ∷ run) (if_so test (session, beginning room item told))
  begin_tells session item told false room above number its next = waits nobody
  begin_tells session item told true true above number its next =
      begins_one refl (λ more. let least : begun_by event ≡ session = number in omega arith)
      (below_more (begun run) (greatest run + 1) session each.within (let less = above refl in omega arith)) (each.unborn session (above refl)) its next
  begin_tells session item told true false above number its next =
      begins_one refl (λ more. let least : begun_by event ≡ session = number in omega arith)
      (below_more (begun run) (greatest run + 1) session each.within (let less = above refl in omega arith)) (each.unborn session (above refl)) tt
      (λ link server e. absurd cc)

-- a session that comes before these numbers is told of the clock before the open ones of them are
before_ticks : (now_ms session : ℕ) (is_open : ℕ → Bool) (list : List ℕ) → AllByRecursion (λ other. session < other) list
    → IsBefore session (map (λ other. (other, Ticks now_ms)) (filter is_open list))
before_ticks now_ms session is_open [] all = tt
before_ticks now_ms session is_open (first ∷ others) all = by_test (is_open first) (before_ticks now_ms session is_open others all.1)
  where
    by_test : (test : Bool) → IsBefore session (map (λ other. (other, Ticks now_ms)) (filter is_open others))
        → IsBefore session (map (λ other. (other, Ticks now_ms)) (if test then first ∷ filter is_open others else filter is_open others))
    by_test true behind = (all.0, behind)
    by_test false behind = behind

tick_waits : (run : List Entry) (now_ms : ℕ) (list : List ℕ) → Rises list
    → Waits (Came (events.Clock now_ms) ∷ run)
    (map (λ session. (session, Ticks now_ms)) (filter (λ session. is_live (record_of session run)) list))
tick_waits run now_ms [] rising = nobody
tick_waits run now_ms (first ∷ others) rising =
    by_test (is_live (record_of first run)) refl
    (before_ticks now_ms first (λ session. is_live (record_of session run)) others rising.0) (tick_waits run now_ms others rising.1)
  where
    its : List ℕ
    its = filter (λ session. is_live (record_of session run)) others

    by_test : (test : Bool) → is_live (record_of first run) ≡ test → IsBefore first (map (λ session. (session, Ticks now_ms)) its)
        → Waits (Came (events.Clock now_ms) ∷ run) (map (λ session. (session, Ticks now_ms)) its)
        → Waits (Came (events.Clock now_ms) ∷ run) (map (λ session. (session, Ticks now_ms)) (if test then first ∷ its else its))
    by_test true live before behind = another live tt (λ h. absurd cc) before behind
    by_test false live before behind = behind

event_tells : {config : Config} (run : List Entry) (each : Each config run) (event : Event)
    → Tells (Came event ∷ run) (told_by config event run)
event_tells {config} run each (events.Accept session scramble) =
    begin_tells run each (events.Accept session scramble) session (Accepted session scramble (last_clock run)) true (nat_lt (greatest run) session)
    (has_room config run) (λ t. ltb-true (greatest run) session t) refl tt (λ link server e. absurd cc)
event_tells {config} run each (events.Begin session server) =
    begin_tells run each (events.Begin session server) session (Began (last_link run + 1) server (last_clock run)) false
    (nat_lt (greatest run) session && nat_lt server (length config.servers)) (has_room config run)
    (λ t. ltb-true (greatest run) session (both_hold (nat_lt (greatest run) session) (nat_lt server (length config.servers)) t).0) refl tt
    (λ link its e. let pair : ◌≡◌ {A = ℕ × ℕ} (last_link run + 1, server) (link, its) = cc in sym (ap (λ (p : ℕ × ℕ). p.0) pair))
event_tells run each (events.ClientBytes session bytes) =
    live_tells run each (events.ClientBytes session bytes) session (ClientBytes bytes) (is_live (record_of session run)) (λ t. t) (λ t. tt)
event_tells run each (events.ClientGone session) =
    live_tells run each (events.ClientGone session) session ClientGone (is_live (record_of session run)) (λ t. t) (λ t. tt)
event_tells run each (events.LinkReady link) =
    link_tells run each (events.LinkReady link) link (LinkReady link) (λ state. is_new state) (owner link run) (λ past has is. (has, is))
event_tells run each (events.LinkBytes link bytes) =
    link_tells run each (events.LinkBytes link bytes) link (LinkBytes link bytes) (λ state. true) (owner link run) (λ past has is. has)
event_tells run each (events.LinkGone link) =
    link_tells run each (events.LinkGone link) link (LinkLost link) (λ state. true) (owner link run) (λ past has is. has)
event_tells run each (events.Clock now_ms) = waits (tick_waits run now_ms (begun run) each.numbers)
event_tells run each (events.Observed round) = waits nobody
event_tells run each events.End = waits nobody

-- An event

came_each : {config : Config} {run : List Entry} {event : Event} → Each config run → next_entry config run ≡ None
    → Each config (Came event ∷ run)
came_each {config} {run} {event} each quiet = record {
  rests = λ session _. rests_each run each (rests config run quiet).steps (rests config run quiet).answers session;
  unborn = λ session above. each.unborn session (omega arith);
  legal = each.legal;
  tells = event_tells run each event;
  numbers = each.numbers;
  within = below_more (begun run) (greatest run + 1) (max (begun_by event) (greatest run) + 1) each.within (omega arith);
}

-- What a session hears

live_not_over : (past : List Item) → is_live past ≡ true → is_over past ≡ false
live_not_over [] live = absurd cc
live_not_over (item ∷ past) live = by_test (is_over (item ∷ past)) live
  where
    by_test : (test : Bool) → not test ≡ true → test ≡ false
    by_test true e = absurd cc
    by_test false e = refl

live_legal : {config : Config} (past : List Item) → is_live past ≡ true → (past ≡ []) ⊎ IsRecord config past → IsRecord config past
live_legal [] live legal = absurd cc
live_legal (item ∷ past) live (inl none) = absurd cc
live_legal (item ∷ past) live (inr legal) = legal

heard_legal : {config : Config} {run : List Entry} {session : ℕ} {item : Item} → Each config run
    → IsStill config (record_of session run) → Hearable run session item → IsRecord config (item ∷ record_of session run)
heard_legal each quiet (begins_it none its next) = rw none (begins its)
heard_legal {config} {run} {session} each quiet (comes_in live input) =
    let past : List Item = record_of session run in
    hears (live_legal past live (each.legal session)) quiet.0 quiet.1 (live_not_over past live) input

-- what is told first of what is still to be told, and what others wait for
pub record First (run : List Entry) (session : ℕ) (item : Item) (others : List (ℕ × Item)) : Type 0 where
  pub began : greatest run < session → ⊥
  pub hearable : Hearable run session item
  pub before : IsBefore session others
  pub later : Waits run others
  -- a session that begins has a number above the others'
  pub numbers : Rises (begun run ++ begins_session session item)
  pub within : AreBelow (begun run ++ begins_session session item) (greatest run + 1)

beginning_begins : (session : ℕ) (item : Item) → IsBeginning item → begins_session session item ≡ session ∷ []
beginning_begins session (Accepted number scramble reading) its = refl
beginning_begins session (TurnsAway told) its = refl
beginning_begins session (Began link server reading) its = refl
beginning_begins session _ its = absurd its

input_begins_none : (session : ℕ) (item : Item) (past : List Item) → IsInput item past → begins_session session item ≡ []
input_begins_none session (ClientBytes bytes) past input = refl
input_begins_none session ClientGone past input = refl
input_begins_none session (LinkReady link) past input = refl
input_begins_none session (LinkBytes link bytes) past input = refl
input_begins_none session (LinkLost link) past input = refl
input_begins_none session (Ticks reading) past input = refl
input_begins_none session _ past input = absurd input

-- the sessions that began, where one hears something
pub begins_no_more : (run : List Entry) (session : ℕ) (item : Item) → IsInput item (record_of session run)
    → begun run ++ begins_session session item ≡ begun run
begins_no_more run session item input =
    ap (λ (list : List ℕ). begun run ++ list) (input_begins_none session item (record_of session run) input) ∙ append-nil (begun run)

pub begins_one_more : (run : List Entry) (session : ℕ) (item : Item) → IsBeginning item
    → begun run ++ begins_session session item ≡ begun run ++ session ∷ []
begins_one_more run session item its = ap (λ (list : List ℕ). begun run ++ list) (beginning_begins session item its)

module _ {config : Config} {run : List Entry} (each : Each config run) where
  -- a session that goes on has a number that began
  live_began : (session : ℕ) → is_live (record_of session run) ≡ true → greatest run < session → ⊥
  live_began session live above =
      let none = each.unborn session above in
      let live : is_live [] ≡ true = rw none at live in
      absurd cc

  pub first_of : {list : List (ℕ × Item)} {session : ℕ} {item : Item} {others : List (ℕ × Item)} → Tells run list
      → list ≡ (session, item) ∷ others → First run session item others
  first_of {list = list} {session} {item} {others} (begins_one {session = its} {item = told} h began below none is next) e =
      let pair : ◌≡◌ {A = ℕ × Item} (its, told) (session, item) = cc in
      let rest : others ≡ [] = cc in
      subst (λ (o : List (ℕ × Item)). First run session item o) (sym rest)
      (subst (λ (p : ℕ × Item). First run p.0 p.1 []) pair (record {
        began = began;
        hearable = begins_it none is next;
        before = tt;
        later = nobody;
        numbers = subst Rises (sym (begins_one_more run its told is)) (rises_behind (begun run) its each.numbers below);
        within = subst (λ (l : List ℕ). AreBelow l (greatest run + 1)) (sym (begins_one_more run its told is))
            (below_behind (begun run) its (greatest run + 1) each.within (omega arith));
      }))
  first_of (waits nobody) e = absurd cc
  first_of {session = session} {item} {others} (waits (another {session = its} {item = told} {others = rest} live input not_heard before later)) e =
      let pair : ◌≡◌ {A = ℕ × Item} (its, told) (session, item) = cc in
      let same : rest ≡ others = cc in
      subst (λ (o : List (ℕ × Item)). First run session item o) same
      (subst (λ (p : ℕ × Item). First run p.0 p.1 rest) pair (record {
        began = live_began its live;
        hearable = comes_in live input;
        before = before;
        later = later;
        numbers = subst Rises (sym (begins_no_more run its told input)) each.numbers;
        within = subst (λ (l : List ℕ). AreBelow l (greatest run + 1)) (sym (begins_no_more run its told input)) each.within;
      }))

-- What goes on in one session leaves alone those that wait: none of them is that session.
still_waits : {run now : List Entry} (list : List (ℕ × Item)) → ((told : ℕ) → (hearer run ≡ Some told → ⊥) → (hearer now ≡ Some told → ⊥)
    → record_of told now ≡ record_of told run) → AllByRecursion (λ (told : ℕ × Item). hearer now ≡ Some told.0 → ⊥) list → Waits run list
    → Waits now list
still_waits [] same others nobody = nobody
still_waits {run} {now} ((session, item) ∷ rest) same others (another live input not_heard before later) =
    let past = same session not_heard others.0 in
    another (rw past live) (rw past input) others.0 before (still_waits rest same others.1 later)

none_before : (session : ℕ) (list : List (ℕ × Item)) → IsBefore session list
    → AllByRecursion (λ (told : ℕ × Item). Some session ≡ Some told.0 → ⊥) list
none_before session [] before = tt
none_before session (first ∷ others) before =
    (λ e. let same : session ≡ first.0 = cc in let less = before.0 in absurd (omega arith), none_before session others before.1)

none_hears : {run : List Entry} (list : List (ℕ × Item)) → Waits run list
    → AllByRecursion (λ (told : ℕ × Item). hearer run ≡ Some told.0 → ⊥) list
none_hears [] nobody = tt
none_hears ((session, item) ∷ rest) (another live input not_heard before later) = (not_heard, none_hears rest later)

-- once a session has heard, only open ones wait
pub waits_of : {run : List Entry} {list : List (ℕ × Item)} {session : ℕ} → hearer run ≡ Some session → Tells run list → Waits run list
waits_of h (begins_one none began below first its next) = absurd cc
waits_of h (waits list) = list

heard_each : {config : Config} {run : List Entry} {session : ℕ} {item : Item} {others : List (ℕ × Item)} → Each config run
    → step_of config (hearer run) run ≡ None → answer_of config (hearer run) run ≡ None → untold config run ≡ (session, item) ∷ others
    → First run session item others → Each config (Heard session item ∷ run)
heard_each {config} {run} {session} {item} {others} each quiet unasked u first = record {
  rests = λ other not_it. one_more (λ past. IsStill config past) session other item (record_of other run)
      (λ same. absurd (not_it (ap Some same))) (λ _. rests_each run each quiet unasked other);
  unborn = λ other above. one_more (λ past. past ≡ []) session other item (record_of other run)
      (λ same. absurd (first.began (omega arith))) (λ _. each.unborn other above);
  legal = λ other. one_more (λ past. (past ≡ []) ⊎ IsRecord config past) session other item (record_of other run)
      (λ same. inr (subst (λ (number : ℕ). IsRecord config (item ∷ record_of number run)) same
      (heard_legal each (rests_each run each quiet unasked session) first.hearable)))
      (λ _. each.legal other);
  tells = rw u (waits (still_waits others (λ told _ not_it. one_more (λ past. past ≡ record_of told run) session told item (record_of told run)
      (λ same. absurd (not_it (ap Some same))) (λ _. refl)) (none_before session others first.before) first.later));
  numbers = first.numbers;
  within = first.within;
}

-- A session's own step

step_legal : {config : Config} (past : List Item) (item : Item) → next config past ≡ Some item
    → (past ≡ []) ⊎ IsRecord config past → IsRecord config (item ∷ past)
step_legal {config} past item e (inl none) =
    let first : next config [] ≡ Some item = rw none at e in let at_first = nothing_at_first config in absurd cc
step_legal past item e (inr legal) = steps legal e

-- the session that heard of the last event goes on by an item that is legal there
goes_each : {config : Config} {run : List Entry} {session : ℕ} {item : Item} → Each config run → hearer run ≡ Some session
    → (record_of session run ≡ [] → ⊥) → IsRecord config (item ∷ record_of session run) → Each config (Did session item ∷ run)
goes_each {config} {run} {session} {item} each h began legal = record {
  rests = λ other not_it. one_more (λ past. IsStill config past) session other item (record_of other run)
      (λ same. absurd (not_it (h ∙ ap Some same))) (λ _. each.rests other not_it);
  unborn = λ other above. one_more (λ past. past ≡ []) session other item (record_of other run)
      (λ same. absurd (began (rw (← same) at (each.unborn other above)))) (λ _. each.unborn other above);
  legal = λ other. one_more (λ past. (past ≡ []) ⊎ IsRecord config past) session other item (record_of other run)
      (λ same. inr (subst (λ (number : ℕ). IsRecord config (item ∷ record_of number run)) same legal)) (λ _. each.legal other);
  tells = waits (still_waits (untold config run) (λ told not_it _. one_more (λ past. past ≡ record_of told run) session told item
      (record_of told run) (λ same. absurd (not_it (h ∙ ap Some same))) (λ _. refl))
      (none_hears (untold config run) (waits_of h each.tells)) (waits_of h each.tells));
  numbers = each.numbers;
  within = each.within;
}

step_began : (config : Config) (past : List Item) (item : Item) → next config past ≡ Some item → past ≡ [] → ⊥
step_began config past item e none =
    let first : next config [] ≡ Some item = rw none at e in let at_first = nothing_at_first config in cc

answer_legal : {config : Config} (session : ℕ) (run : List Entry) → asking (record_of session run) ≡ true
    → (record_of session run ≡ []) ⊎ IsRecord config (record_of session run)
    → IsRecord config (answer_for config session run ∷ record_of session run)
answer_legal session run a (inl none) = let first : false ≡ true = rw none at a in absurd cc
answer_legal session run a (inr legal) = answers legal a

answer_began : (past : List Item) → asking past ≡ true → past ≡ [] → ⊥
answer_began past a none = let first : false ≡ true = rw none at a in cc

next_each : {config : Config} {run : List Entry} {entry : Entry} → Each config run → Next config run entry
    → Each config (entry ∷ run)
next_each {config} {run} each (did {session = session} {item = item} h is_next) =
    let past : List Item = record_of session run in
    goes_each each h (step_began config past item is_next) (step_legal past item is_next (each.legal session))
next_each {config} {run} each (answered {session = session} h a) =
    goes_each each h (answer_began (record_of session run) a) (answer_legal session run a (each.legal session))
next_each each (heard quiet unasked u) = heard_each each quiet unasked u (first_of each each.tells u)
next_each each (observes quiet unasked u o) = record {
  rests = each.rests;
  unborn = each.unborn;
  legal = each.legal;
  tells = rw u (waits nobody);
  numbers = each.numbers;
  within = each.within;
}

-- Memory is wanting

-- the session that heard of the last event has begun
hearer_began : (run : List Entry) (session : ℕ) → hearer run ≡ Some session → record_of session run ≡ [] → ⊥
hearer_began [] session h none = absurd cc
hearer_began (Came event ∷ run) session h none = absurd cc
hearer_began (Heard its item ∷ run) session h none =
    let same : its ≡ session = cc in
    let none : item ∷ record_of session run ≡ [] = rw (eq-eqb its session same) at none in
    absurd cc
hearer_began (Observes round ∷ run) session h none = hearer_began run session h none
hearer_began (Did its item ∷ run) session h none =
    one_more (λ past. past ≡ [] → ⊥) its session item (record_of session run) (λ _ e. absurd cc) (λ _. hearer_began run session h) none

starved_legal : {config : Config} (past : List Item) (made : Bool) (number : ℕ) → (past ≡ [] → ⊥) → is_starved past ≡ false
    → CanBeMade made past → number ≡ want_number config past → (past ≡ []) ⊎ IsRecord config past
    → IsRecord config (Starves made number ∷ past)
starved_legal past made number began once can its (inl none) = absurd (began none)
starved_legal past made number began once can its (inr legal) = starves legal once can its

pub each_of : {config : Config} {run : List Entry} → IsRun config run → Each config run
each_of {config} starts = record {
  rests = λ session _. (nothing_at_first config, refl);
  unborn = λ session above. refl;
  legal = λ session. inl refl;
  tells = waits nobody;
  numbers = tt;
  within = tt;
}
each_of (came legal quiet) = came_each (each_of legal) quiet
each_of {config} (goes_on {run = run} {entry = entry} legal e) = next_each (each_of legal) (of_next_entry config run entry e)
each_of {config} (run_starves {run = run} {session = session} {number = number} {made = made} legal h once can its) =
    let each = each_of legal in
    let began = hearer_began run session h in
    goes_each each h began (starved_legal (record_of session run) made number began once can its (each.legal session))

pub records : Records
records config run legal session = (each_of legal).legal session
