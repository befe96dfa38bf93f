-- What a worker's loads count: all links of its sessions together are no more than were opened.
use Rattle.std.proofs.Common.{◌≡◌, ℕ, suc, ◌+◌, ◌<◌, ◌≤◌, Bool, true, false, List, [], ◌∷◌, ◌++◌, filter, length, map, refl, sym, ap, subst, ◌∙◌, arith, Option, Some, None}
use Rattle.std.specs.Prelude.{◌==◌, not, if◌then◌else◌}
use Rattle.std.specs.List.{AllByRecursion}
use Rattle.std.specs.Option.{option_map}
use Rattle.std.proofs.lemmas.Bool.{eqb-true, eqb-false}
use Rattle.std.proofs.lemmas.List.{length-append}
use Rattle.rws_config.specs.declared.config.Config.{Config}
use Rattle.rws_record.specs.Item.{Item}
use Rattle.rws_record.specs.Item.Item.{Accepted, TurnsAway, Began, ClientBytes, LinkReady, LinkBytes, ClientGone, LinkLost, Ticks, Routed, Comes, Connects, Takes, Floods, Puts, Starves}
use Rattle.rws_record.specs.Item.Put.{Hands, Tells, Records, Routes, Opens, LogsInto, Sends, Forgets, Drops, Closes}
use Rattle.rws_record.specs.Values.{links, opens, server_of, without}
use Rattle.rws_record.specs.Run.{Entry, IsRun, answer_for, begins_session, begun, is_live, is_owed_on, last_link, link_by, links_to, open_sessions, pending_to, record_of, sum}
use Rattle.rws_record.specs.Run.Entry.{Heard, Did}
use Rattle.rws_record.specs.Run.IsRun.{starts, came, goes_on, starves}
use Rattle.rws_record.proofs.StepLemmas.{input_opens_none, of_next}
use Rattle.rws_record.proofs.OrderLemmas.{Rises, some_rise}
use Rattle.rws_record.proofs.EntryLemmas.{Next, of_next_entry}
use Rattle.rws_record.proofs.EntryLemmas.Next.{did, answered, heard, observes}
use Rattle.rws_record.proofs.RecordLemmas.{Hearable, begins_no_more, begins_one_more, each_of, first_of, one_more}
use Rattle.rws_record.proofs.RecordLemmas.Hearable.{begins_it, comes_in}
use Rattle.rws_record.proofs.LinkLemmas.{none_opens, numbered_of, step_opens_next}

-- Sums

some_fewer : (test : ℕ → Bool) (list : List ℕ) → length (filter test list) ≤ length list
some_fewer test [] = omega arith
some_fewer test (first ∷ others) = by_test (test first) (some_fewer test others)
  where
    by_test : (its : Bool) → length (filter test others) ≤ length others
        → length (if its then first ∷ filter test others else filter test others) ≤ suc (length others)
    by_test true fewer = omega arith
    by_test false fewer = omega arith

-- each number of a list is given no more by the one than by the other
sum_less : (f g : ℕ → ℕ) (list : List ℕ) → ((number : ℕ) → f number ≤ g number) → sum (map f list) ≤ sum (map g list)
sum_less f g [] less = omega arith
sum_less f g (first ∷ others) less =
    let here = less first in let there = sum_less f g others less in omega arith

sum_of_some : (f : ℕ → ℕ) (test : ℕ → Bool) (list : List ℕ) → sum (map f (filter test list)) ≤ sum (map f list)
sum_of_some f test [] = omega arith
sum_of_some f test (first ∷ others) = by_test (test first) (sum_of_some f test others)
  where
    by_test : (its : Bool) → sum (map f (filter test others)) ≤ sum (map f others)
        → sum (map f (if its then first ∷ filter test others else filter test others)) ≤ f first + sum (map f others)
    by_test true less = omega arith
    by_test false less = omega arith

sum_behind : (f : ℕ → ℕ) (list : List ℕ) (last : ℕ) → sum (map f (list ++ last ∷ [])) ≡ sum (map f list) + f last
sum_behind f [] last = omega arith
sum_behind f (first ∷ others) last = let behind = sum_behind f others last in omega arith

-- two that differ at one number, by so much
module _ (f g : ℕ → ℕ) (number more : ℕ) (same : (other : ℕ) → (number ≡ other → ⊥) → g other ≡ f other)
    (here : g number ≤ f number + more) where
  same_above : (list : List ℕ) → AllByRecursion (λ other. number < other) list → sum (map g list) ≡ sum (map f list)
  same_above [] above = refl
  same_above (first ∷ others) above =
      let its = same first (λ e. let less = above.0 in absurd (omega arith)) in
      let behind = same_above others above.1 in omega arith

  sum_more : (list : List ℕ) → Rises list → sum (map g list) ≤ sum (map f list) + more
  sum_more [] rising = omega arith
  sum_more (first ∷ others) rising = by_test (number == first) refl (sum_more others rising.1)
    where
      by_test : (test : Bool) → (number == first) ≡ test → sum (map g others) ≤ sum (map f others) + more
          → g first + sum (map g others) ≤ f first + sum (map f others) + more
      by_test true t behind =
          let it = eqb-true number first t in
          let its : g first ≤ f first + more = subst (λ (n : ℕ). g n ≤ f n + more) it here in
          let behind = same_above others (subst (λ (n : ℕ). AllByRecursion (λ other. n < other) others) (sym it) rising.0) in
          omega arith
      by_test false t behind = let its = same first (eqb-false number first t) in omega arith

-- An item brings a session one link at most

abbrev more_by : Option (ℕ × ℕ) → ℕ
more_by (Some opened) = 1
more_by None = 0

with_one : (link : ℕ) (list : List ℕ) → length (without link list ++ link ∷ []) ≤ length list + 1
with_one link list =
    let both = length-append (without link list) (link ∷ []) in
    let fewer = some_fewer (λ other. not (other == link)) list in omega arith

links_more : (item : Item) (past : List Item) → length (links (item ∷ past)) ≤ length (links past) + more_by (opens item)
links_more (Began link server reading) past = with_one link (links past)
links_more (Puts (Opens link server login)) past = with_one link (links past)
links_more (LinkLost link) past = let fewer = some_fewer (λ other. not (other == link)) (links past) in omega arith
links_more (Puts (Drops link cause)) past = let fewer = some_fewer (λ other. not (other == link)) (links past) in omega arith
links_more (Accepted session scramble reading) past = omega arith
links_more (TurnsAway told) past = omega arith
links_more (ClientBytes bytes) past = omega arith
links_more (LinkReady link) past = omega arith
links_more (LinkBytes link bytes) past = omega arith
links_more ClientGone past = omega arith
links_more (Ticks reading) past = omega arith
links_more (Routed words loads next found) past = omega arith
links_more (Comes link said) past = omega arith
links_more (Connects said) past = omega arith
links_more (Takes judged number) past = omega arith
links_more (Floods bytes) past = omega arith
links_more (Starves made number) past = omega arith
links_more (Puts (Hands packets)) past = omega arith
links_more (Puts (Tells number tell)) past = omega arith
links_more (Puts Routes) past = omega arith
links_more (Puts (Records server gtid)) past = omega arith
links_more (Puts (LogsInto link packets)) past = omega arith
links_more (Puts (Forgets link id)) past = omega arith
links_more (Puts (Sends link purpose)) past = omega arith
links_more (Puts (Closes reason)) past = omega arith

-- how many links a session has
abbrev count_in : List Entry → ℕ → ℕ
count_in run session = length (links (record_of session run))

-- and the number of the last link goes up by as many as are opened
last_more : (session : ℕ) (opened : Option (ℕ × ℕ)) (last : ℕ) → ((link server : ℕ) → opened ≡ Some (link, server) → link ≡ last + 1)
    → link_by (option_map (λ (o : ℕ × ℕ). (session, o.0)) opened) last ≡ last + more_by opened
last_more session None last next = omega arith
last_more session (Some opened) last next = next opened.0 opened.1 refl

-- what happens to one session: the links of these sessions together are no more than before, and one where one is opened
module _ (run now : List Entry) (session : ℕ) (item : Item)
    (records : (other : ℕ) → record_of other now ≡ (if session == other then item ∷ record_of other run else record_of other run))
    (last : last_link now ≡ link_by (option_map (λ (o : ℕ × ℕ). (session, o.0)) (opens item)) (last_link run))
    (next : (link server : ℕ) → opens item ≡ Some (link, server) → link ≡ last_link run + 1) where
  others_same : (other : ℕ) → (session ≡ other → ⊥) → count_in now other ≡ count_in run other
  others_same other differ =
      ap (λ (past : List Item). length (links past)) (records other
      ∙ one_more (λ past. past ≡ record_of other run) session other item (record_of other run) (λ same. absurd (differ same)) (λ _. refl))

  its_more : count_in now session ≤ count_in run session + more_by (opens item)
  its_more =
      rw (records session)
      (one_more (λ past. length (links past) ≤ count_in run session + more_by (opens item)) session session item (record_of session run)
      (λ _. links_more item (record_of session run)) (λ differ. absurd (differ refl)))

  pub stays_within : (list : List ℕ) → Rises list → sum (map (count_in run) list) ≤ last_link run
      → sum (map (count_in now) list) ≤ last_link now
  stays_within list rising within =
      let more = sum_more (count_in run) (count_in now) session (more_by (opens item)) others_same its_more list rising in
      let newest = last ∙ last_more session (opens item) (last_link run) next in omega arith

-- one that begins has none before
begins_with_none : (run : List Entry) (session : ℕ) (item : Item) → Hearable run session item
    → sum (map (count_in run) (begun run ++ begins_session session item)) ≡ sum (map (count_in run) (begun run))
begins_with_none run session item (comes_in live input) =
    ap (λ (list : List ℕ). sum (map (count_in run) list)) (begins_no_more run session item input)
begins_with_none run session item (begins_it none its next) =
    let one = ap (λ (list : List ℕ). sum (map (count_in run) list)) (begins_one_more run session item its) in
    let behind = sum_behind (count_in run) (begun run) session in
    let nothing : count_in run session ≡ 0 = rw none refl in omega arith

hears_opens_next : (run : List Entry) (session : ℕ) (item : Item) → Hearable run session item
    → (link server : ℕ) → opens item ≡ Some (link, server) → link ≡ last_link run + 1
hears_opens_next run session item (begins_it none its next) = next
hears_opens_next run session item (comes_in live input) =
    none_opens (last_link run + 1) item (input_opens_none item (record_of session run) input)

next_within : {config : Config} {run : List Entry} {entry : Entry} → IsRun config run → Next config run entry
    → sum (map (count_in run) (begun run)) ≤ last_link run → sum (map (count_in (entry ∷ run)) (begun (entry ∷ run))) ≤ last_link (entry ∷ run)
next_within {config} {run} legal (did {session = session} {item = item} h is_next) within =
    stays_within run (Did session item ∷ run) session item (λ other. refl) refl
    (step_opens_next run session (numbered_of legal) (of_next config (record_of session run) item is_next)) (begun run) (each_of legal).numbers within
next_within {config} {run} legal (answered {session = session} h a) within =
    stays_within run (Did session (answer_for config session run) ∷ run) session (answer_for config session run) (λ other. refl) refl
    (none_opens (last_link run + 1) (answer_for config session run) refl) (begun run) (each_of legal).numbers within
next_within {config} {run} legal (heard {session = session} {item = item} quiet unasked u) within =
    let first = first_of (each_of legal) (each_of legal).tells u in
    let before = begins_with_none run session item first.hearable in
    stays_within run (Heard session item ∷ run) session item (λ other. refl) refl (hears_opens_next run session item first.hearable)
    (begun run ++ begins_session session item) first.numbers (omega arith)
next_within legal (observes quiet unasked u o) within = within

-- all links of all sessions together are no more than were ever opened
pub links_within : {config : Config} {run : List Entry} → IsRun config run
    → sum (map (λ session. length (links (record_of session run))) (begun run)) ≤ last_link run
links_within starts = omega arith
links_within (came legal quiet) = links_within legal
links_within {config} (goes_on {run = run} {entry = entry} legal e) =
    next_within legal (of_next_entry config run entry e) (links_within legal)
links_within (starves {run = run} {session = session} {number = number} {made = made} legal h once can its) =
    stays_within run (Did session (Starves made number) ∷ run) session (Starves made number) (λ other. refl) refl
    (none_opens (last_link run + 1) (Starves made number) refl) (begun run) (each_of legal).numbers (links_within legal)

-- The loads

-- so are those of the open ones to one server, and those of them on which something awaits its reply
open_within : {config : Config} {run : List Entry} → IsRun config run → (count : ℕ → ℕ) → ((session : ℕ) → count session ≤ count_in run session)
    → sum (map count (open_sessions run)) ≤ last_link run
open_within {config} {run} legal count less =
    let some = sum_of_some count (λ session. is_live (record_of session run)) (begun run) in
    let all = sum_less count (count_in run) (begun run) less in
    let within = links_within legal in omega arith

pub links_load_within : {config : Config} {run : List Entry} → IsRun config run → (server : ℕ)
    → sum (map (λ session. length (links_to server (record_of session run))) (open_sessions run)) ≤ last_link run
links_load_within {config} {run} legal server =
    open_within legal (λ session. length (links_to server (record_of session run)))
    (λ session. some_fewer (λ link. server_of link (record_of session run) == server) (links (record_of session run)))

pub pending_load_within : {config : Config} {run : List Entry} → IsRun config run → (server : ℕ)
    → sum (map (λ session. length (pending_to server (record_of session run))) (open_sessions run)) ≤ last_link run
pending_load_within {config} {run} legal server =
    open_within legal (λ session. length (pending_to server (record_of session run)))
    (λ session.
    let owed = some_fewer (λ link. is_owed_on link (record_of session run)) (links_to server (record_of session run)) in
    let its = some_fewer (λ link. server_of link (record_of session run) == server) (links (record_of session run)) in omega arith)

-- Sessions begin in order of number

pub begun_rises : {config : Config} {run : List Entry} → IsRun config run → Rises (begun run)
begun_rises legal = (each_of legal).numbers

pub open_rises : {config : Config} {run : List Entry} → IsRun config run → Rises (open_sessions run)
open_rises {config} {run} legal = some_rise (λ session. is_live (record_of session run)) (begun run) (begun_rises legal)
