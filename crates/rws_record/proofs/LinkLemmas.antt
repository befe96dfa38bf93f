-- In a legal run no two sessions have a link in common: a link was opened once, for one session.
use Rattle.std.proofs.Common.{◌≡◌, ℕ, zero, suc, ◌+◌, ◌<◌, ◌≤◌, Bool, true, false, List, [], ◌∷◌, refl, sym, ap, subst, ◌++◌, ◌∙◌, arith, inl, inr, Option, Some, None}
use Rattle.std.specs.Prelude.{Contains, ◌==◌, filter, length, slice_index_or, if◌then◌else◌}
use Rattle.std.specs.Option.{option_map}
use Rattle.std.proofs.lemmas.List.Elements.{Contains-append_cases}
use Rattle.rws_native.specs.declared.login.Login.{Login}
use Rattle.rws_route.specs.declared.destination.Target.{Target}
use Rattle.rws_route.specs.declared.destination.Target.TheVariants.{Primary, Replica, NoPrimary as Nowhere}
use Rattle.rws_config.specs.declared.config.Config.{Config}
use Rattle.rws_record.specs.Item.{Item, Put}
use Rattle.rws_record.specs.Item.Item.{Accepted, TurnsAway, Began, ClientBytes, LinkReady, LinkBytes, ClientGone, LinkLost, Ticks, Routed, Comes, Connects, Takes, Floods, Puts, Starves}
use Rattle.rws_record.specs.Item.Put.{Hands, Tells, Records, Routes, Opens, LogsInto, Sends, Forgets, Drops, Closes}
use Rattle.rws_record.specs.Values.{links, opened_by, opens, without}
use Rattle.rws_record.specs.Rules.{after_route, found_in, opening, owed}
use Rattle.rws_record.specs.Record.{IsBeginning, IsInput}
use Rattle.rws_record.specs.Run.{Entry, IsRun, answer_for, hearer, record_of, link_by, last_link, loads_of, words_of}
use Rattle.rws_record.specs.Run.Entry.{Heard, Did}
use Rattle.rws_record.specs.Run.IsRun.{starts, came, goes_on, starves}
use Rattle.rws_record.specs.Laws.{Apart}
use Rattle.rws_record.proofs.StepLemmas.{Step, of_next, input_opens_none, rests_owing_nothing}
use Rattle.rws_record.proofs.StepLemmas.Due.{comes, connects, takes}
use Rattle.rws_record.proofs.StepLemmas.Step.{pays, asks, prepares, forgets, plays, sends, waits_first, probes_first, floods, reads}
use Rattle.rws_record.proofs.OpeningLemmas.{is_answered, plain_unless_answered, step_unanswered}
use Rattle.rws_record.proofs.EntryLemmas.{Next, of_next_entry}
use Rattle.rws_record.proofs.EntryLemmas.Next.{did, answered, heard, observes}
use Rattle.rws_record.proofs.RecordLemmas.{IsStill, one_more, Hearable, each_of, first_of, rests_each}
use Rattle.rws_record.proofs.RecordLemmas.Hearable.{begins_it, comes_in}

-- the link was opened in the record
pub data Opened (link : ℕ) : List Item → Type 0 where
  here : {item : Item} {past : List Item} {server : ℕ} → opens item ≡ Some (link, server) → Opened link (item ∷ past)
  below : {item : Item} {past : List Item} → Opened link past → Opened link (item ∷ past)

-- A link that a session has was opened in its record

-- the elements behind the first, and the first itself
module _ (first : ℕ) (rest others : List ℕ) (x : ℕ) (later : Contains rest x → Contains others x) where
  at_place : (k : ℕ) → k < suc (length rest) → slice_index_or (first ∷ rest) k x ≡ x → Contains (first ∷ others) x
  at_place zero small e = (0, omega arith, e)
  at_place (suc k) small e = let there = later (k, omega arith, e) in (suc there.0, omega arith, there.2)

  in_longer : (test : Bool) → Contains (if test then first ∷ rest else rest) x → Contains (first ∷ others) x
  in_longer true has = at_place has.0 has.1 has.2
  in_longer false has = let there = later has in (suc there.0, omega arith, there.2)

filtered : (test : ℕ → Bool) (list : List ℕ) (x : ℕ) → Contains (filter test list) x → Contains list x
filtered test [] x has = has
filtered test (first ∷ others) x has = in_longer first (filter test others) others x (filtered test others x) (test first) has

only : (one x : ℕ) → Contains (one ∷ []) x → one ≡ x
only one x has = by_place has.0 has.1 has.2
  where
    by_place : (k : ℕ) → k < 1 → slice_index_or (one ∷ []) k x ≡ x → one ≡ x
    by_place zero small e = e
    by_place (suc k) small e = absurd (omega arith)

-- a link that an item opens, or one that was there before
with_one : (past : List Item) (item : Item) (its server link : ℕ) → opens item ≡ Some (its, server)
    → (Contains (links past) link → Opened link past) → Contains (without its (links past) ++ its ∷ []) link → Opened link (item ∷ past)
with_one past item its server link o before has =
    elim (Contains-append_cases (without its (links past)) (its ∷ []) link has) [
      | inl earlier ↦ below (before (filtered _ (links past) link earlier))
      | inr now ↦ here (let same = only its link now in o ∙ ap (λ (n : ℕ). Some (n, server)) same)
    ]

opened : (past : List Item) (link : ℕ) → Contains (links past) link → Opened link past
opened [] link has = absurd (omega (arith, has.1))
opened (Began its server reading ∷ past) link has = with_one past (Began its server reading) its server link refl (opened past link) has
opened (Puts (Opens its server login) ∷ past) link has =
    with_one past (Puts (Opens its server login)) its server link refl (opened past link) has
opened (Accepted session scramble reading ∷ past) link has = below (opened past link has)
opened (TurnsAway told ∷ past) link has = below (opened past link has)
opened (ClientBytes bytes ∷ past) link has = below (opened past link has)
opened (LinkReady ready ∷ past) link has = below (opened past link has)
opened (LinkBytes from bytes ∷ past) link has = below (opened past link has)
opened (ClientGone ∷ past) link has = below (opened past link has)
opened (LinkLost lost ∷ past) link has = below (opened past link (filtered _ (links past) link has))
opened (Ticks reading ∷ past) link has = below (opened past link has)
opened (Routed words loads next found ∷ past) link has = below (opened past link has)
opened (Comes from said ∷ past) link has = below (opened past link has)
opened (Connects said ∷ past) link has = below (opened past link has)
opened (Takes judged number ∷ past) link has = below (opened past link has)
opened (Floods bytes ∷ past) link has = below (opened past link has)
opened (Starves made number ∷ past) link has = below (opened past link has)
opened (Puts (Hands packets) ∷ past) link has = below (opened past link has)
opened (Puts (Tells number tell) ∷ past) link has = below (opened past link has)
opened (Puts Routes ∷ past) link has = below (opened past link has)
opened (Puts (Records server gtid) ∷ past) link has = below (opened past link has)
opened (Puts (LogsInto to packets) ∷ past) link has = below (opened past link has)
opened (Puts (Sends to purpose) ∷ past) link has = below (opened past link has)
opened (Puts (Forgets to id) ∷ past) link has = below (opened past link has)
opened (Puts (Drops given cause) ∷ past) link has = below (opened past link (filtered _ (links past) link has))
opened (Puts (Closes reason) ∷ past) link has = below (opened past link has)

-- Links are numbered in order of opening

pub record Numbered (config : Config) (run : List Entry) : Type 0 where
  pub low : (session link : ℕ) → Opened link (record_of session run) → link ≤ last_link run
  pub apart : (one other link : ℕ) → Opened link (record_of one run) → Opened link (record_of other run) → one ≡ other
  -- a link that is about to be opened has the next number
  pub next : (session link server : ℕ) (login : Login) (others : List Put) → owed config (record_of session run) ≡ Opens link server login ∷ others
      → link ≡ last_link run + 1

no_more : (item : Item) (past : List Item) (link : ℕ) → opens item ≡ None → Opened link (item ∷ past) → Opened link past
no_more item past link none (here e) = absurd cc
no_more item past link none (below before) = before

-- nothing but the worker's answer leads to an opening
opens_nothing_now : {A : Type 0} (config : Config) (past : List Item) (link server : ℕ) (login : Login) (others : List Put) → is_answered past ≡ false
    → owed config past ≡ Opens link server login ∷ others → A
opens_nothing_now config past link server login others plain o =
    let clash : false ≡ true = rw o at (plain_unless_answered config past plain) in absurd cc

owing_nothing : {A : Type 0} (config : Config) (past : List Item) (put : Put) (others : List Put) → owed config past ≡ [] → owed config past ≡ put ∷ others → A
owing_nothing config past put others none some = let clash : [] ≡ put ∷ others = sym none ∙ some in absurd cc

-- what happens to one session: the others owe nothing, and this one has an item more
module _ (config : Config) (run now : List Entry) (session : ℕ) (item : Item)
    (records : (other : ℕ) → record_of other now ≡ (if session == other then item ∷ record_of other run else record_of other run))
    (last : last_link now ≡ link_by (option_map (λ (o : ℕ × ℕ). (session, o.0)) (opens item)) (last_link run))
    (quiet : (other : ℕ) → (session ≡ other → ⊥) → owed config (record_of other run) ≡ [])
    (its_next : (link server : ℕ) (login : Login) (others : List Put) → owed config (item ∷ record_of session run) ≡ Opens link server login ∷ others
    → link ≡ last_link now + 1)
    (numbered : Numbered config run) where
  next_one : (other link server : ℕ) (login : Login) (others : List Put) → owed config (record_of other now) ≡ Opens link server login ∷ others
      → link ≡ last_link now + 1
  next_one other link server login others o =
      one_more (λ past. owed config past ≡ Opens link server login ∷ others → link ≡ last_link now + 1) session other item (record_of other run)
      (λ same is. its_next link server login others (subst (λ (n : ℕ). owed config (item ∷ record_of n run) ≡ Opens link server login ∷ others) (sym same) is))
      (λ differ is. owing_nothing config (record_of other run) (Opens link server login) others (quiet other differ) is)
      (rw (← records other) o)

  -- it opens no link
  without_opening : opens item ≡ None → Numbered config now
  without_opening none = record {
    low = λ other link is.
        let least = numbered.low other link (before other link (rw (records other) at is)) in
        let stays : last_link now ≡ last_link run = last ∙ rw none refl in omega arith;
    apart = λ one other link is also.
        numbered.apart one other link (before one link (rw (records one) at is)) (before other link (rw (records other) at also));
    next = next_one;
  }
    where
      before : (other link : ℕ) → Opened link (if session == other then item ∷ record_of other run else record_of other run)
          → Opened link (record_of other run)
      before other link =
          one_more (λ past. Opened link past → Opened link (record_of other run)) session other item (record_of other run)
          (λ same is. no_more item (record_of other run) link none is) (λ _ is. is)

  -- or it opens the next one
  data OpensOne (link other now_link : ℕ) : Type 0 where
    its_own : session ≡ other → now_link ≡ link → OpensOne link other now_link
    before : Opened now_link (record_of other run) → OpensOne link other now_link

  opens_or_not : (link server other now_link : ℕ) → opens item ≡ Some (link, server)
      → Opened now_link (if session == other then item ∷ record_of other run else record_of other run) → OpensOne link other now_link
  opens_or_not link server other now_link o =
      one_more (λ past. Opened now_link past → OpensOne link other now_link) session other item (record_of other run)
      (λ same is. by_opened same is) (λ _ is. before is)
    where
      by_opened : session ≡ other → Opened now_link (item ∷ record_of other run) → OpensOne link other now_link
      by_opened same (here {server = its} e) =
          let both : ◌≡◌ {A = Option (ℕ × ℕ)} (Some (link, server)) (Some (now_link, its)) = sym o ∙ e in
          let pair : ◌≡◌ {A = ℕ × ℕ} (link, server) (now_link, its) = cc in its_own same (sym (ap (λ (p : ℕ × ℕ). p.0) pair))
      by_opened same (below is) = before is

  with_opening : (link server : ℕ) → opens item ≡ Some (link, server) → link ≡ last_link run + 1 → Numbered config now
  with_opening link server o l =
      let newest : last_link now ≡ link = last ∙ rw o refl in
      record {
        low = λ other now_link is. elim (opens_or_not link server other now_link o (rw (records other) at is)) [
          | its_own same e ↦ omega arith
          | before is ↦ let least = numbered.low other now_link is in omega arith
        ];
        apart = λ one other now_link is also. elim (opens_or_not link server one now_link o (rw (records one) at is)) [
          | its_own same e ↦ elim (opens_or_not link server other now_link o (rw (records other) at also)) [
            | its_own too f ↦ sym same ∙ too
            | before too ↦ let least = numbered.low other now_link too in absurd (omega arith)
          ]
          | before is ↦ elim (opens_or_not link server other now_link o (rw (records other) at also)) [
            | its_own too f ↦ let least = numbered.low one now_link is in absurd (omega arith)
            | before too ↦ numbered.apart one other now_link is too
          ]
        ];
        next = next_one;
      }

  by_opening : (opened : Option (ℕ × ℕ)) → opens item ≡ opened → ((link server : ℕ) → opens item ≡ Some (link, server) → link ≡ last_link run + 1)
      → Numbered config now
  by_opening None o next = without_opening o
  by_opening (Some opened) o next = with_opening opened.0 opened.1 o (next opened.0 opened.1 o)

  numbered_now : ((link server : ℕ) → opens item ≡ Some (link, server) → link ≡ last_link run + 1) → Numbered config now
  numbered_now next = by_opening (opens item) refl next

pub none_opens : (next : ℕ) (item : Item) → opens item ≡ None → (link server : ℕ) → opens item ≡ Some (link, server) → link ≡ next
none_opens next item none link server some =
    let clash : ◌≡◌ {A = Option (ℕ × ℕ)} None (Some (link, server)) = sym none ∙ some in absurd cc

begins_unanswered : (item : Item) (past : List Item) → IsBeginning item → is_answered (item ∷ past) ≡ false
begins_unanswered (Accepted session scramble reading) past its = refl
begins_unanswered (TurnsAway told) past its = refl
begins_unanswered (Began link server reading) past its = refl
begins_unanswered _ past its = absurd its

input_unanswered : (item : Item) (past : List Item) → IsInput item past → is_answered (item ∷ past) ≡ false
input_unanswered (ClientBytes bytes) past input = refl
input_unanswered ClientGone past input = refl
input_unanswered (LinkReady link) past input = refl
input_unanswered (LinkBytes link bytes) past input = refl
input_unanswered (LinkLost link) past input = refl
input_unanswered (Ticks reading) past input = refl
input_unanswered _ past input = absurd input

still_owing : (config : Config) (past : List Item) → IsStill config past → owed config past ≡ []
still_owing config past still = rests_owing_nothing config past still.0 still.1

heard_numbered : (config : Config) {run : List Entry} {session : ℕ} {item : Item} → ((other : ℕ) → IsStill config (record_of other run))
    → Hearable run session item → Numbered config run → Numbered config (Heard session item ∷ run)
heard_numbered config {run = run} {session = session} {item = item} quiet (begins_it none its next) numbered =
    numbered_now config run (Heard session item ∷ run) session item (λ other. refl) refl (λ other _. still_owing config (record_of other run) (quiet other))
    (λ link server login others o. opens_nothing_now config (item ∷ record_of session run) link server login others (begins_unanswered item (record_of session run) its) o)
    numbered next
heard_numbered config {run = run} {session = session} {item = item} quiet (comes_in live input) numbered =
    numbered_now config run (Heard session item ∷ run) session item (λ other. refl) refl (λ other _. still_owing config (record_of other run) (quiet other))
    (λ link server login others o. opens_nothing_now config (item ∷ record_of session run) link server login others (input_unanswered item (record_of session run) input) o)
    numbered (none_opens (last_link run + 1) item (input_opens_none item (record_of session run) input))

-- a step opens the next link, if any
pub step_opens_next : {config : Config} (run : List Entry) (session : ℕ) {item : Item} → Numbered config run → Step config (record_of session run) item
    → (link server : ℕ) → opens item ≡ Some (link, server) → link ≡ last_link run + 1
step_opens_next {config} run session numbered (pays {put = put} {others = others} o) link server is = by_put put o is
  where
    by_put : (put : Put) → owed config (record_of session run) ≡ put ∷ others → opened_by put ≡ Some (link, server) → link ≡ last_link run + 1
    by_put (Opens its of login) o e =
        let pair : ◌≡◌ {A = ℕ × ℕ} (its, of) (link, server) = cc in
        sym (ap (λ (p : ℕ × ℕ). p.0) pair) ∙ numbered.next session its of login others o
    by_put (Hands packets) o e = absurd cc
    by_put (Tells number tell) o e = absurd cc
    by_put Routes o e = absurd cc
    by_put (Records server gtid) o e = absurd cc
    by_put (LogsInto to packets) o e = absurd cc
    by_put (Sends to purpose) o e = absurd cc
    by_put (Forgets to id) o e = absurd cc
    by_put (Drops to cause) o e = absurd cc
    by_put (Closes reason) o e = absurd cc
step_opens_next run session numbered (asks o n p g w) link server e = absurd cc
step_opens_next run session numbered (prepares o n has f) link server e = absurd cc
step_opens_next run session numbered (forgets o n has f t) link server e = absurd cc
step_opens_next run session numbered (plays o n has f t s) link server e = absurd cc
step_opens_next run session numbered (sends o n p s g f t d i c) link server e = absurd cc
step_opens_next run session numbered (waits_first o n p s g f t d c) link server e = absurd cc
step_opens_next run session numbered (probes_first o n p s g f t d c) link server e = absurd cc
step_opens_next run session numbered (floods o n p above) link server e = absurd cc
step_opens_next run session numbered (reads o n (comes has a it)) link server e = absurd cc
step_opens_next run session numbered (reads o n (connects p f c)) link server e = absurd cc
step_opens_next run session numbered (reads o n (takes p f)) link server e = absurd cc

-- the others than the session that heard of the last event owe nothing
others_owing : {config : Config} {run : List Entry} {session : ℕ} → IsRun config run → hearer run ≡ Some session
    → (other : ℕ) → (session ≡ other → ⊥) → owed config (record_of other run) ≡ []
others_owing {config} {run} {session} legal h other differ =
    still_owing config (record_of other run)
    ((each_of legal).rests other (λ is. let both : Some session ≡ Some other = sym h ∙ is in differ cc))

-- the worker's answer leads to the opening of the next link, if any
opening_next : (has : Option ℕ) (next server : ℕ) (login : Option Login) (link its : ℕ) (with_login : Login) (others : List Put)
    → opening has next server login ≡ Opens link its with_login ∷ others → link ≡ next
opening_next None next server (Some login) link its with_login others e = cc
opening_next None next server None link its with_login others e = absurd cc
opening_next (Some has) next server login link its with_login others e = absurd cc

route_opens_next : (found : Target) (has : Option ℕ) (next : ℕ) (login : Option Login) (late : Bool) (number link its : ℕ) (with_login : Login)
    (others : List Put) → after_route found has next login late number ≡ Opens link its with_login ∷ others → link ≡ next
route_opens_next Nowhere has next login true number link its with_login others e = absurd cc
route_opens_next Nowhere has next login false number link its with_login others e = absurd cc
route_opens_next (Primary server) has next login late number link its with_login others e =
    opening_next has next server login link its with_login others e
route_opens_next (Replica server) has next login late number link its with_login others e =
    opening_next has next server login link its with_login others e

next_numbered : {config : Config} {run : List Entry} {entry : Entry} → IsRun config run → Next config run entry → Numbered config run
    → Numbered config (entry ∷ run)
next_numbered {config} {run} legal (did {session = session} {item = item} h is_next) numbered =
    let step = of_next config (record_of session run) item is_next in
    numbered_now config run (Did session item ∷ run) session item (λ other. refl) refl (others_owing legal h)
    (λ link server login others o. opens_nothing_now config (item ∷ record_of session run) link server login others (step_unanswered step) o)
    numbered (step_opens_next run session numbered step)
next_numbered {config} {run} legal (answered {session = session} h a) numbered =
    let item : Item = answer_for config session run in
    let found : Target = found_in config (record_of session run) (words_of config run) (loads_of run) in
    numbered_now config run (Did session item ∷ run) session item (λ other. refl) refl (others_owing legal h)
    (λ link server login others o. route_opens_next found _ (last_link run + 1) _ _ _ link server login others o)
    numbered (none_opens (last_link run + 1) item refl)
next_numbered {config} {run} legal (heard quiet unasked u) numbered =
    heard_numbered config (rests_each run (each_of legal) quiet unasked) (first_of (each_of legal) (each_of legal).tells u).hearable numbered
next_numbered legal (observes quiet unasked u o) numbered = record { low = numbered.low; apart = numbered.apart; next = numbered.next }

pub numbered_of : {config : Config} {run : List Entry} → IsRun config run → Numbered config run
numbered_of starts = record {
  low = λ session link is. no_opening is;
  apart = λ one other link is also. no_opening is;
  next = λ session link server login others o. absurd cc;
}
  where
    no_opening : {A : Type 0} {link : ℕ} → Opened link [] → A
    no_opening is = absurd (by_record refl is)
      where
        by_record : {link : ℕ} {past : List Item} → past ≡ [] → Opened link past → ⊥
        by_record e (here o) = cc
        by_record e (below b) = cc
numbered_of (came {run = run} legal quiet) =
    let before = numbered_of legal in record { low = before.low; apart = before.apart; next = before.next }
numbered_of {config} (goes_on {run = run} {entry = entry} legal e) =
    next_numbered legal (of_next_entry config run entry e) (numbered_of legal)
numbered_of {config} (starves {run = run} {session = session} {number = number} {made = made} legal h once can its) =
    let item : Item = Starves made number in
    numbered_now config run (Did session item ∷ run) session item (λ other. refl) refl (others_owing legal h)
    (λ link server login others o. opens_nothing_now config (item ∷ record_of session run) link server login others refl o)
    (numbered_of legal) (none_opens (last_link run + 1) item refl)

pub apart : Apart
apart config run legal one other link has also =
    (numbered_of legal).apart one other link (opened (record_of one run) link has) (opened (record_of other run) link also)
