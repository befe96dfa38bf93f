-- What a run holds of each session and of each link, one entry further.
use Rattle.std.proofs.Common.{◌≡◌, ◌==◌, ℕ, ◌<◌, Bool, true, false, not, List, [], ◌∷◌, ◌++◌, ◌+◌, refl, Option, Some, None, option_map, arith, if◌then◌else◌}
use Rattle.std.proofs.lemmas.Bool.{ne_eqb, eq-eqb}
use Rattle.rws_config.specs.declared.config.Config.{Config}
use Rattle.rws_record.specs.Item.{Item}
use Rattle.rws_record.specs.Item.Item.{Accepted, TurnsAway, Began, ClientBytes, LinkReady, LinkBytes, ClientGone, LinkLost, Ticks, Routed, Comes, Connects, Takes, Floods, Puts, Starves}
use Rattle.rws_record.specs.Item.Put.{Hands, Tells, Records, Routes, Opens, LogsInto, Sends, Forgets, Drops, Closes}
use Rattle.rws_record.specs.Values.{opens, links, contains, without}
use Rattle.rws_record.specs.Run.{Entry, IsRun, record_of, owner, owner_by, last_link, link_by}
use Rattle.rws_record.specs.Run.Entry.{Heard, Did}
use Rattle.rws_record.specs.Run.IsRun.{starts, came, goes_on, starves}
use Rattle.rws_record.proofs.StepLemmas.{of_next, input_opens_none}
use Rattle.rws_record.proofs.EntryLemmas.{Next, of_next_entry}
use Rattle.rws_record.proofs.EntryLemmas.Next.{did, answered, heard, observes}
use Rattle.rws_record.proofs.LinkLemmas.{none_opens, numbered_of, step_opens_next}
use Rattle.rws_record.proofs.RecordLemmas.{Hearable, each_of, first_of}
use Rattle.rws_record.proofs.RecordLemmas.Hearable.{begins_it, comes_in}

-- Another session's record is as it was

pub heard_apart : (session number : ℕ) (item : Item) (run : List Entry) → (session ≡ number → ⊥)
    → record_of number (Heard session item ∷ run) ≡ record_of number run
heard_apart session number item run apart = rw (ne_eqb session number apart)

pub did_apart : (session number : ℕ) (item : Item) (run : List Entry) → (session ≡ number → ⊥)
    → record_of number (Did session item ∷ run) ≡ record_of number run
did_apart session number item run apart = rw (ne_eqb session number apart)

pub heard_here : (session : ℕ) (item : Item) (run : List Entry)
    → record_of session (Heard session item ∷ run) ≡ item ∷ record_of session run
heard_here session item run = rw (eq-eqb session session refl)

pub did_here : (session : ℕ) (item : Item) (run : List Entry)
    → record_of session (Did session item ∷ run) ≡ item ∷ record_of session run
did_here session item run = rw (eq-eqb session session refl)

-- Links

pub heard_owners : (session : ℕ) (item : Item) (run : List Entry) (link : ℕ) → opens item ≡ None
    → owner link (Heard session item ∷ run) ≡ owner link run
heard_owners session item run link none = rw none refl

pub heard_last : (session : ℕ) (item : Item) (run : List Entry) → opens item ≡ None
    → last_link (Heard session item ∷ run) ≡ last_link run
heard_last session item run none = rw none refl

pub did_owners : (session : ℕ) (item : Item) (run : List Entry) (link : ℕ) → opens item ≡ None
    → owner link (Did session item ∷ run) ≡ owner link run
did_owners session item run link none = rw none refl

pub did_last : (session : ℕ) (item : Item) (run : List Entry) → opens item ≡ None
    → last_link (Did session item ∷ run) ≡ last_link run
did_last session item run none = rw none refl

pub none_some : {A : Type 0} (a : A) → None ≡ Some a → ⊥
none_some a e = cc

pub some_same : {A : Type 0} (a b : A) → Some a ≡ Some b → a ≡ b
some_same a b e = cc

-- An item that opens no link leaves no further one

by_first : (first one other : Bool) → (one ≡ true → other ≡ true) → (if first then true else one) ≡ true
    → (if first then true else other) ≡ true
by_first true one other more e = refl
by_first false one other more e = more e

by_kept : (kept : Bool) (x link : ℕ) (rest others : List ℕ) → (contains link rest ≡ true → contains link others ≡ true)
    → contains link (if kept then x ∷ rest else rest) ≡ true → contains link (x ∷ others) ≡ true
by_kept true x link rest others more e = by_first (x == link) (contains link rest) (contains link others) more e
by_kept false x link rest others more e = by_test (x == link) (more e)
  where
    by_test : (first : Bool) → contains link others ≡ true → (if first then true else contains link others) ≡ true
    by_test true e = refl
    by_test false e = e

without_has : (gone link : ℕ) (list : List ℕ) → contains link (without gone list) ≡ true → contains link list ≡ true
without_has gone link [] e = absurd cc
without_has gone link (x ∷ xs) e = by_kept (not (x == gone)) x link (without gone xs) xs (without_has gone link xs) e

pub still_has : (item : Item) (past : List Item) (link : ℕ) → opens item ≡ None → contains link (links (item ∷ past)) ≡ true
    → contains link (links past) ≡ true
still_has (Accepted session scramble reading) past link none e = e
still_has (TurnsAway told) past link none e = e
still_has (Began its server reading) past link none e = absurd cc
still_has (ClientBytes bytes) past link none e = e
still_has (LinkReady ready) past link none e = e
still_has (LinkBytes from bytes) past link none e = e
still_has ClientGone past link none e = e
still_has (LinkLost lost) past link none e = without_has lost link (links past) e
still_has (Ticks reading) past link none e = e
still_has (Routed words loads next found) past link none e = e
still_has (Comes from said) past link none e = e
still_has (Connects said) past link none e = e
still_has (Takes judged number) past link none e = e
still_has (Floods bytes) past link none e = e
still_has (Starves made number) past link none e = e
still_has (Puts (Hands packets)) past link none e = e
still_has (Puts (Tells number tell)) past link none e = e
still_has (Puts (Records server gtid)) past link none e = e
still_has (Puts Routes) past link none e = e
still_has (Puts (Opens its server login)) past link none e = absurd cc
still_has (Puts (LogsInto to packets)) past link none e = e
still_has (Puts (Sends to purpose)) past link none e = e
still_has (Puts (Forgets to id)) past link none e = e
still_has (Puts (Drops given cause)) past link none e = without_has given link (links past) e
still_has (Puts (Closes reason)) past link none e = e

-- A link that is opened is the one that is new

newest : (opened link : ℕ) → (opened ≡ link → ⊥) → contains link (opened ∷ []) ≡ true → contains link [] ≡ true
newest opened link apart e = let other : (if false then true else contains link []) ≡ true = rw (ne_eqb opened link apart) at e in other

behind_new : (opened link : ℕ) (list : List ℕ) → (opened ≡ link → ⊥) → contains link (list ++ opened ∷ []) ≡ true
    → contains link list ≡ true
behind_new opened link [] apart e = newest opened link apart e
behind_new opened link (x ∷ xs) apart e =
    by_first (x == link) (contains link (xs ++ opened ∷ [])) (contains link xs) (behind_new opened link xs apart) e

pub had_it : (opened link : ℕ) (list : List ℕ) → (opened ≡ link → ⊥) → contains link (without opened list ++ opened ∷ []) ≡ true
    → contains link list ≡ true
had_it opened link list apart e = without_has opened link list (behind_new opened link (without opened list) apart e)

-- A link above the last one was never opened

abbrev pub Unopened : List Entry → Type 0
Unopened run = (link : ℕ) → last_link run < link → owner link run ≡ None

opens_unopened : (run : List Entry) (session : ℕ) (item : Item)
    → ((link server : ℕ) → opens item ≡ Some (link, server) → link ≡ last_link run + 1) → Unopened run
    → (link : ℕ) → link_by (option_map (λ (o : ℕ × ℕ). (session, o.0)) (opens item)) (last_link run) < link
    → owner_by link (option_map (λ (o : ℕ × ℕ). (session, o.0)) (opens item)) (owner link run) ≡ None
opens_unopened run session item next unopened link high =
    by_item (opens item) refl high
  where
    by_item : (of : Option (ℕ × ℕ)) → opens item ≡ of → link_by (option_map (λ (o : ℕ × ℕ). (session, o.0)) of) (last_link run) < link
        → owner_by link (option_map (λ (o : ℕ × ℕ). (session, o.0)) of) (owner link run) ≡ None
    by_item None o high = unopened link high
    by_item (Some opened) o high =
        let it : opened.0 ≡ last_link run + 1 = next opened.0 opened.1 o in
        rw (ne_eqb opened.0 link (λ same. omega arith)) (unopened link (omega arith))

heard_opens_next : (run : List Entry) (session : ℕ) {item : Item} → Hearable run session item
    → (link server : ℕ) → opens item ≡ Some (link, server) → link ≡ last_link run + 1
heard_opens_next run session (begins_it none its next) = next
heard_opens_next run session {item} (comes_in live input) =
    none_opens (last_link run + 1) item (input_opens_none item (record_of session run) input)

next_unopened : {config : Config} {run : List Entry} {entry : Entry} → IsRun config run → Next config run entry → Unopened run
    → Unopened (entry ∷ run)
next_unopened {config} {run} legal (did {session = session} {item = item} h is_next) unopened link high =
    opens_unopened run session item
    (step_opens_next run session (numbered_of legal) (of_next config (record_of session run) item is_next)) unopened link high
next_unopened legal (answered h a) unopened link high = unopened link high
next_unopened {run = run} legal (heard {session = session} {item = item} quiet none u) unopened link high =
    opens_unopened run session item (heard_opens_next run session (first_of (each_of legal) (each_of legal).tells u).hearable) unopened link high
next_unopened legal (observes quiet unasked u o) unopened link high = unopened link high

pub unopened : {config : Config} {run : List Entry} → IsRun config run → Unopened run
unopened starts link high = refl
unopened (came legal quiet) link high = unopened legal link high
unopened {config} (goes_on {run = run} {entry = entry} legal e) link high =
    next_unopened legal (of_next_entry config run entry e) (unopened legal) link high
unopened (starves legal h once can its) link high = unopened legal link high
