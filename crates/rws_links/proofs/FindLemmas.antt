-- What is found in the table of a record is what the record says.
use Rattle.std.proofs.Common.{◌≡◌, ℕ, Bool, true, false, List, [], ◌∷◌, map, length, filter, refl, sym, ap, subst, ◌∙◌, Option, Some, None}
use Rattle.std.proofs.lemmas.Bool.{and_parts}
use Rattle.std.proofs.lemmas.List.Sums.{length-filter}
use Rattle.std.specs.Prelude.{◌==◌, ◌&&◌, count_by, is_some, is_none, if◌then◌else◌}
use Rattle.rws_link.specs.Stepping.{LinkState, LogsIn, Rests, Awaits, IsLost}
use Rattle.rws_link.specs.Linking.{is_awaiting, kept}
use Rattle.rws_routing.specs.declared.routing.Check.{Check}
use Rattle.rws_routing.specs.Routings.{is_at}
use Rattle.rws_config.specs.declared.config.Config.{Config}
use Rattle.rws_commands.specs.declared.command.Command.{Command}
use Rattle.rws_commands.specs.declared.history.HistoryEntry.{HistoryEntry}
use Rattle.rws_commands.specs.Statements.{Statements, is_behind, last_serial, stale_on, unplayed}
use Rattle.rws_record.specs.Item.{Item, Purpose}
use Rattle.rws_record.specs.Item.Item.{Puts}
use Rattle.rws_record.specs.Item.Put.{Sends}
use Rattle.rws_record.specs.Item.Purpose.{Prepares, Plays}
use Rattle.rws_record.specs.Values.{asking_for, awaited, contains, cursor as played_on, goes_on, is_up, linked, links, pending, routing, sent_on, server_of, statements}
use Rattle.rws_record.specs.Values.{first_to as first_link_to}
use Rattle.rws_record.specs.Rules.{◌or◌, ask_by, behind_stale, due_sends, is_link, is_ready, is_same, play_by, prepare_by}
use Rattle.rws_record.specs.Run.{is_owed_on}
use Rattle.rws_links.specs.declared.finding.Due.{Due}
use Rattle.rws_links.specs.declared.finding.DueKind.{DueKind}
use Rattle.rws_links.specs.declared.finding.DueKind.TheVariants.{Preamble, Entry as AnEntry, Command as ACommand}
use Rattle.rws_links.specs.Finding.{due_by, due_on, first_due, first_to, is_open, leads_to, or_behind, owes_to}
use Rattle.rws_links.specs.Links.{link_of}
use Rattle.rws_links.proofs.TableLemmas.{itself}

-- The links to a server

pub first_is : (past : List Item) (server : ℕ) (links : List ℕ) → first_to server (map (link_of past) links) ≡ first_link_to server links past
first_is past server [] = refl
first_is past server (link ∷ others) = by_test (server_of link past == server) (first_is past server others)
  where
    by_test : (test : Bool) → first_to server (map (link_of past) others) ≡ first_link_to server others past
        → (if test then Some link else first_to server (map (link_of past) others)) ≡ (if test then Some link else first_link_to server others past)
    by_test true behind = refl
    by_test false behind = behind

links_filtered : (past : List Item) (server : ℕ) (links : List ℕ)
    → length (filter (leads_to server) (map (link_of past) links)) ≡ length (filter (λ link. server_of link past == server) links)
links_filtered past server [] = refl
links_filtered past server (link ∷ others) = by_test (server_of link past == server) refl (links_filtered past server others)
  where
    by_test : (test : Bool) → (server_of link past == server) ≡ test
        → length (filter (leads_to server) (map (link_of past) others)) ≡ length (filter (λ link. server_of link past == server) others)
        → length (filter (leads_to server) (map (link_of past) (link ∷ others)))
        ≡ length (filter (λ link. server_of link past == server) (link ∷ others))
    by_test true t behind = rw (t, behind) refl
    by_test false t behind = rw t behind

pub links_are : (past : List Item) (server : ℕ) (links : List ℕ)
    → count_by (leads_to server) (map (link_of past) links) ≡ length (filter (λ link. server_of link past == server) links)
links_are past server links = sym (length-filter (leads_to server) (map (link_of past) links)) ∙ links_filtered past server links

awaits_is : (state : LinkState) → is_awaiting (kept state) ≡ is_some (awaited state)
awaits_is (LogsIn handshake unread) = refl
awaits_is Rests = refl
awaits_is (Awaits e unread) = refl
awaits_is (IsLost cause) = refl

pending_filtered : (past : List Item) (server : ℕ) (links : List ℕ)
    → length (filter (owes_to server) (map (link_of past) links))
    ≡ length (filter (λ link. is_owed_on link past) (filter (λ link. server_of link past == server) links))
pending_filtered past server [] = refl
pending_filtered past server (link ∷ others) =
    by_tests (server_of link past == server) (is_owed_on link past) refl refl (pending_filtered past server others)
  where
    by_tests : (to owed : Bool) → (server_of link past == server) ≡ to → is_owed_on link past ≡ owed
        → length (filter (owes_to server) (map (link_of past) others))
        ≡ length (filter (λ link. is_owed_on link past) (filter (λ link. server_of link past == server) others))
        → length (filter (owes_to server) (map (link_of past) (link ∷ others)))
        ≡ length (filter (λ link. is_owed_on link past) (filter (λ link. server_of link past == server) (link ∷ others)))
    by_tests true true t o behind = rw (t, awaits_is (linked link past), o, behind) refl
    by_tests true false t o behind = rw (t, awaits_is (linked link past), o) behind
    by_tests false owed t o behind = rw t behind

pub pending_are : (past : List Item) (server : ℕ) (links : List ℕ)
    → count_by (owes_to server) (map (link_of past) links)
    ≡ length (filter (λ link. is_owed_on link past) (filter (λ link. server_of link past == server) links))
pending_are past server links = sym (length-filter (owes_to server) (map (link_of past) links)) ∙ pending_filtered past server links

-- What is due

-- an entry of the history is played on a link; before, its server is told to close a statement that has left
abbrev pub playing : ℕ → (stale : Option ℕ) → Option HistoryEntry → Option Item
playing link stale (Some entry) = Some (behind_stale link stale (Plays entry))
playing link stale None = None

-- and so where a command goes there
abbrev pub asks : ℕ → (stale : Option ℕ) → Option Purpose → Option Item
asks link stale (Some purpose) = Some (behind_stale link stale purpose)
asks link stale None = None

-- the item of what is due, where the statements and the history are these and this command waits, whose server is asked `check` first
abbrev pub item_of : (seconds : ℕ) → Option Check → Statements → Option Command → (link entry : ℕ) → DueKind → Option Item
item_of seconds check s command link entry Preamble = Some (Puts (Sends link Prepares))
item_of seconds check s command link entry AnEntry = playing link (stale_on link s) (unplayed entry s)
item_of seconds check s command link entry ACommand = asks link (stale_on link s) (asking_for seconds check command link s.table.links)

abbrev pub due_item : (seconds : ℕ) → Option Check → Statements → Option Command → Option Due → Option Item
due_item seconds check s command (Some due) = item_of seconds check s command due.link due.entry due.what
due_item seconds check s command None = None

-- the link that a command waits for
abbrev pub waits_for : Option Command → (sent goes : Option ℕ) → Option ℕ
waits_for command sent goes = if (is_some command && is_none sent) then goes else None

abbrev due_so : (ready up : Bool) → ℕ → (stale : Option ℕ) → (entry : Option HistoryEntry) → (goes : Option ℕ) → Option Purpose → (sent : Option ℕ) → Option Item
due_so ready up link stale entry goes purpose sent =
    prepare_by (is_same false up && ready) link
    or (play_by (is_same true up && ready) link stale entry
    or ask_by (is_same true up && ready) link stale (is_link link goes) purpose sent)

-- a command is due on a link that has played all
ask_is : (seconds : ℕ) (check : Option Check) (s : Statements) (cursor link : ℕ) (goes : Option ℕ) (command : Option Command) (sent : Option ℕ)
    (item : Option Item) (due : Option Due) → item ≡ due_item seconds check s command due
    → ask_by true link (stale_on link s) (is_link link goes) (asking_for seconds check command link s.table.links) sent or item
    ≡ due_item seconds check s command (or_behind (due_by true true false (is_at link (waits_for command sent goes))) link cursor due)
ask_is seconds check s cursor link goes None sent item due e = by_goes goes
  where
    by_goes : (goes : Option ℕ) → ask_by true link (stale_on link s) (is_link link goes) None sent or item ≡ due_item seconds check s None due
    by_goes None = e
    by_goes (Some other) = by_test (other == link)
      where
        by_test : (test : Bool) → ask_by true link (stale_on link s) test None sent or item ≡ due_item seconds check s None due
        by_test true = e
        by_test false = e
ask_is seconds check s cursor link None (Some command) None item due e = e
ask_is seconds check s cursor link (Some other) (Some command) None item due e = by_test (other == link)
  where
    by_test : (test : Bool)
        → ask_by true link (stale_on link s) test (asking_for seconds check (Some command) link s.table.links) None or item
        ≡ due_item seconds check s (Some command) (or_behind (due_by true true false test) link cursor due)
    by_test true = refl
    by_test false = e
ask_is seconds check s cursor link None (Some command) (Some on) item due e = e
ask_is seconds check s cursor link (Some other) (Some command) (Some on) item due e = by_test (other == link)
  where
    by_test : (test : Bool)
        → ask_by true link (stale_on link s) test (asking_for seconds check (Some command) link s.table.links) (Some on) or item
        ≡ due_item seconds check s (Some command) due
    by_test true = e
    by_test false = e

step_is : (seconds : ℕ) (check : Option Check) (s : Statements) (last : Option ℕ) (cursor : ℕ)
    → is_some (unplayed cursor s) ≡ is_behind last cursor → (ready up : Bool) (link : ℕ) (goes : Option ℕ) (command : Option Command) (sent : Option ℕ) (item : Option Item) (due : Option Due) → item ≡ due_item seconds check s command due
    → due_so ready up link (stale_on link s) (unplayed cursor s) goes (asking_for seconds check command link s.table.links) sent or item
    ≡ due_item seconds check s command (or_behind (due_by ready up (is_behind last cursor) (is_at link (waits_for command sent goes))) link cursor due)
step_is seconds check s last cursor plays false true link goes command sent item due e = e
step_is seconds check s last cursor plays false false link goes command sent item due e = e
step_is seconds check s last cursor plays true false link goes command sent item due e = refl
step_is seconds check s last cursor plays true true link goes command sent item due e = by_entry (unplayed cursor s) refl
  where
    by_entry : (entry : Option HistoryEntry) → unplayed cursor s ≡ entry
        → due_so true true link (stale_on link s) entry goes (asking_for seconds check command link s.table.links) sent or item
        ≡ due_item seconds check s command (or_behind (due_by true true (is_behind last cursor) (is_at link (waits_for command sent goes))) link cursor due)
    by_entry None none =
        let behind : is_behind last cursor ≡ false = sym plays ∙ ap is_some none in
        rw behind (ask_is seconds check s cursor link goes command sent item due e)
    by_entry (Some entry) is =
        let behind : is_behind last cursor ≡ true = sym plays ∙ ap is_some is in
        rw behind (sym (ap (playing link (stale_on link s)) is))

open_is : (state : LinkState) → is_open (kept state) ≡ is_ready state
open_is (LogsIn handshake unread) = refl
open_is Rests = refl
open_is (Awaits e unread) = refl
open_is (IsLost cause) = refl

-- a link has an entry to play where it hasn't played the last one
pub due_is : (config : Config) (past : List Item) (numbers : List ℕ)
    → ((link : ℕ) → is_some (unplayed (played_on link past) (statements config past))
    ≡ is_behind (last_serial (statements config past).history) (played_on link past))
    → ((link : ℕ) → contains link numbers ≡ true → contains link (links past) ≡ true)
    → due_sends config numbers past
    ≡ due_item config.causal_timeout_s (routing config past).check (statements config past) (pending past)
    (first_due (waits_for (pending past) (sent_on past) (goes_on config past)) (last_serial (statements config past).history)
    (map (link_of past) numbers))
due_is config past [] plays has = refl
due_is config past (link ∷ others) plays has =
    rw (has link (rw (itself link) refl), open_is (linked link past))
    (step_is config.causal_timeout_s (routing config past).check (statements config past) (last_serial (statements config past).history)
    (played_on link past) (plays link) (is_ready (linked link past)) (is_up link past) link (goes_on config past) (pending past) (sent_on past) _ _
    (due_is config past others plays (λ other in_others. has other (behind other in_others))))
  where
    behind : (other : ℕ) → contains other others ≡ true → contains other (link ∷ others) ≡ true
    behind other in_others = by_test (link == other)
      where
        by_test : (test : Bool) → (if test then true else contains other others) ≡ true
        by_test true = refl
        by_test false = in_others

-- entries of the history and commands of the client go on links that are prepared
abbrev pub needs_up : DueKind → Bool
needs_up Preamble = false
needs_up AnEntry = true
needs_up ACommand = true

-- where something is due it may go
may_go : (ready up plays goes : Bool) (what : DueKind) → due_by ready up plays goes ≡ Some what
    → (is_same (needs_up what) up && ready) ≡ true
may_go true false plays goes Preamble e = refl
may_go true false plays goes AnEntry e = absurd cc
may_go true false plays goes ACommand e = absurd cc
may_go true true plays goes AnEntry e = refl
may_go true true plays goes ACommand e = refl
may_go true true true goes Preamble e = absurd cc
may_go true true false true Preamble e = absurd cc
may_go true true false false Preamble e = absurd cc
may_go false up plays goes what e = absurd cc

abbrev can_go : Due → List Item → List ℕ → Bool
can_go due past numbers =
    contains due.link numbers && (is_same (needs_up due.what) (is_up due.link past) && is_ready (linked due.link past))

pub due_can_go : (past : List Item) (goes last : Option ℕ) (numbers : List ℕ) (due : Due)
    → first_due goes last (map (link_of past) numbers) ≡ Some due → can_go due past numbers ≡ true
due_can_go past goes last [] due e = absurd cc
due_can_go past goes last (link ∷ others) due e =
    by_first (due_on goes last (link_of past link)) refl e (due_can_go past goes last others due)
  where
    here : (what : DueKind) → due_on goes last (link_of past link) ≡ Some what
        → can_go (record { link = link; what = what; entry = played_on link past }) past (link ∷ others) ≡ true
    here what d =
        let plays : Bool = is_behind last (played_on link past) in
        let ready : due_by (is_ready (linked link past)) (is_up link past) plays (is_at link goes) ≡ Some what = rw (open_is (linked link past)) at d in
        rw (itself link) (may_go (is_ready (linked link past)) (is_up link past) plays (is_at link goes) what ready)

    behind : can_go due past others ≡ true → can_go due past (link ∷ others) ≡ true
    behind can =
        let parts = and_parts (contains due.link others) (is_same (needs_up due.what) (is_up due.link past) && is_ready (linked due.link past)) can in
        by_test (link == due.link) parts.0 parts.1
      where
        by_test : (test : Bool) → contains due.link others ≡ true
            → (is_same (needs_up due.what) (is_up due.link past) && is_ready (linked due.link past)) ≡ true
            → ((if test then true else contains due.link others)
            && (is_same (needs_up due.what) (is_up due.link past) && is_ready (linked due.link past))) ≡ true
        by_test true has may = may
        by_test false has may = rw has may

    by_first : (first : Option DueKind) → due_on goes last (link_of past link) ≡ first
        → or_behind first link (played_on link past) (first_due goes last (map (link_of past) others)) ≡ Some due
        → (first_due goes last (map (link_of past) others) ≡ Some due → can_go due past others ≡ true)
        → can_go due past (link ∷ others) ≡ true
    by_first (Some what) d e later =
        let same : record { link = link; what = what; entry = played_on link past } ≡ due = cc in
        subst (λ (it : Due). can_go it past (link ∷ others) ≡ true) same (here what d)
    by_first None d e later = behind (later e)
