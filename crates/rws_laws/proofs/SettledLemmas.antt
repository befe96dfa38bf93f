-- Where the transaction of a session is open, and where the pending command goes.
use Rattle.std.proofs.Common.{◌≡◌, ℕ, Bool, true, false, List, refl, sym, ap, subst, ◌∙◌, Option, Some, None}
use Rattle.std.specs.Prelude.{◌&&◌, ◌||◌, is_none, is_some, not, if◌then◌else◌}
use Rattle.rws_class.specs.declared.class.Class.{Class}
use Rattle.rws_class.specs.declared.class.Class.TheVariants.{Read, PrimaryRead, Write, Session, Begin, BeginReadOnly, Commit, Rollback, AutocommitOn, AutocommitOff, TrxLocal, Ddl, Refused as Forbidden, Other}
use Rattle.rws_reply.specs.declared.kind.Outcome.{Outcome}
use Rattle.rws_reply.specs.declared.kind.Outcome.TheVariants.{Done, Failed}
use Rattle.rws_trx.specs.declared.state.Course.TheVariants.{GoesOn, Begins, IsNone}
use Rattle.rws_trx.specs.declared.state.Open.{Open}
use Rattle.rws_trx.specs.declared.state.Open.TheVariants.{Nothing as NotOpen, ReadWrite, ReadOnly}
use Rattle.rws_trx.specs.declared.state.TrxState.{TrxState}
use Rattle.rws_trx.specs.declared.transaction.Answer.{Answer}
use Rattle.rws_trx.specs.declared.transaction.Transaction.{Transaction}
use Rattle.rws_trx.specs.Transactions.{begins, begins_read_only, goes_on as stays_open, is_open, is_read_only as opens_read_only, is_transaction, shows_open}
use Rattle.rws_trx.specs.OnLinks.{IsPlaced, answered, by_course}
use Rattle.rws_route.specs.declared.destination.Target.{Target}
use Rattle.rws_route.specs.declared.destination.Target.TheVariants.{Primary, Replica, NoPrimary as Nowhere}
use Rattle.rws_route.specs.Targets.{may_leave_primary, only_reads}
use Rattle.rws_routing.specs.Routings.{is_at, is_primary}
use Rattle.rws_config.specs.declared.config.Config.{Config}
use Rattle.rws_commands.specs.declared.command.Command.{Command}
use Rattle.rws_record.specs.Item.{Item}
use Rattle.rws_commands.specs.Judging.{changes}
use Rattle.rws_commands.specs.Commands.{class_of_command}
use Rattle.rws_record.specs.Values.{answer_to, answered_by, answered_if, class_by_pending, goes_on, kept_on, length_by, or_link, pending, prepares, shown_by, pinned, routing, sent_on, server_of, speaks, statements, transaction}
use Rattle.rws_commands.specs.Statements.{is_full}
use Rattle.rws_laws.specs.Causes.{IsAt, SetsSession, found_last}
use Rattle.rws_laws.specs.Causes.IsAt.{primary, replica}
use Rattle.rws_laws.specs.Causes.SetsSession.{sets, sets_autocommit, unsets_autocommit}
use Rattle.rws_laws.specs.Laws.{found_lately}
use Rattle.rws_laws.proofs.GoingLemmas.{Aimed}
use Rattle.rws_laws.proofs.PinnedLemmas.{goes_pinned}
use Rattle.rws_laws.proofs.Sound.{same_some}
use Rattle.rws_laws.proofs.TransactionLemmas.{both}

-- the link goes to the server that the last route gave as primary
abbrev pub AtPrimary : ℕ → List Item → Type 0
AtPrimary link past = found_lately past ≡ Some (Primary (server_of link past))

pub record Settled (config : Config) (past : List Item) : Type 0 where
  -- while a read-only transaction is open, the pending command changes nothing
  pub bars : (command : Command) → pending past ≡ Some command → (transaction config past).state.opened ≡ ReadOnly
      → changes (is_full config.history_limit (statements config past)) (class_of_command command) ≡ false
  -- it is routed to a replica only where it may leave the primary
  pub leaves : (command : Command) (server : ℕ) → pending past ≡ Some command → found_last past ≡ Some (Replica server)
      → may_leave_primary (class_of_command command) (transaction config past).state.autocommit false ≡ true
  pub aims : (routing config past).target ≡ found_last past
  pub lately : (found : Target) → found_last past ≡ Some found → found_lately past ≡ Some found
  -- where it was sent by its route, it went there
  pub goes : (link : ℕ) → sent_on past ≡ Some link → pinned config past ≡ None → Aimed link past
  pub placed : IsPlaced (transaction config past)
  -- the session is kept at the primary, and a transaction that may write is open there
  pub stays : (link : ℕ) → kept_on past ≡ Some link → AtPrimary link past
  pub writes : (link : ℕ) → (transaction config past).link ≡ Some link → (transaction config past).state.opened ≡ ReadWrite → AtPrimary link past

-- Where the pending command goes: to the primary, to a replica by its route, or on the link of a read-only transaction

pub data Where (config : Config) (link : ℕ) (class : Class) (past : List Item) : Type 0 where
  at_primary : AtPrimary link past → Where config link class past
  elsewhere : (server : ℕ) → pinned config past ≡ None → found_last past ≡ Some (Replica server)
      → may_leave_primary class (transaction config past).state.autocommit false ≡ true → Where config link class past
  reading : (transaction config past).state.opened ≡ ReadOnly → changes (is_full config.history_limit (statements config past)) class ≡ false → Where config link class past

module _ (config : Config) (past : List Item) (link : ℕ) (command : Command) (its : Settled config past) (w : pending past ≡ Some command)
    (g : goes_on config past ≡ Some link) (aimed : pinned config past ≡ None → Aimed link past) where
  by_aim : pinned config past ≡ None → (found : Target) → found_last past ≡ Some found → IsAt (server_of link past) found
      → Where config link (class_of_command command) past
  by_aim p found f primary = at_primary (its.lately found f)
  by_aim p found f replica = elsewhere (server_of link past) p f (its.leaves command (server_of link past) w f)

  by_opened : (transaction config past).link ≡ Some link → (opened : Open) → (transaction config past).state.opened ≡ opened
      → Where config link (class_of_command command) past
  by_opened h NotOpen o =
      let clash : true ≡ false = sym (ap is_some h) ∙ its.placed ∙ ap is_transaction o in absurd cc
  by_opened h ReadWrite o = at_primary (its.writes link h o)
  by_opened h ReadOnly o = reading o (its.bars command w o)

  by_links : (kept home : Option ℕ) → kept_on past ≡ kept → (transaction config past).link ≡ home → Where config link (class_of_command command) past
  by_links (Some on) home k h =
      let pinned_is : pinned config past ≡ Some on = ap (λ (at : Option ℕ). or_link at (transaction config past).link) k in
      let same : on ≡ link = goes_pinned (pinned config past) (routing config past).assigned on link pinned_is g in
      at_primary (its.stays link (k ∙ ap Some same))
  by_links None (Some on) k h =
      let pinned_is : pinned config past ≡ Some on = ap (λ (at : Option ℕ). or_link at (transaction config past).link) k ∙ h in
      let same : on ≡ link = goes_pinned (pinned config past) (routing config past).assigned on link pinned_is g in
      by_opened (h ∙ ap Some same) (transaction config past).state.opened refl
  by_links None None k h =
      let pinned_is : pinned config past ≡ None = ap (λ (at : Option ℕ). or_link at (transaction config past).link) k ∙ h in
      let found = aimed pinned_is in by_aim pinned_is found.0 found.1 found.2

  pub where_it_goes : Where config link (class_of_command command) past
  where_it_goes = by_links (kept_on past) (transaction config past).link refl refl

-- A command that keeps the session goes to the primary

other_changes : (full : Bool) (class : Class) → class ≡ Other → changes full class ≡ true
other_changes full class c = ap (changes full) c

pub kept_at : {config : Config} {link : ℕ} {class : Class} {past : List Item} → class ≡ Other → Where config link class past → AtPrimary link past
kept_at c (at_primary a) = a
kept_at {class = class} {past = past} c (elsewhere server p f leave) =
    let clash : false ≡ true = sym (ap only_reads c) ∙ (both (only_reads class) _ leave).0 in absurd cc
kept_at {config} {class = class} {past = past} c (reading o none) =
    let clash : true ≡ false = sym (other_changes (is_full config.history_limit (statements config past)) class c) ∙ none in absurd cc

-- and so does one that sets it, where the history is full

set_reads : {class : Class} → SetsSession class → only_reads class ≡ false
set_reads sets = refl
set_reads sets_autocommit = refl
set_reads unsets_autocommit = refl

set_changes : {class : Class} → SetsSession class → changes true class ≡ true
set_changes sets = refl
set_changes sets_autocommit = refl
set_changes unsets_autocommit = refl

pub filled_at : {config : Config} {link : ℕ} {class : Class} {past : List Item} → SetsSession class → is_full config.history_limit (statements config past) ≡ true
    → Where config link class past → AtPrimary link past
filled_at set full (at_primary a) = a
filled_at {class = class} set full (elsewhere server p f leave) =
    let clash : false ≡ true = sym (set_reads set) ∙ (both (only_reads class) _ leave).0 in absurd cc
filled_at {config} {class = class} {past = past} set full (reading o none) =
    let clash : true ≡ false = sym (set_changes set) ∙ sym (ap (λ (test : Bool). changes test class) full) ∙ none in absurd cc

-- And one that opens a transaction in which it may write

begins_changes : (full : Bool) (class : Class) → begins class ≡ true → changes full class ≡ true
begins_changes full Begin e = refl
begins_changes full BeginReadOnly e = refl
begins_changes full Read e = absurd cc
begins_changes full PrimaryRead e = absurd cc
begins_changes full Write e = absurd cc
begins_changes full Session e = absurd cc
begins_changes full Commit e = absurd cc
begins_changes full Rollback e = absurd cc
begins_changes full AutocommitOn e = absurd cc
begins_changes full AutocommitOff e = absurd cc
begins_changes full TrxLocal e = absurd cc
begins_changes full Ddl e = absurd cc
begins_changes full Forbidden e = absurd cc
begins_changes full Other e = absurd cc

-- a reply of a replica speaks of the transaction only where its command begins a read-only one
replica_speaks : (pinned : Option ℕ) (link : ℕ) (class : Class) (target : Option Target) (server : ℕ) → pinned ≡ None → target ≡ Some (Replica server)
    → (is_at link pinned || ((is_none pinned && is_primary target) || begins_read_only class)) ≡ true → begins_read_only class ≡ true
replica_speaks None link class (Some (Replica at)) server p t s = s
replica_speaks None link class (Some (Primary at)) server p t s = absurd cc
replica_speaks None link class (Some Nowhere) server p t s = absurd cc
replica_speaks None link class None server p t s = absurd cc
replica_speaks (Some on) link class target server p t s = absurd cc

negated : (test : Bool) → not test ≡ false → test ≡ true
negated true e = refl
negated false e = absurd cc

module _ (config : Config) (past : List Item) (link : ℕ) (class : Class) (status : ℕ) (its : Settled config past) where
  abbrev state : TrxState
  state = (transaction config past).state

  -- another transaction is open behind its reply, which isn't read-only
  opens_at : stays_open class status state ≡ false → shows_open status ≡ true → opens_read_only class state ≡ false
      → speaks (pinned config past) link class (routing config past) ≡ true → Where config link class past → AtPrimary link past
  opens_at g s ro speaking (at_primary a) = a
  opens_at g s ro speaking (elsewhere server p f leave) =
      let reads : begins_read_only class ≡ true =
      replica_speaks (pinned config past) link class (routing config past).target server p (its.aims ∙ f) speaking in
      let on : state.autocommit ≡ true = (both state.autocommit true (both (only_reads class) (state.autocommit && true) leave).1).0 in
      let home : (transaction config past).link ≡ None = free (kept_on past) (transaction config past).link p in
      let closed : is_open state ≡ false = sym its.placed ∙ ap is_some home in
      let clash : true ≡ false = sym (opens_so reads on closed) ∙ ro in absurd cc
    where
      free : (kept home : Option ℕ) → or_link kept home ≡ None → home ≡ None
      free (Some at) home p = absurd cc
      free None home p = p

      opens_so : begins_read_only class ≡ true → state.autocommit ≡ true → is_open state ≡ false → opens_read_only class state ≡ true
      opens_so reads on closed = rw (reads, on, closed) refl
  opens_at g s ro speaking (reading o none) =
      let opened : is_open state ≡ true = ap is_transaction o in
      let begun : begins class ≡ true = negated (begins class) (only_left opened) in
      let clash : true ≡ false = sym (begins_changes (is_full config.history_limit (statements config past)) class begun) ∙ none in absurd cc
    where
      only_left : is_open state ≡ true → not (begins class) ≡ false
      only_left opened = let left : not (begins class) ≡ false = rw (opened, s) at g in left

-- A reply ends

-- that to the pending command, which came on a link and showed this
abbrev answer_with : Option Command → ℕ → Outcome → Answer
answer_with command link shown = record { link = link; class = class_by_pending command; bytes = length_by command; outcome = shown }

module _ (config : Config) (past : List Item) (link : ℕ) (found : Option Command) (its : Settled config past)
    (there : Where config link (class_by_pending found) past) (at : ℕ) where
  abbrev t : Transaction
  t = transaction config past

  abbrev class : Class
  class = class_by_pending found

  by_open : (opened : Bool) → by_course (if opened then GoesOn else IsNone) t.link (Some link) None ≡ Some at → t.state.opened ≡ ReadWrite
      → AtPrimary at past
  by_open true e w = its.writes at e w
  by_open false e w = absurd cc

  by_status : (status : ℕ) (g s ro : Bool) → stays_open class status t.state ≡ g → shows_open status ≡ s → opens_read_only class t.state ≡ ro
      → speaks (pinned config past) link class (routing config past) ≡ true
      → by_course (if g then GoesOn else (if s then Begins else IsNone)) t.link (Some link) None ≡ Some at
      → (if g then t.state.opened else (if not s then NotOpen else (if ro then ReadOnly else ReadWrite))) ≡ ReadWrite → AtPrimary at past
  by_status status true s ro is_g is_s is_ro speaking e w = its.writes at e w
  by_status status false false ro is_g is_s is_ro speaking e w = absurd cc
  by_status status false true true is_g is_s is_ro speaking e w = absurd cc
  by_status status false true false is_g is_s is_ro speaking e w =
      subst (λ (l : ℕ). AtPrimary l past) (same_some link at e) (opens_at config past link class status its is_g is_s is_ro speaking there)

  by_shown : (outcome : Outcome) → speaks (pinned config past) link class (routing config past) ≡ true
      → (answered (answer_with found link outcome) t).link ≡ Some at → (answered (answer_with found link outcome) t).state.opened ≡ ReadWrite
      → AtPrimary at past
  by_shown (Failed code) speaking e w = by_open (is_open t.state) e w
  by_shown (Done status) speaking e w =
      by_status status (stays_open class status t.state) (shows_open status) (opens_read_only class t.state) refl refl refl speaking e w

  by_speaking : (outcome : Outcome) (speaking : Bool) → speaks (pinned config past) link class (routing config past) ≡ speaking
      → (answered_if speaking (answer_to found link outcome t.state) t).link ≡ Some at
      → (answered_if speaking (answer_to found link outcome t.state) t).state.opened ≡ ReadWrite → AtPrimary at past
  by_speaking outcome true s e w = by_shown (shown_by (prepares found) outcome t.state) s e w
  by_speaking outcome false s e w = its.writes at e w

  pub writes_then : (outcome : Outcome) → (answered_by (kept_on past) found link outcome (routing config past) t).link ≡ Some at
      → (answered_by (kept_on past) found link outcome (routing config past) t).state.opened ≡ ReadWrite → AtPrimary at past
  writes_then outcome e w = by_speaking outcome (speaks (pinned config past) link class (routing config past)) refl e w

-- A transaction is open where it is open on a link

module _ (link : ℕ) (found : Option Command) (t : Transaction) (placed : IsPlaced t) where
  failed_placed : (opened : Bool) → is_open t.state ≡ opened
      → is_some (by_course (if opened then GoesOn else IsNone) t.link (Some link) None) ≡ is_transaction t.state.opened
  failed_placed true o = placed
  failed_placed false o = sym o

  done_placed : (g s ro : Bool) → is_some (by_course (if g then GoesOn else (if s then Begins else IsNone)) t.link (Some link) None)
      ≡ is_transaction (if g then t.state.opened else (if not s then NotOpen else (if ro then ReadOnly else ReadWrite)))
  done_placed true s ro = placed
  done_placed false false ro = refl
  done_placed false true true = refl
  done_placed false true false = refl

  shown_placed : (outcome : Outcome) → IsPlaced (answered (answer_with found link outcome) t)
  shown_placed (Failed code) = failed_placed (is_open t.state) refl
  shown_placed (Done status) =
      done_placed (stays_open (class_by_pending found) status t.state) (shows_open status) (opens_read_only (class_by_pending found) t.state)

  pub answered_placed : (speaking : Bool) (outcome : Outcome) → IsPlaced (answered_if speaking (answer_to found link outcome t.state) t)
  answered_placed true outcome = shown_placed (shown_by (prepares found) outcome t.state)
  answered_placed false outcome = placed
