-- A transaction that may write is open at the server that the last route gave as primary.
use Rattle.std.proofs.Common.{inl, inr, arith, ◌≡◌, ℕ, Bool, true, false, List, [], ◌∷◌, length, refl, sym, ap, subst, ◌∙◌, Option, Some, None}
use Rattle.std.specs.Prelude.{◌≢◌, ◌≤◌, not, if◌then◌else◌, ◌&&◌}
use Rattle.std.proofs.lemmas.Bool.{cases_lt, le-ltb, lt-ltb}
use Rattle.rws_class.specs.declared.class.Class.{Class}
use Rattle.rws_reply.specs.Replies.{Payload}
use Rattle.rws_native.specs.declared.login.Login.{Login}
use Rattle.rws_pool.specs.declared.words.PoolWords.{PoolWords}
use Rattle.rws_select.specs.declared.selector.Load.{Load}
use Rattle.rws_select.specs.Choice.{choice_of}
use Rattle.rws_trx.specs.declared.transaction.Transaction.{Transaction}
use Rattle.rws_trx.specs.OnLinks.{IsPlaced}
use Rattle.rws_route.specs.declared.destination.Target.{Target}
use Rattle.rws_route.specs.declared.destination.Target.TheVariants.{Primary, Replica, NoPrimary as Nowhere}
use Rattle.rws_route.specs.Targets.{candidates_of, is_in, may_leave_primary, primary_of, primary_target, read_target, target_of, unless_tried, only_reads as reads_only}
use Rattle.rws_routing.specs.declared.routing.Routing.{Routing}
use Rattle.rws_routing.specs.Routings.{is_at, lost, tried_by}
use Rattle.rws_config.specs.declared.config.Config.{Config}
use Rattle.rws_commands.specs.declared.command.Command.{Command}
use Rattle.rws_commands.specs.declared.proxy_error.ProxyError.{ProxyError}
use Rattle.rws_commands.specs.declared.proxy_error.ProxyError.TheVariants.{UnknownCommand, NotSupported, UnknownStatement, BadExecute, TooManyStatements, NotInReadOnly, TooManyConnections, CommandTooLarge, NoPrimary, PrimaryBehind, OutOfMemory}
use Rattle.rws_commands.specs.declared.judged.Judged.{Judged}
use Rattle.rws_record.specs.Item.{Ending, Item, Put, Recording}
use Rattle.rws_record.specs.Item.Item.{Accepted, TurnsAway, Began, ClientBytes, LinkReady, LinkBytes, ClientGone, LinkLost, Ticks, Routed, Comes, Connects, Takes, Floods, Puts, Starves}
use Rattle.rws_record.specs.Item.Put.{Hands, Tells, Records, Routes, Opens, LogsInto, Sends, Forgets, Drops, Closes}
use Rattle.rws_record.specs.Item.Purpose.{Prepares, Asks, Plays, Waits, Probes}
use Rattle.rws_record.specs.Item.Recording.{Nothing, Accepts, Keeps}
use Rattle.rws_record.specs.Item.Tell.{Passes, Owns, Refuses}
use Rattle.rws_commands.specs.Judging.{changes}
use Rattle.rws_commands.specs.Statements.{is_full}
use Rattle.rws_commands.specs.Commands.{class_of_command, keeps}
use Rattle.rws_record.specs.Values.{banned, checked_on, class_by_pending, goes_on, kept_by, kept_on, or_link, pending, pinned, routing, sent_on, server_of, speaks, statements, transaction}
use Rattle.rws_record.specs.Rules.{found_in, situation}
use Rattle.rws_record.specs.Record.{IsRecord}
use Rattle.rws_laws.specs.Client.{Took}
use Rattle.rws_laws.specs.Causes.{AreCaused, IsAt, IsOpening, found_last}
use Rattle.rws_laws.specs.Laws.{WritesAtPrimary, found_lately}
use Rattle.rws_laws.proofs.AimedLemmas.{goes_where_found}
use Rattle.rws_laws.proofs.CausesLemmas.{causes}
use Rattle.rws_laws.proofs.CheckLemmas.{heard_target}
use Rattle.rws_laws.proofs.HistoryLemmas.{Shrinks, moves, refused_moves, shorter}
use Rattle.rws_laws.proofs.GivenLemmas.{keeps_is}
use Rattle.rws_laws.proofs.GoingLemmas.{Aimed}
use Rattle.rws_laws.proofs.ItemLemmas.{by_items, routed_so, taken_changes_none, took_so}
use Rattle.rws_laws.proofs.PinnedLemmas.{asked_nowhere, neither_link, pinned_nowhere, sent_goes}
use Rattle.rws_laws.proofs.ReplyLemmas.{unless_before}
use Rattle.rws_laws.proofs.SettledLemmas.{AtPrimary, Settled, Where, answered_placed, filled_at, kept_at, where_it_goes, writes_then}
use Rattle.rws_laws.proofs.Sound.{same_some}
use Rattle.rws_laws.proofs.TransactionLemmas.{only_reads}
use Rattle.rws_class.specs.declared.class.Class.TheVariants.{Read, PrimaryRead, Write, Session, Begin, BeginReadOnly, Commit, Rollback, AutocommitOn, AutocommitOff, TrxLocal, Ddl, Refused as Forbidden, Other}

-- where the history has more room, a command changes no more

abbrev pub IsFull : Config → List Item → Type 0
IsFull config past = is_full config.history_limit (statements config past) ≡ true

pub changes_less : (full now : Bool) (class : Class) → (now ≡ true → full ≡ true) → changes full class ≡ false → changes now class ≡ false
changes_less true now Session less none = absurd cc
changes_less false true Session less none = let clash : false ≡ true = less refl in absurd cc
changes_less false false Session less none = refl
changes_less full now Read less none = none
changes_less full now PrimaryRead less none = none
changes_less full now Write less none = none
changes_less full now Begin less none = none
changes_less full now BeginReadOnly less none = none
changes_less full now Commit less none = none
changes_less full now Rollback less none = none
changes_less full now AutocommitOn less none = none
changes_less full now AutocommitOff less none = none
changes_less full now TrxLocal less none = none
changes_less full now Ddl less none = none
changes_less full now Forbidden less none = none
changes_less full now Other less none = none

pub less_full : (config : Config) (past now : List Item) → Shrinks (statements config past).history (statements config now).history → IsFull config now → IsFull config past
less_full config past now shrinks full =
    let less = shorter shrinks in
    elim (cases_lt (length (statements config past).history) config.history_limit) [
      | inl below ↦
          let room = lt-ltb (length (statements config now).history) config.history_limit (omega arith) in
          let clash : false ≡ true = sym (ap not room) ∙ full in absurd cc
      | inr above ↦ ap not (le-ltb (length (statements config past).history) config.history_limit above)
    ]

pub refused_full : (config : Config) (past : List Item) (number : ℕ) (error : ProxyError) → IsFull config (Puts (Tells number (Refuses error)) ∷ past)
    → IsFull config past
refused_full config past number error = less_full config past (Puts (Tells number (Refuses error)) ∷ past) (refused_moves config past number error)

-- An item that changes nothing of it

data IsQuiet (config : Config) (item : Item) (past : List Item) : Type 0 where
  quiet : ((command : Command) → pending (item ∷ past) ≡ Some command → pending past ≡ Some command)
      → transaction config (item ∷ past) ≡ transaction config past → (IsFull config (item ∷ past) → IsFull config past)
      → (routing config (item ∷ past)).target ≡ (routing config past).target → found_last (item ∷ past) ≡ found_last past
      → found_lately (item ∷ past) ≡ found_lately past → ((link : ℕ) → sent_on (item ∷ past) ≡ Some link → sent_on past ≡ Some link)
      → kept_on (item ∷ past) ≡ kept_on past → ((link : ℕ) → server_of link (item ∷ past) ≡ server_of link past) → IsQuiet config item past

still : {config : Config} {past : List Item} {item : Item} → IsQuiet config item past → Settled config past → Settled config (item ∷ past)
still {config} {past} {item} (quiet w t f r l y o k s) its = record {
  bars = λ command p only.
      changes_less (is_full config.history_limit (statements config past)) (is_full config.history_limit (statements config (item ∷ past)))
      (class_of_command command) f (its.bars command (w command p) (sym (ap (λ (x : Transaction). x.state.opened) t) ∙ only));
  leaves = λ command server p found.
      ap (λ (x : Transaction). may_leave_primary (class_of_command command) x.state.autocommit false) t
      ∙ its.leaves command server (w command p) (sym l ∙ found);
  aims = r ∙ its.aims ∙ sym l;
  lately = λ found e. y ∙ its.lately found (sym l ∙ e);
  goes = λ link e free.
      let aimed = its.goes link (o link e) (sym same_pin ∙ free) in
      (aimed.0, l ∙ aimed.1, subst (λ (server : ℕ). IsAt server aimed.0) (sym (s link)) aimed.2);
  placed = subst IsPlaced (sym t) its.placed;
  stays = λ link e. at_still link (its.stays link (sym k ∙ e));
  writes = λ link e opened.
      at_still link (its.writes link (sym (ap (λ (x : Transaction). x.link) t) ∙ e) (sym (ap (λ (x : Transaction). x.state.opened) t) ∙ opened));
}
  where
    same_pin : pinned config (item ∷ past) ≡ pinned config past
    same_pin =
        ap (λ (on : Option ℕ). or_link on (transaction config (item ∷ past)).link) k
        ∙ ap (λ (x : Transaction). or_link (kept_on past) x.link) t

    at_still : (link : ℕ) → AtPrimary link past → AtPrimary link (item ∷ past)
    at_still link a = y ∙ a ∙ ap (λ (server : ℕ). Some (Primary server)) (sym (s link))

-- A session that has only begun

none_yet : (config : Config) → Settled config []
none_yet config = record {
  bars = λ command p only. absurd cc;
  leaves = λ command server p found. absurd cc;
  aims = refl;
  lately = λ found e. absurd cc;
  goes = λ link e free. absurd cc;
  placed = refl;
  stays = λ link e. absurd cc;
  writes = λ link e opened. absurd cc;
}

begun : (config : Config) (link server reading : ℕ) (past : List Item) → past ≡ [] → Settled config (Began link server reading ∷ past)
begun config link server reading past is =
    subst (λ (p : List Item). Settled config (Began link server reading ∷ p)) (sym is) (record {
      bars = λ command p only. absurd cc;
      leaves = λ command server p found. absurd cc;
      aims = refl;
      lately = λ found e. absurd cc;
      goes = λ link e free. absurd cc;
      placed = refl;
      stays = λ link e. absurd cc;
      writes = λ link e opened. absurd cc;
    })

-- A route is found, in a session that is pinned nowhere

not_replica : (tried : ℕ) (primary : Option ℕ) (server : ℕ) → unless_tried tried primary ≡ Replica server → ⊥
not_replica tried None server e = absurd cc
not_replica tried (Some place) server e = by_test (is_in tried place) e
  where
    by_test : (test : Bool) → (if test then Nowhere else Primary place) ≡ Replica server → ⊥
    by_test true e = absurd cc
    by_test false e = absurd cc

-- to a replica goes only what may leave the primary
replica_found : (class : Class) (autocommit sent_back : Bool) (words : PoolWords) (loads : List Load) (tried banned server : ℕ)
    → target_of class autocommit sent_back words loads tried banned ≡ Replica server → may_leave_primary class autocommit sent_back ≡ true
replica_found class autocommit sent_back words loads tried banned server e = by_test (may_leave_primary class autocommit sent_back) e
  where
    by_test : (test : Bool)
        → (if test then read_target (choice_of (candidates_of words.servers loads tried banned)) (primary_target words.servers tried)
        else primary_target words.servers tried) ≡ Replica server → test ≡ true
    by_test true e = refl
    by_test false e = absurd (not_replica tried (primary_of words.servers) server e)

-- one that was sent back may not
not_back : (class : Class) (autocommit sent_back : Bool) → may_leave_primary class autocommit sent_back ≡ true → may_leave_primary class autocommit false ≡ true
not_back class autocommit false may = may
not_back class autocommit true may = by_tests (reads_only class) autocommit may
  where
    by_tests : (reads its : Bool) → (reads && (its && not true)) ≡ true → (reads && (its && not false)) ≡ true
    by_tests true true may = absurd cc
    by_tests true false may = absurd cc
    by_tests false its may = absurd cc

module _ (config : Config) (past : List Item) (its : Settled config past) where
  -- where the session is pinned nowhere
  pinned_to_none : {A : Type 0} (link : ℕ) → pinned config past ≡ None → kept_on past ≡ Some link → A
  pinned_to_none link free k =
      let none = (neither_link (kept_on past) (transaction config past).link free).0 in
      absurd (let clash : None ≡ Some link = sym none ∙ k in cc)

  open_on_none : {A : Type 0} (link : ℕ) → pinned config past ≡ None → (transaction config past).link ≡ Some link → A
  open_on_none link free h =
      let none = (neither_link (kept_on past) (transaction config past).link free).1 in
      absurd (let clash : None ≡ Some link = sym none ∙ h in cc)

  sent_nowhere : {A : Type 0} (link : ℕ) → goes_on config past ≡ None → AreCaused config past → sent_on past ≡ Some link → A
  sent_nowhere link none caused s = absurd (let clash : None ≡ Some link = sym none ∙ sent_goes config past caused link s in cc)

  routed : (words : PoolWords) (loads : List Load) (next : ℕ) (found : Target) → IsRecord config (Routed words loads next found ∷ past)
      → Settled config (Routed words loads next found ∷ past)
  routed words loads next found legal =
      let caused = causes config (Routed words loads next found ∷ past) legal in
      let none : goes_on config past ≡ None = asked_nowhere config past caused.1.0 caused.1.1 caused.2 in
      let free : pinned config past ≡ None = pinned_nowhere (pinned config past) (routing config past).assigned none in
      record {
        bars = its.bars;
        leaves = λ command server p e.
            let is : found_in config past words loads ≡ Replica server =
            sym (routed_so config past words loads next found legal) ∙ same_some found (Replica server) e in
            subst (λ (c : Option Command). may_leave_primary (class_by_pending c) (transaction config past).state.autocommit false ≡ true) p
            (not_back (class_by_pending (pending past)) (transaction config past).state.autocommit (routing config past).sent_back
            (replica_found (class_by_pending (pending past)) (transaction config past).state.autocommit (routing config past).sent_back words loads (routing config past).tried
            (banned past) server is));
        aims = refl;
        lately = λ other e. e;
        goes = λ link e pin. sent_nowhere link none caused.2 e;
        placed = its.placed;
        stays = λ link k. pinned_to_none link free k;
        writes = λ link h opened. open_on_none link free h;
      }

  -- and a link is opened just then
  opened_free : (link server : ℕ) → IsOpening config link server past → AreCaused config past → pinned config past ≡ None
  opened_free link server its_opening caused =
      let routed_then : AreCaused config (Routed its_opening.words its_opening.loads link its_opening.found ∷ its_opening.below) =
      subst (AreCaused config) its_opening.answered caused in
      let none : goes_on config its_opening.below ≡ None =
      asked_nowhere config its_opening.below routed_then.1.0 routed_then.1.1 routed_then.2 in
      ap (pinned config) its_opening.answered
      ∙ pinned_nowhere (pinned config its_opening.below) (routing config its_opening.below).assigned none

  opened : (link server : ℕ) (login : Login) → IsOpening config link server past → AreCaused config past
      → Settled config (Puts (Opens link server login) ∷ past)
  opened link server login its_opening caused =
      let free = opened_free link server its_opening caused in
      record {
        bars = its.bars;
        leaves = its.leaves;
        aims = its.aims;
        lately = its.lately;
        goes = λ at e pin. absurd (let clash : None ≡ Some at = sym its_opening.unsent ∙ e in cc);
        placed = its.placed;
        stays = λ at k. pinned_to_none at free k;
        writes = λ at h opened. open_on_none at free h;
      }

  -- A command is taken up

  taken : (it : Judged) (number : ℕ) (payload : Payload) → Took config payload number (Takes it number ∷ past) → Settled config (Takes it number ∷ past)
  taken it number payload took = record {
    bars = λ command p only.
        let so = took_so config payload it number past took in
        changes_less (is_full config.history_limit (statements config past)) (is_full config.history_limit (statements config (Takes it number ∷ past)))
        (class_of_command command) (less_full config past (Takes it number ∷ past) (moves config past (Takes it number) tt))
        (taken_changes_none (situation config past) (statements config past) payload number past command so.0
        ((only_reads (transaction config past).state.opened).1 only) (subst (λ (judged : Judged). pending (Takes judged number ∷ past) ≡ Some command) so.1 p));
    leaves = λ command server p found. absurd cc;
    aims = refl;
    lately = λ found e. absurd cc;
    goes = λ link e pin. absurd cc;
    placed = its.placed;
    stays = its.stays;
    writes = its.writes;
  }

  -- It is sent

  sent : (link : ℕ) (command : Command) (id : Option ℕ) → config.accounts ≢ [] → IsRecord config (Puts (Sends link (Asks command id)) ∷ past)
      → Settled config (Puts (Sends link (Asks command id)) ∷ past)
  sent link command id some legal = record {
    bars = its.bars;
    leaves = its.leaves;
    aims = its.aims;
    lately = its.lately;
    goes = λ at e pin. subst (λ (l : ℕ). Aimed l past) (same_some link at e) (aimed (kept_before (kept_on past) refl pin));
    placed = its.placed;
    stays = λ at k. by_kept at (kept_on past) refl k;
    writes = its.writes;
  }
    where
      aimed : pinned config past ≡ None → Aimed link past
      aimed free = goes_where_found config past link command id some legal free

      kept_before : (kept : Option ℕ) → kept_on past ≡ kept
          → or_link (kept_by (class_of_command command) link kept) (transaction config past).link ≡ None → pinned config past ≡ None
      kept_before (Some on) k pin = absurd cc
      kept_before None k pin =
          ap (λ (on : Option ℕ). or_link on (transaction config past).link) k
          ∙ (neither_link (if keeps (class_of_command command) then Some link else None) (transaction config past).link pin).1

      by_test : (at : ℕ) (test : Bool) → keeps (class_of_command command) ≡ test → (if test then Some link else None) ≡ Some at → AtPrimary at past
      by_test at true t e =
          let caused = causes config (Puts (Sends link (Asks command id)) ∷ past) legal in
          subst (λ (l : ℕ). AtPrimary l past) (same_some link at e)
          (kept_at (keeps_is (class_of_command command) t) (where_it_goes config past link command its caused.0.0.waits caused.0.2 aimed))
      by_test at false t e = absurd cc

      by_kept : (at : ℕ) (kept : Option ℕ) → kept_on past ≡ kept → kept_by (class_of_command command) link kept ≡ Some at → AtPrimary at past
      by_kept at (Some on) k e = its.stays at (k ∙ e)
      by_kept at None k e = by_test at (keeps (class_of_command command)) refl e

  -- Its reply ends

  full_so : config.history_limit ≤ length (statements config past).history → IsFull config past
  full_so above = ap not (le-ltb (length (statements config past).history) config.history_limit above)

  module _ (number link : ℕ) (command : Command) (payload : Payload) (ending : Ending) (recording : Recording)
      (legal : IsRecord config (Puts (Tells number (Passes link command payload (Some ending) recording)) ∷ past)) where
    caused : AreCaused config (Puts (Tells number (Passes link command payload (Some ending) recording)) ∷ past)
    caused = causes config (Puts (Tells number (Passes link command payload (Some ending) recording)) ∷ past) legal

    waits : pending past ≡ Some command
    waits = caused.0.0.of_reply.pending.waits

    there : Where config link (class_of_command command) past
    there =
        where_it_goes config past link command its waits (sent_goes config past caused.1 link caused.0.0.of_reply.sent)
        (its.goes link caused.0.0.of_reply.sent)

    its_there : Where config link (class_by_pending (pending past)) past
    its_there = subst (λ (found : Option Command). Where config link (class_by_pending found) past) (sym waits) there

    ended : ((at : ℕ) → kept_on (Puts (Tells number (Passes link command payload (Some ending) recording)) ∷ past) ≡ Some at → AtPrimary at past)
        → Settled config (Puts (Tells number (Passes link command payload (Some ending) recording)) ∷ past)
    ended kept = record {
      bars = λ other p only. absurd cc;
      leaves = λ other server p found. absurd cc;
      aims = its.aims;
      lately = its.lately;
      goes = λ at e pin. absurd cc;
      placed = answered_placed link (pending past) (transaction config past) its.placed
          (speaks (pinned config past) link (class_by_pending (pending past)) (routing config past)) ending.outcome;
      stays = kept;
      writes = λ at h opened. writes_then config past link (pending past) its its_there at ending.outcome h opened;
    }

  told : (number link : ℕ) (command : Command) (payload : Payload) (ending : Ending) (recording : Recording)
      → IsRecord config (Puts (Tells number (Passes link command payload (Some ending) recording)) ∷ past)
      → Settled config (Puts (Tells number (Passes link command payload (Some ending) recording)) ∷ past)
  told number link command payload ending Nothing legal = ended number link command payload ending Nothing legal its.stays
  told number link command payload ending Accepts legal = ended number link command payload ending Accepts legal its.stays
  told number link command payload ending Keeps legal =
      ended number link command payload ending Keeps legal (λ at e.
      let its_full = (caused number link command payload ending Keeps legal).0.3 in
      subst (λ (l : ℕ). AtPrimary l past) (same_some link at e)
      (filled_at its_full.0.class (full_so its_full.1) (there number link command payload ending Keeps legal)))

-- What else is given out

pub refused_waits : (past : List Item) (number : ℕ) (error : ProxyError) (command : Command)
    → pending (Puts (Tells number (Refuses error)) ∷ past) ≡ Some command → pending past ≡ Some command
refused_waits past number UnknownCommand command e = e
refused_waits past number NotSupported command e = e
refused_waits past number UnknownStatement command e = e
refused_waits past number BadExecute command e = e
refused_waits past number TooManyStatements command e = e
refused_waits past number NotInReadOnly command e = e
refused_waits past number TooManyConnections command e = e
refused_waits past number CommandTooLarge command e = e
refused_waits past number NoPrimary command e = absurd cc
refused_waits past number (PrimaryBehind wanted found) command e = absurd cc
refused_waits past number OutOfMemory command e = e

refused_aims : (config : Config) (past : List Item) (number : ℕ) (error : ProxyError)
    → (routing config (Puts (Tells number (Refuses error)) ∷ past)).target ≡ (routing config past).target
refused_aims config past number UnknownCommand = refl
refused_aims config past number NotSupported = refl
refused_aims config past number UnknownStatement = refl
refused_aims config past number BadExecute = refl
refused_aims config past number TooManyStatements = refl
refused_aims config past number NotInReadOnly = refl
refused_aims config past number TooManyConnections = refl
refused_aims config past number CommandTooLarge = refl
refused_aims config past number NoPrimary = refl
refused_aims config past number (PrimaryBehind wanted found) = refl
refused_aims config past number OutOfMemory = refl

lost_aims : (gone : ℕ) (r : Routing) → (lost gone r).target ≡ r.target
lost_aims gone r = by_test (is_at gone r.assigned)
  where
    by_test : (test : Bool) → (if test then record r { assigned = None; tried = tried_by r.target r.tried } else r).target ≡ r.target
    by_test true = refl
    by_test false = refl

-- Each item

put_settled : (config : Config) (put : Put) (past : List Item) → config.accounts ≢ [] → IsRecord config (Puts put ∷ past) → Settled config past
    → Settled config (Puts put ∷ past)
put_settled config (Tells number (Passes link command payload (Some ending) recording)) past some legal its =
    told config past its number link command payload ending recording legal
put_settled config (Tells number (Passes link command payload None recording)) past some legal its =
    still (quiet (λ c e. e) refl (λ full. full) refl refl refl (λ l e. e) refl (λ l. refl)) its
put_settled config (Tells number (Owns status)) past some legal its =
    still (quiet (λ c e. e) refl (λ full. full) refl refl refl (λ l e. e) refl (λ l. refl)) its
put_settled config (Tells number (Refuses error)) past some legal its =
    still (quiet (refused_waits past number error) refl (refused_full config past number error) (refused_aims config past number error) refl refl (λ l e. e) refl (λ l. refl)) its
put_settled config (Sends link (Asks command id)) past some legal its = sent config past its link command id some legal
put_settled config (Sends link Prepares) past some legal its =
    still (quiet (λ c e. e) refl (λ full. full) refl refl refl (λ l e. e) refl (λ l. refl)) its
put_settled config (Sends link (Waits gtid seconds)) past some legal its =
    still (quiet (λ c e. e) refl (λ full. full) refl refl refl (λ l e. e) refl (λ l. refl)) its
put_settled config (Sends link (Probes gtid)) past some legal its =
    still (quiet (λ c e. e) refl (λ full. full) refl refl refl (λ l e. e) refl (λ l. refl)) its
put_settled config (Sends link (Plays entry)) past some legal its =
    still (quiet (λ c e. e) refl (λ full. full) refl refl refl (λ l e. e) refl (λ l. refl)) its
put_settled config (Opens link server login) past some legal its =
    let caused = causes config (Puts (Opens link server login) ∷ past) legal in
    opened config past its link server login caused.0.0 caused.1
put_settled config (Drops gone cause) past some legal its =
    still (quiet (λ c e. e) refl (λ full. full) (lost_aims gone (routing config past)) refl refl
    (λ l e. (unless_before gone l (sent_on past) e).0) refl (λ l. refl)) its
put_settled config (Hands packets) past some legal its =
    still (quiet (λ c e. e) refl (λ full. full) refl refl refl (λ l e. e) refl (λ l. refl)) its
put_settled config (Records server gtid) past some legal its =
    still (quiet (λ c e. e) refl (λ full. full) refl refl refl (λ l e. e) refl (λ l. refl)) its
put_settled config Routes past some legal its = still (quiet (λ c e. e) refl (λ full. full) refl refl refl (λ l e. e) refl (λ l. refl)) its
put_settled config (Forgets link id) past some legal its =
    still (quiet (λ c e. e) refl (λ full. full) refl refl refl (λ l e. e) refl (λ l. refl)) its
put_settled config (LogsInto link packets) past some legal its =
    still (quiet (λ c e. e) refl (λ full. full) refl refl refl (λ l e. e) refl (λ l. refl)) its
put_settled config (Closes reason) past some legal its = still (quiet (λ c e. e) refl (λ full. full) refl refl refl (λ l e. e) refl (λ l. refl)) its

item_settled : (config : Config) (item : Item) (past : List Item) → config.accounts ≢ [] → IsRecord config (item ∷ past) → Settled config past
    → Settled config (item ∷ past)
item_settled config (Puts put) past some legal its = put_settled config put past some legal its
item_settled config (Began link server reading) past some legal its =
    begun config link server reading past (causes config (Began link server reading ∷ past) legal).1
item_settled config (Routed words loads next found) past some legal its = routed config past its words loads next found legal
item_settled config (Takes it number) past some legal its =
    let took = (causes config (Takes it number ∷ past) legal).1 in taken config past its it number took.0 took.1
item_settled config (LinkLost gone) past some legal its =
    still (quiet (λ c e. e) refl (λ full. full) (lost_aims gone (routing config past)) refl refl
    (λ l e. (unless_before gone l (sent_on past) e).0) refl (λ l. refl)) its
item_settled config (Accepted session scramble reading) past some legal its =
    still (quiet (λ c e. e) refl (λ full. full) refl refl refl (λ l e. e) refl (λ l. refl)) its
item_settled config (TurnsAway told) past some legal its = still (quiet (λ c e. e) refl (λ full. full) refl refl refl (λ l e. e) refl (λ l. refl)) its
item_settled config (ClientBytes bytes) past some legal its = still (quiet (λ c e. e) refl (λ full. full) refl refl refl (λ l e. e) refl (λ l. refl)) its
item_settled config (LinkReady link) past some legal its = still (quiet (λ c e. e) refl (λ full. full) refl refl refl (λ l e. e) refl (λ l. refl)) its
item_settled config (LinkBytes link bytes) past some legal its =
    still (quiet (λ c e. e) refl (λ full. full) refl refl refl (λ l e. e) refl (λ l. refl)) its
item_settled config ClientGone past some legal its = still (quiet (λ c e. e) refl (λ full. full) refl refl refl (λ l e. e) refl (λ l. refl)) its
item_settled config (Ticks reading) past some legal its = still (quiet (λ c e. e) refl (λ full. full) refl refl refl (λ l e. e) refl (λ l. refl)) its
item_settled config (Comes link said) past some legal its = still (quiet (λ c e. e) refl (less_full config past (Comes link said ∷ past) (moves config past (Comes link said) tt)) (heard_target (checked_on link said past) (routing config past)) refl refl (λ l e. e) refl (λ l. refl)) its
item_settled config (Connects said) past some legal its = still (quiet (λ c e. e) refl (λ full. full) refl refl refl (λ l e. e) refl (λ l. refl)) its
item_settled config (Floods bytes) past some legal its = still (quiet (λ c e. e) refl (λ full. full) refl refl refl (λ l e. e) refl (λ l. refl)) its
item_settled config (Starves made number) past some legal its =
    still (quiet (λ c e. e) refl (λ full. full) refl refl refl (λ l e. e) refl (λ l. refl)) its

pub writes_at_primary : WritesAtPrimary
writes_at_primary config past link some legal h opened =
    (by_items (Settled config) (none_yet config) (λ item below whole its. item_settled config item below some whole its) legal).writes link h opened
