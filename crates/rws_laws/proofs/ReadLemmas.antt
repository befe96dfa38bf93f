-- A command that only reads goes to a server that has what it is to see, and nothing else is asked for before it.
use Rattle.std.proofs.Common.{◌≡◌, ℕ, ◌<◌, ◌≤◌, Bool, true, false, List, [], ◌∷◌, refl, sym, ap, subst, ◌∙◌, inl, inr, Option, Some, None}
use Rattle.std.specs.Prelude.{◌⊎◌, nat_le, nat_eq, Result, Ok, Err, codes, Contains, if◌then◌else◌}
use Rattle.std.specs.Cmp.Lexicographic.{pointwise, bytes_decides}
use Rattle.std.proofs.lemmas.Bool.{leb-false, leb-true}
use Rattle.rws_gtid.specs.declared.Gtid.{Gtid}
use Rattle.rws_gtid.specs.declared.GtidFault.{GtidFault}
use Rattle.rws_gtid.specs.Parsing.{position_in}
use Rattle.rws_result.specs.OneValues.{heard, value_of}
use Rattle.rws_causal.specs.declared.causal.Causal.{Causal}
use Rattle.rws_causal.specs.declared.causal.Causal.TheVariants.{Go, TryPrimary, Wait as WaitsFirst, Probe as ProbesFirst, Stale, Unreadable}
use Rattle.rws_causal.specs.Rules.{after_probe, after_wait, at_position, before_read, reached, wanted}
use Rattle.rws_class.specs.declared.class.Class.{Class}
use Rattle.rws_pool.specs.declared.words.PoolWords.{PoolWords}
use Rattle.rws_pool.specs.Machine.{seen_at}
use Rattle.rws_select.specs.declared.selector.Load.{Load}
use Rattle.rws_route.specs.declared.destination.Target.{Target}
use Rattle.rws_route.specs.declared.destination.Target.TheVariants.{Primary, Replica, NoPrimary as Nowhere}
use Rattle.rws_route.specs.Targets.{only_reads}
use Rattle.rws_routing.specs.declared.routing.Check.{Check}
use Rattle.rws_routing.specs.declared.routing.Check.TheVariants.{Wait, Probe}
use Rattle.rws_routing.specs.declared.routing.Routing.{Routing}
use Rattle.rws_reply.specs.declared.kind.Kind.TheVariants.{Query as QueryReply}
use Rattle.rws_reply.specs.declared.kind.Outcome.{Outcome}
use Rattle.rws_reply.specs.declared.kind.Progress.TheVariants.{More, Whole as Ends}
use Rattle.rws_reply.specs.declared.role.Role.{Role}
use Rattle.rws_reply.specs.Replies.{Payload}
use Rattle.rws_reply.specs.Tracking.{progress, role}
use Rattle.rws_link.specs.declared.step.LinkStep.{LinkStep}
use Rattle.rws_link.specs.declared.step.LinkStep.TheVariants as steps
use Rattle.rws_link.specs.Stepping.{Awaits, Exchange, is_some_byte}
use Rattle.rws_config.specs.declared.config.Config.{Config}
use Rattle.rws_commands.specs.declared.command.Command.{Command}
use Rattle.rws_commands.specs.declared.proxy_error.ProxyError.{ProxyError}
use Rattle.rws_commands.specs.declared.proxy_error.ProxyError.TheVariants.{UnknownCommand, NotSupported, UnknownStatement, BadExecute, TooManyStatements, NotInReadOnly, TooManyConnections, CommandTooLarge, NoPrimary, PrimaryBehind, OutOfMemory}
use Rattle.rws_commands.specs.Commands.{class_of_command, keeps}
use Rattle.rws_record.specs.Item.{Item, Purpose, Put}
use Rattle.rws_record.specs.Item.Item.{Accepted, TurnsAway, Began, ClientBytes, LinkReady, LinkBytes, ClientGone, LinkLost, Ticks, Routed, Comes, Connects, Takes, Floods, Puts, Starves}
use Rattle.rws_record.specs.Item.Put.{Hands, Tells, Records, Routes, Opens, LogsInto, Sends, Forgets, Drops, Closes}
use Rattle.rws_record.specs.Item.Purpose.{Prepares, Asks, Plays, Waits, Probes}
use Rattle.rws_record.specs.Item.Tell.{Passes, Owns, Refuses}
use Rattle.rws_record.specs.Values.{asked_on, check_by, check_for, check_in, checked_by, checked_on, class_by_pending, exchange, heard_check, is_over, kept_by, kept_on, kind_of, link_held, linked, links, or_link, own, pending, pinned, routing, server_of, transaction, unread, value_on, valued_by}
use Rattle.rws_record.specs.Record.{IsRecord}
use Rattle.rws_record.specs.Record.IsRecord.{begins, steps as goes, answers as answered, hears, starves}
use Rattle.rws_record.proofs.LinkedLemmas.{awaits_asked}
use Rattle.rws_laws.specs.Causes.{AreCaused, AsksFirst, IsAt, IsBehind, IsRead, found_last}
use Rattle.rws_laws.specs.Causes.IsAt.{primary, replica}
use Rattle.rws_laws.specs.Servers.{asks_first}
use Rattle.rws_laws.specs.Laws.{ProbesForWhatIsWanted, ReadsSeeCommits, WaitsForWhatIsWanted}
use Rattle.rws_laws.specs.Reads.{EndsReply, HasTold, IsOfRoute, Route, Wants, position_by, route_last, wanted_by}
use Rattle.rws_laws.specs.Reads.HasTold.{waited, probed, since}
use Rattle.rws_laws.proofs.AimedLemmas.{goes_where_found}
use Rattle.rws_laws.proofs.CameLemmas.{Came, legal_came}
use Rattle.rws_laws.proofs.CausesLemmas.{causes}
use Rattle.rws_laws.proofs.CheckLemmas.{awaits_so, lost_wants}
use Rattle.rws_laws.proofs.CheckedLemmas.{none_left, value_is, whole_reply}
use Rattle.rws_laws.proofs.GoingLemmas.{assigned_before}
use Rattle.rws_laws.proofs.ItemLemmas.{by_items}
use Rattle.rws_laws.proofs.ListLemmas.{has_it}
use Rattle.rws_laws.proofs.OwedLemmas.{Arrived}
use Rattle.rws_laws.proofs.PinnedLemmas.{checks_so, neither_link}
use Rattle.rws_laws.proofs.Sound.{same_some}
use Rattle.rws_laws.proofs.WritesLemmas.{refused_waits}

-- What is asked first is what is wanted

abbrev gtid_of : Check → Gtid
gtid_of (Wait gtid) = gtid
gtid_of (Probe gtid) = gtid

abbrev target_for : Check → ℕ → Target
target_for (Wait gtid) server = Replica server
target_for (Probe gtid) server = Primary server

-- by a route, a command wants this commit of this server, which isn't known to have it
record ByRoute (config : Config) (command : Command) (check : Check) (route : Route) : Type 0 where
  reads : only_reads (class_of_command command) ≡ true
  server : ℕ
  at : route.found ≡ target_for check server
  wants : wanted_by config route ≡ Some (gtid_of check)
  below : position_by server route < (gtid_of check).sequence

-- what stands before a read
check_before : (its : Option Gtid) (position : ℕ) (on_primary : Bool) (check : Check) → check_in (before_read its position on_primary) ≡ Some check
    → (gtid : Gtid) × (its ≡ Some gtid) × (position < gtid.sequence) × ((if on_primary then Probe gtid else Wait gtid) ≡ check)
check_before None position on_primary check e = absurd cc
check_before (Some gtid) position on_primary check e = by_test (nat_le gtid.sequence position) refl on_primary e
  where
    by_test : (test : Bool) → nat_le gtid.sequence position ≡ test → (at_home : Bool)
        → check_in (if test then Go else (if at_home then ProbesFirst gtid else WaitsFirst gtid)) ≡ Some check
        → (its : Gtid) × (Some gtid ≡ Some its) × (position < its.sequence) × ((if at_home then Probe its else Wait its) ≡ check)
    by_test true t at_home e = absurd cc
    by_test false t true e = (gtid, refl, leb-false gtid.sequence position t, same_some (Probe gtid) check e)
    by_test false t false e = (gtid, refl, leb-false gtid.sequence position t, same_some (Wait gtid) check e)

module _ (config : Config) (past : List Item) (words : PoolWords) (loads : List Load) (next : ℕ) (command : Command) (check : Check)
    (p : pending past ≡ Some command) where
  abbrev route_to : Target → Route
  route_to found = record { words = words; found = found; below = past }

  -- at a server
  check_so : (reads : Bool) (server : ℕ) (on_primary : Bool) → check_by reads (wanted_by config (route_to (Primary server))) (seen_at words server).position on_primary ≡ Some check
      → (reads ≡ true) × ((gtid : Gtid) × (wanted_by config (route_to (Primary server)) ≡ Some gtid) × ((seen_at words server).position < gtid.sequence)
      × ((if on_primary then Probe gtid else Wait gtid) ≡ check))
  check_so true server on_primary e =
      (refl, check_before (wanted_by config (route_to (Primary server))) (seen_at words server).position on_primary check e)
  check_so false server on_primary e = absurd cc

  its_class : (class : Class) → class_by_pending (pending past) ≡ class → only_reads class ≡ true → only_reads (class_of_command command) ≡ true
  its_class class c reads = ap (λ (found : Option Command). only_reads (class_by_pending found)) (sym p) ∙ ap only_reads c ∙ reads

  routed_by : (found : Target) → check_for config.causal_reads (class_by_pending (pending past)) (own past) found words ≡ Some check
      → ByRoute config command check (route_to found)
  routed_by Nowhere e = absurd cc
  routed_by (Primary server) e =
      let so = check_so (only_reads (class_by_pending (pending past))) server true e in
      subst (λ (its : Check). ByRoute config command its (route_to (Primary server))) so.1.3 (record {
        reads = its_class (class_by_pending (pending past)) refl so.0;
        server = server;
        at = refl;
        wants = so.1.1;
        below = so.1.2;
      })
  routed_by (Replica server) e =
      let so = check_so (only_reads (class_by_pending (pending past))) server false e in
      subst (λ (its : Check). ByRoute config command its (route_to (Replica server))) so.1.3 (record {
        reads = its_class (class_by_pending (pending past)) refl so.0;
        server = server;
        at = refl;
        wants = so.1.1;
        below = so.1.2;
      })

heard_wanting : (checked : Option Causal) (r : Routing) (check : Check) → (heard_check checked r).check ≡ Some check → r.check ≡ Some check
heard_wanting None r check e = e
heard_wanting (Some Go) r check e = absurd cc
heard_wanting (Some TryPrimary) r check e = absurd cc
heard_wanting (Some (WaitsFirst gtid)) r check e = e
heard_wanting (Some (ProbesFirst gtid)) r check e = e
heard_wanting (Some (Stale wanted found)) r check e = e
heard_wanting (Some Unreadable) r check e = e

refused_wanting : (config : Config) (past : List Item) (number : ℕ) (error : ProxyError) (check : Check)
    → (routing config (Puts (Tells number (Refuses error)) ∷ past)).check ≡ Some check → (routing config past).check ≡ Some check
refused_wanting config past number UnknownCommand check e = e
refused_wanting config past number NotSupported check e = e
refused_wanting config past number UnknownStatement check e = e
refused_wanting config past number BadExecute check e = e
refused_wanting config past number TooManyStatements check e = e
refused_wanting config past number NotInReadOnly check e = e
refused_wanting config past number TooManyConnections check e = e
refused_wanting config past number CommandTooLarge check e = e
refused_wanting config past number NoPrimary check e = absurd cc
refused_wanting config past number (PrimaryBehind wanted found) check e = absurd cc
refused_wanting config past number OutOfMemory check e = e

abbrev WantsBy : Config → List Item → Command → Check → Type 0
WantsBy config past command check = (route : Route) × (route_last past ≡ Some route) × ByRoute config command check route

wants_by : (config : Config) (past : List Item) (command : Command) (check : Check) → pending past ≡ Some command → (routing config past).check ≡ Some check
    → WantsBy config past command check
wants_by config [] command check p e = absurd cc
wants_by config (Takes it number ∷ past) command check p e = absurd cc
wants_by config (Routed words loads next found ∷ past) command check p e =
    (record { words = words; found = found; below = past }, refl, routed_by config past words loads next command check p found e)
wants_by config (Comes link said ∷ past) command check p e =
    wants_by config past command check p (heard_wanting (checked_on link said past) (routing config past) check e)
wants_by config (LinkLost link ∷ past) command check p e = wants_by config past command check p (sym (lost_wants link (routing config past)) ∙ e)
wants_by config (Puts (Drops link cause) ∷ past) command check p e = wants_by config past command check p (sym (lost_wants link (routing config past)) ∙ e)
wants_by config (Puts (Tells number (Refuses error)) ∷ past) command check p e =
    wants_by config past command check (refused_waits past number error command p) (refused_wanting config past number error check e)
wants_by config (Puts (Tells number (Passes link its payload (Some ending) recording)) ∷ past) command check p e = absurd cc
wants_by config (Puts (Tells number (Passes link its payload None recording)) ∷ past) command check p e = wants_by config past command check p e
wants_by config (Puts (Tells number (Owns status)) ∷ past) command check p e = wants_by config past command check p e
wants_by config (Puts (Hands packets) ∷ past) command check p e = wants_by config past command check p e
wants_by config (Puts (Records server gtid) ∷ past) command check p e = wants_by config past command check p e
wants_by config (Puts Routes ∷ past) command check p e = wants_by config past command check p e
wants_by config (Puts (Opens link server login) ∷ past) command check p e = wants_by config past command check p e
wants_by config (Puts (LogsInto link packets) ∷ past) command check p e = wants_by config past command check p e
wants_by config (Puts (Sends link purpose) ∷ past) command check p e = wants_by config past command check p e
wants_by config (Puts (Forgets link id) ∷ past) command check p e = wants_by config past command check p e
wants_by config (Puts (Closes reason) ∷ past) command check p e = wants_by config past command check p e
wants_by config (Accepted session scramble reading ∷ past) command check p e = wants_by config past command check p e
wants_by config (TurnsAway told ∷ past) command check p e = wants_by config past command check p e
wants_by config (Began link server reading ∷ past) command check p e = wants_by config past command check p e
wants_by config (ClientBytes bytes ∷ past) command check p e = wants_by config past command check p e
wants_by config (LinkReady link ∷ past) command check p e = wants_by config past command check p e
wants_by config (LinkBytes link bytes ∷ past) command check p e = wants_by config past command check p e
wants_by config (ClientGone ∷ past) command check p e = wants_by config past command check p e
wants_by config (Ticks reading ∷ past) command check p e = wants_by config past command check p e
wants_by config (Connects said ∷ past) command check p e = wants_by config past command check p e
wants_by config (Floods bytes ∷ past) command check p e = wants_by config past command check p e
wants_by config (Starves made number ∷ past) command check p e = wants_by config past command check p e

asks_what_it_wants : (config : Config) (past : List Item) (link : ℕ) (check : Check) → AsksFirst config link check past
    → (server : ℕ) × Wants config (gtid_of check) server (target_for check server) past
asks_what_it_wants config past link check its =
    let by = wants_by config past its.command check its.pending.waits its.wanted in
    let so = by.2 in (
      so.server,
      record {
        command = its.command;
        pending = its.pending;
        reads = so.reads;
        route = by.0;
        last = by.1;
        at = so.at;
        wants = so.wants;
        below = so.below;
      },
    )

pub waits_for_what_is_wanted : WaitsForWhatIsWanted
waits_for_what_is_wanted config past link seconds gtid legal =
    asks_what_it_wants config past link (Wait gtid) (causes config (Puts (Sends link (Waits gtid seconds)) ∷ past) legal).0.0

pub probes_for_what_is_wanted : ProbesForWhatIsWanted
probes_for_what_is_wanted config past link gtid legal =
    asks_what_it_wants config past link (Probe gtid) (causes config (Puts (Sends link (Probes gtid)) ∷ past) legal).0

-- What a server told

-- a wait that ended by 0
waited_zero : (value : Option (List ℕ)) → after_wait value ≡ Go → value ≡ Some (codes "0")
waited_zero None e = absurd cc
waited_zero (Some text) e = by_test (pointwise nat_eq text (codes "0")) refl e
  where
    by_test : (test : Bool) → pointwise nat_eq text (codes "0") ≡ test → (if test then Go else TryPrimary) ≡ Go → Some text ≡ Some (codes "0")
    by_test true t e = ap (λ (its : List ℕ). Some its) ((bytes_decides text (codes "0")).0 t)
    by_test false t e = absurd cc

-- a probe that told of a position no lower
record Reaches (gtid : Gtid) (value : Option (List ℕ)) : Type 0 where
  list : List ℕ
  position : Option Gtid
  told : value ≡ Some list
  read : position_in gtid.domain list ≡ Ok position
  least : gtid.sequence ≤ reached position

probe_reaches : (gtid : Gtid) (value : Option (List ℕ)) → after_probe gtid value ≡ Go → Reaches gtid value
probe_reaches gtid None e = absurd cc
probe_reaches gtid (Some list) e = by_read (position_in gtid.domain list) refl e
  where
    by_test : (position : Option Gtid) → position_in gtid.domain list ≡ Ok position → (test : Bool) → nat_le gtid.sequence (reached position) ≡ test
        → (if test then Go else Stale gtid.sequence (reached position)) ≡ Go → Reaches gtid (Some list)
    by_test position r true t e =
        record { list = list; position = position; told = refl; read = r; least = leb-true gtid.sequence (reached position) t }
    by_test position r false t e = absurd cc

    by_read : (read : Result (Option Gtid) GtidFault) → position_in gtid.domain list ≡ read → at_position gtid.sequence read ≡ Go → Reaches gtid (Some list)
    by_read (Ok position) r e = by_test position r (nat_le gtid.sequence (reached position)) refl e
    by_read (Err fault) r e = absurd cc

-- the end of a reply to what was asked first says so
record ToldNow (config : Config) (past : List Item) (link : ℕ) (said : LinkStep) : Type 0 where
  e : Exchange
  check : Check
  has : Contains (links past) link
  owes : exchange link past ≡ Some e
  asked : asks_first (asked_on link past) ≡ Some check
  told : HasTold link (gtid_of check) (Comes link said ∷ past)

module _ (config : Config) (past : List Item) (link : ℕ) (e : Exchange) (payload rest : Payload) (number : ℕ) (arrived : Arrived past link e payload rest number)
    (its : Role) (outcome : Outcome) (r : role e.kind e.sofar payload ≡ Some its) (p : progress e.kind e.sofar payload ≡ Some (Ends outcome)) where
  abbrev the_end : LinkStep
  the_end = steps.Part payload its (Ends outcome) number (is_some_byte rest)

  its_kind : (purpose : Purpose) → asked_on link past ≡ Some purpose → e.kind ≡ kind_of purpose
  its_kind purpose asked =
      let was = awaits_asked link past e (link_held link past) arrived.state in
      let same : was.purpose ≡ purpose = same_some was.purpose purpose (sym was.is ∙ asked) in
      sym was.answered ∙ ap kind_of same

  ends_so : (check : Check) → e.kind ≡ QueryReply → EndsReply link (Comes link the_end ∷ past)
  ends_so check kind = record {
    outcome = outcome;
    whole = whole_reply config past link e payload rest number arrived kind its outcome r p;
    left = none_left config past link e payload rest number arrived kind its outcome r p;
  }

  by_asked : (asked : Option Purpose) → asked_on link past ≡ asked
      → checked_by the_end asked (valued_by the_end asked (value_on link past)) ≡ Some Go → ToldNow config past link the_end
  by_asked None q c = absurd cc
  by_asked (Some Prepares) q c = absurd cc
  by_asked (Some (Asks command id)) q c = absurd cc
  by_asked (Some (Plays entry)) q c = absurd cc
  by_asked (Some (Waits gtid seconds)) q c =
      let kind = its_kind (Waits gtid seconds) q in
      let value = value_is config past link e payload rest number arrived kind its outcome r p (Wait gtid) (ap asks_first q) in
      let go : after_wait (value_of (heard (value_on link past) payload)) ≡ Go = same_some (after_wait (value_of (heard (value_on link past) payload))) Go c in
      record {
        e = e;
        check = Wait gtid;
        has = arrived.has;
        owes = arrived.owes;
        asked = ap asks_first q;
        told = waited q (ends_so (Wait gtid) kind) (sym value ∙ waited_zero (value_of (heard (value_on link past) payload)) go);
      }
  by_asked (Some (Probes gtid)) q c =
      let kind = its_kind (Probes gtid) q in
      let value = value_is config past link e payload rest number arrived kind its outcome r p (Probe gtid) (ap asks_first q) in
      let go : after_probe gtid (value_of (heard (value_on link past) payload)) ≡ Go =
      same_some (after_probe gtid (value_of (heard (value_on link past) payload))) Go c in
      let by = probe_reaches gtid (value_of (heard (value_on link past) payload)) go in
      record {
        e = e;
        check = Probe gtid;
        has = arrived.has;
        owes = arrived.owes;
        asked = ap asks_first q;
        told = probed by.list by.position q (ends_so (Probe gtid) kind) (sym value ∙ by.told) by.read by.least;
      }

-- of what a link says nothing else lets a read go
behind_is : (more : Bool) (rest : List ℕ) → IsBehind more rest → is_some_byte rest ≡ more
behind_is true [] its = absurd (its refl)
behind_is true (byte ∷ rest) its = refl
behind_is false [] its = refl
behind_is false (byte ∷ rest) its = absurd cc

told_now : (config : Config) (past : List Item) (link : ℕ) (said : LinkStep) → is_over past ≡ false → IsRead config (Comes link said) past → Came past
    → checked_on link said past ≡ Some Go → ToldNow config past link said
told_now config past link (steps.Part payload its (Ends outcome) number more) n read came c =
    let awaits = awaits_so (linked link past) read.0 read.3 in
    let bytes : link_held link past ≡ awaits.0 = ap unread awaits.1 in
    let arrived : Arrived past link read.0 payload read.1 number = record {
      has = read.2;
      owes = read.3;
      state = awaits.1 ∙ ap (λ (held : List ℕ). Awaits read.0 held) (sym bytes);
      begins = read.4;
      came = came link read.0 read.3;
      goes = n;
    } in
    let same = behind_is more read.1 read.7 in
    subst (λ (behind : Bool). ToldNow config past link (steps.Part payload its (Ends outcome) number behind)) same
    (by_asked config past link read.0 payload read.1 number arrived its outcome read.5 read.6 (asked_on link past) refl
    (subst (λ (behind : Bool). checked_on link (steps.Part payload its (Ends outcome) number behind) past ≡ Some Go) (sym same) c))
told_now config past link (steps.Part payload its More number more) n read came c = absurd cc
told_now config past link (steps.Lost cause) n read came c = absurd cc
told_now config past link (steps.Send packets) n read came c = absurd cc
told_now config past link steps.LoggedIn n read came c = absurd cc
told_now config past link steps.Idle n read came c = absurd cc

-- What a read is to see, its server has

-- the server of its last route, where the command is assigned to a link and nothing is left to be asked
abbrev SeesBy : Config → ℕ → List Item → Type 0
SeesBy config link past =
    (route : Route) × (route_last past ≡ Some route) × (server : ℕ) × IsAt server route.found
    × ((gtid : Gtid) → wanted_by config route ≡ Some gtid → (gtid.sequence ≤ position_by server route) ⊎ HasTold link gtid past)

abbrev Sees : Config → List Item → Type 0
Sees config past =
    (link : ℕ) (command : Command) → pending past ≡ Some command → only_reads (class_of_command command) ≡ true → pinned config past ≡ None
    → (routing config past).assigned ≡ Some link → (routing config past).check ≡ None → SeesBy config link past

-- an item that changes nothing of it
sees_on : (config : Config) {past : List Item} (item : Item) (link : ℕ) → IsOfRoute item → route_last (item ∷ past) ≡ route_last past
    → SeesBy config link past → SeesBy config link (item ∷ past)
sees_on config item link of_route l its = (
  its.0,
  l ∙ its.1,
  its.2,
  its.3,
  λ gtid w. elim (its.4 gtid w) [
    | inl known ↦ inl known
    | inr told ↦ inr (since of_route told)
  ],
)

quiet : (config : Config) {past : List Item} (item : Item) → IsOfRoute item → route_last (item ∷ past) ≡ route_last past
    → ((command : Command) → pending (item ∷ past) ≡ Some command → pending past ≡ Some command)
    → (pinned config (item ∷ past) ≡ None → pinned config past ≡ None)
    → ((link : ℕ) → (routing config (item ∷ past)).assigned ≡ Some link → (routing config past).assigned ≡ Some link)
    → ((routing config (item ∷ past)).check ≡ None → (routing config past).check ≡ None) → Sees config past → Sees config (item ∷ past)
quiet config item of_route l w n a c sees = λ link command p reads free assigned none.
    sees_on config item link of_route l (sees link command (w command p) reads (n free) (a link assigned) (c none))

-- a route was found
known_by : (its : Option Gtid) (position : ℕ) (on_primary : Bool) → check_in (before_read its position on_primary) ≡ None → (gtid : Gtid) → its ≡ Some gtid
    → gtid.sequence ≤ position
known_by None position on_primary e gtid w = absurd cc
known_by (Some other) position on_primary e gtid w =
    let same : other ≡ gtid = same_some other gtid w in
    subst (λ (x : Gtid). x.sequence ≤ position) same (by_test (nat_le other.sequence position) refl on_primary e)
  where
    by_test : (test : Bool) → nat_le other.sequence position ≡ test → (at_home : Bool)
        → check_in (if test then Go else (if at_home then ProbesFirst other else WaitsFirst other)) ≡ None → other.sequence ≤ position
    by_test true t at_home e = leb-true other.sequence position t
    by_test false t true e = absurd cc
    by_test false t false e = absurd cc

module _ (config : Config) (past : List Item) (words : PoolWords) (loads : List Load) (next : ℕ) where
  known_so : (reads : Bool) → reads ≡ true → (its : Option Gtid) (position : ℕ) (on_primary : Bool) → check_by reads its position on_primary ≡ None → (gtid : Gtid)
      → its ≡ Some gtid → gtid.sequence ≤ position
  known_so true reads its position on_primary e gtid w = known_by its position on_primary e gtid w
  known_so false reads its position on_primary e gtid w = absurd cc

  reads_so : (command : Command) → pending past ≡ Some command → only_reads (class_of_command command) ≡ true → only_reads (class_by_pending (pending past)) ≡ true
  reads_so command p reads = ap (λ (found : Option Command). only_reads (class_by_pending found)) p ∙ reads

  routed_sees : (found : Target) → Sees config (Routed words loads next found ∷ past)
  routed_sees Nowhere = λ link command p reads free assigned none. absurd cc
  routed_sees (Primary server) = λ link command p reads free assigned none. (
    record { words = words; found = Primary server; below = past },
    refl,
    server,
    primary,
    λ gtid w. inl (known_so (only_reads (class_by_pending (pending past))) (reads_so command p reads) (wanted config.causal_reads words (own past))
        (seen_at words server).position true none gtid w),
  )
  routed_sees (Replica server) = λ link command p reads free assigned none. (
    record { words = words; found = Replica server; below = past },
    refl,
    server,
    replica,
    λ gtid w. inl (known_so (only_reads (class_by_pending (pending past))) (reads_so command p reads) (wanted config.causal_reads words (own past))
        (seen_at words server).position false none gtid w),
  )

-- a link says something
module _ (config : Config) (past : List Item) (from : ℕ) (said : LinkStep) (caused : AreCaused config (Comes from said ∷ past)) (came : Came past)
    (sees : Sees config past) where
  at_target : (check : Check) (server : ℕ) → IsAt server (target_for check server)
  at_target (Wait gtid) server = replica
  at_target (Probe gtid) server = primary

  -- the server has it
  goes_now : (link : ℕ) (command : Command) → pending past ≡ Some command → pinned config past ≡ None → (routing config past).assigned ≡ Some link
      → checked_on from said past ≡ Some Go → SeesBy config link (Comes from said ∷ past)
  goes_now link command p free assigned c =
      let now = told_now config past from said caused.0 caused.1 came c in
      let its = checks_so config past caused.2 from now.e now.check (has_it (links past) from now.has) now.owes now.asked in
      let goes : (routing config past).assigned ≡ Some from =
      sym (ap (λ (on : Option ℕ). or_link on (routing config past).assigned) free) ∙ its.goes in
      let same : from ≡ link = same_some from link (sym goes ∙ assigned) in
      let by = wants_by config past command now.check p its.for_it in
      let so = by.2 in (
        by.0,
        by.1,
        so.server,
        subst (λ (found : Target). IsAt so.server found) (sym so.at) (at_target now.check so.server),
        λ gtid w. inr (subst (λ (l : ℕ). HasTold l gtid (Comes from said ∷ past)) same
            (subst (λ (x : Gtid). HasTold from x (Comes from said ∷ past)) (same_some (gtid_of now.check) gtid (sym so.wants ∙ w)) now.told)),
      )

  by_checked : (checked : Option Causal) → checked_on from said past ≡ checked → (link : ℕ) (command : Command) → pending past ≡ Some command
      → only_reads (class_of_command command) ≡ true → pinned config past ≡ None → (heard_check checked (routing config past)).assigned ≡ Some link
      → (heard_check checked (routing config past)).check ≡ None → SeesBy config link (Comes from said ∷ past)
  by_checked (Some Go) c link command p reads free assigned none = goes_now link command p free assigned c
  by_checked (Some TryPrimary) c link command p reads free assigned none = absurd cc
  by_checked None c link command p reads free assigned none = sees_on config (Comes from said) link tt refl (sees link command p reads free assigned none)
  by_checked (Some (WaitsFirst gtid)) c link command p reads free assigned none = sees_on config (Comes from said) link tt refl (sees link command p reads free assigned none)
  by_checked (Some (ProbesFirst gtid)) c link command p reads free assigned none = sees_on config (Comes from said) link tt refl (sees link command p reads free assigned none)
  by_checked (Some (Stale wanted found)) c link command p reads free assigned none = sees_on config (Comes from said) link tt refl (sees link command p reads free assigned none)
  by_checked (Some Unreadable) c link command p reads free assigned none = sees_on config (Comes from said) link tt refl (sees link command p reads free assigned none)

  came_sees : Sees config (Comes from said ∷ past)
  came_sees = λ link command p reads free assigned none. by_checked (checked_on from said past) refl link command p reads free assigned none

-- what stands below an item of a legal record
below_came : {config : Config} {item : Item} {past : List Item} → IsRecord config (item ∷ past) → Came past
below_came (begins its) = λ link e a. absurd cc
below_came (goes legal e) = legal_came legal
below_came (answered legal asked) = legal_came legal
below_came (hears legal rests none n input) = legal_came legal
below_came (starves legal once can its) = legal_came legal

-- an error answers the command, or leaves it
refused_sees : (config : Config) (past : List Item) (number : ℕ) (error : ProxyError) → Sees config past → Sees config (Puts (Tells number (Refuses error)) ∷ past)
refused_sees config past number UnknownCommand sees = quiet config (Puts (Tells number (Refuses UnknownCommand))) tt refl (λ c p. p) (λ n. n) (λ l a. a) (λ c. c) sees
refused_sees config past number NotSupported sees = quiet config (Puts (Tells number (Refuses NotSupported))) tt refl (λ c p. p) (λ n. n) (λ l a. a) (λ c. c) sees
refused_sees config past number UnknownStatement sees = quiet config (Puts (Tells number (Refuses UnknownStatement))) tt refl (λ c p. p) (λ n. n) (λ l a. a) (λ c. c) sees
refused_sees config past number BadExecute sees = quiet config (Puts (Tells number (Refuses BadExecute))) tt refl (λ c p. p) (λ n. n) (λ l a. a) (λ c. c) sees
refused_sees config past number TooManyStatements sees = quiet config (Puts (Tells number (Refuses TooManyStatements))) tt refl (λ c p. p) (λ n. n) (λ l a. a) (λ c. c) sees
refused_sees config past number NotInReadOnly sees = quiet config (Puts (Tells number (Refuses NotInReadOnly))) tt refl (λ c p. p) (λ n. n) (λ l a. a) (λ c. c) sees
refused_sees config past number TooManyConnections sees = quiet config (Puts (Tells number (Refuses TooManyConnections))) tt refl (λ c p. p) (λ n. n) (λ l a. a) (λ c. c) sees
refused_sees config past number CommandTooLarge sees = quiet config (Puts (Tells number (Refuses CommandTooLarge))) tt refl (λ c p. p) (λ n. n) (λ l a. a) (λ c. c) sees
refused_sees config past number OutOfMemory sees = quiet config (Puts (Tells number (Refuses OutOfMemory))) tt refl (λ c p. p) (λ n. n) (λ l a. a) (λ c. c) sees
refused_sees config past number NoPrimary sees = λ link command p reads free assigned none. absurd cc
refused_sees config past number (PrimaryBehind wanted found) sees = λ link command p reads free assigned none. absurd cc

-- a command that keeps the session
unkept : (class : Class) (link : ℕ) (kept home : Option ℕ) → or_link (kept_by class link kept) home ≡ None → or_link kept home ≡ None
unkept class link (Some other) home free = absurd cc
unkept class link None home free = (neither_link (if keeps class then Some link else None) home free).1

put_sees : (config : Config) (past : List Item) (put : Put) → Sees config past → Sees config (Puts put ∷ past)
put_sees config past (Tells number (Passes link command payload (Some ending) recording)) sees = λ at its p reads free assigned none. absurd cc
put_sees config past (Tells number (Passes link command payload None recording)) sees =
    quiet config (Puts (Tells number (Passes link command payload None recording))) tt refl (λ c p. p) (λ n. n) (λ l a. a) (λ c. c) sees
put_sees config past (Tells number (Owns status)) sees = quiet config (Puts (Tells number (Owns status))) tt refl (λ c p. p) (λ n. n) (λ l a. a) (λ c. c) sees
put_sees config past (Tells number (Refuses error)) sees = refused_sees config past number error sees
put_sees config past (Sends link (Asks command id)) sees =
    quiet config (Puts (Sends link (Asks command id))) tt refl (λ c p. p)
    (λ n. unkept (class_of_command command) link (kept_on past) (transaction config past).link n) (λ l a. a) (λ c. c) sees
put_sees config past (Sends link Prepares) sees = quiet config (Puts (Sends link Prepares)) tt refl (λ c p. p) (λ n. n) (λ l a. a) (λ c. c) sees
put_sees config past (Sends link (Plays entry)) sees = quiet config (Puts (Sends link (Plays entry))) tt refl (λ c p. p) (λ n. n) (λ l a. a) (λ c. c) sees
put_sees config past (Sends link (Waits gtid seconds)) sees = quiet config (Puts (Sends link (Waits gtid seconds))) tt refl (λ c p. p) (λ n. n) (λ l a. a) (λ c. c) sees
put_sees config past (Sends link (Probes gtid)) sees = quiet config (Puts (Sends link (Probes gtid))) tt refl (λ c p. p) (λ n. n) (λ l a. a) (λ c. c) sees
put_sees config past (Drops gone cause) sees =
    quiet config (Puts (Drops gone cause)) tt refl (λ c p. p) (λ n. n) (λ l a. (assigned_before gone l (routing config past) a).0)
    (λ c. sym (lost_wants gone (routing config past)) ∙ c) sees
put_sees config past (Hands packets) sees = quiet config (Puts (Hands packets)) tt refl (λ c p. p) (λ n. n) (λ l a. a) (λ c. c) sees
put_sees config past (Records server gtid) sees = quiet config (Puts (Records server gtid)) tt refl (λ c p. p) (λ n. n) (λ l a. a) (λ c. c) sees
put_sees config past Routes sees = quiet config (Puts Routes) tt refl (λ c p. p) (λ n. n) (λ l a. a) (λ c. c) sees
put_sees config past (Opens link server login) sees = quiet config (Puts (Opens link server login)) tt refl (λ c p. p) (λ n. n) (λ l a. a) (λ c. c) sees
put_sees config past (LogsInto link packets) sees = quiet config (Puts (LogsInto link packets)) tt refl (λ c p. p) (λ n. n) (λ l a. a) (λ c. c) sees
put_sees config past (Forgets link id) sees = quiet config (Puts (Forgets link id)) tt refl (λ c p. p) (λ n. n) (λ l a. a) (λ c. c) sees
put_sees config past (Closes reason) sees = quiet config (Puts (Closes reason)) tt refl (λ c p. p) (λ n. n) (λ l a. a) (λ c. c) sees

item_sees : (config : Config) (item : Item) (past : List Item) → IsRecord config (item ∷ past) → Sees config past → Sees config (item ∷ past)
item_sees config (Puts put) past legal sees = put_sees config past put sees
item_sees config (Comes from said) past legal sees = came_sees config past from said (causes config (Comes from said ∷ past) legal) (below_came legal) sees
item_sees config (Routed words loads next found) past legal sees = routed_sees config past words loads next found
item_sees config (Takes it number) past legal sees = λ link command p reads free assigned none. absurd cc
item_sees config (LinkLost gone) past legal sees =
    quiet config (LinkLost gone) tt refl (λ c p. p) (λ n. n) (λ l a. (assigned_before gone l (routing config past) a).0)
    (λ c. sym (lost_wants gone (routing config past)) ∙ c) sees
item_sees config (Accepted session scramble reading) past legal sees = quiet config (Accepted session scramble reading) tt refl (λ c p. p) (λ n. n) (λ l a. a) (λ c. c) sees
item_sees config (TurnsAway told) past legal sees = quiet config (TurnsAway told) tt refl (λ c p. p) (λ n. n) (λ l a. a) (λ c. c) sees
item_sees config (Began link server reading) past legal sees = quiet config (Began link server reading) tt refl (λ c p. p) (λ n. n) (λ l a. a) (λ c. c) sees
item_sees config (ClientBytes bytes) past legal sees = quiet config (ClientBytes bytes) tt refl (λ c p. p) (λ n. n) (λ l a. a) (λ c. c) sees
item_sees config (LinkReady link) past legal sees = quiet config (LinkReady link) tt refl (λ c p. p) (λ n. n) (λ l a. a) (λ c. c) sees
item_sees config (LinkBytes link bytes) past legal sees = quiet config (LinkBytes link bytes) tt refl (λ c p. p) (λ n. n) (λ l a. a) (λ c. c) sees
item_sees config ClientGone past legal sees = quiet config ClientGone tt refl (λ c p. p) (λ n. n) (λ l a. a) (λ c. c) sees
item_sees config (Ticks reading) past legal sees = quiet config (Ticks reading) tt refl (λ c p. p) (λ n. n) (λ l a. a) (λ c. c) sees
item_sees config (Connects said) past legal sees = quiet config (Connects said) tt refl (λ c p. p) (λ n. n) (λ l a. a) (λ c. c) sees
item_sees config (Floods bytes) past legal sees = quiet config (Floods bytes) tt refl (λ c p. p) (λ n. n) (λ l a. a) (λ c. c) sees
item_sees config (Starves made number) past legal sees = quiet config (Starves made number) tt refl (λ c p. p) (λ n. n) (λ l a. a) (λ c. c) sees

legal_sees : {config : Config} {past : List Item} → IsRecord config past → Sees config past
legal_sees {config} legal =
    by_items (Sees config) (λ link command p reads free assigned none. absurd cc) (λ item below whole sees. item_sees config item below whole sees) legal

-- what stands below an item of one
below_sees : {config : Config} {item : Item} {past : List Item} → IsRecord config (item ∷ past) → Sees config past
below_sees (begins its) = λ link command p reads free assigned none. absurd cc
below_sees (goes legal e) = legal_sees legal
below_sees (answered legal asked) = legal_sees legal
below_sees (hears legal rests none n input) = legal_sees legal
below_sees (starves legal once can its) = legal_sees legal

-- two servers of one target
one_server : {server other : ℕ} {found : Target} → IsAt server found → IsAt other found → server ≡ other
one_server primary primary = refl
one_server replica replica = refl

found_by : (past : List Item) (route : Route) → route_last past ≡ Some route → found_last past ≡ Some route.found
found_by [] route l = absurd cc
found_by (Takes it number ∷ past) route l = absurd cc
found_by (Routed words loads next found ∷ past) route l =
    ap (λ (its : Route). Some its.found) (same_some (record { words = words; found = found; below = past }) route l)
found_by (Accepted session scramble reading ∷ past) route l = found_by past route l
found_by (TurnsAway told ∷ past) route l = found_by past route l
found_by (Began link server reading ∷ past) route l = found_by past route l
found_by (ClientBytes bytes ∷ past) route l = found_by past route l
found_by (LinkReady link ∷ past) route l = found_by past route l
found_by (LinkBytes link bytes ∷ past) route l = found_by past route l
found_by (ClientGone ∷ past) route l = found_by past route l
found_by (LinkLost gone ∷ past) route l = found_by past route l
found_by (Ticks reading ∷ past) route l = found_by past route l
found_by (Comes link said ∷ past) route l = found_by past route l
found_by (Connects said ∷ past) route l = found_by past route l
found_by (Floods bytes ∷ past) route l = found_by past route l
found_by (Puts put ∷ past) route l = found_by past route l
found_by (Starves made number ∷ past) route l = found_by past route l

pub reads_see_commits : ReadsSeeCommits
reads_see_commits config past link command id some legal reads free =
    let caused = causes config (Puts (Sends link (Asks command id)) ∷ past) legal in
    let assigned : (routing config past).assigned ≡ Some link =
    sym (ap (λ (on : Option ℕ). or_link on (routing config past).assigned) free) ∙ caused.0.2 in
    let its = below_sees legal link command caused.0.0.waits reads free assigned caused.0.10 in
    let aimed = goes_where_found config past link command id some legal free in
    let found : aimed.0 ≡ its.0.found = same_some aimed.0 its.0.found (sym aimed.1 ∙ found_by past its.0 its.1) in
    let same : its.2 ≡ server_of link past = one_server its.3 (subst (λ (target : Target). IsAt (server_of link past) target) found aimed.2) in
    (its.0, its.1, λ gtid w. subst (λ (server : ℕ). (gtid.sequence ≤ position_by server its.0) ⊎ HasTold link gtid past) same (its.4 gtid w))
