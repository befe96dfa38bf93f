-- While a server is asked something before a read, the read is pending and out nowhere, and is to go on that link.
use Rattle.std.proofs.Common.{◌≡◌, ℕ, Bool, true, false, List, [], ◌∷◌, refl, sym, ap, subst, ◌∙◌, Option, Some, None}
use Rattle.std.specs.Prelude.{◌==◌, ◌++◌, if◌then◌else◌}
use Rattle.std.proofs.lemmas.Bool.{eqb-true, eq-eqb}
use Rattle.rws_wire.specs.declared.drop_cause.DropCause.{DropCause}
use Rattle.rws_wire.specs.Payloads.{Beginning, first_payload}
use Rattle.rws_wire.specs.Payloads.Beginning.{Nothing, Whole, Faulty}
use Rattle.rws_config.specs.declared.config.Config.{Config}
use Rattle.rws_config.specs.declared.limits.TheConstants.{SERVER_PAYLOAD}
use Rattle.rws_causal.specs.declared.causal.Causal.{Causal}
use Rattle.rws_causal.specs.declared.causal.Causal.TheVariants.{Go, TryPrimary, Wait as WaitsFirst, Probe as ProbesFirst, Stale, Unreadable}
use Rattle.rws_routing.specs.declared.routing.Check.{Check}
use Rattle.rws_routing.specs.declared.routing.Check.TheVariants.{Wait, Probe}
use Rattle.rws_routing.specs.declared.routing.Routing.{Routing}
use Rattle.rws_routing.specs.Routings.{is_at, lost, tried_by}
use Rattle.rws_reply.specs.declared.kind.Progress.{Progress}
use Rattle.rws_reply.specs.declared.kind.Progress.TheVariants.{More, Whole as Ends}
use Rattle.rws_reply.specs.declared.role.Role.{Role}
use Rattle.rws_reply.specs.Replies.{Payload}
use Rattle.rws_reply.specs.Tracking.{progress, role}
use Rattle.rws_link.specs.declared.handshake.Handshake.{Handshake}
use Rattle.rws_link.specs.declared.handshake.Reaction.{Reaction}
use Rattle.rws_link.specs.declared.handshake.Reaction.TheVariants.{Answers, Accepted, Loses}
use Rattle.rws_link.specs.Handshake.{due, reaction}
use Rattle.rws_link.specs.declared.step.LinkStep.{LinkStep}
use Rattle.rws_link.specs.declared.step.LinkStep.TheVariants as steps
use Rattle.rws_link.specs.Stepping.{LinkState, LogsIn, Rests, Awaits, IsLost, Exchange, logged_in, opened as opening, reacted, read_by, step, with_part}
use Rattle.rws_commands.specs.declared.command.Command.{Command}
use Rattle.rws_commands.specs.declared.proxy_error.ProxyError.{ProxyError}
use Rattle.rws_commands.specs.declared.proxy_error.ProxyError.TheVariants.{UnknownCommand, NotSupported, UnknownStatement, BadExecute, TooManyStatements, NotInReadOnly, TooManyConnections, CommandTooLarge, NoPrimary, PrimaryBehind, OutOfMemory}
use Rattle.rws_record.specs.Item.{Item, Purpose, Put, Tell}
use Rattle.rws_record.specs.Item.Item.{Accepted, TurnsAway, Began, ClientBytes, LinkReady, LinkBytes, ClientGone, LinkLost, Ticks, Routed, Comes, Connects, Takes, Floods, Puts, Starves}
use Rattle.rws_record.specs.Item.Put.{Hands, Tells, Records, Routes, Opens, LogsInto, Sends, Forgets, Drops, Closes}
use Rattle.rws_record.specs.Item.Purpose.{Prepares, Asks, Plays, Waits, Probes}
use Rattle.rws_record.specs.Item.Tell.{Passes, Owns, Refuses}
use Rattle.rws_record.specs.Values.{asked_on, awaited, checked_on, contains, exchange, goes_on, heard_check, kind_of, linked, links, or_link, pending, pinned, routing, sent_all, sent_for, sent_on, unless_link, without}
use Rattle.rws_record.proofs.LinkedLemmas.{after_part_is}
use Rattle.rws_record.proofs.WithoutLemmas.{without_has_less}
use Rattle.rws_laws.specs.Causes.{AsksFirst, FindsLate, IsCaused}
use Rattle.rws_laws.specs.Servers.{asks_first}
use Rattle.rws_laws.proofs.CameLemmas.{bytes_keep, left_by, part_leaves, ready_keeps}
use Rattle.rws_laws.proofs.ListLemmas.{had_before, stays_other}
use Rattle.rws_laws.proofs.ReplyLemmas.{goes_without}
use Rattle.rws_laws.proofs.Sound.{same_some}

-- the pending command is to go on the link once its server was asked this
pub record ForPending (config : Config) (link : ℕ) (check : Check) (past : List Item) : Type 0 where
  pub command : Command
  pub waits : pending past ≡ Some command
  pub unsent : sent_on past ≡ None
  pub goes : goes_on config past ≡ Some link
  pub for_it : (routing config past).check ≡ Some check

abbrev pub Checking : Config → List Item → Type 0
Checking config past =
    (link : ℕ) (e : Exchange) (check : Check) → contains link (links past) ≡ true → exchange link past ≡ Some e
    → asks_first (asked_on link past) ≡ Some check → ForPending config link check past

-- What a link says ends no such reply, or it ends one that was awaited on a link of the session.
pub data Heard (link : ℕ) (said : LinkStep) (past : List Item) : Type 0 where
  no_check : checked_on link said past ≡ None → Heard link said past
  ends_check : (e : Exchange) (check : Check) → contains link (links past) ≡ true → exchange link past ≡ Some e → asks_first (asked_on link past) ≡ Some check
      → exchange link (Comes link said ∷ past) ≡ None → Heard link said past

-- what is to be known of an item below it
abbrev pub Keeps : Config → Item → List Item → Type 0
Keeps config (Takes it number) past = pending past ≡ None
Keeps config (Routed words loads next found) past = goes_on config past ≡ None
Keeps config (Comes link said) past = Heard link said past
Keeps config (Puts (Sends link (Asks command id))) past = (routing config past).check ≡ None
Keeps config (Puts (Sends link (Waits gtid seconds))) past = ForPending config link (Wait gtid) past
Keeps config (Puts (Sends link (Probes gtid))) past = ForPending config link (Probe gtid) past
Keeps config (Puts (Tells number (Passes link command payload (Some ending) recording))) past = sent_on past ≡ Some link
Keeps config (Puts (Tells number (Refuses NoPrimary))) past = (routing config past).check ≡ None
Keeps config (Puts (Tells number (Refuses (PrimaryBehind wanted found)))) past = (link : ℕ) × (goes_on config past ≡ Some link) × (exchange link past ≡ None)
Keeps config _ past = Unit {0}

-- What a link says

-- the routing changes by what was asked first alone
pub heard_goes : (config : Config) (past : List Item) (link : ℕ) (said : LinkStep) (checked : Option Causal) → checked_on link said past ≡ checked
    → goes_on config (Comes link said ∷ past) ≡ or_link (pinned config past) (heard_check checked (routing config past)).assigned
heard_goes config past link said checked c =
    ap (λ (found : Option Causal). or_link (pinned config past) (heard_check found (routing config past)).assigned) c

pub heard_wants : (config : Config) (past : List Item) (link : ℕ) (said : LinkStep) (checked : Option Causal) → checked_on link said past ≡ checked
    → (routing config (Comes link said ∷ past)).check ≡ (heard_check checked (routing config past)).check
heard_wants config past link said checked c = ap (λ (found : Option Causal). (heard_check found (routing config past)).check) c

pub heard_target : (checked : Option Causal) (r : Routing) → (heard_check checked r).target ≡ r.target
heard_target None r = refl
heard_target (Some Go) r = refl
heard_target (Some TryPrimary) r = refl
heard_target (Some (WaitsFirst gtid)) r = refl
heard_target (Some (ProbesFirst gtid)) r = refl
heard_target (Some (Stale wanted found)) r = refl
heard_target (Some Unreadable) r = refl

pub heard_waits : (checked : Option Causal) (r : Routing) → (heard_check checked r).waits ≡ r.waits
heard_waits None r = refl
heard_waits (Some Go) r = refl
heard_waits (Some TryPrimary) r = refl
heard_waits (Some (WaitsFirst gtid)) r = refl
heard_waits (Some (ProbesFirst gtid)) r = refl
heard_waits (Some (Stale wanted found)) r = refl
heard_waits (Some Unreadable) r = refl

pub heard_since : (checked : Option Causal) (r : Routing) → (heard_check checked r).waits_from ≡ r.waits_from
heard_since None r = refl
heard_since (Some Go) r = refl
heard_since (Some TryPrimary) r = refl
heard_since (Some (WaitsFirst gtid)) r = refl
heard_since (Some (ProbesFirst gtid)) r = refl
heard_since (Some (Stale wanted found)) r = refl
heard_since (Some Unreadable) r = refl

-- a command is assigned to no other link by it
pub heard_assigned : (checked : Option Causal) (r : Routing) (link : ℕ) → (heard_check checked r).assigned ≡ Some link → r.assigned ≡ Some link
heard_assigned None r link a = a
heard_assigned (Some Go) r link a = a
heard_assigned (Some TryPrimary) r link a = absurd cc
heard_assigned (Some (WaitsFirst gtid)) r link a = a
heard_assigned (Some (ProbesFirst gtid)) r link a = a
heard_assigned (Some (Stale wanted found)) r link a = a
heard_assigned (Some Unreadable) r link a = a

-- a reply that is awaited behind a step of the link was awaited before
entered_owes : (rest : List ℕ) → awaited (logged_in rest).after ≡ None
entered_owes [] = refl
entered_owes (byte ∷ rest) = refl

reacted_owes : (rest : List ℕ) (its : Reaction) → awaited (reacted rest its).after ≡ None
reacted_owes rest (Answers bytes stage1 next) = refl
reacted_owes rest Accepted = entered_owes rest
reacted_owes rest (Loses cause) = refl

login_owes : (handshake : Handshake) (bytes : List ℕ) (begins : Beginning)
    → awaited (read_by (LogsIn handshake bytes) (λ payload next rest. reacted rest (reaction handshake payload next)) begins).after ≡ None
login_owes handshake bytes Nothing = refl
login_owes handshake bytes (Whole payload next rest) = reacted_owes rest (reaction handshake payload next)
login_owes handshake bytes (Faulty fault) = refl

awaited_before : (state : LinkState) (x : Exchange) → awaited (step state).after ≡ Some x → (e : Exchange) × (awaited state ≡ Some e)
awaited_before (Awaits e bytes) x a = (e, refl)
awaited_before Rests x a = absurd cc
awaited_before (IsLost cause) x a = absurd cc
awaited_before (LogsIn handshake bytes) x a =
    let none = login_owes handshake bytes (first_payload SERVER_PAYLOAD (due handshake) bytes) in
    let clash : None ≡ Some x = sym none ∙ a in absurd cc

-- a payload of an awaited reply
pub part_owes : (past : List Item) (link : ℕ) (e : Exchange) (bytes payload rest : Payload) (number : ℕ) (its : Role) (far : Progress) (behind : Bool)
    → linked link past ≡ Awaits e bytes → first_payload SERVER_PAYLOAD e.next bytes ≡ Whole payload number rest
    → role e.kind e.sofar payload ≡ Some its → progress e.kind e.sofar payload ≡ Some far
    → exchange link (Comes link (steps.Part payload its far number behind) ∷ past) ≡ left_by far (with_part payload number e)
part_owes past link e bytes payload rest number its far behind is f r p =
    let itself : (link == link) ≡ true = eq-eqb link link refl in
    rw itself (
    ap (λ (s : LinkState). awaited (step s).after) is ∙ ap awaited (after_part_is e bytes payload rest number its far f r p)
    ∙ part_leaves (with_part payload number e) rest far
    )

pub awaits_so : (link : LinkState) (e : Exchange) → awaited link ≡ Some e → (bytes : List ℕ) × (link ≡ Awaits e bytes)
awaits_so (LogsIn handshake bytes) e a = absurd cc
awaits_so Rests e a = absurd cc
awaits_so (Awaits its bytes) e a = (bytes, ap (λ (x : Exchange). Awaits x bytes) (same_some its e a))
awaits_so (IsLost cause) e a = absurd cc

pub part_heard : (past : List Item) (link : ℕ) (e : Exchange) (bytes payload rest : Payload) (number : ℕ) (its : Role) (far : Progress) (behind : Bool)
    → contains link (links past) ≡ true → linked link past ≡ Awaits e bytes → first_payload SERVER_PAYLOAD e.next bytes ≡ Whole payload number rest
    → role e.kind e.sofar payload ≡ Some its → progress e.kind e.sofar payload ≡ Some far
    → Heard link (steps.Part payload its far number behind) past
part_heard past link e bytes payload rest number its More behind has is f r p = no_check refl
part_heard past link e bytes payload rest number its (Ends outcome) behind has is f r p = by_asked (asked_on link past) refl
  where
    owes_none : exchange link (Comes link (steps.Part payload its (Ends outcome) number behind) ∷ past) ≡ None
    owes_none = part_owes past link e bytes payload rest number its (Ends outcome) behind is f r p

    by_asked : (asked : Option Purpose) → asked_on link past ≡ asked → Heard link (steps.Part payload its (Ends outcome) number behind) past
    by_asked None q = no_check (rw q refl)
    by_asked (Some Prepares) q = no_check (rw q refl)
    by_asked (Some (Asks command id)) q = no_check (rw q refl)
    by_asked (Some (Plays entry)) q = no_check (rw q refl)
    by_asked (Some (Waits gtid seconds)) q = ends_check e (Wait gtid) has (ap awaited is) (ap asks_first q) owes_none
    by_asked (Some (Probes gtid)) q = ends_check e (Probe gtid) has (ap awaited is) (ap asks_first q) owes_none

-- a command that is out somewhere isn't the one that something is asked for
pub unchecked : {config : Config} {past : List Item} {link : ℕ} {said : LinkStep} → Checking config past → Heard link said past
    → (at : ℕ) → sent_on past ≡ Some at → checked_on link said past ≡ None
unchecked checking (no_check none) at s = none
unchecked {link = link} checking (ends_check e check has a q none) at s =
    let its = checking link e check has a q in let clash : None ≡ Some at = sym its.unsent ∙ s in absurd cc

-- the loss of a link leaves what is to be asked
pub lost_wants : (gone : ℕ) (r : Routing) → (lost gone r).check ≡ r.check
lost_wants gone r = by_test (is_at gone r.assigned)
  where
    by_test : (test : Bool) → (if test then record r { assigned = None; tried = tried_by r.target r.tried } else r).check ≡ r.check
    by_test true = refl
    by_test false = refl

-- An item that changes nothing of it

moved : {config : Config} {past : List Item} {item : Item} {link : ℕ} {check : Check} → pending (item ∷ past) ≡ pending past
    → sent_on (item ∷ past) ≡ sent_on past → goes_on config (item ∷ past) ≡ goes_on config past
    → (routing config (item ∷ past)).check ≡ (routing config past).check → ForPending config link check past → ForPending config link check (item ∷ past)
moved p s g c its = record { command = its.command; waits = p ∙ its.waits; unsent = s ∙ its.unsent; goes = g ∙ its.goes; for_it = c ∙ its.for_it }

quiet : {config : Config} {past : List Item} (item : Item) → links (item ∷ past) ≡ links past
    → ((link : ℕ) → exchange link (item ∷ past) ≡ exchange link past) → ((link : ℕ) → asked_on link (item ∷ past) ≡ asked_on link past)
    → pending (item ∷ past) ≡ pending past → sent_on (item ∷ past) ≡ sent_on past → goes_on config (item ∷ past) ≡ goes_on config past
    → (routing config (item ∷ past)).check ≡ (routing config past).check → Checking config past → Checking config (item ∷ past)
quiet item l x q p s g c checking = λ link e check has a asked.
    moved p s g c (checking link e check (sym (ap (contains link) l) ∙ has) (sym (x link) ∙ a) (sym (ap asks_first (q link)) ∙ asked))

-- none is asked
nobody : {config : Config} {past now : List Item} → ((link : ℕ) (check : Check) → ForPending config link check past → ⊥)
    → ((link : ℕ) → contains link (links now) ≡ contains link (links past)) → ((link : ℕ) → exchange link now ≡ exchange link past)
    → ((link : ℕ) → asked_on link now ≡ asked_on link past) → Checking config past → Checking config now
nobody none l x q checking = λ link e check has a asked.
    absurd (none link check (checking link e check (sym (l link) ∙ has) (sym (x link) ∙ a) (sym (ap asks_first (q link)) ∙ asked)))

module _ (config : Config) (past : List Item) (checking : Checking config past) where
  -- A link is opened

  opened_checking : (item : Item) (opened : ℕ) (state : LinkState) → links (item ∷ past) ≡ without opened (links past) ++ opened ∷ []
      → awaited state ≡ None
      → ((link : ℕ) → linked link (item ∷ past) ≡ (if opened == link then state else linked link past))
      → ((link : ℕ) → (opened == link) ≡ false → asked_on link (item ∷ past) ≡ asked_on link past)
      → pending (item ∷ past) ≡ pending past → sent_on (item ∷ past) ≡ sent_on past → goes_on config (item ∷ past) ≡ goes_on config past
      → (routing config (item ∷ past)).check ≡ (routing config past).check → Checking config (item ∷ past)
  opened_checking item opened state l none x q p s g c = λ link e check has a asked.
      by_test link e check (opened == link) refl has (sym (ap awaited (x link)) ∙ a) asked
    where
      by_test : (link : ℕ) (e : Exchange) (check : Check) (test : Bool) → (opened == link) ≡ test → contains link (links (item ∷ past)) ≡ true
          → awaited (if test then state else linked link past) ≡ Some e → asks_first (asked_on link (item ∷ past)) ≡ Some check
          → ForPending config link check (item ∷ past)
      by_test link e check true t has a asked = let clash : None ≡ Some e = sym none ∙ a in absurd cc
      by_test link e check false t has a asked =
          moved p s g c (checking link e check (had_before link opened (links past) t (sym (ap (contains link) l) ∙ has)) a (sym (ap asks_first (q link t)) ∙ asked))

  -- A link is lost

  left_for : (gone link : ℕ) (check : Check) → (link == gone) ≡ false → ForPending config link check past → ForPending config link check (LinkLost gone ∷ past)
  left_for gone link check t its = record {
    command = its.command;
    waits = its.waits;
    unsent = ap (unless_link gone) its.unsent;
    goes = goes_without (pinned config past) (routing config past) gone link its.goes t;
    for_it = lost_wants gone (routing config past) ∙ its.for_it;
  }

  lost_checking : (gone : ℕ) → Checking config (LinkLost gone ∷ past)
  lost_checking gone = λ link e check has a asked.
      left_for gone link check (stays_other gone link (links past) has) (checking link e check (without_has_less gone link (links past) has) a asked)

  drop_checking : (gone : ℕ) (cause : DropCause) → Checking config (Puts (Drops gone cause) ∷ past)
  drop_checking gone cause = λ link e check has a asked.
      let its = lost_checking gone link e check has a asked in
      record { command = its.command; waits = its.waits; unsent = its.unsent; goes = its.goes; for_it = its.for_it }

  -- Something is sent

  sends_checking : (to : ℕ) (purpose : Purpose) → ((check : Check) → asks_first (Some purpose) ≡ Some check → ForPending config to check (Puts (Sends to purpose) ∷ past))
      → ((link : ℕ) (check : Check) → (to == link) ≡ false → ForPending config link check past → ForPending config link check (Puts (Sends to purpose) ∷ past))
      → Checking config (Puts (Sends to purpose) ∷ past)
  sends_checking to purpose here there = λ link e check has a asked. by_test link e check (to == link) refl has a asked
    where
      by_test : (link : ℕ) (e : Exchange) (check : Check) (test : Bool) → (to == link) ≡ test → contains link (links past) ≡ true
          → awaited (if test then sent_all (sent_for purpose) (kind_of purpose) else linked link past) ≡ Some e
          → asks_first (if test then Some purpose else asked_on link past) ≡ Some check → ForPending config link check (Puts (Sends to purpose) ∷ past)
      by_test link e check true t has a asked =
          subst (λ (l : ℕ). ForPending config l check (Puts (Sends to purpose) ∷ past)) (eqb-true to link t) (here check asked)
      by_test link e check false t has a asked = there link check t (checking link e check has a asked)

  -- another link waits for it
  apart : {A : Type 0} {check other : Check} (to link : ℕ) → ForPending config to check past → (to == link) ≡ false → ForPending config link other past → A
  apart to link its t mine =
      let same : (to == link) ≡ true = eq-eqb to link (same_some to link (sym its.goes ∙ mine.goes)) in
      let clash : true ≡ false = sym same ∙ t in absurd cc

  -- What is heard

  came_for : (from link : ℕ) (said : LinkStep) (check : Check) → checked_on from said past ≡ None → ForPending config link check past
      → ForPending config link check (Comes from said ∷ past)
  came_for from link said check none its = record {
    command = its.command;
    waits = its.waits;
    unsent = its.unsent;
    goes = heard_goes config past from said None none ∙ its.goes;
    for_it = heard_wants config past from said None none ∙ its.for_it;
  }

  comes_checking : (from : ℕ) (said : LinkStep) → Heard from said past → Checking config (Comes from said ∷ past)
  comes_checking from said heard = λ link x check has a asked. by_test link x check (from == link) refl has a asked heard
    where
      by_test : (link : ℕ) (x : Exchange) (check : Check) (test : Bool) → (from == link) ≡ test → contains link (links past) ≡ true
          → awaited (if test then (step (linked link past)).after else linked link past) ≡ Some x → asks_first (asked_on link past) ≡ Some check
          → Heard from said past → ForPending config link check (Comes from said ∷ past)
      by_test link x check true t has a asked (no_check none) =
          let before = awaited_before (linked link past) x a in came_for from link said check none (checking link before.0 check has before.1 asked)
      by_test link x check true t has a asked (ends_check e its its_has owes its_asked none) =
          let same : from ≡ link = eqb-true from link t in
          let itself : (link == link) ≡ true = eq-eqb link link refl in
          let none : exchange link (Comes link said ∷ past) ≡ None = subst (λ (l : ℕ). exchange l (Comes l said ∷ past) ≡ None) same none in
          let none : awaited (step (linked link past)).after ≡ None = rw itself at none in
          let clash : None ≡ Some x = sym none ∙ a in absurd cc
      by_test link x check false t has a asked (no_check none) = came_for from link said check none (checking link x check has a asked)
      by_test link x check false t has a asked (ends_check e its its_has owes its_asked none) =
          apart from link (checking from e its its_has owes its_asked) t (checking link x check has a asked)

  -- Where a command is answered, nothing is asked for it any more

  -- an error that leaves the command pending
  refused_checking : (number : ℕ) (error : ProxyError) → Keeps config (Puts (Tells number (Refuses error))) past
      → Checking config (Puts (Tells number (Refuses error)) ∷ past)
  refused_checking number NoPrimary none =
      nobody {now = Puts (Tells number (Refuses NoPrimary)) ∷ past}
      (λ link check its. let clash : None ≡ Some check = sym none ∙ its.for_it in cc) (λ link. refl) (λ link. refl) (λ link. refl) checking
  refused_checking number (PrimaryBehind wanted found) its_link = λ link e check has a asked.
      let mine = checking link e check has a asked in
      let same : its_link.0 ≡ link = same_some its_link.0 link (sym its_link.1 ∙ mine.goes) in
      let none : exchange link past ≡ None = subst (λ (l : ℕ). exchange l past ≡ None) same its_link.2 in
      let clash : None ≡ Some e = sym none ∙ a in absurd cc
  refused_checking number UnknownCommand its = quiet (Puts (Tells number (Refuses UnknownCommand))) refl (λ link. refl) (λ link. refl) refl refl refl refl checking
  refused_checking number NotSupported its = quiet (Puts (Tells number (Refuses NotSupported))) refl (λ link. refl) (λ link. refl) refl refl refl refl checking
  refused_checking number UnknownStatement its = quiet (Puts (Tells number (Refuses UnknownStatement))) refl (λ link. refl) (λ link. refl) refl refl refl refl checking
  refused_checking number BadExecute its = quiet (Puts (Tells number (Refuses BadExecute))) refl (λ link. refl) (λ link. refl) refl refl refl refl checking
  refused_checking number TooManyStatements its = quiet (Puts (Tells number (Refuses TooManyStatements))) refl (λ link. refl) (λ link. refl) refl refl refl refl checking
  refused_checking number NotInReadOnly its = quiet (Puts (Tells number (Refuses NotInReadOnly))) refl (λ link. refl) (λ link. refl) refl refl refl refl checking
  refused_checking number TooManyConnections its = quiet (Puts (Tells number (Refuses TooManyConnections))) refl (λ link. refl) (λ link. refl) refl refl refl refl checking
  refused_checking number CommandTooLarge its = quiet (Puts (Tells number (Refuses CommandTooLarge))) refl (λ link. refl) (λ link. refl) refl refl refl refl checking
  refused_checking number OutOfMemory its = quiet (Puts (Tells number (Refuses OutOfMemory))) refl (λ link. refl) (λ link. refl) refl refl refl refl checking

  tell_checking : (number : ℕ) (tell : Tell) → Keeps config (Puts (Tells number tell)) past → Checking config (Puts (Tells number tell) ∷ past)
  tell_checking number (Passes link command payload (Some ending) recording) sent =
      nobody {now = Puts (Tells number (Passes link command payload (Some ending) recording)) ∷ past}
      (λ at check its. let clash : None ≡ Some link = sym its.unsent ∙ sent in cc) (λ at. refl) (λ at. refl) (λ at. refl) checking
  tell_checking number (Passes link command payload None recording) its =
      quiet (Puts (Tells number (Passes link command payload None recording))) refl (λ at. refl) (λ at. refl) refl refl refl refl checking
  tell_checking number (Owns status) its = quiet (Puts (Tells number (Owns status))) refl (λ link. refl) (λ link. refl) refl refl refl refl checking
  tell_checking number (Refuses error) its = refused_checking number error its

  send_checking : (to : ℕ) (purpose : Purpose) → Keeps config (Puts (Sends to purpose)) past → Checking config (Puts (Sends to purpose) ∷ past)
  send_checking to Prepares its = sends_checking to Prepares (λ check q. absurd cc) (λ link check t mine. moved refl refl refl refl mine)
  send_checking to (Plays entry) its = sends_checking to (Plays entry) (λ check q. absurd cc) (λ link check t mine. moved refl refl refl refl mine)
  send_checking to (Asks command id) none =
      sends_checking to (Asks command id) (λ check q. absurd cc)
      (λ link check t mine. let clash : None ≡ Some check = sym none ∙ mine.for_it in absurd cc)
  send_checking to (Waits gtid seconds) its =
      sends_checking to (Waits gtid seconds)
      (λ check q. subst (λ (c : Check). ForPending config to c (Puts (Sends to (Waits gtid seconds)) ∷ past)) (same_some (Wait gtid) check q) (moved refl refl refl refl its))
      (λ link check t mine. apart to link its t mine)
  send_checking to (Probes gtid) its =
      sends_checking to (Probes gtid)
      (λ check q. subst (λ (c : Check). ForPending config to c (Puts (Sends to (Probes gtid)) ∷ past)) (same_some (Probe gtid) check q) (moved refl refl refl refl its))
      (λ link check t mine. apart to link its t mine)

  put_checking : (put : Put) → Keeps config (Puts put) past → Checking config (Puts put ∷ past)
  put_checking (Hands packets) its = quiet (Puts (Hands packets)) refl (λ link. refl) (λ link. refl) refl refl refl refl checking
  put_checking (Records server gtid) its = quiet (Puts (Records server gtid)) refl (λ link. refl) (λ link. refl) refl refl refl refl checking
  put_checking Routes its = quiet (Puts Routes) refl (λ link. refl) (λ link. refl) refl refl refl refl checking
  put_checking (LogsInto to packets) its = quiet (Puts (LogsInto to packets)) refl (λ link. refl) (λ link. refl) refl refl refl refl checking
  put_checking (Forgets to id) its = quiet (Puts (Forgets to id)) refl (λ link. refl) (λ link. refl) refl refl refl refl checking
  put_checking (Closes reason) its = quiet (Puts (Closes reason)) refl (λ link. refl) (λ link. refl) refl refl refl refl checking
  put_checking (Tells number tell) its = tell_checking number tell its
  put_checking (Opens opened server login) its =
      opened_checking (Puts (Opens opened server login)) opened (opening login) refl refl (λ link. refl) (λ link t. rw t refl) refl refl refl refl
  put_checking (Sends to purpose) its = send_checking to purpose its
  put_checking (Drops gone cause) its = drop_checking gone cause

-- Each item

pub checking_on : (config : Config) (past : List Item) (item : Item) → Keeps config item past → Checking config past → Checking config (item ∷ past)
checking_on config past (Puts put) its checking = put_checking config past checking put its
checking_on config past (Comes from said) heard checking = comes_checking config past checking from said heard
checking_on config past (LinkLost gone) its checking = lost_checking config past checking gone
checking_on config past (Began opened server reading) its checking =
    opened_checking config past checking (Began opened server reading) opened Rests refl refl (λ link. refl) (λ link t. refl) refl refl refl refl
checking_on config past (Takes it number) none checking =
    nobody {now = Takes it number ∷ past}
    (λ link check its. let clash : None ≡ Some its.command = sym none ∙ its.waits in cc) (λ link. refl) (λ link. refl) (λ link. refl) checking
checking_on config past (Routed words loads next found) none checking =
    nobody {now = Routed words loads next found ∷ past}
    (λ link check its. let clash : None ≡ Some link = sym none ∙ its.goes in cc) (λ link. refl) (λ link. refl) (λ link. refl) checking
checking_on config past (LinkReady ready) its checking =
    quiet (LinkReady ready) refl (ready_keeps past ready) (λ link. refl) refl refl refl refl checking
checking_on config past (LinkBytes from bytes) its checking =
    quiet (LinkBytes from bytes) refl (bytes_keep past from bytes) (λ link. refl) refl refl refl refl checking
checking_on config past (Accepted session scramble reading) its checking =
    quiet (Accepted session scramble reading) refl (λ link. refl) (λ link. refl) refl refl refl refl checking
checking_on config past (TurnsAway told) its checking = quiet (TurnsAway told) refl (λ link. refl) (λ link. refl) refl refl refl refl checking
checking_on config past (ClientBytes bytes) its checking = quiet (ClientBytes bytes) refl (λ link. refl) (λ link. refl) refl refl refl refl checking
checking_on config past ClientGone its checking = quiet ClientGone refl (λ link. refl) (λ link. refl) refl refl refl refl checking
checking_on config past (Ticks reading) its checking = quiet (Ticks reading) refl (λ link. refl) (λ link. refl) refl refl refl refl checking
checking_on config past (Connects said) its checking = quiet (Connects said) refl (λ link. refl) (λ link. refl) refl refl refl refl checking
checking_on config past (Floods bytes) its checking = quiet (Floods bytes) refl (λ link. refl) (λ link. refl) refl refl refl refl checking
checking_on config past (Starves made number) its checking = quiet (Starves made number) refl (λ link. refl) (λ link. refl) refl refl refl refl checking

-- what is given out has what is to be known of it, since it has its cause
for_pending : {config : Config} {link : ℕ} {check : Check} {past : List Item} → AsksFirst config link check past → ForPending config link check past
for_pending its = record { command = its.command; waits = its.pending.waits; unsent = its.unsent; goes = its.goes; for_it = its.wanted }

none_routed : (config : Config) (number : ℕ) (past : List Item) → FindsLate config number past → (routing config past).check ≡ None
none_routed config number past late = ap (λ (p : List Item). (routing config p).check) late.answered

refused_keeps : (config : Config) (past : List Item) (number : ℕ) (error : ProxyError) → IsCaused config (Tells number (Refuses error)) past
    → Keeps config (Puts (Tells number (Refuses error))) past
refused_keeps config past number NoPrimary late = none_routed config number past late
refused_keeps config past number (PrimaryBehind wanted found) lags = (lags.link, lags.goes, lags.probed.left)
refused_keeps config past number UnknownCommand cause = tt
refused_keeps config past number NotSupported cause = tt
refused_keeps config past number UnknownStatement cause = tt
refused_keeps config past number BadExecute cause = tt
refused_keeps config past number TooManyStatements cause = tt
refused_keeps config past number NotInReadOnly cause = tt
refused_keeps config past number TooManyConnections cause = tt
refused_keeps config past number CommandTooLarge cause = tt
refused_keeps config past number OutOfMemory cause = tt

pub put_keeps : (config : Config) (past : List Item) (put : Put) → IsCaused config put past → Keeps config (Puts put) past
put_keeps config past (Tells number (Passes link command payload (Some ending) recording)) cause = cause.0.of_reply.sent
put_keeps config past (Tells number (Passes link command payload None recording)) cause = tt
put_keeps config past (Tells number (Owns status)) cause = tt
put_keeps config past (Tells number (Refuses error)) cause = refused_keeps config past number error cause
put_keeps config past (Sends link (Asks command id)) cause = cause.10
put_keeps config past (Sends link (Waits gtid seconds)) cause = for_pending cause.0
put_keeps config past (Sends link (Probes gtid)) cause = for_pending cause
put_keeps config past (Sends link Prepares) cause = tt
put_keeps config past (Sends link (Plays entry)) cause = tt
put_keeps config past (Hands packets) cause = tt
put_keeps config past (Records server gtid) cause = tt
put_keeps config past Routes cause = tt
put_keeps config past (Opens link server login) cause = tt
put_keeps config past (LogsInto link packets) cause = tt
put_keeps config past (Forgets link id) cause = tt
put_keeps config past (Drops link why) cause = tt
put_keeps config past (Closes reason) cause = tt
