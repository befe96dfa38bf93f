-- A session has the link that it is kept on, and the one that its pending command is to go on.
use Rattle.std.proofs.Common.{◌≡◌, ℕ, Bool, true, false, List, [], ◌∷◌, ◌++◌, drop, refl, sym, ap, subst, ◌∙◌, eqb-true, inl, inr, Option, Some, None}
use Rattle.std.proofs.lemmas.Bool.{eq-eqb}
use Rattle.std.specs.Prelude.{◌≢◌, ◌==◌, ◌⊎◌, Contains, if◌then◌else◌}
use Rattle.rws_laws.proofs.TransactionLemmas.{answered_there}
use Rattle.rws_wire.specs.declared.drop_cause.DropCause.{DropCause}
use Rattle.rws_native.specs.declared.login.Login.{Login}
use Rattle.rws_class.specs.declared.class.Class.{Class}
use Rattle.rws_class.specs.declared.class.Class.TheVariants.{Other}
use Rattle.rws_reply.specs.declared.kind.Outcome.{Outcome}
use Rattle.rws_reply.specs.Replies.{Payload}
use Rattle.rws_pool.specs.declared.words.PoolWords.{PoolWords}
use Rattle.rws_select.specs.declared.selector.Load.{Load}
use Rattle.rws_route.specs.declared.destination.Target.{Target}
use Rattle.rws_route.specs.declared.destination.Target.TheVariants.{Primary, Replica, NoPrimary as Nowhere}
use Rattle.rws_routing.specs.declared.routing.Routing.{Routing}
use Rattle.rws_routing.specs.Routings.{is_at, lost, tried_by}
use Rattle.rws_link.specs.declared.step.LinkStep.{LinkStep}
use Rattle.rws_config.specs.declared.config.Config.{Config}
use Rattle.rws_commands.specs.declared.command.Command.{Command}
use Rattle.rws_commands.specs.declared.proxy_error.ProxyError.{ProxyError}
use Rattle.rws_commands.specs.declared.proxy_error.ProxyError.TheVariants.{UnknownCommand, NotSupported, UnknownStatement, BadExecute, TooManyStatements, NotInReadOnly, TooManyConnections, CommandTooLarge, NoPrimary, PrimaryBehind, OutOfMemory}
use Rattle.rws_record.specs.Item.{Ending, Item, Purpose, Put, Recording}
use Rattle.rws_record.specs.Item.Item.{Accepted, TurnsAway, Began, ClientBytes, LinkReady, LinkBytes, ClientGone, LinkLost, Ticks, Routed, Comes, Puts, Starves}
use Rattle.rws_record.specs.Item.Purpose.{Prepares, Asks, Plays, Waits, Probes}
use Rattle.rws_record.specs.Item.Put.{Hands, Tells, Records, Routes, Opens, LogsInto, Sends, Forgets, Drops, Closes}
use Rattle.rws_record.specs.Item.Recording.{Nothing, Accepts, Keeps}
use Rattle.rws_record.specs.Item.Tell.{Passes, Owns, Refuses}
use Rattle.rws_commands.specs.Commands.{class_of_command, keeps}
use Rattle.rws_record.specs.Values.{checked_on, contains, first_to, kept_by, kept_on, link_to, links, login_of, routing, server_of, is_over, without, answer_to, answered_by, answered_if, class_by_pending, or_link, pinned, speaks, transaction, pending}
use Rattle.rws_record.specs.Rules.{after_loss, follow, found_in, is_link, owed}
use Rattle.rws_record.specs.Record.{IsBeginning, IsInput, IsRecord}
use Rattle.rws_record.specs.Record.IsRecord.{begins, steps, answers, hears, starves}
use Rattle.rws_record.proofs.RecordLemmas.{contained}
use Rattle.rws_record.proofs.OpeningLemmas.{asks_owing_nothing}
use Rattle.rws_record.proofs.StepLemmas.{Due, Step, of_next, rests_owing_nothing}
use Rattle.rws_record.proofs.StepLemmas.Due.{comes, connects, takes}
use Rattle.rws_record.proofs.StepLemmas.Step.{pays, asks, prepares, forgets, plays, sends, waits_first, probes_first, floods, reads}
use Rattle.rws_record.proofs.WantLemmas.{closes_behind, closes_soon}
use Rattle.rws_laws.specs.Causes.{AreCaused, IsAt, IsCaused, IsOpening, JustKept, found_last}
use Rattle.rws_laws.specs.Causes.IsAt.{primary, replica}
use Rattle.rws_laws.specs.Causes.JustKept.{sends as kept_now, fills, gives_up}
use Rattle.rws_laws.proofs.AskedLemmas.{AskedNow, legal_asked}
use Rattle.rws_laws.proofs.AskedLemmas.AskedNow.{asked_now}
use Rattle.rws_laws.proofs.CausesLemmas.{causes}
use Rattle.rws_laws.proofs.CheckLemmas.{heard_assigned}
use Rattle.rws_laws.proofs.EnteringLemmas.{is_entering, legal_entering}
use Rattle.rws_laws.proofs.LinksLemmas.{Dropped, dropped, pinned_closes}
use Rattle.rws_laws.proofs.LinksLemmas.Dropped.{for_fault, at_end, since_kept}
use Rattle.rws_laws.proofs.ListLemmas.{has_it, has_last, has_still, other_stays}
use Rattle.rws_laws.proofs.RoutedLemmas.{one_to}
use Rattle.rws_laws.proofs.Sound.{is_not, is_that, same_some}
use Rattle.rws_laws.proofs.SoundLemmas.{freed}

abbrev pub HasPinned : Config → List Item → Type 0
HasPinned config past = (link : ℕ) → pinned config past ≡ Some link → contains link (links past) ≡ true

-- the link goes to the server that the last route found
abbrev pub Aimed : ℕ → List Item → Type 0
Aimed link past = (found : Target) × (found_last past ≡ Some found) × IsAt (server_of link past) found

abbrev pub HasAssigned : Config → List Item → Type 0
HasAssigned config past =
    (link : ℕ) → (routing config past).assigned ≡ Some link → (contains link (links past) ≡ true) × Aimed link past

-- it has the link that the last route gave, or is about to open it; but where the settings have no account it may have no login for one
pub data Assigned (config : Config) (past : List Item) : Type 0 where
  has : HasAssigned config past → Assigned config past
  opens_it : {link server : ℕ} {login : Login} → owed config past ≡ Opens link server login ∷ [] → (routing config past).assigned ≡ Some link
      → Assigned config past
  nobody : config.accounts ≡ [] → Assigned config past

pub data Going (config : Config) (past : List Item) : Type 0 where
  stands : HasPinned config past → Assigned config past → Going config past
  soon : closes_soon (owed config past) ≡ true → Going config past
  over : is_over past ≡ true → Going config past

-- Where nothing is owed

nothing_soon : {A : Type 0} {list : List Put} → list ≡ [] → closes_soon list ≡ true → A
nothing_soon o s = absurd (let e : false ≡ true = sym (ap closes_soon o) ∙ s in cc)

-- an item that changes nothing of where a link goes
aimed_still : (past : List Item) (item : Item) (link : ℕ) → found_last (item ∷ past) ≡ found_last past
    → server_of link (item ∷ past) ≡ server_of link past → Aimed link past → Aimed link (item ∷ past)
aimed_still past item link f s aimed = (aimed.0, f ∙ aimed.1, subst (λ (server : ℕ). IsAt server aimed.0) (sym s) aimed.2)

assigned_still : {config : Config} {past : List Item} (item : Item) → owed config past ≡ [] → links (item ∷ past) ≡ links past
    → (routing config (item ∷ past)).assigned ≡ (routing config past).assigned → found_last (item ∷ past) ≡ found_last past
    → ((link : ℕ) → server_of link (item ∷ past) ≡ server_of link past) → Assigned config past → Assigned config (item ∷ past)
assigned_still item o l r f s (has its) = has (λ link a.
    let there = its link (sym r ∙ a) in (ap (contains link) l ∙ there.0, aimed_still _ item link f (s link) there.1))
assigned_still item o l r f s (opens_it owes a) = absurd (let clash : [] ≡ Opens _ _ _ ∷ [] = sym o ∙ owes in cc)
assigned_still item o l r f s (nobody none) = nobody none

-- an item that changes nothing of it
still : {config : Config} {past : List Item} (item : Item) → owed config past ≡ [] → links (item ∷ past) ≡ links past
    → pinned config (item ∷ past) ≡ pinned config past → (routing config (item ∷ past)).assigned ≡ (routing config past).assigned
    → found_last (item ∷ past) ≡ found_last past → ((link : ℕ) → server_of link (item ∷ past) ≡ server_of link past)
    → (is_over past ≡ true → is_over (item ∷ past) ≡ true) → Going config past → Going config (item ∷ past)
still item o l k r f s n (stands kept assigned) =
    stands (λ link e. ap (contains link) l ∙ kept link (sym k ∙ e)) (assigned_still item o l r f s assigned)
still item o l k r f s n (soon closing) = nothing_soon o closing
still item o l k r f s n (over is) = over (n is)

pub closes_before : (first others : List Put) → closes_soon first ≡ true → closes_soon (first ++ others) ≡ true
closes_before [] others s = absurd cc
closes_before (Hands packets ∷ rest) others s = closes_before rest others s
closes_before (Records server gtid ∷ rest) others s = closes_before rest others s
closes_before (Tells number tell ∷ rest) others s = closes_before rest others s
closes_before (Routes ∷ rest) others s = closes_before rest others s
closes_before (Opens link server login ∷ rest) others s = closes_before rest others s
closes_before (Forgets link id ∷ rest) others s = closes_before rest others s
closes_before (LogsInto link packets ∷ rest) others s = closes_before rest others s
closes_before (Sends link purpose ∷ rest) others s = closes_before rest others s
closes_before (Drops link cause ∷ rest) others s = closes_before rest others s
closes_before (Closes reason ∷ rest) others s = refl

-- A link is lost

pub assigned_before : (gone link : ℕ) (r : Routing) → (lost gone r).assigned ≡ Some link → (r.assigned ≡ Some link) × ((link == gone) ≡ false)
assigned_before gone link r a = by_test (is_at gone r.assigned) refl a
  where
    by_assigned : (assigned : Option ℕ) → assigned ≡ Some link → is_at gone assigned ≡ false → (link == gone) ≡ false
    by_assigned None s t = absurd cc
    by_assigned (Some other) s t = let same = same_some other link s in ap (λ (l : ℕ). l == gone) (sym same) ∙ t

    by_test : (test : Bool) → is_at gone r.assigned ≡ test
        → (if test then record r { assigned = None; tried = tried_by r.target r.tried } else r).assigned ≡ Some link
        → (r.assigned ≡ Some link) × ((link == gone) ≡ false)
    by_test true t a = absurd cc
    by_test false t a = (a, by_assigned r.assigned a t)

apart : (gone link : ℕ) (found : Option ℕ) → is_link gone found ≡ false → found ≡ Some link → (link == gone) ≡ false
apart gone link found not_there k = by_test (link == gone) refl
  where
    by_test : (test : Bool) → (link == gone) ≡ test → (link == gone) ≡ false
    by_test true t = absurd (is_not gone found not_there (k ∙ ap Some (eqb-true link gone t)))
    by_test false t = t

module _ (config : Config) (past : List Item) (gone : ℕ) where
  assigned_without : HasAssigned config past → (link : ℕ) → (lost gone (routing config past)).assigned ≡ Some link
      → (contains link (without gone (links past)) ≡ true) × Aimed link past
  assigned_without its link a =
      let before = assigned_before gone link (routing config past) a in
      let there = its link before.0 in (other_stays gone link (links past) before.1 there.0, there.1)

  kept_without : HasPinned config past → is_link gone (pinned config past) ≡ false → (link : ℕ) → pinned config past ≡ Some link
      → contains link (without gone (links past)) ≡ true
  kept_without kept elsewhere link k = other_stays gone link (links past) (apart gone link (pinned config past) elsewhere k) (kept link k)

-- What is given out

refused_assigned : (config : Config) (past : List Item) (number : ℕ) (error : ProxyError)
    → (routing config (Puts (Tells number (Refuses error)) ∷ past)).assigned ≡ (routing config past).assigned
refused_assigned config past number UnknownCommand = refl
refused_assigned config past number NotSupported = refl
refused_assigned config past number UnknownStatement = refl
refused_assigned config past number BadExecute = refl
refused_assigned config past number TooManyStatements = refl
refused_assigned config past number NotInReadOnly = refl
refused_assigned config past number TooManyConnections = refl
refused_assigned config past number CommandTooLarge = refl
refused_assigned config past number NoPrimary = refl
refused_assigned config past number (PrimaryBehind wanted found) = refl
refused_assigned config past number OutOfMemory = refl

-- what opens no link
abbrev is_opening : Put → Bool
is_opening (Opens link server login) = true
is_opening _ = false

module _ (config : Config) (past : List Item) (put : Put) (others : List Put) (o : owed config past ≡ put ∷ others) where
  opens_none : {A : Type 0} {link server : ℕ} {login : Login} → is_opening put ≡ false → owed config past ≡ Opens link server login ∷ [] → A
  opens_none {link = link} {server = server} {login = login} not owes =
      let both : put ∷ others ≡ Opens link server login ∷ [] = sym o ∙ owes in
      let is : put ≡ Opens link server login = cc in
      let clash : true ≡ false = sym (ap is_opening is) ∙ not in absurd cc

  assigned_paid : is_opening put ≡ false → links (Puts put ∷ past) ≡ links past
      → (routing config (Puts put ∷ past)).assigned ≡ (routing config past).assigned
      → ((link : ℕ) → server_of link (Puts put ∷ past) ≡ server_of link past) → Assigned config past → Assigned config (Puts put ∷ past)
  assigned_paid not l r s (has its) = has (λ link a.
      let there = its link (sym r ∙ a) in (ap (contains link) l ∙ there.0, aimed_still past (Puts put) link refl (s link) there.1))
  assigned_paid not l r s (opens_it owes a) = opens_none not owes
  assigned_paid not l r s (nobody none) = nobody none

  -- what is owed then
  pub paid_soon : owed config (Puts put ∷ past) ≡ follow config put past ++ drop 1 (owed config past) → closes_soon (put ∷ others) ≡ closes_soon others
      → closes_soon (owed config past) ≡ true → closes_soon (owed config (Puts put ∷ past)) ≡ true
  paid_soon left same s =
      let behind : closes_soon (drop 1 (owed config past)) ≡ true = ap closes_soon (ap (drop 1) o) ∙ sym same ∙ sym (ap closes_soon o) ∙ s in
      ap closes_soon left ∙ closes_behind (follow config put past) (drop 1 (owed config past)) behind

  paid : is_opening put ≡ false → links (Puts put ∷ past) ≡ links past → pinned config (Puts put ∷ past) ≡ pinned config past
      → (routing config (Puts put ∷ past)).assigned ≡ (routing config past).assigned
      → ((link : ℕ) → server_of link (Puts put ∷ past) ≡ server_of link past)
      → owed config (Puts put ∷ past) ≡ follow config put past ++ drop 1 (owed config past) → closes_soon (put ∷ others) ≡ closes_soon others
      → is_over (Puts put ∷ past) ≡ is_over past → Going config past → Going config (Puts put ∷ past)
  paid not l k r s left same n (stands kept assigned) =
      stands (λ link e. ap (contains link) l ∙ kept link (sym k ∙ e)) (assigned_paid not l r s assigned)
  paid not l k r s left same n (soon closing) = soon (paid_soon left same closing)
  paid not l k r s left same n (over is) = over (n ∙ is)

-- a route to a server to which there was no link gave the one that is opened
none_first : (server : ℕ) (list : List ℕ) (past : List Item) → ((other : ℕ) → contains other list ≡ true → server_of other past ≢ server)
    → first_to server list past ≡ None
none_first server [] past none = refl
none_first server (first ∷ others) past none =
    by_test (server_of first past == server) refl
    (none_first server others past (λ other there. none other (behind_it other (first == other) there)))
  where
    behind_it : (other : ℕ) (test : Bool) → contains other others ≡ true → (if test then true else contains other others) ≡ true
    behind_it other true there = refl
    behind_it other false there = there

    by_test : (test : Bool) → (server_of first past == server) ≡ test → first_to server others past ≡ None
        → (if test then Some first else first_to server others past) ≡ None
    by_test true t behind =
        let itself : (first == first) ≡ true = eq-eqb first first refl in
        absurd (none first (rw itself refl) (eqb-true (server_of first past) server t))
    by_test false t behind = behind

opened_for : (config : Config) (below : List Item) (words : PoolWords) (loads : List Load) (link server : ℕ) (found : Target) → IsAt server found
    → ((other : ℕ) → Contains (links below) other → server_of other below ≢ server) → (at : ℕ)
    → (routing config (Routed words loads link found ∷ below)).assigned ≡ Some at → link ≡ at
opened_for config below words loads link server found there none at a = by_target found there a
  where
    nowhere : link_to server below ≡ None
    nowhere = none_first server (links below) below (λ other there. none other (contained other (links below) there))

    by_target : (found : Target) → IsAt server found → (routing config (Routed words loads link found ∷ below)).assigned ≡ Some at → link ≡ at
    by_target found primary a = let a : Some link ≡ Some at = rw nowhere at a in same_some link at a
    by_target found replica a = let a : Some link ≡ Some at = rw nowhere at a in same_some link at a

just_kept : {config : Config} {past : List Item} (kept : ℕ) → JustKept config kept past → kept_on past ≡ Some kept
just_kept {config} kept just = its just
  where
    by_class : (class : Class) (before : Option ℕ) → class ≡ Other → before ≡ None → kept_by class kept before ≡ Some kept
    by_class class before c b = rw (c, b) refl

    its : {past : List Item} → JustKept config kept past → kept_on past ≡ Some kept
    its (kept_now {command = command} {past = past} class before) = by_class (class_of_command command) (kept_on past) class before
    its (fills recorded) = refl
    its (gives_up just) = its just

-- a command is sent on a link that the session has
sent_going : (config : Config) (past : List Item) (link : ℕ) (command : Command) (id : Option ℕ) → contains link (links past) ≡ true → HasPinned config past
    → HasPinned config (Puts (Sends link (Asks command id)) ∷ past)
sent_going config past link command id here kept = λ other k. by_kept other (kept_on past) refl k
  where
    by_test : (other : ℕ) (test : Bool) → kept_on past ≡ None
        → or_link (if test then Some link else None) (transaction config past).link ≡ Some other
        → contains other (links past) ≡ true
    by_test other true b k = ap (λ (l : ℕ). contains l (links past)) (sym (same_some link other k)) ∙ here
    by_test other false b k = kept other (ap (λ (on : Option ℕ). or_link on (transaction config past).link) b ∙ k)

    by_kept : (other : ℕ) (before : Option ℕ) → kept_on past ≡ before
        → or_link (kept_by (class_of_command command) link before) (transaction config past).link ≡ Some other
        → contains other (links past) ≡ true
    by_kept other None b k = by_test other (keeps (class_of_command command)) b k
    by_kept other (Some at) b k = kept other (ap (λ (on : Option ℕ). or_link on (transaction config past).link) b ∙ k)

-- behind a whole reply the session is pinned where it was, or to the link of the reply
passed_pinned : (config : Config) (past : List Item) (link : ℕ) (outcome : Outcome) → contains link (links past) ≡ true → HasPinned config past
    → (at : ℕ)
    → or_link (kept_on past) (answered_by (kept_on past) (pending past) link outcome (routing config past) (transaction config past)).link ≡ Some at
    → contains at (links past) ≡ true
passed_pinned config past link outcome here kept at e =
    by_kept (speaks (or_link (kept_on past) (transaction config past).link) link (class_by_pending (pending past)) (routing config past))
    (kept_on past) refl e
  where
    by_kept : (its : Bool) (before : Option ℕ) → kept_on past ≡ before
        → or_link before (answered_if its (answer_to (pending past) link outcome (transaction config past).state) (transaction config past)).link ≡ Some at
        → contains at (links past) ≡ true
    by_kept its (Some other) b e = kept at (ap (λ (on : Option ℕ). or_link on (transaction config past).link) b ∙ e)
    by_kept its None b e =
        elim (answered_there its (answer_to (pending past) link outcome (transaction config past).state) (transaction config past) at e) [
          | inl there ↦ kept at (ap (λ (on : Option ℕ). or_link on (transaction config past).link) b ∙ there)
          | inr same ↦ ap (λ (l : ℕ). contains l (links past)) (sym same) ∙ here
        ]

module _ (config : Config) (past : List Item) where
  assigned_dropped : (gone : ℕ) (cause : DropCause) (others : List Put) → owed config past ≡ Drops gone cause ∷ others → Assigned config past
      → Assigned config (Puts (Drops gone cause) ∷ past)
  assigned_dropped gone cause others o (has its) = has (assigned_without config past gone its)
  assigned_dropped gone cause others o (opens_it owes a) = opens_none config past (Drops gone cause) others o refl owes
  assigned_dropped gone cause others o (nobody none) = nobody none

  drop_going : (gone : ℕ) (cause : DropCause) (others : List Put) → owed config past ≡ Drops gone cause ∷ others → Dropped config past gone cause
      → Going config past → Going config (Puts (Drops gone cause) ∷ past)
  drop_going gone cause others o given (soon s) = soon (paid_soon config past (Drops gone cause) others o refl refl s)
  drop_going gone cause others o given (over is) = over is
  drop_going gone cause others o (at_end is) (stands kept assigned) = over is
  drop_going gone cause others o (since_kept link just other) (stands kept assigned) =
      stands (λ at k.
      let same : link ≡ at =
      same_some link at (sym (ap (λ (on : Option ℕ). or_link on (transaction config past).link) (just_kept link just)) ∙ k) in
      other_stays gone at (links past) (by_test at same (at == gone) refl) (kept at k)) (assigned_dropped gone cause others o assigned)
    where
      by_test : (at : ℕ) → link ≡ at → (test : Bool) → (at == gone) ≡ test → (at == gone) ≡ false
      by_test at same true t = absurd (other (same ∙ eqb-true at gone t))
      by_test at same false t = t
  drop_going gone cause others o (for_fault lossy its_loss had) (stands kept assigned) = by_test (is_link gone (pinned config past)) refl
    where
      by_test : (test : Bool) → is_link gone (pinned config past) ≡ test → Going config (Puts (Drops gone cause) ∷ past)
      by_test true t =
          let closes = pinned_closes config past gone (is_that gone (pinned config past) t) in
          soon (rw lossy (closes_before (after_loss config gone past) (drop 1 (owed config past)) closes))
      by_test false t = stands (kept_without config past gone kept t) (assigned_dropped gone cause others o assigned)

  open_going : (link server : ℕ) (login : Login) (others : List Put) → owed config past ≡ Opens link server login ∷ others
      → IsOpening config link server past → Going config past → Going config (Puts (Opens link server login) ∷ past)
  open_going link server login others o its (soon s) = soon (paid_soon config past (Opens link server login) others o refl refl s)
  open_going link server login others o its (over is) = over is
  open_going link server login others o its (stands kept assigned) =
      stands (λ at k. has_still at link (links past) (kept at k)) (has (λ at a.
      let a : (routing config (Routed its.words its.loads link its.found ∷ its.below)).assigned ≡ Some at =
      ap (λ (p : List Item). (routing config p).assigned) (sym its.answered) ∙ a in
      let same : link ≡ at = opened_for config its.below its.words its.loads link server its.found its.there its.none_there at a in
      let yes : (link == at) ≡ true = eq-eqb link at same in (
        ap (λ (l : ℕ). contains l (without link (links past) ++ link ∷ [])) (sym same) ∙ has_last (without link (links past)) link,
        (its.found, ap found_last its.answered, rw yes its.there),
      )))

  send_going : (link : ℕ) (purpose : Purpose) (others : List Put) → owed config past ≡ Sends link purpose ∷ others
      → IsCaused config (Sends link purpose) past → Going config past → Going config (Puts (Sends link purpose) ∷ past)
  send_going link Prepares others o cause going = paid config past (Sends link Prepares) others o refl refl refl refl (λ link. refl) refl refl refl going
  send_going link (Plays entry) others o cause going = paid config past (Sends link (Plays entry)) others o refl refl refl refl (λ link. refl) refl refl refl going
  send_going link (Waits gtid seconds) others o cause going = paid config past (Sends link (Waits gtid seconds)) others o refl refl refl refl (λ link. refl) refl refl refl going
  send_going link (Probes gtid) others o cause going = paid config past (Sends link (Probes gtid)) others o refl refl refl refl (λ link. refl) refl refl refl going
  send_going link (Asks command id) others o cause (soon s) = soon (paid_soon config past (Sends link (Asks command id)) others o refl refl s)
  send_going link (Asks command id) others o cause (over is) = over is
  send_going link (Asks command id) others o cause (stands kept assigned) =
      stands (sent_going config past link command id (has_it (links past) link cause.3) kept)
      (assigned_paid config past (Sends link (Asks command id)) others o refl refl refl (λ at. refl) assigned)

  keep_going : (number link : ℕ) (command : Command) (payload : Payload) (its : Ending) (others : List Put)
      → owed config past ≡ Tells number (Passes link command payload (Some its) Keeps) ∷ others → contains link (links past) ≡ true
      → Going config past → Going config (Puts (Tells number (Passes link command payload (Some its) Keeps)) ∷ past)
  keep_going number link command payload its others o here (soon s) =
      soon (paid_soon config past (Tells number (Passes link command payload (Some its) Keeps)) others o refl refl s)
  keep_going number link command payload its others o here (over is) = over is
  keep_going number link command payload its others o here (stands kept assigned) =
      stands (λ at k. ap (λ (l : ℕ). contains l (links past)) (sym (same_some link at k)) ∙ here)
      (assigned_paid config past (Tells number (Passes link command payload (Some its) Keeps)) others o refl refl refl (λ at. refl) assigned)

  pass_going : (number link : ℕ) (command : Command) (payload : Payload) (its : Ending) (recording : Recording) (others : List Put)
      → owed config past ≡ Tells number (Passes link command payload (Some its) recording) ∷ others → contains link (links past) ≡ true
      → kept_on (Puts (Tells number (Passes link command payload (Some its) recording)) ∷ past) ≡ kept_on past
      → Going config past → Going config (Puts (Tells number (Passes link command payload (Some its) recording)) ∷ past)
  pass_going number link command payload its recording others o here same (soon s) =
      soon (paid_soon config past (Tells number (Passes link command payload (Some its) recording)) others o refl refl s)
  pass_going number link command payload its recording others o here same (over is) = over is
  pass_going number link command payload its recording others o here same (stands kept assigned) =
      stands (λ at k. passed_pinned config past link its.outcome here kept at
      (sym (ap (λ (on : Option ℕ). or_link on (answered_by (kept_on past) (pending past) link its.outcome (routing config past) (transaction config past)).link) same) ∙ k))
      (assigned_paid config past (Tells number (Passes link command payload (Some its) recording)) others o refl refl refl (λ at. refl) assigned)

  put_going : (put : Put) (others : List Put) → owed config past ≡ put ∷ others → IsCaused config put past → Going config past
      → Going config (Puts put ∷ past)
  put_going (Hands packets) others o cause going = paid config past (Hands packets) others o refl refl refl refl (λ link. refl) refl refl refl going
  put_going (Records server gtid) others o cause going = paid config past (Records server gtid) others o refl refl refl refl (λ link. refl) refl refl refl going
  put_going (Tells number (Passes link command payload (Some its) Keeps)) others o cause going =
      keep_going number link command payload its others o (has_it (links past) link cause.0.has) going
  put_going (Tells number (Passes link command payload (Some its) Accepts)) others o cause going =
      pass_going number link command payload its Accepts others o (has_it (links past) link cause.0.has) refl going
  put_going (Tells number (Passes link command payload (Some its) Nothing)) others o cause going =
      pass_going number link command payload its Nothing others o (has_it (links past) link cause.0.has) refl going
  put_going (Tells number (Passes link command payload None recording)) others o cause going =
      paid config past (Tells number (Passes link command payload None recording)) others o refl refl refl refl (λ link. refl) refl refl refl going
  put_going (Tells number (Owns status)) others o cause going = paid config past (Tells number (Owns status)) others o refl refl refl refl (λ link. refl) refl refl refl going
  put_going (Tells number (Refuses error)) others o cause going =
      paid config past (Tells number (Refuses error)) others o refl refl refl (refused_assigned config past number error) (λ link. refl) refl refl refl going
  put_going Routes others o cause going = paid config past Routes others o refl refl refl refl (λ link. refl) refl refl refl going
  put_going (Forgets link id) others o cause going = paid config past (Forgets link id) others o refl refl refl refl (λ link. refl) refl refl refl going
  put_going (LogsInto link packets) others o cause going = paid config past (LogsInto link packets) others o refl refl refl refl (λ link. refl) refl refl refl going
  put_going (Opens link server login) others o cause going = open_going link server login others o cause.0 going
  put_going (Sends link purpose) others o cause going = send_going link purpose others o cause going
  put_going (Drops link why) others o cause going = drop_going link why others o (dropped config past link why cause) going
  put_going (Closes reason) others o cause going = over refl

-- Each step

-- what a link says assigns the pending command to no other
came_going : (config : Config) (past : List Item) (from : ℕ) (said : LinkStep) → owed config past ≡ [] → Going config past
    → Going config (Comes from said ∷ past)
came_going config past from said o (soon s) = nothing_soon o s
came_going config past from said o (over is) = over is
came_going config past from said o (stands kept assigned) = stands kept (by_assigned assigned)
  where
    by_assigned : Assigned config past → Assigned config (Comes from said ∷ past)
    by_assigned (has its) = has (λ link a. its link (heard_assigned (checked_on from said past) (routing config past) link a))
    by_assigned (opens_it owes a) = absurd (let clash : [] ≡ Opens _ _ _ ∷ [] = sym o ∙ owes in cc)
    by_assigned (nobody none) = nobody none

due_going : {config : Config} {past : List Item} {item : Item} → owed config past ≡ [] → Due config past item → Going config past
    → Going config (item ∷ past)
due_going {config} {past} o (comes {link = from} {said = said} had a it) going = came_going config past from said o going
due_going {item = item} o (connects p f c) going = still item o refl refl refl refl (λ link. refl) (λ is. is) going
due_going o (takes p f) (stands kept assigned) = stands kept (has (λ link a. absurd cc))
due_going o (takes p f) (soon s) = nothing_soon o s
due_going o (takes p f) (over is) = over is

step_going : {config : Config} {past : List Item} {item : Item} → Step config past item
    → ((put : Put) → item ≡ Puts put → IsCaused config put past) → Going config past → Going config (item ∷ past)
step_going {config} {past} (pays {put = put} {others = others} o) cause going = put_going config past put others o (cause put refl) going
step_going (asks o n p g w) cause going = still (Puts Routes) o refl refl refl refl (λ link. refl) (λ is. is) going
step_going {item = item} (prepares o n its f) cause going = still item o refl refl refl refl (λ link. refl) (λ is. is) going
step_going {item = item} (plays o n its f t s) cause going = still item o refl refl refl refl (λ link. refl) (λ is. is) going
step_going {config} {past} (sends {link = link} {command = command} {id = id} o n p s g f t d i v) cause (stands kept assigned) =
    stands (sent_going config past link command id (freed true link past f).0 kept)
    (assigned_still (Puts (Sends link (Asks command id))) o refl refl refl (λ at. refl) assigned)
step_going (sends o n p s g f t d i v) cause (soon s_) = nothing_soon o s_
step_going (sends o n p s g f t d i v) cause (over is) = over is
step_going {item = item} (waits_first o n p s g f t d v) cause going = still item o refl refl refl refl (λ at. refl) (λ is. is) going
step_going {item = item} (probes_first o n p s g f t d v) cause going = still item o refl refl refl refl (λ at. refl) (λ is. is) going
step_going {item = item} (forgets o n its f t) cause going = still item o refl refl refl refl (λ link. refl) (λ is. is) going
step_going {item = item} (floods o n p above) cause going = still item o refl refl refl refl (λ link. refl) (λ is. is) going
step_going (reads o n due) cause going = due_going o due going

lost_going : {config : Config} {past : List Item} (gone : ℕ) → owed config past ≡ [] → Going config past → Going config (LinkLost gone ∷ past)
lost_going gone o (soon s) = nothing_soon o s
lost_going gone o (over is) = over is
lost_going {config} {past} gone o (stands kept assigned) = by_test (is_link gone (pinned config past)) refl
  where
    by_assigned : Assigned config past → Assigned config (LinkLost gone ∷ past)
    by_assigned (has its) = has (assigned_without config past gone its)
    by_assigned (nobody none) = nobody none
    by_assigned (opens_it owes a) = absurd (let clash : [] ≡ Opens _ _ _ ∷ [] = sym o ∙ owes in cc)

    by_test : (test : Bool) → is_link gone (pinned config past) ≡ test → Going config (LinkLost gone ∷ past)
    by_test true t = soon (pinned_closes config past gone (is_that gone (pinned config past) t))
    by_test false t = stands (kept_without config past gone kept t) (by_assigned assigned)

input_going : {config : Config} {past : List Item} (item : Item) → owed config past ≡ [] → IsInput item past → Going config past
    → Going config (item ∷ past)
input_going (ClientBytes bytes) o input going = still (ClientBytes bytes) o refl refl refl refl (λ link. refl) (λ is. is) going
input_going (LinkReady link) o input going = still (LinkReady link) o refl refl refl refl (λ link. refl) (λ is. is) going
input_going (LinkBytes link bytes) o input going = still (LinkBytes link bytes) o refl refl refl refl (λ link. refl) (λ is. is) going
input_going ClientGone o input going = over refl
input_going (LinkLost gone) o input going = lost_going gone o going
input_going (Ticks reading) o input going = still (Ticks reading) o refl refl refl refl (λ link. refl) (λ is. is) going
input_going _ o input going = absurd input

-- the worker answers
answer_going : (config : Config) (words : PoolWords) (loads : List Load) (next : ℕ) (found : Target) {past : List Item} → AskedNow config past
    → owed config past ≡ [] → Going config past → Going config (Routed words loads next found ∷ past)
answer_going config words loads next found asked o (soon s) = nothing_soon o s
answer_going config words loads next found asked o (over is) = over is
answer_going config words loads next found (asked_now {past = past} {command = command} legal none n p g w) o (stands kept assigned) =
    stands kept (by_found found)
  where
    entered : login_of config past ≡ None → config.accounts ≡ []
    entered l = let its = is_entering none n (legal_entering legal) in its.enters (its.waits command p) l

    -- a link that goes there
    has_one : (found : Target) (server link at : ℕ) → IsAt server found → link_to server (Puts Routes ∷ past) ≡ Some link → link ≡ at
        → (contains at (links past) ≡ true) × Aimed at (Routed words loads next found ∷ Puts Routes ∷ past)
    has_one found server link at there to same =
        let one = one_to server (links past) (Puts Routes ∷ past) link to in
        subst (λ (l : ℕ). (contains l (links past) ≡ true) × Aimed l (Routed words loads next found ∷ Puts Routes ∷ past)) same
        (one.0, (found, refl, subst (λ (to : ℕ). IsAt to found) (sym one.1) there))

    by_primary : (server : ℕ) (link : Option ℕ) (login : Option Login) → link_to server (Puts Routes ∷ past) ≡ link → login_of config past ≡ login
        → Assigned config (Routed words loads next (Primary server) ∷ Puts Routes ∷ past)
    by_primary server (Some link) login to l = has (λ at a.
        let a : Some link ≡ Some at = rw to at a in has_one (Primary server) server link at primary to (same_some link at a))
    by_primary server None (Some login) to l = opens_it {link = next} {server = server} {login = login} (rw (to, l) refl) (rw to refl)
    by_primary server None None to l = nobody (entered l)

    by_replica : (server : ℕ) (link : Option ℕ) (login : Option Login) → link_to server (Puts Routes ∷ past) ≡ link → login_of config past ≡ login
        → Assigned config (Routed words loads next (Replica server) ∷ Puts Routes ∷ past)
    by_replica server (Some link) login to l = has (λ at a.
        let a : Some link ≡ Some at = rw to at a in has_one (Replica server) server link at replica to (same_some link at a))
    by_replica server None (Some login) to l = opens_it {link = next} {server = server} {login = login} (rw (to, l) refl) (rw to refl)
    by_replica server None None to l = nobody (entered l)

    by_found : (found : Target) → Assigned config (Routed words loads next found ∷ Puts Routes ∷ past)
    by_found Nowhere = has (λ link a. absurd cc)
    by_found (Primary server) = by_primary server (link_to server (Puts Routes ∷ past)) (login_of config past) refl refl
    by_found (Replica server) = by_replica server (link_to server (Puts Routes ∷ past)) (login_of config past) refl refl

begins_going : (config : Config) (item : Item) → IsBeginning item → Going config (item ∷ [])
begins_going config (Accepted session scramble reading) its = stands (λ link k. absurd cc) (has (λ link a. absurd cc))
begins_going config (TurnsAway told) its = stands (λ link k. absurd cc) (has (λ link a. absurd cc))
begins_going config (Began link server reading) its = stands (λ link k. absurd cc) (has (λ link a. absurd cc))
begins_going config _ its = absurd its

want_going : (config : Config) (past : List Item) (made its_over : Bool) (number : ℕ) → is_over past ≡ its_over → Going config (Starves made number ∷ past)
want_going config past made true number o = over o
want_going config past true false number o = soon (rw o refl)
want_going config past false false number o = soon (rw o refl)

pub legal_going : {config : Config} {past : List Item} → IsRecord config past → Going config past
legal_going {config} (begins {item = item} its) = begins_going config item its
legal_going {config} (steps {past = past} {item = item} legal e) =
    step_going (of_next config past item e)
    (λ put is. (subst (λ (i : Item). AreCaused config (i ∷ past)) is (causes config (item ∷ past) (steps legal e))).0) (legal_going legal)
legal_going {config} (answers {past = past} {words = words} {loads = loads} {next_link = next} legal asked) =
    answer_going config words loads next (found_in config past words loads) (legal_asked legal asked) (asks_owing_nothing legal asked) (legal_going legal)
legal_going {config} (hears {past = past} {item = item} legal rests none n input) =
    input_going item (rests_owing_nothing config past rests none) input (legal_going legal)
legal_going {config} (starves {past = past} {made = made} {number = number} legal once can its) =
    want_going config past made (is_over past) number refl

-- while a session goes on with nothing owed
pub goes_with : {config : Config} {past : List Item} → owed config past ≡ [] → is_over past ≡ false → Going config past
    → HasPinned config past × (HasAssigned config past ⊎ (config.accounts ≡ []))
goes_with o n (soon s) = nothing_soon o s
goes_with o n (over is) = absurd cc
goes_with o n (stands kept (has its)) = (kept, inl its)
goes_with o n (stands kept (nobody none)) = (kept, inr none)
goes_with o n (stands kept (opens_it owes a)) = absurd (let clash : [] ≡ Opens _ _ _ ∷ [] = sym o ∙ owes in cc)
