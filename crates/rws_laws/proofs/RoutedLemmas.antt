-- What the worker's answer brings has its cause: a link is opened, or a command that waited too long is refused.
use Rattle.std.proofs.Common.{◌≡◌, ℕ, ◌+◌, ◌≤◌, Bool, true, false, List, [], ◌∷◌, refl, sym, ap, ◌∙◌, inl, inr, eqb-true, Option, Some, None}
use Rattle.std.specs.Prelude.{◌≢◌, ◌==◌, ◌&&◌, not, if◌then◌else◌}
use Rattle.std.proofs.lemmas.Bool.{cases_lt, eq-eqb, lt-ltb}
use Rattle.rws_native.specs.declared.login.Login.{Login}
use Rattle.rws_reply.specs.Replies.{Payload}
use Rattle.rws_pool.specs.declared.words.PoolWords.{PoolWords}
use Rattle.rws_select.specs.declared.selector.Load.{Load}
use Rattle.rws_route.specs.declared.destination.Target.{Target}
use Rattle.rws_route.specs.declared.destination.Target.TheVariants.{Primary, Replica, NoPrimary as Nowhere}
use Rattle.rws_routing.specs.declared.routing.Routing.{Routing}
use Rattle.rws_routing.specs.Routings.{finds_late, is_at, is_late, or_number, server_in, tried_by}
use Rattle.rws_config.specs.declared.config.Config.{Config}
use Rattle.rws_commands.specs.declared.command.Command.{Command}
use Rattle.rws_commands.specs.declared.proxy_error.ProxyError.{ProxyError}
use Rattle.rws_commands.specs.declared.proxy_error.ProxyError.TheVariants.{UnknownCommand, NotSupported, UnknownStatement, BadExecute, TooManyStatements, NotInReadOnly, TooManyConnections, CommandTooLarge, NoPrimary, PrimaryBehind, OutOfMemory}
use Rattle.rws_record.specs.Item.{Item}
use Rattle.rws_record.specs.Item.Item.{Accepted, TurnsAway, Began, ClientBytes, LinkReady, LinkBytes, ClientGone, LinkLost, Ticks, Routed, Comes, Connects, Takes, Floods, Puts, Starves}
use Rattle.rws_record.specs.Item.Put.{Hands, Tells, Records, Routes, Opens, LogsInto, Sends, Forgets, Drops, Closes}
use Rattle.rws_record.specs.Item.Tell.{Passes, Owns, Refuses}
use Rattle.rws_record.specs.Values.{checked_on, contains, first_to, link_to, links, login_of, now, pending, reply_number, routing, sent_on, server_of, told}
use Rattle.rws_record.specs.Rules.{after_route, opening, refusing}
use Rattle.rws_laws.specs.Client.{IsPending}
use Rattle.rws_laws.specs.Client.Asked.{before}
use Rattle.rws_laws.specs.Causes.{IsAt, earlier, first_nowhere, found_last, number_behind_all}
use Rattle.rws_laws.specs.Causes.IsAt.{primary, replica}
use Rattle.rws_laws.proofs.CheckLemmas.{heard_since, heard_waits}
use Rattle.rws_laws.proofs.ListLemmas.{has_it}
use Rattle.rws_laws.proofs.Sound.{Caused, IsAsked, Telling}
use Rattle.rws_laws.proofs.Sound.Caused.{nothing, opens, tells}
use Rattle.rws_laws.proofs.ReplyLemmas.{unsent_told}

-- The reading at which no primary was found first

lost_waits : (r : Routing) (test : Bool) → (if test then record r { assigned = None; tried = tried_by r.target r.tried } else r).waits_from ≡ r.waits_from
lost_waits r true = refl
lost_waits r false = refl

refused_waits : (config : Config) (past : List Item) (number : ℕ) (error : ProxyError)
    → (routing config (Puts (Tells number (Refuses error)) ∷ past)).waits_from ≡ (routing config past).waits_from
refused_waits config past number UnknownCommand = refl
refused_waits config past number NotSupported = refl
refused_waits config past number UnknownStatement = refl
refused_waits config past number BadExecute = refl
refused_waits config past number TooManyStatements = refl
refused_waits config past number NotInReadOnly = refl
refused_waits config past number TooManyConnections = refl
refused_waits config past number CommandTooLarge = refl
refused_waits config past number NoPrimary = refl
refused_waits config past number (PrimaryBehind wanted found) = refl
refused_waits config past number OutOfMemory = refl

same_earlier : (before : Option ℕ) (reading : ℕ) → or_number before reading ≡ earlier before reading
same_earlier (Some number) reading = refl
same_earlier None reading = refl

pub waits_since : (config : Config) (past : List Item) → (routing config past).waits_from ≡ first_nowhere past
waits_since config [] = refl
waits_since config (Takes judged number ∷ past) = refl
waits_since config (Routed words loads next Nowhere ∷ past) =
    same_earlier (routing config past).waits_from (now past) ∙ ap (λ (before : Option ℕ). earlier before (now past)) (waits_since config past)
waits_since config (Routed words loads next (Primary server) ∷ past) = waits_since config past
waits_since config (Routed words loads next (Replica server) ∷ past) = waits_since config past
waits_since config (Ticks reading ∷ past) = waits_since config past
waits_since config (LinkLost link ∷ past) = lost_waits (routing config past) (is_at link (routing config past).assigned) ∙ waits_since config past
waits_since config (Puts (Drops link cause) ∷ past) = lost_waits (routing config past) (is_at link (routing config past).assigned) ∙ waits_since config past
waits_since config (Puts (Tells number (Refuses error)) ∷ past) = refused_waits config past number error ∙ waits_since config past
waits_since config (Accepted session scramble reading ∷ past) = waits_since config past
waits_since config (TurnsAway told ∷ past) = waits_since config past
waits_since config (Began link server reading ∷ past) = waits_since config past
waits_since config (ClientBytes bytes ∷ past) = waits_since config past
waits_since config (LinkReady link ∷ past) = waits_since config past
waits_since config (LinkBytes link bytes ∷ past) = waits_since config past
waits_since config (ClientGone ∷ past) = waits_since config past
waits_since config (Comes link said ∷ past) = heard_since (checked_on link said past) (routing config past) ∙ waits_since config past
waits_since config (Connects said ∷ past) = waits_since config past
waits_since config (Floods bytes ∷ past) = waits_since config past
waits_since config (Starves made number ∷ past) = waits_since config past
waits_since config (Puts (Hands packets) ∷ past) = waits_since config past
waits_since config (Puts (Records server gtid) ∷ past) = waits_since config past
waits_since config (Puts (Tells number (Passes link command payload outcome recording)) ∷ past) = waits_since config past
waits_since config (Puts (Tells number (Owns status)) ∷ past) = waits_since config past
waits_since config (Puts Routes ∷ past) = waits_since config past
waits_since config (Puts (Opens link server login) ∷ past) = waits_since config past
waits_since config (Puts (Forgets link id) ∷ past) = waits_since config past
waits_since config (Puts (LogsInto link packets) ∷ past) = waits_since config past
waits_since config (Puts (Sends link purpose) ∷ past) = waits_since config past
waits_since config (Puts (Closes reason) ∷ past) = waits_since config past

-- A command that waits found no primary last

lost_waiting : (r : Routing) (test : Bool) → (if test then record r { assigned = None; tried = tried_by r.target r.tried } else r).waits ≡ r.waits
lost_waiting r true = refl
lost_waiting r false = refl

refused_waiting : (config : Config) (past : List Item) (number : ℕ) (error : ProxyError)
    → (routing config (Puts (Tells number (Refuses error)) ∷ past)).waits ≡ true → (routing config past).waits ≡ true
refused_waiting config past number UnknownCommand w = w
refused_waiting config past number NotSupported w = w
refused_waiting config past number UnknownStatement w = w
refused_waiting config past number BadExecute w = w
refused_waiting config past number TooManyStatements w = w
refused_waiting config past number NotInReadOnly w = w
refused_waiting config past number TooManyConnections w = w
refused_waiting config past number CommandTooLarge w = w
refused_waiting config past number OutOfMemory w = w
refused_waiting config past number NoPrimary w = absurd cc
refused_waiting config past number (PrimaryBehind wanted found) w = absurd cc

pub nowhere_last : (config : Config) (past : List Item) → (routing config past).waits ≡ true → found_last past ≡ Some Nowhere
nowhere_last config [] w = absurd cc
nowhere_last config (Takes judged number ∷ past) w = absurd cc
nowhere_last config (Routed words loads next Nowhere ∷ past) w = refl
nowhere_last config (Routed words loads next (Primary server) ∷ past) w = absurd cc
nowhere_last config (Routed words loads next (Replica server) ∷ past) w = absurd cc
nowhere_last config (Ticks reading ∷ past) w = absurd cc
nowhere_last config (LinkLost link ∷ past) w =
    nowhere_last config past (sym (lost_waiting (routing config past) (is_at link (routing config past).assigned)) ∙ w)
nowhere_last config (Puts (Drops link cause) ∷ past) w =
    nowhere_last config past (sym (lost_waiting (routing config past) (is_at link (routing config past).assigned)) ∙ w)
nowhere_last config (Puts (Tells number (Refuses error)) ∷ past) w = nowhere_last config past (refused_waiting config past number error w)
nowhere_last config (Accepted session scramble reading ∷ past) w = nowhere_last config past w
nowhere_last config (TurnsAway told ∷ past) w = nowhere_last config past w
nowhere_last config (Began link server reading ∷ past) w = nowhere_last config past w
nowhere_last config (ClientBytes bytes ∷ past) w = nowhere_last config past w
nowhere_last config (LinkReady link ∷ past) w = nowhere_last config past w
nowhere_last config (LinkBytes link bytes ∷ past) w = nowhere_last config past w
nowhere_last config (ClientGone ∷ past) w = nowhere_last config past w
nowhere_last config (Comes link said ∷ past) w = nowhere_last config past (sym (heard_waits (checked_on link said past) (routing config past)) ∙ w)
nowhere_last config (Connects said ∷ past) w = nowhere_last config past w
nowhere_last config (Floods bytes ∷ past) w = nowhere_last config past w
nowhere_last config (Starves made number ∷ past) w = nowhere_last config past w
nowhere_last config (Puts (Hands packets) ∷ past) w = nowhere_last config past w
nowhere_last config (Puts (Records server gtid) ∷ past) w = nowhere_last config past w
nowhere_last config (Puts (Tells number (Passes link command payload outcome recording)) ∷ past) w = nowhere_last config past w
nowhere_last config (Puts (Tells number (Owns status)) ∷ past) w = nowhere_last config past w
nowhere_last config (Puts Routes ∷ past) w = nowhere_last config past w
nowhere_last config (Puts (Opens link server login) ∷ past) w = nowhere_last config past w
nowhere_last config (Puts (Forgets link id) ∷ past) w = nowhere_last config past w
nowhere_last config (Puts (LogsInto link packets) ∷ past) w = nowhere_last config past w
nowhere_last config (Puts (Sends link purpose) ∷ past) w = nowhere_last config past w
nowhere_last config (Puts (Closes reason) ∷ past) w = nowhere_last config past w

late_by : (wait reading : ℕ) (from : Option ℕ) → is_late wait from reading ≡ true → (first : ℕ) × (from ≡ Some first) × (first + wait ≤ reading)
late_by wait reading None e = absurd cc
late_by wait reading (Some first) e =
    elim (cases_lt reading (first + wait)) [
      | inl below ↦ let no : not true ≡ true = rw (lt-ltb reading (first + wait) below) at e in absurd cc
      | inr behind ↦ (first, refl, behind)
    ]

both : (a b : Bool) → (a && b) ≡ true → (a ≡ true) × (b ≡ true)
both true b e = (refl, e)
both false b e = absurd cc

-- The link to a server

-- none of these goes there
pub none_to : (server : ℕ) (list : List ℕ) (past : List Item) → first_to server list past ≡ None → (other : ℕ) → contains other list ≡ true
    → server_of other past ≢ server
none_to server [] past none other has = absurd cc
none_to server (first ∷ others) past none other has =
    by_tests (server_of first past == server) (first == other) refl refl none has (none_to server others past)
  where
    by_tests : (test also : Bool) → (server_of first past == server) ≡ test → (first == other) ≡ also
        → (if test then Some first else first_to server others past) ≡ None → (if also then true else contains other others) ≡ true
        → (first_to server others past ≡ None → (other : ℕ) → contains other others ≡ true → server_of other past ≢ server)
        → server_of other past ≢ server
    by_tests true also t a none has behind = absurd cc
    by_tests false true t a none has behind = λ same.
        let is : server_of first past ≡ server = ap (λ (l : ℕ). server_of l past) (eqb-true first other a) ∙ same in
        let yes : (server_of first past == server) ≡ true = eq-eqb (server_of first past) server is in absurd cc
    by_tests false false t a none has behind = behind none other has

-- or the first of them that goes there is one of them
pub one_to : (server : ℕ) (list : List ℕ) (past : List Item) (link : ℕ) → first_to server list past ≡ Some link
    → (contains link list ≡ true) × (server_of link past ≡ server)
one_to server [] past link one = absurd cc
one_to server (first ∷ others) past link one =
    by_test (server_of first past == server) refl one (one_to server others past link)
  where
    behind_it : (test : Bool) → contains link others ≡ true → (if test then true else contains link others) ≡ true
    behind_it true has = refl
    behind_it false has = has

    by_test : (test : Bool) → (server_of first past == server) ≡ test → (if test then Some first else first_to server others past) ≡ Some link
        → (first_to server others past ≡ Some link → (contains link others ≡ true) × (server_of link past ≡ server))
        → (contains link (first ∷ others) ≡ true) × (server_of link past ≡ server)
    by_test true t one behind =
        let same : first ≡ link = cc in
        let itself : (first == link) ≡ true = eq-eqb first link same in
        (rw itself refl, ap (λ (l : ℕ). server_of l past) (sym same) ∙ eqb-true (server_of first past) server t)
    by_test false t one behind = let its = behind one in (behind_it (first == link) its.0, its.1)

-- The answer

module _ (config : Config) (past : List Item) (words : PoolWords) (loads : List Load) (next : ℕ) (command : Command)
    (p : pending past ≡ Some command) (its : IsAsked config command past) (s : sent_on past ≡ None) (telling : Telling past) where
  is_pending : (found : Target) → IsPending config command (Routed words loads next found ∷ past)
  is_pending found = record { waits = p; asked = before its.asked }

  counted : reply_number past ≡ command.number
  counted = its.counts ∙ ap (λ (list : List Payload). number_behind_all list command.number) (unsent_told command s p telling).0

  refusing_caused : (late : Bool) → finds_late config.primary_wait_ms (now past) (routing config past) ≡ late
      → Caused config (refusing late (reply_number past)) (Routed words loads next Nowhere ∷ past)
  refusing_caused false l = nothing
  refusing_caused true l =
      let its = both (routing config past).retries (is_late config.primary_wait_ms (routing config past).waits_from (now past)) l in
      let at = late_by config.primary_wait_ms (now past) (routing config past).waits_from its.1 in
      tells (record {
        below = past;
        words = words;
        loads = loads;
        next = next;
        answered = refl;
        command = command;
        pending = is_pending Nowhere;
        unsent = s;
        waited = its.0;
        first = at.0;
        since = sym (waits_since config past) ∙ at.1;
        late = at.2;
        counts = counted;
      }) nothing

  opening_caused : (found : Target) (server : ℕ) (link : Option ℕ) (login : Option Login) → IsAt server found
      → link_to server past ≡ link → login_of config past ≡ login
      → Caused config (opening link next server login) (Routed words loads next found ∷ past)
  opening_caused found server (Some link) login at to l = nothing
  opening_caused found server None None at to l = nothing
  opening_caused found server None (Some login) at to l =
      opens (
        record {
          below = past;
          words = words;
          loads = loads;
          found = found;
          answered = refl;
          there = at;
          none_there = λ other has. none_to server (links past) past to other (has_it (links past) other has);
          command = command;
          pending = is_pending found;
          unsent = s;
        },
        l,
      )

  pub route_caused : (found : Target)
      → Caused config (after_route found (link_to (server_in found) past) next (login_of config past)
      (finds_late config.primary_wait_ms (now past) (routing config past)) (reply_number past)) (Routed words loads next found ∷ past)
  route_caused Nowhere = refusing_caused (finds_late config.primary_wait_ms (now past) (routing config past)) refl
  route_caused (Primary server) = opening_caused (Primary server) server (link_to server past) (login_of config past) primary refl refl
  route_caused (Replica server) = opening_caused (Replica server) server (link_to server past) (login_of config past) replica refl refl
