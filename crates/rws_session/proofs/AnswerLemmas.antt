-- The worker's answer is taken in.
use Rattle.std.proofs.Common.{◌≡◌, ◌<◌, ℕ, length, arith, Bool, true, false, List, [], ◌∷◌, map, refl, sym, ap, subst, ◌∙◌, Option, Some, None, Result, Ok, Err, IfOk}
use Rattle.std.specs.Prelude.{MatchBool, if◌then◌else◌}
use Rattle.std.proofs.lemmas.List.{append-nil}
use Rattle.std.proofs.lemmas.List.FromFn.{length-map-range_with_len}
use Rattle.std.proofs.lemmas.List.Quantifiers.{position-Some}
use Rattle.std.proofs.lemmas.Option.{slice_get_within}
use Rattle.rws_class.specs.declared.class.Class.{Class}
use Rattle.rws_native.specs.declared.login.Login.{Login}
use Rattle.rws_pool.specs.declared.words.PoolWords.{PoolWords}
use Rattle.rws_pool.specs.declared.words.Seen.{Seen}
use Rattle.rws_pool.specs.Machine.{down}
use Rattle.rws_select.specs.declared.selector.Load.{Load}
use Rattle.rws_route.specs.declared.destination.Target.{Target}
use Rattle.rws_route.specs.declared.destination.Target.TheVariants.{Primary, Replica, NoPrimary}
use Rattle.rws_route.specs.Targets.{IsReadTarget, IsTarget, candidate_at, candidates_of, is_in, is_master, may_leave_primary, primary_of, primary_target, target_of, unless_tried}
use Rattle.rws_routing.specs.declared.routing.Check.{Check}
use Rattle.rws_routing.specs.Routings.{finds_late, server_in}
use Rattle.rws_config.specs.declared.config.Config.{Config}
use Rattle.rws_record.specs.Item.{Item, Put}
use Rattle.rws_record.specs.Item.Item.{Routed}
use Rattle.rws_record.specs.Item.Put.{Opens}
use Rattle.rws_record.specs.Values.{class_by_pending, link_to, links, login_of, now as reading_of, reply_number, routing}
use Rattle.rws_record.specs.Rules.{after_route, found_in, opening, owed, refusing}
use Rattle.rws_record.specs.Record.{IsRecord}
use Rattle.rws_record.specs.Record.IsRecord.{steps, answers}
use Rattle.rws_record.proofs.OpeningLemmas.{asks_owing_nothing}
use Rattle.rws_links.specs.Finding.{first_to}
use Rattle.rws_links.proofs.FindLemmas.{first_is}
use Rattle.rws_links.proofs.TableLemmas.{opened_is}
use Rattle.rws_session.specs.State.{State, erased, state_of}
use Rattle.rws_session.specs.Kept.{Asking, Is, Kept}
use Rattle.rws_session.specs.Steps.{OpensFor, OpensLink, TakesRoute, first_check, opens, opens_in, opens_none, owes, puts_for, routes, routes_in}
use Rattle.rws_session.specs.Turning.{Answers, Opens as LinkOpens, TakesIn, answer_to}

-- An answer with what was found.
module _ (config : Config) (past : List Item) (words : PoolWords) (loads : List Load) (next_link : ℕ) (found : Target) (check : Option Check)
    (old new : Kept) (asks : Asking config old past) (same : found ≡ found_in config past words loads)
    (checks : check ≡ first_check config found words old.state) where
  abbrev item : Item
  item = Routed words loads next_link found

  abbrev late : Bool
  late = finds_late config.primary_wait_ms (reading_of past) (routing config past)

  -- what follows on it
  abbrev puts : List Put
  puts = after_route found (link_to (server_in found) past) next_link (login_of config past) late (reply_number past)

  legal : IsRecord config (item ∷ past)
  legal = subst (λ (t : Target). IsRecord config (Routed words loads next_link t ∷ past)) (sym same) (answers asks.is.legal asks.asks)

  owes_none : owed config past ≡ []
  owes_none = asks_owing_nothing asks.is.legal asks.asks

  puts_are : puts_for config found next_link old.state ≡ puts
  puts_are = ap (λ (s : State). puts_for config found next_link s) asks.is.mirrors ∙ rw (first_is past (server_in found) (links past)) refl

  -- the state with the route
  routed_state : (routes found check (first_to (server_in found) old.state.links) next_link old).state ≡ record (state_of config (item ∷ past)) { owed = [] }
  routed_state =
      ap (λ (its : Option Check). routes_in found its (first_to (server_in found) old.state.links) next_link old.state) checks
      ∙ ap (λ (s : State). routes_in found (first_check config found words s) (first_to (server_in found) s.links) next_link s) asks.is.mirrors
      ∙ rw (owes_none, first_is past (server_in found) (links past)) refl

  takes_in : opens_none (puts_for config found next_link old.state) ≡ true
      → new ≡ record (routes found check (first_to (server_in found) old.state.links) next_link old) {
        state = owes (puts_for config found next_link old.state) (routes found check (first_to (server_in found) old.state.links) next_link old).state;
      }
      → TakesIn config item past old new
  takes_in none now = record {
    is = record {
      mirrors = ap (λ (k : Kept). k.state) now
          ∙ ap (owes (puts_for config found next_link old.state)) routed_state
          ∙ ap (λ (list : List Put). owes list (record (state_of config (item ∷ past)) { owed = [] })) puts_are
          ∙ rw (append-nil (map erased puts)) refl;
      legal = legal;
    };
    number = ap (λ (k : Kept). k.number) now;
    waits = ap (λ (k : Kept). k.outs) now;
    unopened = λ link server login others e.
        let none : opens_none puts ≡ true = rw puts_are at none in
        let clash : true ≡ false = sym none ∙ ap opens_none e in absurd cc;
  }

  opens_one : OpensFor (puts_for config found next_link old.state) next_link
      (routes found check (first_to (server_in found) old.state.links) next_link old) new
      → LinkOpens config item next_link past old new
  opens_one o =
      let owing : owed config (item ∷ past) ≡ Opens next_link o.server o.login ∷ [] = sym puts_are ∙ o.are in
      record {
        server = o.server;
        login = o.login;
        is = record {
          mirrors = ap (λ (k : Kept). k.state) o.now
              ∙ ap (λ (s : State). opens_in next_link o.server o.login s) routed_state
              ∙ rw (owing, opened_is (item ∷ past) next_link o.server o.login (links past)) refl;
          legal = steps legal (rw owing refl);
        };
        number = ap (λ (k : Kept). k.number) o.now;
        waits = ap (λ (k : Kept). k.outs) o.now;
      }

-- what was found for what is kept is what the record finds
found_same : (config : Config) (past : List Item) (words : PoolWords) (loads : List Load) (found : Target) (k : Kept) → Is config k past
    → found ≡ target_of (class_by_pending k.state.pending) k.state.transaction.state.autocommit k.state.routing.sent_back words loads k.state.routing.tried k.state.banned
    → found ≡ found_in config past words loads
found_same config past words loads found k is e =
    subst (λ (s : State). found ≡ target_of (class_by_pending s.pending) s.transaction.state.autocommit s.routing.sent_back words loads s.routing.tried s.banned) is.mirrors e

answered : (config : Config) (past : List Item) (words : PoolWords) (loads : List Load) (next_link : ℕ) (found : Target) (check : Option Check)
    (old new : Kept) (opened : Bool) → Asking config old past → found ≡ found_in config past words loads
    → check ≡ first_check config found words old.state
    → TakesRoute (puts_for config found next_link old.state) next_link
    (routes found check (first_to (server_in found) old.state.links) next_link old) new opened
    → Answers config (answer_to config past words loads next_link) next_link past old new opened
answered config past words loads next_link found check old new true asks same checks taken =
    subst (λ (t : Target). LinkOpens config (Routed words loads next_link t) next_link past old new) same
    (opens_one config past words loads next_link found check old new asks same checks taken)
answered config past words loads next_link found check old new false asks same checks taken =
    subst (λ (t : Target). TakesIn config (Routed words loads next_link t) past old new) same
    (takes_in config past words loads next_link found check old new asks same checks taken.0 taken.1)

pub answered_or_not : {E : Type 0} (config : Config) (past : List Item) (words : PoolWords) (loads : List Load) (next_link : ℕ) (found : Target)
    (check : Option Check) (old new : Kept) (result : Result Bool E) → Asking config old past
    → found ≡ target_of (class_by_pending old.state.pending) old.state.transaction.state.autocommit old.state.routing.sent_back words loads old.state.routing.tried old.state.banned
    → check ≡ first_check config found words old.state
    → IfOk result (λ opened. TakesRoute (puts_for config found next_link old.state) next_link
    (routes found check (first_to (server_in found) old.state.links) next_link old) new opened)
    → IfOk result (λ opened. Answers config (answer_to config past words loads next_link) next_link past old new opened)
answered_or_not config past words loads next_link found check old new (Err error) asks e checks taken = tt
answered_or_not config past words loads next_link found check old new (Ok opened) asks e checks taken =
    answered config past words loads next_link found check old new opened asks (found_same config past words loads found old asks.is e) checks taken

-- The parts of it

-- a refusal opens no link
pub refusing_opens_none : (late : Bool) (number : ℕ) → opens_none (refusing late number) ≡ true
refusing_opens_none true number = refl
refusing_opens_none false number = refl

-- a link was opened where there was none, and then the command was routed
went_to : (server next_link : ℕ) (login : Option Login) (found : Target) (check : Option Check) (link : Option ℕ) (old mid : Kept) (opened : Bool)
    → OpensLink next_link server login old mid opened
    → TakesRoute (opening None next_link server login) next_link (routes found check link next_link old) (routes found check link next_link mid) opened
went_to server next_link (Some login) found check link old mid true now =
    record { server = server; login = login; are = refl; now = ap (routes found check link next_link) now }
went_to server next_link None found check link old mid false now = (refl, ap (routes found check link next_link) now)
went_to server next_link (Some login) found check link old mid false now = absurd now
went_to server next_link None found check link old mid true now = absurd now

pub goes_to : (server next_link : ℕ) (login : Option Login) (found : Target) (check : Option Check) (link : Option ℕ) (old mid new : Kept) (opened : Bool)
    → OpensLink next_link server login old mid opened → link ≡ None → new ≡ routes found check link next_link mid
    → TakesRoute (opening link next_link server login) next_link (routes found check link next_link old) new opened
goes_to server next_link login found check link old mid new opened opens none now =
    rw now (subst (λ (l : Option ℕ). TakesRoute (opening l next_link server login) next_link (routes found check link next_link old)
    (routes found check link next_link mid) opened) (sym none) (went_to server next_link login found check link old mid opened opens))

-- The table names one of the servers that the words know.

primary_within : (servers : List Seen) (tried : ℕ) → length servers ≡ 7 → server_in (primary_target servers tried) < 7
primary_within servers tried seven = by_place (primary_of servers) refl
  where
    by_place : (place : Option ℕ) → primary_of servers ≡ place → server_in (unless_tried tried place) < 7
    by_place None e = omega arith
    by_place (Some place) e = by_test (is_in tried place)
      where
        below : place < 7
        below = omega (arith, (position-Some (λ (seen : Seen). is_master seen.state) servers place down e).0, seven)

        by_test : (test : Bool) → server_in (if test then NoPrimary else Primary place) < 7
        by_test true = omega arith
        by_test false = below

pub found_within : (class : Class) (autocommit sent_back : Bool) (words : PoolWords) (loads : List Load) (tried banned : ℕ) (found : Target)
    → length words.servers ≡ 7 → IsTarget class autocommit sent_back words loads tried banned found → server_in found < 7
found_within class autocommit sent_back words loads tried banned found seven its =
    by_test (may_leave_primary class autocommit sent_back) its
  where
    at_primary : (found : Target) → found ≡ primary_target words.servers tried → server_in found < 7
    at_primary found e = subst (λ (t : Target). server_in t < 7) (sym e) (primary_within words.servers tried seven)

    by_target : (found : Target) → IsReadTarget (candidates_of words.servers loads tried banned) (primary_target words.servers tried) found
        → server_in found < 7
    by_target (Replica place) choice =
        let within = slice_get_within (candidates_of words.servers loads tried banned) place (Some choice.load) choice.present in
        omega (arith, within, length-map-range_with_len (candidate_at words.servers loads tried banned) 0 7)
    by_target (Primary place) none = at_primary (Primary place) none.1
    by_target NoPrimary none = at_primary NoPrimary none.1

    by_test : (test : Bool)
        → MatchBool test (IsReadTarget (candidates_of words.servers loads tried banned) (primary_target words.servers tried) found)
        (found ≡ primary_target words.servers tried)
        → server_in found < 7
    by_test true its = by_target found its
    by_test false its = at_primary found its
