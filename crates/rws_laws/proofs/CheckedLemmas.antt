-- What goes before a read is answered: what is owed for that has its cause.
use Rattle.std.proofs.Common.{◌≡◌, ℕ, ◌<◌, Bool, true, false, List, [], ◌∷◌, ◌++◌, refl, sym, ap, subst, ◌∙◌, inl, inr, Option, Some, None}
use Rattle.std.specs.Prelude.{◌==◌, nat_le, nat_eq, Result, Ok, Err, codes, if◌then◌else◌}
use Rattle.std.proofs.lemmas.Bool.{leb-false}
use Rattle.std.specs.Cmp.Lexicographic.{pointwise}
use Rattle.rws_wire.specs.declared.drop_cause.DropCause.TheVariants.{BadReply, Probe as NoAnswer}
use Rattle.rws_gtid.specs.declared.Gtid.{Gtid}
use Rattle.rws_gtid.specs.declared.GtidFault.{GtidFault}
use Rattle.rws_gtid.specs.Parsing.{position_in}
use Rattle.rws_result.specs.declared.one_value.OneValue.{OneValue}
use Rattle.rws_result.specs.declared.one_value.OneValue.TheVariants.{Begins}
use Rattle.rws_result.specs.OneValues.{heard, heard_all, value_of}
use Rattle.rws_result.proofs.OneValueLemmas as values
use Rattle.rws_causal.specs.declared.causal.Causal.{Causal}
use Rattle.rws_causal.specs.declared.causal.Causal.TheVariants.{Go, TryPrimary, Wait as WaitsFirst, Probe as ProbesFirst, Stale, Unreadable}
use Rattle.rws_causal.specs.Rules.{after_probe, after_wait, at_position, reached}
use Rattle.rws_routing.specs.declared.routing.Check.{Check}
use Rattle.rws_routing.specs.declared.routing.Check.TheVariants.{Probe}
use Rattle.rws_reply.specs.declared.kind.Kind.TheVariants.{Query as QueryReply}
use Rattle.rws_reply.specs.declared.kind.Outcome.{Outcome}
use Rattle.rws_reply.specs.declared.kind.Progress.{Progress}
use Rattle.rws_reply.specs.declared.kind.Progress.TheVariants.{More, Whole as Ends}
use Rattle.rws_reply.specs.declared.role.Role.{Role}
use Rattle.rws_reply.specs.Replies.{Payload, IsReply}
use Rattle.rws_reply.specs.Tracking.{progress, role}
use Rattle.rws_reply.proofs.ProgressLemmas.{progress_is_exact}
use Rattle.rws_link.specs.declared.step.LinkCause.TheVariants as losses
use Rattle.rws_link.specs.declared.step.LinkStep.{LinkStep}
use Rattle.rws_link.specs.declared.step.LinkStep.TheVariants as steps
use Rattle.rws_link.specs.Stepping.{Exchange, is_some_byte}
use Rattle.rws_config.specs.declared.config.Config.{Config}
use Rattle.rws_commands.specs.declared.proxy_error.ProxyError.TheVariants.{PrimaryBehind}
use Rattle.rws_record.specs.Item.{Item, Purpose}
use Rattle.rws_record.specs.Item.Item.{Accepted, TurnsAway, Began, ClientBytes, LinkReady, LinkBytes, ClientGone, LinkLost, Ticks, Routed, Comes, Connects, Takes, Floods, Puts, Starves}
use Rattle.rws_record.specs.Item.Put.{Hands, Tells, Records, Routes, Opens, LogsInto, Sends, Forgets, Drops, Closes}
use Rattle.rws_record.specs.Item.Purpose.{Prepares, Asks, Plays, Waits, Probes}
use Rattle.rws_record.specs.Item.Tell.{Refuses}
use Rattle.rws_record.specs.Values.{asked_on, checked_by, checked_on, exchange, reply_number, told, value_on, valued_by}
use Rattle.rws_record.specs.Rules.{after_check, unasked}
use Rattle.rws_laws.specs.Client.Asked.{before}
use Rattle.rws_laws.specs.Servers.{IsNoPosition, Probed, asks_first, came_on, value_came, with_said}
use Rattle.rws_laws.specs.Causes.{PrimaryLags, number_behind_all}
use Rattle.rws_laws.proofs.CheckLemmas.{ForPending, heard_goes, heard_wants}
use Rattle.rws_laws.proofs.OwedLemmas.{Arrived, StillCaused, byte_behind, came_with, leaves, no_reply_so, still_nothing, still_unasked, unasked_recorded, unasked_told}
use Rattle.rws_laws.proofs.ReplyLemmas.{unsent_told}
use Rattle.rws_laws.proofs.Sound.{Caused, IsAsked, Telling}
use Rattle.rws_laws.proofs.Sound.Caused.{drops, tells}

-- The value that was read is the one of the result set that came

heard_end : (value : OneValue) (list : List Payload) (payload : Payload) → heard_all value (list ++ payload ∷ []) ≡ heard (heard_all value list) payload
heard_end value [] payload = refl
heard_end value (first ∷ others) payload = heard_end (heard value first) others payload

pub value_so : (link : ℕ) (past : List Item) (check : Check) → asks_first (asked_on link past) ≡ Some check
    → value_on link past ≡ heard_all Begins (came_on link past)
value_so link [] check q = refl
value_so link (Puts (Opens opened server login) ∷ past) check q = by_test (opened == link) q (value_so link past check)
  where
    by_test : (test : Bool) → asks_first (if test then None else asked_on link past) ≡ Some check
        → (asks_first (asked_on link past) ≡ Some check → value_on link past ≡ heard_all Begins (came_on link past))
        → (if test then Begins else value_on link past) ≡ heard_all Begins (came_on link past)
    by_test true q below = absurd cc
    by_test false q below = below q
value_so link (Puts (Sends to purpose) ∷ past) check q = by_test (to == link) q (value_so link past check)
  where
    by_test : (test : Bool) → asks_first (if test then Some purpose else asked_on link past) ≡ Some check
        → (asks_first (asked_on link past) ≡ Some check → value_on link past ≡ heard_all Begins (came_on link past))
        → (if test then Begins else value_on link past) ≡ heard_all Begins (if test then [] else came_on link past)
    by_test true q below = refl
    by_test false q below = below q
value_so link (Comes from said ∷ past) check q = by_test (from == link) said (value_so link past check q)
  where
    by_asked : (asked : Option Purpose) → asks_first asked ≡ Some check → (payload : Payload) (its : Role) (far : Progress) (number : ℕ) (behind : Bool) (value : OneValue)
        → valued_by (steps.Part payload its far number behind) asked value ≡ heard value payload
    by_asked (Some (Waits gtid seconds)) q payload its far number behind value = refl
    by_asked (Some (Probes gtid)) q payload its far number behind value = refl
    by_asked (Some Prepares) q payload its far number behind value = absurd cc
    by_asked (Some (Asks command id)) q payload its far number behind value = absurd cc
    by_asked (Some (Plays entry)) q payload its far number behind value = absurd cc
    by_asked None q payload its far number behind value = absurd cc

    by_said : (said : LinkStep) → value_on link past ≡ heard_all Begins (came_on link past)
        → valued_by said (asked_on link past) (value_on link past) ≡ heard_all Begins (with_said said (came_on link past))
    by_said (steps.Part payload its far number behind) below =
        by_asked (asked_on link past) q payload its far number behind (value_on link past) ∙ ap (λ (value : OneValue). heard value payload) below
        ∙ sym (heard_end Begins (came_on link past) payload)
    by_said (steps.Lost cause) below = below
    by_said (steps.Send packets) below = below
    by_said steps.LoggedIn below = below
    by_said steps.Idle below = below

    by_test : (test : Bool) (said : LinkStep) → value_on link past ≡ heard_all Begins (came_on link past)
        → (if test then valued_by said (asked_on link past) (value_on link past) else value_on link past)
        ≡ heard_all Begins (if test then with_said said (came_on link past) else came_on link past)
    by_test true said below = by_said said below
    by_test false said below = below
value_so link (Puts (Hands packets) ∷ past) check q = value_so link past check q
value_so link (Puts (Tells number tell) ∷ past) check q = value_so link past check q
value_so link (Puts (Records server gtid) ∷ past) check q = value_so link past check q
value_so link (Puts Routes ∷ past) check q = value_so link past check q
value_so link (Puts (LogsInto to packets) ∷ past) check q = value_so link past check q
value_so link (Puts (Forgets to id) ∷ past) check q = value_so link past check q
value_so link (Puts (Drops gone cause) ∷ past) check q = value_so link past check q
value_so link (Puts (Closes reason) ∷ past) check q = value_so link past check q
value_so link (Accepted session scramble reading ∷ past) check q = value_so link past check q
value_so link (TurnsAway told ∷ past) check q = value_so link past check q
value_so link (Began opened server reading ∷ past) check q = value_so link past check q
value_so link (ClientBytes bytes ∷ past) check q = value_so link past check q
value_so link (LinkReady ready ∷ past) check q = value_so link past check q
value_so link (LinkBytes from bytes ∷ past) check q = value_so link past check q
value_so link (ClientGone ∷ past) check q = value_so link past check q
value_so link (LinkLost gone ∷ past) check q = value_so link past check q
value_so link (Ticks reading ∷ past) check q = value_so link past check q
value_so link (Routed words loads next found ∷ past) check q = value_so link past check q
value_so link (Connects said ∷ past) check q = value_so link past check q
value_so link (Takes it number ∷ past) check q = value_so link past check q
value_so link (Floods bytes ∷ past) check q = value_so link past check q
value_so link (Starves made number ∷ past) check q = value_so link past check q

-- What an answer means

record StaleBy (gtid : Gtid) (value : Option (List ℕ)) (wanted found : ℕ) : Type 0 where
  list : List ℕ
  position : Option Gtid
  told : value ≡ Some list
  read : position_in gtid.domain list ≡ Ok position
  wants : wanted ≡ gtid.sequence
  reaches : found ≡ reached position
  less : found < wanted

above : (one other : ℕ) → nat_le one other ≡ false → other < one
above one other e = leb-false one other e

stale_by : (gtid : Gtid) (value : Option (List ℕ)) (wanted found : ℕ) → after_probe gtid value ≡ Stale wanted found → StaleBy gtid value wanted found
stale_by gtid None wanted found e = absurd cc
stale_by gtid (Some list) wanted found e = by_read (position_in gtid.domain list) refl e
  where
    by_test : (position : Option Gtid) → position_in gtid.domain list ≡ Ok position → (test : Bool) → nat_le gtid.sequence (reached position) ≡ test
        → (if test then Go else Stale gtid.sequence (reached position)) ≡ Stale wanted found → StaleBy gtid (Some list) wanted found
    by_test position r true t e = absurd cc
    by_test position r false t e =
        let wants : gtid.sequence ≡ wanted = cc in
        let reaches : reached position ≡ found = cc in
        record {
          list = list;
          position = position;
          told = refl;
          read = r;
          wants = sym wants;
          reaches = sym reaches;
          less = subst (λ (n : ℕ). n < wanted) reaches (subst (λ (n : ℕ). reached position < n) wants (above gtid.sequence (reached position) t));
        }

    by_read : (read : Result (Option Gtid) GtidFault) → position_in gtid.domain list ≡ read → at_position gtid.sequence read ≡ Stale wanted found
        → StaleBy gtid (Some list) wanted found
    by_read (Ok position) r e = by_test position r (nat_le gtid.sequence (reached position)) refl e
    by_read (Err fault) r e = absurd cc

no_position : (gtid : Gtid) (value : Option (List ℕ)) → after_probe gtid value ≡ Unreadable → IsNoPosition gtid.domain value
no_position gtid None e = tt
no_position gtid (Some list) e = by_read (position_in gtid.domain list) refl e
  where
    by_test : {A : Type 0} (position : Option Gtid) (test : Bool) → (if test then Go else Stale gtid.sequence (reached position)) ≡ Unreadable → A
    by_test position true e = absurd cc
    by_test position false e = absurd cc

    by_read : (read : Result (Option Gtid) GtidFault) → position_in gtid.domain list ≡ read → at_position gtid.sequence read ≡ Unreadable
        → IsNoPosition gtid.domain (Some list)
    by_read (Ok position) r e = by_test position (nat_le gtid.sequence (reached position)) e
    by_read (Err fault) r e = (fault, r)

-- a wait's answer lets the read go, or sends it to the primary
waited_so : {A : Type 0} (value : Option (List ℕ)) → (after_wait value ≡ Go → A) → (after_wait value ≡ TryPrimary → A) → A
waited_so None go primary = primary refl
waited_so {A} (Some text) go primary = by_test (pointwise nat_eq text (codes "0")) refl
  where
    by_test : (test : Bool) → pointwise nat_eq text (codes "0") ≡ test → A
    by_test true t = go (rw t refl)
    by_test false t = primary (rw t refl)

-- what is owed for it then

lags_later : {config : Config} {number wanted found from : ℕ} {said : LinkStep} {past : List Item} → PrimaryLags config number wanted found (Comes from said ∷ past)
    → (server : ℕ) (gtid : Gtid) → PrimaryLags config number wanted found (Puts (Records server gtid) ∷ Comes from said ∷ past)
lags_later its server gtid = record {
  link = its.link;
  gtid = its.gtid;
  probed = record { came = its.probed.came; asked = its.probed.asked; outcome = its.probed.outcome; whole = its.probed.whole; left = its.probed.left };
  has = its.has;
  list = its.list;
  told = its.told;
  position = its.position;
  read = its.read;
  wants = its.wants;
  reaches = its.reaches;
  less = its.less;
  command = its.command;
  pending = record { waits = its.pending.waits; asked = before its.pending.asked };
  unsent = its.unsent;
  goes = its.goes;
  for_it = its.for_it;
  counts = its.counts;
}

module _ (config : Config) (past : List Item) (link : ℕ) (e : Exchange) (payload rest : Payload) (number : ℕ)
    (arrived : Arrived past link e payload rest number) (kind : e.kind ≡ QueryReply) where
  pub mischecked_caused : (check : Check) → asks_first (asked_on link past) ≡ Some check → progress e.kind e.sofar payload ≡ None
      → Caused config (Drops link BadReply ∷ []) (Comes link (steps.Lost losses.BadReply) ∷ past)
  mischecked_caused check q p =
      drops {link = link} {cause = BadReply} arrived.goes
      (inr (inr (inr (inl (check, payload, q, no_reply_so past link e payload rest number arrived QueryReply kind p)))), arrived.has)

  abbrev the_said : Role → Progress → LinkStep
  the_said its far = steps.Part payload its far number (is_some_byte rest)

  module _ (its : Role) (outcome : Outcome) (r : role e.kind e.sofar payload ≡ Some its) (p : progress e.kind e.sofar payload ≡ Some (Ends outcome)) where
    abbrev whole : LinkStep
    whole = the_said its (Ends outcome)

    abbrev now : List Item
    now = Comes link whole ∷ past

    abbrev value : Option (List ℕ)
    value = value_of (heard (value_on link past) payload)

    came_now : came_on link past ++ payload ∷ [] ≡ came_on link now
    came_now =
        ap (λ (list : List Payload). list ++ payload ∷ []) (sym arrived.came)
        ∙ sym (came_with past link e payload rest number arrived its (Ends outcome) r p)

    pub value_is : (check : Check) → asks_first (asked_on link past) ≡ Some check → value ≡ value_came link now
    value_is check q =
        ap value_of (ap (λ (v : OneValue). heard v payload) (value_so link past check q)
        ∙ sym (heard_end Begins (came_on link past) payload)) ∙ ap (λ (list : List Payload). value_of (heard_all Begins list)) came_now
        ∙ values.law (came_on link now)

    pub whole_reply : IsReply QueryReply (came_on link now) outcome
    whole_reply =
        let reply = ((progress_is_exact e.kind e.sofar payload).whole outcome).0 p in
        let reply : IsReply QueryReply (e.sofar ++ payload ∷ []) outcome = rw kind at reply in
        let came = came_with past link e payload rest number arrived its (Ends outcome) r p in
        subst (λ (list : List Payload). IsReply QueryReply list outcome) (sym came) reply

    pub none_left : exchange link now ≡ None
    none_left = leaves past link e payload rest number arrived its (Ends outcome) r p

    a_byte : Caused config (unasked link (is_some_byte rest)) now
    a_byte = byte_behind config past link e payload rest number arrived its outcome r p

    on_byte : StillCaused config (unasked link (is_some_byte rest)) now
    on_byte = still_unasked link (is_some_byte rest) a_byte

    waited_caused : StillCaused config (after_check link (Some (after_wait value)) (is_some_byte rest) (reply_number past)) now
    waited_caused =
        waited_so value
        (λ go. subst (λ (c : Causal). StillCaused config (after_check link (Some c) (is_some_byte rest) (reply_number past)) now) (sym go) on_byte)
        (λ primary. subst (λ (c : Causal). StillCaused config (after_check link (Some c) (is_some_byte rest) (reply_number past)) now) (sym primary) on_byte)

    module _ (gtid : Gtid) (asked : asked_on link past ≡ Some (Probes gtid)) where
      checked_is : checked_on link whole past ≡ Some (after_probe gtid value)
      checked_is = ap (λ (a : Option Purpose). checked_by whole a (valued_by whole a (value_on link past))) asked

      its_value : value ≡ value_came link now
      its_value = value_is (Probe gtid) (ap asks_first asked)

      probed : Probed link gtid now
      probed = record { came = refl; asked = asked; outcome = outcome; whole = whole_reply; left = none_left }

      -- no position
      none_caused : after_probe gtid value ≡ Unreadable → StillCaused config (Drops link NoAnswer ∷ []) now
      none_caused is =
          let none : IsNoPosition gtid.domain (value_came link now) = subst (IsNoPosition gtid.domain) its_value (no_position gtid value is) in
          record {
            stands = drops {link = link} {cause = NoAnswer} arrived.goes (record { gtid = gtid; probed = probed; none = none }, arrived.has);
            later = λ server its_gtid.
                drops {link = link} {cause = NoAnswer} arrived.goes (
                  record {
                    gtid = gtid;
                    probed = record { came = probed.came; asked = probed.asked; outcome = probed.outcome; whole = probed.whole; left = probed.left };
                    none = none;
                  },
                  arrived.has,
                );
          }

      -- one below
      module _ (pending : ForPending config link (Probe gtid) past) (its_asked : IsAsked config pending.command past) (telling : Telling past) where
        lags : (wanted found : ℕ) → after_probe gtid value ≡ Stale wanted found → PrimaryLags config (reply_number past) wanted found now
        lags wanted found is =
            let by = stale_by gtid value wanted found is in
            let checked : checked_on link whole past ≡ Some (Stale wanted found) = checked_is ∙ ap Some is in
            record {
              link = link;
              gtid = gtid;
              probed = probed;
              has = arrived.has;
              list = by.list;
              told = sym its_value ∙ by.told;
              position = by.position;
              read = by.read;
              wants = by.wants;
              reaches = by.reaches;
              less = by.less;
              command = pending.command;
              pending = record { waits = pending.waits; asked = before its_asked.asked };
              unsent = pending.unsent;
              goes = heard_goes config past link whole (Some (Stale wanted found)) checked ∙ pending.goes;
              for_it = heard_wants config past link whole (Some (Stale wanted found)) checked ∙ pending.for_it;
              counts = its_asked.counts
                  ∙ ap (λ (list : List Payload). number_behind_all list pending.command.number) (unsent_told pending.command pending.unsent pending.waits telling).0;
            }

        lags_caused : (wanted found : ℕ) → PrimaryLags config (reply_number past) wanted found now
            → StillCaused config (Tells (reply_number past) (Refuses (PrimaryBehind wanted found)) ∷ unasked link (is_some_byte rest)) now
        lags_caused wanted found its_lag = record {
          stands = tells its_lag (unasked_told config now link (is_some_byte rest) (reply_number past) (Refuses (PrimaryBehind wanted found)) a_byte);
          later = λ server its_gtid.
              tells (lags_later its_lag server its_gtid)
              (unasked_told config (Puts (Records server its_gtid) ∷ now) link (is_some_byte rest) (reply_number past) (Refuses (PrimaryBehind wanted found))
              (unasked_recorded config now link (is_some_byte rest) server its_gtid a_byte));
        }

        by_causal : (causal : Causal) → after_probe gtid value ≡ causal → StillCaused config (after_check link (Some causal) (is_some_byte rest) (reply_number past)) now
        by_causal Go is = on_byte
        by_causal TryPrimary is = on_byte
        by_causal (WaitsFirst other) is = on_byte
        by_causal (ProbesFirst other) is = on_byte
        by_causal (Stale wanted found) is = lags_caused wanted found (lags wanted found is)
        by_causal Unreadable is = none_caused is

        probed_caused : StillCaused config (after_check link (Some (after_probe gtid value)) (is_some_byte rest) (reply_number past)) now
        probed_caused = by_causal (after_probe gtid value) refl

  pub waiting_caused : (gtid : Gtid) (seconds : ℕ) → asked_on link past ≡ Some (Waits gtid seconds) → (its : Role) (far : Progress)
      → role e.kind e.sofar payload ≡ Some its → progress e.kind e.sofar payload ≡ Some far
      → StillCaused config (after_check link (checked_on link (the_said its far) past) (is_some_byte rest) (reply_number past)) (Comes link (the_said its far) ∷ past)
  waiting_caused gtid seconds asked its More r p = still_nothing
  waiting_caused gtid seconds asked its (Ends outcome) r p =
      subst (λ (c : Option Causal). StillCaused config (after_check link c (is_some_byte rest) (reply_number past)) (Comes link (the_said its (Ends outcome)) ∷ past))
      (sym (ap (λ (a : Option Purpose). checked_by (the_said its (Ends outcome)) a (valued_by (the_said its (Ends outcome)) a (value_on link past))) asked))
      (waited_caused its outcome r p)

  pub probing_caused : (gtid : Gtid) → asked_on link past ≡ Some (Probes gtid) → (pending : ForPending config link (Probe gtid) past)
      → IsAsked config pending.command past → Telling past → (its : Role) (far : Progress)
      → role e.kind e.sofar payload ≡ Some its → progress e.kind e.sofar payload ≡ Some far
      → StillCaused config (after_check link (checked_on link (the_said its far) past) (is_some_byte rest) (reply_number past)) (Comes link (the_said its far) ∷ past)
  probing_caused gtid asked pending its_asked telling its More r p = still_nothing
  probing_caused gtid asked pending its_asked telling its (Ends outcome) r p =
      subst (λ (c : Option Causal). StillCaused config (after_check link c (is_some_byte rest) (reply_number past)) (Comes link (the_said its (Ends outcome)) ∷ past))
      (sym (checked_is its outcome r p gtid asked)) (probed_caused its outcome r p gtid asked pending its_asked telling)
