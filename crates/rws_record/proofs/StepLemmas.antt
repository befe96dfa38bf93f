-- How a legal record goes on: what its newest item says of the record below it.
use Rattle.std.proofs.Common.{◌≡◌, ℕ, suc, ◌+◌, ◌<◌, Bool, true, false, List, [], ◌∷◌, length, refl, ap, subst, arith, inl, inr, Option, Some, None}
use Rattle.std.specs.Prelude.{◌⊎◌, Contains}
use Rattle.std.specs.Option.{option_map}
use Rattle.std.proofs.lemmas.Bool.{cases_lt, eqb-true, lt-ltb, le-ltb}
use Rattle.rws_wire.specs.declared.close_reason.CloseReason.{CloseReason}
use Rattle.rws_wire.specs.declared.payload.Payload.{Payload}
use Rattle.rws_native.specs.declared.login.Login.{Login}
use Rattle.rws_gtid.specs.declared.Gtid.{Gtid}
use Rattle.rws_routing.specs.declared.routing.Check.{Check}
use Rattle.rws_routing.specs.declared.routing.Check.TheVariants.{Wait, Probe}
use Rattle.rws_front.specs.declared.step.FrontStep.{FrontStep}
use Rattle.rws_front.specs.declared.step.FrontStep.TheVariants as fronts
use Rattle.rws_front.specs.Connection.{step_of}
use Rattle.rws_link.specs.declared.step.LinkStep.{LinkStep}
use Rattle.rws_link.specs.declared.step.LinkStep.TheVariants as steps
use Rattle.rws_link.specs.Stepping.{step}
use Rattle.rws_config.specs.declared.config.Config.{Config}
use Rattle.rws_commands.specs.declared.command.Command.{Command}
use Rattle.rws_commands.specs.declared.history.HistoryEntry.{HistoryEntry}
use Rattle.rws_commands.specs.Commands.{id_for}
use Rattle.rws_commands.specs.Statements.{stale_on, unplayed}
use Rattle.rws_record.specs.Item.{Item, Put}
use Rattle.rws_record.specs.Item.Item.{ClientBytes, LinkReady, LinkBytes, ClientGone, LinkLost, Ticks, Comes, Connects, Takes, Floods, Puts}
use Rattle.rws_record.specs.Item.Put.{Routes, Sends, Forgets}
use Rattle.rws_record.specs.Item.Purpose.{Prepares, Asks, Plays, Waits, Probes}
use Rattle.rws_commands.specs.Judging.{judged}
use Rattle.rws_record.specs.Values.{asking, asking_by_check, asking_for, cursor, fronted, goes_on, opens, held, links, linked, pending, routing, sent_on, statements, is_over}
use Rattle.rws_record.specs.Rules.{situation, next, next_by, owed, due, due_route, due_on, due_sends, due_flood, flood_by, flood_limit, due_arrival, due_take, route_by, prepare_by, play_by, ask_by, is_free, is_link, coming, take_by, unless_asking, ◌or◌}
use Rattle.rws_record.proofs.LinkedLemmas.{Says, says}
use Rattle.rws_record.specs.Record.{IsInput}

-- what comes of the client but commands
pub data IsConnecting : FrontStep → Type 0 where
  sends_back : {packets : List ℕ} → IsConnecting (fronts.Send packets)
  lets_in : {login : Login} → IsConnecting (fronts.LoggedIn login)
  ends_it : {packets : List ℕ} {reason : CloseReason} → IsConnecting (fronts.End packets reason)

-- what is due of bytes that came
pub data Due (config : Config) (past : List Item) : Item → Type 0 where
  comes : {link : ℕ} {said : LinkStep} → Contains (links past) link → (step (linked link past)).answer ≡ said
      → Says (linked link past) said
      → Due config past (Comes link said)
  connects : {said : FrontStep} → pending past ≡ None → (step_of config.accounts (fronted config past)).0 ≡ said
      → IsConnecting said → Due config past (Connects said)
  takes : {payload : Payload} → pending past ≡ None → (step_of config.accounts (fronted config past)).0 ≡ fronts.Command payload
      → Due config past (Takes (judged (situation config past) (statements config past) payload.bytes payload.next) payload.next)

-- how a record goes on by a step of its own
pub data Step (config : Config) (past : List Item) : Item → Type 0 where
  pays : {put : Put} {others : List Put} → owed config past ≡ put ∷ others → Step config past (Puts put)
  asks : {command : Command} → owed config past ≡ [] → is_over past ≡ false → pending past ≡ Some command
      → goes_on config past ≡ None → (routing config past).waits ≡ false → Step config past (Puts Routes)
  prepares : {link : ℕ} → owed config past ≡ [] → is_over past ≡ false → Contains (links past) link → is_free false link past ≡ true
      → Step config past (Puts (Sends link Prepares))
  -- before an entry or the pending command goes on a link
  forgets : {link id : ℕ} → owed config past ≡ [] → is_over past ≡ false → Contains (links past) link
      → is_free true link past ≡ true → stale_on link (statements config past) ≡ Some id
      → Step config past (Puts (Forgets link id))
  plays : {link : ℕ} {entry : HistoryEntry} → owed config past ≡ [] → is_over past ≡ false → Contains (links past) link
      → is_free true link past ≡ true → stale_on link (statements config past) ≡ None
      → unplayed (cursor link past) (statements config past) ≡ Some entry
      → Step config past (Puts (Sends link (Plays entry)))
  sends : {link : ℕ} {command : Command} {id : Option ℕ} → owed config past ≡ [] → is_over past ≡ false → pending past ≡ Some command
      → sent_on past ≡ None → goes_on config past ≡ Some link → is_free true link past ≡ true
      → stale_on link (statements config past) ≡ None → unplayed (cursor link past) (statements config past) ≡ None
      → id_for link command.body (statements config past).table.links ≡ id → (routing config past).check ≡ None
      → Step config past (Puts (Sends link (Asks command id)))
  -- before it the link's server is asked whether it has what the command is to see
  waits_first : {link : ℕ} {command : Command} {gtid : Gtid} → owed config past ≡ [] → is_over past ≡ false → pending past ≡ Some command
      → sent_on past ≡ None → goes_on config past ≡ Some link → is_free true link past ≡ true
      → stale_on link (statements config past) ≡ None → unplayed (cursor link past) (statements config past) ≡ None
      → (routing config past).check ≡ Some (Wait gtid) → Step config past (Puts (Sends link (Waits gtid config.causal_timeout_s)))
  probes_first : {link : ℕ} {command : Command} {gtid : Gtid} → owed config past ≡ [] → is_over past ≡ false → pending past ≡ Some command
      → sent_on past ≡ None → goes_on config past ≡ Some link → is_free true link past ≡ true
      → stale_on link (statements config past) ≡ None → unplayed (cursor link past) (statements config past) ≡ None
      → (routing config past).check ≡ Some (Probe gtid) → Step config past (Puts (Sends link (Probes gtid)))
  floods : {command : Command} → owed config past ≡ [] → is_over past ≡ false → pending past ≡ Some command
      → flood_limit config < length (held config past) → Step config past (Floods (flood_limit config + 1))
  reads : {item : Item} → owed config past ≡ [] → is_over past ≡ false → Due config past item → Step config past item

as_due : {config : Config} {past : List Item} {one other : Item} → one ≡ other → Due config past one → Due config past other
as_due {config} {past} same due = subst (Due config past) same due

-- the first of two, or the second
pub either : {A : Type 0} (a b : Option A) (x : A) → (a or b) ≡ Some x → (a ≡ Some x) ⊎ (b ≡ Some x)
either (Some found) b x e = inl e
either None b x e = inr e

-- the first of two, or else the second
first_or : {A : Type 0} (a b : Option A) (x : A) → (a or b) ≡ Some x → (a ≡ Some x) ⊎ ((a ≡ None) × (b ≡ Some x))
first_or (Some found) b x e = inl e
first_or None b x e = inr (refl, e)

-- neither of two
pub neither : {A : Type 0} (a b : Option A) → (a or b) ≡ None → (a ≡ None) × (b ≡ None)
neither (Some found) b e = absurd cc
neither None b e = (refl, e)

module _ (config : Config) (past : List Item) (item : Item) where
  of_route : (command : Option Command) (goes : Option ℕ) (waits : Bool) → owed config past ≡ [] → is_over past ≡ false
      → pending past ≡ command → goes_on config past ≡ goes → (routing config past).waits ≡ waits
      → route_by command goes waits ≡ Some item → Step config past item
  of_route None goes waits o n p g w e = absurd cc
  of_route (Some command) (Some link) waits o n p g w e = absurd cc
  of_route (Some command) None true o n p g w e = absurd cc
  of_route (Some command) None false o n p g w e =
      let same : Puts Routes ≡ item = cc in subst (Step config past) same (asks o n p g w)

  of_prepare : (link : ℕ) (free : Bool) → owed config past ≡ [] → is_over past ≡ false → Contains (links past) link
      → is_free false link past ≡ free → prepare_by free link ≡ Some item → Step config past item
  of_prepare link true o n has f e =
      let same : Puts (Sends link Prepares) ≡ item = cc in subst (Step config past) same (prepares o n has f)
  of_prepare link false o n has f e = absurd cc

  of_play : (link : ℕ) (free : Bool) (stale : Option ℕ) (entry : Option HistoryEntry) → owed config past ≡ [] → is_over past ≡ false
      → Contains (links past) link → is_free true link past ≡ free → stale_on link (statements config past) ≡ stale
      → unplayed (cursor link past) (statements config past) ≡ entry → play_by free link stale entry ≡ Some item
      → Step config past item
  of_play link true (Some id) (Some entry) o n has f t s e =
      let same : Puts (Forgets link id) ≡ item = cc in subst (Step config past) same (forgets o n has f t)
  of_play link true None (Some entry) o n has f t s e =
      let same : Puts (Sends link (Plays entry)) ≡ item = cc in subst (Step config past) same (plays o n has f t s)
  of_play link true stale None o n has f t s e = absurd cc
  of_play link false stale entry o n has f t s e = absurd cc

  played_all : (link : ℕ) (stale : Option ℕ) (entry : Option HistoryEntry) → play_by true link stale entry ≡ None → entry ≡ None
  played_all link stale None e = refl
  played_all link stale (Some entry) e = absurd cc

  goes_there : (link : ℕ) (goes : Option ℕ) → is_link link goes ≡ true → goes ≡ Some link
  goes_there link None e = absurd cc
  goes_there link (Some other) e = ap Some (eqb-true other link e)

  -- the pending command, or what is asked before it
  of_command : (link : ℕ) (command : Command) (check : Option Check) → owed config past ≡ [] → is_over past ≡ false
      → is_free true link past ≡ true → is_link link (goes_on config past) ≡ true → stale_on link (statements config past) ≡ None
      → pending past ≡ Some command → sent_on past ≡ None
      → unplayed (cursor link past) (statements config past) ≡ None → (routing config past).check ≡ check
      → Puts (Sends link (asking_by_check config.causal_timeout_s check command (id_for link command.body (statements config past).table.links))) ≡ item
      → Step config past item
  of_command link command None o n f g t p s all c e =
      subst (Step config past) e (sends o n p s (goes_there link (goes_on config past) g) f t all refl c)
  of_command link command (Some (Wait gtid)) o n f g t p s all c e =
      subst (Step config past) e (waits_first o n p s (goes_there link (goes_on config past) g) f t all c)
  of_command link command (Some (Probe gtid)) o n f g t p s all c e =
      subst (Step config past) e (probes_first o n p s (goes_there link (goes_on config past) g) f t all c)

  of_ask : (link : ℕ) (free goes : Bool) (stale : Option ℕ) (command : Option Command) (sent : Option ℕ) → owed config past ≡ []
      → is_over past ≡ false → Contains (links past) link → is_free true link past ≡ free → is_link link (goes_on config past) ≡ goes
      → stale_on link (statements config past) ≡ stale → pending past ≡ command → sent_on past ≡ sent
      → play_by free link stale (unplayed (cursor link past) (statements config past)) ≡ None
      → ask_by free link stale goes (asking_for config.causal_timeout_s (routing config past).check command link (statements config past).table.links) sent ≡ Some item
      → Step config past item
  of_ask link true true (Some id) (Some command) None o n has f g t p s none e =
      let same : Puts (Forgets link id) ≡ item = cc in subst (Step config past) same (forgets o n has f t)
  of_ask link true true None (Some command) None o n has f g t p s none e =
      let same : Puts (Sends link (asking_by_check config.causal_timeout_s (routing config past).check command
      (id_for link command.body (statements config past).table.links))) ≡ item = cc in
      of_command link command (routing config past).check o n f g t p s
      (played_all link None (unplayed (cursor link past) (statements config past)) none) refl same
  of_ask link false goes stale command sent o n has f g t p s none e = absurd cc
  of_ask link true false stale command sent o n has f g t p s none e = absurd cc
  of_ask link true true stale None sent o n has f g t p s none e = absurd cc
  of_ask link true true stale (Some command) (Some on) o n has f g t p s none e = absurd cc

  of_due_on : (link : ℕ) → owed config past ≡ [] → is_over past ≡ false → Contains (links past) link
      → due_on config link past ≡ Some item → Step config past item
  of_due_on link o n has e =
      let play = play_by (is_free true link past) link (stale_on link (statements config past)) (unplayed (cursor link past) (statements config past)) in
      let ask = ask_by (is_free true link past) link (stale_on link (statements config past)) (is_link link (goes_on config past))
      (asking_for config.causal_timeout_s (routing config past).check (pending past) link (statements config past).table.links) (sent_on past) in
      elim (either (prepare_by (is_free false link past) link) (play or ask) item e) [
        | inl prepare ↦ of_prepare link (is_free false link past) o n has refl prepare
        | inr e ↦ elim (first_or play ask item e) [
          | inl play ↦ of_play link (is_free true link past) (stale_on link (statements config past))
              (unplayed (cursor link past) (statements config past)) o n has refl refl refl play
          | inr ask ↦
              of_ask link (is_free true link past) (is_link link (goes_on config past)) (stale_on link (statements config past)) (pending past)
              (sent_on past) o n has refl refl refl refl refl ask.0 ask.1
        ]
      ]

  -- a list of links of which each is one of the session's
  of_sends : (some : List ℕ) → ((link : ℕ) → Contains some link → Contains (links past) link) → owed config past ≡ []
      → is_over past ≡ false → due_sends config some past ≡ Some item → Step config past item
  of_sends [] has o n e = absurd cc
  of_sends (link ∷ others) has o n e =
      elim (either (due_on config link past) (due_sends config others past) item e) [
        | inl here ↦ of_due_on link o n (has link (0, omega arith, refl)) here
        | inr there ↦ of_sends others (λ other at. has other (suc at.0, omega arith, at.2)) o n there
      ]

  its_comes : (link : ℕ) (said : LinkStep) → Contains (links past) link → (step (linked link past)).answer ≡ said
      → Says (linked link past) said → Some (Comes link said) ≡ Some item → Due config past item
  its_comes link said has a it e = let same : Comes link said ≡ item = cc in as_due same (comes has a it)

  of_coming : (link : ℕ) (said : LinkStep) → Contains (links past) link → (step (linked link past)).answer ≡ said
      → coming link said ≡ Some item → Due config past item
  of_coming link said has a e = by_says said a (says (linked link past) said a) e
    where
      by_says : (said : LinkStep) → (step (linked link past)).answer ≡ said → (said ≡ steps.Idle) ⊎ Says (linked link past) said
          → coming link said ≡ Some item → Due config past item
      by_says steps.Idle a it e = absurd cc
      by_says (steps.Send bytes) a (inl idle) e = absurd cc
      by_says (steps.Send bytes) a (inr it) e = its_comes link (steps.Send bytes) has a it e
      by_says steps.LoggedIn a (inl idle) e = absurd cc
      by_says steps.LoggedIn a (inr it) e = its_comes link steps.LoggedIn has a it e
      by_says (steps.Part payload role progress next behind) a (inl idle) e = absurd cc
      by_says (steps.Part payload role progress next behind) a (inr it) e =
          its_comes link (steps.Part payload role progress next behind) has a it e
      by_says (steps.Lost cause) a (inl idle) e = absurd cc
      by_says (steps.Lost cause) a (inr it) e = its_comes link (steps.Lost cause) has a it e

  -- a list of links of which each is one of the session's
  of_arrivals : (some : List ℕ) → ((link : ℕ) → Contains some link → Contains (links past) link)
      → due_arrival some past ≡ Some item → Due config past item
  of_arrivals [] has e = absurd cc
  of_arrivals (link ∷ others) has e =
      elim (either (coming link (step (linked link past)).answer) (due_arrival others past) item e) [
        | inl here ↦ of_coming link (step (linked link past)).answer (has link (0, omega arith, refl)) refl here
        | inr there ↦ of_arrivals others (λ other at. has other (suc at.0, omega arith, at.2)) there
      ]

  of_take : (command : Option Command) (said : FrontStep) → pending past ≡ command
      → (step_of config.accounts (fronted config past)).0 ≡ said → take_by (situation config past) (statements config past) command said ≡ Some item → Due config past item
  of_take (Some command) said p f e = absurd cc
  of_take None fronts.Idle p f e = absurd cc
  of_take None (fronts.Send packets) p f e =
      let same : Connects (fronts.Send packets) ≡ item = cc in as_due same (connects p f sends_back)
  of_take None (fronts.LoggedIn login) p f e =
      let same : Connects (fronts.LoggedIn login) ≡ item = cc in as_due same (connects p f lets_in)
  of_take None (fronts.Command payload) p f e =
      let same : Takes (judged (situation config past) (statements config past) payload.bytes payload.next) payload.next ≡ item = cc in as_due same (takes p f)
  of_take None (fronts.End packets reason) p f e =
      let same : Connects (fronts.End packets reason) ≡ item = cc in as_due same (connects p f ends_it)

  of_flood : (command : Option Command) → owed config past ≡ [] → is_over past ≡ false → pending past ≡ command
      → option_map (λ (bytes : ℕ). Floods bytes) (flood_by command (flood_limit config) (length (held config past))) ≡ Some item
      → Step config past item
  of_flood None o n p e = absurd cc
  of_flood (Some command) o n p e =
      elim (cases_lt (flood_limit config) (length (held config past))) [
        | inl above ↦
            let is : Some (Floods (flood_limit config + 1)) ≡ Some item =
            rw (lt-ltb (flood_limit config) (length (held config past)) above) at e in
            let same : Floods (flood_limit config + 1) ≡ item = cc in subst (Step config past) same (floods o n p above)
        | inr within ↦
            let none : None ≡ Some item = rw (le-ltb (flood_limit config) (length (held config past)) within) at e in absurd cc
      ]

  of_due : owed config past ≡ [] → is_over past ≡ false → due config past ≡ Some item → Step config past item
  of_due o n e =
      elim (either (due_route config past) (due_sends config (links past) past or (due_flood config past or (due_arrival (links past) past or due_take config past))) item e) [
        | inl route ↦ of_route (pending past) (goes_on config past) (routing config past).waits o n refl refl refl route
        | inr e ↦ elim (either (due_sends config (links past) past) (due_flood config past or (due_arrival (links past) past or due_take config past)) item e) [
          | inl send ↦ of_sends (links past) (λ link has. has) o n send
          | inr e ↦ elim (either (due_flood config past) (due_arrival (links past) past or due_take config past) item e) [
            | inl flood ↦ of_flood (pending past) o n refl flood
            | inr e ↦ elim (either (due_arrival (links past) past) (due_take config past) item e) [
              | inl arrive ↦ reads o n (of_arrivals (links past) (λ link has. has) arrive)
              | inr take ↦ reads o n (of_take (pending past) (step_of config.accounts (fronted config past)).0 refl refl take)
            ]
          ]
        ]
      ]

  of_next_by : (list : List Put) (over : Bool) → owed config past ≡ list → is_over past ≡ over
      → next_by list over (due config past) ≡ Some item → Step config past item
  of_next_by (put ∷ others) over o p e = let same : Puts put ≡ item = cc in subst (Step config past) same (pays o)
  of_next_by [] true o p e = absurd cc
  of_next_by [] false o p e = of_due o p e

  of_asking : (asks : Bool) → unless_asking asks (next_by (owed config past) (is_over past) (due config past)) ≡ Some item
      → Step config past item
  of_asking true e = absurd cc
  of_asking false e = of_next_by (owed config past) (is_over past) refl refl e

  pub of_next : next config past ≡ Some item → Step config past item
  of_next e = of_asking (asking past) e

-- a record that goes on isn't asking
pub goes_unasking : (config : Config) (past : List Item) (item : Item) → next config past ≡ Some item → asking past ≡ false
goes_unasking config past item e = by_asking (asking past) refl e
  where
    by_asking : (asks : Bool) → asking past ≡ asks
        → unless_asking asks (next_by (owed config past) (is_over past) (due config past)) ≡ Some item → asking past ≡ false
    by_asking true a e = absurd cc
    by_asking false a e = a

unasking : (config : Config) (past : List Item) → next config past ≡ None → asking past ≡ false
    → next_by (owed config past) (is_over past) (due config past) ≡ None
unasking config past e a = let e : next_by (owed config past) (is_over past) (due config past) ≡ None = rw a at e in e

-- a record that rests owes nothing
pub rests_owing_nothing : (config : Config) (past : List Item) → next config past ≡ None → asking past ≡ false → owed config past ≡ []
rests_owing_nothing config past e a = by_owed (owed config past) refl (unasking config past e a)
  where
    by_owed : (list : List Put) → owed config past ≡ list → next_by list (is_over past) (due config past) ≡ None → owed config past ≡ []
    by_owed [] o e = o
    by_owed (put ∷ others) o e = absurd cc

-- and where it isn't over, nothing is due
pub rests_with_nothing_due : (config : Config) (past : List Item) → next config past ≡ None → asking past ≡ false
    → is_over past ≡ false → due config past ≡ None
rests_with_nothing_due config past e a over = by_owed (owed config past) (unasking config past e a)
  where
    by_owed : (list : List Put) → next_by list (is_over past) (due config past) ≡ None → due config past ≡ None
    by_owed [] e = let e : next_by [] false (due config past) ≡ None = rw over at e in e
    by_owed (put ∷ others) e = absurd cc

-- What comes from outside opens no link.

pub input_opens_none : (item : Item) (past : List Item) → IsInput item past → opens item ≡ None
input_opens_none (ClientBytes bytes) past input = refl
input_opens_none ClientGone past input = refl
input_opens_none (LinkReady link) past input = refl
input_opens_none (LinkBytes link bytes) past input = refl
input_opens_none (LinkLost link) past input = refl
input_opens_none (Ticks reading) past input = refl
input_opens_none _ past input = absurd input
