-- A session that heard a piece of a server's bytes, and one that heard it with what comes next: they do the same, until the first rests.
use Rattle.std.proofs.Common.{◌≡◌, ℕ, Bool, true, false, List, ◌∷◌, length, refl, sym, ap, ◌∙◌, Some, None}
use Rattle.std.specs.Prelude.{◌==◌, if◌then◌else◌}
use Rattle.rws_front.specs.Fronting.{Fronting}
use Rattle.rws_front.specs.Connection.{step_of}
use Rattle.rws_link.specs.declared.step.LinkCause.{LinkCause}
use Rattle.rws_link.specs.Stepping.{LinkState, IsLost, fed, step}
use Rattle.rws_config.specs.declared.config.Config.{Config}
use Rattle.rws_record.specs.Item.{Item, Put}
use Rattle.rws_record.specs.Item.Item.{Puts}
use Rattle.rws_record.specs.Item.Put.{Hands, Tells, Records, Routes, Opens, LogsInto, Sends, Forgets, Drops, Closes}
use Rattle.rws_record.specs.Item.Purpose.{Prepares, Asks, Plays, Waits, Probes}
use Rattle.rws_record.specs.Values.{asking, fronted, held, linked}
use Rattle.rws_record.specs.Rules.{next}
use Rattle.rws_record.specs.Outputs.{outputs_of}
use Rattle.rws_record.proofs.StepLemmas.{Due, Step, of_next}
use Rattle.rws_record.proofs.StepLemmas.Due.{comes as says_so, connects, takes}
use Rattle.rws_record.proofs.StepLemmas.Step.{pays, asks, prepares, forgets, plays, sends, waits_first, probes_first, floods, reads}
use Rattle.rws_cuts.specs.Exchanges.{changes_on}
use Rattle.rws_cuts.specs.Laws.{IsAlike}
use Rattle.rws_cuts.proofs.State.{State, after, next_in, state_of}
use Rattle.rws_cuts.proofs.MirrorLemmas.{heard, moves, next_is}
use Rattle.rws_cuts.proofs.AgreementLemmas.{agreement_lasts, agrees, front_after, front_moves, next_same, state_same}
use Rattle.rws_cuts.proofs.OutLemmas.{gave_more}
use Rattle.rws_cuts.proofs.LiveLemmas.{Live, at_link, fed_in}

-- the second record is as the first, but that more bytes came on the link
pub record MoreOn (config : Config) (link : ℕ) (more : List ℕ) (short long : List Item) : Type 0 where
  pub state : state_of config long ≡ fed_in link more (state_of config short)
  pub front : fronted config short ≡ fronted config long
  pub gave : (session : ℕ) → outputs_of session short ≡ outputs_of session long

-- the link goes on with a reply or its login, it is lost, or nothing at all comes of the first piece
pub data Stands (config : Config) (link : ℕ) (short : List Item) : Type 0 where
  live : Live config link (length (held config short)) (heard config short) (state_of config short) → Stands config link short
  gone : {cause : LinkCause} → linked link short ≡ IsLost cause → Stands config link short
  still : next config short ≡ None → asking short ≡ false → Stands config link short

-- how both go on
pub record Onward (config : Config) (link : ℕ) (more : List ℕ) (short long : List Item) (item : Item) : Type 0 where
  pub also : Item
  pub next : next config long ≡ Some also
  pub more_on : MoreOn config link more (item ∷ short) (also ∷ long)
  pub stands : Stands config link (item ∷ short)

-- What is next to the second by what is next to the first

module _ (config : Config) (link : ℕ) (more : List ℕ) (short long : List Item) (m : MoreOn config link more short long) where
  pub next_long : next config long ≡ next_in config (length (held config short)) (heard config short) (fed_in link more (state_of config short))
  next_long =
      next_is config long
      ∙ ap (next_in config (length (held config long)) (heard config long)) m.state
      ∙ ap (λ (front : Fronting). next_in config (length front.stream.held) (step_of config.accounts front).0 (fed_in link more (state_of config short)))
      (sym m.front)

  heard_same : heard config long ≡ heard config short
  heard_same = ap (λ (front : Fronting). (step_of config.accounts front).0) (sym m.front)

  -- what becomes of both by two items that change as much
  pub item_on : (item also : Item)
      → after config (heard config short) also (fed_in link more (state_of config short)) ≡ fed_in link more (after config (heard config short) item (state_of config short))
      → ((front : Fronting) → front_after config item front ≡ front_after config also front)
      → ((session : ℕ) → outputs_of session (item ∷ long) ≡ outputs_of session (also ∷ long))
      → MoreOn config link more (item ∷ short) (also ∷ long)
  item_on item also same front outs = record {
    state = moves config also long
        ∙ ap (λ (s : State). after config (heard config long) also s) m.state
        ∙ ap (λ said. after config said also (fed_in link more (state_of config short))) heard_same
        ∙ same
        ∙ ap (fed_in link more) (sym (moves config item short));
    front = front_moves config item short
        ∙ front (fronted config short)
        ∙ ap (front_after config also) m.front
        ∙ sym (front_moves config also long);
    gave = λ session. gave_more session item short long (m.gave session) ∙ outs session;
  }

-- The link is lost

pub lost_fed_same : (link : ℕ) (more : List ℕ) (s : State) (cause : LinkCause) → s.linked link ≡ IsLost cause → fed_in link more s ≡ s
lost_fed_same link more s cause lost = λ i. record s { linked = λ other. by_test other (link == other) refl i }
  where
    by_test : (other : ℕ) (test : Bool) → (link == other) ≡ test → (if test then fed more (s.linked other) else s.linked other) ≡ s.linked other
    by_test other true t =
        let its : s.linked other ≡ IsLost cause = at_link link other (λ l. s.linked l ≡ IsLost cause) lost t in
        ap (fed more) its ∙ sym its
    by_test other false t = refl

module _ (config : Config) (link : ℕ) (past : List Item) (cause : LinkCause) (lost : linked link past ≡ IsLost cause) where
  if_other : (test : Bool) (one : LinkState) → test ≡ false → (if test then one else linked link past) ≡ IsLost cause
  if_other true one t = absurd cc
  if_other false one t = lost

  put_lost : (put : Put) → changes_on link (Puts put) ≡ false → linked link (Puts put ∷ past) ≡ IsLost cause
  put_lost (Hands packets) c = lost
  put_lost (Tells number tell) c = lost
  put_lost (Records server gtid) c = lost
  put_lost Routes c = lost
  put_lost (Opens opened server login) c = if_other (opened == link) _ c
  put_lost (LogsInto on packets) c = lost
  put_lost (Sends to purpose) c = if_other (to == link) _ c
  put_lost (Forgets on id) c = lost
  put_lost (Drops on why) c = lost
  put_lost (Closes reason) c = lost

  due_lost : {item : Item} → Due config past item → linked link (item ∷ past) ≡ IsLost cause
  due_lost (says_so {link = from} has a it) = by_test (from == link)
    where
      by_test : (test : Bool) → (if test then (step (linked link past)).after else linked link past) ≡ IsLost cause
      by_test true = ap (λ (l : LinkState). (step l).after) lost
      by_test false = lost
  due_lost (connects p f c) = lost
  due_lost (takes p f) = lost

  step_lost : {item : Item} → Step config past item → changes_on link item ≡ false → linked link (item ∷ past) ≡ IsLost cause
  step_lost (pays {put = put} o) c = put_lost put c
  step_lost (asks o n p g w) c = lost
  step_lost (prepares {link = to} o n has f) c = put_lost (Sends to Prepares) c
  step_lost (forgets o n has f t) c = lost
  step_lost (plays {link = to} {entry = entry} o n has f t s) c = put_lost (Sends to (Plays entry)) c
  step_lost (sends {link = to} {command = command} {id = id} o n p s g f t d i v) c = put_lost (Sends to (Asks command id)) c
  step_lost (waits_first {link = to} {gtid = gtid} o n p s g f t d v) c = put_lost (Sends to (Waits gtid config.causal_timeout_s)) c
  step_lost (probes_first {link = to} {gtid = gtid} o n p s g f t d v) c = put_lost (Sends to (Probes gtid)) c
  step_lost (floods o n p above) c = lost
  step_lost (reads o n due) c = due_lost due

module _ (config : Config) (link : ℕ) (more : List ℕ) where
  -- both are alike
  pub gone_alike : (short long : List Item) (cause : LinkCause) → MoreOn config link more short long → linked link short ≡ IsLost cause
      → IsAlike config short long
  gone_alike short long cause m lost = record {
    gave = m.gave;
    agrees = agrees config short long m.front (sym (m.state ∙ lost_fed_same link more (state_of config short) cause lost));
  }

  alike_gone : (short long : List Item) (cause : LinkCause) → IsAlike config short long → linked link short ≡ IsLost cause
      → MoreOn config link more short long
  alike_gone short long cause alike lost = record {
    state = sym (state_same alike.agrees) ∙ sym (lost_fed_same link more (state_of config short) cause lost);
    front = alike.agrees.fronted;
    gave = alike.gave;
  }

  pub gone_on : (short long : List Item) (item : Item) (cause : LinkCause) → MoreOn config link more short long → linked link short ≡ IsLost cause
      → linked link (item ∷ short) ≡ IsLost cause → MoreOn config link more (item ∷ short) (item ∷ long)
  gone_on short long item cause m lost now =
      let alike = gone_alike short long cause m lost in
      alike_gone (item ∷ short) (item ∷ long) cause
      (record {
        gave = λ session. gave_more session item short long (alike.gave session);
        agrees = agreement_lasts config short long item alike.agrees;
      })
      now

  pub gone_onward : (short long : List Item) (item : Item) (cause : LinkCause) → MoreOn config link more short long → linked link short ≡ IsLost cause
      → next config short ≡ Some item → changes_on link item ≡ false → Onward config link more short long item
  gone_onward short long item cause m lost e c =
      let now = step_lost config link short cause lost (of_next config short item e) c in
      record {
        also = item;
        next = sym (next_same config short long (gone_alike short long cause m lost).agrees) ∙ e;
        more_on = gone_on short long item cause m lost now;
        stands = gone now;
      }
