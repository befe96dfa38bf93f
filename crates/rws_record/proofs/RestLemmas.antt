-- What a record that rests and isn't over says of the bytes that it holds.
use Rattle.std.proofs.Common.{◌≡◌, ℕ, zero, suc, ◌+◌, ◌<◌, ◌≤◌, false, List, [], ◌∷◌, length, refl, sym, ap, subst, ◌∙◌, arith, inl, inr, Option, Some, None}
use Rattle.std.specs.Prelude.{Contains, slice_index_or}
use Rattle.std.proofs.lemmas.Bool.{cases_lt, lt-ltb}
use Rattle.rws_wire.specs.Payloads.{Beginning, first_payload}
use Rattle.rws_wire.specs.Payloads.Beginning.{Nothing, Whole, Faulty}
use Rattle.rws_reply.specs.declared.kind.Progress.{Progress}
use Rattle.rws_reply.specs.declared.role.Role.{Role}
use Rattle.rws_reply.specs.Tracking.{progress, role}
use Rattle.rws_link.specs.declared.step.LinkStep.{LinkStep}
use Rattle.rws_link.specs.declared.step.LinkStep.TheVariants as steps
use Rattle.rws_front.specs.declared.step.FrontStep.{FrontStep}
use Rattle.rws_front.specs.declared.step.FrontStep.TheVariants as fronts
use Rattle.rws_front.specs.Connection.{step_of}
use Rattle.rws_link.specs.declared.handshake.Handshake.{Handshake}
use Rattle.rws_link.specs.declared.handshake.Reaction.{Reaction}
use Rattle.rws_link.specs.declared.handshake.Reaction.TheVariants.{Answers, Accepted, Loses}
use Rattle.rws_link.specs.Handshake.{due, reaction}
use Rattle.rws_link.specs.Stepping.{LinkState, LogsIn, Rests, Awaits, IsLost, Exchange, logged_in, reacted, read_by, replied, replied_by, step}
use Rattle.rws_config.specs.declared.config.Config.{Config}
use Rattle.rws_config.specs.declared.limits.TheConstants.{SERVER_PAYLOAD}
use Rattle.rws_commands.specs.declared.judged.Situation.{Situation}
use Rattle.rws_commands.specs.Statements.{Statements}
use Rattle.rws_commands.specs.declared.command.Command.{Command}
use Rattle.rws_record.specs.Item.{Item}
use Rattle.rws_record.specs.Item.Item.{Floods}
use Rattle.rws_record.specs.Values.{asking, awaited, exchange, fronted, held, link_held, linked, links, pending, statements, unread, is_over}
use Rattle.rws_record.specs.Rules.{next, coming, due_route, due_sends, due_flood, flood_limit, due_arrival, due_take, taking, ◌or◌, situation}
use Rattle.rws_record.proofs.StepLemmas.{neither, rests_with_nothing_due}

-- No link has anything to say

no_coming : (link : ℕ) (said : LinkStep) → coming link said ≡ None → said ≡ steps.Idle
no_coming link steps.Idle e = refl
no_coming link (steps.Send bytes) e = absurd cc
no_coming link steps.LoggedIn e = absurd cc
no_coming link (steps.Part payload role progress next behind) e = absurd cc
no_coming link (steps.Lost cause) e = absurd cc

idle_at : (past : List Item) (list : List ℕ) (link k : ℕ) → k < length list → slice_index_or list k link ≡ link
    → due_arrival list past ≡ None → (step (linked link past)).answer ≡ steps.Idle
idle_at past [] link k below is e = absurd (omega arith)
idle_at past (first ∷ others) link zero below is e =
    subst (λ (l : ℕ). (step (linked l past)).answer ≡ steps.Idle) is
    (no_coming first _ (neither (coming first (step (linked first past)).answer) (due_arrival others past) e).0)
idle_at past (first ∷ others) link (suc k) below is e =
    idle_at past others link k (omega arith) is (neither (coming first (step (linked first past)).answer) (due_arrival others past) e).1

-- what a link is that has nothing to say: it rests, or awaits a payload, of a reply or of its login, of which too little came
data Quiet (link : LinkState) : Type 0 where
  rests : link ≡ Rests → Quiet link
  waits : {e : Exchange} {bytes : List ℕ} → link ≡ Awaits e bytes → first_payload SERVER_PAYLOAD e.next bytes ≡ Nothing → Quiet link
  enters : {handshake : Handshake} {bytes : List ℕ} → link ≡ LogsIn handshake bytes
      → first_payload SERVER_PAYLOAD (due handshake) bytes ≡ Nothing → Quiet link

replied_quiet : {P : Type 0} (e : Exchange) (payload rest : List ℕ) (number : ℕ) (its : Option Role) (far : Option Progress)
    → (replied_by e payload number rest its far).answer ≡ steps.Idle → P
replied_quiet e payload rest number (Some its) (Some far) a = absurd cc
replied_quiet e payload rest number (Some its) None a = absurd cc
replied_quiet e payload rest number None (Some far) a = absurd cc
replied_quiet e payload rest number None None a = absurd cc

read_quiet : (e : Exchange) (bytes : List ℕ) (found : Beginning) → first_payload SERVER_PAYLOAD e.next bytes ≡ found
    → (read_by (Awaits e bytes) (replied e) found).answer ≡ steps.Idle → Quiet (Awaits e bytes)
read_quiet e bytes Nothing f a = waits refl f
read_quiet e bytes (Whole payload number rest) f a =
    replied_quiet e payload rest number (role e.kind e.sofar payload) (progress e.kind e.sofar payload) a
read_quiet e bytes (Faulty fault) f a = absurd cc

ended_quiet : {P : Type 0} (rest : List ℕ) → (logged_in rest).answer ≡ steps.Idle → P
ended_quiet [] a = absurd cc
ended_quiet (byte ∷ rest) a = absurd cc

reacted_quiet : {P : Type 0} (rest : List ℕ) (its : Reaction) → (reacted rest its).answer ≡ steps.Idle → P
reacted_quiet rest (Answers bytes stage1 next) a = absurd cc
reacted_quiet rest Accepted a = ended_quiet rest a
reacted_quiet rest (Loses cause) a = absurd cc

enter_quiet : (handshake : Handshake) (bytes : List ℕ) (found : Beginning)
    → first_payload SERVER_PAYLOAD (due handshake) bytes ≡ found
    → (read_by (LogsIn handshake bytes) (λ payload next rest. reacted rest (reaction handshake payload next)) found).answer ≡ steps.Idle
    → Quiet (LogsIn handshake bytes)
enter_quiet handshake bytes Nothing f a = enters refl f
enter_quiet handshake bytes (Whole payload number rest) f a = reacted_quiet rest (reaction handshake payload number) a
enter_quiet handshake bytes (Faulty fault) f a = absurd cc

quiet : (link : LinkState) → (step link).answer ≡ steps.Idle → Quiet link
quiet (LogsIn handshake bytes) a = enter_quiet handshake bytes (first_payload SERVER_PAYLOAD (due handshake) bytes) refl a
quiet Rests a = rests refl
quiet (Awaits e bytes) a = read_quiet e bytes (first_payload SERVER_PAYLOAD e.next bytes) refl a
quiet (IsLost cause) a = absurd cc

-- Nothing is taken up

no_take : (now : Situation) (s : Statements) (said : FrontStep) → taking now s said ≡ None → said ≡ fronts.Idle
no_take now s fronts.Idle e = refl
no_take now s (fronts.Send packets) e = absurd cc
no_take now s (fronts.LoggedIn login) e = absurd cc
no_take now s (fronts.Command payload) e = absurd cc
no_take now s (fronts.End packets reason) e = absurd cc

no_flood : (config : Config) (past : List Item) (command : Command) → pending past ≡ Some command → due_flood config past ≡ None
    → length (held config past) ≤ flood_limit config
no_flood config past command p e =
    elim (cases_lt (flood_limit config) (length (held config past))) [
      | inl above ↦
          let some : Some (Floods (flood_limit config + 1)) ≡ None =
          rw (p, lt-ltb (flood_limit config) (length (held config past)) above) at e in absurd cc
      | inr within ↦ within
    ]

-- a link that owes no reply: it rests, or logs in and awaits a payload of which too little came
pub data Idles (link : LinkState) : Type 0 where
  at_rest : link ≡ Rests → Idles link
  at_login : {handshake : Handshake} {bytes : List ℕ} → link ≡ LogsIn handshake bytes
      → first_payload SERVER_PAYLOAD (due handshake) bytes ≡ Nothing → Idles link

-- what a session that rests and goes on holds
pub record Rested (config : Config) (past : List Item) : Type 0 where
  -- the worker needn't be asked, no link waits to be prepared, and the pending command needn't be sent
  pub routed : due_route config past ≡ None
  pub sent : due_sends config (links past) past ≡ None
  -- behind a pending command the client sent no more than it may
  pub room : (command : Command) → pending past ≡ Some command → length (held config past) ≤ flood_limit config
  -- where none is pending, nothing comes of the client
  pub client : pending past ≡ None → (step_of config.accounts (fronted config past)).0 ≡ fronts.Idle
  -- of an awaited reply no whole payload came, and no fault
  pub reply : (link : ℕ) (e : Exchange) → Contains (links past) link → exchange link past ≡ Some e
      → first_payload SERVER_PAYLOAD e.next (link_held link past) ≡ Nothing
  -- where none is awaited, nothing came but a part of the login
  pub asked : (link : ℕ) → Contains (links past) link → exchange link past ≡ None → Idles (linked link past)

reply_of : (link : LinkState) (e : Exchange) → Quiet link → awaited link ≡ Some e
    → first_payload SERVER_PAYLOAD e.next (unread link) ≡ Nothing
reply_of link e (rests is) a = let clash : None ≡ Some e = sym (ap awaited is) ∙ a in absurd cc
reply_of link e (enters is f) a = let clash : None ≡ Some e = sym (ap awaited is) ∙ a in absurd cc
reply_of link e (waits {e = x} {bytes = bytes} is f) a =
    let same : x ≡ e = some_same x e (sym (ap awaited is) ∙ a) in
    subst (λ (y : Exchange). first_payload SERVER_PAYLOAD y.next (unread link) ≡ Nothing) same
    (ap (λ (l : LinkState). first_payload SERVER_PAYLOAD x.next (unread l)) is ∙ f)
  where
    some_same : (x y : Exchange) → Some x ≡ Some y → x ≡ y
    some_same x y e = cc

idles_of : (link : LinkState) → Quiet link → awaited link ≡ None → Idles link
idles_of link (rests is) a = at_rest is
idles_of link (enters is f) a = at_login is f
idles_of link (waits {e = x} is f) a = let clash : Some x ≡ None = sym (ap awaited is) ∙ a in absurd cc

pub rested : (config : Config) (past : List Item) → next config past ≡ None → asking past ≡ false → is_over past ≡ false
    → Rested config past
rested config past e a n =
    let route = neither (due_route config past) (due_sends config (links past) past or (due_flood config past or (due_arrival (links past) past or due_take config past)))
    (rests_with_nothing_due config past e a n) in
    let all = neither (due_sends config (links past) past) (due_flood config past or (due_arrival (links past) past or due_take config past)) route.1 in
    let later = neither (due_flood config past) (due_arrival (links past) past or due_take config past) all.1 in
    let behind = neither (due_arrival (links past) past) (due_take config past) later.1 in
    record {
      routed = route.0;
      sent = all.0;
      room = λ command p. no_flood config past command p later.0;
      client = λ p.
          let none : taking (situation config past) (statements config past) (step_of config.accounts (fronted config past)).0 ≡ None = rw p at behind.1 in
          no_take (situation config past) (statements config past) (step_of config.accounts (fronted config past)).0 none;
      reply = λ link its has a. reply_of (linked link past) its (its_quiet link behind.0 has) a;
      asked = λ link has a. idles_of (linked link past) (its_quiet link behind.0 has) a;
    }
  where
    its_quiet : (link : ℕ) → due_arrival (links past) past ≡ None → Contains (links past) link → Quiet (linked link past)
    its_quiet link none has = quiet (linked link past) (idle_at past (links past) link has.0 has.1 has.2 none)
