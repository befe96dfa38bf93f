-- A session that holds a piece on a link, of which nothing comes, and one that doesn't: they do the same, until the second rests.
use Rattle.std.proofs.Common.{◌≡◌, ℕ, Bool, true, false, List, [], ◌∷◌, ◌++◌, length, refl, sym, ap, subst, ◌∙◌, append-nil, Option, Some, None}
use Rattle.std.specs.Prelude.{◌≢◌, ◌==◌, ◌&&◌, if◌then◌else◌}
use Rattle.std.proofs.lemmas.Bool.{eq-eqb, eqb-true}
use Rattle.rws_front.specs.declared.step.FrontStep.{FrontStep}
use Rattle.rws_link.specs.Stepping.{LinkState, LogsIn, Rests, Awaits, IsLost, fed, opened as opening, readied, step}
use Rattle.rws_link.specs.declared.step.LinkStep.{LinkStep}
use Rattle.rws_link.specs.declared.step.LinkStep.TheVariants as steps
use Rattle.rws_config.specs.declared.config.Config.{Config}
use Rattle.rws_commands.specs.declared.proxy_error.ProxyError.{ProxyError}
use Rattle.rws_commands.specs.declared.proxy_error.ProxyError.TheVariants as errors
use Rattle.rws_route.specs.declared.destination.Target.{Target}
use Rattle.rws_record.specs.Item.{Item, Purpose, Put, Tell}
use Rattle.rws_record.specs.Item.Item.{Accepted, TurnsAway, Began, ClientBytes, LinkReady, LinkBytes, ClientGone, LinkLost, Ticks, Routed, Comes, Connects, Takes, Floods, Puts, Starves}
use Rattle.rws_record.specs.Item.Put.{Hands, Tells, Records, Routes, Opens, LogsInto, Sends, Forgets, Drops, Closes}
use Rattle.rws_record.specs.Item.Tell.{Passes, Owns, Refuses}
use Rattle.rws_record.specs.Item.Purpose.{Prepares, Asks, Plays, Waits, Probes}
use Rattle.rws_record.specs.Record.{IsInput}
use Rattle.rws_record.specs.Values.{asking, contains, held, is_up, kind_of, linked, links, sent_all, sent_for}
use Rattle.rws_record.specs.Rules.{coming, found_in, is_free, is_ready, is_same, next, next_by, owed, unless_asking, ◌or◌}
use Rattle.rws_record.specs.Outputs.{outputs_of}
use Rattle.rws_record.proofs.StepLemmas.{Due, Step, of_next, rests_owing_nothing}
use Rattle.rws_record.proofs.StepLemmas.Due.{comes, connects, takes}
use Rattle.rws_record.proofs.StepLemmas.Step.{pays, asks, prepares, forgets, plays, sends, waits_first, probes_first, floods, reads}
use Rattle.rws_cuts.specs.Turns.{Answer, Turns, answered}
use Rattle.rws_cuts.specs.Turns.Turns.{rests, goes_on, hears}
use Rattle.rws_cuts.specs.Laws.{IsAlike}
use Rattle.rws_cuts.specs.LinkCuts.{AreOthers, LinkPieceWaits, is_of_link}
use Rattle.rws_cuts.proofs.State.{State, after, arrival_in, flood_in, next_in, put_in, route_in, sends_in, state_of, take_in, target_in}
use Rattle.rws_cuts.proofs.MirrorLemmas.{found_is, heard, next_is}
use Rattle.rws_cuts.proofs.TurnLemmas.{carried}
use Rattle.rws_cuts.proofs.HushLemmas.{IsIdle, has_idle, rests_hushed, says_something}
use Rattle.rws_cuts.proofs.LiveLemmas.{at_link, fed_in, ready_due, sends_same}
use Rattle.rws_cuts.proofs.ServerLemmas.{MoreOn, item_on, next_long}
use Rattle.rws_cuts.proofs.LinkTurnLemmas.{joins}
use Rattle.rws_cuts.proofs.LinkCutLemmas.{changed, in_turn}
use Rattle.rws_cuts.proofs.SparingLemmas.{Spares, input_spares, route_spares, step_spares}

-- nothing comes of the link, with the piece and without it, and nothing may be sent on it
record Waiting (more : List ℕ) (its : LinkState) : Type 0 where
  pub short : IsIdle its
  pub long : IsIdle (fed more its)
  pub busy : is_ready its ≡ false

-- an item that doesn't move the link
abbrev Elsewhere : ℕ → Item → Type 0
Elsewhere link (Began opened server reading) = ⊥
Elsewhere link (LinkReady ready) = (ready == link) ≡ false
Elsewhere link (LinkBytes from bytes) = (from == link) ≡ false
Elsewhere link (Comes from said) = (from == link) ≡ false
Elsewhere link (Puts (Opens opened server login)) = (opened == link) ≡ false
Elsewhere link (Puts (Sends to purpose)) = (to == link) ≡ false
Elsewhere link _ = Unit {0}

-- What is next

ready_fed : (more : List ℕ) (its : LinkState) → is_ready its ≡ false → is_ready (fed more its) ≡ is_ready its
ready_fed more (LogsIn handshake unread) busy = refl
ready_fed more Rests busy = absurd cc
ready_fed more (Awaits e unread) busy = refl
ready_fed more (IsLost cause) busy = refl

module _ (config : Config) (link : ℕ) (more : List ℕ) (s : State) (waiting : Waiting more (s.linked link)) where
  abbrev now : ℕ → LinkState
  now other = if link == other then fed more (s.linked other) else s.linked other

  as_ready : (other : ℕ) → is_ready (now other) ≡ is_ready (s.linked other)
  as_ready other = by_test (link == other) refl
    where
      by_test : (test : Bool) → (link == other) ≡ test
          → is_ready (if test then fed more (s.linked other) else s.linked other) ≡ is_ready (s.linked other)
      by_test true t = ready_fed more (s.linked other) (at_link link other (λ l. is_ready (s.linked l) ≡ false) waiting.busy t)
      by_test false t = refl

  says_as : (other : ℕ) → coming other (step (now other)).answer ≡ coming other (step (s.linked other)).answer
  says_as other = by_test (link == other) refl
    where
      by_test : (test : Bool) → (link == other) ≡ test
          → coming other (step (if test then fed more (s.linked other) else s.linked other)).answer ≡ coming other (step (s.linked other)).answer
      by_test true t =
          ap (coming other)
          (at_link link other (λ l. IsIdle (fed more (s.linked l))) waiting.long t
          ∙ sym (at_link link other (λ l. IsIdle (s.linked l)) waiting.short t))
      by_test false t = refl

  arrives_as : (some : List ℕ) → arrival_in some now ≡ arrival_in some s.linked
  arrives_as [] = refl
  arrives_as (first ∷ others) =
      ap (λ (item : Option Item). item or arrival_in others now) (says_as first)
      ∙ ap (λ (item : Option Item). coming first (step (s.linked first)).answer or item) (arrives_as others)

  abbrev around : (size : ℕ) → FrontStep → (sending arrival : Option Item) → Option Item
  around size said sending arrival =
      unless_asking s.asking (next_by s.owed s.is_over (route_in s or (sending or (flood_in config size s or (arrival or take_in config said s)))))

  next_as : (size : ℕ) (said : FrontStep) → next_in config size said (fed_in link more s) ≡ next_in config size said s
  next_as size said =
      ap (λ (sending : Option Item). around size said sending (arrival_in s.links now))
      (sends_same config s.links (fed_in link more s) s (λ other. ready_due config s now other (as_ready other)))
      ∙ ap (around size said (sends_in config s.links s)) (arrives_as s.links)

-- What an item changes

module _ (config : Config) (said : FrontStep) (link : ℕ) (more : List ℕ) (s : State) where
  abbrev Apart : Item → Type 0
  Apart item = after config said item (fed_in link more s) ≡ fed_in link more (after config said item s)

  by_error : (number : ℕ) (error : ProxyError) → Apart (Puts (Tells number (Refuses error)))
  by_error number errors.UnknownCommand = refl
  by_error number errors.NotSupported = refl
  by_error number errors.UnknownStatement = refl
  by_error number errors.BadExecute = refl
  by_error number errors.TooManyStatements = refl
  by_error number errors.NotInReadOnly = refl
  by_error number errors.TooManyConnections = refl
  by_error number errors.CommandTooLarge = refl
  by_error number errors.NoPrimary = refl
  by_error number (errors.PrimaryBehind wanted found) = refl
  by_error number errors.OutOfMemory = refl

  by_tell : (number : ℕ) (tell : Tell) → Apart (Puts (Tells number tell))
  by_tell number (Passes from command payload (Some ending) recording) = refl
  by_tell number (Passes from command payload None recording) = refl
  by_tell number (Owns status) = refl
  by_tell number (Refuses error) = by_error number error

  other_first : (one : LinkState → LinkState) (here : ℕ) → (here == link) ≡ false
      → changed one here (changed (fed more) link s.linked) ≡ changed (fed more) link (changed one here s.linked)
  other_first one here apart = in_turn one (fed more) here link apart s.linked

  by_purpose : (to : ℕ) (purpose : Purpose) → (to == link) ≡ false → Apart (Puts (Sends to purpose))
  by_purpose to (Asks command id) apart =
      λ i. record (put_in config (Sends to (Asks command id)) s) { linked = other_first (λ its. sent_all (sent_for (Asks command id)) (kind_of (Asks command id))) to apart i }
  by_purpose to Prepares apart =
      λ i. record (put_in config (Sends to Prepares) s) { linked = other_first (λ its. sent_all (sent_for Prepares) (kind_of Prepares)) to apart i }
  by_purpose to (Plays entry) apart =
      λ i. record (put_in config (Sends to (Plays entry)) s) { linked = other_first (λ its. sent_all (sent_for (Plays entry)) (kind_of (Plays entry))) to apart i }
  by_purpose to (Waits gtid seconds) apart =
      λ i. record (put_in config (Sends to (Waits gtid seconds)) s) { linked = other_first (λ its. sent_all (sent_for (Waits gtid seconds)) (kind_of (Waits gtid seconds))) to apart i }
  by_purpose to (Probes gtid) apart =
      λ i. record (put_in config (Sends to (Probes gtid)) s) { linked = other_first (λ its. sent_all (sent_for (Probes gtid)) (kind_of (Probes gtid))) to apart i }

  by_put : (put : Put) → Elsewhere link (Puts put) → Apart (Puts put)
  by_put (Hands packets) apart = refl
  by_put (Tells number tell) apart = by_tell number tell
  by_put (Records server gtid) apart = refl
  by_put Routes apart = refl
  by_put (Opens opened server login) apart =
      λ i. record (put_in config (Opens opened server login) s) { linked = other_first (λ its. opening login) opened apart i }
  by_put (LogsInto on packets) apart = refl
  by_put (Sends to purpose) apart = by_purpose to purpose apart
  by_put (Forgets on id) apart = refl
  by_put (Drops on cause) apart = refl
  by_put (Closes reason) apart = refl

  by_word : (from : ℕ) (word : LinkStep) → (from == link) ≡ false → Apart (Comes from word)
  by_word from (steps.Part payload role progress next behind) apart =
      λ i. record (after config said (Comes from (steps.Part payload role progress next behind)) s) { linked = other_first (λ its. (step its).after) from apart i }
  by_word from (steps.Lost cause) apart =
      λ i. record (after config said (Comes from (steps.Lost cause)) s) { linked = other_first (λ its. (step its).after) from apart i }
  by_word from (steps.Send packets) apart =
      λ i. record (after config said (Comes from (steps.Send packets)) s) { linked = other_first (λ its. (step its).after) from apart i }
  by_word from steps.LoggedIn apart =
      λ i. record (after config said (Comes from steps.LoggedIn) s) { linked = other_first (λ its. (step its).after) from apart i }
  by_word from steps.Idle apart =
      λ i. record (after config said (Comes from steps.Idle) s) { linked = other_first (λ its. (step its).after) from apart i }

  pub after_fed : (item : Item) → Elsewhere link item → Apart item
  after_fed (Accepted session scramble reading) apart = refl
  after_fed (TurnsAway told) apart = refl
  after_fed (Began opened server reading) apart = absurd apart
  after_fed (ClientBytes bytes) apart = refl
  after_fed (LinkReady ready) apart =
      λ i. record (after config said (LinkReady ready) s) { linked = other_first readied ready apart i }
  after_fed (LinkBytes from bytes) apart =
      λ i. record (after config said (LinkBytes from bytes) s) { linked = other_first (fed bytes) from apart i }
  after_fed ClientGone apart = refl
  after_fed (LinkLost gone) apart = refl
  after_fed (Ticks reading) apart = refl
  after_fed (Routed words loads next found) apart = refl
  after_fed (Comes from word) apart = by_word from word apart
  after_fed (Connects word) apart = refl
  after_fed (Takes judged number) apart = refl
  after_fed (Floods held) apart = refl
  after_fed (Puts put) apart = by_put put apart
  after_fed (Starves made number) apart = refl

-- the link stays as it is
module _ (link : ℕ) (past : List Item) where
  if_other : (test : Bool) (one : LinkState) → test ≡ false → (if test then one else linked link past) ≡ linked link past
  if_other true one t = absurd cc
  if_other false one t = refl

  put_stays : (put : Put) → Elsewhere link (Puts put) → linked link (Puts put ∷ past) ≡ linked link past
  put_stays (Hands packets) apart = refl
  put_stays (Tells number tell) apart = refl
  put_stays (Records server gtid) apart = refl
  put_stays Routes apart = refl
  put_stays (Opens opened server login) apart = if_other (opened == link) _ apart
  put_stays (LogsInto on packets) apart = refl
  put_stays (Sends to purpose) apart = if_other (to == link) _ apart
  put_stays (Forgets on id) apart = refl
  put_stays (Drops on cause) apart = refl
  put_stays (Closes reason) apart = refl

  link_stays : (item : Item) → Elsewhere link item → linked link (item ∷ past) ≡ linked link past
  link_stays (Accepted session scramble reading) apart = refl
  link_stays (TurnsAway told) apart = refl
  link_stays (Began opened server reading) apart = absurd apart
  link_stays (ClientBytes bytes) apart = refl
  link_stays (LinkReady ready) apart = if_other (ready == link) _ apart
  link_stays (LinkBytes from bytes) apart = if_other (from == link) _ apart
  link_stays ClientGone apart = refl
  link_stays (LinkLost gone) apart = refl
  link_stays (Ticks reading) apart = refl
  link_stays (Routed words loads next found) apart = refl
  link_stays (Comes from word) apart = if_other (from == link) _ apart
  link_stays (Connects word) apart = refl
  link_stays (Takes judged number) apart = refl
  link_stays (Floods held) apart = refl
  link_stays (Puts put) apart = put_stays put apart
  link_stays (Starves made number) apart = refl

-- where nothing comes of the link, and nothing is sent on it

put_elsewhere : (link : ℕ) (put : Put) (others : List Put) → Spares link (put ∷ others) → Elsewhere link (Puts put)
put_elsewhere link (Hands packets) others s = tt
put_elsewhere link (Tells number tell) others s = tt
put_elsewhere link (Records server gtid) others s = tt
put_elsewhere link Routes others s = tt
put_elsewhere link (Opens opened server login) others s = s.0
put_elsewhere link (LogsInto on packets) others s = tt
put_elsewhere link (Sends to purpose) others s = absurd s
put_elsewhere link (Forgets on id) others s = tt
put_elsewhere link (Drops on cause) others s = tt
put_elsewhere link (Closes reason) others s = tt

last_of : (one other last : Bool) → (one && (other && last)) ≡ true → last ≡ true
last_of true true last e = e
last_of true false last e = absurd cc
last_of false other last e = absurd cc

free_elsewhere : (prepared : Bool) (to link : ℕ) (past : List Item) → is_ready (linked link past) ≡ false → is_free prepared to past ≡ true
    → (to == link) ≡ false
free_elsewhere prepared to link past busy free = by_test (to == link) refl
  where
    ready : is_ready (linked to past) ≡ true
    ready = last_of (contains to (links past)) (is_same prepared (is_up to past)) (is_ready (linked to past)) free

    by_test : (test : Bool) → (to == link) ≡ test → test ≡ false
    by_test true t =
        let clash : true ≡ false = sym ready ∙ ap (λ (l : ℕ). is_ready (linked l past)) (eqb-true to link t) ∙ busy in absurd cc
    by_test false t = refl

due_elsewhere : {config : Config} {past : List Item} {item : Item} (link : ℕ) → IsIdle (linked link past) → Due config past item → Elsewhere link item
due_elsewhere {past = past} link idle (comes {link = from} {said = said} has a it) = by_test (from == link) refl
  where
    by_test : (test : Bool) → (from == link) ≡ test → test ≡ false
    by_test true t = says_something it (sym a ∙ ap (λ (l : ℕ). (step (linked l past)).answer) (eqb-true from link t) ∙ idle)
    by_test false t = refl
due_elsewhere link idle (connects p f c) = tt
due_elsewhere link idle (takes p f) = tt

elsewhere : {config : Config} {past : List Item} {item : Item} (link : ℕ) (more : List ℕ) → Waiting more (linked link past)
    → Spares link (owed config past) → Step config past item → Elsewhere link item
elsewhere link more w s (pays {put = put} {others = others} o) = put_elsewhere link put others (subst (Spares link) o s)
elsewhere link more w s (asks o n p g u) = tt
elsewhere {past = past} link more w s (prepares {link = to} o n has f) = free_elsewhere false to link past w.busy f
elsewhere link more w s (forgets o n has f t) = tt
elsewhere {past = past} link more w s (plays {link = to} o n has f t u) = free_elsewhere true to link past w.busy f
elsewhere {past = past} link more w s (sends {link = to} o n p u g f t d i v) = free_elsewhere true to link past w.busy f
elsewhere {past = past} link more w s (waits_first {link = to} o n p u g f t d v) = free_elsewhere true to link past w.busy f
elsewhere {past = past} link more w s (probes_first {link = to} o n p u g f t d v) = free_elsewhere true to link past w.busy f
elsewhere link more w s (floods o n p above) = tt
elsewhere link more w s (reads o n due) = due_elsewhere link w.short due

input_elsewhere : (link : ℕ) (input : Item) (past : List Item) → IsInput input past → is_of_link link input ≡ false → Elsewhere link input
input_elsewhere link (ClientBytes bytes) past is apart = tt
input_elsewhere link ClientGone past is apart = tt
input_elsewhere link (LinkReady ready) past is apart = apart
input_elsewhere link (LinkBytes from bytes) past is apart = apart
input_elsewhere link (LinkLost gone) past is apart = tt
input_elsewhere link (Ticks reading) past is apart = tt
input_elsewhere link _ past is apart = absurd is

-- No byte at all

fed_none : (its : LinkState) → fed [] its ≡ its
fed_none (LogsIn handshake unread) = ap (LogsIn handshake) (append-nil unread)
fed_none Rests = refl
fed_none (Awaits e unread) = ap (Awaits e) (append-nil unread)
fed_none (IsLost cause) = refl

fed_nothing : (link : ℕ) (more : List ℕ) → more ≡ [] → (s : State) → fed_in link more s ≡ s
fed_nothing link more none s = λ i. record s { linked = λ other. by_test (link == other) (s.linked other) i }
  where
    by_test : (test : Bool) (its : LinkState) → (if test then fed more its else its) ≡ its
    by_test true its = ap (λ (bytes : List ℕ). fed bytes its) none ∙ fed_none its
    by_test false its = refl

-- no byte came, or the link waits, and nothing that is owed changes that
data Keeps (config : Config) (link : ℕ) (more : List ℕ) (short : List Item) : Type 0 where
  empty : more ≡ [] → Keeps config link more short
  waiting : Waiting more (linked link short) → Spares link (owed config short) → Keeps config link more short

-- Both go on alike

module _ (config : Config) (link : ℕ) (more : List ℕ) where
  on_both : (short long : List Item) (item : Item) → MoreOn config link more short long → Elsewhere link item
      → MoreOn config link more (item ∷ short) (item ∷ long)
  on_both short long item m apart =
      item_on config link more short long m item item (after_fed config (heard config short) link more (state_of config short) item apart) (λ front. refl)
      (λ session. refl)

  still_waiting : (short : List Item) (item : Item) → Waiting more (linked link short) → Elsewhere link item → Waiting more (linked link (item ∷ short))
  still_waiting short item its apart = subst (Waiting more) (sym (link_stays link short item apart)) its

  next_both : (short long : List Item) → MoreOn config link more short long → Waiting more (linked link short) → next config long ≡ next config short
  next_both short long m its =
      next_long config link more short long m
      ∙ next_as config link more (state_of config short) its (length (held config short)) (heard config short)
      ∙ sym (next_is config short)

  answered_both : (short long : List Item) (answer : Answer) → MoreOn config link more short long
      → answered config answer short ≡ answered config answer long
  answered_both short long answer m =
      ap (λ (found : Target). Routed answer.words answer.loads answer.link found)
      (found_is config short answer.words answer.loads
      ∙ ap (target_in config answer.words answer.loads) (sym m.state)
      ∙ sym (found_is config long answer.words answer.loads))

  next_nothing : (short long : List Item) → MoreOn config link more short long → more ≡ [] → next config long ≡ next config short
  next_nothing short long m none =
      next_long config link more short long m
      ∙ ap (next_in config (length (held config short)) (heard config short)) (fed_nothing link more none (state_of config short))
      ∙ sym (next_is config short)

  on_nothing : (short long : List Item) (item : Item) → MoreOn config link more short long → more ≡ [] → MoreOn config link more (item ∷ short) (item ∷ long)
  on_nothing short long item m none =
      item_on config link more short long m item item
      (ap (after config (heard config short) item) (fed_nothing link more none (state_of config short))
      ∙ sym (fed_nothing link more none (after config (heard config short) item (state_of config short))))
      (λ front. refl) (λ session. refl)

  -- by a step of the first
  onward : (short long : List Item) (item : Item) → MoreOn config link more short long → Keeps config link more short → next config short ≡ Some item
      → (next config long ≡ Some item) × (MoreOn config link more (item ∷ short) (item ∷ long) × Keeps config link more (item ∷ short))
  onward short long item m (empty none) e = (next_nothing short long m none ∙ e, (on_nothing short long item m none, empty none))
  onward short long item m (waiting w s) e =
      let its = of_next config short item e in
      let apart = elsewhere link more w s its in
      (next_both short long m w ∙ e, (on_both short long item m apart, waiting (still_waiting short item w apart) (step_spares link its s)))

  -- and by an answer
  answered_on : (short long : List Item) (answer : Answer) → answer.link ≢ link → MoreOn config link more short long → Keeps config link more short
      → MoreOn config link more (answered config answer short ∷ short) (answered config answer long ∷ long)
      × Keeps config link more (answered config answer short ∷ short)
  answered_on short long answer other m keeps = (
    subst (λ (x : Item). MoreOn config link more (answered config answer short ∷ short) (x ∷ long)) (answered_both short long answer m)
        (on_both short long (answered config answer short) m tt),
    by_keeps keeps,
  )
    where
      by_test : (test : Bool) → (answer.link == link) ≡ test → test ≡ false
      by_test true t = absurd (other (eqb-true answer.link link t))
      by_test false t = refl

      by_keeps : Keeps config link more short → Keeps config link more (answered config answer short ∷ short)
      by_keeps (empty none) = empty none
      by_keeps (waiting w s) =
          waiting w (route_spares link (found_in config short answer.words answer.loads) _ answer.link _ _ _ (by_test (answer.link == link) refl))

  runs : (first second : List Answer) (short between one : List Item) → AreOthers link first → Turns config first short between
      → Turns config second (LinkBytes link more ∷ between) one → (long : List Item) → MoreOn config link more short long → Keeps config link more short
      → (other : List Item) × Turns config (first ++ second) long other × IsAlike config one other
  runs first second short between one fresh (rests e a) from long m keeps =
      carried config second (LinkBytes link more ∷ short) one from long (joins config link more short long m e a)
  runs first second short between one fresh (goes_on {item = item} e t) from long m keeps =
      let on = onward short long item m keeps e in
      let run = runs first second (item ∷ short) between one fresh t from (item ∷ long) on.1.0 on.1.1 in
      (run.0, goes_on (on.0) run.1, run.2)
  runs first second short between one fresh (hears {answer = answer} {answers = its} unanswered t) from long m keeps =
      let on = answered_on short long answer fresh.0 m keeps in
      let run = runs its second (answered config answer short ∷ short) between one fresh.1 t from (answered config answer long ∷ long) on.0 on.1 in
      (run.0, hears (ap (λ (s : State). s.asking) m.state ∙ unanswered) run.1, run.2)

-- at the beginning
begun : (config : Config) (link : ℕ) (past : List Item) (more : List ℕ) → next config past ≡ None → asking past ≡ false
    → MoreOn config link more past (LinkBytes link more ∷ past)
begun config link past more e a =
    let none : owed config past ≡ [] = rests_owing_nothing config past e a in
    record {
      state = λ i. record (fed_in link more (state_of config past)) { owed = sym none i };
      front = refl;
      gave = λ session. sym (nothing_more session);
    }
  where
    nothing_more : (session : ℕ) → outputs_of session (LinkBytes link more ∷ past) ≡ outputs_of session past
    nothing_more session = append-nil (outputs_of session past)

busy_of : (byte : ℕ) (bytes : List ℕ) (its : LinkState) → IsIdle (fed (byte ∷ bytes) its) → is_ready its ≡ false
busy_of byte bytes (LogsIn handshake unread) idle = refl
busy_of byte bytes Rests idle = absurd cc
busy_of byte bytes (Awaits e unread) idle = refl
busy_of byte bytes (IsLost cause) idle = refl

keeps_first : (config : Config) (link : ℕ) (bytes : List ℕ) (input : Item) (past : List Item) → IsIdle (linked link past)
    → IsIdle (fed bytes (linked link past)) → IsInput input past → Elsewhere link input → Keeps config link bytes (input ∷ past)
keeps_first config link [] input past short long is there = empty refl
keeps_first config link (byte ∷ bytes) input past short long is there =
    waiting
    (still_waiting config link (byte ∷ bytes) past input (record { short = short; long = long; busy = busy_of byte bytes (linked link past) long }) there)
    (input_spares link config input past is)

pub link_piece_waits : LinkPieceWaits
link_piece_waits config link first second bytes input past between one e a n has none is apart fresh t from =
    let there = input_elsewhere link input past is apart in
    let short = has_idle past link (rests_hushed config past e a n) has in
    let fed_idle : IsIdle (if link == link then fed bytes (linked link past) else linked link past) =
    has_idle (LinkBytes link bytes ∷ past) link (rests_hushed config (LinkBytes link bytes ∷ past) none a n) has in
    let long : IsIdle (fed bytes (linked link past)) = rw (eq-eqb link link refl) at fed_idle in
    runs config link bytes first second (input ∷ past) between one fresh t from (input ∷ LinkBytes link bytes ∷ past)
    (on_both config link bytes past (LinkBytes link bytes ∷ past) input (begun config link past bytes e a) there)
    (keeps_first config link bytes input past short long is there)
