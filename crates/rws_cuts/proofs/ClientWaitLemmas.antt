-- A session that holds a piece of its client, of which nothing comes, and one that doesn't: they do the same, until the second rests.
use Rattle.std.proofs.Common.{◌≡◌, ℕ, ◌≤◌, Bool, true, false, List, [], ◌∷◌, ◌++◌, length, refl, sym, ap, subst, ◌∙◌, arith, append-nil, inl, inr, Option, Some, None}
use Rattle.std.specs.Prelude.{◌⊎◌}
use Rattle.std.specs.Option.{option_map}
use Rattle.std.proofs.lemmas.Bool.{le-ltb}
use Rattle.std.proofs.lemmas.List.{length-append}
use Rattle.rws_front.specs.declared.step.FrontStep.{FrontStep}
use Rattle.rws_front.specs.Fronting.{Fronting, fed as front_fed}
use Rattle.rws_link.specs.Stepping.{LinkState, step}
use Rattle.rws_link.specs.declared.step.LinkStep.{LinkStep}
use Rattle.rws_link.specs.declared.step.LinkStep.TheVariants as steps
use Rattle.rws_config.specs.declared.config.Config.{Config}
use Rattle.rws_commands.specs.declared.command.Command.{Command}
use Rattle.rws_commands.specs.declared.history.HistoryEntry.{HistoryEntry}
use Rattle.rws_commands.specs.declared.proxy_error.ProxyError.{ProxyError}
use Rattle.rws_commands.specs.declared.proxy_error.ProxyError.TheVariants as errors
use Rattle.rws_commands.specs.Statements.{stale_on, unplayed}
use Rattle.rws_route.specs.declared.destination.Target.{Target}
use Rattle.rws_record.specs.Item.{Item, Purpose, Put, Tell}
use Rattle.rws_record.specs.Item.Item.{ClientBytes, ClientGone, LinkReady, LinkBytes, LinkLost, Ticks, Routed, Connects, Takes, Floods, Puts}
use Rattle.rws_record.specs.Item.Put.{Hands, Tells, Records, Routes, Opens, LogsInto, Sends, Forgets, Drops, Closes}
use Rattle.rws_record.specs.Item.Tell.{Passes, Owns, Refuses}
use Rattle.rws_record.specs.Record.{IsInput}
use Rattle.rws_record.specs.Values.{asking, asking_for, fronted, held, is_over, linked, links, pending}
use Rattle.rws_record.specs.Rules.{ask_by, coming, is_link, flood_by, flood_limit, next, next_by, owed, play_by, prepare_by, route_by, unless_asking, ◌or◌}
use Rattle.rws_record.specs.Outputs.{outputs_of}
use Rattle.rws_record.proofs.RestLemmas.{rested}
use Rattle.rws_record.proofs.StepLemmas.{Step, neither, of_next, rests_owing_nothing}
use Rattle.rws_record.proofs.StepLemmas.Due.{comes, connects, takes}
use Rattle.rws_record.proofs.StepLemmas.Step.{pays, asks, prepares, forgets, plays, sends, waits_first, probes_first, floods, reads}
use Rattle.rws_cuts.specs.Turns.{Answer, Turns, answered}
use Rattle.rws_cuts.specs.Turns.Turns.{rests, goes_on, hears}
use Rattle.rws_cuts.specs.Laws.{IsAlike}
use Rattle.rws_cuts.specs.LinkCuts.{ClientPieceWaits, is_of_client}
use Rattle.rws_cuts.proofs.State.{State, after, arrival_in, due_in, flood_in, free_in, goes_in, next_in, route_in, sends_in, state_of, take_in, target_in}
use Rattle.rws_cuts.proofs.MirrorLemmas.{found_is, heard, moves, next_is}
use Rattle.rws_cuts.proofs.AgreementLemmas.{agrees}
use Rattle.rws_cuts.proofs.OutLemmas.{gave_more}
use Rattle.rws_cuts.proofs.TurnLemmas.{carried}
use Rattle.rws_cuts.proofs.HushLemmas.{AreIdle, no_coming}
use Rattle.rws_cuts.proofs.ClientLemmas.{runs}

-- the second record is as the first, but that its client sent more, with which it holds no more than it may behind a command
record Sent (config : Config) (more : List ℕ) (short long : List Item) : Type 0 where
  pub state : state_of config short ≡ state_of config long
  pub front : fronted config long ≡ front_fed (fronted config short) more
  pub gave : (session : ℕ) → outputs_of session short ≡ outputs_of session long
  pub room : (pending short ≡ None) ⊎ (length (held config long) ≤ flood_limit config)

-- Nothing comes of the client while something comes of a link

abbrev is_of_front : Item → Bool
is_of_front (Connects said) = true
is_of_front (Takes judged number) = true
is_of_front _ = false

abbrev IsElse : Option Item → Type 0
IsElse None = Unit {0}
IsElse (Some item) = is_of_front item ≡ false

or_else : (one other : Option Item) → IsElse one → IsElse other → IsElse (one or other)
or_else None other first second = second
or_else (Some item) other first second = first

route_else : (command : Option Command) (goes : Option ℕ) (waits : Bool) → IsElse (route_by command goes waits)
route_else None goes waits = tt
route_else (Some command) (Some link) waits = tt
route_else (Some command) None true = tt
route_else (Some command) None false = refl

prepare_else : (link : ℕ) (free : Bool) → IsElse (prepare_by free link)
prepare_else link true = refl
prepare_else link false = tt

play_else : (link : ℕ) (free : Bool) (stale : Option ℕ) (entry : Option HistoryEntry) → IsElse (play_by free link stale entry)
play_else link true (Some id) (Some entry) = refl
play_else link true None (Some entry) = refl
play_else link true stale None = tt
play_else link false stale entry = tt

ask_else : (link : ℕ) (free : Bool) (stale : Option ℕ) (goes : Bool) (purpose : Option Purpose) (sent : Option ℕ)
    → IsElse (ask_by free link stale goes purpose sent)
ask_else link true (Some id) true (Some purpose) None = refl
ask_else link true None true (Some purpose) None = refl
ask_else link false stale goes purpose sent = tt
ask_else link true stale false purpose sent = tt
ask_else link true stale true None sent = tt
ask_else link true stale true (Some purpose) (Some on) = tt

sends_else : (config : Config) (some : List ℕ) (s : State) → IsElse (sends_in config some s)
sends_else config [] s = tt
sends_else config (link ∷ others) s =
    let free = free_in true link s in
    let stale = stale_on link s.statements in
    let entry = unplayed (s.cursor link) s.statements in
    let goes = is_link link (goes_in s) in
    let purpose = asking_for config.causal_timeout_s s.routing.check s.pending link s.statements.table.links in
    or_else (due_in config link s) (sends_in config others s)
    (or_else (prepare_by (free_in false link s) link) (play_by free link stale entry or ask_by free link stale goes purpose s.sent_on)
    (prepare_else link (free_in false link s))
    (or_else (play_by free link stale entry) (ask_by free link stale goes purpose s.sent_on) (play_else link free stale entry)
    (ask_else link free stale goes purpose s.sent_on)))
    (sends_else config others s)

flood_else : (bytes : Option ℕ) → IsElse (option_map (λ (held : ℕ). Floods held) bytes)
flood_else None = tt
flood_else (Some held) = refl

coming_else : (link : ℕ) (said : LinkStep) → IsElse (coming link said)
coming_else link steps.Idle = tt
coming_else link (steps.Send bytes) = refl
coming_else link steps.LoggedIn = refl
coming_else link (steps.Part payload role progress next behind) = refl
coming_else link (steps.Lost cause) = refl

arrives_else : (some : List ℕ) (states : ℕ → LinkState) → IsElse (arrival_in some states)
arrives_else [] states = tt
arrives_else (link ∷ others) states =
    or_else (coming link (step (states link)).answer) (arrival_in others states) (coming_else link (step (states link)).answer) (arrives_else others states)

next_else : (asks : Bool) (list : List Put) (over : Bool) (due : Option Item) → IsElse due → IsElse (unless_asking asks (next_by list over due))
next_else true list over due its = tt
next_else false (put ∷ others) over due its = refl
next_else false [] true due its = tt
next_else false [] false due its = its

-- What is next, where something comes of a link

module _ (config : Config) (s : State) (first : Item) (arrives : arrival_in s.links s.linked ≡ Some first) where
  abbrev besides : Option Item → Option Item
  besides flood = unless_asking s.asking (next_by s.owed s.is_over (route_in s or (sends_in config s.links s or (flood or Some first))))

  without_client : (size : ℕ) (said : FrontStep) → next_in config size said s ≡ besides (flood_in config size s)
  without_client size said =
      ap (λ (arrival : Option Item). unless_asking s.asking (next_by s.owed s.is_over
      (route_in s or (sends_in config s.links s or (flood_in config size s or (arrival or take_in config said s)))))) arrives

  besides_else : (size : ℕ) → IsElse (besides (flood_in config size s))
  besides_else size =
      next_else s.asking s.owed s.is_over (route_in s or (sends_in config s.links s or (flood_in config size s or Some first)))
      (or_else (route_in s) (sends_in config s.links s or (flood_in config size s or Some first)) (route_else s.pending (goes_in s) s.routing.waits)
      (or_else (sends_in config s.links s) (flood_in config size s or Some first) (sends_else config s.links s)
      (or_else (flood_in config size s) (Some first) (flood_else (flood_by s.pending (flood_limit config) size)) (subst IsElse arrives (arrives_else s.links s.linked)))))

flood_same : (command : Option Command) (limit size longer : ℕ) → (command ≡ None) ⊎ (longer ≤ limit) → size ≤ longer
    → option_map (λ (bytes : ℕ). Floods bytes) (flood_by command limit size) ≡ option_map (λ (bytes : ℕ). Floods bytes) (flood_by command limit longer)
flood_same None limit size longer room more = refl
flood_same (Some command) limit size longer (inl none) more = absurd cc
flood_same (Some command) limit size longer (inr within) more =
    let first : size ≤ limit = omega (arith, within, more) in
    rw (le-ltb limit size first, le-ltb limit longer within) refl

-- An item that leaves the client's side as it is

record Calm (config : Config) (past : List Item) (item : Item) : Type 0 where
  pub front : (other : List Item) → fronted config (item ∷ other) ≡ fronted config other
  pub state : (one other : FrontStep) (s : State) → after config one item s ≡ after config other item s
  pub pending : (pending (item ∷ past) ≡ None) ⊎ (pending (item ∷ past) ≡ pending past)

module _ (past : List Item) where
  abbrev Leaves : Item → Type 0
  Leaves item = (pending (item ∷ past) ≡ None) ⊎ (pending (item ∷ past) ≡ pending past)

  by_error : (number : ℕ) (error : ProxyError) → Leaves (Puts (Tells number (Refuses error)))
  by_error number errors.UnknownCommand = inr refl
  by_error number errors.NotSupported = inr refl
  by_error number errors.UnknownStatement = inr refl
  by_error number errors.BadExecute = inr refl
  by_error number errors.TooManyStatements = inr refl
  by_error number errors.NotInReadOnly = inr refl
  by_error number errors.TooManyConnections = inr refl
  by_error number errors.CommandTooLarge = inr refl
  by_error number errors.NoPrimary = inl refl
  by_error number (errors.PrimaryBehind wanted found) = inl refl
  by_error number errors.OutOfMemory = inr refl

  by_tell : (number : ℕ) (tell : Tell) → Leaves (Puts (Tells number tell))
  by_tell number (Passes from command payload (Some ending) recording) = inl refl
  by_tell number (Passes from command payload None recording) = inr refl
  by_tell number (Owns status) = inr refl
  by_tell number (Refuses error) = by_error number error

  by_put : (put : Put) → Leaves (Puts put)
  by_put (Hands packets) = inr refl
  by_put (Tells number tell) = by_tell number tell
  by_put (Records server gtid) = inr refl
  by_put Routes = inr refl
  by_put (Opens opened server login) = inr refl
  by_put (LogsInto on packets) = inr refl
  by_put (Sends to purpose) = inr refl
  by_put (Forgets on id) = inr refl
  by_put (Drops on cause) = inr refl
  by_put (Closes reason) = inr refl

calm : {config : Config} {past : List Item} {item : Item} → Step config past item → is_of_front item ≡ false → Calm config past item
calm {past = past} (pays {put = put} o) c = record { front = λ other. refl; state = λ one other s. refl; pending = by_put past put }
calm (asks o n p g w) c = record { front = λ other. refl; state = λ one other s. refl; pending = inr refl }
calm (prepares o n has f) c = record { front = λ other. refl; state = λ one other s. refl; pending = inr refl }
calm (forgets o n has f t) c = record { front = λ other. refl; state = λ one other s. refl; pending = inr refl }
calm (plays o n has f t s) c = record { front = λ other. refl; state = λ one other s. refl; pending = inr refl }
calm (sends o n p s g f t d i v) c = record { front = λ other. refl; state = λ one other s. refl; pending = inr refl }
calm (waits_first o n p s g f t d v) c = record { front = λ other. refl; state = λ one other s. refl; pending = inr refl }
calm (probes_first o n p s g f t d v) c = record { front = λ other. refl; state = λ one other s. refl; pending = inr refl }
calm (floods o n p above) c = record { front = λ other. refl; state = λ one other s. refl; pending = inr refl }
calm (reads o n (comes has a it)) c = record { front = λ other. refl; state = λ one other s. refl; pending = inr refl }
calm (reads o n (connects p f k)) c = absurd cc
calm (reads o n (takes p f)) c = absurd cc

idle_from : (some : List ℕ) (states : ℕ → LinkState) → arrival_in some states ≡ None → AreIdle some states
idle_from [] states e = tt
idle_from (link ∷ others) states e =
    let first = neither (coming link (step (states link)).answer) (arrival_in others states) e in
    (no_coming link (step (states link)).answer first.0, idle_from others states first.1)

-- Both go on alike

module _ (config : Config) (more : List ℕ) where
  room_behind : (command now : Option Command) (size : ℕ) → (command ≡ None) ⊎ (size ≤ flood_limit config) → (now ≡ None) ⊎ (now ≡ command)
      → (now ≡ None) ⊎ (size ≤ flood_limit config)
  room_behind command now size room (inl none) = inl none
  room_behind command now size (inl none) (inr same) = inl (same ∙ none)
  room_behind command now size (inr within) (inr same) = inr within

  on_both : (short long : List Item) (item : Item) → Sent config more short long → Calm config short item → Sent config more (item ∷ short) (item ∷ long)
  on_both short long item m its = record {
    state = moves config item short
        ∙ its.state (heard config short) (heard config long) (state_of config short)
        ∙ ap (after config (heard config long) item) m.state
        ∙ sym (moves config item long);
    front = its.front long ∙ m.front ∙ ap (λ (front : Fronting). front_fed front more) (sym (its.front short));
    gave = λ session. gave_more session item short long (m.gave session);
    room = subst (λ (front : Fronting). (pending (item ∷ short) ≡ None) ⊎ (length front.stream.held ≤ flood_limit config)) (sym (its.front long))
        (room_behind (pending short) (pending (item ∷ short)) (length (held config long)) m.room its.pending);
  }

  longer : (short long : List Item) → Sent config more short long → length (held config short) ≤ length (held config long)
  longer short long m =
      let is : length (held config long) ≡ length (held config short ++ more) = ap (λ (front : Fronting). length front.stream.held) m.front in
      omega (arith, length-append (held config short) more)

  next_both : (short long : List Item) (first : Item) → Sent config more short long → arrival_in (links short) (λ link. linked link short) ≡ Some first
      → next config long ≡ next config short
  next_both short long first m arrives =
      next_is config long
      ∙ ap (next_in config (length (held config long)) (heard config long)) (sym m.state)
      ∙ without_client config (state_of config short) first arrives (length (held config long)) (heard config long)
      ∙ ap (besides config (state_of config short) first arrives)
      (sym (flood_same (pending short) (flood_limit config) (length (held config short)) (length (held config long)) m.room (longer short long m)))
      ∙ sym (without_client config (state_of config short) first arrives (length (held config short)) (heard config short))
      ∙ sym (next_is config short)

  is_else : (short : List Item) (first item : Item) → arrival_in (links short) (λ link. linked link short) ≡ Some first → next config short ≡ Some item
      → is_of_front item ≡ false
  is_else short first item arrives e =
      subst IsElse
      (sym (without_client config (state_of config short) first arrives (length (held config short)) (heard config short)) ∙ sym (next_is config short) ∙ e)
      (besides_else config (state_of config short) first arrives (length (held config short)))

  answered_both : (short long : List Item) (answer : Answer) → Sent config more short long → answered config answer short ≡ answered config answer long
  answered_both short long answer m =
      ap (λ (found : Target). Routed answer.words answer.loads answer.link found)
      (found_is config short answer.words answer.loads
      ∙ ap (target_in config answer.words answer.loads) m.state
      ∙ sym (found_is config long answer.words answer.loads))

  joins : (short long : List Item) → Sent config more short long → next config short ≡ None → asking short ≡ false
      → IsAlike config (ClientBytes more ∷ short) long
  joins short long m e a =
      let none : owed config short ≡ [] = rests_owing_nothing config short e a in
      let same : record (state_of config short) { owed = [] } ≡ state_of config short =
      ap (λ (list : List Put). record (state_of config short) { owed = list }) (sym none) in
      record {
        gave = λ session. append-nil (outputs_of session short) ∙ m.gave session;
        agrees = agrees config (ClientBytes more ∷ short) long (sym m.front) (moves config (ClientBytes more) short ∙ same ∙ m.state);
      }

  abbrev Ends : (first second : List Answer) (one long : List Item) → Type 0
  Ends first second one long = (other : List Item) × Turns config (first ++ second) long other × IsAlike config one other

  waits : (first second : List Answer) (short between one : List Item) → Turns config first short between
      → Turns config second (ClientBytes more ∷ between) one → (long : List Item) → Sent config more short long → Ends first second one long
  waits first second short between one (rests e a) from long m =
      carried config second (ClientBytes more ∷ short) one from long (joins short long m e a)
  waits first second short between one (goes_on {item = item} e t) from long m =
      by_arrival (arrival_in (links short) (λ link. linked link short)) refl (λ further. waits first second (item ∷ short) between one t from (item ∷ long) further)
    where
      by_arrival : (arrival : Option Item) → arrival_in (links short) (λ link. linked link short) ≡ arrival
          → (Sent config more (item ∷ short) (item ∷ long) → Ends first second one (item ∷ long)) → Ends first second one long
      by_arrival None none further =
          runs config more first second short between one (goes_on e t) from long
          (record { state = m.state; front = m.front; gave = m.gave; hushed = idle_from (links short) (λ link. linked link short) none })
      by_arrival (Some arriving) arrives further =
          let run = further (on_both short long item m (calm (of_next config short item e) (is_else short arriving item arrives e))) in
          (run.0, goes_on (next_both short long arriving m arrives ∙ e) run.1, run.2)
  waits first second short between one (hears {answer = answer} {answers = its} unanswered t) from long m =
      let item = answered config answer short in
      let run = waits its second (item ∷ short) between one t from (answered config answer long ∷ long)
      (subst (λ (x : Item). Sent config more (item ∷ short) (x ∷ long)) (answered_both short long answer m)
      (on_both short long item m (record { front = λ other. refl; state = λ one other s. refl; pending = inr refl }))) in
      (run.0, hears (sym (ap (λ (s : State). s.asking) m.state) ∙ unanswered) run.1, run.2)

-- at the beginning

input_calm : (config : Config) (input : Item) (past : List Item) → IsInput input past → is_of_client input ≡ false → Calm config past input
input_calm config (LinkReady link) past is apart = record { front = λ other. refl; state = λ one other s. refl; pending = inr refl }
input_calm config (LinkBytes link bytes) past is apart = record { front = λ other. refl; state = λ one other s. refl; pending = inr refl }
input_calm config (LinkLost link) past is apart = record { front = λ other. refl; state = λ one other s. refl; pending = inr refl }
input_calm config (Ticks reading) past is apart = record { front = λ other. refl; state = λ one other s. refl; pending = inr refl }
input_calm config (ClientBytes bytes) past is apart = absurd cc
input_calm config ClientGone past is apart = absurd cc
input_calm config _ past is apart = absurd is

begun : (config : Config) (past : List Item) (more : List ℕ) → next config past ≡ None → asking past ≡ false → is_over past ≡ false
    → next config (ClientBytes more ∷ past) ≡ None → Sent config more past (ClientBytes more ∷ past)
begun config past more e a n none = record {
  state = λ i. record (state_of config past) { owed = rests_owing_nothing config past e a i };
  front = refl;
  gave = λ session. sym (nothing_more session);
  room = by_pending (pending past) refl;
}
  where
    nothing_more : (session : ℕ) → outputs_of session (ClientBytes more ∷ past) ≡ outputs_of session past
    nothing_more session = append-nil (outputs_of session past)

    by_pending : (command : Option Command) → pending past ≡ command
        → (pending past ≡ None) ⊎ (length (held config (ClientBytes more ∷ past)) ≤ flood_limit config)
    by_pending None p = inl p
    by_pending (Some command) p = inr ((rested config (ClientBytes more ∷ past) none a n).room command p)

pub client_piece_waits : ClientPieceWaits
client_piece_waits config first second bytes input past between one e a n none is apart t from =
    waits config bytes first second (input ∷ past) between one t from (input ∷ ClientBytes bytes ∷ past)
    (on_both config bytes past (ClientBytes bytes ∷ past) input (begun config past bytes e a n none) (input_calm config input past is apart))
