-- What passes between a worker and its board in a run: the events that the run heard, and what it did.
use Rattle.std.proofs.Common.{◌≡◌, ℕ, ◌≤◌, ◌⊎◌, inl, inr, arith, length, length-append, List, [], ◌∷◌, ◌++◌, map, refl, sym, ap, subst, ◌∙◌, None}
use Rattle.std.proofs.lemmas.List.{append-nil, append_cancel_right}
use Rattle.std.specs.List.{AllByRecursion, flat_map}
use Rattle.rws_board.specs.Boards.{events_given, given}
use Rattle.rws_board.proofs.JoinLemmas.{events_given-append}
use Rattle.rws_wire.specs.Packets.{spelling}
use Rattle.rws_board.specs.declared.action.Action.TheVariants.{ToLink}
use Rattle.rws_board.specs.declared.event.Event.{Event}
use Rattle.rws_board.specs.declared.event.Event.TheVariants as events
use Rattle.rws_board.specs.declared.interaction.Interaction.{Interaction}
use Rattle.rws_board.specs.declared.interaction.Interaction.TheVariants.{Gave, Took, Told}
use Rattle.rws_pool.specs.declared.events.PoolCall.{PoolCall}
use Rattle.rws_pool.specs.declared.events.PoolCall.TheVariants as pool
use Rattle.rws_pool.specs.declared.events.PoolCall.TheVariants.{Observe}
use Rattle.rws_pool.specs.declared.events.PoolEvent.{PoolEvent}
use Rattle.rws_pool.specs.declared.events.PoolEvent.TheVariants.{Route, Record, Observe as ObserveEvent}
use Rattle.rws_pool.specs.declared.words.PoolWords.{PoolWords}
use Rattle.rws_pool.specs.declared.words.Round.{Round}
use Rattle.rws_pool.specs.History.{event_of}
use Rattle.rws_pool.specs.Machine.{CanStep, pool_from, pool_step}
use Rattle.rws_config.specs.declared.config.Config.{Config}
use Rattle.rws_record.specs.declared.output.Output.{Output}
use Rattle.rws_record.specs.declared.output.Output.TheVariants as outputs
use Rattle.rws_record.specs.declared.output.Output.TheVariants.{Act}
use Rattle.rws_record.specs.Item.{Item, Put}
use Rattle.rws_record.specs.Item.Item.{Accepted, TurnsAway, Began, ClientBytes, LinkReady, LinkBytes, ClientGone, LinkLost, Ticks, Routed, Comes, Connects, Takes, Floods, Puts, Starves}
use Rattle.rws_record.specs.Item.Put.{Hands, Tells, Records, Routes, Opens, LogsInto, Sends, Forgets, Drops, Closes}
use Rattle.rws_record.specs.Outputs.{calls_of, done_as, done_for as done_by, outs_of}
use Rattle.rws_record.specs.Values.{sent_for}
use Rattle.rws_record.specs.Run.{Entry, IsRun, next_entry, record_of, events_of, done_in, pool_events_of}
use Rattle.rws_record.specs.Run.Entry.{Came, Heard, Did, Observes}
use Rattle.rws_record.specs.Run.IsRun.{starts, came, goes_on, starves}
use Rattle.rws_record.proofs.EntryLemmas.{Next, of_next_entry}
use Rattle.rws_record.proofs.EntryLemmas.Next.{did as goes_by, answered as goes_answered, heard as goes_hearing, observes as goes_observing}
use Rattle.rws_worker.specs.Standing.{interactions_of, without_gave}
use Rattle.rws_worker.specs.Working.{events_told}

-- what sessions give out gives no event, and is taken as it is

outs_give_none : (outs : List Output) → events_given (map done_as outs) ≡ []
outs_give_none [] = refl
outs_give_none (Act action ∷ outs) = outs_give_none outs
outs_give_none (outputs.Record server gtid ∷ outs) = outs_give_none outs

outs_are_left : (outs : List Output) → without_gave (map done_as outs) ≡ map done_as outs
outs_are_left [] = refl
outs_are_left (Act action ∷ outs) = ap (λ (xs : List Interaction). Took action ∷ xs) (outs_are_left outs)
outs_are_left (outputs.Record server gtid ∷ outs) = ap (λ (xs : List Interaction). Told (pool.Record server gtid) ∷ xs) (outs_are_left outs)

-- nor do calls

calls_give_none : (calls : List PoolCall) → events_given (map Told calls) ≡ []
calls_give_none [] = refl
calls_give_none (call ∷ calls) = calls_give_none calls

calls_are_left : (calls : List PoolCall) → without_gave (map Told calls) ≡ map Told calls
calls_are_left [] = refl
calls_are_left (call ∷ calls) = ap (λ (xs : List Interaction). Told call ∷ xs) (calls_are_left calls)

pub done_gives_none : (session : ℕ) (item : Item) (past : List Item) → events_given (done_by session item past) ≡ []
done_gives_none session item past =
    events_given-append (map done_as (outs_of session item past)) (map Told (calls_of session item))
    ∙ ap (λ (xs : List Event). xs ++ events_given (map Told (calls_of session item))) (outs_give_none (outs_of session item past))
    ∙ calls_give_none (calls_of session item)

-- an event that is given is left out, and none of the words takes anything of it

given_is_left_out : (event : Event) → without_gave (given event) ≡ []
given_is_left_out (events.Accept session scramble) = refl
given_is_left_out (events.Begin session server) = refl
given_is_left_out (events.ClientBytes session bytes) = refl
given_is_left_out (events.ClientGone session) = refl
given_is_left_out (events.LinkReady link) = refl
given_is_left_out (events.LinkBytes link bytes) = refl
given_is_left_out (events.LinkGone link) = refl
given_is_left_out (events.Clock now_ms) = refl
given_is_left_out (events.Observed round) = refl
given_is_left_out events.End = refl

pub given_tells_none : (event : Event) → events_told (given event) ≡ []
given_tells_none (events.Accept session scramble) = refl
given_tells_none (events.Begin session server) = refl
given_tells_none (events.ClientBytes session bytes) = refl
given_tells_none (events.ClientGone session) = refl
given_tells_none (events.LinkReady link) = refl
given_tells_none (events.LinkBytes link bytes) = refl
given_tells_none (events.LinkGone link) = refl
given_tells_none (events.Clock now_ms) = refl
given_tells_none (events.Observed round) = refl
given_tells_none events.End = refl

one_event : (run : List Entry) (event : Event)
    → events_given (interactions_of (Came event ∷ run)) ≡ events_given (interactions_of run) ++ events_given (given event)
one_event run event = events_given-append (interactions_of run) (given event)

no_more : (session : ℕ) (item : Item) (run : List Entry)
    → events_given (interactions_of (Did session item ∷ run)) ≡ events_given (interactions_of run)
no_more session item run =
    let done = done_by session item (record_of session run) in
    events_given-append (interactions_of run) done
    ∙ ap (λ (xs : List Event). events_given (interactions_of run) ++ xs) (done_gives_none session item (record_of session run))
    ∙ append-nil (events_given (interactions_of run))

no_more_observed : (round : Round) (run : List Entry)
    → events_given (interactions_of (Observes round ∷ run)) ≡ events_given (interactions_of run)
no_more_observed round run =
    events_given-append (interactions_of run) (Told (Observe round) ∷ []) ∙ append-nil (events_given (interactions_of run))

-- the end isn't among the events of a run, where they all were given

at_most_one : (event : Event) → length (events_given (given event)) ≤ 1
at_most_one (events.Accept session scramble) = omega arith
at_most_one (events.Begin session server) = omega arith
at_most_one (events.ClientBytes session bytes) = omega arith
at_most_one (events.ClientGone session) = omega arith
at_most_one (events.LinkReady link) = omega arith
at_most_one (events.LinkBytes link bytes) = omega arith
at_most_one (events.LinkGone link) = omega arith
at_most_one (events.Clock now_ms) = omega arith
at_most_one (events.Observed round) = omega arith
at_most_one events.End = omega arith

at_most_all : (run : List Entry) → length (events_given (interactions_of run)) ≤ length (events_of run)
at_most_all [] = omega arith
at_most_all (Came event ∷ run) =
    let one = ap length (one_event run event) ∙ length-append (events_given (interactions_of run)) (events_given (given event)) in
    let all = length-append (events_of run) (event ∷ []) in
    let low = at_most_one event in let before = at_most_all run in omega arith
at_most_all (Heard session item ∷ run) = at_most_all run
at_most_all (Did session item ∷ run) =
    let same = ap length (no_more session item run) in let before = at_most_all run in omega arith
at_most_all (Observes round ∷ run) =
    let same = ap length (no_more_observed round run) in let before = at_most_all run in omega arith

-- an event that was given, as all before it
record Given (run : List Entry) (event : Event) : Type 0 where
  given_so : given event ≡ Gave event ∷ []
  told : events_given (interactions_of run) ≡ events_of run

given_last : (run : List Entry) (event : Event) → events_given (interactions_of run) ++ events_given (given event) ≡ events_of run ++ event ∷ []
    → Given run event
given_last run (events.Accept session scramble) e = record { given_so = refl; told = append_cancel_right _ _ _ e }
given_last run (events.Begin session server) e = record { given_so = refl; told = append_cancel_right _ _ _ e }
given_last run (events.ClientBytes session bytes) e = record { given_so = refl; told = append_cancel_right _ _ _ e }
given_last run (events.ClientGone session) e = record { given_so = refl; told = append_cancel_right _ _ _ e }
given_last run (events.LinkReady link) e = record { given_so = refl; told = append_cancel_right _ _ _ e }
given_last run (events.LinkBytes link bytes) e = record { given_so = refl; told = append_cancel_right _ _ _ e }
given_last run (events.LinkGone link) e = record { given_so = refl; told = append_cancel_right _ _ _ e }
given_last run (events.Clock now_ms) e = record { given_so = refl; told = append_cancel_right _ _ _ e }
given_last run (events.Observed round) e = record { given_so = refl; told = append_cancel_right _ _ _ e }
given_last run events.End e =
    let low = at_most_all run in
    let same = ap length e in
    let none = length-append (events_given (interactions_of run)) [] in
    let one = length-append (events_of run) (events.End ∷ []) in absurd (omega arith)

-- What is done outside, and what the words take

pub without_gave-append : (xs ys : List Interaction) → without_gave (xs ++ ys) ≡ without_gave xs ++ without_gave ys
without_gave-append [] ys = refl
without_gave-append (Gave event ∷ xs) ys = without_gave-append xs ys
without_gave-append (Took action ∷ xs) ys = ap (λ (zs : List Interaction). Took action ∷ zs) (without_gave-append xs ys)
without_gave-append (Told call ∷ xs) ys = ap (λ (zs : List Interaction). Told call ∷ zs) (without_gave-append xs ys)

-- what passes in a run, without the events, is what the run did outside
pub without_gave-run : (run : List Entry) → without_gave (interactions_of run) ≡ done_in run
without_gave-run [] = refl
without_gave-run (Came event ∷ run) =
    without_gave-append (interactions_of run) (given event)
    ∙ ap (λ (xs : List Interaction). without_gave (interactions_of run) ++ xs) (given_is_left_out event)
    ∙ append-nil (without_gave (interactions_of run)) ∙ without_gave-run run
without_gave-run (Heard session item ∷ run) = without_gave-run run
without_gave-run (Did session item ∷ run) =
    let outs = outs_of session item (record_of session run) in
    let calls = calls_of session item in
    let done = done_by session item (record_of session run) in
    without_gave-append (interactions_of run) done
    ∙ ap (λ (xs : List Interaction). without_gave (interactions_of run) ++ xs)
    (without_gave-append (map done_as outs) (map Told calls)
    ∙ ap (λ (xs : List Interaction). xs ++ without_gave (map Told calls)) (outs_are_left outs)
    ∙ ap (λ (xs : List Interaction). map done_as outs ++ xs) (calls_are_left calls))
    ∙ ap (λ (xs : List Interaction). xs ++ done) (without_gave-run run)
without_gave-run (Observes round ∷ run) =
    without_gave-append (interactions_of run) (Told (Observe round) ∷ [])
    ∙ ap (λ (xs : List Interaction). xs ++ Told (Observe round) ∷ []) (without_gave-run run)

-- what says nothing of events says the same of the list without them
pub flat_map-without_gave : {A : Type 0} (f : Interaction → List A) → ((event : Event) → f (Gave event) ≡ [])
    → (interactions : List Interaction) → flat_map f (without_gave interactions) ≡ flat_map f interactions
flat_map-without_gave f none [] = refl
flat_map-without_gave {A} f none (Gave event ∷ interactions) =
    flat_map-without_gave f none interactions ∙ ap (λ (xs : List A). xs ++ flat_map f interactions) (sym (none event))
flat_map-without_gave {A} f none (Took action ∷ interactions) =
    ap (λ (xs : List A). f (Took action) ++ xs) (flat_map-without_gave f none interactions)
flat_map-without_gave {A} f none (Told call ∷ interactions) =
    ap (λ (xs : List A). f (Told call) ++ xs) (flat_map-without_gave f none interactions)

pub events_told-append : (xs ys : List Interaction) → events_told (xs ++ ys) ≡ events_told xs ++ events_told ys
events_told-append [] ys = refl
events_told-append (Gave event ∷ xs) ys = events_told-append xs ys
events_told-append (Took action ∷ xs) ys = events_told-append xs ys
events_told-append (Told call ∷ xs) ys = ap (λ (zs : List PoolEvent). event_of call ∷ zs) (events_told-append xs ys)

pub pool_from-append : (words : PoolWords) (xs ys : List PoolEvent) → pool_from words (xs ++ ys) ≡ pool_from (pool_from words xs) ys
pool_from-append words [] ys = refl
pool_from-append words (event ∷ xs) ys = pool_from-append (pool_step words event) xs ys

-- What is told in a run is what the words take in it, but for the questions for them, by which they don't change.

abbrev pub without_routes : List PoolEvent → List PoolEvent
without_routes [] = []
without_routes (Route ∷ taken) = without_routes taken
without_routes (event ∷ taken) = event ∷ without_routes taken

without_routes-append : (xs ys : List PoolEvent) → without_routes (xs ++ ys) ≡ without_routes xs ++ without_routes ys
without_routes-append [] ys = refl
without_routes-append (Route ∷ xs) ys = without_routes-append xs ys
without_routes-append (Record server gtid ∷ xs) ys = ap (λ (zs : List PoolEvent). Record server gtid ∷ zs) (without_routes-append xs ys)
without_routes-append (ObserveEvent round ∷ xs) ys = ap (λ (zs : List PoolEvent). ObserveEvent round ∷ zs) (without_routes-append xs ys)

-- of what goes to a server they take nothing
sending_tells_none : (link : ℕ) (payloads : List (List ℕ))
    → events_told (map done_as (map (λ payload. Act (ToLink link (spelling 0 payload))) payloads) ++ []) ≡ []
sending_tells_none link [] = refl
sending_tells_none link (payload ∷ others) = sending_tells_none link others

module _ (session : ℕ) (run : List Entry) where
  abbrev IsTaken : Item → Type 0
  IsTaken item =
      pool_events_of run ++ without_routes (events_told (done_by session item (record_of session run))) ≡ pool_events_of (Did session item ∷ run)

  put_is_taken : (put : Put) → IsTaken (Puts put)
  put_is_taken (Records server gtid) = refl
  put_is_taken (Sends link purpose) =
      ap (λ (taken : List PoolEvent). pool_events_of run ++ without_routes taken) (sending_tells_none link (sent_for purpose))
      ∙ append-nil (pool_events_of run)
  put_is_taken Routes = append-nil (pool_events_of run)
  put_is_taken (Hands packets) = append-nil (pool_events_of run)
  put_is_taken (Tells number tell) = append-nil (pool_events_of run)
  put_is_taken (Opens link server login) = append-nil (pool_events_of run)
  put_is_taken (LogsInto link packets) = append-nil (pool_events_of run)
  put_is_taken (Forgets link id) = append-nil (pool_events_of run)
  put_is_taken (Drops link cause) = append-nil (pool_events_of run)
  put_is_taken (Closes reason) = append-nil (pool_events_of run)

  is_taken : (item : Item) → IsTaken item
  is_taken (Puts put) = put_is_taken put
  is_taken (Accepted number scramble reading) = append-nil (pool_events_of run)
  is_taken (TurnsAway told) = append-nil (pool_events_of run)
  is_taken (Began link server reading) = append-nil (pool_events_of run)
  is_taken (ClientBytes bytes) = append-nil (pool_events_of run)
  is_taken (LinkReady link) = append-nil (pool_events_of run)
  is_taken (LinkBytes link bytes) = append-nil (pool_events_of run)
  is_taken ClientGone = append-nil (pool_events_of run)
  is_taken (LinkLost link) = append-nil (pool_events_of run)
  is_taken (Ticks reading) = append-nil (pool_events_of run)
  is_taken (Routed words loads next found) = append-nil (pool_events_of run)
  is_taken (Comes link said) = append-nil (pool_events_of run)
  is_taken (Connects said) = append-nil (pool_events_of run)
  is_taken (Takes judged number) = append-nil (pool_events_of run)
  is_taken (Floods held) = append-nil (pool_events_of run)
  is_taken (Starves made number) = append-nil (pool_events_of run)

told_is_taken : (run : List Entry) → without_routes (events_told (interactions_of run)) ≡ pool_events_of run
told_is_taken [] = refl
told_is_taken (Came event ∷ run) =
    ap without_routes (events_told-append (interactions_of run) (given event)
    ∙ ap (λ (xs : List PoolEvent). events_told (interactions_of run) ++ xs) (given_tells_none event)
    ∙ append-nil (events_told (interactions_of run))) ∙ told_is_taken run
told_is_taken (Heard session item ∷ run) = told_is_taken run
told_is_taken (Did session item ∷ run) =
    let done = done_by session item (record_of session run) in
    ap without_routes (events_told-append (interactions_of run) done)
    ∙ without_routes-append (events_told (interactions_of run)) (events_told done)
    ∙ ap (λ (xs : List PoolEvent). xs ++ without_routes (events_told done)) (told_is_taken run) ∙ is_taken session run item
told_is_taken (Observes round ∷ run) =
    ap without_routes (events_told-append (interactions_of run) (Told (pool.Observe round) ∷ []))
    ∙ without_routes-append (events_told (interactions_of run)) (ObserveEvent round ∷ [])
    ∙ ap (λ (xs : List PoolEvent). xs ++ ObserveEvent round ∷ []) (told_is_taken run)

taken_alike : (words : PoolWords) (events : List PoolEvent) → pool_from words events ≡ pool_from words (without_routes events)
taken_alike words [] = refl
taken_alike words (Route ∷ events) = taken_alike words events
taken_alike words (Record server gtid ∷ events) = taken_alike (pool_step words (Record server gtid)) events
taken_alike words (ObserveEvent round ∷ events) = taken_alike (pool_step words (ObserveEvent round)) events

pub words_told : (words : PoolWords) (run : List Entry) → pool_from words (events_told (interactions_of run)) ≡ pool_from words (pool_events_of run)
words_told words run = taken_alike words (events_told (interactions_of run)) ∙ ap (pool_from words) (told_is_taken run)

-- they can take all that is told where they can take what they take
all_can : (domain : ℕ) (events : List PoolEvent) → AllByRecursion (CanStep domain) (without_routes events) → AllByRecursion (CanStep domain) events
all_can domain [] can = tt
all_can domain (Route ∷ events) can = (tt, all_can domain events can)
all_can domain (Record server gtid ∷ events) can = (can.0, all_can domain events can.1)
all_can domain (ObserveEvent round ∷ events) can = (tt, all_can domain events can.1)

pub told_can : (domain : ℕ) (run : List Entry) → AllByRecursion (CanStep domain) (pool_events_of run)
    → AllByRecursion (CanStep domain) (events_told (interactions_of run))
told_can domain run can =
    all_can domain (events_told (interactions_of run)) (subst (λ (events : List PoolEvent). AllByRecursion (CanStep domain) events) (sym (told_is_taken run)) can)

-- A front of what passes in a run is a front of what passes in one that heard no more events.

-- one list goes on behind the other
data Split {A : Type 0} (front more done rest : List A) : Type 0 where
  within : (between : List A) → front ≡ done ++ between → rest ≡ between ++ more → Split front more done rest
  beyond : (between : List A) → done ≡ front ++ between → more ≡ between ++ rest → Split front more done rest

split : {A : Type 0} (front more done rest : List A) → front ++ more ≡ done ++ rest → Split front more done rest
split [] more done rest same = beyond done refl same
split (x ∷ front) more [] rest same = within (x ∷ front) refl (sym same)
split (x ∷ front) more (y ∷ done) rest same =
    let first : x ≡ y = cc in
    let behind : front ++ more ≡ done ++ rest = cc in
    joined first (split front more done rest behind)
  where
    joined : x ≡ y → Split front more done rest → Split (x ∷ front) more (y ∷ done) rest
    joined first (within between is behind) = within between (ap (λ z. z ∷ front) first ∙ ap (λ zs. y ∷ zs) is) behind
    joined first (beyond between is behind) = beyond between (ap (λ z. z ∷ done) (sym first) ∙ ap (λ zs. x ∷ zs) is) behind

-- a run that rests, of which this was done, and whose events were all given
pub record IsCutAt (config : Config) (done : List Interaction) : Type 0 where
  pub run : List Entry
  pub legal : IsRun config run
  pub rests : next_entry config run ≡ None
  pub heard : events_of run ≡ events_given done
  pub rest : List Interaction
  pub parted : interactions_of run ≡ done ++ rest

-- an event is no step of a session, nor what one hears
next_no_event : {config : Config} {run : List Entry} {entry : Entry} (event : Event) → Next config run entry → entry ≡ Came event → ⊥
next_no_event event (goes_by h n) e = cc
next_no_event event (goes_answered h a) e = cc
next_no_event event (goes_hearing quiet none u) e = cc
next_no_event event (goes_observing quiet none u o) e = cc

none_of_none : {A : Type 0} (xs ys : List A) → [] ≡ xs ++ ys → xs ≡ []
none_of_none [] ys e = refl
none_of_none (x ∷ xs) ys e = absurd cc

-- all events of a run were given, so that none of them is the end
abbrev pub IsTold : List Entry → Type 0
IsTold run = events_given (interactions_of run) ≡ events_of run

module _ (config : Config) (done : List Interaction) where
  -- the events given are those of this run, or a run that rests before it has them
  abbrev Cuts : List Entry → Type 0
  Cuts run = (events_of run ≡ events_given done) ⊎ IsCutAt config done

  rests_at : (run : List Entry) (rest : List Interaction) → IsRun config run → next_entry config run ≡ None
      → interactions_of run ≡ done ++ rest → Cuts run → IsCutAt config done
  rests_at run rest legal rests parted (inl heard) =
      record { run = run; legal = legal; rests = rests; heard = heard; rest = rest; parted = parted }
  rests_at run rest legal rests parted (inr cut) = cut

  -- all that the run did before, and then a front of what follows, in which no event is
  all_heard : (run : List Entry) (between rest more : List Interaction) → IsTold run → done ≡ interactions_of run ++ between
      → more ≡ between ++ rest → events_given more ≡ [] → events_of run ≡ events_given done
  all_heard run between rest more told is behind none =
      let empty : events_given between ≡ [] =
      none_of_none (events_given between) (events_given rest) (sym none ∙ ap events_given behind ∙ events_given-append between rest) in
      sym (ap events_given is ∙ events_given-append (interactions_of run) between
      ∙ ap (λ (xs : List Event). events_given (interactions_of run) ++ xs) empty
      ∙ append-nil (events_given (interactions_of run)) ∙ told)

  -- the last event is behind what was done, or the last of it
  module _ (run : List Entry) (event : Event) (rest : List Interaction) (told : IsTold run)
      (before : (between : List Interaction) → interactions_of run ≡ done ++ between → IsCutAt config done) where
    by_beyond : (between : List Interaction) → done ≡ interactions_of run ++ between → Gave event ∷ [] ≡ between ++ rest
        → Cuts (Came event ∷ run)
    by_beyond [] is behind = inr (before [] (sym (append-nil (interactions_of run)) ∙ sym is ∙ sym (append-nil done)))
    by_beyond (x ∷ between) is behind =
        let first : Gave event ≡ x = cc in
        let empty : [] ≡ between ++ rest = cc in
        let none : between ≡ [] = none_of_none between rest empty in
        inl (sym (ap events_given (is ∙ ap (λ (zs : List Interaction). interactions_of run ++ x ∷ zs) none
        ∙ ap (λ (z : Interaction). interactions_of run ++ z ∷ []) (sym first))
        ∙ events_given-append (interactions_of run) (Gave event ∷ []) ∙ ap (λ (xs : List Event). xs ++ event ∷ []) told))

    by_event : Split (interactions_of run) (Gave event ∷ []) done rest → Cuts (Came event ∷ run)
    by_event (within between is behind) = inr (before between is)
    by_event (beyond between is behind) = by_beyond between is behind

  -- what a session did, or the words took in, is behind what was done, or in part
  by_handed : (run : List Entry) (handed rest : List Interaction) → IsTold run → events_given handed ≡ []
      → ((between : List Interaction) → interactions_of run ≡ done ++ between → Cuts run)
      → Split (interactions_of run) handed done rest → Cuts run
  by_handed run handed rest told none before (within between is behind) = before between is
  by_handed run handed rest told none before (beyond between is behind) = inl (all_heard run between rest handed told is behind none)

  cut : {run : List Entry} → IsRun config run → IsTold run → (rest : List Interaction) → interactions_of run ≡ done ++ rest → Cuts run
  cut starts told rest parted = inl (sym (ap events_given (none_of_none done rest parted)))
  cut (came {run} {event} legal rests) told rest parted =
      let last : Given run event = given_last run event (sym (one_event run event) ∙ told) in
      by_event run event rest last.told (λ between is. rests_at run between legal rests is (cut legal last.told between is))
      (split (interactions_of run) (Gave event ∷ []) done rest
      (sym (ap (λ (xs : List Interaction). interactions_of run ++ xs) last.given_so) ∙ parted))
  cut (goes_on {run} {entry = Came event} legal step) told rest parted =
      absurd (next_no_event event (of_next_entry config run (Came event) step) refl)
  cut (goes_on {run} {entry = Heard session item} legal step) told rest parted = cut legal told rest parted
  cut (goes_on {run} {entry = Did session item} legal step) told rest parted =
      let handed = done_by session item (record_of session run) in
      let told_before : IsTold run = sym (no_more session item run) ∙ told in
      by_handed run handed rest told_before (done_gives_none session item (record_of session run)) (λ between is. cut legal told_before between is)
      (split (interactions_of run) handed done rest parted)
  cut (goes_on {run} {entry = Observes round} legal step) told rest parted =
      let told_before : IsTold run = sym (no_more_observed round run) ∙ told in
      by_handed run (Told (Observe round) ∷ []) rest told_before refl (λ between is. cut legal told_before between is)
      (split (interactions_of run) (Told (Observe round) ∷ []) done rest parted)
  cut (starves {run} {session} {number} {made} legal h once can its) told rest parted =
      cut legal (sym (no_more session (Starves made number) run) ∙ told) rest (sym (append-nil (interactions_of run)) ∙ parted)

  -- what was done is a front of what passes in a run over just the events that were given
  pub cut_at : (run : List Entry) (rest : List Interaction) → IsRun config run → next_entry config run ≡ None
      → IsTold run → interactions_of run ≡ done ++ rest → IsCutAt config done
  cut_at run rest legal rests told parted = rests_at run rest legal rests parted (cut legal told rest parted)
