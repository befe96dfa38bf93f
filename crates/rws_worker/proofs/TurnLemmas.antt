-- In a session's turn.
use Rattle.std.proofs.Common.{◌≡◌, ℕ, ◌+◌, ◌≤◌, ⊎_elim, Bool, true, false, not, List, [], ◌∷◌, ◌++◌, map, refl, sym, ap, subst, ◌∙◌, Option, Some, None, option_map, append_assoc, arith}
use Rattle.std.proofs.lemmas.Bool.{cases_eq, eq-eqb, ne_eqb, and_parts}
use Rattle.std.proofs.lemmas.List.{append-nil, append_cancel_left, map-append}
use Rattle.std.specs.BTreeMap.{BTreeMap, get}
use Rattle.std.specs.Ordering.{nat_cmp}
use Rattle.rws_board.specs.declared.event.Event.{Event}
use Rattle.rws_board.specs.declared.interaction.Interaction.{Interaction}
use Rattle.rws_board.specs.declared.interaction.Interaction.TheVariants.{Told}
use Rattle.rws_config.specs.declared.config.Config.{Config}
use Rattle.rws_record.specs.declared.output.Output.{Output}
use Rattle.rws_record.specs.Item.{Item, Put}
use Rattle.rws_record.specs.Item.Item.{Accepted, TurnsAway, Began, ClientBytes, LinkReady, LinkBytes, ClientGone, LinkLost, Ticks, Routed, Comes, Connects, Takes, Floods, Puts, Starves}
use Rattle.rws_record.specs.Item.Put.{Hands, Tells, Records, Routes, Opens, LogsInto, Sends, Forgets, Drops, Closes}
use Rattle.rws_record.specs.Values.{asking, opens, links, contains, is_over, is_starved}
use Rattle.rws_record.specs.Rules.{due, next, next_by, owed, unless_asking, ◌or◌}
use Rattle.rws_record.specs.Outputs.{calls_of, done_as, outputs_of, outs_of}
use Rattle.rws_record.specs.Record.{CanBeMade, GoesOn, want_number}
use Rattle.rws_record.specs.Record.GoesOn.{stays, then as goes}
use Rattle.rws_record.specs.Run.{Entry, IsRun, answer_for, answer_of, answering, next_entry, record_of, is_live, owner, observing, unobserved, untold, hearer, step_of, hearing}
use Rattle.rws_record.specs.Run.Entry.{Did}
use Rattle.rws_record.specs.Run.IsRun.{goes_on, starves}
use Rattle.rws_record.proofs.OpeningLemmas.{goes_plainly, is_plain, plain_unless_answered, step_opens_none}
use Rattle.rws_record.proofs.StepLemmas.{goes_unasking, of_next}
use Rattle.rws_session.specs.Kept.{Kept, StandsOr}
use Rattle.rws_worker.specs.declared.ahead.Ahead.{Ahead}
use Rattle.rws_worker.specs.declared.ahead.Ahead.TheVariants.{Going}
use Rattle.rws_worker.specs.declared.asker.Asker.TheVariants.{Nobody}
use Rattle.rws_worker.specs.declared.tally.Tally.{Tally}
use Rattle.rws_worker.specs.declared.worker.Worker.{Worker}
use Rattle.rws_worker.specs.Stepping.{from_of, asker_in, done_ahead, is_asking, is_awaiting}
use Rattle.rws_worker.specs.Standing.{Advances, AreOpen, IsAsking, IsBehind, SeatStands, ToTell, interactions_of, holds}
use Rattle.rws_worker.specs.InTurn.{InTurn, asks_outside}
use Rattle.rws_worker.specs.Tallies.{seven, tally_but, tally_of}
use Rattle.rws_worker.specs.Telling.{Changes}
use Rattle.rws_worker.proofs.RecordLemmas.{did_apart, did_here, did_owners, did_last, none_some, some_same, still_has}
use Rattle.rws_worker.proofs.StepsLemmas.{asker_for, going_does}
use Rattle.rws_worker.proofs.TallyLemmas.{seven_same, tally_kept, tally_without}
use Rattle.rws_worker.proofs.WantLemmas.{Finished}

-- How a run goes on

-- what comes where no session goes on
abbrev pub last_entry : Config → List Entry → Option Entry
last_entry config run = hearing (untold config run) or observing (unobserved config run)

-- by a step of the session that heard of the last event
pub step_at : (config : Config) (session : ℕ) (run : List Entry) (item : Item) → hearer run ≡ Some session
    → next config (record_of session run) ≡ Some item → next_entry config run ≡ Some (Did session item)
step_at config session run item hears step =
    ap (λ (o : Option ℕ). step_of config o run or (answer_of config (hearer run) run or last_entry config run)) hears
    ∙ ap (λ (o : Option Item). option_map {U = Entry} (λ (i : Item). Did session i) o or (answer_of config (hearer run) run or last_entry config run)) step

-- none of its own, where it rests or asks
pub quiet_at : (config : Config) (session : ℕ) (run : List Entry) → hearer run ≡ Some session → next config (record_of session run) ≡ None
    → step_of config (hearer run) run ≡ None
quiet_at config session run hears none =
    ap (λ (o : Option ℕ). step_of config o run) hears ∙ ap (λ (o : Option Item). option_map {U = Entry} (λ (i : Item). Did session i) o) none

-- nor is it answered, where it doesn't ask
pub unasked_at : (config : Config) (session : ℕ) (run : List Entry) → hearer run ≡ Some session → asking (record_of session run) ≡ false
    → answer_of config (hearer run) run ≡ None
unasked_at config session run hears none =
    ap (λ (o : Option ℕ). answer_of config o run) hears ∙ ap (λ (asks : Bool). answering config asks session run) none

pub asks_quietly : (config : Config) (past : List Item) → asking past ≡ true → next config past ≡ None
asks_quietly config past asks = ap (λ (a : Bool). unless_asking a (next_by (owed config past) (is_over past) (due config past))) asks

-- by the worker's answer
pub answer_at : (config : Config) (session : ℕ) (run : List Entry) → hearer run ≡ Some session
    → asking (record_of session run) ≡ true → next_entry config run ≡ Some (Did session (answer_for config session run))
answer_at config session run hears asks =
    ap (λ (o : Option Entry). o or (answer_of config (hearer run) run or last_entry config run))
    (quiet_at config session run hears (asks_quietly config (record_of session run) asks))
    ∙ ap (λ (o : Option ℕ). answer_of config o run or last_entry config run) hears
    ∙ ap (λ (a : Bool). answering config a session run or last_entry config run) asks

-- a session's seat stands on where its record stays
pub seat_kept : (config : Config) (session : ℕ) (asks : Bool) (o : Option Kept) (run now : List Entry) → record_of session now ≡ record_of session run
    → SeatStands config session asks o run → SeatStands config session asks o now
seat_kept config session asks (Some kept) run now same s = record {
  live = ap is_live same ∙ s.live;
  stands = subst (λ (past : List Item). StandsOr asks config kept past) (sym same) s.stands;
  numbered = s.numbered;
}
seat_kept config session asks None run now same s = ap is_live same ∙ s

-- what is still to be told is told to sessions above the one in turn
pub open_kept : (run now : List Entry) (number : ℕ) (list : List ℕ) → ((other : ℕ) → number ≤ other → record_of other now ≡ record_of other run)
    → AreOpen run number list → AreOpen now number list
open_kept run now number [] same none = λ other above. ap is_live (same other above) ∙ none other above
open_kept run now number (first ∷ others) same are =
    let above = are.0 in (
      are.0,
      ap is_live (same first are.0) ∙ are.1,
      λ other low high. ap is_live (same other low) ∙ are.2 other low high,
      open_kept run now (first + 1) others (λ other more. same other (omega arith)) are.3,
    )

pub still_tells : (telling : Option ℕ) (reading session : ℕ) (run now : List Entry) (list : List (ℕ × Item)) → IsBehind telling session
    → ((other : ℕ) → (session ≡ other → ⊥) → record_of other now ≡ record_of other run)
    → ToTell telling reading run list → ToTell telling reading now list
still_tells None reading session run now list behind apart none = none
still_tells (Some number) reading session run now list behind apart tells = record {
  sessions = tells.sessions;
  are_open = open_kept run now number tells.sessions (λ other above. apart other (λ same. omega arith)) tells.are_open;
  are = tells.are;
}

has_at : (link : ℕ) {one other : List Item} → one ≡ other → contains link (links one) ≡ true → contains link (links other) ≡ true
has_at link same has = subst (λ (past : List Item). contains link (links past) ≡ true) same has

pub more_done : (now done : List Interaction) (outs more : List Output) (calls : List Interaction) → now ≡ done ++ (map done_as outs ++ [])
    → now ++ (map done_as more ++ calls) ≡ done ++ (map done_as (outs ++ more) ++ calls)
more_done now done outs more calls e =
    ap (λ (xs : List Interaction). xs ++ (map done_as more ++ calls)) (e ∙ ap (λ (xs : List Interaction). done ++ xs) (append-nil (map done_as outs)))
    ∙ append_assoc done (map done_as outs) (map done_as more ++ calls)
    ∙ ap (λ (xs : List Interaction). done ++ xs)
    (sym (append_assoc (map done_as outs) (map done_as more) calls) ∙ ap (λ (xs : List Interaction). xs ++ calls) (sym (map-append done_as outs more)))

-- Which items ask outside

-- an item asks, or says nothing of it
pub data AsksOr (session : ℕ) (item : Item) (past : List Item) : Type 0 where
  routes : item ≡ Puts Routes → AsksOr session item past
  plainly : asking (item ∷ past) ≡ false → calls_of session item ≡ [] → AsksOr session item past

put_asks : (session : ℕ) (put : Put) (past : List Item) → asking past ≡ false → AsksOr session (Puts put) past
put_asks session Routes past none = routes refl
put_asks session (Hands packets) past none = plainly none refl
put_asks session (Tells number tell) past none = plainly none refl
put_asks session (Records server gtid) past none = plainly none refl
put_asks session (Opens link server login) past none = plainly none refl
put_asks session (LogsInto link packets) past none = plainly none refl
put_asks session (Sends link purpose) past none = plainly none refl
put_asks session (Forgets link id) past none = plainly none refl
put_asks session (Drops link cause) past none = plainly none refl
put_asks session (Closes reason) past none = plainly none refl

pub item_asks : (session : ℕ) (item : Item) (past : List Item) → asking past ≡ false → AsksOr session item past
item_asks session (Puts put) past none = put_asks session put past none
item_asks session (Accepted number scramble reading) past none = plainly none refl
item_asks session (TurnsAway told) past none = plainly none refl
item_asks session (Began link server reading) past none = plainly none refl
item_asks session (ClientBytes bytes) past none = plainly none refl
item_asks session (LinkReady link) past none = plainly none refl
item_asks session (LinkBytes link bytes) past none = plainly none refl
item_asks session ClientGone past none = plainly none refl
item_asks session (LinkLost link) past none = plainly none refl
item_asks session (Ticks reading) past none = plainly none refl
item_asks session (Routed words loads next found) past none = plainly refl refl
item_asks session (Comes link said) past none = plainly none refl
item_asks session (Connects said) past none = plainly none refl
item_asks session (Takes judged number) past none = plainly none refl
item_asks session (Floods held) past none = plainly none refl
item_asks session (Starves made number) past none = plainly refl refl

pub asks_as : (session : ℕ) (item : Item) (past : List Item) → AsksOr session item past
    → map Told (calls_of session item) ≡ asks_outside (asking (item ∷ past)) session
asks_as session item past (routes is) =
    subst (λ (i : Item). map Told (calls_of session i) ≡ asks_outside (asking (i ∷ past)) session) (sym is) refl
asks_as session item past (plainly none calls) =
    ap (map Told) calls ∙ ap (λ (a : Bool). asks_outside a session) (sym none)

module _ {config : Config} {done : List Interaction} {events : List Event} {session : ℕ} {worker : Worker} {placed : Bool} {now : List Entry}
    {outs : List Output} (t : InTurn config done events session worker placed now outs) where
  -- One item more, which opens no link
  pub further : (item : Item) → opens item ≡ None → asking (record_of session now) ≡ false → IsRun config (Did session item ∷ now)
      → InTurn config done events session worker placed (Did session item ∷ now) (outs ++ outs_of session item (record_of session now))
  further item none unasking legal =
      let past : List Item = record_of session now in
      let here : record_of session (Did session item ∷ now) ≡ item ∷ past = did_here session item now in
      record {
        legal = legal;
        hears = t.hears;
        told = still_tells (from_of worker.telling) worker.now_ms session now (Did session item ∷ now) (untold config now) t.behind
            (λ other apart. did_apart session other item now apart) t.told;
        behind = t.behind;
        observed = t.observed;
        live = subst (λ (p : List Item). is_live p ≡ not (is_over p)) (sym here) refl;
        others = λ other apart. seat_kept config other false (get nat_cmp worker.sessions other) now (Did session item ∷ now)
            (did_apart session other item now apart) (t.others other apart);
        fetched = t.fetched;
        owned = λ link its e. did_owners session item now link none ∙ t.owned link its e;
        owns = λ link its apart o h. t.owns link its apart (sym (did_owners session item now link none) ∙ o)
            (ap (holds link) (sym (did_apart session its item now apart)) ∙ h);
        owns_here = λ p link o has. t.owns_here p link (sym (did_owners session item now link none) ∙ o)
            (still_has item past link none (has_at link here has));
        last = t.last ∙ sym (did_last session item now none);
        numbers = t.numbers;
        begun = t.begun;
        clock = t.clock;
        tallied = t.tallied ∙ seven_same (λ server. tally_but session now server) (λ server. tally_but session (Did session item ∷ now) server)
            (λ server. sym (tally_kept session now t.legal (Did session item ∷ now) refl (λ other apart. did_apart session other item now apart) server));
        heard = t.heard;
        did = more_done (interactions_of now) done outs (outs_of session item past) (map Told (calls_of session item))
            (t.did ∙ ap (λ (a : Bool). done ++ (map done_as outs ++ asks_outside a session)) unasking)
            ∙ ap (λ (xs : List Interaction). done ++ (map done_as (outs ++ outs_of session item past) ++ xs))
            (asks_as session item past (item_asks session item past unasking)
            ∙ ap (λ (p : List Item). asks_outside (asking p) session) (sym here));
        bare = t.bare;
        unspent = t.unspent;
      }

  -- The session's place may change
  pub moved : (sessions : BTreeMap ℕ Kept) {kept : Option Kept} → Changes worker.sessions sessions session kept
      → InTurn config done events session (record worker { sessions = sessions }) placed now outs
  moved sessions changes = record {
    legal = t.legal;
    hears = t.hears;
    told = t.told;
    behind = t.behind;
    observed = t.observed;
    live = t.live;
    others = λ other apart. subst (λ (o : Option Kept). SeatStands config other false o now) (sym (changes.apart other apart)) (t.others other apart);
    fetched = λ other kept apart e. t.fetched other kept apart (sym (changes.apart other apart) ∙ e);
    owned = t.owned;
    owns = t.owns;
    owns_here = t.owns_here;
    last = t.last;
    numbers = t.numbers;
    begun = t.begun;
    clock = t.clock;
    tallied = t.tallied;
    heard = t.heard;
    did = t.did;
    bare = record {
      nothing = t.bare.nothing;
      unbroken = t.bare.unbroken;
      unclosed = t.bare.unclosed;
      unobserved = t.bare.unobserved;
      unasked = t.bare.unasked;
    };
    unspent = t.unspent;
  }

  -- It is over

  pub forgets : (sessions : BTreeMap ℕ Kept) (ahead : Ahead) (broken closing : Option ℕ) → is_over (record_of session now) ≡ true
      → next config (record_of session now) ≡ None → asking (record_of session now) ≡ false → Changes worker.sessions sessions session None
      → done_ahead (record worker { sessions = sessions; ahead = ahead; broken = broken; closing = closing }) ≡ map done_as outs
      → Advances config done events (record worker { sessions = sessions; ahead = ahead; broken = broken; closing = closing })
  forgets sessions ahead broken closing over rests unasking changes acts =
      let gone : is_live (record_of session now) ≡ false = t.live ∙ ap not over in
      let nobody : (s : ℕ) → is_asking s worker.asker ≡ false = λ s. ap (is_asking s) t.bare.unasked in
      record {
        now = now;
        stands = record {
          legal = t.legal;
          steps_none = quiet_at config session now t.hears rests;
          answers_none = λ _. unasked_at config session now t.hears unasking;
          asks = λ s e. let none : None ≡ Some s = sym (ap asker_in t.bare.unasked) ∙ e in absurd cc;
          awaits = λ e. let none : false ≡ true = sym (ap is_awaiting t.bare.unasked) ∙ e in absurd cc;
          told = t.told;
          observed = t.observed;
          seats = λ n. subst (λ (asks : Bool). SeatStands config n asks (get nat_cmp sessions n) now) (sym (nobody n)) (⊎_elim
              (λ (here : session ≡ n). subst (λ (m : ℕ). SeatStands config m false (get nat_cmp sessions m) now) here
              (subst (λ (o : Option Kept). SeatStands config session false o now) (sym changes.here) gone))
              (λ (apart : session ≡ n → ⊥). subst (λ (o : Option Kept). SeatStands config n false o now) (sym (changes.apart n apart)) (t.others n apart))
              (cases_eq session n));
          fetched = λ n k e g. ⊎_elim
              (λ (here : session ≡ n). absurd (none_some k (sym (subst (λ (m : ℕ). get nat_cmp sessions m ≡ None) here changes.here) ∙ e)))
              (λ (apart : session ≡ n → ⊥). t.fetched n k apart (sym (changes.apart n apart) ∙ e))
              (cases_eq session n);
          owned = t.owned;
          owns = λ link its o h. ⊎_elim
              (λ (here : session ≡ its).
              let live : is_live (record_of its now) ≡ true = (and_parts (is_live (record_of its now)) (contains link (links (record_of its now))) h).0 in
              let none : is_live (record_of its now) ≡ false = subst (λ (m : ℕ). is_live (record_of m now) ≡ false) here gone in
              absurd cc)
              (λ (apart : session ≡ its → ⊥). t.owns link its apart o h)
              (cases_eq session its);
          links = t.last;
          numbers = t.numbers;
          begun = t.begun;
          clock = t.clock;
          tallied = t.tallied ∙ seven_same (λ server. tally_but session now server) (λ server. tally_of now server)
              (λ server. sym (tally_without session now t.legal gone server));
          unspent = t.unspent;
        };
        heard = t.heard;
        did = t.did ∙ ap (λ (a : Bool). done ++ (map done_as outs ++ asks_outside a session)) unasking
            ∙ ap (λ (xs : List Interaction). done ++ xs) (append-nil (map done_as outs) ∙ sym acts);
        answered = ap is_awaiting t.bare.unasked;
      }

-- It goes on, and rests or asks

stands_quietly : (asks : Bool) (config : Config) (kept : Kept) (past : List Item) → StandsOr asks config kept past
    → (next config past ≡ None) × (asking past ≡ asks)
stands_quietly true config kept past s = (asks_quietly config past s.asks, s.asks)
stands_quietly false config kept past s = (s.rests, s.unasking)

asks_here : (asks : Bool) (session : ℕ) → is_asking session (asker_for asks session) ≡ asks
asks_here true session = eq-eqb session session refl
asks_here false session = refl

asks_apart : (asks : Bool) (session other : ℕ) → (session ≡ other → ⊥) → is_asking other (asker_for asks session) ≡ false
asks_apart true session other apart = ne_eqb session other apart
asks_apart false session other apart = refl

asker_is : (asks : Bool) (session other : ℕ) → asker_in (asker_for asks session) ≡ Some other → (asks ≡ true) × (session ≡ other)
asker_is true session other e = (refl, some_same session other e)
asker_is false session other e = absurd cc

nobody_asks : (asks : Bool) (session : ℕ) → asker_for asks session ≡ Nobody → asks ≡ false
nobody_asks true session e = absurd cc
nobody_asks false session e = refl

none_awaits : (asks : Bool) (session : ℕ) → is_awaiting (asker_for asks session) ≡ false
none_awaits true session = refl
none_awaits false session = refl

module _ {config : Config} {done : List Interaction} {events : List Event} {session : ℕ} {worker : Worker} {now : List Entry}
    {outs : List Output} (t : InTurn config done events session worker true now outs) where
  pub goes_so : (asks : Bool) (kept : Kept) (tallies : List Tally) → kept.outs ≡ outs → StandsOr asks config kept (record_of session now) → kept.number ≡ session
      → is_over (record_of session now) ≡ false → is_starved (record_of session now) ≡ false → get nat_cmp worker.sessions session ≡ Some kept
      → tallies ≡ seven (λ server. tally_of now server)
      → Advances config done events (record worker { ahead = Going session; tallies = tallies; asker = asker_for asks session })
  goes_so asks kept tallies outs_are stands numbered unended fed has counted =
      let quiet = stands_quietly asks config kept (record_of session now) stands in
      record {
        now = now;
        stands = record {
          legal = t.legal;
          steps_none = quiet_at config session now t.hears quiet.0;
          answers_none = λ e. unasked_at config session now t.hears (quiet.1 ∙ nobody_asks asks session e);
          asks = λ s e. let its = asker_is asks session s e in
              subst (λ (n : ℕ). IsAsking now (record worker { ahead = Going session; tallies = tallies; asker = asker_for asks session }) n) its.1 (record {
                hears = t.hears;
                live = t.live ∙ ap not unended;
                fed = fed;
                behind = t.behind;
                unbroken = t.bare.unbroken;
                unclosed = t.bare.unclosed;
                linkless = refl;
              });
          awaits = λ e. let none : false ≡ true = sym (none_awaits asks session) ∙ e in absurd cc;
          told = t.told;
          observed = t.observed;
          seats = λ n. ⊎_elim
              (λ (here : session ≡ n). subst (λ (m : ℕ). SeatStands config m (is_asking m (asker_for asks session)) (get nat_cmp worker.sessions m) now) here
              (subst (λ (a : Bool). SeatStands config session a (get nat_cmp worker.sessions session) now) (sym (asks_here asks session))
              (subst (λ (o : Option Kept). SeatStands config session asks o now) (sym has) (record {
                live = t.live ∙ ap not unended;
                stands = stands;
                numbered = numbered;
              }))))
              (λ (apart : session ≡ n → ⊥).
              subst (λ (a : Bool). SeatStands config n a (get nat_cmp worker.sessions n) now) (sym (asks_apart asks session n apart)) (t.others n apart))
              (cases_eq session n);
          fetched = λ n k e g. ⊎_elim
              (λ (here : session ≡ n). let going = eq-eqb session n here in let clash : true ≡ false = sym going ∙ g in absurd cc)
              (λ (apart : session ≡ n → ⊥). t.fetched n k apart e)
              (cases_eq session n);
          owned = t.owned;
          owns = λ link its o h. ⊎_elim
              (λ (here : session ≡ its).
              subst (λ (m : ℕ). get nat_cmp worker.owners link ≡ Some m) here
              (t.owns_here refl link (subst (λ (m : ℕ). owner link now ≡ Some m) (sym here) o)
              (subst (λ (m : ℕ). contains link (links (record_of m now)) ≡ true) (sym here)
              (and_parts (is_live (record_of its now)) (contains link (links (record_of its now))) h).1)))
              (λ (apart : session ≡ its → ⊥). t.owns link its apart o h)
              (cases_eq session its);
          links = t.last;
          numbers = t.numbers;
          begun = t.begun;
          clock = t.clock;
          tallied = counted;
          unspent = t.unspent;
        };
        heard = t.heard;
        did = t.did ∙ ap (λ (a : Bool). done ++ (map done_as outs ++ asks_outside a session)) quiet.1
            ∙ ap (λ (xs : List Output). done ++ (map done_as xs ++ asks_outside asks session)) (sym outs_are)
            ∙ ap (λ (xs : List Interaction). done ++ xs)
            (sym (going_does (record worker { ahead = Going session; tallies = tallies; asker = asker_for asks session }) session asks kept refl has
            t.bare.unbroken t.bare.unclosed t.bare.unobserved refl));
        answered = none_awaits asks session;
      }

-- Some steps

pub record Further (config : Config) (done : List Interaction) (events : List Event) (session : ℕ) (worker : Worker) (placed : Bool)
    (start : List Item) (outs : List Output) (reached : List Item) : Type 0 where
  pub run : List Entry
  pub more : List Output
  pub turn : InTurn config done events session worker placed run (outs ++ more)
  pub here : record_of session run ≡ reached
  pub given : outputs_of session reached ≡ outputs_of session start ++ more

goes_further : {config : Config} {done : List Interaction} {events : List Event} {session : ℕ} {worker : Worker} {placed : Bool} {now : List Entry}
    {outs : List Output} {start reached : List Item} → InTurn config done events session worker placed now outs
    → record_of session now ≡ start → is_plain (owed config start) ≡ true → GoesOn config start reached
    → Further config done events session worker placed start outs reached
goes_further {config} {done} {events} {session} {worker} {placed} {now} {outs} {start} t at plain stays = record {
  run = now;
  more = [];
  turn = subst (λ (xs : List Output). InTurn config done events session worker placed now xs) (sym (append-nil outs)) t;
  here = at;
  given = sym (append-nil (outputs_of session start));
}
goes_further {config} {done} {events} {session} {worker} {placed} {now} {outs} {start} t at plain (goes {now = mid} {item = item} went step) =
    let f = goes_further t at plain went in
    let none : opens item ≡ None = step_opens_none (of_next config mid item step) (goes_plainly went plain) in
    let legal : IsRun config (Did session item ∷ f.run) =
    goes_on f.turn.legal (step_at config session f.run item f.turn.hears (ap (next config) f.here ∙ step)) in
    record {
      run = Did session item ∷ f.run;
      more = f.more ++ outs_of session item mid;
      turn = subst (λ (xs : List Output). InTurn config done events session worker placed (Did session item ∷ f.run) xs)
          (ap (λ (past : List Item). (outs ++ f.more) ++ outs_of session item past) f.here ∙ append_assoc outs f.more (outs_of session item mid))
          (further f.turn item none (ap asking f.here ∙ goes_unasking config mid item step) legal);
      here = did_here session item f.run ∙ ap (λ (past : List Item). item ∷ past) f.here;
      given = ap (λ (xs : List Output). xs ++ outs_of session item mid) f.given
          ∙ append_assoc (outputs_of session start) f.more (outs_of session item mid);
    }

-- the same, where it is known what they gave out
pub record Reaches (config : Config) (done : List Interaction) (events : List Event) (session : ℕ) (worker : Worker) (placed : Bool)
    (outs : List Output) (reached : List Item) : Type 0 where
  pub run : List Entry
  pub turn : InTurn config done events session worker placed run outs
  pub here : record_of session run ≡ reached

pub reaches : {config : Config} {done : List Interaction} {events : List Event} {session : ℕ} {worker : Worker} {placed : Bool} {now : List Entry}
    {outs : List Output} {start reached : List Item} → InTurn config done events session worker placed now outs
    → record_of session now ≡ start → is_plain (owed config start) ≡ true → GoesOn config start reached
    → (more : List Output) → outputs_of session reached ≡ outputs_of session start ++ more
    → Reaches config done events session worker placed (outs ++ more) reached
reaches {config} {done} {events} {session} {worker} {placed} {now} {outs} {start} t at plain went more did =
    let f = goes_further t at plain went in
    let exactly : f.more ≡ more = append_cancel_left (outputs_of session start) f.more more (sym f.given ∙ did) in
    record {
      run = f.run;
      turn = subst (λ (xs : List Output). InTurn config done events session worker placed f.run (outs ++ xs)) exactly f.turn;
      here = f.here;
    }

-- Memory was wanting, and it ends

pub ends_starved : {config : Config} {done : List Interaction} {events : List Event} {session : ℕ} {worker : Worker} {placed : Bool} {now : List Entry}
    {outs : List Output} {past : List Item} {made : Bool} {number : ℕ} → InTurn config done events session worker placed now outs
    → record_of session now ≡ Starves made number ∷ past → (more : List Output)
    → (f : Finished config session (Starves made number ∷ past) more)
    → Reaches config done events session worker placed (outs ++ more) f.reached
ends_starved {config} {past = past} {made} {number} t at more f =
    reaches t at (plain_unless_answered config (Starves made number ∷ past) refl) f.went_on more f.given

pub wants : {config : Config} {done : List Interaction} {events : List Event} {session : ℕ} {worker : Worker} {placed : Bool} {now : List Entry}
    {outs : List Output} {past : List Item} → InTurn config done events session worker placed now outs → record_of session now ≡ past
    → (made : Bool) → is_starved past ≡ false → asking past ≡ false → CanBeMade made past → (more : List Output)
    → (f : Finished config session (Starves made (want_number config past) ∷ past) more)
    → Reaches config done events session worker placed (outs ++ more) f.reached
wants {config} {done} {events} {session} {worker} {placed} {now} {outs} {past} t at made fed unasking can more f =
    let item : Item = Starves made (want_number config past) in
    let legal : IsRun config (Did session item ∷ now) =
    starves t.legal t.hears (ap is_starved at ∙ fed) (subst (λ (p : List Item). CanBeMade made p) (sym at) can)
    (ap (want_number config) (sym at)) in
    let u : InTurn config done events session worker placed (Did session item ∷ now) outs =
    subst (λ (xs : List Output). InTurn config done events session worker placed (Did session item ∷ now) xs) (append-nil outs)
    (further t item refl (ap asking at ∙ unasking) legal) in
    ends_starved u (did_here session item now ∙ ap (λ (p : List Item). item ∷ p) at) more f
