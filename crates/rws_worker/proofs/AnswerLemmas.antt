-- A session that asked is answered.
use Rattle.std.proofs.Common.{◌≡◌, ℕ, ◌+◌, ◌-◌, ◌<◌, ◌^◌, ⊎_elim, min, Bool, true, false, not, List, [], ◌∷◌, ◌++◌, map, refl, sym, ap, subst, ◌∙◌, Option, Some, None, arith, if◌then◌else◌}
use Rattle.std.proofs.lemmas.Bool.{cases_eq, eq-eqb, ne_eqb}
use Rattle.std.specs.BTreeMap.{BTreeMap, get}
use Rattle.std.specs.Ordering.{nat_cmp}
use Rattle.rws_board.specs.declared.action.Action.TheVariants.{Open}
use Rattle.rws_board.specs.declared.event.Event.{Event}
use Rattle.rws_board.specs.declared.interaction.Interaction.{Interaction}
use Rattle.rws_native.specs.declared.login.Login.{Login}
use Rattle.rws_pool.specs.declared.words.PoolWords.{PoolWords}
use Rattle.rws_select.specs.declared.selector.Load.{Load}
use Rattle.rws_route.specs.declared.destination.Target.{Target}
use Rattle.rws_route.specs.declared.destination.Target.TheVariants.{Primary, Replica, NoPrimary as Nowhere}
use Rattle.rws_config.specs.declared.config.Config.{Config}
use Rattle.rws_record.specs.declared.output.Output.{Output}
use Rattle.rws_record.specs.declared.output.Output.TheVariants.{Act}
use Rattle.rws_record.specs.Item.{Item, Put}
use Rattle.rws_record.specs.Item.Item.{Puts, Starves}
use Rattle.rws_record.specs.Item.Put.{Opens as Opened}
use Rattle.rws_record.specs.Outputs.{done_as, done_for as done_by}
use Rattle.rws_record.specs.Values.{asking, contains, is_over, links, opens}
use Rattle.rws_record.specs.Rules.{after_route, found_in, next}
use Rattle.rws_record.specs.Record.{IsInput, IsRecord, want_number}
use Rattle.rws_record.specs.Record.IsRecord.{steps, answers as answers_it, hears as hears_it, starves as starves_it}
use Rattle.rws_record.specs.Run.{Entry, IsRun, answer_for, events_of, is_live, last_link, loads_of, owner, record_of, untold, words_of}
use Rattle.rws_record.specs.Run.Entry.{Did}
use Rattle.rws_record.specs.Run.IsRun.{goes_on, starves}
use Rattle.rws_record.proofs.OpeningLemmas.{asks_open, is_plain, plain_unless_answered}
use Rattle.rws_session.specs.State.{farewell_packet, numbered}
use Rattle.rws_session.specs.Kept.{Is, Kept, Lasting, lasting_of}
use Rattle.rws_session.specs.Turning.{Answers, answer_to}
use Rattle.rws_worker.specs.declared.asker.Asker.TheVariants.{Nobody, Awaits}
use Rattle.rws_worker.specs.declared.tally.Tally.{Tally}
use Rattle.rws_worker.specs.declared.worker.Worker.{Worker}
use Rattle.rws_worker.specs.declared.worker.telling.TurnEnd.{TurnEnd}
use Rattle.rws_worker.specs.declared.worker.telling.TurnEnd.TheVariants as ends
use Rattle.rws_worker.specs.Stepping.{from_of, asker_in, is_asking, is_awaiting, is_going}
use Rattle.rws_worker.specs.Standing.{Advances, IsAsking, CanAnswer, IsSeated, SeatStands, WorkerStands, holds, interactions_of}
use Rattle.rws_worker.specs.InTurn.{InTurn, asks_outside}
use Rattle.rws_worker.specs.Tallies.{plus, seven, tally_but, tally_in, tally_of}
use Rattle.rws_worker.specs.Telling.{Changes, CountsOut, Finishes, GoesOnSo, Responds, RespondsNone}
use Rattle.rws_worker.proofs.EndLemmas.{IsOver, breaks_it, ends_at, lasting_is, settled}
use Rattle.rws_worker.proofs.MapLemmas.{then_changes}
use Rattle.rws_worker.proofs.RecordLemmas.{did_apart, did_here, did_last, did_owners, had_it, none_some, some_same, still_has, unopened}
use Rattle.rws_worker.proofs.TallyLemmas.{seven_same, tally_kept, tally_with}
use Rattle.rws_worker.proofs.TurnLemmas.{answer_at, ends_starved, more_done, moved, seat_kept, step_at, still_tells}
use Rattle.rws_worker.proofs.WantLemmas.{ends_so, farewell_of, made_ends}

-- Behind an answer by which no link is opened nothing is owed that opens one
route_plain : (found : Target) (link : Option ℕ) (next : ℕ) (login : Option Login) (late : Bool) (number : ℕ)
    → ((its server : ℕ) (with_login : Login) (others : List Put) → after_route found link next login late number ≡ Opened its server with_login ∷ others → ⊥)
    → is_plain (after_route found link next login late number) ≡ true
route_plain Nowhere link next login true number none = refl
route_plain Nowhere link next login false number none = refl
route_plain (Primary server) (Some link) next login late number none = refl
route_plain (Primary server) None next None late number none = refl
route_plain (Primary server) None next (Some login) late number none = absurd (none next server login [] refl)
route_plain (Replica server) (Some link) next login late number none = refl
route_plain (Replica server) None next None late number none = refl
route_plain (Replica server) None next (Some login) late number none = absurd (none next server login [] refl)

pub answers_alike : (config : Config) (run : List Entry) (session next : ℕ) (words : PoolWords) (loads : List Load)
    → words ≡ words_of config run → loads ≡ loads_of run → next ≡ last_link run + 1
    → answer_to config (record_of session run) words loads next ≡ answer_for config session run
answers_alike config run session next words loads w l n =
    rw (w, l, n) refl

-- It is in turn again

module _ {config : Config} {old : Worker} {run : List Entry} (w : WorkerStands config old run) (session : ℕ) (asks : old.asker ≡ Awaits session) where
  its : IsAsking run old session
  its = w.asks session (ap asker_in asks)

  can : CanAnswer old
  can = w.awaits (ap is_awaiting asks)

  pub kept_there : (kept : Kept) → get nat_cmp old.sessions session ≡ Some kept → IsSeated config session true kept run
  kept_there kept found =
      subst (λ (o : Option Kept). SeatStands config session true o run) found
      (subst (λ (a : Bool). SeatStands config session a (get nat_cmp old.sessions session) run)
      (ap (is_asking session) asks ∙ eq-eqb session session refl) (w.seats session))

  pub not_gone : get nat_cmp old.sessions session ≡ None → ⊥
  not_gone none =
      let gone : is_live (record_of session run) ≡ false =
      subst (λ (o : Option Kept). SeatStands config session (is_asking session old.asker) o run) none (w.seats session) in
      let live = its.live in cc

  others_rest : (other : ℕ) → (session ≡ other → ⊥) → SeatStands config other false (get nat_cmp old.sessions other) run
  others_rest other apart =
      subst (λ (a : Bool). SeatStands config other a (get nat_cmp old.sessions other) run)
      (ap (is_asking other) asks ∙ ne_eqb session other apart) (w.seats other)

  pub nothing_waits : (other : ℕ) (kept : Kept) → get nat_cmp old.sessions other ≡ Some kept → kept.outs ≡ []
  nothing_waits other kept e = w.fetched other kept e (ap (is_going other) can.nothing)

  pub counted_out : (new : Worker) (kept : Kept) → get nat_cmp old.sessions session ≡ Some kept
      → CountsOut (get nat_cmp old.sessions session) old new → new.tallies ≡ seven (λ server. tally_but session run server)
  counted_out new kept found counts =
      let seat = kept_there kept found in
      let so : CountsOut (Some kept) old new = subst (λ (o : Option Kept). CountsOut o old new) found counts in
      so config (record_of session run) seat.stands.is (λ server. tally_but session run server)
      (w.tallied ∙ seven_same (λ server. tally_of run server) (λ server. plus (tally_but session run server) (tally_in (record_of session run) server))
      (tally_with session run w.legal seat.live))

  -- it has one item more, of which nothing is seen outside
  pub resumes : (item : Item) → opens item ≡ None → done_by session item (record_of session run) ≡ [] → asking (item ∷ record_of session run) ≡ false
      → IsRun config (Did session item ∷ run) → (tallies : List Tally) → tallies ≡ seven (λ server. tally_but session run server)
      → InTurn config (interactions_of run) (events_of run) session (record old { asker = Nobody; tallies = tallies }) true (Did session item ∷ run) []
  resumes item none silently unasking legal tallies counted =
      let past : List Item = record_of session run in
      let now : List Entry = Did session item ∷ run in
      let here : record_of session now ≡ item ∷ past = did_here session item run in
      record {
        legal = legal;
        hears = its.hears;
        told = still_tells (from_of old.telling) old.now_ms session run now (untold config run) its.behind (λ other apart. did_apart session other item run apart) w.told;
        behind = its.behind;
        observed = w.observed;
        live = subst (λ (p : List Item). is_live p ≡ not (is_over p)) (sym here) refl;
        others = λ other apart. seat_kept config other false (get nat_cmp old.sessions other) run now (did_apart session other item run apart) (others_rest other apart);
        fetched = λ other kept apart e. nothing_waits other kept e;
        owned = λ link who e. did_owners session item run link none ∙ w.owned link who e;
        owns = λ link who apart o h. w.owns link who (sym (did_owners session item run link none) ∙ o)
            (ap (holds link) (sym (did_apart session who item run apart)) ∙ h);
        owns_here = λ _ link o has. w.owns link session (sym (did_owners session item run link none) ∙ o)
            (rw its.live (still_has item past link none (subst (λ (p : List Item). contains link (links p) ≡ true) here has)));
        last = w.links ∙ sym (did_last session item run none);
        numbers = w.numbers;
        begun = w.begun;
        clock = w.clock;
        tallied = counted ∙ seven_same (λ server. tally_but session run server) (λ server. tally_but session now server)
            (λ server. sym (tally_kept session run w.legal now refl (λ other apart. did_apart session other item run apart) server));
        heard = refl;
        did = ap (λ (xs : List Interaction). interactions_of run ++ xs) silently
            ∙ ap (λ (a : Bool). interactions_of run ++ asks_outside a session) (sym (ap asking here ∙ unasking));
        bare = record {
          nothing = can.nothing;
          unbroken = its.unbroken;
          unclosed = its.unclosed;
          unobserved = can.unobserved;
          unasked = refl;
        };
        unspent = w.unspent;
      }

-- The next link is opened

module _ {config : Config} {done : List Interaction} {events : List Event} {session : ℕ} {worker : Worker} {now : List Entry}
    {outs : List Output} (t : InTurn config done events session worker true now outs) (silent : asking (record_of session now) ≡ false)
    (server : ℕ) (login : Login)
    (opens_next : next config (record_of session now) ≡ Some (Puts (Opened (last_link now + 1) server login)))
    (owners : BTreeMap ℕ ℕ) (changes : Changes worker.owners owners (worker.last_link + 1) (Some session))
    (fits : worker.last_link + 2 < 2 ^ 64) where
  abbrev newest : ℕ
  newest = last_link now + 1

  abbrev so_far : List Item
  so_far = record_of session now

  abbrev opening : Item
  opening = Puts (Opened newest server login)

  abbrev opened_run : List Entry
  opened_run = Did session opening ∷ now

  same_link : worker.last_link + 1 ≡ newest
  same_link = ap (λ (l : ℕ). l + 1) t.last

  pub at_opened : record_of session opened_run ≡ opening ∷ so_far
  at_opened = did_here session opening now

  apart_now : (other : ℕ) → (session ≡ other → ⊥) → record_of other opened_run ≡ record_of other now
  apart_now other apart = did_apart session other opening now apart

  owns_it : owner newest opened_run ≡ Some session
  owns_it = rw (eq-eqb newest newest refl) refl

  elsewhere : (other : ℕ) → (newest ≡ other → ⊥) → owner other opened_run ≡ owner other now
  elsewhere other apart = rw (ne_eqb newest other apart) refl

  written : get nat_cmp owners newest ≡ Some session
  written = subst (λ (l : ℕ). get nat_cmp owners l ≡ Some session) same_link changes.here

  unwritten : (other : ℕ) → (newest ≡ other → ⊥) → get nat_cmp owners other ≡ get nat_cmp worker.owners other
  unwritten other apart = changes.apart other (λ same. apart (sym same_link ∙ same))

  pub opens_in : InTurn config done events session (record worker { owners = owners; last_link = worker.last_link + 1 }) true opened_run
      (outs ++ Act (Open newest server session) ∷ [])
  opens_in = record {
    legal = goes_on t.legal (step_at config session now opening t.hears opens_next);
    hears = t.hears;
    told = still_tells (from_of worker.telling) worker.now_ms session now opened_run (untold config now) t.behind apart_now t.told;
    behind = t.behind;
    observed = t.observed;
    live = subst (λ (p : List Item). is_live p ≡ not (is_over p)) (sym at_opened) refl;
    others = λ other apart. seat_kept config other false (get nat_cmp worker.sessions other) now opened_run (apart_now other apart) (t.others other apart);
    fetched = t.fetched;
    owned = λ other of e. ⊎_elim
        (λ (same : newest ≡ other).
        subst (λ (l : ℕ). owner l opened_run ≡ Some of) same
        (owns_it ∙ sym written ∙ subst (λ (l : ℕ). get nat_cmp owners l ≡ Some of) (sym same) e))
        (λ (apart : newest ≡ other → ⊥). elsewhere other apart ∙ t.owned other of (sym (unwritten other apart) ∙ e))
        (cases_eq newest other);
    owns = λ other of apart o h. ⊎_elim
        (λ (same : newest ≡ other).
        absurd (apart (some_same session of (sym owns_it ∙ subst (λ (l : ℕ). owner l opened_run ≡ Some of) (sym same) o))))
        (λ (differ : newest ≡ other → ⊥). unwritten other differ
        ∙ t.owns other of apart (sym (elsewhere other differ) ∙ o) (ap (holds other) (sym (apart_now of apart)) ∙ h))
        (cases_eq newest other);
    owns_here = λ p other o has. ⊎_elim
        (λ (same : newest ≡ other). subst (λ (l : ℕ). get nat_cmp owners l ≡ Some session) same written)
        (λ (differ : newest ≡ other → ⊥). unwritten other differ
        ∙ t.owns_here p other (sym (elsewhere other differ) ∙ o)
        (had_it newest other (links so_far) differ (subst (λ (q : List Item). contains other (links q) ≡ true) at_opened has)))
        (cases_eq newest other);
    last = same_link;
    numbers = omega arith;
    begun = t.begun;
    clock = t.clock;
    tallied = t.tallied ∙ seven_same (λ s. tally_but session now s) (λ s. tally_but session opened_run s)
        (λ s. sym (tally_kept session now t.legal opened_run refl apart_now s));
    heard = t.heard;
    did = more_done (interactions_of now) done outs (Act (Open newest server session) ∷ []) []
        (t.did ∙ ap (λ (a : Bool). done ++ (map done_as outs ++ asks_outside a session)) silent)
        ∙ ap (λ (a : Bool). done ++ (map done_as (outs ++ Act (Open newest server session) ∷ []) ++ asks_outside a session)) (sym (ap asking at_opened ∙ silent));
    bare = record {
      nothing = t.bare.nothing;
      unbroken = t.bare.unbroken;
      unclosed = t.bare.unclosed;
      unobserved = t.bare.unobserved;
      unasked = t.bare.unasked;
    };
    unspent = t.unspent;
  }

-- Or none is: its number has no owner, as before
pub disowned : {config : Config} {done : List Interaction} {events : List Event} {session : ℕ} {worker : Worker} {now : List Entry}
    {outs : List Output} → InTurn config done events session worker true now outs → (owners : BTreeMap ℕ ℕ)
    → ((link its : ℕ) → get nat_cmp owners link ≡ Some its → get nat_cmp worker.owners link ≡ Some its)
    → ((link : ℕ) → (worker.last_link + 1 ≡ link → ⊥) → get nat_cmp owners link ≡ get nat_cmp worker.owners link)
    → InTurn config done events session (record worker { owners = owners }) true now outs
disowned {config} {done} {events} {session} {worker} {now} {outs} t owners fewer apart =
    let not_newest : (link its : ℕ) → owner link now ≡ Some its → worker.last_link + 1 ≡ link → ⊥ =
    λ link its o same. none_some its (sym (unopened t.legal link (let l = t.last in omega arith)) ∙ o) in
    record {
      legal = t.legal;
      hears = t.hears;
      told = t.told;
      behind = t.behind;
      observed = t.observed;
      live = t.live;
      others = t.others;
      fetched = t.fetched;
      owned = λ link its e. t.owned link its (fewer link its e);
      owns = λ link its differ o h. apart link (not_newest link its o) ∙ t.owns link its differ o h;
      owns_here = λ p link o has. apart link (not_newest link session o) ∙ t.owns_here p link o has;
      last = t.last;
      numbers = t.numbers;
      begun = t.begun;
      clock = t.clock;
      tallied = t.tallied;
      heard = t.heard;
      did = t.did;
      bare = record {
        nothing = t.bare.nothing;
        unbroken = t.bare.unbroken;
        unclosed = t.bare.unclosed;
        unobserved = t.bare.unobserved;
        unasked = t.bare.unasked;
      };
      unspent = t.unspent;
    }

no_input : (put : Put) (past : List Item) → IsInput (Puts put) past → ⊥
no_input put past input = input

paid : {config : Config} {item before : Item} {past : List Item} → IsRecord config (item ∷ before ∷ past)
    → (put : Put) → item ≡ Puts put → next config (before ∷ past) ≡ Some item
paid (steps legal is_next) put e = is_next
paid (answers_it legal asked) put e = absurd cc
paid (hears_it {past = past} {item = item} legal rests a n input) put e = absurd (no_input put past (subst (λ (i : Item). IsInput i past) e input))
paid (starves_it legal once can its) put e = absurd cc

module _ {config : Config} {old : Worker} {run : List Entry} (w : WorkerStands config old run) (session : ℕ) (asks : old.asker ≡ Awaits session)
    (words : PoolWords) (loads : List Load) (known : words ≡ words_of config run) (counted : loads ≡ loads_of run)
    (before : Kept) (found : get nat_cmp old.sessions session ≡ Some before)
    (tallies : List Tally) (out : tallies ≡ seven (λ server. tally_but session run server)) where
  abbrev ago : List Item
  ago = record_of session run

  abbrev mid : Worker
  mid = record old { asker = Nobody; tallies = tallies }

  abbrev number : ℕ
  number = min (old.last_link + 1) (2 ^ 64 - 1)

  number_is : number ≡ old.last_link + 1
  number_is = let n = (can w session asks).numbers in omega arith

  next_is : number ≡ last_link run + 1
  next_is = number_is ∙ ap (λ (l : ℕ). l + 1) w.links

  seat : IsSeated config session true before run
  seat = kept_there w session asks before found

  abbrev answer : Item
  answer = answer_to config ago words loads number

  alike : answer ≡ answer_for config session run
  alike = answers_alike config run session number words loads known counted next_is

  routed : InTurn config (interactions_of run) (events_of run) session mid true (Did session answer ∷ run) before.outs
  routed =
      subst (λ (xs : List Output). InTurn config (interactions_of run) (events_of run) session mid true (Did session answer ∷ run) xs)
      (sym (nothing_waits w session asks session before found))
      (resumes w session asks answer refl refl refl
      (goes_on w.legal (answer_at config session run (its w session asks).hears seat.stands.asks ∙ ap (λ (i : Item). Some (Did session i)) (sym alike)))
      tallies out)

  at : record_of session (Did session answer ∷ run) ≡ answer ∷ ago
  at = did_here session answer run

  module _ (responded later new : Worker) (r : Responds config words loads number session before mid responded)
      (rest : responded ≡ record mid { sessions = responded.sessions; owners = responded.owners; last_link = responded.last_link })
      (end : TurnEnd) (g : GoesOnSo config session r.kept responded later end)
      (rest' : later ≡ record responded { sessions = later.sessions }) (f : Finishes end session later new) where
    both : Changes old.sessions later.sessions session (Some g.kept)
    both = then_changes old.sessions responded.sessions later.sessions session (Some r.kept) (Some g.kept) r.sessions g.sessions

    with_link : (opened : Bool) → r.opened ≡ opened → Answers config answer number ago before r.kept opened
        → Advances config (interactions_of run) (events_of run) new
    with_link true is a =
        let link : ℕ = last_link run + 1 in
        let now : List Entry = Did session answer ∷ run in
        let owners = subst (λ (n : ℕ). Changes old.owners responded.owners n (Some session)) number_is
        (subst (λ (o : Bool). Changes old.owners responded.owners number (if o then Some session else None)) is r.owners) in
        let links_ : responded.last_link ≡ old.last_link + 1 = r.links ∙ ap (λ (o : Bool). if o then number else old.last_link) is ∙ number_is in
        let its_is : Is config r.kept (Puts (Opened link a.server a.login) ∷ answer ∷ ago) =
        subst (λ (n : ℕ). Is config r.kept (Puts (Opened n a.server a.login) ∷ answer ∷ ago)) next_is a.is in
        let next_put = ap (next config) at ∙ paid its_is.legal (Opened link a.server a.login) refl in
        let silent : asking (record_of session now) ≡ false = ap asking at in
        let t1 = opens_in routed silent a.server a.login next_put responded.owners owners (can w session asks).numbers in
        let at1 = at_opened routed silent a.server a.login next_put responded.owners owners (can w session asks).numbers
        ∙ ap (λ (p : List Item). Puts (Opened link a.server a.login) ∷ p) at in
        let outs_are : before.outs ++ Act (Open link a.server session) ∷ [] ≡ r.kept.outs =
        ap (λ (n : ℕ). before.outs ++ Act (Open link a.server n) ∷ []) (sym seat.numbered)
        ∙ ap (λ (l : ℕ). before.outs ++ Act (Open l a.server before.number) ∷ []) (sym next_is) ∙ sym a.waits in
        let opened_run : List Entry = Did session (Puts (Opened link a.server a.login)) ∷ now in
        let t2 = subst (λ (xs : List Output). InTurn config (interactions_of run) (events_of run) session
        (record mid { owners = responded.owners; last_link = old.last_link + 1 }) true opened_run xs) outs_are t1 in
        let same : record mid { owners = responded.owners; last_link = old.last_link + 1; sessions = later.sessions } ≡ later =
        sym (rest' ∙ ap (λ (v : Worker). record v { sessions = later.sessions }) rest
        ∙ ap (λ (l : ℕ). record mid { owners = responded.owners; last_link = l; sessions = later.sessions }) links_) in
        let t3 = subst (λ (v : Worker). InTurn config (interactions_of run) (events_of run) session v true opened_run r.kept.outs) same
        (moved t2 later.sessions both) in
        settled r.kept g.kept t3 at1 (a.number ∙ seat.numbered)
        (plain_unless_answered config (Puts (Opened link a.server a.login) ∷ answer ∷ ago) refl) (its w session asks).fed refl g.sessions.here new end
        (g.ended (Puts (Opened link a.server a.login) ∷ answer ∷ ago) its_is) f
    with_link false is a =
        let now : List Entry = Did session answer ∷ run in
        let owners = subst (λ (n : ℕ). Changes old.owners responded.owners n None) number_is
        (subst (λ (o : Bool). Changes old.owners responded.owners number (if o then Some session else None)) is r.owners) in
        let links_ : responded.last_link ≡ old.last_link = r.links ∙ ap (λ (o : Bool). if o then number else old.last_link) is in
        let fewer : (link its : ℕ) → get nat_cmp responded.owners link ≡ Some its → get nat_cmp old.owners link ≡ Some its =
        λ link who e. ⊎_elim
        (λ (same : old.last_link + 1 ≡ link).
        absurd (none_some who (sym (subst (λ (l : ℕ). get nat_cmp responded.owners l ≡ None) same owners.here) ∙ e)))
        (λ (apart : old.last_link + 1 ≡ link → ⊥). sym (owners.apart link apart) ∙ e)
        (cases_eq (old.last_link + 1) link) in
        let t1 = disowned routed responded.owners fewer owners.apart in
        let t2 = subst (λ (xs : List Output). InTurn config (interactions_of run) (events_of run) session
        (record mid { owners = responded.owners }) true now xs) (sym a.waits) t1 in
        let same : record mid { owners = responded.owners; sessions = later.sessions } ≡ later =
        sym (rest' ∙ ap (λ (v : Worker). record v { sessions = later.sessions }) rest
        ∙ ap (λ (l : ℕ). record mid { owners = responded.owners; last_link = l; sessions = later.sessions }) links_) in
        let t3 = subst (λ (v : Worker). InTurn config (interactions_of run) (events_of run) session v true now r.kept.outs) same
        (moved t2 later.sessions both) in
        settled r.kept g.kept t3 at (a.number ∙ seat.numbered)
        (route_plain (found_in config ago words loads) _ number _ _ _ (λ link server login others o. a.unopened link server login others o))
        (its w session asks).fed refl g.sessions.here new end (g.ended (answer ∷ ago) a.is) f

    pub answered : Advances config (interactions_of run) (events_of run) new
    answered = with_link r.opened refl (r.answers ago seat.stands)

  -- memory was wanting
  module _ (responded new : Worker) (n : RespondsNone number session before mid responded)
      (rest : responded ≡ record mid { sessions = responded.sessions; owners = responded.owners; last_link = responded.last_link })
      (f : Finishes ends.Breaks session responded new) where
    pub unanswered : Advances config (interactions_of run) (events_of run) new
    unanswered =
        let item : Item = Starves true (want_number config ago) in
        let now : List Entry = Did session item ∷ run in
        let t = resumes w session asks item refl refl refl (starves w.legal (its w session asks).hears (its w session asks).fed tt refl) tallies out in
        let t1 = disowned t responded.owners n.fewer (λ link apart. n.owners link (λ same. apart (sym number_is ∙ same))) in
        let same : record mid { owners = responded.owners; sessions = responded.sessions } ≡ responded =
        sym (rest ∙ ap (λ (l : ℕ). record mid { owners = responded.owners; last_link = l; sessions = responded.sessions }) n.links) in
        let t2 = subst (λ (v : Worker). InTurn config (interactions_of run) (events_of run) session v true now []) same
        (moved t1 responded.sessions n.sessions) in
        let f' = made_ends config session (want_number config ago) ago (asks_open seat.stands.is.legal seat.stands.asks) in
        let o = ends_at f' (ends_starved t2 (did_here session item run) _ f') in
        let empty = nothing_waits w session asks session before found in
        let last : Lasting = lasting_of config session before.outs ago in
        breaks_it {last = last} n.kept (n.holds ∙ lasting_is config session before ago seat.numbered seat.stands.is.mirrors) refl n.sessions.here new t2.bare
        (subst (λ (xs : List Output). IsOver config (interactions_of run) (events_of run) session responded true
        (xs ++ ends_so session false (numbered (want_number config ago) farewell_packet) (links ago))) (sym empty)
        (subst (λ (packet : List ℕ). IsOver config (interactions_of run) (events_of run) session responded true (ends_so session false packet (links ago)))
        (sym (farewell_of (want_number config ago))) o)) f

-- As it is called

module _ {config : Config} {old : Worker} {run : List Entry} (w : WorkerStands config old run) (session : ℕ) (asks : old.asker ≡ Awaits session)
    (words : PoolWords) (loads : List Load) (known : words ≡ words_of config run) (counted : loads ≡ loads_of run)
    (silent mid : Worker) (quiet : silent ≡ record old { asker = Nobody }) (same : mid ≡ record silent { tallies = mid.tallies })
    (counts : CountsOut (get nat_cmp silent.sessions session) silent mid) (number : ℕ) (number_is : number ≡ min (old.last_link + 1) (2 ^ 64 - 1)) where
  abbrev known_mid : Worker
  known_mid = record old { asker = Nobody; tallies = mid.tallies }

  mid_is : mid ≡ known_mid
  mid_is = same ∙ ap (λ (v : Worker). record v { tallies = mid.tallies }) quiet

  out_of : (before : Kept) → get nat_cmp old.sessions session ≡ Some before → mid.tallies ≡ seven (λ server. tally_but session run server)
  out_of before found =
      let so : CountsOut (get nat_cmp old.sessions session) old (record old { tallies = mid.tallies }) =
      counted_again (get nat_cmp old.sessions session)
      (subst (λ (v : Worker). CountsOut (get nat_cmp v.sessions session) v mid) quiet counts) in
      counted_out w session asks (record old { tallies = mid.tallies }) before found so
    where
      counted_again : (o : Option Kept) → CountsOut o (record old { asker = Nobody }) mid → CountsOut o old (record old { tallies = mid.tallies })
      counted_again None e = e
      counted_again (Some kept) e = e

  there : (before : Kept) → get nat_cmp old.sessions session ≡ Some before → get nat_cmp mid.sessions session ≡ Some before
  there before found = ap (λ (v : Worker). get nat_cmp v.sessions session) mid_is ∙ found

  pub answers_session : (responded later new : Worker)
      → ((before : Kept) → get nat_cmp mid.sessions session ≡ Some before → Responds config words loads number session before mid responded)
      → responded ≡ record mid { sessions = responded.sessions; owners = responded.owners; last_link = responded.last_link }
      → (end : TurnEnd) → ((before : Kept) → get nat_cmp responded.sessions session ≡ Some before → GoesOnSo config session before responded later end)
      → later ≡ record responded { sessions = later.sessions } → Finishes end session later new
      → Advances config (interactions_of run) (events_of run) new
  answers_session responded later new responds rest end goes rest' f = by_seat (get nat_cmp old.sessions session) refl
    where
      by_seat : (o : Option Kept) → get nat_cmp old.sessions session ≡ o → Advances config (interactions_of run) (events_of run) new
      by_seat None e = absurd (not_gone w session asks e)
      by_seat (Some before) found =
          let r = subst (λ (n : ℕ). Responds config words loads n session before known_mid responded) number_is
          (subst (λ (v : Worker). Responds config words loads number session before v responded) mid_is (responds before (there before found))) in
          answered w session asks words loads known counted before found mid.tallies (out_of before found) responded later new r
          (rest ∙ ap (λ (v : Worker). record v { sessions = responded.sessions; owners = responded.owners; last_link = responded.last_link }) mid_is)
          end (goes r.kept r.sessions.here) rest' f

  pub fails_session : (responded new : Worker)
      → ((before : Kept) → get nat_cmp mid.sessions session ≡ Some before → RespondsNone number session before mid responded)
      → responded ≡ record mid { sessions = responded.sessions; owners = responded.owners; last_link = responded.last_link }
      → Finishes ends.Breaks session responded new → Advances config (interactions_of run) (events_of run) new
  fails_session responded new responds rest f = by_seat (get nat_cmp old.sessions session) refl
    where
      by_seat : (o : Option Kept) → get nat_cmp old.sessions session ≡ o → Advances config (interactions_of run) (events_of run) new
      by_seat None e = absurd (not_gone w session asks e)
      by_seat (Some before) found =
          let r = subst (λ (n : ℕ). RespondsNone n session before known_mid responded) number_is
          (subst (λ (v : Worker). RespondsNone number session before v responded) mid_is (responds before (there before found))) in
          unanswered w session asks words loads known counted before found mid.tallies (out_of before found) responded new r
          (rest ∙ ap (λ (v : Worker). record v { sessions = responded.sessions; owners = responded.owners; last_link = responded.last_link }) mid_is) f
