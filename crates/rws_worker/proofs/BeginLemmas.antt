-- What the worker stands for where a session begins, or was to begin.
use Rattle.std.proofs.Common.{◌≡◌, ℕ, ◌+◌, ◌<◌, ◌^◌, ⊎_elim, Bool, true, false, not, List, [], ◌∷◌, ◌++◌, map, refl, sym, ap, subst, ◌∙◌, Option, Some, None, arith}
use Rattle.std.proofs.lemmas.Bool.{cases_eq, eq-eqb, ne_eqb}
use Rattle.std.proofs.lemmas.List.{append-nil}
use Rattle.std.specs.BTreeMap.{BTreeMap, get}
use Rattle.std.specs.Ordering.{nat_cmp}
use Rattle.rws_wire.specs.declared.close_reason.CloseReason.TheVariants.{Memory}
use Rattle.rws_wire.specs.declared.drop_cause.DropCause.TheVariants.{End}
use Rattle.rws_board.specs.declared.action.Action.TheVariants.{Close, Drop}
use Rattle.rws_board.specs.declared.event.Event.{Event}
use Rattle.rws_config.specs.declared.config.Config.{Config}
use Rattle.rws_record.specs.Outputs.{done_as}
use Rattle.rws_record.specs.declared.output.Output.{Output}
use Rattle.rws_record.specs.declared.output.Output.TheVariants.{Act}
use Rattle.rws_record.specs.Item.{Item}
use Rattle.rws_record.specs.Item.Item.{Accepted, TurnsAway, Began}
use Rattle.rws_record.specs.Values.{asking, contains, is_over, is_starved, links}
use Rattle.rws_record.specs.Rules.{next}
use Rattle.rws_record.specs.Record.{IsBeginning, want_number}
use Rattle.rws_record.specs.Run.{Entry, begun_by, events_of, greatest, is_live, last_clock, last_link, owner, reading_by, record_of, round_of, told_by}
use Rattle.rws_record.specs.Run.Entry.{Came, Heard}
use Rattle.rws_record.specs.Run.IsRun.{goes_on}
use Rattle.rws_record.proofs.OpeningLemmas.{is_answered, plain_unless_answered}
use Rattle.rws_record.proofs.RecordLemmas.{begins_one_more, each_of}
use Rattle.rws_session.specs.Kept.{Is, Kept}
use Rattle.rws_worker.specs.declared.ahead.Ahead.TheVariants.{Nothing, Unmade}
use Rattle.rws_worker.specs.declared.worker.Worker.{Worker}
use Rattle.rws_worker.specs.declared.worker.telling.TurnEnd.{TurnEnd}
use Rattle.rws_worker.specs.Stepping.{from_of, IsIdle, drops}
use Rattle.rws_worker.specs.Standing.{Gives, IsBehind, SeatStands, ToTell, WorkerStands, holds, interactions_of}
use Rattle.rws_worker.specs.InTurn.{InTurn, IsBetween, asks_outside}
use Rattle.rws_worker.specs.Tallies.{seven, tally_but, tally_of}
use Rattle.rws_worker.specs.Telling.{Begins, BeginsWithout, Finishes, GoesOnSo, Places}
use Rattle.rws_worker.proofs.EndLemmas.{settled}
use Rattle.rws_worker.proofs.EventLemmas.{between, came_between, hearing_at, hears, idle_untold}
use Rattle.rws_worker.proofs.MapLemmas.{then_changes}
use Rattle.rws_worker.proofs.RecordLemmas.{heard_apart, heard_here, some_same}
use Rattle.rws_worker.proofs.StepsLemmas.{bare_on, unmade_does, unmade_without_does}
use Rattle.rws_worker.proofs.TallyLemmas.{seven_same, tally_begun, tally_without}
use Rattle.rws_worker.proofs.TurnLemmas.{forgets, moved, seat_kept, wants}
use Rattle.rws_worker.proofs.WantLemmas.{unmade_ends}

-- What a beginning is

starts_unanswered : (item : Item) → IsBeginning item → is_answered (item ∷ []) ≡ false
starts_unanswered (Accepted session scramble reading) its = refl
starts_unanswered (TurnsAway told) its = refl
starts_unanswered (Began link server reading) its = refl
starts_unanswered _ its = absurd its

starts_fed : (item : Item) → IsBeginning item → is_starved (item ∷ []) ≡ false
starts_fed (Accepted session scramble reading) its = refl
starts_fed (TurnsAway told) its = refl
starts_fed (Began link server reading) its = refl
starts_fed _ its = absurd its

starts_silent : (item : Item) → IsBeginning item → asking (item ∷ []) ≡ false
starts_silent (Accepted session scramble reading) its = refl
starts_silent (TurnsAway told) its = refl
starts_silent (Began link server reading) its = refl
starts_silent _ its = absurd its

starts_going : (item : Item) → IsBeginning item → is_over (item ∷ []) ≡ false
starts_going (Accepted session scramble reading) its = refl
starts_going (TurnsAway told) its = refl
starts_going (Began link server reading) its = refl
starts_going _ its = absurd its

starts_linkless : (item : Item) → BeginsWithout item → links (item ∷ []) ≡ []
starts_linkless (Accepted session scramble reading) its = refl
starts_linkless (TurnsAway told) its = refl
starts_linkless (Began link server reading) its = absurd (let none = its.1 in cc)
starts_linkless _ its = absurd its.0

-- where nobody was seated, nobody is
unseated : (config : Config) (session : ℕ) (run : List Entry) (o : Option Kept) → record_of session run ≡ [] → SeatStands config session false o run
    → o ≡ None
unseated config session run None none seat = refl
unseated config session run (Some kept) none seat = let clash : false ≡ true = rw none at seat.live in absurd cc

module _ {config : Config} {run : List Entry} {event : Event} {session : ℕ} {item : Item} {old : Worker}
    (b : Begins config run event session item old) (its : IsBeginning item) where
  abbrev heard_it : List Entry
  heard_it = Came event ∷ run

  abbrev start : List Entry
  start = Heard session item ∷ heard_it

  came_so : IsBetween config old heard_it
  came_so =
      came_between b.between b.rests event b.no_round old.greatest old.now_ms (let a = b.above in let n = b.noted in let e = b.begun in omega arith)
      (b.between.clock ∙ sym (b.no_reading (last_clock run)))

  unborn : record_of session run ≡ []
  unborn = (each_of b.between.legal).unborn session b.above

  at : record_of session start ≡ item ∷ []
  at = heard_here session item heard_it ∙ ap (λ (past : List Item). item ∷ past) unborn

  empty_seat : get nat_cmp old.sessions session ≡ None
  empty_seat = unseated config session run (get nat_cmp old.sessions session) unborn (b.between.seats session)

  all_told : ToTell (from_of old.telling) old.now_ms heard_it []
  all_told = subst (λ (o : Option ℕ). ToTell o old.now_ms heard_it []) (sym b.all_told) refl

  behind : IsBehind (from_of old.telling) session
  behind = subst (λ (o : Option ℕ). IsBehind o session) (sym b.all_told) tt

  uncounted : (server : ℕ) → tally_of heard_it server ≡ tally_but session start server
  uncounted server =
      tally_without session heard_it came_so.legal (ap is_live unborn) server
      ∙ sym (tally_begun session heard_it came_so.legal start (begins_one_more heard_it session item its)
      (λ other apart. heard_apart session other item heard_it apart) server)

  counted_before : old.tallies ≡ seven (λ server. tally_but session start server)
  counted_before = came_so.tallied ∙ seven_same (λ server. tally_of heard_it server) (λ server. tally_but session start server) uncounted

  silent : asking (item ∷ record_of session heard_it) ≡ false
  silent = ap (λ (past : List Item). asking (item ∷ past)) unborn ∙ starts_silent item its

-- Without a link

module _ {config : Config} {run : List Entry} {event : Event} {session : ℕ} {item : Item} {old : Worker}
    (b : Begins config run event session item old) (its : BeginsWithout item) where
  begun_without : InTurn config (interactions_of (Came event ∷ run)) (events_of (Came event ∷ run)) session old true (Heard session item ∷ Came event ∷ run) []
  begun_without =
      hears (came_so b its.0) b.bare session item its.1 [] b.told (behind b its.0) (all_told b its.0) (silent b its.0) old.tallies (counted_before b its.0)
      (λ link has. let clash : false ≡ true = rw (unborn b its.0) at has in absurd cc)

  pub begins_without : (placed later new : Worker) (p : Places config session item old placed)
      → placed ≡ record old { sessions = placed.sessions } → (end : TurnEnd) → (g : GoesOnSo config session p.kept placed later end)
      → later ≡ record placed { sessions = later.sessions } → Finishes end session later new → Gives config run event new
  begins_without placed later new p rest end g rest' s =
      let done = interactions_of (Came event ∷ run) in let events = events_of (Came event ∷ run) in
      let start : List Entry = Heard session item ∷ Came event ∷ run in
      let same : later ≡ record old { sessions = later.sessions } = rest' ∙ ap (λ (v : Worker). record v { sessions = later.sessions }) rest in
      let t : InTurn config done events session old true start p.kept.outs =
      subst (λ (xs : List Output). InTurn config done events session old true start xs) (sym p.starts.outs) begun_without in
      let u : InTurn config done events session later true start p.kept.outs =
      subst (λ (v : Worker). InTurn config done events session v true start p.kept.outs) (sym same)
      (moved t later.sessions (then_changes old.sessions placed.sessions later.sessions session (Some p.kept) (Some g.kept) p.sessions g.sessions)) in
      settled p.kept g.kept u (at b its.0) p.starts.number (plain_unless_answered config (item ∷ []) (starts_unanswered item its.0)) (starts_fed item its.0)
      (starts_silent item its.0) g.sessions.here new end (g.ended (item ∷ []) p.starts.is) s

  pub unmade_without : (sessions : BTreeMap ℕ Kept) → ((n : ℕ) → get nat_cmp sessions n ≡ get nat_cmp old.sessions n)
      → Gives config run event (record old { sessions = sessions; ahead = Nothing; broken = Some session; closing = Some session })
  unmade_without sessions same =
      let f = unmade_ends config session (want_number config (item ∷ [])) (item ∷ []) (starts_going item its.0) in
      let r = wants begun_without (at b its.0) false (starts_fed item its.0) (starts_silent item its.0) its.0 _ f in
      forgets r.turn sessions Nothing (Some session) (Some session) (ap is_over r.here ∙ f.over) (ap (next config) r.here ∙ f.rests)
      (ap asking r.here ∙ f.unasking)
      (record { here = same session ∙ empty_seat b its.0; apart = λ other apart. same other })
      (unmade_without_does (record old { sessions = sessions; ahead = Nothing; broken = Some session; closing = Some session }) session refl refl refl b.bare.unobserved b.bare.unasked
      ∙ ap (λ (list : List ℕ). map done_as (Act (Close session Memory) ∷ drops list)) (sym (starts_linkless item its)))

-- On the next link

module _ {config : Config} {run : List Entry} {event : Event} {session server reading : ℕ} {old : Worker}
    (b : Begins config run event session (Began (last_link run + 1) server reading) old) (fits : old.last_link + 2 < 2 ^ 64)
    (placed : Bool) (owners : BTreeMap ℕ ℕ)
    (its : Option ℕ) (owns : get nat_cmp owners (old.last_link + 1) ≡ its)
    (elsewhere : (link : ℕ) → (old.last_link + 1 ≡ link → ⊥) → get nat_cmp owners link ≡ get nat_cmp old.owners link)
    (only : (number : ℕ) → its ≡ Some number → session ≡ number) (owned : placed ≡ true → its ≡ Some session) where
  abbrev link : ℕ
  link = last_link run + 1

  abbrev item : Item
  item = Began link server reading

  abbrev came_run : List Entry
  came_run = Came event ∷ run

  abbrev begun_run : List Entry
  begun_run = Heard session item ∷ came_run

  abbrev worker : Worker
  worker = record old { owners = owners; last_link = old.last_link + 1 }

  same_link : old.last_link + 1 ≡ link
  same_link = ap (λ (l : ℕ). l + 1) b.between.links

  owns_it : owner link begun_run ≡ Some session
  owns_it = rw (eq-eqb link link refl) refl

  apart_owner : (other : ℕ) → (link ≡ other → ⊥) → owner other begun_run ≡ owner other run
  apart_owner other apart = rw (ne_eqb link other apart) refl

  unwritten : (other : ℕ) → (link ≡ other → ⊥) → get nat_cmp owners other ≡ get nat_cmp old.owners other
  unwritten other apart = elsewhere other (λ same. apart (sym same_link ∙ same))

  written : get nat_cmp owners link ≡ its
  written = subst (λ (l : ℕ). get nat_cmp owners l ≡ its) same_link owns

  pub begun_on : InTurn config (interactions_of came_run) (events_of came_run) session worker placed begun_run []
  begun_on =
      let c = came_so b tt in
      record {
        legal = goes_on c.legal (hearing_at c session item [] b.told);
        hears = refl;
        told = subst (λ (list : List (ℕ × Item)). ToTell (from_of old.telling) old.now_ms begun_run list) (sym (rw b.told refl))
            (subst (λ (o : Option ℕ). ToTell o old.now_ms begun_run []) (sym b.all_told) refl);
        behind = behind b tt;
        observed = c.observed;
        live = subst (λ (p : List Item). is_live p ≡ not (is_over p)) (sym (at b tt)) refl;
        others = λ other apart. seat_kept config other false (get nat_cmp old.sessions other) came_run begun_run
            (heard_apart session other item came_run apart) (c.seats other);
        fetched = λ other kept apart e. c.fetched other kept e;
        owned = λ other number e. ⊎_elim
            (λ (same : link ≡ other). subst (λ (l : ℕ). owner l begun_run ≡ Some number) same
            (owns_it ∙ ap (λ (n : ℕ). Some n) (only number (sym written ∙ subst (λ (l : ℕ). get nat_cmp owners l ≡ Some number) (sym same) e))))
            (λ (apart : link ≡ other → ⊥). apart_owner other apart ∙ c.owned other number (sym (unwritten other apart) ∙ e))
            (cases_eq link other);
        owns = λ other number differ o h. ⊎_elim
            (λ (same : link ≡ other).
            absurd (differ (some_same session number (sym owns_it ∙ subst (λ (l : ℕ). owner l begun_run ≡ Some number) (sym same) o))))
            (λ (apart : link ≡ other → ⊥). unwritten other apart
            ∙ c.owns other number (sym (apart_owner other apart) ∙ o)
            (ap (holds other) (sym (heard_apart session number item came_run differ)) ∙ h))
            (cases_eq link other);
        owns_here = λ p other o has. ⊎_elim
            (λ (same : link ≡ other). subst (λ (l : ℕ). get nat_cmp owners l ≡ Some session) same (written ∙ owned p))
            (λ (apart : link ≡ other → ⊥). absurd (not_its other apart (subst (λ (past : List Item). contains other (links past) ≡ true) (at b tt) has)))
            (cases_eq link other);
        last = same_link;
        numbers = omega arith;
        begun = c.begun;
        clock = c.clock;
        tallied = counted_before b tt;
        heard = refl;
        did = sym (append-nil (interactions_of came_run))
            ∙ ap (λ (past : List Item). interactions_of came_run ++ asks_outside (asking past) session) (sym (at b tt));
        bare = record {
          nothing = b.bare.nothing;
          unbroken = b.bare.unbroken;
          unclosed = b.bare.unclosed;
          unobserved = b.bare.unobserved;
          unasked = b.bare.unasked;
        };
        unspent = c.unspent;
      }
    where
      not_its : (other : ℕ) → (link ≡ other → ⊥) → contains other (link ∷ []) ≡ true → ⊥
      not_its other apart e = let clash : false ≡ true = rw (ne_eqb link other apart) at e in cc

  -- it was made
  pub begins_on : placed ≡ true → (seated later new : Worker) (p : Places config session (Began (old.last_link + 1) server reading) worker seated)
      → seated ≡ record worker { sessions = seated.sessions } → (end : TurnEnd) → (g : GoesOnSo config session p.kept seated later end)
      → later ≡ record seated { sessions = later.sessions } → Finishes end session later new → Gives config run event new
  begins_on there seated later new p rest end g rest' s =
      let done = interactions_of came_run in let events = events_of came_run in
      let kept : Kept = p.kept in
      let is : Is config kept (item ∷ []) = subst (λ (l : ℕ). Is config kept (Began l server reading ∷ [])) same_link p.starts.is in
      let same : later ≡ record worker { sessions = later.sessions } = rest' ∙ ap (λ (v : Worker). record v { sessions = later.sessions }) rest in
      let t : InTurn config done events session worker true begun_run kept.outs =
      subst (λ (xs : List Output). InTurn config done events session worker true begun_run xs) (sym p.starts.outs)
      (subst (λ (b : Bool). InTurn config done events session worker b begun_run []) there begun_on) in
      let u : InTurn config done events session later true begun_run kept.outs =
      subst (λ (v : Worker). InTurn config done events session v true begun_run kept.outs) (sym same)
      (moved t later.sessions (then_changes old.sessions seated.sessions later.sessions session (Some p.kept) (Some g.kept) p.sessions g.sessions)) in
      settled kept g.kept u (at b tt) p.starts.number (plain_unless_answered config (item ∷ []) refl) refl refl g.sessions.here new end
      (g.ended (item ∷ []) is) s

  -- memory was wanting for it
  pub unmade_on : (sessions : BTreeMap ℕ Kept) → ((n : ℕ) → get nat_cmp sessions n ≡ get nat_cmp old.sessions n)
      → Gives config run event
      (record worker { sessions = sessions; ahead = Unmade (old.last_link + 1); broken = Some session; closing = Some session })
  unmade_on sessions same =
      let f = unmade_ends config session (want_number config (item ∷ [])) (item ∷ []) refl in
      let r = wants begun_on (at b tt) false refl refl tt _ f in
      let now : Worker = record worker { sessions = sessions; ahead = Unmade (old.last_link + 1); broken = Some session; closing = Some session } in
      forgets r.turn sessions (Unmade (old.last_link + 1)) (Some session) (Some session) (ap is_over r.here ∙ f.over)
      (ap (next config) r.here ∙ f.rests) (ap asking r.here ∙ f.unasking)
      (record { here = same session ∙ empty_seat b tt; apart = λ other apart. same other })
      (unmade_does now session (old.last_link + 1) refl refl refl b.bare.unobserved b.bare.unasked
      ∙ ap (λ (l : ℕ). map done_as (Act (Close session Memory) ∷ Act (Drop l End) ∷ [])) same_link)

-- The worker is told to begin a session

-- the worker's count of numbers is that of the run
pub at_greatest : {config : Config} {old : Worker} {run : List Entry} (session : ℕ) → IsBetween config old run
    → IsBetween config (record old { greatest = greatest run }) run
at_greatest {config} {old} {run} session w = subst (λ (n : ℕ). IsBetween config (record old { greatest = n }) run) w.begun w

pub begins_so : (config : Config) (old : Worker) (run : List Entry) (event : Event) (session : ℕ) (item : Item) → WorkerStands config old run
    → IsIdle old → old.greatest < session → begun_by event ≡ session → round_of config event ≡ None
    → ((before : ℕ) → reading_by event before ≡ before) → told_by config event run ≡ (session, item) ∷ []
    → Begins config run event session item (record old { greatest = session })
begins_so config old run event session item w idle above begun_ no_round no_reading told = record {
  between = let b = at_greatest session (between w idle.bare) in record {
    legal = b.legal;
    steps_none = b.steps_none;
    answers_none = b.answers_none;
    observed = b.observed;
    seats = b.seats;
    fetched = b.fetched;
    owned = b.owned;
    owns = b.owns;
    links = b.links;
    numbers = b.numbers;
    begun = refl;
    clock = b.clock;
    tallied = b.tallied;
    unspent = b.unspent;
  };
  bare = bare_on old (record old { greatest = session }) refl refl refl refl refl idle.bare;
  all_told = idle.all_told;
  rests = idle_untold w idle.all_told;
  above = let g = w.begun in omega arith;
  begun = begun_;
  noted = refl;
  no_round = no_round;
  no_reading = no_reading;
  told = told;
}
