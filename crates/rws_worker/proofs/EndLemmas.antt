-- How a session's turn ends, and what the worker stands for then.
use Rattle.std.proofs.Common.{◌≡◌, ℕ, ◌<◌, ◌^◌, Bool, true, false, not, List, [], ◌∷◌, ◌++◌, map, refl, sym, ap, subst, ◌∙◌, Option, Some, None, arith}
use Rattle.std.proofs.lemmas.List.{append-nil}
use Rattle.std.specs.BTreeMap.{BTreeMap, get}
use Rattle.std.specs.Ordering.{nat_cmp}
use Rattle.rws_board.specs.declared.event.Event.{Event}
use Rattle.rws_board.specs.declared.interaction.Interaction.{Interaction}
use Rattle.rws_config.specs.declared.config.Config.{Config}
use Rattle.rws_record.specs.declared.output.Output.{Output}
use Rattle.rws_record.specs.Item.{Item}
use Rattle.rws_record.specs.Outputs.{done_as, outputs_of}
use Rattle.rws_record.specs.Values.{asking, is_over, is_starved, links}
use Rattle.rws_record.specs.Rules.{next, owed}
use Rattle.rws_record.specs.Record.{GoesOn, want_number}
use Rattle.rws_record.specs.Record.GoesOn.{stays, then as goes}
use Rattle.rws_record.specs.Run.{Entry, is_live, last_link, record_of}
use Rattle.rws_record.proofs.OpeningLemmas.{asks_open, is_plain}
use Rattle.rws_record.proofs.StepLemmas.{goes_unasking}
use Rattle.rws_record.proofs.WantLemmas.{goes_on_starved}
use Rattle.rws_session.specs.State.{State, farewell_packet, link_of, number_of, numbered, state_of}
use Rattle.rws_session.specs.Kept.{Is, Kept, Lasting, StandsOr, lasting, lasting_of}
use Rattle.rws_session.specs.Turning.{BreaksOff, Settles}
use Rattle.rws_worker.specs.declared.ahead.Ahead.{Ahead}
use Rattle.rws_worker.specs.declared.ahead.Ahead.TheVariants.{Going}
use Rattle.rws_worker.specs.declared.worker.Worker.{Worker}
use Rattle.rws_worker.specs.declared.worker.telling.TurnEnd.{TurnEnd}
use Rattle.rws_worker.specs.declared.worker.telling.TurnEnd.TheVariants as ends
use Rattle.rws_worker.specs.Stepping.{IsBare, done_ahead, over_in, starved_in}
use Rattle.rws_worker.specs.Standing.{Advances}
use Rattle.rws_worker.specs.InTurn.{InTurn}
use Rattle.rws_worker.specs.Tallies.{Fits, plus, seven, tally_but, tally_in, tally_of}
use Rattle.rws_worker.specs.Telling.{Changes, CountsIn, EndsSo, Finishes}
use Rattle.rws_worker.proofs.StepsLemmas.{asker_for, broken_does, over_does, starved_does}
use Rattle.rws_worker.proofs.TallyLemmas.{seven_same, tally_fits, tally_with}
use Rattle.rws_worker.proofs.TurnLemmas.{AsksOr, Reaches, forgets, goes_so, item_asks, reaches, wants}
use Rattle.rws_worker.proofs.TurnLemmas.AsksOr.{routes, plainly}
use Rattle.rws_worker.proofs.WantLemmas.{Finished, ends_so, farewell_of, made_ends, over_ends}

-- Memory was wanting

-- all that a session gave out that ended so
abbrev pub given_by : (session : ℕ) → (over : Bool) → Lasting → List Output
given_by session over l = l.outs ++ ends_so session over (numbered l.want_number l.farewell) l.links

-- the session is over, and rests
pub record IsOver (config : Config) (done : List Interaction) (events : List Event) (session : ℕ) (worker : Worker) (placed : Bool)
    (outs : List Output) : Type 0 where
  pub past : List Item
  pub reached : Reaches config done events session worker placed outs past
  pub rests : next config past ≡ None
  pub unasking : asking past ≡ false
  pub over : is_over past ≡ true

module _ {config : Config} {done : List Interaction} {events : List Event} {session : ℕ} {worker : Worker} {placed : Bool} where
  pub ends_at : {outs : List Output} {start : List Item} {more : List Output}
      → (f : Finished config session start more) → Reaches config done events session worker placed outs f.reached
      → IsOver config done events session worker placed outs
  ends_at f r = record { past = f.reached; reached = r; rests = f.rests; unasking = f.unasking; over = f.over }

  -- it stands at this record, and of it lasts what lasts
  pub wants_at : {now : List Entry} {outs : List Output} {past : List Item} → InTurn config done events session worker placed now outs
      → record_of session now ≡ past → is_starved past ≡ false → asking past ≡ false → (over : Bool) → is_over past ≡ over
      → IsOver config done events session worker placed (given_by session over (lasting_of config session outs past))
  wants_at {now} {outs} {past} t at fed unasking true over =
      let f = over_ends config session (want_number config past) past true over in ends_at f (wants t at true fed unasking tt _ f)
  wants_at {now} {outs} {past} t at fed unasking false over =
      let f = made_ends config session (want_number config past) past over in
      let o = ends_at f (wants t at true fed unasking tt _ f) in
      subst (λ (packet : List ℕ). IsOver config done events session worker placed (outs ++ ends_so session false packet (links past)))
      (sym (farewell_of (want_number config past))) o

-- a session that is over is forgotten
module _ {config : Config} {done : List Interaction} {events : List Event} {session : ℕ} {mid : Worker} {placed : Bool} {outs : List Output}
    (o : IsOver config done events session mid placed outs) where
  pub forgets_it : (sessions : BTreeMap ℕ Kept) (ahead : Ahead) (broken closing : Option ℕ) → Changes mid.sessions sessions session None
      → done_ahead (record mid { sessions = sessions; ahead = ahead; broken = broken; closing = closing }) ≡ map done_as outs
      → Advances config done events (record mid { sessions = sessions; ahead = ahead; broken = broken; closing = closing })
  forgets_it sessions ahead broken closing changes acts =
      let r = o.reached in
      forgets r.turn sessions ahead broken closing (ap is_over r.here ∙ o.over) (ap (next config) r.here ∙ o.rests) (ap asking r.here ∙ o.unasking) changes acts

-- also one to which memory was wanting
module _ {config : Config} {done : List Interaction} {events : List Event} {session : ℕ} {mid : Worker} {placed : Bool} {last : Lasting}
    (kept : Kept) (lasts : lasting kept ≡ last) (farewell : last.farewell ≡ farewell_packet)
    (has : get nat_cmp mid.sessions session ≡ Some kept) (new : Worker) (bare : IsBare mid) where
  pub breaks_it : IsOver config done events session mid placed (given_by session false last)
      → Finishes ends.Breaks session mid new → Advances config done events new
  breaks_it o f =
      let ahead = starved_in (get nat_cmp mid.sessions session) in
      let now : Worker = record mid { sessions = new.sessions; ahead = ahead; broken = Some session; closing = Some session } in
      subst (λ (v : Worker). Advances config done events v) (sym f.1)
      (forgets_it o new.sessions ahead (Some session) (Some session) f.0
      (broken_does now session kept (ap starved_in has) refl refl bare.unobserved bare.unasked (ap (λ (l : Lasting). l.farewell) lasts ∙ farewell)
      ∙ ap (λ (l : Lasting). map done_as (given_by session false l)) lasts))

  pub starves_it : IsOver config done events session mid placed (given_by session true last)
      → Finishes ends.Starves session mid new → Advances config done events new
  starves_it o f =
      let ahead = starved_in (get nat_cmp mid.sessions session) in
      let now : Worker = record mid { sessions = new.sessions; ahead = ahead } in
      subst (λ (v : Worker). Advances config done events v) (sym f.1)
      (forgets_it o new.sessions ahead mid.broken mid.closing f.0
      (starved_does now session kept (ap starved_in has) bare.unbroken bare.unclosed bare.unobserved bare.unasked
      ∙ ap (λ (l : Lasting). map done_as (given_by session true l)) lasts))

-- A session that asked last, where memory was wanting, may as well not have asked.
pub record Unasked (config : Config) (session : ℕ) (start reached : List Item) : Type 0 where
  pub at : List Item
  pub went_on : GoesOn config start at
  pub unasking : asking at ≡ false
  pub given : outputs_of session at ≡ outputs_of session reached
  pub lasts : (number : ℕ) (outs : List Output) → lasting_of config number outs reached ≡ lasting_of config number outs at

unasked : {config : Config} (session : ℕ) {start reached : List Item} → GoesOn config start reached → asking start ≡ false
    → Unasked config session start reached
unasked session {start} stays none = record { at = start; went_on = stays; unasking = none; given = refl; lasts = λ n o. refl }
unasked {config} session {start} (goes {now = mid} {item = item} went step) none =
    by_item (item_asks session item mid (goes_unasking config mid item step))
  where
    by_item : AsksOr session item mid → Unasked config session start (item ∷ mid)
    by_item (plainly silent calls) = record { at = item ∷ mid; went_on = goes went step; unasking = silent; given = refl; lasts = λ n o. refl }
    by_item (routes is) = record {
      at = mid;
      went_on = went;
      unasking = goes_unasking config mid item step;
      given = subst (λ (i : Item). outputs_of session mid ≡ outputs_of session (i ∷ mid)) (sym is) (sym (append-nil (outputs_of session mid)));
      lasts = λ n o. subst (λ (i : Item). lasting_of config n o (i ∷ mid) ≡ lasting_of config n o mid) (sym is) refl;
    }

-- What is open is counted with a session that goes on
pub counted : {config : Config} {done : List Interaction} {events : List Event} {session : ℕ} {worker : Worker} {placed : Bool} {now : List Entry}
    {outs : List Output} → InTurn config done events session worker placed now outs → (kept : Kept) (new : Worker)
    → get nat_cmp worker.sessions session ≡ Some kept → Is config kept (record_of session now) → is_live (record_of session now) ≡ true
    → CountsIn (get nat_cmp worker.sessions session) worker new → new.tallies ≡ seven (λ server. tally_of now server)
counted {config} {session = session} {worker} {now = now} t kept new has is live counts =
    let with_it = tally_with session now t.legal live in
    let counts_so : CountsIn (Some kept) worker new = subst (λ (o : Option Kept). CountsIn o worker new) has counts in
    let below : last_link now < 2 ^ 64 = let l = t.last in let n = t.numbers in omega arith in
    counts_so config (record_of session now) is (λ server. tally_but session now server) t.tallied
    (λ server. subst Fits (with_it server) (tally_fits session now t.legal below server))
    ∙ seven_same (λ server. plus (tally_but session now server) (tally_in (record_of session now) server)) (λ server. tally_of now server)
    (λ server. sym (with_it server))

pub is_of : (asks : Bool) (config : Config) (kept : Kept) (past : List Item) → StandsOr asks config kept past → Is config kept past
is_of true config kept past s = s.is
is_of false config kept past s = s.is

-- The session went on from a record at which it was kept so

module _ {config : Config} {done : List Interaction} {events : List Event} {session : ℕ} {mid : Worker} {now : List Entry} {start : List Item}
    (kept kept' : Kept) (t : InTurn config done events session mid true now kept.outs) (at : record_of session now ≡ start)
    (numbered_so : kept.number ≡ session) (plain : is_plain (owed config start) ≡ true) (fed : is_starved start ≡ false)
    (silent : asking start ≡ false) (has : get nat_cmp mid.sessions session ≡ Some kept') where
  -- it rests, or asks
  got_to : {asks : Bool} (s : Settles config start kept kept' asks) → Reaches config done events session mid true kept'.outs s.reached
  got_to s =
      subst (λ (xs : List Output). Reaches config done events session mid true xs s.reached) (sym s.waits)
      (reaches t at plain s.went_on s.more (subst (λ (n : ℕ). outputs_of n s.reached ≡ outputs_of n start ++ s.more) numbered_so s.given))

  goes_or_asks : (asks : Bool) (new : Worker) (s : Settles config start kept kept' asks) → is_over s.reached ≡ false
      → CountsIn (get nat_cmp mid.sessions session) mid new
      → new ≡ record mid { ahead = Going session; tallies = new.tallies; asker = asker_for asks session } → Advances config done events new
  goes_or_asks asks new s goes_on counts is =
      let r = got_to s in
      let unended : is_over (record_of session r.run) ≡ false = ap is_over r.here ∙ goes_on in
      let live : is_live (record_of session r.run) ≡ true = r.turn.live ∙ ap not unended in
      let stands = subst (λ (past : List Item). StandsOr asks config kept' past) (sym r.here) s.stands in
      subst (λ (v : Worker). Advances config done events v) (sym is)
      (goes_so r.turn asks kept' new.tallies refl stands (s.number ∙ numbered_so) unended
      (ap is_starved r.here ∙ goes_on_starved s.went_on ∙ fed) has
      (counted r.turn kept' new has (is_of asks config kept' (record_of session r.run) stands) live counts))

  -- or memory was wanting
  broke_at : (over : Bool) → (off : BreaksOff config start kept kept') → kept'.state.over ≡ over
      → IsOver config done events session mid true (given_by session over (lasting_of config session (kept.outs ++ off.more) off.reached))
  broke_at over off over_is =
      let u = unasked session off.went_on silent in
      let r = reaches t at plain u.went_on off.more
      (u.given ∙ subst (λ (n : ℕ). outputs_of n off.reached ≡ outputs_of n start ++ off.more) numbered_so off.given) in
      let over_there : is_over u.at ≡ over =
      sym (ap (λ (l : Lasting). l.over) (u.lasts kept.number (kept.outs ++ off.more))) ∙ sym (ap (λ (l : Lasting). l.over) off.lasts) ∙ over_is in
      subst (λ (l : Lasting). IsOver config done events session mid true (given_by session over l)) (sym (u.lasts session (kept.outs ++ off.more)))
      (wants_at r.turn r.here (goes_on_starved u.went_on ∙ fed) u.unasking over over_there)

  lasts_so : (off : BreaksOff config start kept kept') → lasting kept' ≡ lasting_of config session (kept.outs ++ off.more) off.reached
  lasts_so off = off.lasts ∙ ap (λ (n : ℕ). lasting_of config n (kept.outs ++ off.more) off.reached) numbered_so

  pub settled : (new : Worker) (end : TurnEnd) → EndsSo config start kept kept' end → Finishes end session mid new
      → Advances config done events new
  settled new ends.Goes e f =
      let s = e.0 in
      goes_or_asks false new s (sym (ap (λ (state : State). state.over) s.stands.is.mirrors) ∙ e.1) f.0
      (f.1 ∙ ap (λ a. record mid { ahead = Going session; tallies = new.tallies; asker = a }) t.bare.unasked)
  settled new ends.Asks s f = goes_or_asks true new s (asks_open s.stands.is.legal s.stands.asks) f.0 f.1
  settled new ends.Ends e f =
      let s = e.0 in
      let o : IsOver config done events session mid true kept'.outs = record {
        past = s.reached;
        reached = got_to s;
        rests = s.stands.rests;
        unasking = s.stands.unasking;
        over = sym (ap (λ (state : State). state.over) s.stands.is.mirrors) ∙ e.1;
      } in
      let ahead = over_in (get nat_cmp mid.sessions session) in
      let now : Worker = record mid { sessions = new.sessions; ahead = ahead } in
      subst (λ (v : Worker). Advances config done events v) (sym f.1)
      (forgets_it o new.sessions ahead mid.broken mid.closing f.0
      (over_does now kept' (ap over_in has) t.bare.unbroken t.bare.unclosed t.bare.unobserved t.bare.unasked))
  settled new ends.Breaks e f = breaks_it kept' (lasts_so e.0) refl has new t.bare (broke_at false e.0 e.1) f
  settled new ends.Starves e f = starves_it kept' (lasts_so e.0) refl has new t.bare (broke_at true e.0 e.1) f

numbers_are : (past : List Item) (list : List ℕ) → map number_of (map (link_of past) list) ≡ list
numbers_are past [] = refl
numbers_are past (link ∷ others) = ap (λ (ls : List ℕ). link ∷ ls) (numbers_are past others)

-- what lasts of a session that is what it is to be
pub lasting_is : (config : Config) (session : ℕ) (kept : Kept) (past : List Item) → kept.number ≡ session → kept.state ≡ state_of config past
    → lasting kept ≡ lasting_of config session kept.outs past
lasting_is config session kept past number mirrors = rw (number, mirrors, numbers_are past (links past)) refl
