-- What is known where a session is looked up and told an input.
use Rattle.std.proofs.Common.{◌≡◌, ℕ, max, ⊎_elim, Bool, true, false, not, List, [], ◌∷◌, ◌++◌, map, refl, sym, ap, subst, ◌∙◌, Option, Some, None, ◌&&◌, arith, if◌then◌else◌}
use Rattle.std.proofs.lemmas.Bool.{and_parts, cases_eq}
use Rattle.std.proofs.lemmas.List.{append-nil}
use Rattle.std.specs.BTreeMap.{BTreeMap, get}
use Rattle.std.specs.Ordering.{nat_cmp}
use Rattle.rws_board.specs.declared.event.Event.{Event}
use Rattle.rws_link.specs.Stepping.{LinkState, is_new}
use Rattle.rws_config.specs.declared.config.Config.{Config}
use Rattle.rws_record.specs.Outputs.{done_as}
use Rattle.rws_record.specs.declared.output.Output.{Output}
use Rattle.rws_record.specs.Item.{Item}
use Rattle.rws_record.specs.Item.Item.{ClientBytes, LinkReady, LinkBytes, ClientGone, LinkLost, Ticks}
use Rattle.rws_record.specs.Values.{asking, links, linked, contains, is_over, is_starved}
use Rattle.rws_record.specs.Record.{IsInput}
use Rattle.rws_record.specs.Run.{Entry, begun_by, events_of, record_of, is_live, if_so, last_clock, reading_by, round_of, told_by, told_on, told_to, untold}
use Rattle.rws_record.specs.Run.Entry.{Came, Heard}
use Rattle.rws_record.proofs.OpeningLemmas.{is_answered, plain_unless_answered}
use Rattle.rws_record.proofs.RecordLemmas.{begins_no_more, contained}
use Rattle.rws_record.proofs.StepLemmas.{input_opens_none, rests_owing_nothing}
use Rattle.rws_record.proofs.WantLemmas.{input_starved, unstarved}
use Rattle.rws_session.specs.State.{State}
use Rattle.rws_session.specs.Kept.{Is, Kept, Stands}
use Rattle.rws_session.specs.Turning.{heard, heard_open, on_link}
use Rattle.rws_session.specs.declared.input.SessionInput.{SessionInput}
use Rattle.rws_session.specs.declared.input.SessionInput.TheVariants as inputs
use Rattle.rws_worker.specs.declared.ahead.Ahead.TheVariants.{Going}
use Rattle.rws_worker.specs.declared.asker.Telling.{Telling}
use Rattle.rws_worker.specs.declared.tally.Tally.{Tally}
use Rattle.rws_worker.specs.declared.worker.Worker.{Worker}
use Rattle.rws_worker.specs.declared.worker.telling.TurnEnd.{TurnEnd}
use Rattle.rws_worker.specs.declared.worker.telling.TurnEnd.TheVariants as ends
use Rattle.rws_worker.specs.InTurn.{InTurn, IsBetween}
use Rattle.rws_worker.specs.Standing.{Advances, Gives, IsBehind, IsOn, IsSeated, SeatStands, ToTell, holds, interactions_of, told_item, told_through, told_with, WorkerStands}
use Rattle.rws_worker.specs.Stepping.{from_of, IsBare, IsIdle}
use Rattle.rws_worker.specs.Tallies.{Fits, plus, seven, tally_but, tally_in, tally_of}
use Rattle.rws_worker.specs.Telling.{Changes, CountsIn, CountsOut, Finishes, IsToOne, TurnsOut}
use Rattle.rws_worker.proofs.RecordLemmas.{heard_here}
use Rattle.rws_worker.proofs.EndLemmas.{settled}
use Rattle.rws_worker.proofs.EventLemmas.{between, came_between, counted_apart, hears, idle_untold, nothing_told}
use Rattle.rws_worker.proofs.StepsLemmas.{bare_has_none, bare_on, going_does}
use Rattle.rws_worker.proofs.TallyLemmas.{seven_same, tally_fits, tally_with}
use Rattle.rws_worker.proofs.TurnLemmas.{moved}

-- What is heard of an input is one

by_link : (test : Bool) (its item : Item) (past : List Item) → (test ≡ true → IsInput its past) → on_link test its ≡ Some item → IsInput item past
by_link true its item past input e = let same : its ≡ item = cc in subst (λ (i : Item). IsInput i past) same (input refl)
by_link false its item past input e = absurd cc

open_input : (input : SessionInput) (past : List Item) (item : Item) → heard_open input past ≡ Some item → IsInput item past
open_input (inputs.Client bytes) past item e = let same : ClientBytes bytes ≡ item = cc in subst (λ (i : Item). IsInput i past) same tt
open_input inputs.ClientGone past item e = let same : ClientGone ≡ item = cc in subst (λ (i : Item). IsInput i past) same tt
open_input (inputs.Ready link) past item e =
    by_link (contains link (links past) && is_new (linked link past)) (LinkReady link) item past
    (λ t. let both = and_parts (contains link (links past)) (is_new (linked link past)) t in (contained link (links past) both.0, both.1)) e
open_input (inputs.Link link bytes) past item e =
    by_link (contains link (links past)) (LinkBytes link bytes) item past (λ t. contained link (links past) t) e
open_input (inputs.LinkGone link) past item e =
    by_link (contains link (links past)) (LinkLost link) item past (λ t. contained link (links past) t) e
open_input (inputs.Clock reading) past item e = let same : Ticks reading ≡ item = cc in subst (λ (i : Item). IsInput i past) same tt

heard_input : (over : Bool) (input : SessionInput) (past : List Item) (item : Item)
    → (if over then None else heard_open input past) ≡ Some item → IsInput item past
heard_input true input past item e = absurd cc
heard_input false input past item e = open_input input past item e

input_unanswered : (item : Item) (past : List Item) → IsInput item past → is_answered (item ∷ past) ≡ false
input_unanswered (ClientBytes bytes) past input = refl
input_unanswered ClientGone past input = refl
input_unanswered (LinkReady link) past input = refl
input_unanswered (LinkBytes link bytes) past input = refl
input_unanswered (LinkLost link) past input = refl
input_unanswered (Ticks reading) past input = refl
input_unanswered _ past input = absurd input

input_unasking : (item : Item) (past : List Item) → IsInput item past → asking past ≡ false → asking (item ∷ past) ≡ false
input_unasking (ClientBytes bytes) past input none = none
input_unasking ClientGone past input none = none
input_unasking (LinkReady link) past input none = none
input_unasking (LinkBytes link bytes) past input none = none
input_unasking (LinkLost link) past input none = none
input_unasking (Ticks reading) past input none = none
input_unasking _ past input none = absurd input

-- Who is told

-- one that goes on isn't over
pub live_open : (past : List Item) → is_live past ≡ true → is_over past ≡ false
live_open [] live = refl
live_open (item ∷ past) live = by_test (is_over (item ∷ past)) live
  where
    by_test : (over : Bool) → not over ≡ true → over ≡ false
    by_test true e = absurd cc
    by_test false e = refl

both_so : (session : ℕ) (item : Item) (test : Bool) → if_so test (session, item) ≡ told_item session (on_link test item)
both_so session item true = refl
both_so session item false = refl

by_live : (session : ℕ) (item : Item) (test live over : Bool) → (live ≡ true → over ≡ false)
    → if_so (live && test) (session, item) ≡ (if live then told_item session (if over then None else on_link test item) else [])
by_live session item test false over not_over = refl
by_live session item test true false not_over = both_so session item test
by_live session item test true true not_over = absurd (let clash : true ≡ false = not_over refl in cc)

-- an input of a link is told as it is heard
pub told_as : (link : ℕ) (item : Item) (is_so : LinkState → Bool) (input : SessionInput)
    → ((past : List Item) → heard_open input past ≡ on_link (contains link (links past) && is_so (linked link past)) item)
    → (o : Option ℕ) (run : List Entry) → told_on link item is_so o run ≡ told_through o input run
told_as link item is_so input fits None run = refl
told_as link item is_so input fits (Some session) run =
    let past : List Item = record_of session run in
    by_live session item (contains link (links past) && is_so (linked link past)) (is_live past) (is_over past) (live_open past)
    ∙ ap (λ (o : Option Item). if is_live past then told_item session (if is_over past then None else o) else []) (sym (fits past))

and_true : (b : Bool) → b ≡ (b && true)
and_true true = refl
and_true false = refl

pub ready_as : (link : ℕ) (o : Option ℕ) (run : List Entry)
    → told_on link (LinkReady link) (λ state. is_new state) o run ≡ told_through o (inputs.Ready link) run
ready_as link = told_as link (LinkReady link) (λ state. is_new state) (inputs.Ready link) (λ past. refl)

pub bytes_as : (link : ℕ) (bytes : List ℕ) (o : Option ℕ) (run : List Entry)
    → told_on link (LinkBytes link bytes) (λ state. true) o run ≡ told_through o (inputs.Link link bytes) run
bytes_as link bytes = told_as link (LinkBytes link bytes) (λ state. true) (inputs.Link link bytes)
    (λ past. ap (λ (b : Bool). on_link b (LinkBytes link bytes)) (and_true (contains link (links past))))

pub loss_as : (link : ℕ) (o : Option ℕ) (run : List Entry)
    → told_on link (LinkLost link) (λ state. true) o run ≡ told_through o (inputs.LinkGone link) run
loss_as link = told_as link (LinkLost link) (λ state. true) (inputs.LinkGone link)
    (λ past. ap (λ (b : Bool). on_link b (LinkLost link)) (and_true (contains link (links past))))

client_by : (session : ℕ) (item : Item) (live over : Bool) → (live ≡ true → over ≡ false)
    → if_so live (session, item) ≡ (if live then told_item session (if over then None else Some item) else [])
client_by session item false over not_over = refl
client_by session item true false not_over = refl
client_by session item true true not_over = absurd (let clash : true ≡ false = not_over refl in cc)

-- an input of the client too
pub client_as : (session : ℕ) (item : Item) (input : SessionInput) → ((past : List Item) → heard_open input past ≡ Some item)
    → (run : List Entry) → told_to session item run ≡ told_with session input (record_of session run)
client_as session item input fits run =
    let past : List Item = record_of session run in
    client_by session item (is_live past) (is_over past) (live_open past)
    ∙ ap (λ (o : Option Item). if is_live past then told_item session (if is_over past then None else o) else []) (sym (fits past))

-- A link of which nobody is known that has it

unheard_by : (over has : Bool) (item : Item) → has ≡ false → (if over then None else on_link has item) ≡ None
unheard_by true has item none = refl
unheard_by false true item none = absurd cc
unheard_by false false item none = refl

none_so : (has so : Bool) → has ≡ false → (has && so) ≡ false
none_so true so none = absurd cc
none_so false so none = refl

pub ready_is_on : (link : ℕ) → IsOn link (inputs.Ready link)
ready_is_on link past none =
    unheard_by (is_over past) (contains link (links past) && is_new (linked link past)) _
    (none_so (contains link (links past)) (is_new (linked link past)) none)

pub bytes_are_on : (link : ℕ) (bytes : List ℕ) → IsOn link (inputs.Link link bytes)
bytes_are_on link bytes past none = unheard_by (is_over past) (contains link (links past)) _ none

pub loss_is_on : (link : ℕ) → IsOn link (inputs.LinkGone link)
loss_is_on link past none = unheard_by (is_over past) (contains link (links past)) _ none

-- tells nobody anything
module _ (link : ℕ) (input : SessionInput) (run : List Entry) (on : IsOn link input) where
  by_holder : (session : ℕ) (live has : Bool) → contains link (links (record_of session run)) ≡ has → (live && has) ≡ false
      → (if live then told_item session (heard input (record_of session run)) else []) ≡ []
  by_holder session false has h none = refl
  by_holder session true true h none = absurd cc
  by_holder session true false h none = ap (told_item session) (on (record_of session run) h)

  pub unheard : (o : Option ℕ) → ((session : ℕ) → o ≡ Some session → holds link (record_of session run) ≡ false)
      → told_through o input run ≡ []
  unheard None held = refl
  unheard (Some session) held =
      by_holder session (is_live (record_of session run)) (contains link (links (record_of session run))) refl (held session refl)

-- what is not true is false
pub not_true : (b : Bool) → (b ≡ true → ⊥) → b ≡ false
not_true true no_ = absurd (no_ refl)
not_true false no_ = refl

-- A session isn't counted in its turn

pub counts_out : {config : Config} {old : Worker} {run : List Entry} → IsBetween config old run → (new : Worker) (session : ℕ) (kept : Kept)
    → get nat_cmp old.sessions session ≡ Some kept → CountsOut (get nat_cmp old.sessions session) old new
    → new.tallies ≡ seven (λ server. tally_but session run server)
counts_out {config} {old} {run} b new session kept found counts =
    let seat : IsSeated config session false kept run = subst (λ (o : Option Kept). SeatStands config session false o run) found (b.seats session) in
    let so : CountsOut (Some kept) old new = subst (λ (o : Option Kept). CountsOut o old new) found counts in
    so config (record_of session run) seat.stands.is (λ server. tally_but session run server)
    (b.tallied ∙ seven_same (λ server. tally_of run server) (λ server. plus (tally_but session run server) (tally_in (record_of session run) server))
    (tally_with session run b.legal seat.live))

-- nobody is told, since the session isn't there
pub told_nobody : {config : Config} {old : Worker} {run : List Entry} → IsBetween config old run → (session : ℕ) (input : SessionInput)
    → get nat_cmp old.sessions session ≡ None → told_with session input (record_of session run) ≡ []
told_nobody {config} {old} {run} b session input none =
    let gone : is_live (record_of session run) ≡ false = subst (λ (o : Option Kept). SeatStands config session false o run) none (b.seats session) in
    ap (λ (l : Bool). if l then told_item session (heard input (record_of session run)) else []) gone

-- with sessions that are the same, and the counts as well
pub between_same : {config : Config} {old new : Worker} {run : List Entry} → IsBetween config old run
    → ((session : ℕ) → get nat_cmp new.sessions session ≡ get nat_cmp old.sessions session) → new.owners ≡ old.owners → new.last_link ≡ old.last_link
    → new.greatest ≡ old.greatest → new.now_ms ≡ old.now_ms → new.tallies ≡ old.tallies → new.spent ≡ old.spent → IsBetween config new run
between_same {config} {old} {new} {run} b sessions owners links_ greatest_ clock_ tallies_ spent_ = record {
  legal = b.legal;
  steps_none = b.steps_none;
  answers_none = b.answers_none;
  observed = b.observed;
  seats = λ session. subst (λ (o : Option Kept). SeatStands config session false o run) (sym (sessions session)) (b.seats session);
  fetched = λ session kept e. b.fetched session kept (sym (sessions session) ∙ e);
  owned = λ link session e. b.owned link session (ap (λ (m : BTreeMap ℕ ℕ). get nat_cmp m link) (sym owners) ∙ e);
  owns = λ link session o h. ap (λ (m : BTreeMap ℕ ℕ). get nat_cmp m link) owners ∙ b.owns link session o h;
  links = links_ ∙ b.links;
  numbers = let l = links_ in let n = b.numbers in omega arith;
  begun = greatest_ ∙ b.begun;
  clock = clock_ ∙ b.clock;
  tallied = tallies_ ∙ b.tallied;
  unspent = spent_ ∙ b.unspent;
}

-- A session has its turn

module _ {config : Config} {old : Worker} {run : List Entry} (b : IsBetween config old run) (bare : IsBare old) (session : ℕ) (kept kept' : Kept)
    (found : get nat_cmp old.sessions session ≡ Some kept) (behind : IsBehind (from_of old.telling) session) (more : List (ℕ × Item))
    (tells : ToTell (from_of old.telling) old.now_ms run more) (tallies : List Tally) (out : tallies ≡ seven (λ server. tally_but session run server))
    (sessions : BTreeMap ℕ Kept) (changes : Changes old.sessions sessions session (Some kept'))
    (new : Worker) (end : TurnEnd) (finishes : Finishes end session (record old { tallies = tallies; sessions = sessions }) new) where
  abbrev past : List Item
  past = record_of session run

  abbrev mid : Worker
  mid = record old { tallies = tallies; sessions = sessions }

  seat : IsSeated config session false kept run
  seat = subst (λ (o : Option Kept). SeatStands config session false o run) found (b.seats session)

  empty : kept.outs ≡ []
  empty = b.fetched session kept found

  same_seats : kept' ≡ kept → (n : ℕ) → get nat_cmp sessions n ≡ get nat_cmp old.sessions n
  same_seats same n = ⊎_elim
      (λ (here : session ≡ n). subst (λ (m : ℕ). get nat_cmp sessions m ≡ get nat_cmp old.sessions m) here
      (changes.here ∙ ap (λ (k : Kept). Some k) same ∙ sym found))
      (λ (apart : session ≡ n → ⊥). changes.apart n apart)
      (cases_eq session n)

  -- it heard nothing, and is counted as before
  goes_same : kept' ≡ kept → untold config run ≡ more → Finishes ends.Goes session mid new
      → Advances config (interactions_of run) (events_of run) new
  goes_same same nothing f =
      let counts : CountsIn (Some kept') mid new = subst (λ (o : Option Kept). CountsIn o mid new) changes.here f.0 in
      let with_it = tally_with session run b.legal seat.live in
      let below = let l = b.links in let n = b.numbers in tally_fits session run b.legal (omega arith) in
      let counted : new.tallies ≡ old.tallies =
      counts config past (subst (λ (k : Kept). Is config k past) (sym same) seat.stands.is) (λ server. tally_but session run server) out
      (λ server. subst Fits (with_it server) (below server))
      ∙ seven_same (λ server. plus (tally_but session run server) (tally_in past server)) (λ server. tally_of run server) (λ server. sym (with_it server))
      ∙ sym b.tallied in
      let now : Worker = record mid { ahead = Going session; tallies = new.tallies } in
      subst (λ (v : Worker). Advances config (interactions_of run) (events_of run) v) (sym f.1)
      (nothing_told {worker = now} (between_same {new = now} b (same_seats same) refl refl refl refl counted refl) bare.unasked
      (going_does now session false kept' refl changes.here bare.unbroken bare.unclosed bare.unobserved bare.unasked
      ∙ append-nil (map done_as kept'.outs) ∙ ap (λ (k : Kept). map done_as k.outs) same ∙ ap (map done_as) empty)
      (subst (λ (list : List (ℕ × Item)). ToTell (from_of old.telling) old.now_ms run list) (sym nothing) tells))

  not_ended : {A : Type 0} → kept' ≡ kept → kept'.state.over ≡ true → A
  not_ended same over =
      let not_over : is_over past ≡ false = live_open past seat.live in
      let is : kept.state.over ≡ is_over past = ap (λ (s : State). s.over) seat.stands.is.mirrors in
      let was : kept'.state.over ≡ kept.state.over = ap (λ (k : Kept). k.state.over) same in
      let clash : true ≡ false = sym over ∙ was ∙ is ∙ not_over in absurd cc

  heard_something : (item : Item) → IsInput item past → untold config run ≡ (session, item) ∷ more
      → TurnsOut config (Some item) past kept kept' end → Advances config (interactions_of run) (events_of run) new
  heard_something item input told_so turned_out =
      let none = input_opens_none item past input in
      let fed : is_starved (item ∷ past) ≡ false = input_starved past item input
      ∙ unstarved seat.stands.is.legal (rests_owing_nothing config past seat.stands.rests seat.stands.unasking) (live_open past seat.live) in
      let silent = input_unasking item past input seat.stands.unasking in
      let start : List Entry = Heard session item ∷ run in
      let t = hears b bare session item none more told_so behind tells silent tallies
      (out ∙ seven_same (λ server. tally_but session run server) (λ server. tally_but session start server)
      (counted_apart b bare session item none more told_so behind tells silent (begins_no_more run session item input)))
      (λ link has. rw (seat.live, has) refl) in
      let t' : InTurn config (interactions_of run) (events_of run) session (record old { tallies = tallies }) true start kept.outs =
      subst (λ (xs : List Output). InTurn config (interactions_of run) (events_of run) session (record old { tallies = tallies }) true start xs) (sym empty) t in
      settled kept kept' (moved t' sessions changes) (heard_here session item run) seat.numbered
      (plain_unless_answered config (item ∷ past) (input_unanswered item past input)) fed silent changes.here new end turned_out finishes

  by_end : (its : TurnEnd) → untold config run ≡ more → TurnsOut config None past kept kept' its
      → Finishes its session mid new → Advances config (interactions_of run) (events_of run) new
  by_end ends.Goes nothing turned_out f = goes_same turned_out nothing f
  by_end ends.Ends nothing turned_out f = not_ended turned_out.0 turned_out.1
  by_end ends.Asks nothing turned_out f = absurd turned_out
  by_end ends.Breaks nothing turned_out f = absurd turned_out
  by_end ends.Starves nothing turned_out f = absurd turned_out

  by_heard : (o : Option Item) → ((item : Item) → o ≡ Some item → IsInput item past) → untold config run ≡ told_item session o ++ more
      → TurnsOut config o past kept kept' end → Advances config (interactions_of run) (events_of run) new
  by_heard (Some item) input told_so turned_out = heard_something item (input item refl) told_so turned_out
  by_heard None input told_so turned_out = by_end end told_so turned_out finishes

  pub turned : (input : SessionInput) → untold config run ≡ told_with session input past ++ more
      → TurnsOut config (heard input past) past kept kept' end → Advances config (interactions_of run) (events_of run) new
  turned input told_so turned_out =
      by_heard (heard input past) (heard_input (is_over past) input past)
      (told_so ∙ ap (λ (l : Bool). (if l then told_item session (heard input past) else []) ++ more) seat.live) turned_out

-- as it is called

module _ {config : Config} {old : Worker} {run : List Entry} (b : IsBetween config old run) (bare : IsBare old) (session : ℕ) (input : SessionInput) where
  pub tells_nobody : (more : List (ℕ × Item)) → ToTell (from_of old.telling) old.now_ms run more
      → untold config run ≡ told_with session input (record_of session run) ++ more → (mid : Worker) → mid ≡ record old { tallies = mid.tallies }
      → CountsOut (get nat_cmp old.sessions session) old mid → get nat_cmp mid.sessions session ≡ None → (sessions : BTreeMap ℕ Kept)
      → ((n : ℕ) → get nat_cmp sessions n ≡ get nat_cmp mid.sessions n)
      → Advances config (interactions_of run) (events_of run) (record mid { sessions = sessions })
  tells_nobody more tells told mid same counts none sessions are =
      let sessions_same : mid.sessions ≡ old.sessions = ap (λ (v : Worker). v.sessions) same in
      let none_old : get nat_cmp old.sessions session ≡ None = ap (λ (m : BTreeMap ℕ Kept). get nat_cmp m session) (sym sessions_same) ∙ none in
      let so : CountsOut None old mid = subst (λ (o : Option Kept). CountsOut o old mid) none_old counts in
      let new : Worker = record mid { sessions = sessions } in
      let nothing : untold config run ≡ more = told ∙ ap (λ (list : List (ℕ × Item)). list ++ more) (told_nobody b session input none_old) in
      let telling : mid.telling ≡ old.telling = ap (λ (v : Worker). v.telling) same in
      let clock : mid.now_ms ≡ old.now_ms = ap (λ (v : Worker). v.now_ms) same in
      let its = bare_on old new (ap (λ (v : Worker). v.ahead) same) (ap (λ (v : Worker). v.broken) same) (ap (λ (v : Worker). v.closing) same)
      (ap (λ (v : Worker). v.observed) same) (ap (λ (v : Worker). v.asker) same) bare in
      nothing_told {worker = new} (between_same {new = new} b
      (λ n. are n ∙ ap (λ (m : BTreeMap ℕ Kept). get nat_cmp m n) sessions_same)
      (ap (λ (v : Worker). v.owners) same) (ap (λ (v : Worker). v.last_link) same) (ap (λ (v : Worker). v.greatest) same) clock so
      (ap (λ (v : Worker). v.spent) same)) its.unasked (bare_has_none new its)
      (subst (λ (t : Telling). ToTell (from_of t) mid.now_ms run (untold config run)) (sym telling)
      (subst (λ (n : ℕ). ToTell (from_of old.telling) n run (untold config run)) (sym clock)
      (subst (λ (list : List (ℕ × Item)). ToTell (from_of old.telling) old.now_ms run list) (sym nothing) tells)))

  pub tells_one : IsBehind (from_of old.telling) session → (more : List (ℕ × Item)) → ToTell (from_of old.telling) old.now_ms run more
      → untold config run ≡ told_with session input (record_of session run) ++ more → (mid : Worker) → mid ≡ record old { tallies = mid.tallies }
      → CountsOut (get nat_cmp old.sessions session) old mid → (kept kept' : Kept) → get nat_cmp mid.sessions session ≡ Some kept
      → (sessions : BTreeMap ℕ Kept) → Changes mid.sessions sessions session (Some kept') → (new : Worker) (end : TurnEnd)
      → Finishes end session (record mid { sessions = sessions }) new
      → ((past : List Item) → Stands config kept past → TurnsOut config (heard input past) past kept kept' end)
      → Advances config (interactions_of run) (events_of run) new
  tells_one behind more tells told mid same counts kept kept' found_mid sessions changed new end finishes turned_out =
      let sessions_same : mid.sessions ≡ old.sessions = ap (λ (v : Worker). v.sessions) same in
      let found : get nat_cmp old.sessions session ≡ Some kept = ap (λ (m : BTreeMap ℕ Kept). get nat_cmp m session) (sym sessions_same) ∙ found_mid in
      let seat : IsSeated config session false kept run = subst (λ (o : Option Kept). SeatStands config session false o run) found (b.seats session) in
      turned b bare session kept kept' found behind more tells mid.tallies (counts_out b mid session kept found counts) sessions
      (subst (λ (m : BTreeMap ℕ Kept). Changes m sessions session (Some kept')) sessions_same changed) new end
      (subst (λ (v : Worker). Finishes end session (record v { sessions = sessions }) new) same finishes) input told
      (turned_out (record_of session run) seat.stands)

-- an event that tells one session something

pub came_to_one : {config : Config} {old : Worker} {run : List Entry} → WorkerStands config old run → IsIdle old → (event : Event) → IsToOne event
    → IsBetween config old (Came event ∷ run)
came_to_one {config} {old} {run} w idle event one =
    came_between (between w idle.bare) (idle_untold w idle.all_told) event (one.no_round config) old.greatest old.now_ms
    (let g = w.begun in let z = one.begins_none in omega arith) (w.clock ∙ sym (one.no_reading (last_clock run)))

pub hears_event : {config : Config} {old new : Worker} {run : List Entry} → WorkerStands config old run → IsIdle old → (event : Event) → IsToOne event
    → (session : ℕ) (input : SessionInput) → told_by config event run ≡ told_with session input (record_of session run)
    → ((now : List Entry) → IsBetween config old now → IsBare old → IsBehind (from_of old.telling) session → (more : List (ℕ × Item))
    → ToTell (from_of old.telling) old.now_ms now more → untold config now ≡ told_with session input (record_of session now) ++ more
    → Advances config (interactions_of now) (events_of now) new)
    → Gives config run event new
hears_event {config} {old} {new} {run} w idle event one session input told tells =
    tells (Came event ∷ run) (came_to_one w idle event one) idle.bare (subst (λ (o : Option ℕ). IsBehind o session) (sym idle.all_told) tt) []
    (subst (λ (o : Option ℕ). ToTell o old.now_ms (Came event ∷ run) []) (sym idle.all_told) refl)
    (told ∙ sym (append-nil (told_with session input (record_of session run))))

-- and one that tells nobody anything
pub nobody_hears : {config : Config} {old : Worker} {run : List Entry} → WorkerStands config old run → IsIdle old → (event : Event) → IsToOne event
    → told_by config event run ≡ [] → Gives config run event old
nobody_hears {config} {old} {run} w idle event one none =
    nothing_told (came_to_one w idle event one) idle.bare.unasked (bare_has_none old idle.bare)
    (subst (λ (o : Option ℕ). ToTell o old.now_ms (Came event ∷ run) (told_by config event run)) (sym idle.all_told) none)

-- one by which a session was to begin too
pub nobody_begins : {config : Config} {old : Worker} {run : List Entry} → WorkerStands config old run → IsIdle old → (event : Event) → (number : ℕ)
    → number ≡ max (begun_by event) old.greatest → round_of config event ≡ None → ((before : ℕ) → reading_by event before ≡ before)
    → told_by config event run ≡ [] → Gives config run event (record old { greatest = number })
nobody_begins {config} {old} {run} w idle event number is no_round no_reading none =
    let new : Worker = record old { greatest = number } in
    let its = bare_on old new refl refl refl refl refl idle.bare in
    nothing_told {worker = new} (came_between (between w idle.bare) (idle_untold w idle.all_told) event no_round number old.now_ms
    (is ∙ ap (max (begun_by event)) w.begun) (w.clock ∙ sym (no_reading (last_clock run)))) its.unasked (bare_has_none new its)
    (subst (λ (o : Option ℕ). ToTell o old.now_ms (Came event ∷ run) (told_by config event run)) (sym idle.all_told) none)
