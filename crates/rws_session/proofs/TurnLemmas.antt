-- A whole turn: what is heard, and the steps until the session rests.
use Rattle.std.proofs.Common.{◌≡◌, ℕ, Bool, true, false, List, [], ◌∷◌, ◌++◌, refl, sym, ap, subst, ◌∙◌, Option, Some, None, Result, Ok, Err, IfOk}
use Rattle.std.specs.Prelude.{◌==◌, ◌&&◌, Contains, OnErr}
use Rattle.std.proofs.lemmas.Bool.{and_parts}
use Rattle.std.specs.List.{list_any}
use Rattle.std.proofs.Common.{map}
use Rattle.std.proofs.lemmas.List.{append-nil, append_assoc}
use Rattle.rws_front.specs.Fronting.{fed}
use Rattle.rws_link.specs.Stepping.{is_new}
use Rattle.rws_config.specs.declared.config.Config.{Config}
use Rattle.rws_record.specs.declared.output.Output.{Output}
use Rattle.rws_record.specs.Item.{Item, Put}
use Rattle.rws_record.specs.Item.Item.{LinkBytes}
use Rattle.rws_record.specs.Values.{asking, contains, is_over, linked, links}
use Rattle.rws_record.specs.Rules.{after_loss, due_arrival, due_flood, due_route, due_sends, due_take, next, owed}
use Rattle.rws_record.specs.Record.IsRecord.{steps, hears}
use Rattle.rws_record.specs.Record.GoesOn.{stays, then as goes_then}
use Rattle.rws_record.specs.Outputs.{outputs_of, outs_of}
use Rattle.rws_record.proofs.RecordLemmas.{contained}
use Rattle.rws_record.proofs.StepLemmas.{rests_owing_nothing}
use Rattle.rws_links.specs.declared.numbered.NumberedLink.{NumberedLink}
use Rattle.rws_session.specs.declared.input.SessionInput.{SessionInput}
use Rattle.rws_session.specs.declared.input.SessionInput.TheVariants as inputs
use Rattle.rws_links.specs.Links.{link_of}
use Rattle.rws_session.specs.State.{State, erased}
use Rattle.rws_links.specs.Table.{AreDistinct, ReadiesOn}
use Rattle.rws_session.specs.Kept.{Holds, Is, Kept, Stands, StandsOr}
use Rattle.rws_session.specs.Turning.{heard, heard_open}
use Rattle.rws_session.specs.Steps.{Goes, Hears, Rests, Tries, Went, due_put, ends, loses, stands_at, ticks}
use Rattle.rws_session.specs.Turning.{Settles, Turns}
use Rattle.rws_links.proofs.DistinctLemmas.{links_distinct}
use Rattle.rws_links.proofs.TableLemmas.{has_is, without_is}
use Rattle.rws_session.proofs.MirrorLemmas.{farewells_are}

-- Steps

pub goes_nowhere : (config : Config) (past : List Item) (k : Kept) → Is config k past → Goes config past k k
goes_nowhere config past k is = record {
  reached = past;
  went_on = stays;
  is = is;
  number = refl;
  more = [];
  given = sym (append-nil (outputs_of k.number past));
  waits = sym (append-nil k.outs);
}

-- one more step
pub goes_on : (config : Config) (past : List Item) (old mid new : Kept) → (g : Goes config past old mid)
    → Tries config (next config g.reached) g.reached true mid new → Goes config past old new
goes_on config past old mid new g went =
    let gives : List Output = outs_of old.number went.item g.reached in
    record {
      reached = went.item ∷ g.reached;
      went_on = goes_then g.went_on went.is_due;
      is = record { mirrors = went.made.state; legal = steps g.is.legal went.is_due };
      number = went.made.number ∙ g.number;
      more = g.more ++ gives;
      given = ap (λ (before : List Output). before ++ gives) g.given ∙ append_assoc (outputs_of old.number past) g.more gives;
      waits = went.made.outs
          ∙ ap (λ (n : ℕ). mid.outs ++ outs_of n went.item g.reached) g.number
          ∙ ap (λ (before : List Output). before ++ gives) g.waits
          ∙ append_assoc old.outs g.more gives;
    }

-- no more step
pub comes_to_rest : (config : Config) (past : List Item) (old mid new : Kept) → (g : Goes config past old mid)
    → Tries config (next config g.reached) g.reached false mid new → Rests config past old new new.state.asking
comes_to_rest config past old mid new g none =
    subst (λ (k : Kept). Rests config past old k k.state.asking) (sym none.1)
    (record { goes = g; stands = by_asking (asking g.reached) refl })
  where
    asks_so : mid.state.asking ≡ asking g.reached
    asks_so = ap (λ (s : State). s.asking) g.is.mirrors

    by_asking : (asks : Bool) → asking g.reached ≡ asks → StandsOr mid.state.asking config mid g.reached
    by_asking false a =
        subst (λ (asks : Bool). StandsOr asks config mid g.reached) (sym (asks_so ∙ a))
        (record { is = g.is; rests = none.0; unasking = a })
    by_asking true a =
        subst (λ (asks : Bool). StandsOr asks config mid g.reached) (sym (asks_so ∙ a)) (record { is = g.is; asks = a })

-- where the worker's answer is awaited there is no step
pub asks_already : (config : Config) (past : List Item) (k : Kept) → Is config k past → k.state.asking ≡ true → next config past ≡ None
asks_already config past k is e =
    let asks : asking past ≡ true = sym (ap (λ (s : State). s.asking) is.mirrors) ∙ e in rw asks refl

-- else it is what is owed or due
pub unasking_of : (config : Config) (past : List Item) (k : Kept) → Is config k past → k.state.asking ≡ false → asking past ≡ false
unasking_of config past k is e = sym (ap (λ (s : State). s.asking) is.mirrors) ∙ e

-- Nothing was owed nor asked, and memory was wanting where something was to be sent.
pub sent_in_part : (config : Config) (past : List Item) (old k1 k2 new : Kept) → Is config old past → old.state.asking ≡ false
    → Tries config (due_put (owed config past)) past false old k1
    → (Is config k1 past → owed config past ≡ [] → asking past ≡ false → Tries config (due_route config past) past false k1 k2)
    → (Is config k2 past → Holds k2 new) → Holds old new
sent_in_part config past old k1 k2 new is unasked paid asked holds =
    let is_1 = subst (λ (k : Kept). Is config k past) (sym paid.1) is in
    let none = asked is_1 (by_owed (owed config past) paid.0) (unasking_of config past old is unasked) in
    let is_2 = subst (λ (k : Kept). Is config k past) (sym none.1) is_1 in
    subst (λ (k : Kept). Holds k new) (none.1 ∙ paid.1) (holds is_2)
  where
    by_owed : (list : List Put) → due_put list ≡ None → list ≡ []
    by_owed [] e = refl
    by_owed (put ∷ others) e = absurd cc

-- No kind of step went but the last three.
module _ (config : Config) (past : List Item) (old k1 k2 k3 : Kept) (is : Is config old past) (unasked : old.state.asking ≡ false)
    (open_still : k1.state.over ≡ false) (paid : Tries config (due_put (owed config past)) past false old k1)
    (asked : Is config k1 past → owed config past ≡ [] → asking past ≡ false → Tries config (due_route config past) past false k1 k2)
    (sent : Is config k2 past → owed config past ≡ [] → Tries config (due_sends config (links past) past) past false k2 k3) where
  owes_none : owed config past ≡ []
  owes_none = by_owed (owed config past) paid.0
    where
      by_owed : (list : List Put) → due_put list ≡ None → list ≡ []
      by_owed [] e = refl
      by_owed (put ∷ others) e = absurd cc

  asks_none : asking past ≡ false
  asks_none = unasking_of config past old is unasked

  is_1 : Is config k1 past
  is_1 = subst (λ (k : Kept). Is config k past) (sym paid.1) is

  asked_none : Tries config (due_route config past) past false k1 k2
  asked_none = asked is_1 owes_none asks_none

  is_2 : Is config k2 past
  is_2 = subst (λ (k : Kept). Is config k past) (sym asked_none.1) is_1

  sent_none : Tries config (due_sends config (links past) past) past false k2 k3
  sent_none = sent is_2 owes_none

  is_3 : Is config k3 past
  is_3 = subst (λ (k : Kept). Is config k past) (sym sent_none.1) is_2

  same_3 : k3 ≡ old
  same_3 = sent_none.1 ∙ asked_none.1 ∙ paid.1

  over_none : is_over past ≡ false
  over_none = sym (ap (λ (s : State). s.over) is_1.mirrors) ∙ open_still

  pub flooded_in_part : (new : Kept) → Holds k3 new → Holds old new
  flooded_in_part new holds = subst (λ (k : Kept). Holds k new) same_3 holds

  -- nor did a flood break it off
  module _ (k4 : Kept) (flooded : Is config k3 past → owed config past ≡ [] → Tries config (due_flood config past) past false k3 k4) where
    flooded_none : Tries config (due_flood config past) past false k3 k4
    flooded_none = flooded is_3 owes_none

    is_4 : Is config k4 past
    is_4 = subst (λ (k : Kept). Is config k past) (sym flooded_none.1) is_3

    same_4 : k4 ≡ old
    same_4 = flooded_none.1 ∙ same_3

    -- what came on the links was taken in
    pub read_went : (new : Kept) → (Is config k4 past → owed config past ≡ [] → Went config (due_arrival (links past) past) past k4 new)
        → Went config (next config past) past old new
    read_went new read =
        let went = read is_4 owes_none in
        let due : next config past ≡ Some went.item =
        rw (asks_none, owes_none, over_none, asked_none.0, sent_none.0, flooded_none.0, went.is_due) refl in
        subst (λ (k : Kept). Went config (next config past) past k new) same_4 (record { item = went.item; is_due = due; made = went.made })

    pub read_in_part : (new : Kept) → Holds k4 new → Holds old new
    read_in_part new holds = subst (λ (k : Kept). Holds k new) same_4 holds

    -- and nothing came on the links: what comes next is what comes of the client
    module _ (k5 : Kept) (read : Is config k4 past → owed config past ≡ [] → Tries config (due_arrival (links past) past) past false k4 k5) where
      read_none : Tries config (due_arrival (links past) past) past false k4 k5
      read_none = read is_4 owes_none

      is_5 : Is config k5 past
      is_5 = subst (λ (k : Kept). Is config k past) (sym read_none.1) is_4

      next_taken : next config past ≡ due_take config past
      next_taken = rw (asks_none, owes_none, over_none, asked_none.0, sent_none.0, flooded_none.0, read_none.0) refl

      pub stepped : (new : Kept) {E : Type 0} (result : Result Bool E)
          → (Is config k5 past → owed config past ≡ [] → IfOk result (λ went. Tries config (due_take config past) past went k5 new))
          → IfOk result (λ went. Tries config (next config past) past went old new)
      stepped new result took =
          subst (λ (k : Kept). IfOk result (λ went. Tries config (next config past) past went k new)) (read_none.1 ∙ same_4)
          (subst (λ (item : Option Item). IfOk result (λ went. Tries config item past went k5 new)) (sym next_taken) (took is_5 owes_none))

      pub stepped_in_part : (new : Kept) {T E : Type 0} (result : Result T E) → OnErr result (Holds k5 new) → OnErr result (Holds old new)
      stepped_in_part new result holds = subst (λ (k : Kept). OnErr result (Holds k new)) (read_none.1 ∙ same_4) holds

-- What is heard

pub record Hearing (config : Config) (past : List Item) (k : Kept) : Type 0 where
  pub is : Is config k past
  pub rests : next config past ≡ None
  pub unasking : asking past ≡ false
  pub goes_on : is_over past ≡ false

pub hearing : (config : Config) (past : List Item) (k : Kept) → Stands config k past → k.state.over ≡ false → Hearing config past k
hearing config past k stands n =
    record { is = stands.is; rests = stands.rests; unasking = stands.unasking; goes_on = sym (ap (λ (s : State). s.over) stands.is.mirrors) ∙ n }

-- what a session that goes on hears
hears_open : (config : Config) (past : List Item) (input : SessionInput) (went : Bool) (old new : Kept) → is_over past ≡ false
    → Hears config (heard_open input past) past went old new → Hears config (heard input past) past went old new
hears_open config past input went old new n h = rw n h

pub hears_nothing : (config : Config) (past : List Item) (input : SessionInput) (k : Kept) → Stands config k past
    → k.state.over ≡ true → Hears config (heard input past) past false k k
hears_nothing config past input k stands over =
    let over : is_over past ≡ true = sym (ap (λ (s : State). s.over) stands.is.mirrors) ∙ over in rw over refl

pub hears_client : (config : Config) (past : List Item) (bytes : List ℕ) (old new : Kept) → Stands config old past
    → old.state.over ≡ false
    → new ≡ record old { state = stands_at (fed old.state.front bytes) old.state }
    → Hears config (heard (inputs.Client bytes) past) past true old new
hears_client config past bytes old new stands n now =
    let h = hearing config past old stands n in
    let o = rests_owing_nothing config past h.rests h.unasking in
    hears_open config past (inputs.Client bytes) true old new h.goes_on (
      ap (λ (k : Kept). k.number) now,
      ap (λ (k : Kept). k.outs) now,
      record {
        mirrors = ap (λ (k : Kept). k.state) now
            ∙ ap (λ (s : State). stands_at (fed s.front bytes) s) h.is.mirrors ∙ rw o refl;
        legal = hears h.is.legal h.rests h.unasking h.goes_on tt;
      },
    )

pub hears_gone : (config : Config) (past : List Item) (old new : Kept) → Stands config old past → old.state.over ≡ false
    → new ≡ record old { state = ends old.state } → Hears config (heard inputs.ClientGone past) past true old new
hears_gone config past old new stands n now =
    let h = hearing config past old stands n in
    hears_open config past inputs.ClientGone true old new h.goes_on (
      ap (λ (k : Kept). k.number) now,
      ap (λ (k : Kept). k.outs) now,
      record {
        mirrors = ap (λ (k : Kept). k.state) now ∙ ap ends h.is.mirrors ∙ rw (farewells_are past (links past)) refl;
        legal = hears h.is.legal h.rests h.unasking h.goes_on tt;
      },
    )

-- a link that the session has

pub has : (config : Config) (past : List Item) (link : ℕ) (k : Kept) (test : Bool) → Is config k past
    → test ≡ list_any (λ (other : NumberedLink). other.number == link) k.state.links → contains link (links past) ≡ test
has config past link k test is e =
    sym (e ∙ ap (λ (s : State). list_any (λ (other : NumberedLink). other.number == link) s.links) is.mirrors ∙ has_is past link (links past))

pub hears_no_bytes : (config : Config) (past : List Item) (link : ℕ) (bytes : List ℕ) (k : Kept) → Stands config k past
    → k.state.over ≡ false → false ≡ list_any (λ (other : NumberedLink). other.number == link) k.state.links
    → Hears config (heard (inputs.Link link bytes) past) past false k k
hears_no_bytes config past link bytes k stands n none =
    let h = hearing config past k stands n in
    hears_open config past (inputs.Link link bytes) false k k h.goes_on (rw (has config past link k false h.is none) refl)

pub hears_no_loss : (config : Config) (past : List Item) (link : ℕ) (k : Kept) → Stands config k past
    → k.state.over ≡ false → false ≡ list_any (λ (other : NumberedLink). other.number == link) k.state.links
    → Hears config (heard (inputs.LinkGone link) past) past false k k
hears_no_loss config past link k stands n none =
    let h = hearing config past k stands n in
    hears_open config past (inputs.LinkGone link) false k k h.goes_on (rw (has config past link k false h.is none) refl)

pub hears_bytes : (config : Config) (past : List Item) (link : ℕ) (bytes : List ℕ) (old new : Kept) → Stands config old past
    → old.state.over ≡ false → true ≡ list_any (λ (other : NumberedLink). other.number == link) old.state.links
    → ((record_of : List Item) (links : List ℕ) → old.state.links ≡ map (link_of record_of) links → AreDistinct links
    → new.state.links ≡ map (link_of (LinkBytes link bytes ∷ record_of)) links)
    → new ≡ record old { state = record old.state { links = new.state.links } }
    → Hears config (heard (inputs.Link link bytes) past) past true old new
hears_bytes config past link bytes old new stands n some fed rest =
    let h = hearing config past old stands n in
    let o = rests_owing_nothing config past h.rests h.unasking in
    let it = has config past link old true h.is some in
    let now = fed past (links past) (ap (λ (s : State). s.links) h.is.mirrors) (links_distinct h.is.legal) in
    hears_open config past (inputs.Link link bytes) true old new h.goes_on
    (rw it (
      ap (λ (k : Kept). k.number) rest,
      ap (λ (k : Kept). k.outs) rest,
      record {
        mirrors = ap (λ (k : Kept). k.state) rest
            ∙ ap (λ (s : State). record s { links = new.state.links }) h.is.mirrors ∙ rw (o, now) refl;
        legal = hears h.is.legal h.rests h.unasking h.goes_on (contained link (links past) it);
      },
    ))

-- a link counts as ready, or there is none that is new

pub hears_ready : (config : Config) (past : List Item) (link : ℕ) (went : Bool) (old new : Kept) → Stands config old past
    → old.state.over ≡ false
    → ((record_of : List Item) (links : List ℕ) → old.state.links ≡ map (link_of record_of) links → AreDistinct links
    → ReadiesOn link record_of links went new.state.links)
    → new ≡ record old { state = record old.state { links = new.state.links } }
    → Hears config (heard (inputs.Ready link) past) past went old new
hears_ready config past link went old new stands n readies rest =
    let h = hearing config past old stands n in
    let o = rests_owing_nothing config past h.rests h.unasking in
    let now = readies past (links past) (ap (λ (s : State). s.links) h.is.mirrors) (links_distinct h.is.legal) in
    hears_open config past (inputs.Ready link) went old new h.goes_on (by_result went o h now)
  where
    new_there : (contains link (links past) && is_new (linked link past)) ≡ true
        → Contains (links past) link × (is_new (linked link past) ≡ true)
    new_there both =
        let parts = and_parts (contains link (links past)) (is_new (linked link past)) both in
        (contained link (links past) parts.0, parts.1)

    by_result : (went : Bool) → owed config past ≡ [] → Hearing config past old → ReadiesOn link past (links past) went new.state.links
        → Hears config (heard_open (inputs.Ready link) past) past went old new
    by_result true o h now =
        rw now.0 (
          ap (λ (k : Kept). k.number) rest,
          ap (λ (k : Kept). k.outs) rest,
          record {
            mirrors = ap (λ (k : Kept). k.state) rest
                ∙ ap (λ (s : State). record s { links = new.state.links }) h.is.mirrors ∙ rw (o, now.1) refl;
            legal = hears h.is.legal h.rests h.unasking h.goes_on (new_there now.0);
          },
        )
    by_result false o h now =
        rw now.0 (rest ∙ ap (λ (l : List NumberedLink). record old { state = record old.state { links = l } })
        (now.1 ∙ sym (ap (λ (s : State). s.links) h.is.mirrors)))

pub hears_loss : (config : Config) (past : List Item) (link : ℕ) (old new : Kept) → Stands config old past
    → old.state.over ≡ false → true ≡ list_any (λ (other : NumberedLink). other.number == link) old.state.links
    → new ≡ record old { state = loses link old.state }
    → Hears config (heard (inputs.LinkGone link) past) past true old new
hears_loss config past link old new stands n some now =
    let h = hearing config past old stands n in
    let o = rests_owing_nothing config past h.rests h.unasking in
    let it = has config past link old true h.is some in
    hears_open config past (inputs.LinkGone link) true old new h.goes_on
    (rw it (
      ap (λ (k : Kept). k.number) now,
      ap (λ (k : Kept). k.outs) now,
      record {
        mirrors = ap (λ (k : Kept). k.state) now ∙ ap (loses link) h.is.mirrors
            ∙ rw (o, without_is past link (links past), append-nil (map erased (after_loss config link past))) refl;
        legal = hears h.is.legal h.rests h.unasking h.goes_on (contained link (links past) it);
      },
    ))

-- the clock shows something

pub hears_clock : (config : Config) (past : List Item) (reading : ℕ) (old new : Kept) → Stands config old past → old.state.over ≡ false
    → new ≡ record old { state = ticks config.primary_wait_ms reading old.state }
    → Hears config (heard (inputs.Clock reading) past) past true old new
hears_clock config past reading old new stands n now =
    let h = hearing config past old stands n in
    let o = rests_owing_nothing config past h.rests h.unasking in
    hears_open config past (inputs.Clock reading) true old new h.goes_on (
      ap (λ (k : Kept). k.number) now,
      ap (λ (k : Kept). k.outs) now,
      record {
        mirrors = ap (λ (k : Kept). k.state) now ∙ ap (ticks config.primary_wait_ms reading) h.is.mirrors ∙ rw o refl;
        legal = hears h.is.legal h.rests h.unasking h.goes_on tt;
      },
    )

-- A session that started

pub started : {E : Type 0} (config : Config) (past : List Item) (old new : Kept) (result : Result Bool E)
    → IfOk result (λ asks. Rests config past old new asks) → IfOk result (λ asks. Settles config past old new asks)
started config past old new (Err e) rests = tt
started config past old new (Ok asks) rests = record {
  reached = rests.goes.reached;
  went_on = rests.goes.went_on;
  stands = rests.stands;
  number = rests.goes.number;
  more = rests.goes.more;
  given = rests.goes.given;
  waits = rests.goes.waits;
}

-- what a turn is, by what was heard
pub turned : {E : Type 0} (config : Config) (past : List Item) (found : Option Item) (old mid new : Kept) (result : Result Bool E)
    → Hears config found past true old mid
    → ((start : List Item) → Is config mid start → IfOk result (λ asks. Settles config start mid new asks))
    → IfOk result (λ asks. Turns config found past old new asks)
turned config past None old mid new result told settles = absurd told
turned config past (Some item) old mid new result told settles = by_result result (settles (item ∷ past) told.2)
  where
    by_result : {E : Type 0} (result : Result Bool E) → IfOk result (λ asks. Settles config (item ∷ past) mid new asks)
        → IfOk result (λ asks. Settles config (item ∷ past) old new asks)
    by_result (Err e) s = tt
    by_result (Ok asks) s = record {
      reached = s.reached;
      went_on = s.went_on;
      stands = s.stands;
      number = s.number ∙ told.0;
      more = s.more;
      given = ap (λ (n : ℕ). outputs_of n s.reached) (sym told.0) ∙ s.given ∙ ap (λ (n : ℕ). outputs_of n (item ∷ past) ++ s.more) told.0;
      waits = s.waits ∙ ap (λ (outs : List Output). outs ++ s.more) told.1;
    }
