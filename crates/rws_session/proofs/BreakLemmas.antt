-- What lasts of a session where memory was wanting.
use Rattle.std.proofs.Common.{◌≡◌, ℕ, Bool, true, false, List, [], ◌∷◌, ◌++◌, map, refl, sym, ap, ◌∙◌, Option, Some, None, Result, Ok, Err}
use Rattle.std.specs.Prelude.{◌==◌, OnErr}
use Rattle.std.specs.List.{list_any}
use Rattle.std.proofs.lemmas.List.{append-nil}
use Rattle.rws_config.specs.declared.config.Config.{Config}
use Rattle.rws_record.specs.declared.output.Output.{Output}
use Rattle.rws_record.specs.Item.{Item}
use Rattle.rws_front.specs.Connection.{error_number}
use Rattle.rws_front.specs.Fronting.{Fronting, fed}
use Rattle.rws_record.specs.Record.{want_number}
use Rattle.rws_record.specs.Values.{fronted, is_over, links, without}
use Rattle.rws_record.specs.Record.GoesOn.{stays}
use Rattle.rws_record.specs.Outputs.{outputs_of}
use Rattle.rws_links.specs.declared.numbered.NumberedLink.{NumberedLink}
use Rattle.rws_links.proofs.TableLemmas.{without_is}
use Rattle.rws_session.specs.declared.input.SessionInput.{SessionInput}
use Rattle.rws_session.specs.declared.input.SessionInput.TheVariants as inputs
use Rattle.rws_links.specs.Links.{link_of, number_of}
use Rattle.rws_session.specs.State.{State, farewell_packet}
use Rattle.rws_links.specs.Table.{without_number}
use Rattle.rws_session.specs.Kept.{Holds, Is, Kept, Lasting, Stands, lasting, lasting_of}
use Rattle.rws_session.specs.Steps.{Goes, Hears, HearsInPart, Stops}
use Rattle.rws_session.specs.Turning.{Breaks, BreaksOff, heard, heard_open}
use Rattle.rws_session.proofs.TurnLemmas.{hearing, has}

-- what is known is known of an error
pub on_err : {T E P : Type 0} (result : Result T E) → P → OnErr result P
on_err (Ok value) p = tt
on_err (Err error) p = p

numbers_are : (past : List Item) (links : List ℕ) → map number_of (map (link_of past) links) ≡ links
numbers_are past [] = refl
numbers_are past (link ∷ others) = ap (λ (numbers : List ℕ). link ∷ numbers) (numbers_are past others)

abbrev with_links : ℕ → List Output → Bool → ℕ → List ℕ → Lasting
with_links number outs over want links =
    record { number = number; outs = outs; links = links; over = over; farewell = farewell_packet; want_number = want }

-- a session that keeps what it is to keep
lasts : (config : Config) (past : List Item) (k : Kept) → Is config k past → lasting k ≡ lasting_of config k.number k.outs past
lasts config past k is =
    ap (λ (s : State). lasting (record k { state = s })) is.mirrors
    ∙ ap (with_links k.number k.outs (is_over past) (want_number config past)) (numbers_are past (links past))

-- Steps

-- a step that failed
pub stops : (config : Config) (past : List Item) (old mid new : Kept) → Goes config past old mid → Holds mid new
    → Stops config past old new
stops config past old mid new g holds = record {
  reached = g.reached;
  went_on = g.went_on;
  more = g.more;
  given = g.given;
  lasts = holds ∙ lasts config g.reached mid g.is
      ∙ ap (λ (n : ℕ). lasting_of config n mid.outs g.reached) g.number
      ∙ ap (λ (outs : List Output). lasting_of config old.number outs g.reached) g.waits;
}

-- What is heard

part_of_open : (config : Config) (past : List Item) (input : SessionInput) (old new : Kept) → is_over past ≡ false
    → HearsInPart config (heard_open input past) past old new → HearsInPart config (heard input past) past old new
part_of_open config past input old new n part = rw n part

pub hears_part_of_client : (config : Config) (past : List Item) (bytes : List ℕ) (old new : Kept) → Stands config old past
    → old.state.over ≡ false
    → Holds (record old { state = record old.state { want_number = error_number (fed old.state.front bytes) } }) new
    → HearsInPart config (heard (inputs.Client bytes) past) past old new
hears_part_of_client config past bytes old new stands n holds =
    let h = hearing config past old stands n in
    let front : old.state.front ≡ fronted config past = ap (λ (s : State). s.front) h.is.mirrors in
    part_of_open config past (inputs.Client bytes) old new h.goes_on
    (holds ∙ ap (λ (l : Lasting). record l { want_number = error_number (fed old.state.front bytes) }) (lasts config past old h.is)
    ∙ ap (λ (f : Fronting). record (lasting_of config old.number old.outs past) { want_number = error_number (fed f bytes) }) front)

pub hears_part_of_gone : (config : Config) (past : List Item) (old new : Kept) → Stands config old past → old.state.over ≡ false
    → Holds (record old { state = record old.state { over = true } }) new → HearsInPart config (heard inputs.ClientGone past) past old new
hears_part_of_gone config past old new stands n holds =
    let h = hearing config past old stands n in
    part_of_open config past inputs.ClientGone old new h.goes_on
    (holds ∙ ap (λ (l : Lasting). record l { over = true }) (lasts config past old h.is))

pub hears_part_of_bytes : (config : Config) (past : List Item) (link : ℕ) (bytes : List ℕ) (old new : Kept) → Stands config old past
    → old.state.over ≡ false → true ≡ list_any (λ (other : NumberedLink). other.number == link) old.state.links
    → Holds old new → HearsInPart config (heard (inputs.Link link bytes) past) past old new
hears_part_of_bytes config past link bytes old new stands n some holds =
    let h = hearing config past old stands n in
    let it = has config past link old true h.is some in
    part_of_open config past (inputs.Link link bytes) old new h.goes_on (rw it (holds ∙ lasts config past old h.is))

pub hears_part_of_loss : (config : Config) (past : List Item) (link : ℕ) (old new : Kept) → Stands config old past
    → old.state.over ≡ false → true ≡ list_any (λ (other : NumberedLink). other.number == link) old.state.links
    → Holds (record old { state = record old.state { links = without_number link old.state.links } }) new
    → HearsInPart config (heard (inputs.LinkGone link) past) past old new
hears_part_of_loss config past link old new stands n some holds =
    let h = hearing config past old stands n in
    let it = has config past link old true h.is some in
    part_of_open config past (inputs.LinkGone link) old new h.goes_on
    (rw it (
    holds ∙ ap (λ (s : State). lasting (record old { state = record s { links = without_number link s.links } })) h.is.mirrors
    ∙ ap (with_links old.number old.outs (is_over past) (want_number config past))
    (ap (map number_of) (without_is past link (links past)) ∙ numbers_are past (without link (links past)))
    ))

pub breaks_at_once : (config : Config) (past : List Item) (o : Option Item) (old new : Kept)
    → HearsInPart config o past old new → Breaks config o past old new
breaks_at_once config past None old new part = part
breaks_at_once config past (Some item) old new part = record {
  reached = item ∷ past;
  went_on = stays;
  more = [];
  given = sym (append-nil (outputs_of old.number (item ∷ past)));
  lasts = part ∙ ap (λ (outs : List Output). lasting_of config old.number outs (item ∷ past)) (sym (append-nil old.outs));
}

-- a session that started, and was stopped
pub stopped : {T E : Type 0} (config : Config) (past : List Item) (old new : Kept) (result : Result T E)
    → OnErr result (Stops config past old new) → OnErr result (BreaksOff config past old new)
stopped config past old new (Ok value) s = tt
stopped config past old new (Err error) s =
    record { reached = s.reached; went_on = s.went_on; more = s.more; given = s.given; lasts = s.lasts }

-- what a turn that failed is, by what was heard
pub turned_in_part : {T E : Type 0} (config : Config) (past : List Item) (found : Option Item) (old mid new : Kept) (result : Result T E)
    → Hears config found past true old mid
    → ((start : List Item) → Is config mid start → OnErr result (BreaksOff config start mid new))
    → OnErr result (Breaks config found past old new)
turned_in_part config past None old mid new result told breaks = absurd told
turned_in_part config past (Some item) old mid new result told breaks = by_result result (breaks (item ∷ past) told.2)
  where
    by_result : {T E : Type 0} (result : Result T E) → OnErr result (BreaksOff config (item ∷ past) mid new)
        → OnErr result (BreaksOff config (item ∷ past) old new)
    by_result (Ok value) b = tt
    by_result (Err error) b = record {
      reached = b.reached;
      went_on = b.went_on;
      more = b.more;
      given = ap (λ (n : ℕ). outputs_of n b.reached) (sym told.0) ∙ b.given ∙ ap (λ (n : ℕ). outputs_of n (item ∷ past) ++ b.more) told.0;
      lasts = b.lasts
          ∙ ap (λ (n : ℕ). lasting_of config n (mid.outs ++ b.more) b.reached) told.0
          ∙ ap (λ (outs : List Output). lasting_of config old.number (outs ++ b.more) b.reached) told.1;
    }
