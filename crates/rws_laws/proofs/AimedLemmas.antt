-- In a session that isn't pinned to a link, a command goes where its last route found.
use Rattle.std.proofs.Common.{◌≡◌, ℕ, Bool, true, false, List, [], ◌∷◌, map, refl, sym, ap, subst, ◌∙◌, inl, inr, Option, Some, None}
use Rattle.std.specs.Prelude.{◌⊎◌}
use Rattle.rws_wire.specs.declared.drop_cause.DropCause.TheVariants.{End}
use Rattle.rws_config.specs.declared.config.Config.{Config}
use Rattle.rws_record.specs.Item.{Item, Purpose, Put}
use Rattle.rws_record.specs.Item.Item.{Puts}
use Rattle.rws_record.specs.Item.Purpose.{Asks}
use Rattle.rws_record.specs.Item.Put.{Sends, Drops}
use Rattle.rws_record.specs.Values.{links, or_link, routing, is_over, is_starved}
use Rattle.rws_record.specs.Rules.{next, owed}
use Rattle.rws_record.specs.Record.{IsBeginning, IsInput, IsRecord}
use Rattle.rws_record.specs.Record.IsRecord.{begins, steps, answers, hears, starves}
use Rattle.rws_record.proofs.StepLemmas.{Due, Step, of_next}
use Rattle.rws_record.proofs.StepLemmas.Due.{comes, connects, takes}
use Rattle.rws_record.proofs.StepLemmas.Step.{pays, asks, prepares, forgets, plays, sends, waits_first, probes_first, floods, reads}
use Rattle.rws_laws.specs.Laws.{GoesWhereFound}
use Rattle.rws_laws.proofs.CausesLemmas.{causes}
use Rattle.rws_laws.proofs.GoingLemmas.{Aimed, HasAssigned, goes_with, legal_going}
use Rattle.rws_laws.proofs.Sound.{Caused}
use Rattle.rws_laws.proofs.Sound.Caused.{nothing, drops, leaves, closes, hands, opens, logs_on, tells, records}
use Rattle.rws_laws.proofs.SoundLemmas.{legal_sound}
use Rattle.rws_laws.proofs.WantedLemmas.{Ends, legal_ends}
use Rattle.rws_laws.proofs.WantedLemmas.Ends.{tells as is_to_tell, closes as is_to_close, leaves as is_to_leave}

-- Nothing that is owed is sent to a server

abbrev is_sending : List Put → Bool
is_sending (Sends link purpose ∷ others) = true
is_sending _ = false

caused_unsent : {config : Config} {list : List Put} {past : List Item} → Caused config list past → is_sending list ≡ false
caused_unsent nothing = refl
caused_unsent (drops n cause) = refl
caused_unsent (leaves lossless cause rest) = refl
caused_unsent (closes cause) = refl
caused_unsent (hands cause rest) = refl
caused_unsent (opens cause) = refl
caused_unsent (logs_on cause) = refl
caused_unsent (records cause rest) = refl
caused_unsent (tells cause rest) = refl

farewells_unsent : (list : List ℕ) → is_sending (map (λ link. Drops link End) list) ≡ false
farewells_unsent [] = refl
farewells_unsent (link ∷ others) = refl

ends_unsent : {config : Config} {past : List Item} → Ends config past → is_sending (owed config past) ≡ false
ends_unsent (is_to_tell below number is over its owes) = ap is_sending owes
ends_unsent (is_to_close owes cause) = ap is_sending owes
ends_unsent {past = past} (is_to_leave over owes) = ap is_sending owes ∙ farewells_unsent (links past)

owed_unsent : {config : Config} {past : List Item} → IsRecord config past → is_sending (owed config past) ≡ false
owed_unsent {config} {past} legal = by_value (is_starved past) refl
  where
    by_value : (starved : Bool) → is_starved past ≡ starved → is_sending (owed config past) ≡ false
    by_value false fed = caused_unsent (legal_sound legal fed).owes
    by_value true starved = ends_unsent (legal_ends legal starved)

-- So a session sends where it goes on with nothing owed

pub record Sending (config : Config) (past : List Item) : Type 0 where
  pub legal : IsRecord config past
  pub owes : owed config past ≡ []
  pub goes : is_over past ≡ false

module _ (config : Config) (past : List Item) (link : ℕ) (purpose : Purpose) where
  by_due : {item : Item} → Due config past item → item ≡ Puts (Sends link purpose) → Sending config past
  by_due (comes has a its) is = absurd cc
  by_due (connects p f c) is = absurd cc
  by_due (takes p f) is = absurd cc

  by_step : {item : Item} → IsRecord config past → Step config past item → item ≡ Puts (Sends link purpose) → Sending config past
  by_step legal (pays {put = put} {others = others} o) is =
      let same : put ≡ Sends link purpose = cc in
      let sending : is_sending (owed config past) ≡ true = ap is_sending o ∙ ap (λ (p : Put). is_sending (p ∷ others)) same in
      let clash : false ≡ true = sym (owed_unsent legal) ∙ sending in absurd cc
  by_step legal (asks o n p g w) is = absurd cc
  by_step legal (prepares o n has f) is = record { legal = legal; owes = o; goes = n }
  by_step legal (plays o n has f t s) is = record { legal = legal; owes = o; goes = n }
  by_step legal (sends o n p s g f t d i v) is = record { legal = legal; owes = o; goes = n }
  by_step legal (waits_first o n p s g f t d v) is = record { legal = legal; owes = o; goes = n }
  by_step legal (probes_first o n p s g f t d v) is = record { legal = legal; owes = o; goes = n }
  by_step legal (forgets o n has f t) is = absurd cc
  by_step legal (floods o n p above) is = absurd cc
  by_step legal (reads o n due) is = by_due due is

  not_begun : {A : Type 0} (item : Item) → IsBeginning item → item ≡ Puts (Sends link purpose) → A
  not_begun item its is = absurd (let its : ⊥ = subst IsBeginning is its in its)

  not_heard : {A : Type 0} (item : Item) (below : List Item) → IsInput item below → item ≡ Puts (Sends link purpose) → A
  not_heard item below its is = absurd (let its : ⊥ = subst (λ (i : Item). IsInput i below) is its in its)

  by_record : {now : List Item} → IsRecord config now → now ≡ Puts (Sends link purpose) ∷ past → Sending config past
  by_record (begins {item = item} its) is = not_begun item its (let same : item ≡ Puts (Sends link purpose) = cc in same)
  by_record (steps {past = below} {item = item} legal e) is =
      let same : below ≡ past = cc in
      let its : item ≡ Puts (Sends link purpose) = cc in
      by_step (subst (IsRecord config) same legal) (of_next config past item (subst (λ (p : List Item). next config p ≡ Some item) same e)) its
  by_record (answers legal asked) is = absurd cc
  by_record (hears {past = below} {item = item} legal rests none n input) is =
      not_heard item below input (let same : item ≡ Puts (Sends link purpose) = cc in same)
  by_record (starves legal once can its) is = absurd cc

  pub sending : IsRecord config (Puts (Sends link purpose) ∷ past) → Sending config past
  sending legal = by_record legal refl

pub goes_where_found : GoesWhereFound
goes_where_found config past link command id some legal free =
    let now = sending config past link (Asks command id) legal in
    by_going (goes_with now.owes now.goes (legal_going now.legal)).1
  where
    goes : or_link None (routing config past).assigned ≡ Some link
    goes =
        let cause = causes config (Puts (Sends link (Asks command id)) ∷ past) legal in
        sym (ap (λ (on : Option ℕ). or_link on (routing config past).assigned) free) ∙ cause.0.2

    by_going : (HasAssigned config past ⊎ (config.accounts ≡ [])) → Aimed link past
    by_going (inl its) = (its link goes).1
    by_going (inr nobody) = absurd (some nobody)
