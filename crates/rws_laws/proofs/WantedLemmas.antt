-- How a legal record goes on where memory was wanting: its client is told, the session is closed, and its link is given up.
use Rattle.std.proofs.Common.{◌≡◌, ℕ, Bool, true, false, List, [], ◌∷◌, map, drop, refl, sym, ap, ◌∙◌, inl, inr}
use Rattle.rws_wire.specs.declared.close_reason.CloseReason.TheVariants.{Memory}
use Rattle.rws_wire.specs.declared.drop_cause.DropCause.TheVariants.{End}
use Rattle.rws_config.specs.declared.config.Config.{Config}
use Rattle.rws_commands.specs.declared.proxy_error.ProxyError.TheVariants.{OutOfMemory}
use Rattle.rws_record.specs.Item.{Item, Put}
use Rattle.rws_record.specs.Item.Item.{Accepted, TurnsAway, Began, Puts, Starves}
use Rattle.rws_record.specs.Item.Put.{Tells, Routes, Drops, Closes}
use Rattle.rws_record.specs.Item.Tell.{Refuses}
use Rattle.rws_record.specs.Values.{links, is_over, is_starved}
use Rattle.rws_record.specs.Rules.{farewells, owed}
use Rattle.rws_record.specs.Record.{IsBeginning, IsRecord, want_number}
use Rattle.rws_record.specs.Record.IsRecord.{begins, steps, answers, hears, starves}
use Rattle.rws_record.proofs.StepLemmas.{Step, of_next, rests_owing_nothing}
use Rattle.rws_record.proofs.StepLemmas.Step.{pays, asks, prepares, forgets, plays, sends, waits_first, probes_first, floods, reads}
use Rattle.rws_record.proofs.WantLemmas.{input_starved, step_starved}
use Rattle.rws_laws.specs.Causes.{IsCaused, IsStarvedAndTold, AreCaused}
use Rattle.rws_laws.proofs.AskedLemmas.{AskedNow, legal_asked}
use Rattle.rws_laws.proofs.AskedLemmas.AskedNow.{asked_now}
use Rattle.rws_laws.proofs.LinksLemmas.{farewell_first}

-- what is still to come
pub data Ends (config : Config) (past : List Item) : Type 0 where
  tells : (below : List Item) (number : ℕ) → past ≡ Starves true number ∷ below → is_over below ≡ false → number ≡ want_number config below
      → owed config past ≡ Tells number (Refuses OutOfMemory) ∷ Closes Memory ∷ [] → Ends config past
  closes : owed config past ≡ Closes Memory ∷ [] → IsStarvedAndTold past → Ends config past
  leaves : is_over past ≡ true → owed config past ≡ farewells past → Ends config past

-- it is no end that owes nothing and isn't over
pub no_end : {A : Type 0} {config : Config} {past : List Item} → owed config past ≡ [] → is_over past ≡ false → Ends config past → A
no_end o n (tells below number is over its owes) = absurd cc
no_end o n (closes owes cause) = absurd cc
no_end o n (leaves over owes) = absurd cc

-- A step

left_by : (config : Config) (past : List Item) (put : Put) (others : List Put) → owed config past ≡ put ∷ others → is_over past ≡ true
    → owed config past ≡ farewells past → Ends config (Puts put ∷ past)
left_by config past put others o over owes =
    let first = farewell_first config past put others o owes in
    leaves (rw first.1 over) first.3

pays_end : (config : Config) (past : List Item) (put : Put) (others : List Put) → owed config past ≡ put ∷ others → Ends config past → Ends config (Puts put ∷ past)
pays_end config past put others o (tells below number is over its owes) =
    let both : put ∷ others ≡ Tells number (Refuses OutOfMemory) ∷ Closes Memory ∷ [] = sym o ∙ owes in
    let first : put ≡ Tells number (Refuses OutOfMemory) = cc in
    rw first (closes (ap (drop 1) owes) (below, number, inr (ap (λ (p : List Item). Puts (Tells number (Refuses OutOfMemory)) ∷ p) is)))
pays_end config past put others o (closes owes cause) =
    let both : put ∷ others ≡ Closes Memory ∷ [] = sym o ∙ owes in
    let first : put ≡ Closes Memory = cc in
    rw first (leaves refl refl)
pays_end config past put others o (leaves over owes) = left_by config past put others o over owes

step_ends : {config : Config} {past : List Item} {item : Item} → Step config past item → Ends config past → Ends config (item ∷ past)
step_ends {config} {past = past} (pays {put = put} {others = others} o) ends = pays_end config past put others o ends
step_ends (asks o n p k l) ends = no_end o n ends
step_ends (prepares o n k c) ends = no_end o n ends
step_ends (plays o n k c t s) ends = no_end o n ends
step_ends (sends o n p s k c t d i v) ends = no_end o n ends
step_ends (waits_first o n p s g f t d v) ends = no_end o n ends
step_ends (probes_first o n p s g f t d v) ends = no_end o n ends
step_ends (forgets o n has f t) ends = no_end o n ends
step_ends (floods o n p above) ends = no_end o n ends
step_ends (reads o n due) ends = no_end o n ends

want_ends : (config : Config) (past : List Item) (made over : Bool) (number : ℕ) → is_over past ≡ over → number ≡ want_number config past
    → Ends config (Starves made number ∷ past)
want_ends config past made true number o its = leaves o (rw o refl)
want_ends config past true false number o its = tells past number refl o its (rw o refl)
want_ends config past false false number o its = closes (rw o refl) (past, number, inl refl)

-- a session that asks the worker goes on
answer_ends : {A : Type 0} {config : Config} {past : List Item} → AskedNow config past
    → (is_starved past ≡ true → Ends config past) → is_starved past ≡ true → A
answer_ends (asked_now legal o n p g w) ends starved = asks_not_ending o n (ends starved)
  where
    asks_not_ending : {A : Type 0} {config : Config} {past : List Item} → owed config past ≡ [] → is_over past ≡ false
        → Ends config (Puts Routes ∷ past) → A
    asks_not_ending o n (tells below number is over its owes) = absurd cc
    asks_not_ending o n (closes owes cause) = absurd (let owes : [] ≡ Closes Memory ∷ [] = rw o at owes in cc)
    asks_not_ending o n (leaves over owes) = absurd cc

pub legal_ends : {config : Config} {past : List Item} → IsRecord config past → is_starved past ≡ true → Ends config past
legal_ends (begins {item = item} its) starved = begins_fed item its starved
  where
    begins_fed : {A : Type 0} (item : Item) → IsBeginning item → is_starved (item ∷ []) ≡ true → A
    begins_fed (Accepted session scramble reading) its starved = absurd cc
    begins_fed (TurnsAway told) its starved = absurd cc
    begins_fed (Began link server reading) its starved = absurd cc
    begins_fed _ its starved = absurd its
legal_ends {config} (steps {past = past} {item = item} legal e) starved =
    let step = of_next config past item e in step_ends step (legal_ends legal (sym (step_starved step) ∙ starved))
legal_ends (answers legal asked) starved = answer_ends (legal_asked legal asked) (legal_ends legal) starved
legal_ends {config} (hears {past = past} {item = item} legal rests none n input) starved =
    no_end (rests_owing_nothing config past rests none) n (legal_ends legal (sym (input_starved past item input) ∙ starved))
legal_ends {config} (starves {past = past} {made = made} {number = number} legal once can its) starved =
    want_ends config past made (is_over past) number refl its

-- Causes

left_caused : (config : Config) (past : List Item) (put : Put) (others : List Put) → owed config past ≡ put ∷ others → is_over past ≡ true
    → owed config past ≡ farewells past → IsCaused config put past
left_caused config past put others o over owes =
    let first = farewell_first config past put others o owes in rw first.1 (over, first.2)

end_caused : (config : Config) (past : List Item) (put : Put) (others : List Put) → owed config past ≡ put ∷ others → Ends config past
    → IsCaused config put past
end_caused config past put others o (tells below number is over its owes) =
    let both : put ∷ others ≡ Tells number (Refuses OutOfMemory) ∷ Closes Memory ∷ [] = sym o ∙ owes in
    let first : put ≡ Tells number (Refuses OutOfMemory) = cc in
    rw first (below, is, over, its)
end_caused config past put others o (closes owes cause) =
    let both : put ∷ others ≡ Closes Memory ∷ [] = sym o ∙ owes in
    let first : put ≡ Closes Memory = cc in
    rw first cause
end_caused config past put others o (leaves over owes) = left_caused config past put others o over owes

pub ends_caused : {config : Config} {past : List Item} {item : Item} → Step config past item → Ends config past → AreCaused config past
    → AreCaused config (item ∷ past)
ends_caused {config} {past} (pays {put = put} {others = others} o) ends below = (end_caused config past put others o ends, below)
ends_caused (asks o n p k l) ends below = no_end o n ends
ends_caused (prepares o n k c) ends below = no_end o n ends
ends_caused (plays o n k c t s) ends below = no_end o n ends
ends_caused (sends o n p s k c t d i v) ends below = no_end o n ends
ends_caused (waits_first o n p s g f t d v) ends below = no_end o n ends
ends_caused (probes_first o n p s g f t d v) ends below = no_end o n ends
ends_caused (forgets o n has f t) ends below = no_end o n ends
ends_caused (floods o n p above) ends below = no_end o n ends
ends_caused (reads o n due) ends below = no_end o n ends

-- Rest

no_links : (list : List ℕ) → map (λ link. Drops link End) list ≡ [] → list ≡ []
no_links [] e = refl
no_links (link ∷ others) e = absurd cc

pub ends_without_links : {config : Config} {past : List Item} → Ends config past → owed config past ≡ [] → links past ≡ []
ends_without_links (tells below number is over its owes) o = absurd cc
ends_without_links (closes owes cause) o = absurd cc
ends_without_links {past = past} (leaves over owes) o = no_links (links past) (sym owes ∙ o)
