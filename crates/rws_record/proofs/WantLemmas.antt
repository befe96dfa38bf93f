-- Where memory was wanting: it is wanting once, and the session ends.
use Rattle.std.proofs.Common.{◌≡◌, ℕ, Bool, true, false, List, [], ◌∷◌, ◌++◌, refl, sym, ◌∙◌}
use Rattle.rws_config.specs.declared.config.Config.{Config}
use Rattle.rws_record.specs.Item.{Item, Put}
use Rattle.rws_record.specs.Item.Item.{Accepted, TurnsAway, Began, ClientBytes, LinkReady, LinkBytes, ClientGone, LinkLost, Ticks, Routed, Puts, Starves}
use Rattle.rws_record.specs.Item.Put.{Hands, Tells, Records, Routes, Opens, LogsInto, Sends, Forgets, Drops, Closes}
use Rattle.rws_pool.specs.declared.words.PoolWords.{PoolWords}
use Rattle.rws_select.specs.declared.selector.Load.{Load}
use Rattle.rws_route.specs.declared.destination.Target.{Target}
use Rattle.rws_record.specs.Values.{asking, is_over, is_starved}
use Rattle.rws_record.specs.Rules.{next, owed, follow}
use Rattle.rws_record.specs.Record.{IsBeginning, IsRecord, IsInput, GoesOn}
use Rattle.rws_record.specs.Record.IsRecord.{begins, steps, answers, hears, starves}
use Rattle.rws_record.specs.Record.GoesOn.{stays, then as goes_then}
use Rattle.rws_record.proofs.OpeningLemmas.{asks_owing_nothing}
use Rattle.rws_record.proofs.StepLemmas.{Due, Step, of_next, rests_owing_nothing}
use Rattle.rws_record.proofs.StepLemmas.Due.{comes, connects, takes}
use Rattle.rws_record.proofs.StepLemmas.Step.{pays, asks, prepares, forgets, plays, sends, waits_first, probes_first, floods, reads}

-- No step, and nothing that is heard, is want of memory

due_starved : {config : Config} {past : List Item} {item : Item} → Due config past item → is_starved (item ∷ past) ≡ is_starved past
due_starved (comes has a it) = refl
due_starved (connects p f c) = refl
due_starved (takes p f) = refl

pub step_starved : {config : Config} {past : List Item} {item : Item} → Step config past item
    → is_starved (item ∷ past) ≡ is_starved past
step_starved (pays o) = refl
step_starved (asks o n p g w) = refl
step_starved (prepares o n has f) = refl
step_starved (forgets o n has f t) = refl
step_starved (plays o n has f t s) = refl
step_starved (sends o n p s g f t d i c) = refl
step_starved (waits_first o n p s g f t d c) = refl
step_starved (probes_first o n p s g f t d c) = refl
step_starved (floods o n p above) = refl
step_starved (reads o n due) = due_starved due

pub input_starved : (past : List Item) (item : Item) → IsInput item past → is_starved (item ∷ past) ≡ is_starved past
input_starved past (ClientBytes bytes) input = refl
input_starved past ClientGone input = refl
input_starved past (LinkReady link) input = refl
input_starved past (LinkBytes link bytes) input = refl
input_starved past (LinkLost link) input = refl
input_starved past (Ticks reading) input = refl
input_starved past _ input = absurd input

pub goes_on_starved : {config : Config} {past now : List Item} → GoesOn config past now → is_starved now ≡ is_starved past
goes_on_starved stays = refl
goes_on_starved {config} (goes_then {now = now} {item = item} before step) =
    step_starved (of_next config now item step) ∙ goes_on_starved before

-- The session is over, or is about to be closed.

abbrev pub closes_soon : List Put → Bool
closes_soon [] = false
closes_soon (Closes reason ∷ others) = true
closes_soon (_ ∷ others) = closes_soon others

pub closes_behind : (first others : List Put) → closes_soon others ≡ true → closes_soon (first ++ others) ≡ true
closes_behind [] others soon = soon
closes_behind (Hands packets ∷ rest) others soon = closes_behind rest others soon
closes_behind (Tells number tell ∷ rest) others soon = closes_behind rest others soon
closes_behind (Routes ∷ rest) others soon = closes_behind rest others soon
closes_behind (Records server gtid ∷ rest) others soon = closes_behind rest others soon
closes_behind (Opens link server login ∷ rest) others soon = closes_behind rest others soon
closes_behind (LogsInto link packets ∷ rest) others soon = closes_behind rest others soon
closes_behind (Sends link purpose ∷ rest) others soon = closes_behind rest others soon
closes_behind (Forgets link id ∷ rest) others soon = closes_behind rest others soon
closes_behind (Drops link cause ∷ rest) others soon = closes_behind rest others soon
closes_behind (Closes reason ∷ rest) others soon = refl

data Ending (config : Config) (past : List Item) : Type 0 where
  ended : is_over past ≡ true → Ending config past
  ends : closes_soon (owed config past) ≡ true → Ending config past

goes_no_further : {A : Type 0} {config : Config} {past : List Item} → owed config past ≡ [] → is_over past ≡ false → Ending config past → A
goes_no_further o n (ended over) = absurd cc
goes_no_further o n (ends soon) = absurd (let e : false ≡ true = rw o at soon in cc)

pays_ending : {config : Config} {past : List Item} (put : Put) {others : List Put} → owed config past ≡ put ∷ others → Ending config past → Ending config (Puts put ∷ past)
pays_ending (Hands packets) o (ended over) = ended over
pays_ending (Tells number tell) o (ended over) = ended over
pays_ending Routes o (ended over) = ended over
pays_ending (Records server gtid) o (ended over) = ended over
pays_ending (Opens link server login) o (ended over) = ended over
pays_ending (LogsInto link packets) o (ended over) = ended over
pays_ending (Sends to purpose) o (ended over) = ended over
pays_ending (Forgets link id) o (ended over) = ended over
pays_ending (Drops link cause) o (ended over) = ended over
pays_ending (Closes reason) o (ended over) = ended refl
pays_ending (Closes reason) o (ends soon) = ended refl
pays_ending (Hands packets) o (ends soon) = ends (rw o (rw o at soon))
pays_ending Routes o (ends soon) = ends (rw o (rw o at soon))
pays_ending (Records server gtid) o (ends soon) = ends (rw o (rw o at soon))
pays_ending (Opens link server login) o (ends soon) = ends (rw o (rw o at soon))
pays_ending (LogsInto link packets) o (ends soon) = ends (rw o (rw o at soon))
pays_ending (Forgets link id) o (ends soon) = ends (rw o (rw o at soon))
pays_ending {config} {past} (Tells number tell) {others} o (ends soon) =
    ends (rw o (closes_behind (follow config (Tells number tell) past) others (rw o at soon)))
pays_ending {config} {past} (Sends to purpose) {others} o (ends soon) =
    ends (rw o (closes_behind (follow config (Sends to purpose) past) others (rw o at soon)))
pays_ending {config} {past} (Drops link cause) {others} o (ends soon) =
    ends (rw o (closes_behind (follow config (Drops link cause) past) others (rw o at soon)))

step_ending : {config : Config} {past : List Item} {item : Item} → Step config past item → Ending config past → Ending config (item ∷ past)
step_ending (pays {put = put} o) ending = pays_ending put o ending
step_ending (asks o n p g w) ending = goes_no_further o n ending
step_ending (prepares o n has f) ending = goes_no_further o n ending
step_ending (forgets o n has f t) ending = goes_no_further o n ending
step_ending (plays o n has f t s) ending = goes_no_further o n ending
step_ending (sends o n p s g f t d i c) ending = goes_no_further o n ending
step_ending (waits_first o n p s g f t d c) ending = goes_no_further o n ending
step_ending (probes_first o n p s g f t d c) ending = goes_no_further o n ending
step_ending (floods o n p above) ending = goes_no_further o n ending
step_ending (reads o n due) ending = goes_no_further o n ending

want_ending : (config : Config) (past : List Item) (made over : Bool) (number : ℕ) → is_over past ≡ over → Ending config (Starves made number ∷ past)
want_ending config past made true number over = ended over
want_ending config past true false number over = ends (rw over refl)
want_ending config past false false number over = ends (rw over refl)

begins_starved : {A : Type 0} (item : Item) → IsBeginning item → is_starved (item ∷ []) ≡ true → A
begins_starved (Accepted session scramble reading) its starved = absurd cc
begins_starved (TurnsAway told) its starved = absurd cc
begins_starved (Began link server reading) its starved = absurd cc
begins_starved _ its starved = absurd its

answer_ending : {config : Config} {past : List Item} {words : PoolWords} {loads : List Load} {next : ℕ} {found : Target}
    → IsRecord config past → asking past ≡ true → Ending config past → Ending config (Routed words loads next found ∷ past)
answer_ending legal a (ended over) = ended over
answer_ending legal a (ends soon) = absurd (let e : false ≡ true = rw (asks_owing_nothing legal a) at soon in cc)

starved_ends : {config : Config} {past : List Item} → IsRecord config past → is_starved past ≡ true → Ending config past
starved_ends (begins {item = item} its) starved = begins_starved item its starved
starved_ends {config} (steps {past = past} {item = item} legal next) starved =
    let step = of_next config past item next in
    step_ending step (starved_ends legal (sym (step_starved step) ∙ starved))
starved_ends (answers {past = past} legal asked) starved = answer_ending legal asked (starved_ends legal starved)
starved_ends {config} (hears {past = past} {item = item} legal rests a n input) starved =
    goes_no_further (rests_owing_nothing config past rests a) n
    (starved_ends legal (sym (input_starved past item input) ∙ starved))
starved_ends {config} (starves {past = past} {made = made} {number = number} legal once can its) starved =
    want_ending config past made (is_over past) number refl

-- to a session that goes on and owes nothing memory was never wanting
pub unstarved : {config : Config} {past : List Item} → IsRecord config past → owed config past ≡ [] → is_over past ≡ false
    → is_starved past ≡ false
unstarved {config} {past} legal o n = by_value (is_starved past) refl
  where
    by_value : (starved : Bool) → is_starved past ≡ starved → is_starved past ≡ false
    by_value false e = e
    by_value true e = goes_no_further o n (starved_ends legal e)
