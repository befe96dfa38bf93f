-- A session that is over owes its farewells and nothing else, so it has no link left where it rests.
use Rattle.std.proofs.Common.{◌≡◌, ℕ, Bool, true, false, List, [], ◌∷◌, map, refl, sym, ◌∙◌, None}
use Rattle.rws_wire.specs.declared.drop_cause.DropCause.TheVariants.{End}
use Rattle.rws_config.specs.declared.config.Config.{Config}
use Rattle.rws_record.specs.Item.{Item, Put}
use Rattle.rws_record.specs.Item.Item.{Accepted, TurnsAway, Began, ClientBytes, LinkReady, LinkBytes, ClientGone, LinkLost, Ticks, Puts}
use Rattle.rws_record.specs.Item.Put.{Hands, Tells, Records, Routes, Opens, LogsInto, Sends, Forgets, Drops, Closes}
use Rattle.rws_record.specs.Values.{asking, links, is_over, is_starved}
use Rattle.rws_record.specs.Rules.{next, owed, farewells}
use Rattle.rws_record.specs.Record.{IsBeginning, IsRecord, IsInput}
use Rattle.rws_record.specs.Record.IsRecord.{begins, steps, answers, hears, starves}
use Rattle.rws_record.proofs.StepLemmas.{Due, Step, of_next, rests_owing_nothing}
use Rattle.rws_record.proofs.StepLemmas.Due.{comes, connects, takes}
use Rattle.rws_record.proofs.StepLemmas.Step.{pays, asks, prepares, forgets, plays, sends, waits_first, probes_first, floods, reads}
use Rattle.rws_laws.proofs.AskedLemmas.{AskedNow, legal_asked}
use Rattle.rws_laws.proofs.AskedLemmas.AskedNow.{asked_now}
use Rattle.rws_laws.proofs.LinksLemmas.{farewell_first}
use Rattle.rws_record.proofs.WantLemmas.{step_starved}
use Rattle.rws_laws.proofs.WantedLemmas.{ends_without_links, legal_ends}

abbrev Leaves : Config → List Item → Type 0
Leaves config past = is_over past ≡ true → owed config past ≡ farewells past

leaves_put : (config : Config) (past : List Item) (put : Put) (others : List Put) → owed config past ≡ put ∷ others → Leaves config past
    → Leaves config (Puts put ∷ past)
leaves_put config past (Closes reason) others o leaves = λ over. refl
leaves_put config past (Tells number tell) others o leaves = λ over. (farewell_first config past (Tells number tell) others o (leaves over)).3
leaves_put config past (Hands packets) others o leaves = λ over. (farewell_first config past (Hands packets) others o (leaves over)).3
leaves_put config past (Records server gtid) others o leaves = λ over. (farewell_first config past (Records server gtid) others o (leaves over)).3
leaves_put config past Routes others o leaves = λ over. (farewell_first config past Routes others o (leaves over)).3
leaves_put config past (Forgets link id) others o leaves = λ over. (farewell_first config past (Forgets link id) others o (leaves over)).3
leaves_put config past (LogsInto link packets) others o leaves = λ over. (farewell_first config past (LogsInto link packets) others o (leaves over)).3
leaves_put config past (Opens link server login) others o leaves = λ over. (farewell_first config past (Opens link server login) others o (leaves over)).3
leaves_put config past (Sends link purpose) others o leaves = λ over. (farewell_first config past (Sends link purpose) others o (leaves over)).3
leaves_put config past (Drops link cause) others o leaves = λ over. (farewell_first config past (Drops link cause) others o (leaves over)).3

goes_on_here : {config : Config} {past : List Item} {item : Item} → Due config past item → is_over past ≡ false
    → is_over (item ∷ past) ≡ false
goes_on_here (comes has a it) n = n
goes_on_here (takes p f) n = n
goes_on_here (connects p f c) n = n

leaves_input : (config : Config) (past : List Item) (item : Item) → IsInput item past → is_over past ≡ false → Leaves config (item ∷ past)
leaves_input config past (ClientBytes bytes) input n = λ over. absurd cc
leaves_input config past (LinkReady link) input n = λ over. absurd cc
leaves_input config past (LinkBytes from bytes) input n = λ over. absurd cc
leaves_input config past ClientGone input n = λ over. refl
leaves_input config past (LinkLost gone) input n = λ over. absurd cc
leaves_input config past (Ticks reading) input n = λ over. absurd cc
leaves_input config past _ input n = absurd input

leaves_step : {config : Config} {past : List Item} {item : Item} → Step config past item → Leaves config past
    → Leaves config (item ∷ past)
leaves_step {config} {past} (pays {put = put} {others = others} o) leaves = leaves_put config past put others o leaves
leaves_step (asks o n p k l) leaves = λ over. absurd cc
leaves_step (prepares o n k c) leaves = λ over. absurd cc
leaves_step (plays o n k c t s) leaves = λ over. absurd cc
leaves_step (sends o n p s k c t d i v) leaves = λ over. absurd cc
leaves_step (waits_first o n p s g f t d v) leaves = λ over. absurd cc
leaves_step (probes_first o n p s g f t d v) leaves = λ over. absurd cc
leaves_step (forgets o n has f t) leaves = λ over. absurd cc
leaves_step (floods o n p above) leaves = λ over. absurd cc
leaves_step (reads o n due) leaves = λ over. let not_over = goes_on_here due n in absurd cc

begins_leaving : (config : Config) (item : Item) → IsBeginning item → Leaves config (item ∷ [])
begins_leaving config (Accepted session scramble reading) its = λ over. absurd cc
begins_leaving config (TurnsAway told) its = λ over. absurd cc
begins_leaving config (Began link server reading) its = λ over. absurd cc
begins_leaving config _ its = absurd its

-- a session that asks the worker isn't over
asks_on : {config : Config} {past : List Item} → AskedNow config past → is_over past ≡ false
asks_on (asked_now legal o n p g w) = n

leaves : {config : Config} {past : List Item} → IsRecord config past → is_starved past ≡ false → Leaves config past
leaves {config} (begins {item = item} its) fed = begins_leaving config item its
leaves {config} (steps {past = past} {item = item} legal e) fed =
    let step = of_next config past item e in
    let before = sym (step_starved step) ∙ fed in
    leaves_step step (leaves legal before)
leaves (answers legal asked) fed = λ over. let n = asks_on (legal_asked legal asked) in absurd cc
leaves {config} (hears {past = past} {item = item} legal rests none n input) fed = leaves_input config past item input n
leaves (starves legal once can its) fed = absurd cc

no_links : (list : List ℕ) → map (λ link. Drops link End) list ≡ [] → list ≡ []
no_links [] e = refl
no_links (link ∷ others) e = absurd cc

-- once it rests it has no link
pub ended : {config : Config} {past : List Item} → IsRecord config past → next config past ≡ None → asking past ≡ false → is_over past ≡ true
    → links past ≡ []
ended {config} {past} legal e none over = by_value (is_starved past) refl
  where
    by_value : (starved : Bool) → is_starved past ≡ starved → links past ≡ []
    by_value false fed = no_links (links past) (sym (leaves legal fed over) ∙ rests_owing_nothing config past e none)
    by_value true starved = ends_without_links (legal_ends legal starved) (rests_owing_nothing config past e none)
