-- In every legal record no link stands twice.
use Rattle.std.proofs.Common.{◌≡◌, ℕ, Bool, true, false, List, [], ◌∷◌, ◌++◌, refl}
use Rattle.std.specs.Prelude.{◌==◌, if◌then◌else◌}
use Rattle.rws_config.specs.declared.config.Config.{Config}
use Rattle.rws_record.specs.Item.{Item}
use Rattle.rws_record.specs.Item.Item.{Accepted, TurnsAway, Began, ClientBytes, LinkReady, LinkBytes, ClientGone, LinkLost, Ticks, Routed, Comes, Connects, Takes, Floods, Puts, Starves}
use Rattle.rws_record.specs.Item.Put.{Hands, Tells, Records, Routes, Opens, LogsInto, Sends, Forgets, Drops, Closes}
use Rattle.rws_record.specs.Values.{links, contains, without}
use Rattle.rws_record.specs.Record.{IsRecord}
use Rattle.rws_record.specs.Record.IsRecord.{begins, steps, answers, hears, starves}
use Rattle.rws_record.proofs.WithoutLemmas.{without_has_not, without_keeps_out}
use Rattle.rws_links.specs.Table.{AreDistinct}
use Rattle.rws_links.proofs.NumberLemmas.{apart}

-- A list without one of its links, and with one more

without_distinct : (link : ℕ) (links : List ℕ) → AreDistinct links → AreDistinct (without link links)
without_distinct link [] distinct = tt
without_distinct link (first ∷ rest) distinct = by_test (first == link) refl (without_distinct link rest distinct.1)
  where
    by_test : (test : Bool) → (first == link) ≡ test → AreDistinct (without link rest) → AreDistinct (without link (first ∷ rest))
    by_test true t behind = rw t behind
    by_test false t behind = rw t (without_keeps_out link first rest distinct.0, behind)

-- one more that isn't there
still_out : (one other : ℕ) (links : List ℕ) → contains one links ≡ false → (other == one) ≡ false
    → contains one (links ++ other ∷ []) ≡ false
still_out one other [] none differ = rw differ refl
still_out one other (first ∷ rest) none differ = by_test (first == one) refl none (still_out one other rest)
  where
    by_test : (test : Bool) → (first == one) ≡ test → (if test then true else contains one rest) ≡ false
        → (contains one rest ≡ false → (other == one) ≡ false → contains one (rest ++ other ∷ []) ≡ false)
        → contains one (first ∷ (rest ++ other ∷ [])) ≡ false
    by_test true t none behind = absurd cc
    by_test false t none behind = rw t (behind none differ)

with_distinct : (link : ℕ) (links : List ℕ) → AreDistinct links → contains link links ≡ false → AreDistinct (links ++ link ∷ [])
with_distinct link [] distinct none = (refl, tt)
with_distinct link (first ∷ rest) distinct none = by_test (first == link) refl none (with_distinct link rest distinct.1)
  where
    by_test : (test : Bool) → (first == link) ≡ test → (if test then true else contains link rest) ≡ false
        → (contains link rest ≡ false → AreDistinct (rest ++ link ∷ [])) → AreDistinct (first ∷ (rest ++ link ∷ []))
    by_test true t none behind = absurd cc
    by_test false t none behind = (still_out first link rest distinct.0 (apart first link t), behind none)

-- Links

-- an item leaves the links as they were, takes one away, or adds one
data Leaves (past : List Item) (item : Item) : Type 0 where
  all : links (item ∷ past) ≡ links past → Leaves past item
  but_one : (link : ℕ) → links (item ∷ past) ≡ without link (links past) → Leaves past item
  and_one : (link : ℕ) → links (item ∷ past) ≡ without link (links past) ++ link ∷ [] → Leaves past item

leaves : (past : List Item) (item : Item) → Leaves past item
leaves past (Accepted session scramble reading) = all refl
leaves past (TurnsAway told) = all refl
leaves past (Began link server reading) = and_one link refl
leaves past (ClientBytes bytes) = all refl
leaves past (LinkReady link) = all refl
leaves past (LinkBytes link bytes) = all refl
leaves past ClientGone = all refl
leaves past (LinkLost link) = but_one link refl
leaves past (Ticks reading) = all refl
leaves past (Routed words loads next found) = all refl
leaves past (Comes link said) = all refl
leaves past (Connects said) = all refl
leaves past (Takes judgement number) = all refl
leaves past (Floods bytes) = all refl
leaves past (Starves made number) = all refl
leaves past (Puts (Hands packets)) = all refl
leaves past (Puts (Tells number tell)) = all refl
leaves past (Puts (Records server gtid)) = all refl
leaves past (Puts Routes) = all refl
leaves past (Puts (Opens link server login)) = and_one link refl
leaves past (Puts (LogsInto link packets)) = all refl
leaves past (Puts (Sends link purpose)) = all refl
leaves past (Puts (Forgets link id)) = all refl
leaves past (Puts (Drops link cause)) = but_one link refl
leaves past (Puts (Closes reason)) = all refl

leaves_distinct : (past : List Item) (item : Item) → Leaves past item → AreDistinct (links past) → AreDistinct (links (item ∷ past))
leaves_distinct past item (all same) distinct = rw same distinct
leaves_distinct past item (but_one link less) distinct = rw less (without_distinct link (links past) distinct)
leaves_distinct past item (and_one link more) distinct =
    rw more (with_distinct link (without link (links past)) (without_distinct link (links past) distinct)
    (without_has_not link (links past)))

pub links_distinct : {config : Config} {past : List Item} → IsRecord config past → AreDistinct (links past)
links_distinct (begins {item = item} its) = leaves_distinct [] item (leaves [] item) tt
links_distinct (steps {past = past} {item = item} legal is_next) = leaves_distinct past item (leaves past item) (links_distinct legal)
links_distinct (answers legal asked) = links_distinct legal
links_distinct (hears {past = past} {item = item} legal rests unasking goes_on input) =
    leaves_distinct past item (leaves past item) (links_distinct legal)
links_distinct (starves legal once can its) = links_distinct legal
