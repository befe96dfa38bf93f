-- What a walk over the items of a SET keeps, as the items that these places are if they are left.
use Rattle.std.specs.Prelude.{◌≡◌, Bool, true, false, if◌then◌else◌, Option, Some, None, List, [], ◌∷◌, map}
use Rattle.rws_token.specs.Lexeme.{Lexeme}
use Rattle.rws_words.specs.Places.{Place}
use Rattle.rws_set.specs.Targets.{is_equals}
use Rattle.rws_set.specs.Items.{Item, Items, assigned, scoped, item_of, parted_from}
use Rattle.rws_set.specs.Views.{target_of}
use Rattle.rws_set.specs.declared.walk.Step.{Step}
use Rattle.rws_set.specs.declared.walk.Step.TheVariants.{Start, Scoped, Named, Valued, Broken}
use Rattle.rws_set.specs.declared.walk.Part.{Part}
use Rattle.rws_set.specs.declared.walk.Part.TheVariants.{Comma, Equals, Value, Front}
use Rattle.rws_set.specs.declared.walk.Walk.{Walk}

abbrev pub step_left : Step → List Place → Option Item
step_left Start ps = item_of ps
step_left Scoped ps = scoped ps
step_left (Named target) ps = assigned (Some (target_of target)) ps
step_left (Valued target) ps = Some (record { target = target_of target; value = ps })
step_left Broken ps = None

-- the value of the item has begun
abbrev pub is_valued : Step → Bool
is_valued (Valued target) = true
is_valued _ = false

-- the part of an item that the next token is
abbrev pub part_of : Step → Lexeme → Part
part_of (Named target) t = if is_equals t then Equals target else Front
part_of (Valued target) t = Value
part_of _ t = Front

-- one more token of the value of an item, if it is one
abbrev pub onto_value : Place → Option Item → Option Item
onto_value p None = None
onto_value p (Some item) = Some (record { target = item.target; value = p ∷ item.value })

-- one more token of the same item
abbrev pub StepReads : Step → Part → Place → Step → Type 0
StepReads old Comma p new = Unit {0}
StepReads old (Equals target) p new =
    (is_valued old ≡ false) × (new ≡ Valued target) × ((ps : List Place) → step_left old (p ∷ ps) ≡ step_left new ps)
StepReads old Value p new =
    (is_valued old ≡ true) × (new ≡ old)
    × ((ps : List Place) → step_left old (p ∷ ps) ≡ onto_value p (step_left new ps))
StepReads old Front p new =
    (is_valued old ≡ false) × (is_valued new ≡ false)
    × ((ps : List Place) → step_left old (p ∷ ps) ≡ step_left new ps)

-- the item that is read, and those behind it
abbrev pub walk_left : Walk → List Place → Items
walk_left walk ps =
    let parted = parted_from walk.depth ps in
    record { first = step_left walk.step parted.first; others = map item_of parted.others }

-- the items behind a comma, and then those before it
abbrev pub comma_left : Option Item → Items → Items
comma_left item left = record { first = item; others = left.first ∷ left.others }

abbrev pub value_on : Place → Items → Items
value_on p left = record { first = onto_value p left.first; others = left.others }

-- One more token, by the part of the list that it is
abbrev pub WalkReads : Walk → Part → Place → Walk → Type 0
WalkReads old Comma p new =
    (new.step ≡ Start)
    × ((ps : List Place) → walk_left old (p ∷ ps) ≡ comma_left (step_left old.step []) (walk_left new ps))
WalkReads old (Equals target) p new =
    (is_valued old.step ≡ false) × (new.step ≡ Valued target)
    × ((ps : List Place) → walk_left old (p ∷ ps) ≡ walk_left new ps)
WalkReads old Value p new =
    (is_valued old.step ≡ true) × (new.step ≡ old.step)
    × ((ps : List Place) → walk_left old (p ∷ ps) ≡ value_on p (walk_left new ps))
WalkReads old Front p new =
    (is_valued old.step ≡ false) × (is_valued new.step ≡ false)
    × ((ps : List Place) → walk_left old (p ∷ ps) ≡ walk_left new ps)
