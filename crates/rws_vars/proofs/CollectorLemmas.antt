-- One more token of a value, in a list of items.
use Rattle.std.proofs.Common.{◌≡◌, true, Option, Some, List, ◌∷◌, ◌++◌, refl, ap, sym, ◌∙◌, subst}
use Rattle.std.proofs.lemmas.Bool.{false≢true}
use Rattle.std.specs.List.{flat_map}
use Rattle.rws_words.specs.Places.{Place}
use Rattle.rws_set.specs.Items.{Item, Items, parted_from}
use Rattle.rws_set.specs.Views.{target_of}
use Rattle.rws_set.specs.Walks.{step_left, is_valued, onto_value, walk_left, value_on}
use Rattle.rws_set.specs.declared.walk.Step.{Step}
use Rattle.rws_set.specs.declared.walk.Step.TheVariants.{Start, Scoped, Named, Valued, Broken}
use Rattle.rws_set.specs.declared.walk.Walk.{Walk}
use Rattle.rws_vars.specs.Assignments.{item_settings}
use Rattle.rws_vars.specs.States.{present_settings}
use Rattle.rws_vars.specs.declared.setting.Setting.{Setting}
use Rattle.rws_vars.specs.declared.draft.Draft.{Draft}

-- an item whose value has begun is one, whatever comes
record IsItem (step : Step) (ps : List Place) : Type 0 where
  item : Item
  is_item : step_left step ps ≡ Some item

valued_left : (step : Step) (ps : List Place) → is_valued step ≡ true → IsItem step ps
valued_left Start ps valued = absurd (false≢true valued)
valued_left Scoped ps valued = absurd (false≢true valued)
valued_left (Named target) ps valued = absurd (false≢true valued)
valued_left (Valued target) ps valued = record { item = record { target = target_of target; value = ps }; is_item = refl }
valued_left Broken ps valued = absurd (false≢true valued)

abbrev pub settings_of : List Setting → Option Draft → Items → List Setting
settings_of done draft items = done ++ (present_settings draft items.first ++ flat_map item_settings items.others)

pub value_read : (done : List Setting) (before after : Option Draft) (old new : Walk) (p : Place) → is_valued new.step ≡ true → ((item : Item) → present_settings after (Some item) ≡ present_settings before (onto_value p (Some item))) → ((ps : List Place) → walk_left old (p ∷ ps) ≡ value_on p (walk_left new ps)) → (ps : List Place) → settings_of done after (walk_left new ps) ≡ settings_of done before (walk_left old (p ∷ ps))
value_read done before after old new p valued goes walks ps =
    let left = walk_left new ps in
    let one = valued_left new.step (parted_from new.depth ps).first valued in
    let same : present_settings after left.first ≡ present_settings before (onto_value p left.first) = subst (λ (first : Option Item). present_settings after first ≡ present_settings before (onto_value p first)) (sym one.is_item) (goes one.item) in
    ap (λ (first : List Setting). done ++ (first ++ flat_map item_settings left.others)) same ∙ ap (settings_of done before) (sym (walks ps))
