-- What readers of a value and of a list of items keep, as what it does if these places are left.
use Rattle.std.specs.Prelude.{not, ◌&&◌, ◌||◌, if◌then◌else◌, Option, Some, None, List}
use Rattle.std.specs.List.{list_any, list_all}
use Rattle.rws_token.specs.Lexeme.{Lexeme}
use Rattle.rws_words.specs.Lists.{is_empty}
use Rattle.rws_words.specs.Places.{Place, tokens_of}
use Rattle.rws_set.specs.Values.{is_beyond_session, is_mode_part, strings, parts_effect, alone, form_effect}
use Rattle.rws_set.specs.Items.{Item, item_effect, joined, total}
use Rattle.rws_set.specs.Search.{found_in}
use Rattle.rws_set.specs.Walks.{walk_left}
use Rattle.rws_set.specs.declared.mode.Search.{Search}
use Rattle.rws_set.specs.declared.effect.Effect.{Effect}
use Rattle.rws_set.specs.declared.effect.Effect.TheVariants.{Wrong, Plain}
use Rattle.rws_set.specs.declared.value.Form.{Form}
use Rattle.rws_set.specs.declared.value.Form.TheVariants.{Empty, Free, Whole, Concat, Mode}
use Rattle.rws_set.specs.declared.value.Value.{Value}
use Rattle.rws_set.specs.declared.walk.Step.{Step}
use Rattle.rws_set.specs.declared.walk.Step.TheVariants.{Valued}
use Rattle.rws_set.specs.declared.items.Items.{Items}

-- Values ----------------------------------------------------------------------------------------------

abbrev pub parts_left : Search → List Lexeme → Effect
parts_left search ts =
    if list_all is_mode_part ts && not (found_in search (strings ts)) then Plain else Wrong

abbrev pub form_left : Form → List Lexeme → Effect
form_left (Empty variable) ts = form_effect variable ts
form_left Free ts = Plain
form_left (Whole effect) ts = alone effect ts
form_left (Concat effect) ts = if is_empty ts then effect else parts_effect ts
form_left (Mode search) ts = parts_left search ts

abbrev pub value_left : Value → List Place → Effect
value_left value ps =
    if value.beyond_session || list_any is_beyond_session ps then Wrong else form_left value.form (tokens_of ps)

-- Items -----------------------------------------------------------------------------------------------

-- an item whose value has begun
abbrev pub begun_effect : Value → Option Item → Effect
begun_effect value None = Wrong
begun_effect value (Some item) = value_left value item.value

-- the item that is read
abbrev pub step_effect : Step → Value → Option Item → Effect
step_effect (Valued target) value item = begun_effect value item
step_effect _ value item = item_effect item

-- the items so far, the one that is read, and those behind it
abbrev pub items_left : Items → List Place → Effect
items_left items ps =
    let left = walk_left items.walk ps in
    total (joined items.before (step_effect items.walk.step items.value left.first)) left.others
