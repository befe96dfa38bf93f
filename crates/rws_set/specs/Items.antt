-- The items of a SET, and what a list of them does.
use Rattle.std.specs.Prelude.{ℕ, ◌+◌, ◌-◌, Bool, ◌&&◌, ◌==◌, if◌then◌else◌, Option, Some, None, List, [], ◌∷◌, map}
use Rattle.rws_token.specs.Lexeme.{Lexeme, is_symbol}
use Rattle.rws_words.specs.Places.{Place}
use Rattle.rws_set.specs.Targets.{Target, any_target, word_target, is_scope, is_equals}
use Rattle.rws_set.specs.Values.{value_effect}
use Rattle.rws_set.specs.declared.effect.Effect.{Effect}
use Rattle.rws_set.specs.declared.effect.Effect.TheVariants.{Wrong, Plain, On, Off}

-- what is set, and the places of the value's tokens
pub record Item : Type 0 where
  pub target : Target
  pub value : List Place

-- behind a target: `=` or `:=`, and a value
abbrev pub assigned : Option Target → List Place → Option Item
assigned None ps = None
assigned (Some target) [] = None
assigned (Some target) (p ∷ ps) = if is_equals p.this then Some (record { target = target; value = ps }) else None

-- behind SESSION or LOCAL: a variable by its name alone
abbrev pub scoped : List Place → Option Item
scoped [] = None
scoped (p ∷ ps) = assigned (word_target p.this) ps

-- the item that these places are, if they are one
abbrev pub item_of : List Place → Option Item
item_of [] = None
item_of (p ∷ ps) = if is_scope p.this then scoped ps else assigned (any_target p.this) ps

-- Lists of items --------------------------------------------------------------------------------------

-- a list cut at its commas; it is never empty
pub record Parted : Type 0 where
  pub first : List Place
  pub others : List (List Place)

-- inside of parentheses no comma parts
abbrev pub depth_behind : ℕ → Lexeme → ℕ
depth_behind depth t = if is_symbol 40 t then depth + 1 else (if is_symbol 41 t then depth - 1 else depth)

abbrev pub parts_item : ℕ → Lexeme → Bool
parts_item depth t = depth == 0 && is_symbol 44 t

abbrev pub behind_comma : Parted → Parted
behind_comma parted = record { first = []; others = parted.first ∷ parted.others }

abbrev pub onto_item : Place → Parted → Parted
onto_item p parted = record { first = p ∷ parted.first; others = parted.others }

-- so many parentheses are open
abbrev pub parted_from : ℕ → List Place → Parted
parted_from depth [] = record { first = []; others = [] }
parted_from depth (p ∷ ps) =
    if parts_item depth p.this then behind_comma (parted_from 0 ps)
    else onto_item p (parted_from (depth_behind depth p.this) ps)

-- the items of a list, each None where it is none
pub record Items : Type 0 where
  pub first : Option Item
  pub others : List (Option Item)

abbrev pub items_of : List Place → Items
items_of ps =
    let parted = parted_from 0 ps in record { first = item_of parted.first; others = map item_of parted.others }

-- Effects ---------------------------------------------------------------------------------------------

abbrev pub item_effect : Option Item → Effect
item_effect None = Wrong
item_effect (Some item) = value_effect item.target.variable item.value

-- two items together: no two may switch autocommit
abbrev pub joined : Effect → Effect → Effect
joined Wrong e = Wrong
joined Plain e = e
joined On Plain = On
joined On _ = Wrong
joined Off Plain = Off
joined Off _ = Wrong

abbrev pub total : Effect → List (Option Item) → Effect
total e [] = e
total e (item ∷ items) = total (joined e (item_effect item)) items

-- what a whole list of items does
abbrev pub items_effect : List Place → Effect
items_effect ps = let items = items_of ps in total (item_effect items.first) items.others
