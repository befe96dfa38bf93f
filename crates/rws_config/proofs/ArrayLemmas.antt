-- The values of an array, as the program goes over them.
use Rattle.std.proofs.Common.{◌≡◌, ℕ, suc, ◌+◌, ◌<◌, ◌&&◌, nat_le, Bool, List, [], ◌∷◌, ◌++◌, length, map, get_or, take, Option, None, Some, refl, sym, ap}
use Rattle.std.specs.Option.{option_to_list}
use Rattle.std.specs.List.{list_all, filter_map}
use Rattle.std.proofs.lemmas.List.{take_more, map-append}
use Rattle.std.proofs.lemmas.List.Elements.{filter_map-append}
use Rattle.toml.specs.declared.value.Value.{Value}
use Rattle.toml.specs.Data.{Data, array, Members, get_member, as_str, as_table}
use Rattle.toml.specs.View.{view, items_view}
use Rattle.rws_config.specs.declared.limits.TheConstants.{MOST_LISTEN}
use Rattle.rws_config.specs.declared.keys.Kind.TheVariants.{Addresses, Tables}
use Rattle.rws_config.specs.Keys.{list_of, fits, is_address_text, is_table}
use Rattle.rws_config.specs.Values.{tables_at, texts_at}

pub list_of_view : (vs : List Value) → list_of (items_view vs) ≡ map view vs
list_of_view [] = refl
list_of_view (v ∷ vs) = ap (λ ds. view v ∷ ds) (list_of_view vs)

length_of_view : (vs : List Value) → length (list_of (items_view vs)) ≡ length vs
length_of_view [] = refl
length_of_view (v ∷ vs) = ap suc (length_of_view vs)

all_of_view : (test : Data → Bool) (vs : List Value) → list_all test (list_of (items_view vs)) ≡ list_all (λ v. test (view v)) vs
all_of_view test [] = refl
all_of_view test (v ∷ vs) = ap (λ rest. test (view v) && rest) (all_of_view test vs)

pub addresses_fit : (vs : List Value) → fits Addresses (array (items_view vs))
    ≡ ((nat_le 1 (length vs) && nat_le (length vs) MOST_LISTEN) && list_all (λ v. is_address_text (view v)) vs)
addresses_fit vs = rw (length_of_view vs, all_of_view is_address_text vs) refl

pub tables_fit : (vs : List Value) → fits Tables (array (items_view vs)) ≡ (nat_le 1 (length vs) && list_all (λ v. is_table (view v)) vs)
tables_fit vs = rw (length_of_view vs, all_of_view is_table vs) refl

-- the tables at a key that holds an array
pub tables_at_array : (key : List ℕ) (table : Members) (vs : List Value) → get_member key table ≡ Some (array (items_view vs)) → filter_map as_table (map view vs) ≡ tables_at key table
tables_at_array key table vs e = rw e (ap (filter_map as_table) (sym (list_of_view vs)))

-- the texts there
pub texts_at_array : (default : List (List ℕ)) (key : List ℕ) (table : Members) (vs : List Value) → get_member key table ≡ Some (array (items_view vs)) → filter_map as_str (map view vs) ≡ texts_at default key table
texts_at_array default key table vs e = rw e (ap (filter_map as_str) (sym (list_of_view vs)))

module _ {Y : Type 0} (h : Data → Option Y) where
  chosen_one : (v : Value) → filter_map h (map view (v ∷ [])) ≡ option_to_list (h (view v))
  chosen_one v = by (h (view v)) refl
    where
      by : (o : Option Y) → h (view v) ≡ o → filter_map h (map view (v ∷ [])) ≡ option_to_list (h (view v))
      by None e = rw e refl
      by (Some y) e = rw e refl

  -- what is chosen of one value more
  pub chosen_more : (vs : List Value) (i : ℕ) (v : Value) → i < length vs → get_or vs i v ≡ v
      → filter_map h (map view (take (i + 1) vs)) ≡ filter_map h (map view (take i vs)) ++ option_to_list (h (view v))
  chosen_more vs i v inside at =
      rw (take_more vs i v inside, at, map-append view (take i vs) (v ∷ []), filter_map-append h (map view (take i vs)) (map view (v ∷ [])))
      (ap (λ ys. filter_map h (map view (take i vs)) ++ ys) (chosen_one v))
