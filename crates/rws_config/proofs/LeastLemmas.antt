-- The least of some texts, text by text.
use Rattle.std.proofs.Common.{◌≡◌, ℕ, Bool, true, false, not, cond, List, [], ◌∷◌, ◌++◌, map, get_or, drop, append-nil, ◌||◌, ◌≢◌, subst, nat_cmp, is_lt, Ordering, Less, Equal, Greater, Option, None, Some, refl, sym, ap, ◌∙◌}
use Rattle.std.specs.Ordering.{ordering_reverse}
use Rattle.std.specs.Cmp.Lexicographic.{slice_cmp}
use Rattle.std.proofs.lemmas.Cmp.{nat_list_cmp_total}
use Rattle.std.proofs.lemmas.Option.{same_Some}
use Rattle.std.specs.Cmp.{tied_itself}
use Rattle.std.specs.List.{AllByRecursion}
use Rattle.std.specs.List.{filter, flat_map, list_any}
use Rattle.std.specs.Str.{bytes_eq}
use Rattle.std.proofs.lemmas.List.{map-append}
use Rattle.std.proofs.lemmas.Grind.{flat_map-append}
use Rattle.toml.specs.Data.{Members}
use Rattle.rws_config.specs.declared.keys.Place.{Place}
use Rattle.rws_config.specs.declared.keys.Place.TheVariants.{Top, Servers, Accounts}
use Rattle.rws_config.specs.declared.keys.Key.{Key}
use Rattle.rws_config.specs.declared.flaws.Flaw.{Flaw}
use Rattle.rws_config.specs.Keys.{Entry, entry_of}
use Rattle.rws_config.specs.Settings.{flawed_in, flawed_keys, IsLeast, is_known, least, least_from, lesser, prefix, repeated}

pub least_from-append : (best : Option (List ℕ)) (xs ys : List (List ℕ)) → least_from best (xs ++ ys) ≡ least_from (least_from best xs) ys
least_from-append best [] ys = refl
least_from-append best (x ∷ xs) ys = least_from-append (Some (lesser best x)) xs ys

-- the name of a key in a fault
abbrev pub full_name : Place → List ℕ → List ℕ
full_name place name = prefix place ++ name

-- the least with what the test leaves of a name and the names behind it
pub with_left : (best : Option (List ℕ)) (place : Place) (left : Bool) (name : List ℕ) (names : List (List ℕ))
    → least_from (cond left (Some (lesser best (full_name place name))) best) (map (full_name place) names)
    ≡ least_from best (map (full_name place) (cond left (name ∷ names) names))
with_left best place true name names = refl
with_left best place false name names = refl

-- the same, where what passes the test is left out
pub with_passed : (best : Option (List ℕ)) (place : Place) (passes : Bool) (name : List ℕ) (names : List (List ℕ))
    → least_from (cond passes best (Some (lesser best (full_name place name)))) (map (full_name place) names)
    ≡ least_from best (map (full_name place) (cond (not passes) (name ∷ names) names))
with_passed best place true name names = refl
with_passed best place false name names = refl

-- the same, of a key of the tables
pub with_key : (best : Option (List ℕ)) (place : Place) (test : Entry → Bool) (key : Key) (keys : List Key)
    → least_from (cond (test (entry_of key)) (Some (lesser best (full_name place key.name.now))) best) (map (full_name place) (map (λ (key : Entry). key.name) (filter test (map entry_of keys))))
    ≡ least_from best (map (full_name place) (map (λ (key : Entry). key.name) (filter test (map entry_of (key ∷ keys)))))
with_key best place test key keys = by (test (entry_of key)) refl
  where
    rest : List Entry
    rest = filter test (map entry_of keys)

    by : (found : Bool) → test (entry_of key) ≡ found
        → least_from (cond (test (entry_of key)) (Some (lesser best (full_name place key.name.now))) best) (map (full_name place) (map (λ (key : Entry). key.name) (filter test (map entry_of keys))))
        ≡ least_from best (map (full_name place) (map (λ (key : Entry). key.name) (filter test (map entry_of (key ∷ keys)))))
    by true e = rw e refl
    by false e = rw e refl

-- the same, of a name that stands behind itself again
pub with_again : (best : Option (List ℕ)) (name : List ℕ) (names : List (List ℕ))
    → least_from (cond (list_any (bytes_eq name) names) (Some (lesser best name)) best) (repeated names) ≡ least_from best (repeated (name ∷ names))
with_again best name names = by (list_any (bytes_eq name) names) refl
  where
    by : (again : Bool) → list_any (bytes_eq name) names ≡ again → least_from (cond (list_any (bytes_eq name) names) (Some (lesser best name)) best) (repeated names) ≡ least_from best (repeated (name ∷ names))
    by true e = rw e refl
    by false e = rw e refl

-- the least with the tables so far, and with some more
pub over_tables : (best : Option (List ℕ)) (place : Place) (found : Members → List (List ℕ)) (done more : List Members)
    → least_from (least_from best (map (full_name place) (flat_map found done))) (map (full_name place) (flat_map found more))
    ≡ least_from best (map (full_name place) (flat_map found (done ++ more)))
over_tables best place found done more =
    rw (flat_map-append found done more, map-append (full_name place) (flat_map found done) (flat_map found more))
    (sym (least_from-append best (map (full_name place) (flat_map found done)) (map (full_name place) (flat_map found more))))

-- the least over the three places, one after the other
pub over_places : (flaw : Flaw) (file : Members)
    → least_from (least_from (least_from None (flawed_in flaw file Top)) (flawed_in flaw file Servers)) (flawed_in flaw file Accounts) ≡ least (flawed_keys flaw file)
over_places flaw file =
    let top : List (List ℕ) = flawed_in flaw file Top in
    let servers : List (List ℕ) = flawed_in flaw file Servers in
    let accounts : List (List ℕ) = flawed_in flaw file Accounts in
    sym (least_from-append None top (servers ++ (accounts ++ []))
    ∙ least_from-append (least_from None top) servers (accounts ++ [])
    ∙ ap (λ keys. least_from (least_from (least_from None top) servers) keys) (append-nil accounts))

-- a name among the entries of the program's tables
pub known_among : (name : List ℕ) (keys : List Key) → list_any (λ (key : Key). bytes_eq key.name.now name) keys ≡ is_known (map entry_of keys) name
known_among name [] = refl
known_among name (key ∷ keys) = ap (λ found. bytes_eq key.name.now name || found) (known_among name keys)

-- ---- the least is one of the texts, and none comes before it

not_less_by : (o : Ordering) (text best key : List ℕ) → slice_cmp nat_cmp text best ≡ o → is_lt o ≡ false → slice_cmp nat_cmp best key ≢ Less → slice_cmp nat_cmp text key ≢ Less
not_less_by Less text best key e other above = cc
not_less_by Equal text best key e other above = λ less. above (sym (nat_list_cmp_total.congr text best key e) ∙ less)
not_less_by Greater text best key e other above =
    λ less. above (nat_list_cmp_total.trans best text key (nat_list_cmp_total.antisymm best text ∙ ap ordering_reverse e) less)

less_by : (o : Ordering) → is_lt o ≡ true → o ≡ Less
less_by Less e = refl
less_by Equal e = cc
less_by Greater e = cc

not_itself : (text : List ℕ) → slice_cmp nat_cmp text text ≢ Less
not_itself text less = let bad : Equal ≡ Less = sym (tied_itself nat_list_cmp_total text) ∙ less in cc

-- the least of a text and others
record IsLeastFrom (best : List ℕ) (texts : List (List ℕ)) (key : List ℕ) : Type 0 where
  before : List (List ℕ)
  after : List (List ℕ)
  stands : best ∷ texts ≡ before ++ (key ∷ after)
  first : slice_cmp nat_cmp best key ≢ Less
  others : AllByRecursion (λ text. slice_cmp nat_cmp text key ≢ Less) texts

-- the same with one text more, the lesser of two, of which the other one is left out
with_other : (best text : List ℕ) (texts : List (List ℕ)) (key : List ℕ) → (b : Bool) → is_lt (slice_cmp nat_cmp text best) ≡ b
    → IsLeastFrom (cond b text best) texts key → IsLeastFrom best (text ∷ texts) key
with_other best text texts key true e rest =
    let above = λ (less : slice_cmp nat_cmp best key ≡ Less). rest.first (nat_list_cmp_total.trans text best key (less_by _ e) less) in
    record { before = best ∷ rest.before; after = rest.after; stands = ap (λ (ts : List (List ℕ)). best ∷ ts) rest.stands; first = above; others = (rest.first, rest.others) }
with_other best text texts key false e rest = by rest.before rest.stands
  where
    all : AllByRecursion (λ other. slice_cmp nat_cmp other key ≢ Less) (text ∷ texts)
    all = (not_less_by (slice_cmp nat_cmp text best) text best key refl e rest.first, rest.others)

    by : (before : List (List ℕ)) → best ∷ texts ≡ before ++ (key ∷ rest.after) → IsLeastFrom best (text ∷ texts) key
    by [] stands =
        let same : best ≡ key = ap (λ (ts : List (List ℕ)). get_or ts 0 []) stands in
        record { before = []; after = text ∷ texts; stands = ap (λ (k : List ℕ). k ∷ text ∷ texts) same; first = rest.first; others = all }
    by (front ∷ before) stands =
        let tail : texts ≡ before ++ (key ∷ rest.after) = ap (drop 1) stands in
        record { before = best ∷ text ∷ before; after = rest.after; stands = ap (λ (ts : List (List ℕ)). best ∷ text ∷ ts) tail; first = rest.first; others = all }

least_from_is : (best : List ℕ) (texts : List (List ℕ)) (key : List ℕ) → least_from (Some best) texts ≡ Some key → IsLeastFrom best texts key
least_from_is best [] key e =
    let same : best ≡ key = same_Some _ _ e in
    record { before = []; after = []; stands = ap (λ (k : List ℕ). k ∷ []) same; first = subst (λ (k : List ℕ). slice_cmp nat_cmp best k ≢ Less) same (not_itself best); others = tt }
least_from_is best (text ∷ texts) key e = with_other best text texts key (is_lt (slice_cmp nat_cmp text best)) refl (least_from_is (lesser (Some best) text) texts key e)

pub least_is : (texts : List (List ℕ)) (key : List ℕ) → least texts ≡ Some key → IsLeast texts key
least_is [] key e = cc
least_is (text ∷ texts) key e =
    let found = least_from_is text texts key e in
    record { before = found.before; after = found.after; stands = found.stands; least = (found.first, found.others) }

-- ---- where there is no least, there is no text

least_of_some : (best : List ℕ) (texts : List (List ℕ)) → (found : List ℕ) × (least_from (Some best) texts ≡ Some found)
least_of_some best [] = (best, refl)
least_of_some best (text ∷ texts) = least_of_some (lesser (Some best) text) texts

pub none_is_least : (texts : List (List ℕ)) → least texts ≡ None → texts ≡ []
none_is_least [] e = refl
none_is_least (text ∷ texts) e = let found = least_of_some text texts in let bad : None ≡ Some found.0 = sym e ∙ found.1 in cc
