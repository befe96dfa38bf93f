-- Which statements have an id on a link, as ids come and go.
use Rattle.std.proofs.Common.{inl, inr, ◌≡◌, ◌≢◌, ℕ, suc, ◌+◌, Bool, true, false, List, [], ◌∷◌, refl, sym, ap, subst, ◌∙◌, arith, Option, Some, None}
use Rattle.std.specs.Prelude.{◌⊎◌, ◌==◌, not, nat_lt, cond, is_some, if◌then◌else◌}
use Rattle.std.specs.Option.{option_map}
use Rattle.std.specs.Ordering.{is_eq, match_ordering, nat_cmp}
use Rattle.std.specs.declared.cmp.Ordering.{Ordering}
use Rattle.std.specs.declared.cmp.Ordering.TheVariants.{Less, Equal, Greater}
use Rattle.std.specs.BTreeMap.{insert_entry, is_at}
use Rattle.std.specs.Map.{lookup, remove_entry}
use Rattle.std.specs.List.{position_from}
use Rattle.std.proofs.lemmas.Bool.{eq-eqb, eqb-true, le-ltb}
use Rattle.rws_handles.specs.LinkIds.{Ids, id_of, no_ids, with_id, with_left, with_stale_id, without_least}
use Rattle.rws_handles.specs.Links.{forget_at, id_on, ids_at, ids_on, left_on, place_of, put_at, with_id_on, with_stale_on, without_least_on, without_link}

-- Numbers

same_number : (number : ℕ) → is_eq (nat_cmp number number) ≡ true
same_number number = rw (le-ltb number number (omega arith), eq-eqb number number refl) refl

number_is : (one other : ℕ) → is_eq (nat_cmp one other) ≡ true → one ≡ other
number_is one other e = by_less (nat_lt one other) e
  where
    by_same : (test : Bool) → (one == other) ≡ test → is_eq (cond test Equal Greater) ≡ true → one ≡ other
    by_same true t e = eqb-true one other t
    by_same false t e = absurd cc

    by_less : (test : Bool) → is_eq (cond test Less (cond (one == other) Equal Greater)) ≡ true → one ≡ other
    by_less true e = absurd cc
    by_less false e = by_same (one == other) refl e

-- The ids on one link

abbrev pub HasId : ℕ → List (ℕ × ℕ) → Type 0
HasId number ids = is_some (lookup (is_at (nat_cmp number)) ids) ≡ true

-- what is behind the first, if it isn't the first
in_front : (test : Bool) (id : ℕ) (rest now : Option ℕ) → (is_some rest ≡ true → is_some now ≡ true) → is_some (cond test (Some id) rest) ≡ true
    → is_some (cond test (Some id) now) ≡ true
in_front true id rest now later has = refl
in_front false id rest now later has = later has

or_behind : (test : Bool) (id : ℕ) (rest : Option ℕ) → is_some rest ≡ true → is_some (cond test (Some id) rest) ≡ true
or_behind true id rest has = refl
or_behind false id rest has = has

other_id : (test : Bool) (one other : ℕ) (rest : Option ℕ) → is_some (cond test (Some one) rest) ≡ true → is_some (cond test (Some other) rest) ≡ true
other_id true one other rest has = refl
other_id false one other rest has = has

given_id : (number id : ℕ) (ids : List (ℕ × ℕ)) → HasId number (insert_entry nat_cmp ids number id)
given_id number id [] = ap (λ (test : Bool). is_some (cond test (Some id) None)) (same_number number)
given_id number id (first ∷ others) = by_order (nat_cmp number first.0) refl (given_id number id others)
  where
    by_order : (order : Ordering) → nat_cmp number first.0 ≡ order → HasId number (insert_entry nat_cmp others number id)
        → HasId number (match_ordering order ((number, id) ∷ first ∷ others) ((first.0, id) ∷ others) (first ∷ insert_entry nat_cmp others number id))
    by_order Less o rest = ap (λ (test : Bool). is_some (cond test (Some id) (lookup (is_at (nat_cmp number)) (first ∷ others)))) (same_number number)
    by_order Equal o rest = ap (λ (its : Ordering). is_some (cond (is_eq its) (Some id) (lookup (is_at (nat_cmp number)) others))) o
    by_order Greater o rest =
        or_behind (is_eq (nat_cmp number first.0)) first.1 (lookup (is_at (nat_cmp number)) (insert_entry nat_cmp others number id)) rest

still_id : (other number id : ℕ) (ids : List (ℕ × ℕ)) → HasId other ids → HasId other (insert_entry nat_cmp ids number id)
still_id other number id [] has = absurd cc
still_id other number id (first ∷ others) has = by_order (nat_cmp number first.0) (still_id other number id others)
  where
    by_order : (order : Ordering) → (HasId other others → HasId other (insert_entry nat_cmp others number id))
        → HasId other (match_ordering order ((number, id) ∷ first ∷ others) ((first.0, id) ∷ others) (first ∷ insert_entry nat_cmp others number id))
    by_order Less rest = or_behind (is_eq (nat_cmp other number)) id (lookup (is_at (nat_cmp other)) (first ∷ others)) has
    by_order Equal rest = other_id (is_eq (nat_cmp other first.0)) first.1 id (lookup (is_at (nat_cmp other)) others) has
    by_order Greater rest =
        in_front (is_eq (nat_cmp other first.0)) first.1 (lookup (is_at (nat_cmp other)) others)
        (lookup (is_at (nat_cmp other)) (insert_entry nat_cmp others number id)) rest has

left_id : (other number : ℕ) (ids : List (ℕ × ℕ)) → other ≢ number → HasId other ids → HasId other (remove_entry (is_at (nat_cmp number)) ids)
left_id other number [] apart has = has
left_id other number (first ∷ others) apart has = by_test (is_eq (nat_cmp number first.0)) refl (left_id other number others apart)
  where
    behind : (test : Bool) → is_eq (nat_cmp other first.0) ≡ test → number ≡ first.0
        → is_some (cond test (Some first.1) (lookup (is_at (nat_cmp other)) others)) ≡ true → HasId other others
    behind true t same has = absurd (apart (number_is other first.0 t ∙ sym same))
    behind false t same has = has

    by_test : (test : Bool) → is_eq (nat_cmp number first.0) ≡ test → (HasId other others → HasId other (remove_entry (is_at (nat_cmp number)) others))
        → HasId other (cond test others (first ∷ remove_entry (is_at (nat_cmp number)) others))
    by_test true t rest = behind (is_eq (nat_cmp other first.0)) refl (number_is number first.0 t) has
    by_test false t rest =
        in_front (is_eq (nat_cmp other first.0)) first.1 (lookup (is_at (nat_cmp other)) others)
        (lookup (is_at (nat_cmp other)) (remove_entry (is_at (nat_cmp number)) others)) rest has

-- The ids on all links, one after the other

later_place : (test : Ids → Bool) (at : ℕ) (links : List Ids) → position_from test (at + 1) links ≡ option_map (λ place. suc place) (position_from test at links)
later_place test at [] = refl
later_place test at (first ∷ others) = by_test (test first) (later_place test (at + 1) others)
  where
    by_test : (its : Bool) → position_from test (at + 1 + 1) others ≡ option_map (λ place. suc place) (position_from test (at + 1) others)
        → cond its (Some (at + 1)) (position_from test (at + 1 + 1) others)
        ≡ option_map (λ place. suc place) (cond its (Some at) (position_from test (at + 1) others))
    by_test true rest = ap (λ (n : ℕ). Some n) (omega arith)
    by_test false rest = rest

ids_first : (link : ℕ) (first : Ids) (others : List Ids) → ids_on link (first ∷ others) ≡ cond (first.link == link) first (ids_on link others)
ids_first link first others =
    ap (λ (place : Option ℕ). ids_at link (first ∷ others) (cond (first.link == link) (Some 0) place)) (later_place (λ on. on.link == link) 0 others)
    ∙ by_test (first.link == link)
  where
    by_place : (place : Option ℕ) → ids_at link (first ∷ others) (option_map (λ at. suc at) place) ≡ ids_at link others place
    by_place None = refl
    by_place (Some at) = refl

    by_test : (test : Bool) → ids_at link (first ∷ others) (cond test (Some 0) (option_map (λ at. suc at) (place_of link others)))
        ≡ cond test first (ids_on link others)
    by_test true = refl
    by_test false = by_place (place_of link others)

put_first : (link : ℕ) (first : Ids) (others : List Ids) (on : Ids)
    → put_at (first ∷ others) (place_of link (first ∷ others)) on ≡ cond (first.link == link) (on ∷ others) (first ∷ put_at others (place_of link others) on)
put_first link first others on =
    ap (λ (place : Option ℕ). put_at (first ∷ others) (cond (first.link == link) (Some 0) place) on) (later_place (λ on. on.link == link) 0 others)
    ∙ by_test (first.link == link)
  where
    by_place : (place : Option ℕ) → put_at (first ∷ others) (option_map (λ at. suc at) place) on ≡ first ∷ put_at others place on
    by_place None = refl
    by_place (Some at) = refl

    by_test : (test : Bool) → put_at (first ∷ others) (cond test (Some 0) (option_map (λ at. suc at) (place_of link others))) on
        ≡ cond test (on ∷ others) (first ∷ put_at others (place_of link others) on)
    by_test true = refl
    by_test false = by_place (place_of link others)

-- another entry in a link's place
put_is : (link : ℕ) (links : List Ids) (on : Ids) (other : ℕ) → on.link ≡ link
    → ids_on other (put_at links (place_of link links) on) ≡ cond (link == other) on (ids_on other links)
put_is link [] on other same = ids_first other on [] ∙ ap (λ (its : ℕ). cond (its == other) on (no_ids other)) same
put_is link (first ∷ others) on other same =
    ap (λ (list : List Ids). ids_on other list) (put_first link first others on)
    ∙ by_test (first.link == link) refl (put_is link others on other same)
    ∙ ap (λ (its : Ids). cond (link == other) on its) (sym (ids_first other first others))
  where
    both : (here there : Bool) → (first.link == other) ≡ here → (link == other) ≡ there → (first.link == link) ≡ false
        → cond here first (cond there on (ids_on other others)) ≡ cond there on (cond here first (ids_on other others))
    both true true h t none =
        let same = eqb-true first.link other h ∙ sym (eqb-true link other t) in
        let clash : true ≡ false = sym (eq-eqb first.link link same) ∙ none in absurd cc
    both true false h t none = refl
    both false there h t none = refl

    here_so : (there : Bool) → (link == other) ≡ there → first.link ≡ link → cond there on (ids_on other others) ≡ cond there on (cond (first.link == other) first (ids_on other others))
    here_so true t its = refl
    here_so false t its = let apart : (first.link == other) ≡ false = ap (λ (l : ℕ). l == other) its ∙ t in rw apart refl

    by_test : (test : Bool) → (first.link == link) ≡ test
        → ids_on other (put_at others (place_of link others) on) ≡ cond (link == other) on (ids_on other others)
        → ids_on other (cond test (on ∷ others) (first ∷ put_at others (place_of link others) on))
        ≡ cond (link == other) on (cond (first.link == other) first (ids_on other others))
    by_test true t rest =
        ids_first other on others ∙ ap (λ (its : ℕ). cond (its == other) on (ids_on other others)) same
        ∙ here_so (link == other) refl (eqb-true first.link link t)
    by_test false t rest =
        ids_first other first (put_at others (place_of link others) on)
        ∙ ap (λ (its : Ids). cond (first.link == other) first its) rest
        ∙ both (first.link == other) (link == other) refl refl t

link_is : (link : ℕ) (links : List Ids) → (ids_on link links).link ≡ link
link_is link [] = refl
link_is link (first ∷ others) = ap (λ (on : Ids). on.link) (ids_first link first others) ∙ by_test (first.link == link) refl (link_is link others)
  where
    by_test : (test : Bool) → (first.link == link) ≡ test → (ids_on link others).link ≡ link → (cond test first (ids_on link others)).link ≡ link
    by_test true t rest = eqb-true first.link link t
    by_test false t rest = rest

left_is : (number link : ℕ) (links : List Ids) → ids_on link (left_on number links) ≡ with_left number (ids_on link links)
left_is number link [] = refl
left_is number link (first ∷ others) =
    ids_first link (with_left number first) (left_on number others)
    ∙ by_test (first.link == link) (left_is number link others)
    ∙ ap (λ (on : Ids). with_left number on) (sym (ids_first link first others))
  where
    by_test : (test : Bool) → ids_on link (left_on number others) ≡ with_left number (ids_on link others)
        → cond test (with_left number first) (ids_on link (left_on number others)) ≡ with_left number (cond test first (ids_on link others))
    by_test true rest = refl
    by_test false rest = rest

without_is : (gone other : ℕ) (links : List Ids) → (gone == other) ≡ false → ids_on other (without_link gone links) ≡ ids_on other links
without_is gone other [] apart = refl
without_is gone other (first ∷ others) apart =
    by_test (first.link == gone) refl (without_is gone other others apart) ∙ sym (ids_first other first others)
  where
    by_test : (test : Bool) → (first.link == gone) ≡ test → ids_on other (without_link gone others) ≡ ids_on other others
        → ids_on other (if not test then first ∷ without_link gone others else without_link gone others) ≡ cond (first.link == other) first (ids_on other others)
    by_test true t rest =
        let elsewhere : (first.link == other) ≡ false = ap (λ (l : ℕ). l == other) (eqb-true first.link gone t) ∙ apart in
        rw elsewhere rest
    by_test false t rest =
        ids_first other first (without_link gone others) ∙ ap (λ (on : Ids). cond (first.link == other) first on) rest

-- What has an id

abbrev pub HasOn : (link number : ℕ) → List Ids → Type 0
HasOn link number links = is_some (id_on links link number) ≡ true

pub given_on : (link number id : ℕ) (links : List Ids) → HasOn link number (with_id_on link number id links)
given_on link number id links =
    let itself : (link == link) ≡ true = eq-eqb link link refl in
    ap (λ (on : Ids). is_some (id_of number on)) (put_is link links (with_id number id (ids_on link links)) link (link_is link links)
    ∙ ap (λ (test : Bool). cond test (with_id number id (ids_on link links)) (ids_on link links)) itself)
    ∙ given_id number id (ids_on link links).ids

-- a change of one link's ids by which none is lost
put_keeps : (link other number : ℕ) (links : List Ids) (on : Ids) → on.link ≡ link
    → (HasId number (ids_on link links).ids → HasId number on.ids) → HasOn other number links → HasOn other number (put_at links (place_of link links) on)
put_keeps link other number links on same keeps has =
    ap (λ (its : Ids). is_some (id_of number its)) (put_is link links on other same) ∙ by_test (link == other) refl
  where
    by_test : (test : Bool) → (link == other) ≡ test → is_some (id_of number (cond test on (ids_on other links))) ≡ true
    by_test true t = keeps (subst (λ (l : ℕ). HasId number (ids_on l links).ids) (sym (eqb-true link other t)) has)
    by_test false t = has

pub still_on : (link other number id given : ℕ) (links : List Ids) → HasOn other number links → HasOn other number (with_id_on link given id links)
still_on link other number id given links has =
    put_keeps link other number links (with_id given id (ids_on link links)) (link_is link links) (still_id number given id (ids_on link links).ids) has

pub stale_keeps : (link other number id : ℕ) (links : List Ids) → HasOn other number links → HasOn other number (with_stale_on link id links)
stale_keeps link other number id links has =
    put_keeps link other number links (with_stale_id id (ids_on link links)) (link_is link links) (λ its. its) has

pub forgotten_keeps : (link other number : ℕ) (links : List Ids) → HasOn other number links → HasOn other number (without_least_on link links)
forgotten_keeps link other number links has = by_place (place_of link links) refl
  where
    by_place : (place : Option ℕ) → place_of link links ≡ place → HasOn other number (forget_at link links place)
    by_place None p = has
    by_place (Some at) p =
        let on = without_least (ids_on link links) in
        let its = put_keeps link other number links on (link_is link links) (λ its. its) has in
        subst (λ (found : Option ℕ). HasOn other number (put_at links found (without_least (ids_at link links found)))) p its

pub left_keeps : (left link number : ℕ) (links : List Ids) → number ≢ left → HasOn link number links → HasOn link number (left_on left links)
left_keeps left link number links apart has =
    ap (λ (on : Ids). is_some (id_of number on)) (left_is left link links) ∙ left_id number left (ids_on link links).ids apart has

pub without_keeps : (gone link number : ℕ) (links : List Ids) → (gone == link) ≡ false → HasOn link number links → HasOn link number (without_link gone links)
without_keeps gone link number links apart has = ap (λ (on : Ids). is_some (id_of number on)) (without_is gone link links apart) ∙ has

-- Which ids are kept

abbrev pub Member : ℕ → ℕ → List (ℕ × ℕ) → Type 0
Member number id [] = ⊥
Member number id (first ∷ others) = ((first.0 ≡ number) × (first.1 ≡ id)) ⊎ Member number id others

found_member : (number id : ℕ) (ids : List (ℕ × ℕ)) → lookup (is_at (nat_cmp number)) ids ≡ Some id → Member number id ids
found_member number id [] e = absurd cc
found_member number id (first ∷ others) e = by_test (is_eq (nat_cmp number first.0)) refl e (found_member number id others)
  where
    by_test : (test : Bool) → is_eq (nat_cmp number first.0) ≡ test → cond test (Some first.1) (lookup (is_at (nat_cmp number)) others) ≡ Some id
        → (lookup (is_at (nat_cmp number)) others ≡ Some id → Member number id others) → ((first.0 ≡ number) × (first.1 ≡ id)) ⊎ Member number id others
    by_test true t e rest = inl (sym (number_is number first.0 t), (let same : first.1 ≡ id = cc in same))
    by_test false t e rest = inr (rest e)

given_member : (number id other its : ℕ) (ids : List (ℕ × ℕ)) → Member other its (insert_entry nat_cmp ids number id)
    → ((number ≡ other) × (id ≡ its)) ⊎ Member other its ids
given_member number id other its [] (inl same) = inl same
given_member number id other its [] (inr none) = absurd none
given_member number id other its (first ∷ others) has =
    by_order (nat_cmp number first.0) refl has (given_member number id other its others)
  where
    by_order : (order : Ordering) → nat_cmp number first.0 ≡ order
        → Member other its (match_ordering order ((number, id) ∷ first ∷ others) ((first.0, id) ∷ others) (first ∷ insert_entry nat_cmp others number id))
        → (Member other its (insert_entry nat_cmp others number id) → ((number ≡ other) × (id ≡ its)) ⊎ Member other its others)
        → ((number ≡ other) × (id ≡ its)) ⊎ (((first.0 ≡ other) × (first.1 ≡ its)) ⊎ Member other its others)
    by_order Less o (inl same) rest = inl same
    by_order Less o (inr has) rest = inr has
    by_order Equal o (inl same) rest = inl (number_is number first.0 (ap is_eq o) ∙ same.0, same.1)
    by_order Equal o (inr has) rest = inr (inr has)
    by_order Greater o (inl same) rest = inr (inl same)
    by_order Greater o (inr has) rest = elim (rest has) [
      | inl new ↦ inl new
      | inr old ↦ inr (inr old)
    ]

left_member : (number other its : ℕ) (ids : List (ℕ × ℕ)) → Member other its (remove_entry (is_at (nat_cmp number)) ids) → Member other its ids
left_member number other its [] has = has
left_member number other its (first ∷ others) has = by_test (is_eq (nat_cmp number first.0)) has (left_member number other its others)
  where
    by_test : (test : Bool) → Member other its (cond test others (first ∷ remove_entry (is_at (nat_cmp number)) others))
        → (Member other its (remove_entry (is_at (nat_cmp number)) others) → Member other its others)
        → ((first.0 ≡ other) × (first.1 ≡ its)) ⊎ Member other its others
    by_test true has rest = inr has
    by_test false (inl same) rest = inl same
    by_test false (inr has) rest = inr (rest has)

abbrev pub Held : (link number id : ℕ) → List Ids → Type 0
Held link number id links = Member number id (ids_on link links).ids

pub found_held : (link number id : ℕ) (links : List Ids) → id_on links link number ≡ Some id → Held link number id links
found_held link number id links e = found_member number id (ids_on link links).ids e

put_held : (link other number id : ℕ) (links : List Ids) (on : Ids) → on.link ≡ link → Held other number id (put_at links (place_of link links) on)
    → ((link ≡ other) × Member number id on.ids) ⊎ Held other number id links
put_held link other number id links on same has =
    by_test (link == other) refl (subst (λ (its : Ids). Member number id its.ids) (put_is link links on other same) has)
  where
    by_test : (test : Bool) → (link == other) ≡ test → Member number id (cond test on (ids_on other links)).ids
        → ((link ≡ other) × Member number id on.ids) ⊎ Held other number id links
    by_test true t has = inl (eqb-true link other t, has)
    by_test false t has = inr has

-- a change of one link's entry by which it gets none
same_held : (link other number id : ℕ) (links : List Ids) (on : Ids) → on.link ≡ link → on.ids ≡ (ids_on link links).ids
    → Held other number id (put_at links (place_of link links) on) → Held other number id links
same_held link other number id links on same ids has = elim (put_held link other number id links on same has) [
  | inl its ↦
      subst (λ (l : ℕ). Held l number id links) its.0 (subst (Member number id) ids its.1)
  | inr old ↦ old
]

pub given_held : (link given_number given other number id : ℕ) (links : List Ids) → Held other number id (with_id_on link given_number given links)
    → ((link ≡ other) × (given_number ≡ number) × (given ≡ id)) ⊎ Held other number id links
given_held link given_number given other number id links has =
    elim (put_held link other number id links (with_id given_number given (ids_on link links)) (link_is link links) has) [
      | inl its ↦ elim (given_member given_number given number id (ids_on link links).ids its.1) [
        | inl new ↦ inl (its.0, new.0, new.1)
        | inr old ↦ inr (subst (λ (l : ℕ). Held l number id links) its.0 old)
      ]
      | inr old ↦ inr old
    ]

pub stale_held : (link stale other number id : ℕ) (links : List Ids) → Held other number id (with_stale_on link stale links) → Held other number id links
stale_held link stale other number id links has =
    same_held link other number id links (with_stale_id stale (ids_on link links)) (link_is link links) refl has

pub forgotten_held : (link other number id : ℕ) (links : List Ids) → Held other number id (without_least_on link links) → Held other number id links
forgotten_held link other number id links has = by_place (place_of link links) refl has
  where
    by_place : (place : Option ℕ) → place_of link links ≡ place → Held other number id (forget_at link links place) → Held other number id links
    by_place None p has = has
    by_place (Some at) p has =
        same_held link other number id links (without_least (ids_on link links)) (link_is link links) refl
        (subst (λ (found : Option ℕ). Held other number id (put_at links found (without_least (ids_at link links found)))) (sym p) has)

pub left_held : (left link number id : ℕ) (links : List Ids) → Held link number id (left_on left links) → Held link number id links
left_held left link number id links has =
    left_member left number id (ids_on link links).ids (subst (λ (on : Ids). Member number id on.ids) (left_is left link links) has)

gone_is : (gone : ℕ) (links : List Ids) → ids_on gone (without_link gone links) ≡ no_ids gone
gone_is gone [] = refl
gone_is gone (first ∷ others) = by_test (first.link == gone) refl (gone_is gone others)
  where
    by_test : (test : Bool) → (first.link == gone) ≡ test → ids_on gone (without_link gone others) ≡ no_ids gone
        → ids_on gone (if not test then first ∷ without_link gone others else without_link gone others) ≡ no_ids gone
    by_test true t rest = rest
    by_test false t rest =
        ids_first gone first (without_link gone others) ∙ ap (λ (test : Bool). cond test first (ids_on gone (without_link gone others))) t ∙ rest

pub without_held : (gone link number id : ℕ) (links : List Ids) → Held link number id (without_link gone links) → Held link number id links
without_held gone link number id links has = by_test (gone == link) refl
  where
    by_test : (test : Bool) → (gone == link) ≡ test → Held link number id links
    by_test true t =
        let same = eqb-true gone link t in
        let none : Held gone number id (without_link gone links) = subst (λ (l : ℕ). Held l number id (without_link gone links)) (sym same) has in
        let none : Member number id [] = subst (λ (on : Ids). Member number id on.ids) (gone_is gone links) none in absurd none
    by_test false t = subst (λ (on : Ids). Member number id on.ids) (without_is gone link links t) has
