-- A tree's entries, seen as a finite map.
use Rattle.std.proofs.Common.{◌≡◌, ℕ, cond, Option, Some, List, [], ◌∷◌, refl, ap, sym, ◌∙◌}
use Rattle.std.specs.Map.{lookup}
use Rattle.std.specs.Ordering.{nat_cmp, eq_by_cmp, is_eq}
use Rattle.std.specs.Cmp.{eq_by_cmp_equiv}
use Rattle.std.specs.Cmp.Lexicographic.{slice_cmp, nat_list_cmp_total}
use Rattle.std.specs.FinMap.{find, get, insert, from_entries, get-insert, get-from_entries, same_map, slice_cmp-IsAntisymmetric, nat_cmp-IsAntisymmetric}
use Rattle.rws_vars.specs.Map.{Map}

abbrev pub Entries : Type 0
Entries = List (List ℕ × List ℕ)

abbrev pub at : List ℕ → Entries → Option (List ℕ)
at q entries = lookup (λ k. is_eq (slice_cmp nat_cmp q k)) entries

find-lookup : (q : List ℕ) (entries : Entries) → find (slice_cmp nat_cmp) q entries ≡ at q entries
find-lookup q [] = refl
find-lookup q (e ∷ entries) = ap (cond (is_eq (slice_cmp nat_cmp q e.0)) (Some e.1)) (find-lookup q entries)

abbrev pub map_from : Entries → Map
map_from entries = from_entries {R = slice_cmp nat_cmp} entries

-- a look-up in the tree is one in the map
pub get-at : (q : List ℕ) (entries : Entries) → get (map_from entries) q ≡ at q entries
get-at q entries = get-from_entries nat_list_cmp_total entries q ∙ find-lookup q entries

-- what an insert does to each look-up is what it does to the map
pub inserted : (old new : Entries) (k v : List ℕ) → ((q : List ℕ) → at q new ≡ cond (is_eq (slice_cmp nat_cmp k q)) (Some v) (at q old)) → map_from new ≡ insert (map_from old) k v
inserted old new k v updates =
    same_map nat_list_cmp_total (slice_cmp-IsAntisymmetric nat_cmp-IsAntisymmetric) _ _ (λ q.
    get-at q new ∙ updates q
    ∙ ap (λ b. cond b (Some v) (at q old)) ((eq_by_cmp_equiv nat_list_cmp_total).symm k q)
    ∙ ap (cond (eq_by_cmp (slice_cmp nat_cmp) q k) (Some v)) (sym (get-at q old))
    ∙ sym (get-insert nat_list_cmp_total (map_from old) k v q))
