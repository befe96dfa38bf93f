-- The value that a list of settings leaves at a name.
use Rattle.std.proofs.Common.{◌≡◌, ◌⊎◌, inl, inr, ℕ, Bool, true, false, ◌&&◌, ◌||◌, cond, Option, Some, List, [], ◌∷◌, ◌++◌, refl, ap, sym, ◌∙◌, subst}
use Rattle.std.specs.List.{list_any, list_all, flat_map}
use Rattle.std.specs.Ordering.{nat_cmp, eq_by_cmp, is_eq}
use Rattle.std.specs.declared.cmp.Ordering.{Ordering}
use Rattle.std.specs.declared.cmp.Ordering.TheVariants.{Less, Equal, Greater}
use Rattle.std.specs.Cmp.Lexicographic.{slice_cmp, nat_list_cmp_total}
use Rattle.std.proofs.lemmas.Bool.{false≢true}
use Rattle.std.specs.FinMap.{get, insert, empty, get-insert, slice_cmp-IsAntisymmetric, nat_cmp-IsAntisymmetric}
use Rattle.rws_vars.specs.Map.{Map, applied}
use Rattle.rws_vars.specs.Commands.{Command, sets, reads}
use Rattle.rws_vars.specs.Reductions.{Entry, is_closed_prepare, entry_sets, map_of, same_name, assigns, sets_all, IsOverwritten, MayMiss, IsReduction, nothing, kept, missing, IsOpenName, ReductionsKeepTheMap}
use Rattle.rws_vars.specs.declared.setting.Setting.{Setting}

-- the last value that settings give a name, or this one
abbrev last_at : List ℕ → Option (List ℕ) → List Setting → Option (List ℕ)
last_at name value [] = value
last_at name value (setting ∷ settings) =
    last_at name (cond (same_name name setting.name) (Some setting.value) value) settings

get-applied : (name : List ℕ) (map : Map) (settings : List Setting) → get (applied map settings) name ≡ last_at name (get map name) settings
get-applied name map [] = refl
get-applied name map (setting ∷ settings) =
    get-applied name (insert map setting.name setting.value) settings ∙ ap (λ v. last_at name v settings) (get-insert nat_list_cmp_total map setting.name setting.value name)

last_at-append : (name : List ℕ) (value : Option (List ℕ)) (xs ys : List Setting) → last_at name value (xs ++ ys) ≡ last_at name (last_at name value xs) ys
last_at-append name value [] ys = refl
last_at-append name value (x ∷ xs) ys = last_at-append name (cond (same_name name x.name) (Some x.value) value) xs ys

-- where the name is set, what it was before doesn't count
last_at-set : (name : List ℕ) (v w : Option (List ℕ)) (settings : List Setting) → assigns name settings ≡ true → last_at name v settings ≡ last_at name w settings
last_at-set name v w [] set = absurd (false≢true set)
last_at-set name v w (setting ∷ settings) set = go (same_name name setting.name) set (last_at-set name v w settings)
  where
    go : (same : Bool) → (same || assigns name settings) ≡ true → (assigns name settings ≡ true → last_at name v settings ≡ last_at name w settings) → last_at name (cond same (Some setting.value) v) settings ≡ last_at name (cond same (Some setting.value) w) settings
    go true set rest = refl
    go false set rest = rest set

last_at-unset : (name : List ℕ) (v : Option (List ℕ)) (settings : List Setting) → assigns name settings ≡ false → last_at name v settings ≡ v
last_at-unset name v [] unset = refl
last_at-unset name v (setting ∷ settings) unset = go (same_name name setting.name) unset (last_at-unset name v settings)
  where
    go : (same : Bool) → (same || assigns name settings) ≡ false → (assigns name settings ≡ false → last_at name v settings ≡ v) → last_at name (cond same (Some setting.value) v) settings ≡ v
    go true unset rest = absurd (false≢true (sym unset))
    go false unset rest = rest unset

-- what commands leave at a name
abbrev left_at : List ℕ → Option (List ℕ) → List Entry → Option (List ℕ)
left_at name value entries = last_at name value (flat_map entry_sets entries)

left_at-next : (name : List ℕ) (value : Option (List ℕ)) (entry : Entry) (entries : List Entry) → left_at name value (entry ∷ entries) ≡ left_at name (last_at name value (entry_sets entry)) entries
left_at-next name value entry entries = last_at-append name value (entry_sets entry) (flat_map entry_sets entries)

abbrev AreSet : List ℕ → List Entry → Type 0
AreSet name entries = list_any (λ entry. assigns name (entry_sets entry)) entries ≡ true

is_equal : (r : Ordering) → is_eq r ≡ true → r ≡ Equal
is_equal Less same = absurd (false≢true same)
is_equal Equal same = refl
is_equal Greater same = absurd (false≢true same)

same_text : (a b : List ℕ) → same_name a b ≡ true → a ≡ b
same_text a b same = slice_cmp-IsAntisymmetric nat_cmp-IsAntisymmetric a b (is_equal (slice_cmp nat_cmp a b) same)

-- what sets all names that others set sets each of them
assigns_all : (name : List ℕ) (ds cs : List Setting) → list_all (λ setting. assigns setting.name ds) cs ≡ true → assigns name cs ≡ true → assigns name ds ≡ true
assigns_all name ds [] all set = absurd (false≢true set)
assigns_all name ds (c ∷ cs) all set = go (same_name name c.name) refl (assigns c.name ds) refl all set (assigns_all name ds cs)
  where
    go : (same : Bool) → same_name name c.name ≡ same → (first : Bool) → assigns c.name ds ≡ first → (first && list_all (λ setting. assigns setting.name ds) cs) ≡ true → (same || assigns name cs) ≡ true → (list_all (λ setting. assigns setting.name ds) cs ≡ true → assigns name cs ≡ true → assigns name ds ≡ true) → assigns name ds ≡ true
    go same is_same false is_first all set rest = absurd (false≢true all)
    go true is_same true is_first all set rest = subst (λ n. assigns n ds ≡ true) (sym (same_text name c.name is_same)) is_first
    go false is_same true is_first all set rest = rest all set

or_true : (a : Bool) {b : Bool} → b ≡ true → (a || b) ≡ true
or_true true is = refl
or_true false is = is

-- what is overwritten is set behind it
overwritten-set : (name : List ℕ) (c : Command) (later : List Entry) → assigns name (sets c) ≡ true → IsOverwritten c later → AreSet name later
overwritten-set name c [] set over = absurd over
overwritten-set name c (entry ∷ later) set (silent, inl all) =
    ap (λ b. b || list_any (λ e. assigns name (entry_sets e)) later) (assigns_all name (entry_sets entry) (sets c) all set)
overwritten-set name c (entry ∷ later) set (silent, inr over) =
    or_true (assigns name (entry_sets entry)) (overwritten-set name c later set over)

-- where what was before is the same, or doesn't count, a reduction leaves the same
same_left : (name : List ℕ) {reduced whole : List Entry} → IsReduction reduced whole → IsOpenName name whole → (v w : Option (List ℕ)) → (v ≡ w) ⊎ AreSet name whole → left_at name v reduced ≡ left_at name w whole
same_left name nothing named v w (inl same) = same
same_left name nothing named v w (inr set) = absurd (false≢true set)
same_left name (kept {entry} {reduced} {whole} reduction) (own, named) v w either =
    left_at-next name v entry reduced ∙ go (assigns name (entry_sets entry)) refl either (same_left name reduction named) ∙ sym (left_at-next name w entry whole)
  where
    go : (set : Bool) → assigns name (entry_sets entry) ≡ set → (v ≡ w) ⊎ ((set || list_any (λ e. assigns name (entry_sets e)) whole) ≡ true) → ((v w : Option (List ℕ)) → (v ≡ w) ⊎ AreSet name whole → left_at name v reduced ≡ left_at name w whole) → left_at name (last_at name v (entry_sets entry)) reduced ≡ left_at name (last_at name w (entry_sets entry)) whole
    go true is either rest = rest _ _ (inl (last_at-set name v w (entry_sets entry) is))
    go false is (inl same) rest = rest _ _ (inl (ap (λ u. last_at name u (entry_sets entry)) same))
    go false is (inr set) rest = rest _ _ (inr set)
same_left name (missing {entry} {reduced} {whole} may reduction) (own, named) v w either =
    go (assigns name (entry_sets entry)) refl may either (same_left name reduction named) ∙ sym (left_at-next name w entry whole)
  where
    go : (set : Bool) → assigns name (entry_sets entry) ≡ set → MayMiss entry whole → (v ≡ w) ⊎ ((set || list_any (λ e. assigns name (entry_sets e)) whole) ≡ true) → ((v w : Option (List ℕ)) → (v ≡ w) ⊎ AreSet name whole → left_at name v reduced ≡ left_at name w whole) → left_at name v reduced ≡ left_at name (last_at name w (entry_sets entry)) whole
    go true is (inl closed) either rest = absurd (false≢true (sym (own closed) ∙ is))
    go true is (inr over) either rest = rest _ _ (inr (overwritten-set name entry.command whole is over))
    go false is may (inl same) rest = rest _ _ (inl (same ∙ sym (last_at-unset name w (entry_sets entry) is)))
    go false is may (inr set) rest = rest _ _ (inr set)

pub keep_the_map : ReductionsKeepTheMap
keep_the_map reduced whole name reduction named =
    get-applied name empty (flat_map entry_sets reduced) ∙ same_left name reduction named _ _ (inl refl) ∙ sym (get-applied name empty (flat_map entry_sets whole))
