-- What may be left out of a list of session commands, oldest first.
use Rattle.std.specs.Prelude.{◌≡◌, ◌≢◌, ◌⊎◌, ℕ, Bool, true, false, ◌&&◌, List, [], ◌∷◌, ◌++◌, map}
use Rattle.std.specs.List.{list_any, list_all, flat_map}
use Rattle.std.specs.Ordering.{nat_cmp, eq_by_cmp}
use Rattle.std.specs.Cmp.Lexicographic.{slice_cmp}
use Rattle.std.specs.FinMap.{get, empty}
use Rattle.rws_vars.specs.Map.{Map, applied}
use Rattle.rws_vars.specs.Commands.{Command, sets, reads, is_prepare}
use Rattle.rws_vars.specs.declared.setting.Setting.{Setting}

-- a session command, and whether the client closed its handle afterwards, if it is a prepare
pub record Entry : Type 0 where
  pub command : Command
  pub closed : Bool

abbrev pub is_closed_prepare : Entry → Bool
is_closed_prepare entry = entry.closed && is_prepare entry.command

-- the map that a list of commands leaves
abbrev pub entry_sets : Entry → List Setting
entry_sets entry = sets entry.command

abbrev pub map_of : List Entry → Map
map_of entries = applied empty (flat_map entry_sets entries)

-- Which commands may be missing -----------------------------------------------------------------------

abbrev pub same_name : List ℕ → List ℕ → Bool
same_name a b = eq_by_cmp (slice_cmp nat_cmp) a b

-- a name is among those that are set
abbrev pub assigns : List ℕ → List Setting → Bool
assigns name settings = list_any (λ setting. same_name name setting.name) settings

-- a command sets all names of another one
abbrev pub sets_all : Command → Command → Bool
sets_all d c = list_all (λ setting. assigns setting.name (sets d)) (sets c)

-- one of the commands behind it sets all its names, and none up to and including that one reads
abbrev pub IsOverwritten : Command → List Entry → Type 0
IsOverwritten c [] = ⊥
IsOverwritten c (entry ∷ later) =
    (reads entry.command ≡ false) × ((sets_all entry.command c ≡ true) ⊎ IsOverwritten c later)

-- a command may be missing in front of these
abbrev pub MayMiss : Entry → List Entry → Type 0
MayMiss entry later = (is_closed_prepare entry ≡ true) ⊎ IsOverwritten entry.command later

-- the first list is the second one without commands that may be missing
pub data IsReduction : List Entry → List Entry → Type 0 where
  nothing : IsReduction [] []
  kept : {entry : Entry} {reduced whole : List Entry} → IsReduction reduced whole → IsReduction (entry ∷ reduced) (entry ∷ whole)
  missing : {entry : Entry} {reduced whole : List Entry} → MayMiss entry whole → IsReduction reduced whole → IsReduction reduced (entry ∷ whole)

-- Laws ------------------------------------------------------------------------------------------------

abbrev pub WholeListsAreReductions : Type 0
WholeListsAreReductions = (entries : List Entry) → IsReduction entries entries

-- a reduction stays one, whatever commands come
abbrev pub ReductionsGoOn : Type 0
ReductionsGoOn =
    (reduced whole more : List Entry) → IsReduction reduced whole → IsReduction (reduced ++ more) (whole ++ more)

-- a name of no closed prepare
abbrev pub IsOpenName : List ℕ → List Entry → Type 0
IsOpenName name [] = Unit {0}
IsOpenName name (entry ∷ entries) =
    (is_closed_prepare entry ≡ true → assigns name (entry_sets entry) ≡ false) × IsOpenName name entries

-- a reduction leaves the same map, but for the statements of closed prepares
abbrev pub ReductionsKeepTheMap : Type 0
ReductionsKeepTheMap =
    (reduced whole : List Entry) (name : List ℕ) →
    IsReduction reduced whole → IsOpenName name whole → get (map_of reduced) name ≡ get (map_of whole) name

-- the commands that are missing don't read
abbrev pub IsQuiet : {reduced whole : List Entry} → IsReduction reduced whole → Type 0
IsQuiet nothing = Unit {0}
IsQuiet (kept reduction) = IsQuiet reduction
IsQuiet (missing {entry} may reduction) = (reads entry.command ≡ false) × IsQuiet reduction

-- nothing but closed prepares is missing
abbrev pub MissesClosed : {reduced whole : List Entry} → IsReduction reduced whole → Type 0
MissesClosed nothing = Unit {0}
MissesClosed (kept reduction) = MissesClosed reduction
MissesClosed (missing {entry} may reduction) = (is_closed_prepare entry ≡ true) × MissesClosed reduction

-- a reduction of a reduction is one, where the commands missing from the first don't read, or the second misses nothing
-- but closed prepares
abbrev pub ReductionsCompose : Type 0
ReductionsCompose =
    (least reduced whole : List Entry) (first : IsReduction reduced whole) (second : IsReduction least reduced) →
    IsQuiet first ⊎ MissesClosed second → IsReduction least whole

-- Else it may be none: what kept a command from being overwritten, a reading one, may be missing from the first.
pub record ReductionsMayNotCompose : Type 0 where
  pub least : List Entry
  pub reduced : List Entry
  pub whole : List Entry
  pub first : IsReduction reduced whole
  pub second : IsReduction least reduced
  pub no_reduction : IsReduction least whole → ⊥
