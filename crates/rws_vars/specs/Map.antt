-- A session's settings as a finite map from names to values.
use Rattle.std.specs.Prelude.{ℕ, List, [], ◌∷◌}
use Rattle.std.specs.Ordering.{nat_cmp}
use Rattle.std.specs.Cmp.Lexicographic.{slice_cmp}
use Rattle.std.specs.FinMap.{FinMap, empty, insert}
use Rattle.rws_vars.specs.declared.setting.Setting.{Setting}

abbrev pub Map : Type 0
Map = FinMap {K = List ℕ} (slice_cmp nat_cmp) (List ℕ)

-- one setting after the other: the last assignment of a name counts
abbrev pub applied : Map → List Setting → Map
applied map [] = map
applied map (setting ∷ settings) = applied (insert map setting.name setting.value) settings
