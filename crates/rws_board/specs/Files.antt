-- What files hold.
use Rattle.std.specs.Prelude.{◌≡◌, ℕ, List, [], ◌∷◌, Option, Some, None, bytes_eq, if◌then◌else◌, ⊤}
use Rattle.rws_board.specs.declared.file_list.File.{File}

-- the path holds these bytes, where it is known what paths hold
abbrev pub Holds : Option (List ℕ → Option (List ℕ)) → List ℕ → List ℕ → Type 0
Holds None path bytes = ⊤
Holds (Some files) path bytes = files path ≡ Some bytes

-- what a list of files holds at a path: the bytes of the first file of this path
abbrev pub bytes_at : List File → List ℕ → Option (List ℕ)
bytes_at [] path = None
bytes_at (file ∷ files) path = if bytes_eq file.path path then Some file.bytes else bytes_at files path

-- files in memory; `fails`: the numbers, from 0, of the calls that are to fail; `calls`: how many calls were made;
-- `faults`: how many of them failed
pub record Shelf : Type 0 where
  pub files : List File
  pub fails : List ℕ
  pub calls : ℕ
  pub faults : ℕ
