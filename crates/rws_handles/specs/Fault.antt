-- Which answers stand for what is in the table.
use Rattle.std.specs.Prelude.{◌≡◌, ℕ, List, ◌++◌, map, Option, Some, None, IsSome, Result, Ok, Err}
use Rattle.rws_handles.specs.declared.fault.HandleFault.{HandleFault}
use Rattle.rws_handles.specs.declared.fault.HandleFault.TheVariants.{UnknownHandle, OutOfMemory}
use Rattle.rws_handles.specs.declared.fault.UnknownHandle as none
use Rattle.rws_handles.specs.declared.fault.OnWireFault.{OnWireFault}
use Rattle.rws_handles.specs.declared.fault.OnWireFault.TheVariants as wire
use Rattle.rws_handles.specs.PlainForm.{Plain, renumbered, spelled}

-- the handle is unknown exactly where nothing is found; memory is wanted only where something is
abbrev pub Finds : {A : Type 0} → Option A → Result (Unit {0}) HandleFault → Type 0
Finds found (Ok done) = IsSome found
Finds found (Err UnknownHandle) = found ≡ None
Finds found (Err OutOfMemory) = IsSome found

-- the same of calls that take no memory
abbrev pub Knows : {A : Type 0} → Option A → Result (Unit {0}) none.UnknownHandle → Type 0
Knows found (Ok done) = IsSome found
Knows found (Err unknown) = found ≡ None

-- the commands were put behind those before, with the statement's id on the link; they weren't where it has none
abbrev pub Puts : Option ℕ → List (List ℕ) → List (List ℕ) → List (List ℕ) → Result (Unit {0}) OnWireFault → Type 0
Puts id kept before after (Ok done) = (number : ℕ) × (id ≡ Some number) × (after ≡ before ++ map (renumbered number) kept)
Puts id kept before after (Err wire.NotOnLink) = (id ≡ None) × (after ≡ before)
Puts id kept before after (Err wire.OutOfMemory) = IsSome id × (after ≡ before)

-- the commands of this plain form were put, under the statement's id on the link
abbrev pub PutsPlain : Plain → Option ℕ → List (List ℕ) → List (List ℕ) → Result (Unit {0}) OnWireFault → Type 0
PutsPlain plain id before after (Ok done) = (number : ℕ) × (id ≡ Some number) × (after ≡ before ++ spelled number plain)
PutsPlain plain id before after (Err fault) = Unit {0}
