-- The plain form stays: what is sent on a link does what the client asked for.
use Rattle.std.specs.Prelude.{◌≡◌, ℕ, ◌^◌, ◌<◌, List, [], map, Option, Some, None, Ok}
use Rattle.std.specs.List.{AllByRecursion}
use Rattle.rws_msgs.specs.ExecuteLayout.{HaveSize}
use Rattle.rws_handles.specs.Prepared.{Prepared}
use Rattle.rws_handles.specs.PlainForm.{Plain, number_in, plain_form, renumbered, runs, spelled}

-- a statement as it is kept: its types have the size for its parameters, and each parameter's number has two bytes
pub record IsPrepared (statement : Prepared) : Type 0 where
  pub types : HaveSize statement.parameters statement.types
  pub no_types : statement.parameters ≡ 0 → statement.types ≡ None
  pub pieces : AllByRecursion (λ piece. piece.parameter < 2 ^ 16) statement.long_data

abbrev pub IsPreparedAt : Option Prepared → Type 0
IsPreparedAt None = Unit {0}
IsPreparedAt (Some statement) = IsPrepared statement

-- The plain form of an execute of a statement, spelled under whatever number and given another, is spelled under the
-- other.
abbrev pub IsRenumbered : Type 0
IsRenumbered = (number id : ℕ) (plain : Plain) → map (renumbered id) (spelled number plain) ≡ spelled id plain

-- A list that spells a plain form is of the statement with that number.
abbrev pub IsOfItsNumber : Type 0
IsOfItsNumber = (number : ℕ) (plain : Plain) → number < 2 ^ 32 → number_in (spelled number plain) ≡ number

-- A server that has the same text under an id, whatever types it was given last, runs the plain form of the client's
-- command.
abbrev pub RunsThePlainForm : Type 0
RunsThePlainForm = (statement on_server : Prepared) (payload : List ℕ) (plain : Plain) (id : ℕ) → IsPrepared statement → id < 2 ^ 32
    → plain_form statement payload ≡ Ok plain
    → on_server.text ≡ statement.text → on_server.parameters ≡ statement.parameters → IsPrepared on_server → on_server.long_data ≡ []
    → runs (spelled id plain) id on_server ≡ Some plain
