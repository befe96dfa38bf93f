-- The last entry of a list.
use Rattle.std.proofs.Common.{◌≡◌, ℕ, ◌-◌, List, [], ◌∷◌, length, refl, Option, Some, None}
use Rattle.std.specs.Prelude.{slice_get}
use native.Mathlib.Numerals.{unary_clauses}
use Rattle.rws_commands.specs.declared.history.HistoryEntry.{HistoryEntry}
use Rattle.rws_commands.specs.Statements.{last_serial}

pub last_is : (entries : List HistoryEntry) (entry : HistoryEntry) → slice_get entries (length entries - 1) ≡ Some entry
    → last_serial entries ≡ Some entry.serial
last_is [] entry e = absurd cc
last_is (first ∷ []) entry e = let same : first ≡ entry = cc in cc
last_is (first ∷ second ∷ others) entry e = last_is (second ∷ others) entry (simp unary_clauses (simp unary_clauses at e))
