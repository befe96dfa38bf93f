-- The definitions computed on two executes of `select ?`: one that gives the types, and a later one that doesn't.
use Rattle.std.proofs.Common.{◌≡◌, ℕ, [], ◌∷◌, map, codes, Some, Ok, refl}
use Rattle.rws_msgs.specs.Fields.{bytes_at, fixed_at, number_at}
use Rattle.rws_msgs.specs.ExecuteLayout.{execute_at, execute_bytes, once_at, types_at, types_bytes, values_at, values_bytes}
use Rattle.rws_handles.specs.PlainForm.{Plain, plain_form, renumbered, run_bytes, spelled}
use Rattle.rws_handles.specs.Prepared.{Prepared, executed, prepared}

abbrev select : Prepared
select = prepared 1 (codes "select ?") 1 1

-- a VARCHAR of one byte
abbrev shows : ℕ → Plain
shows byte = record { text = codes "select ?"; long_data = []; bitmap = 0 ∷ []; types = Some (0xFD ∷ 0 ∷ []); values = 1 ∷ byte ∷ [] }

with_types : plain_form select (0x17 ∷ 1 ∷ 0 ∷ 0 ∷ 0 ∷ 0 ∷ 1 ∷ 0 ∷ 0 ∷ 0 ∷ 0 ∷ 1 ∷ 0xFD ∷ 0 ∷ 1 ∷ 0x61 ∷ []) ≡ Ok (shows 0x61)
unfolding execute_at once_at types_at values_at bytes_at fixed_at number_at
with_types = refl

without_types : plain_form (executed (Some (0xFD ∷ 0 ∷ [])) select) (0x17 ∷ 0xFF ∷ 0xFF ∷ 0xFF ∷ 0xFF ∷ 0 ∷ 1 ∷ 0 ∷ 0 ∷ 0 ∷ 0 ∷ 0 ∷ 1 ∷ 0x62 ∷ []) ≡ Ok (shows 0x62)
unfolding execute_at once_at types_at values_at bytes_at fixed_at number_at
without_types = refl

sent : map (renumbered 7) (spelled 1 (shows 0x62)) ≡ (0x17 ∷ 7 ∷ 0 ∷ 0 ∷ 0 ∷ 0 ∷ 1 ∷ 0 ∷ 0 ∷ 0 ∷ 0 ∷ 1 ∷ 0xFD ∷ 0 ∷ 1 ∷ 0x62 ∷ []) ∷ []
unfolding run_bytes execute_bytes values_bytes types_bytes
sent = refl
