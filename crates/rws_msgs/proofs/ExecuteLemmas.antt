-- An execute is decoded again from what `encode` writes.
use Rattle.rws_msgs.specs.declared.command.TheConstants.{COM_STMT_EXECUTE}
use Rattle.std.proofs.Common.{◌≡◌, ℕ, ◌+◌, ◌*◌, ◌/◌, ◌<◌, false, eqb, List, [], ◌∷◌, ◌++◌, length, Option, Some, None, Ok, refl, ap, ◌∙◌, arith, inl, inr}
use Rattle.std.proofs.lemmas.Bool.{cases_eq, ne_eqb}
use Rattle.rws_wire.specs.Numbers.{bytes_of}
use Rattle.rws_msgs.specs.declared.execute_head.ExecuteHead.{ExecuteHead}
use Rattle.rws_wire.specs.Reading.{◌>>=◌}
use Rattle.rws_msgs.specs.Fields.{fixed_at}
use Rattle.rws_msgs.specs.ExecuteLayout.{AreValues, ExecuteFits, HaveSize, IsExecuteHead, once_at, types_at, values_at, execute_at, types_bytes, values_bytes, execute_bytes}
use Rattle.rws_msgs.proofs.FieldLemmas.{bytes_again, byte_again, fixed_again, number_again}

types_again : (parameters : ℕ) (types : Option (List ℕ)) (values : List ℕ) → HaveSize parameters types → types_at parameters (types_bytes types ++ values) ≡ Ok (types, values)
unfolding types_at types_bytes
types_again parameters None values size = refl
types_again parameters (Some types) values size = ap (λ r. r >>= λ read. Ok (Some read.0, read.1)) (bytes_again types values (2 * parameters) size)

some_again : (parameters : ℕ) (bitmap : List ℕ) (types : Option (List ℕ)) (values : List ℕ) → eqb parameters 0 ≡ false → length bitmap ≡ (parameters + 7) / 8 → HaveSize parameters types
    → values_at parameters (bitmap ++ (types_bytes types ++ values)) ≡ Ok (bitmap, (types, values))
unfolding values_at
some_again parameters bitmap types values some size fit =
    rw (some, bytes_again bitmap (types_bytes types ++ values) ((parameters + 7) / 8) size, types_again parameters types values fit) refl

values_bytes_is : (bitmap : List ℕ) (types : Option (List ℕ)) (values : List ℕ) → 0 < length bitmap → values_bytes bitmap types values ≡ bitmap ++ (types_bytes types ++ values)
unfolding values_bytes
values_bytes_is [] types values some = absurd (omega arith)
values_bytes_is (byte ∷ bitmap) types values some = refl

none_again : (bitmap : List ℕ) (types : Option (List ℕ)) (values : List ℕ) → length bitmap ≡ 0 → types ≡ None → values ≡ [] → values_at 0 (values_bytes bitmap types values) ≡ Ok (bitmap, (types, values))
unfolding values_at
none_again [] types values size no_types no_values = rw (no_types, no_values) refl
none_again (byte ∷ bitmap) types values size no_types no_values = absurd (omega arith)

values_again : (parameters : ℕ) (bitmap : List ℕ) (types : Option (List ℕ)) (values : List ℕ) → AreValues parameters bitmap types values
    → values_at parameters (values_bytes bitmap types values) ≡ Ok (bitmap, (types, values))
values_again parameters bitmap types values are =
    elim (cases_eq parameters 0) [
      | inl none ↦
          let size : length bitmap ≡ 0 = are.bitmap_size ∙ ap (λ (n : ℕ). (n + 7) / 8) none in
          ap (λ (n : ℕ). values_at n (values_bytes bitmap types values)) none ∙ none_again bitmap types values size (are.no_types none) (are.no_values none)
      | inr some ↦
          let long : 0 < length bitmap = omega (arith, are.bitmap_size) in
          ap (values_at parameters) (values_bytes_is bitmap types values long)
          ∙ some_again parameters bitmap types values (ne_eqb parameters 0 some) are.bitmap_size are.types_size
    ]

once_again : (rest : List ℕ) → once_at (0x01 ∷ 0x00 ∷ 0x00 ∷ 0x00 ∷ rest) ≡ Ok rest
unfolding once_at fixed_at
once_again rest = refl

pub execute_again : (parameters : ℕ) (head : ExecuteHead) → ExecuteFits head → IsExecuteHead parameters head → execute_at parameters (execute_bytes head) ≡ Ok head
unfolding execute_at execute_bytes
execute_again parameters head fits is =
    let given : List ℕ = values_bytes head.bitmap head.types head.values in
    rw (
      fixed_again COM_STMT_EXECUTE (bytes_of 4 head.id ++ head.flags ∷ 0x01 ∷ 0x00 ∷ 0x00 ∷ 0x00 ∷ given),
      number_again 4 head.id (head.flags ∷ 0x01 ∷ 0x00 ∷ 0x00 ∷ 0x00 ∷ given) fits.id,
      byte_again head.flags (0x01 ∷ 0x00 ∷ 0x00 ∷ 0x00 ∷ given),
      once_again given,
      values_again parameters head.bitmap head.types head.values is,
    ) refl
