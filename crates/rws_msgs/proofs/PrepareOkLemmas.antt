-- The answer to a prepare is decoded again from what `encode` writes.
use Rattle.std.proofs.Common.{◌≡◌, ℕ, List, ◌∷◌, ◌++◌, Ok, refl}
use Rattle.rws_wire.specs.Numbers.{bytes_of}
use Rattle.rws_msgs.specs.declared.prepare_ok.PrepareOk.{PrepareOk}
use Rattle.rws_msgs.specs.Fields.{ended}
use Rattle.rws_msgs.specs.PrepareOkLayout.{PrepareOkFits, prepare_ok_at, prepare_ok_bytes}
use Rattle.rws_msgs.proofs.FieldLemmas.{fixed_again, number_again, last_number_again}

pub prepare_ok_again : (ok : PrepareOk) → PrepareOkFits ok → prepare_ok_at (prepare_ok_bytes ok) ≡ Ok ok
unfolding prepare_ok_at prepare_ok_bytes ended
prepare_ok_again ok fits =
    let warnings : List ℕ = bytes_of 2 ok.warnings in
    rw (
      fixed_again 0x00 (bytes_of 4 ok.id ++ (bytes_of 2 ok.columns ++ (bytes_of 2 ok.parameters ++ 0x00 ∷ warnings))),
      number_again 4 ok.id (bytes_of 2 ok.columns ++ (bytes_of 2 ok.parameters ++ 0x00 ∷ warnings)) fits.id,
      number_again 2 ok.columns (bytes_of 2 ok.parameters ++ 0x00 ∷ warnings) fits.columns,
      number_again 2 ok.parameters (0x00 ∷ warnings) fits.parameters,
      fixed_again 0x00 warnings,
      last_number_again 2 ok.warnings fits.warnings,
    ) refl
