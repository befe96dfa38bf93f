-- What splitting a length-encoded integer off bytes gives.
use Rattle.std.specs.Prelude.{◌≡◌, ℕ, List, Result, Ok, Err}
use Rattle.std.specs.Borrow.{Bor}
use Rattle.rws_wire.specs.declared.lenenc.LenencFault.{LenencFault}
use Rattle.rws_wire.specs.declared.lenenc.LenencFault.TheVariants as faults
use Rattle.rws_wire.specs.Lenenc.{Lenenc, Integer, Cut, NoInteger}

abbrev pub Splits : Result (ℕ × Bor (List ℕ)) LenencFault → Lenenc → Type 0
Splits (Ok found) begun = begun ≡ Integer found.0 found.1.now
Splits (Err faults.Short) begun = begun ≡ Cut
Splits (Err faults.NoInteger) begun = begun ≡ NoInteger
