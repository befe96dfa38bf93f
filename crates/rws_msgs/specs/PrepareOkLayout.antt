-- The first packet of the COM_STMT_PREPARE response: twelve bytes.
use Rattle.std.specs.Prelude.{ℕ, ◌<◌, ◌^◌, List, ◌∷◌, ◌++◌, Result}
use Rattle.rws_wire.specs.Numbers.{bytes_of}
use Rattle.rws_msgs.specs.declared.fault.MsgFault.{MsgFault}
use Rattle.rws_msgs.specs.declared.prepare_ok.PrepareOk.{PrepareOk}
use Rattle.rws_msgs.specs.Fields.{fixed_at, number_at, ended}
use Rattle.rws_wire.specs.Reading.{◌>>=◌}

unfoldable pub prepare_ok_at : List ℕ → Result PrepareOk MsgFault
prepare_ok_at payload = do
  rest ← fixed_at 0x00 payload
  id ← number_at 4 rest
  columns ← number_at 2 id.1
  parameters ← number_at 2 columns.1
  filled ← fixed_at 0x00 parameters.1
  warnings ← number_at 2 filled
  ended (record { id = id.0; columns = columns.0; parameters = parameters.0; warnings = warnings.0 }) warnings.1

unfoldable pub prepare_ok_bytes : PrepareOk → List ℕ
prepare_ok_bytes ok =
    0x00 ∷ (bytes_of 4 ok.id ++ (bytes_of 2 ok.columns ++ (bytes_of 2 ok.parameters ++ 0x00 ∷ bytes_of 2 ok.warnings)))

-- the ranges of the fields
pub record PrepareOkFits (ok : PrepareOk) : Type 0 where
  pub id : ok.id < 2 ^ 32
  pub columns : ok.columns < 2 ^ 16
  pub parameters : ok.parameters < 2 ^ 16
  pub warnings : ok.warnings < 2 ^ 16
