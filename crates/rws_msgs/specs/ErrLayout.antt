-- ERR_Packet of a client with CLIENT_PROTOCOL_41: the state stands behind `#`.
use Rattle.std.specs.Prelude.{◌≡◌, ℕ, ◌<◌, ◌^◌, length, List, ◌∷◌, ◌++◌, Option, Result, Ok}
use Rattle.std.specs.Option.{option_map}
use Rattle.std.specs.Result.{result_ok}
use Rattle.rws_wire.specs.Numbers.{bytes_of}
use Rattle.rws_msgs.specs.declared.fault.MsgFault.{MsgFault}
use Rattle.rws_msgs.specs.declared.err_msg.ErrMsg.{ErrMsg}
use Rattle.rws_msgs.specs.declared.err_msg.TheConstants.{STATE_MARK}
use Rattle.rws_msgs.specs.Fields.{fixed_at, number_at, bytes_at}
use Rattle.rws_wire.specs.Reading.{◌>>=◌}

unfoldable pub err_at : List ℕ → Result ErrMsg MsgFault
err_at payload = do
  rest ← fixed_at 0xFF payload
  code ← number_at 2 rest
  marked ← fixed_at STATE_MARK code.1
  state ← bytes_at 5 marked
  Ok (record { code = code.0; state = state.0; text = state.1 })

-- the code of an error, where the payload is one
unfoldable pub err_code : List ℕ → Option ℕ
err_code payload = option_map (λ err. err.code) (result_ok (err_at payload))

unfoldable pub err_bytes : ErrMsg → List ℕ
err_bytes err = 0xFF ∷ (bytes_of 2 err.code ++ STATE_MARK ∷ (err.state ++ err.text))

-- the ranges of the fields
pub record ErrFits (err : ErrMsg) : Type 0 where
  pub code : err.code < 2 ^ 16
  pub state : length err.state ≡ 5
