-- OK_Packet of a client with CLIENT_PROTOCOL_41. Under CLIENT_SESSION_TRACK the info may be followed by the
-- session's changes; without it the payload may end in an info too, in the form that MariaDB writes.
use Rattle.std.specs.Prelude.{◌≡◌, ℕ, ◌<◌, ◌^◌, length, Bool, true, false, ◌&&◌, not, List, [], ◌∷◌, ◌++◌, ◌==◌, bit_and, Option, Result, Ok}
use Rattle.std.specs.Option.{option_map}
use Rattle.std.specs.Result.{result_ok}
use Rattle.rws_wire.specs.Lenenc.{lenenc_bytes}
use Rattle.rws_wire.specs.Numbers.{bytes_of}
use Rattle.rws_msgs.specs.declared.fault.MsgFault.{MsgFault}
use Rattle.rws_msgs.specs.declared.ok_msg.OkMsg.{OkMsg}
use Rattle.rws_msgs.specs.declared.status.TheConstants.{SESSION_STATE_CHANGED}
use Rattle.rws_msgs.specs.Fields.{fixed_at, lenenc_at, number_at, text_at, text_bytes, ended}
use Rattle.rws_wire.specs.Reading.{◌>>=◌}

-- the status says that the session's state has changed
abbrev pub states : ℕ → Bool
states status = not (bit_and status SESSION_STATE_CHANGED == 0)

unfoldable pub state_at : Bool → List ℕ → Result (List ℕ × List ℕ) MsgFault
state_at true bytes = text_at bytes
state_at false bytes = Ok ([], bytes)

-- the info, and the state where there is one; both may be left out together
unfoldable pub texts_at : Bool → List ℕ → Result (List ℕ × List ℕ) MsgFault
texts_at stated [] = Ok ([], [])
texts_at stated (byte ∷ bytes) = do
  info ← text_at (byte ∷ bytes)
  state ← state_at stated info.1
  ended (info.0, state.0) state.1

unfoldable pub ok_at : Bool → List ℕ → Result OkMsg MsgFault
ok_at track payload = do
  rest ← fixed_at 0x00 payload
  affected ← lenenc_at rest
  insert_id ← lenenc_at affected.1
  status ← number_at 2 insert_id.1
  warnings ← number_at 2 status.1
  texts ← texts_at (track && states status.0) warnings.1
  Ok (record {
    affected = affected.0;
    insert_id = insert_id.0;
    status = status.0;
    warnings = warnings.0;
    info = texts.0;
    state = texts.1;
  })

-- the status of an OK, where the payload is one
unfoldable pub ok_status : Bool → List ℕ → Option ℕ
ok_status track payload = option_map (λ ok. ok.status) (result_ok (ok_at track payload))

-- where a state is to stand the info and the state, elsewhere the info alone; nothing where these are empty
unfoldable pub texts_bytes : Bool → List ℕ → List ℕ → List ℕ
texts_bytes false [] state = []
texts_bytes false info state = text_bytes info
texts_bytes true [] [] = []
texts_bytes true info state = text_bytes info ++ text_bytes state

unfoldable pub ok_bytes : Bool → OkMsg → List ℕ
ok_bytes track ok =
    0x00 ∷ (lenenc_bytes ok.affected ++ (lenenc_bytes ok.insert_id ++ (bytes_of 2 ok.status ++ (bytes_of 2 ok.warnings
    ++ texts_bytes (track && states ok.status) ok.info ok.state))))

-- what can be decoded: the state is empty where none is to stand
abbrev pub IsOkMsg : Bool → OkMsg → Type 0
IsOkMsg track ok = (track && states ok.status) ≡ false → ok.state ≡ []

-- the ranges of the fields
pub record OkFits (ok : OkMsg) : Type 0 where
  pub affected : ok.affected < 2 ^ 64
  pub insert_id : ok.insert_id < 2 ^ 64
  pub status : ok.status < 2 ^ 16
  pub warnings : ok.warnings < 2 ^ 16
  pub info : length ok.info < 2 ^ 64
  pub state : length ok.state < 2 ^ 64
