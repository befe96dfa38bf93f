-- The commit that an OK tells of: the last GTID of the domain among the system variables that its session state shows.
use Rattle.std.specs.Prelude.{ℕ, zero, suc, true, length, List, [], ◌∷◌, ◌++◌, Option, option_and_then, Result, Ok, Err}
use Rattle.std.specs.Result.{result_ok}
use Rattle.rws_wire.specs.Reading.{◌>>=◌}
use Rattle.rws_gtid.specs.declared.Gtid.{Gtid}
use Rattle.rws_msgs.specs.declared.fault.MsgFault.{MsgFault}
use Rattle.rws_msgs.specs.declared.fault.MsgFault.TheVariants.{Short}
use Rattle.rws_msgs.specs.declared.ok_msg.OkMsg.{OkMsg}
use Rattle.rws_msgs.specs.Fields.{text_at}
use Rattle.rws_msgs.specs.OkLayout.{ok_at}
use Rattle.rws_track.specs.State.{Variable, last_gtid}

-- so many variables at most, one behind the other
unfoldable pub variables_at : ℕ → List ℕ → Result (List Variable) MsgFault
variables_at most [] = Ok []
variables_at zero (byte ∷ bytes) = Err Short
variables_at (suc most) (byte ∷ bytes) = do
  name ← text_at (byte ∷ bytes)
  value ← text_at name.1
  others ← variables_at most value.1
  Ok ((name.0, value.0) ∷ others)

-- an entry of type 0 shows variables, and one of another type none
unfoldable pub entry_at : (kind : ℕ) → List ℕ → Result (List Variable) MsgFault
entry_at zero bytes = variables_at (length bytes) bytes
entry_at (suc kind) bytes = Ok []

-- what so many entries at most show, one behind the other
unfoldable pub shown_at : ℕ → List ℕ → Result (List Variable) MsgFault
shown_at most [] = Ok []
shown_at zero (kind ∷ bytes) = Err Short
shown_at (suc most) (kind ∷ bytes) = do
  entry ← text_at bytes
  shown ← entry_at kind entry.0
  others ← shown_at most entry.1
  Ok (shown ++ others)

-- the commit that an OK tells of; none where its state breaks off
unfoldable pub commit_of : (domain : ℕ) → OkMsg → Option Gtid
commit_of domain ok = option_and_then (last_gtid domain) (result_ok (shown_at (length ok.state) ok.state))

unfoldable pub commit_in : (domain : ℕ) → List ℕ → Option Gtid
commit_in domain payload = option_and_then (commit_of domain) (result_ok (ok_at true payload))
