-- Authentication Switch Request: another plugin is asked for, one that takes a scramble of 20 bytes.
use Rattle.std.specs.Prelude.{ℕ, List, [], ◌∷◌, ◌++◌, Option, Result}
use Rattle.std.specs.Option.{option_map}
use Rattle.std.specs.Result.{result_ok}
use Rattle.rws_msgs.specs.declared.fault.MsgFault.{MsgFault}
use Rattle.rws_msgs.specs.declared.switch.Switch.{Switch}
use Rattle.rws_msgs.specs.Fields.{fixed_at, bytes_at, zero_text_at, ended}
use Rattle.rws_wire.specs.Reading.{◌>>=◌}

unfoldable pub switch_at : List ℕ → Result Switch MsgFault
switch_at payload = do
  rest ← fixed_at 0xFE payload
  plugin ← zero_text_at rest
  scramble ← bytes_at 20 plugin.1
  last ← fixed_at 0x00 scramble.1
  ended (record { plugin = plugin.0; scramble = scramble.0 }) last

-- the plugin that is asked for, and its data behind the name, whatever that is
unfoldable pub asked_at : List ℕ → Result (List ℕ × List ℕ) MsgFault
asked_at payload = do
  rest ← fixed_at 0xFE payload
  zero_text_at rest

-- the plugin that is asked for, where the payload begins as a switch does
unfoldable pub plugin_asked : List ℕ → Option (List ℕ)
plugin_asked payload = option_map (λ asked. asked.0) (result_ok (asked_at payload))

unfoldable pub switch_bytes : Switch → List ℕ
switch_bytes switch = 0xFE ∷ (switch.plugin ++ 0x00 ∷ (switch.scramble ++ 0x00 ∷ []))
