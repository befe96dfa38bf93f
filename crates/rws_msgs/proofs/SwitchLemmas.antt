-- A switch is decoded again from what `encode` writes.
use Rattle.std.proofs.Common.{◌≡◌, [], ◌∷◌, ◌++◌, length, Ok, refl}
use Rattle.rws_msgs.specs.declared.switch.Switch.{Switch}
use Rattle.rws_msgs.specs.Fields.{HasNoZero, ended}
use Rattle.rws_msgs.specs.SwitchLayout.{switch_at, switch_bytes}
use Rattle.rws_msgs.proofs.FieldLemmas.{fixed_again, bytes_again, zero_text_again}

pub switch_again : (switch : Switch) → length switch.scramble ≡ 20 → HasNoZero switch.plugin → switch_at (switch_bytes switch) ≡ Ok switch
unfolding switch_at switch_bytes ended
switch_again switch size none =
    rw (
      fixed_again 0xFE (switch.plugin ++ 0x00 ∷ (switch.scramble ++ 0x00 ∷ [])),
      zero_text_again switch.plugin (switch.scramble ++ 0x00 ∷ []) none,
      bytes_again switch.scramble (0x00 ∷ []) 20 size,
      fixed_again 0x00 [],
    ) refl
