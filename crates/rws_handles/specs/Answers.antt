-- What the calls on executes answer.
use Rattle.std.specs.Prelude.{◌≡◌, ℕ, List, Result, Ok, Err, IsOk}
use Rattle.rws_handles.specs.declared.fault.ExecuteFault.{ExecuteFault}
use Rattle.rws_handles.specs.declared.fault.ExecuteFault.TheVariants.{UnknownHandle, CursorAsked, BadExecute, OutOfMemory}
use Rattle.rws_handles.specs.PlainForm.{Plain, spelled}

-- An execute that reads so was taken or refused. Where it was taken, the list spells its plain form under the client's
-- own number, and what was `old` is `next`. Memory is wanted only for one that isn't refused. After an Err all is as before.
abbrev pub Takes : {S : Type 0} → Result Plain ExecuteFault → ℕ → (Plain → S) → S → S → Result (List (List ℕ)) ExecuteFault → Type 0
Takes read number next old new (Ok kept) = (plain : Plain) × (read ≡ Ok plain) × (kept ≡ spelled number plain) × (new ≡ next plain)
Takes read number next old new (Err UnknownHandle) = (read ≡ Err UnknownHandle) × (new ≡ old)
Takes read number next old new (Err CursorAsked) = (read ≡ Err CursorAsked) × (new ≡ old)
Takes read number next old new (Err BadExecute) = (read ≡ Err BadExecute) × (new ≡ old)
Takes read number next old new (Err OutOfMemory) = IsOk read × (new ≡ old)
