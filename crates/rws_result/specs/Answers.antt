-- What reading answers, which may want memory.
use Rattle.std.specs.Prelude.{◌≡◌, Option, Some, None, IsSome, IsErr, Result, Ok, Err}
use Rattle.rws_msgs.specs.declared.fault.MsgFault.{MsgFault}
use Rattle.rws_result.specs.declared.fault.ReadFault.{ReadFault}
use Rattle.rws_result.specs.declared.fault.ReadFault.TheVariants.{NotAResult, OutOfMemory}

-- The rows that the definition reads, and NotAResult exactly where it reads none. Memory is wanted only for what is readable.
abbrev pub IsRead : {A : Type 0} → Result A ReadFault → Option A → Type 0
IsRead (Ok x) read = read ≡ Some x
IsRead (Err NotAResult) read = read ≡ None
IsRead (Err OutOfMemory) read = IsSome read

-- The same for a part of them, of which nothing is known where memory was wanted.
abbrev pub Gives : {A : Type 0} → Result A ReadFault → Result A MsgFault → Type 0
Gives (Ok x) read = read ≡ Ok x
Gives (Err NotAResult) read = IsErr read
Gives (Err OutOfMemory) read = Unit {0}
