-- What decoding answers, which may want memory.
use Rattle.std.specs.Prelude.{◌≡◌, Result, Ok, Err, IsOk}
use Rattle.rws_msgs.specs.declared.fault.MsgFault.{MsgFault}
use Rattle.rws_msgs.specs.declared.fault.MsgFault.TheVariants.{Short, BadTag, Trailing, BadLenenc, OutOfMemory}

-- What a reader returned is what the definition reads: the same value, or the same fault. Memory is wanted only for
-- what is readable.
abbrev pub IsDecoded : {X : Type 0} → Result X MsgFault → Result X MsgFault → Type 0
IsDecoded (Ok x) read = read ≡ Ok x
IsDecoded (Err OutOfMemory) read = IsOk read
IsDecoded (Err Short) read = read ≡ Err Short
IsDecoded (Err (BadTag byte)) read = read ≡ Err (BadTag byte)
IsDecoded (Err Trailing) read = read ≡ Err Trailing
IsDecoded (Err BadLenenc) read = read ≡ Err BadLenenc
