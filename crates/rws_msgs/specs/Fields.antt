-- The fields of messages ("Protocol Data Types"). A field that is read is a value and the bytes behind it.
use Rattle.std.specs.Prelude.{ℕ, List, [], ◌∷◌, ◌++◌, length, take, drop, nat_lt, ◌==◌, if◌then◌else◌, ◌≢◌, Result, Ok, Err}
use Rattle.rws_wire.specs.Numbers.{number_of}
use Rattle.rws_wire.specs.Lenenc.{Lenenc, Integer, Cut, NoInteger, lenenc, lenenc_bytes}
use Rattle.rws_msgs.specs.declared.fault.MsgFault.{MsgFault}
use Rattle.rws_msgs.specs.declared.fault.MsgFault.TheVariants.{Short, BadTag, Trailing, BadLenenc}
use Rattle.rws_wire.specs.Reading.{◌>>=◌}

-- so many bytes
unfoldable pub bytes_at : ℕ → List ℕ → Result (List ℕ × List ℕ) MsgFault
bytes_at size bytes = if nat_lt (length bytes) size then Err Short else Ok (take size bytes, drop size bytes)

-- a number in so many bytes
unfoldable pub number_at : ℕ → List ℕ → Result (ℕ × List ℕ) MsgFault
number_at size bytes =
    if nat_lt (length bytes) size then Err Short else Ok (number_of (take size bytes), drop size bytes)

-- a byte that is always the same
unfoldable pub fixed_at : ℕ → List ℕ → Result (List ℕ) MsgFault
fixed_at byte [] = Err Short
fixed_at byte (first ∷ bytes) = if first == byte then Ok bytes else Err (BadTag first)

abbrev pub integer_or_fault : Lenenc → Result (ℕ × List ℕ) MsgFault
integer_or_fault (Integer value rest) = Ok (value, rest)
integer_or_fault Cut = Err Short
integer_or_fault NoInteger = Err BadLenenc

-- a length-encoded integer
unfoldable pub lenenc_at : List ℕ → Result (ℕ × List ℕ) MsgFault
lenenc_at bytes = integer_or_fault (lenenc bytes)

-- a length-encoded text: its length, and so many bytes
unfoldable pub text_at : List ℕ → Result (List ℕ × List ℕ) MsgFault
text_at bytes = do
  size ← lenenc_at bytes
  bytes_at size.0 size.1

unfoldable pub text_bytes : List ℕ → List ℕ
text_bytes text = lenenc_bytes (length text) ++ text

-- nothing is left
unfoldable pub ended : {A : Type 0} → A → List ℕ → Result A MsgFault
ended value [] = Ok value
ended value (byte ∷ bytes) = Err Trailing

-- a text up to a zero byte
unfoldable pub zero_text_at : List ℕ → Result (List ℕ × List ℕ) MsgFault
zero_text_at [] = Err Short
zero_text_at (byte ∷ bytes) = if byte == 0 then Ok ([], bytes) else (do
  text ← zero_text_at bytes
  Ok (byte ∷ text.0, text.1))

unfoldable pub HasNoZero : List ℕ → Type 0
HasNoZero [] = Unit {0}
HasNoZero (byte ∷ text) = (byte ≢ 0) × HasNoZero text

abbrev pub or_all : List ℕ → Result (List ℕ × List ℕ) MsgFault → List ℕ × List ℕ
or_all bytes (Ok split) = split
or_all bytes (Err fault) = (bytes, [])

-- a last text, which may lack its zero byte and then ends with the payload
unfoldable pub last_text_at : List ℕ → List ℕ × List ℕ
last_text_at bytes = or_all bytes (zero_text_at bytes)
