-- No layout has want of memory as its fault.
use Rattle.rws_msgs.specs.declared.command.TheConstants.{COM_STMT_EXECUTE}
use Rattle.rws_msgs.specs.declared.err_msg.TheConstants.{STATE_MARK}
use Rattle.std.proofs.Common.{◌≡◌, ◌≢◌, ◌==◌, ℕ, ◌*◌, ◌+◌, ◌/◌, Bool, true, false, cond, nat_lt, List, [], ◌∷◌, length, take, drop, Option, Some, None, Result, Ok, Err, ap}
use Rattle.std.specs.Prelude.{◌&&◌}
use Rattle.rws_wire.specs.Lenenc.{Lenenc, Integer, Cut, NoInteger, lenenc}
use Rattle.rws_wire.specs.Numbers.{number_of}
use Rattle.rws_wire.specs.Reading.{◌>>=◌}
use Rattle.rws_msgs.specs.declared.fault.MsgFault.{MsgFault}
use Rattle.rws_msgs.specs.declared.fault.MsgFault.TheVariants.{Short, BadTag, Trailing, BadLenenc, OutOfMemory}
use Rattle.rws_msgs.specs.Fields.{bytes_at, number_at, fixed_at, integer_or_fault, lenenc_at, text_at, ended, zero_text_at, last_text_at}
use Rattle.rws_msgs.specs.OkLayout.{states, state_at, texts_at, ok_at}
use Rattle.rws_msgs.specs.ErrLayout.{err_at}
use Rattle.rws_msgs.specs.ExecuteLayout.{once_at, types_at, values_at, execute_at}
use Rattle.rws_msgs.specs.GreetingLayout.{abilities_at, last_piece_at, plugin_at, greeting_at}
use Rattle.rws_msgs.specs.ResponseLayout.{answer_at, name_at, attributes_at, names_at, with_lenenc, response_at}
use Rattle.rws_msgs.specs.SwitchLayout.{switch_at}

abbrev failed : (A : Type 0) → MsgFault → Result A MsgFault
failed A f = Err f

-- a value, or a fault of the bytes
record OfBytes {A : Type 0} (read : Result A MsgFault) : Type 0 where
  pub no_want : read ≢ failed A OutOfMemory

err_is : (A : Type 0) (f g : MsgFault) → failed A f ≡ failed A g → f ≡ g
err_is A f g e = cc

value : {A : Type 0} (x : A) → OfBytes {A = A} (Ok x)
value x = record { no_want = λ e. absurd cc }

fault : {A : Type 0} (f : MsgFault) → f ≢ OutOfMemory → OfBytes (failed A f)
fault {A} f other = record { no_want = λ e. other (err_is A f OutOfMemory e) }

then_of : {A B : Type 0} (r : Result A MsgFault) {f : A → Result B MsgFault} → OfBytes r → ((x : A) → OfBytes (f x)) → OfBytes (r >>= f)
then_of (Ok x) of next = next x
then_of {A} {B} (Err f) of next = record { no_want = λ e. of.no_want (ap (failed A) (err_is B f OutOfMemory e)) }

bytes_of_bytes : (size : ℕ) (bytes : List ℕ) → OfBytes (bytes_at size bytes)
unfolding bytes_at
bytes_of_bytes size bytes = by (nat_lt (length bytes) size)
  where
    by : (test : Bool) → OfBytes (cond {A = Result (List ℕ × List ℕ) MsgFault} test (Err Short) (Ok (take size bytes, drop size bytes)))
    by true = fault Short (λ e. absurd cc)
    by false = value _

number_of_bytes : (size : ℕ) (bytes : List ℕ) → OfBytes (number_at size bytes)
unfolding number_at
number_of_bytes size bytes = by (nat_lt (length bytes) size)
  where
    by : (test : Bool) → OfBytes (cond {A = Result (ℕ × List ℕ) MsgFault} test (Err Short) (Ok (number_of (take size bytes), drop size bytes)))
    by true = fault Short (λ e. absurd cc)
    by false = value _

fixed_of_bytes : (byte : ℕ) (bytes : List ℕ) → OfBytes (fixed_at byte bytes)
unfolding fixed_at
fixed_of_bytes byte [] = fault Short (λ e. absurd cc)
fixed_of_bytes byte (first ∷ bytes) = by (first == byte)
  where
    by : (test : Bool) → OfBytes (cond {A = Result (List ℕ) MsgFault} test (Ok bytes) (Err (BadTag first)))
    by true = value _
    by false = fault (BadTag first) (λ e. absurd cc)

integer_of_bytes : (read : Lenenc) → OfBytes (integer_or_fault read)
integer_of_bytes (Integer number rest) = value _
integer_of_bytes Cut = fault Short (λ e. absurd cc)
integer_of_bytes NoInteger = fault BadLenenc (λ e. absurd cc)

lenenc_of_bytes : (bytes : List ℕ) → OfBytes (lenenc_at bytes)
unfolding lenenc_at
lenenc_of_bytes bytes = integer_of_bytes (lenenc bytes)

text_of_bytes : (bytes : List ℕ) → OfBytes (text_at bytes)
unfolding text_at
text_of_bytes bytes = then_of _ (lenenc_of_bytes bytes) (λ size. bytes_of_bytes size.0 size.1)

end_of_bytes : {A : Type 0} (x : A) (bytes : List ℕ) → OfBytes (ended x bytes)
unfolding ended
end_of_bytes x [] = value x
end_of_bytes x (byte ∷ bytes) = fault Trailing (λ e. absurd cc)

zero_text_of_bytes : (bytes : List ℕ) → OfBytes (zero_text_at bytes)
unfolding zero_text_at
zero_text_of_bytes [] = fault Short (λ e. absurd cc)
zero_text_of_bytes (byte ∷ bytes) = by (byte == 0) (zero_text_of_bytes bytes)
  where
    by : (test : Bool) → OfBytes (zero_text_at bytes) → OfBytes (cond {A = Result (List ℕ × List ℕ) MsgFault} test (Ok ([], bytes)) (zero_text_at bytes >>= λ text. Ok (byte ∷ text.0, text.1)))
    by true of = value _
    by false of = then_of _ of (λ text. value _)

state_of_bytes : (stated : Bool) (bytes : List ℕ) → OfBytes (state_at stated bytes)
unfolding state_at
state_of_bytes true bytes = text_of_bytes bytes
state_of_bytes false bytes = value _

texts_of_bytes : (stated : Bool) (bytes : List ℕ) → OfBytes (texts_at stated bytes)
unfolding texts_at
texts_of_bytes stated [] = value _
texts_of_bytes stated (byte ∷ bytes) =
    then_of _ (text_of_bytes (byte ∷ bytes)) (λ info.
    then_of _ (state_of_bytes stated info.1) (λ state. end_of_bytes _ state.1))

ok_of_bytes : (track : Bool) (payload : List ℕ) → OfBytes (ok_at track payload)
unfolding ok_at
ok_of_bytes track payload =
    then_of _ (fixed_of_bytes 0x00 payload) (λ rest.
    then_of _ (lenenc_of_bytes rest) (λ affected.
    then_of _ (lenenc_of_bytes affected.1) (λ insert_id.
    then_of _ (number_of_bytes 2 insert_id.1) (λ status.
    then_of _ (number_of_bytes 2 status.1) (λ warnings.
    then_of _ (texts_of_bytes (track && states status.0) warnings.1) (λ texts. value _))))))

pub ok_never : (track : Bool) (payload : List ℕ) → ok_at track payload ≢ Err OutOfMemory
ok_never track payload = (ok_of_bytes track payload).no_want

err_of_bytes : (payload : List ℕ) → OfBytes (err_at payload)
unfolding err_at
err_of_bytes payload =
    then_of _ (fixed_of_bytes 0xFF payload) (λ rest.
    then_of _ (number_of_bytes 2 rest) (λ code.
    then_of _ (fixed_of_bytes STATE_MARK code.1) (λ marked.
    then_of _ (bytes_of_bytes 5 marked) (λ state. value _))))

pub err_never : (payload : List ℕ) → err_at payload ≢ Err OutOfMemory
err_never payload = (err_of_bytes payload).no_want

once_of_bytes : (bytes : List ℕ) → OfBytes (once_at bytes)
unfolding once_at
once_of_bytes bytes =
    then_of _ (fixed_of_bytes 0x01 bytes) (λ second.
    then_of _ (fixed_of_bytes 0x00 second) (λ third.
    then_of _ (fixed_of_bytes 0x00 third) (λ fourth. fixed_of_bytes 0x00 fourth)))

types_of_bytes : (parameters : ℕ) (bytes : List ℕ) → OfBytes (types_at parameters bytes)
unfolding types_at
types_of_bytes parameters [] = fault Short (λ e. absurd cc)
types_of_bytes parameters (given ∷ bytes) = by (given == 0) (given == 1)
  where
    by : (none some : Bool) → OfBytes (cond {A = Result (Option (List ℕ) × List ℕ) MsgFault} none (Ok (None, bytes))
        (cond some (bytes_at (2 * parameters) bytes >>= λ types. Ok (Some types.0, types.1)) (Err (BadTag given))))
    by true some = value _
    by false true = then_of _ (bytes_of_bytes (2 * parameters) bytes) (λ types. value _)
    by false false = fault (BadTag given) (λ e. absurd cc)

values_of_bytes : (parameters : ℕ) (bytes : List ℕ) → OfBytes (values_at parameters bytes)
unfolding values_at
values_of_bytes parameters bytes = by (parameters == 0)
  where
    by : (none : Bool) → OfBytes (cond {A = Result (List ℕ × (Option (List ℕ) × List ℕ)) MsgFault} none (Ok ([], (None, [])))
        (bytes_at ((parameters + 7) / 8) bytes >>= λ bitmap. types_at parameters bitmap.1 >>= λ types. Ok (bitmap.0, types)))
    by true = value _
    by false =
        then_of _ (bytes_of_bytes ((parameters + 7) / 8) bytes) (λ bitmap.
        then_of _ (types_of_bytes parameters bitmap.1) (λ types. value _))

execute_of_bytes : (parameters : ℕ) (payload : List ℕ) → OfBytes (execute_at parameters payload)
unfolding execute_at
execute_of_bytes parameters payload =
    then_of _ (fixed_of_bytes COM_STMT_EXECUTE payload) (λ rest.
    then_of _ (number_of_bytes 4 rest) (λ id.
    then_of _ (number_of_bytes 1 id.1) (λ flags.
    then_of _ (once_of_bytes flags.1) (λ behind.
    then_of _ (values_of_bytes parameters behind) (λ given. value _)))))

pub execute_never : (parameters : ℕ) (payload : List ℕ) → execute_at parameters payload ≢ Err OutOfMemory
execute_never parameters payload = (execute_of_bytes parameters payload).no_want

abilities_of_bytes : (bytes : List ℕ) → OfBytes (abilities_at bytes)
unfolding abilities_at
abilities_of_bytes bytes =
    then_of _ (bytes_of_bytes 2 bytes) (λ low.
    then_of _ (number_of_bytes 1 low.1) (λ charset.
    then_of _ (number_of_bytes 2 charset.1) (λ status.
    then_of _ (bytes_of_bytes 2 status.1) (λ high. value _))))

last_piece_of_bytes : (bytes : List ℕ) → OfBytes (last_piece_at bytes)
unfolding last_piece_at
last_piece_of_bytes bytes =
    then_of _ (number_of_bytes 1 bytes) (λ size.
    then_of _ (bytes_of_bytes 10 size.1) (λ filler.
    then_of _ (bytes_of_bytes 12 filler.1) (λ piece.
    then_of _ (fixed_of_bytes 0x00 piece.1) (λ rest. value _))))

plugin_of_bytes : (bytes : List ℕ) → OfBytes (plugin_at bytes)
unfolding plugin_at
plugin_of_bytes bytes = end_of_bytes _ (last_text_at bytes).1

greeting_of_bytes : (payload : List ℕ) → OfBytes (greeting_at payload)
unfolding greeting_at
greeting_of_bytes payload =
    then_of _ (fixed_of_bytes 0x0A payload) (λ rest.
    then_of _ (zero_text_of_bytes rest) (λ version.
    then_of _ (number_of_bytes 4 version.1) (λ id.
    then_of _ (bytes_of_bytes 8 id.1) (λ piece.
    then_of _ (fixed_of_bytes 0x00 piece.1) (λ behind.
    then_of _ (abilities_of_bytes behind) (λ abilities.
    then_of _ (last_piece_of_bytes abilities.1) (λ last.
    then_of _ (plugin_of_bytes last.1) (λ plugin. value _))))))))

pub greeting_never : (payload : List ℕ) → greeting_at payload ≢ Err OutOfMemory
greeting_never payload = (greeting_of_bytes payload).no_want

answer_of_bytes : (lenenc : Bool) (bytes : List ℕ) → OfBytes (answer_at lenenc bytes)
unfolding answer_at
answer_of_bytes true bytes = text_of_bytes bytes
answer_of_bytes false bytes = then_of _ (number_of_bytes 1 bytes) (λ size. bytes_of_bytes size.0 size.1)

name_of_bytes : (given last : Bool) (bytes : List ℕ) → OfBytes (name_at given last bytes)
unfolding name_at
name_of_bytes false last bytes = value _
name_of_bytes true true bytes = value _
name_of_bytes true false bytes = then_of _ (zero_text_of_bytes bytes) (λ text. value _)

attributes_of_bytes : (given : Bool) (bytes : List ℕ) → OfBytes (attributes_at given bytes)
unfolding attributes_at
attributes_of_bytes false bytes = value _
attributes_of_bytes true bytes = then_of _ (text_of_bytes bytes) (λ attributes. value _)

names_of_bytes : (flags : ℕ) (bytes : List ℕ) → OfBytes (names_at flags bytes)
unfolding names_at
names_of_bytes flags bytes =
    then_of _ (name_of_bytes _ _ bytes) (λ database.
    then_of _ (name_of_bytes _ _ database.1) (λ plugin.
    then_of _ (attributes_of_bytes _ plugin.1) (λ rest. end_of_bytes _ rest)))

response_of_bytes : (payload : List ℕ) → OfBytes (response_at payload)
unfolding response_at
response_of_bytes payload =
    then_of _ (number_of_bytes 4 payload) (λ flags.
    then_of _ (number_of_bytes 4 flags.1) (λ greatest.
    then_of _ (number_of_bytes 1 greatest.1) (λ charset.
    then_of _ (bytes_of_bytes 23 charset.1) (λ filler.
    then_of _ (zero_text_of_bytes filler.1) (λ user.
    then_of _ (answer_of_bytes (with_lenenc flags.0) user.1) (λ answer.
    then_of _ (names_of_bytes flags.0 answer.1) (λ names. value _)))))))

pub response_never : (payload : List ℕ) → response_at payload ≢ Err OutOfMemory
response_never payload = (response_of_bytes payload).no_want

switch_of_bytes : (payload : List ℕ) → OfBytes (switch_at payload)
unfolding switch_at
switch_of_bytes payload =
    then_of _ (fixed_of_bytes 0xFE payload) (λ rest.
    then_of _ (zero_text_of_bytes rest) (λ plugin.
    then_of _ (bytes_of_bytes 20 plugin.1) (λ scramble.
    then_of _ (fixed_of_bytes 0x00 scramble.1) (λ last. end_of_bytes _ last))))

pub switch_never : (payload : List ℕ) → switch_at payload ≢ Err OutOfMemory
switch_never payload = (switch_of_bytes payload).no_want
