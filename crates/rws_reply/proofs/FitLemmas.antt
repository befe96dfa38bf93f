-- What is read from bytes is in the ranges of its fields.
use Rattle.std.proofs.Common.{◌≡◌, ◌==◌, ℕ, suc, ◌^◌, ◌<◌, ◌≤◌, Bool, true, false, cond, nat_lt, List, [], ◌∷◌, length, take, drop, Result, Ok, Err, refl, subst, arith}
use Rattle.std.specs.Prelude.{◌&&◌}
use Rattle.std.proofs.lemmas.Bool.Decides.{nat_tests}
use Rattle.std.proofs.lemmas.List.{length-take}
use Rattle.rws_wire.specs.Lenenc.{Integer, Cut, NoInteger, sized, lenenc}
use Rattle.rws_wire.specs.Numbers.{AreBytes, number_of}
use Rattle.rws_wire.specs.Reading.{◌>>=◌}
use Rattle.rws_wire.proofs.NumberLemmas.{AreBytes-drop, AreBytes-take, number_of-lt}
use Rattle.rws_msgs.specs.declared.fault.MsgFault.{MsgFault}
use Rattle.rws_msgs.specs.declared.fault.MsgFault.TheVariants.{Short, BadTag, Trailing, BadLenenc}
use Rattle.rws_msgs.specs.declared.ok_msg.OkMsg.{OkMsg}
use Rattle.rws_msgs.specs.declared.prepare_ok.PrepareOk.{PrepareOk}
use Rattle.rws_msgs.specs.Fields.{bytes_at, number_at, fixed_at, integer_or_fault, lenenc_at, text_at, ended}
use Rattle.rws_msgs.specs.OkLayout.{OkFits, states, state_at, texts_at, ok_at}
use Rattle.rws_msgs.specs.PrepareOkLayout.{PrepareOkFits, prepare_ok_at}
use Rattle.rws_msgs.proofs.FieldLemmas.{ok_is}

-- this holds of what was read, if anything was
record Reads {A : Type 0} (P : A → Type 0) (read : Result A MsgFault) : Type 0 where
  pub holds : (x : A) → read ≡ Ok x → P x

value : {A : Type 0} {P : A → Type 0} (x : A) → P x → Reads P (Ok x)
value {P} x here = record { holds = λ y e. subst P (ok_is x y e) here }

fault : {A : Type 0} {P : A → Type 0} (f : MsgFault) → Reads P (Err f)
fault f = record { holds = λ y e. absurd cc }

then_reads : {A B : Type 0} {P : A → Type 0} {Q : B → Type 0} (r : Result A MsgFault) {f : A → Result B MsgFault} → Reads P r → ((x : A) → P x → Reads Q (f x)) → Reads Q (r >>= f)
then_reads (Ok x) first next = next x (first.holds x refl)
then_reads (Err f) first next = fault f

-- a number below this, and bytes behind it
abbrev Below : ℕ → ℕ × List ℕ → Type 0
Below bound read = (read.0 < bound) × AreBytes read.1

-- a text with a length below 2 ^ 64, and bytes behind it
abbrev IsShort : List ℕ × List ℕ → Type 0
IsShort read = (length read.0 < 2 ^ 64) × AreBytes read.1

taken_fits : (size : ℕ) (bytes : List ℕ) → AreBytes bytes → nat_lt (length bytes) size ≡ false → number_of (take size bytes) < 256 ^ size
taken_fits size bytes fit long =
    let enough : size ≤ length bytes = grind (arith, nat_tests) in
    let len : length (take size bytes) ≡ size = omega (arith, length-take size bytes) in
    rw len at (number_of-lt (take size bytes) (AreBytes-take size bytes fit))

number_fits : (size : ℕ) (bytes : List ℕ) → AreBytes bytes → Reads (Below (256 ^ size)) (number_at size bytes)
unfolding number_at
number_fits size bytes fit = by (nat_lt (length bytes) size) refl
  where
    by : (test : Bool) → nat_lt (length bytes) size ≡ test
        → Reads (Below (256 ^ size)) (cond {A = Result (ℕ × List ℕ) MsgFault} test (Err Short) (Ok (number_of (take size bytes), drop size bytes)))
    by true g = fault Short
    by false g = value (number_of (take size bytes), drop size bytes) (taken_fits size bytes fit g, AreBytes-drop size bytes fit)

fixed_fits : (byte : ℕ) (bytes : List ℕ) → AreBytes bytes → Reads AreBytes (fixed_at byte bytes)
unfolding fixed_at
fixed_fits byte [] fit = fault Short
fixed_fits byte (first ∷ bytes) fit = by (first == byte)
  where
    by : (test : Bool) → Reads AreBytes (cond {A = Result (List ℕ) MsgFault} test (Ok bytes) (Err (BadTag first)))
    by true = value bytes (λ i. fit (suc i))
    by false = fault (BadTag first)

sized_fits : (size : ℕ) (bytes : List ℕ) → AreBytes bytes → 256 ^ size ≤ 2 ^ 64 → Reads (Below (2 ^ 64)) (integer_or_fault (sized size bytes))
sized_fits size bytes fit within = by (nat_lt (length bytes) size) refl
  where
    by : (test : Bool) → nat_lt (length bytes) size ≡ test → Reads (Below (2 ^ 64)) (integer_or_fault (cond test Cut (Integer (number_of (take size bytes)) (drop size bytes))))
    by true g = fault Short
    by false g = value (number_of (take size bytes), drop size bytes) (below _ _ _ (taken_fits size bytes fit g) within, AreBytes-drop size bytes fit)
      where
        below : (n a b : ℕ) → n < a → a ≤ b → n < b
        below n a b h k = omega arith

lenenc_fits : (bytes : List ℕ) → AreBytes bytes → Reads (Below (2 ^ 64)) (lenenc_at bytes)
unfolding lenenc_at lenenc
lenenc_fits [] fit = fault Short
lenenc_fits (b ∷ bs) fit = by (nat_lt b 0xFB) (b == 0xFC) (b == 0xFD) (b == 0xFE)
  where
    behind : AreBytes bs
    behind = λ i. fit (suc i)

    byte : b < 2 ^ 64
    byte = let one : b < 256 = fit 0 in omega arith

    by : (one two three eight : Bool) → Reads (Below (2 ^ 64)) (integer_or_fault (cond one (Integer b bs) (cond two (sized 2 bs) (cond three (sized 3 bs) (cond eight (sized 8 bs) NoInteger)))))
    by true two three eight = value (b, bs) (byte, behind)
    by false true three eight = sized_fits 2 bs behind (omega arith)
    by false false true eight = sized_fits 3 bs behind (omega arith)
    by false false false true = sized_fits 8 bs behind (omega arith)
    by false false false false = fault BadLenenc

bytes_fit : (size : ℕ) (bytes : List ℕ) → size < 2 ^ 64 → AreBytes bytes → Reads IsShort (bytes_at size bytes)
unfolding bytes_at
bytes_fit size bytes small fit = by (nat_lt (length bytes) size)
  where
    within : length (take size bytes) < 2 ^ 64
    within = omega (arith, length-take size bytes)

    by : (test : Bool) → Reads IsShort (cond {A = Result (List ℕ × List ℕ) MsgFault} test (Err Short) (Ok (take size bytes, drop size bytes)))
    by true = fault Short
    by false = value (take size bytes, drop size bytes) (within, AreBytes-drop size bytes fit)

text_fits : (bytes : List ℕ) → AreBytes bytes → Reads IsShort (text_at bytes)
unfolding text_at
text_fits bytes fit = then_reads _ (lenenc_fits bytes fit) (λ size fits. bytes_fit size.0 size.1 fits.0 fits.1)

ended_fits : {A : Type 0} {P : A → Type 0} (x : A) (bytes : List ℕ) → P x → Reads P (ended x bytes)
unfolding ended
ended_fits x [] here = value x here
ended_fits x (byte ∷ bytes) here = fault Trailing

state_fits : (stated : Bool) (bytes : List ℕ) → AreBytes bytes → Reads IsShort (state_at stated bytes)
unfolding state_at
state_fits true bytes fit = text_fits bytes fit
state_fits false bytes fit = value ([], bytes) (omega arith, fit)

-- an info and a state with lengths below 2 ^ 64
abbrev AreShort : List ℕ × List ℕ → Type 0
AreShort texts = (length texts.0 < 2 ^ 64) × (length texts.1 < 2 ^ 64)

texts_fit : (stated : Bool) (bytes : List ℕ) → AreBytes bytes → Reads AreShort (texts_at stated bytes)
unfolding texts_at
texts_fit stated [] fit = value ([], []) (omega arith, omega arith)
texts_fit stated (byte ∷ bytes) fit =
    then_reads _ (text_fits (byte ∷ bytes) fit) (λ info info_fits.
    then_reads _ (state_fits stated info.1 info_fits.1) (λ state state_fits. ended_fits (info.0, state.0) state.1 (info_fits.0, state_fits.0)))

ok_reads : (track : Bool) (payload : List ℕ) → AreBytes payload → Reads OkFits (ok_at track payload)
unfolding ok_at
ok_reads track payload fit =
    then_reads _ (fixed_fits 0x00 payload fit) (λ rest rest_fits.
    then_reads _ (lenenc_fits rest rest_fits) (λ affected affected_fits.
    then_reads _ (lenenc_fits affected.1 affected_fits.1) (λ insert_id insert_id_fits.
    then_reads _ (number_fits 2 insert_id.1 insert_id_fits.1) (λ status status_fits.
    then_reads _ (number_fits 2 status.1 status_fits.1) (λ warnings warnings_fits.
    then_reads _ (texts_fit (track && states status.0) warnings.1 warnings_fits.1) (λ texts texts_fits.
    value _ (record {
      affected = affected_fits.0;
      insert_id = insert_id_fits.0;
      status = status_fits.0;
      warnings = warnings_fits.0;
      info = texts_fits.0;
      state = texts_fits.1;
    })))))))

pub ok_fits : (track : Bool) (payload : List ℕ) (ok : OkMsg) → AreBytes payload → ok_at track payload ≡ Ok ok → OkFits ok
ok_fits track payload ok fit e = (ok_reads track payload fit).holds ok e

prepare_ok_reads : (payload : List ℕ) → AreBytes payload → Reads PrepareOkFits (prepare_ok_at payload)
unfolding prepare_ok_at
prepare_ok_reads payload fit =
    then_reads _ (fixed_fits 0x00 payload fit) (λ rest rest_fits.
    then_reads _ (number_fits 4 rest rest_fits) (λ id id_fits.
    then_reads _ (number_fits 2 id.1 id_fits.1) (λ columns columns_fits.
    then_reads _ (number_fits 2 columns.1 columns_fits.1) (λ parameters parameters_fits.
    then_reads _ (fixed_fits 0x00 parameters.1 parameters_fits.1) (λ filled filled_fits.
    then_reads _ (number_fits 2 filled filled_fits) (λ warnings warnings_fits.
    ended_fits _ warnings.1 (record {
      id = id_fits.0;
      columns = columns_fits.0;
      parameters = parameters_fits.0;
      warnings = warnings_fits.0;
    })))))))

pub prepare_ok_fits : (payload : List ℕ) (ok : PrepareOk) → AreBytes payload → prepare_ok_at payload ≡ Ok ok → PrepareOkFits ok
prepare_ok_fits payload ok fit e = (prepare_ok_reads payload fit).holds ok e
