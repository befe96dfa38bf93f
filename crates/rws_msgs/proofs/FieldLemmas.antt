-- A field that was written is read again, whatever follows it.
use Rattle.std.proofs.Common.{◌≡◌, ◌==◌, ◌≢◌, ℕ, suc, ◌+◌, ◌*◌, ◌^◌, ◌<◌, ◌≤◌, Bool, true, false, cond, nat_lt, ltb, List, [], ◌∷◌, ◌++◌, length, take, drop, Result, Ok, Err, refl, sym, ap, ◌∙◌, append_assoc, arith}
use Rattle.std.proofs.lemmas.Bool.{le-ltb, eq-eqb, ne_eqb}
use Rattle.std.proofs.lemmas.List.{append-nil, take_at, drop_at, length-append, length-drop}
use Rattle.rws_wire.specs.Numbers.{bytes_of, number_of}
use Rattle.rws_wire.specs.Lenenc.{Lenenc, Integer, Cut, NoInteger, sized, lenenc, lenenc_bytes}
pub use Rattle.rws_wire.proofs.ReadingLemmas.{bind_ok, ok_is}
use Rattle.rws_wire.proofs.NumberLemmas.{length-bytes_of, number_of-bytes_of}
use Rattle.rws_wire.proofs.LenencLemmas.{lenenc-lenenc_bytes}
use Rattle.rws_msgs.specs.declared.fault.MsgFault.{MsgFault}
use Rattle.rws_msgs.specs.declared.fault.MsgFault.TheVariants.{Short}
use Rattle.rws_wire.specs.Reading.{◌>>=◌}
use Rattle.rws_msgs.specs.Fields.{bytes_at, number_at, fixed_at, integer_or_fault, lenenc_at, text_at, text_bytes, ended, zero_text_at, HasNoZero}

pub bytes_again : (text rest : List ℕ) (size : ℕ) → length text ≡ size → bytes_at size (text ++ rest) ≡ Ok (text, rest)
unfolding bytes_at
bytes_again text rest size len =
    let long : ltb (length (text ++ rest)) size ≡ false = le-ltb _ _ (omega (arith, length-append text rest)) in
    rw (long, take_at text rest size len, drop_at text rest size len) refl

pub number_again : (size n : ℕ) (rest : List ℕ) → n < 256 ^ size → number_at size (bytes_of size n ++ rest) ≡ Ok (n, rest)
unfolding number_at
number_again size n rest lt =
    let len = length-bytes_of size n in
    let long : ltb (length (bytes_of size n ++ rest)) size ≡ false = le-ltb _ _ (omega (arith, length-append (bytes_of size n) rest)) in
    rw (long, take_at (bytes_of size n) rest size len, drop_at (bytes_of size n) rest size len, number_of-bytes_of size n lt) refl

pub byte_again : (n : ℕ) (rest : List ℕ) → number_at 1 (n ∷ rest) ≡ Ok (n, rest)
unfolding number_at
byte_again n rest =
    let long : ltb (length (n ∷ rest)) 1 ≡ false = le-ltb _ _ (omega arith) in
    let one : n + 256 * 0 ≡ n = omega arith in
    rw long (ap (λ (k : ℕ). Ok (k, rest)) one)

pub last_number_again : (size n : ℕ) → n < 256 ^ size → number_at size (bytes_of size n) ≡ Ok (n, [])
last_number_again size n lt = ap (number_at size) (sym (append-nil (bytes_of size n))) ∙ number_again size n [] lt

pub fixed_again : (byte : ℕ) (rest : List ℕ) → fixed_at byte (byte ∷ rest) ≡ Ok rest
unfolding fixed_at
fixed_again byte rest = rw (eq-eqb byte byte refl) refl

pub lenenc_again : (n : ℕ) (rest : List ℕ) → n < 2 ^ 64 → lenenc_at (lenenc_bytes n ++ rest) ≡ Ok (n, rest)
unfolding lenenc_at
lenenc_again n rest lt = ap integer_or_fault (lenenc-lenenc_bytes n rest lt)

pub text_again : (text rest : List ℕ) → length text < 2 ^ 64 → text_at (text_bytes text ++ rest) ≡ Ok (text, rest)
unfolding text_at text_bytes
text_again text rest lt =
    ap text_at (append_assoc (lenenc_bytes (length text)) text rest)
    ∙ ap (λ r. r >>= λ size. bytes_at size.0 size.1) (lenenc_again (length text) (text ++ rest) lt)
    ∙ bytes_again text rest (length text) refl

-- ---- what is read takes a byte or more

Integer-rest : (a : ℕ) (b : List ℕ) (c : ℕ) (d : List ℕ) → Integer a b ≡ Integer c d → b ≡ d
Integer-rest a b c d e = cc

sized_within : (size : ℕ) (bytes : List ℕ) (value : ℕ) (rest : List ℕ) → sized size bytes ≡ Integer value rest → length rest ≤ length bytes
sized_within size bytes value rest e = by (nat_lt (length bytes) size) e
  where
    by : (test : Bool) → cond test Cut (Integer (number_of (take size bytes)) (drop size bytes)) ≡ Integer value rest → length rest ≤ length bytes
    by true e = absurd cc
    by false e = rw (← Integer-rest _ (drop size bytes) value rest e, length-drop) (omega arith)

lenenc_shorter : (bytes : List ℕ) (value : ℕ) (rest : List ℕ) → lenenc bytes ≡ Integer value rest → length rest < length bytes
unfolding lenenc
lenenc_shorter [] value rest e = absurd cc
lenenc_shorter (b ∷ bs) value rest e = lt-of_le (by (nat_lt b 0xFB) (b == 0xFC) (b == 0xFD) (b == 0xFE) e)
  where
    lt-of_le : {m n : ℕ} → m ≤ n → m < suc n
    lt-of_le h = omega arith

    by : (one two three eight : Bool) → cond one (Integer b bs) (cond two (sized 2 bs) (cond three (sized 3 bs) (cond eight (sized 8 bs) NoInteger))) ≡ Integer value rest → length rest ≤ length bs
    by true two three eight e = rw (← Integer-rest b bs value rest e) (omega arith)
    by false true three eight e = sized_within 2 bs value rest e
    by false false true eight e = sized_within 3 bs value rest e
    by false false false true e = sized_within 8 bs value rest e
    by false false false false e = absurd cc

integer_read : (read : Lenenc) (value : ℕ) (rest : List ℕ) → integer_or_fault read ≡ Ok (value, rest) → read ≡ Integer value rest
integer_read (Integer a b) value rest e =
    let same = ok_is (a, b) (value, rest) e in
    ap (λ (p : ℕ × List ℕ). Integer p.0 p.1) same
integer_read Cut value rest e = absurd cc
integer_read NoInteger value rest e = absurd cc

bytes_within : (size : ℕ) (bytes text rest : List ℕ) → bytes_at size bytes ≡ Ok (text, rest) → length rest ≤ length bytes
unfolding bytes_at
bytes_within size bytes text rest e = by (nat_lt (length bytes) size) e
  where
    by : (test : Bool) → cond {A = Result (List ℕ × List ℕ) MsgFault} test (Err Short) (Ok (take size bytes, drop size bytes)) ≡ Ok (text, rest) → length rest ≤ length bytes
    by true e = absurd cc
    by false e = let same = ok_is (take size bytes, drop size bytes) (text, rest) e in
        rw (← ap (λ (p : List ℕ × List ℕ). p.1) same, length-drop) (omega arith)

pub text_shorter : (bytes text rest : List ℕ) → text_at bytes ≡ Ok (text, rest) → length rest < length bytes
unfolding text_at lenenc_at
text_shorter bytes text rest e =
    let size = bind_ok (integer_or_fault (lenenc bytes)) (λ size. bytes_at size.0 size.1) (text, rest) e in
    let behind = lenenc_shorter bytes size.0.0 size.0.1 (integer_read (lenenc bytes) size.0.0 size.0.1 size.1) in
    let within = bytes_within size.0.0 size.0.1 text rest size.2 in
    omega arith

pub text_at_nothing : text_at [] ≡ Err Short
unfolding text_at lenenc_at lenenc
text_at_nothing = refl

-- ---- the end of a payload

abbrev pub nothing : Unit {0}
nothing = tt

pub ended_ok : {A : Type 0} (value : A) (rest : List ℕ) → ended nothing rest ≡ Ok nothing → ended value rest ≡ Ok value
unfolding ended
ended_ok value [] e = refl
ended_ok value (byte ∷ rest) e = absurd cc

pub ended_err : {A : Type 0} (value : A) (rest : List ℕ) (fault : MsgFault) → ended nothing rest ≡ Err fault → ended value rest ≡ Err fault
unfolding ended
ended_err value [] fault e = absurd cc
ended_err value (byte ∷ rest) fault e = cc

-- ---- texts that end with a zero byte

pub zero_text_again : (text rest : List ℕ) → HasNoZero text → zero_text_at (text ++ 0 ∷ rest) ≡ Ok (text, rest)
unfolding zero_text_at HasNoZero
zero_text_again [] rest none = refl
zero_text_again (byte ∷ text) rest none = rw (ne_eqb byte 0 none.0, zero_text_again text rest none.1) refl

-- the text so far is put before what is read
abbrev pub with_front : List ℕ → Result (List ℕ × List ℕ) MsgFault → Result (List ℕ × List ℕ) MsgFault
with_front front read = read >>= λ x. Ok (front ++ x.0, x.1)

pub with_front_nil : (read : Result (List ℕ × List ℕ) MsgFault) → with_front [] read ≡ read
with_front_nil (Ok x) = refl
with_front_nil (Err fault) = refl

pub zero_text_found : (front rest : List ℕ) (whole : Result (List ℕ × List ℕ) MsgFault) → with_front front (zero_text_at (0 ∷ rest)) ≡ whole → whole ≡ Ok (front, rest)
unfolding zero_text_at
zero_text_found front rest whole e = sym e ∙ ap (λ (t : List ℕ). Ok (t, rest)) (append-nil front)

moved : (front : List ℕ) (byte : ℕ) (read : Result (List ℕ × List ℕ) MsgFault) → with_front (front ++ byte ∷ []) read ≡ with_front front (read >>= λ x. Ok (byte ∷ x.0, x.1))
moved front byte (Ok x) = ap (λ (t : List ℕ). Ok (t, x.1)) (append_assoc front (byte ∷ []) x.0)
moved front byte (Err fault) = refl

pub zero_text_goes_on : (front rest : List ℕ) (byte : ℕ) (whole : Result (List ℕ × List ℕ) MsgFault) → byte ≢ 0 → with_front front (zero_text_at (byte ∷ rest)) ≡ whole
    → with_front (front ++ byte ∷ []) (zero_text_at rest) ≡ whole
unfolding zero_text_at
zero_text_goes_on front rest byte whole other e =
    moved front byte (zero_text_at rest) ∙ rw (ne_eqb byte 0 other) at e

pub HasNoZero-append : (text : List ℕ) (byte : ℕ) → HasNoZero text → byte ≢ 0 → HasNoZero (text ++ byte ∷ [])
unfolding HasNoZero
HasNoZero-append [] byte none other = (other, tt)
HasNoZero-append (first ∷ text) byte none other = (none.0, HasNoZero-append text byte none.1 other)

pub HasNoZero-nil : HasNoZero []
unfolding HasNoZero
HasNoZero-nil = tt
