-- No payload is two things: they differ in their first byte, or in their length.
use Rattle.std.proofs.Common.{◌≡◌, ◌==◌, ℕ, Bool, true, false, cond, List, [], ◌∷◌, length, refl, sym, ap, ◌∙◌, arith, Option, Some, None}
use Rattle.std.specs.Prelude.{◌+◌, ◌≤◌, take, drop, nat_lt, Result, Ok, Err}
use Rattle.std.specs.Option.{option_map}
use Rattle.std.specs.Result.{result_ok}
use Rattle.std.proofs.lemmas.List.{length-drop}
use Rattle.rws_wire.specs.Numbers.{number_of}
use Rattle.rws_msgs.specs.declared.eof_msg.EofMsg.{EofMsg}
use Rattle.rws_msgs.specs.declared.fault.MsgFault.{MsgFault}
use Rattle.rws_msgs.specs.declared.fault.MsgFault.TheVariants.{Short, BadTag}
use Rattle.rws_wire.specs.Reading.{◌>>=◌}
use Rattle.rws_msgs.specs.Fields.{fixed_at, number_at, ended, lenenc_at, text_at}
use Rattle.rws_msgs.specs.OkLayout.{ok_at, ok_status}
use Rattle.rws_msgs.specs.ErrLayout.{err_at, err_code}
use Rattle.rws_msgs.specs.EofLayout.{eof_at}
use Rattle.rws_msgs.specs.PrepareOkLayout.{prepare_ok_at}
use Rattle.rws_msgs.proofs.FieldLemmas.{bind_ok, ok_is}
use Rattle.std.proofs.lemmas.Bool.Decides.{nat_tests}
use Rattle.rws_wire.specs.Lenenc.{lenenc}
use Rattle.rws_reply.specs.Payloads.{eof_status, column_count, is_definition, is_row, prepared_counts}

-- a payload with this first byte
abbrev pub Begins_by : ℕ → List ℕ → Type 0
Begins_by byte p = (rest : List ℕ) × (p ≡ byte ∷ rest)

-- what a layout read, where something of it was asked for
read_is : {A B : Type 0} (r : Result A MsgFault) (f : A → B) (y : B) → option_map f (result_ok r) ≡ Some y → (x : A) × (r ≡ Ok x)
read_is (Ok x) f y e = (x, refl)
read_is (Err fault) f y e = absurd cc

-- a message that begins with a fixed byte
fixed_first : {A : Type 0} (byte : ℕ) (p : List ℕ) (f : List ℕ → Result A MsgFault) (x : A) → (fixed_at byte p >>= f) ≡ Ok x → (rest : List ℕ) × (p ≡ byte ∷ rest) × (f rest ≡ Ok x)
unfolding fixed_at
fixed_first byte [] f x e = absurd cc
fixed_first byte (b ∷ bs) f x e = by (b == byte) refl e
  where
    by : (test : Bool) → (b == byte) ≡ test → (cond {A = Result (List ℕ) MsgFault} test (Ok bs) (Err (BadTag b)) >>= f) ≡ Ok x → (rest : List ℕ) × (b ∷ bs ≡ byte ∷ rest) × (f rest ≡ Ok x)
    by true g e = let same : b ≡ byte = grind (arith, nat_tests) in (bs, ap (λ (c : ℕ). c ∷ bs) same, e)
    by false g e = absurd cc

pub ok_begins : (p : List ℕ) (status : ℕ) → ok_status true p ≡ Some status → Begins_by 0x00 p
unfolding ok_status ok_at
ok_begins p status e =
    let read = read_is (ok_at true p) _ status e in
    let first = fixed_first 0x00 p _ read.0 read.1 in (first.0, first.1)

pub err_begins : (p : List ℕ) (code : ℕ) → err_code p ≡ Some code → Begins_by 0xFF p
unfolding err_code err_at
err_begins p code e =
    let read = read_is (err_at p) _ code e in
    let first = fixed_first 0xFF p _ read.0 read.1 in (first.0, first.1)

-- a number takes its bytes
number_length : (size : ℕ) (bytes : List ℕ) (x : ℕ × List ℕ) → number_at size bytes ≡ Ok x → length bytes ≡ size + length x.1
unfolding number_at
number_length size bytes x e = by (nat_lt (length bytes) size) refl e
  where
    by : (test : Bool) → nat_lt (length bytes) size ≡ test → cond {A = Result (ℕ × List ℕ) MsgFault} test (Err Short) (Ok (number_of (take size bytes), drop size bytes)) ≡ Ok x → length bytes ≡ size + length x.1
    by true g e = absurd cc
    by false g e =
        let enough : size ≤ length bytes = grind (arith, nat_tests) in
        let rest = ap (λ (p : ℕ × List ℕ). length p.1) (ok_is (number_of (take size bytes), drop size bytes) x e) in
        omega (arith, length-drop size bytes)

ended_length : {A : Type 0} (value x : A) (bytes : List ℕ) → ended value bytes ≡ Ok x → length bytes ≡ 0
unfolding ended
ended_length value x [] e = refl
ended_length value x (b ∷ bs) e = absurd cc

four_left : (rest : List ℕ) (warnings status : ℕ × List ℕ) (eof read : EofMsg) → number_at 2 rest ≡ Ok warnings → number_at 2 warnings.1 ≡ Ok status → ended eof status.1 ≡ Ok read
    → length rest ≡ 4
four_left rest warnings status eof read first second last =
    omega (arith, number_length 2 rest warnings first, number_length 2 warnings.1 status second, ended_length eof read status.1 last)

pub eof_begins : (p : List ℕ) (status : ℕ) → eof_status p ≡ Some status → (rest : List ℕ) × (p ≡ 0xFE ∷ rest) × (length rest ≡ 4)
unfolding eof_status eof_at
eof_begins p status e =
    let read = read_is (eof_at p) _ status e in
    let first = fixed_first 0xFE p _ read.0 read.1 in
    let warnings = bind_ok _ _ read.0 first.2 in
    let last = bind_ok _ _ read.0 warnings.2 in
    (first.0, first.1, four_left first.0 warnings.0 last.0 _ _ warnings.1 last.1 last.2)

pub prepared_begins : (p : List ℕ) (counts : ℕ × ℕ) → prepared_counts p ≡ Some counts → Begins_by 0x00 p
unfolding prepared_counts prepare_ok_at
prepared_begins p counts e =
    let read = read_is (prepare_ok_at p) _ counts e in
    let first = fixed_first 0x00 p _ read.0 read.1 in (first.0, first.1)

no_columns_0 : (bs : List ℕ) → column_count (0x00 ∷ bs) ≡ None
unfolding column_count lenenc
no_columns_0 bs = refl

no_columns_255 : (bs : List ℕ) → column_count (0xFF ∷ bs) ≡ None
unfolding column_count lenenc
no_columns_255 bs = refl

no_definition_255 : (bs : List ℕ) → is_definition (0xFF ∷ bs) ≡ false
unfolding is_definition text_at lenenc_at lenenc
no_definition_255 bs = refl

no_definition_254 : (bs : List ℕ) → length bs ≡ 4 → is_definition (0xFE ∷ bs) ≡ false
unfolding is_definition text_at lenenc_at lenenc
no_definition_254 bs e = rw e refl

no_row_254 : (bs : List ℕ) → length bs ≡ 4 → is_row (0xFE ∷ bs) ≡ false
unfolding is_row
no_row_254 bs e = rw e refl

-- ---- what a payload isn't

none_unless : {A : Type 0} (o : Option A) → ((x : A) → o ≡ Some x → ⊥) → o ≡ None
none_unless None h = refl
none_unless (Some x) h = absurd (h x refl)

none_is_some : {A : Type 0} (o : Option A) (x : A) → o ≡ None → o ≡ Some x → ⊥
none_is_some o x e f = absurd cc

first_bytes : (a b : ℕ) (p : List ℕ) → Begins_by a p → Begins_by b p → a ≡ b
first_bytes a b p x y = let same = sym x.1 ∙ y.1 in cc

pub no_ok_in_err : (p : List ℕ) (code : ℕ) → err_code p ≡ Some code → ok_status true p ≡ None
no_ok_in_err p code e = none_unless _ (λ s o. absurd (let bytes = first_bytes 0x00 0xFF p (ok_begins p s o) (err_begins p code e) in omega arith))

pub no_eof_in_err : (p : List ℕ) (code : ℕ) → err_code p ≡ Some code → eof_status p ≡ None
no_eof_in_err p code e = none_unless _ (λ s o. absurd (let eof = eof_begins p s o in let bytes = first_bytes 0xFE 0xFF p (eof.0, eof.1) (err_begins p code e) in omega arith))

pub no_err_in_eof : (p : List ℕ) (status : ℕ) → eof_status p ≡ Some status → err_code p ≡ None
no_err_in_eof p status o = none_unless _ (λ code e. none_is_some _ status (no_eof_in_err p code e) o)

pub no_err_in_prepared : (p : List ℕ) (counts : ℕ × ℕ) → prepared_counts p ≡ Some counts → err_code p ≡ None
no_err_in_prepared p counts o = none_unless _ (λ code e. absurd (let bytes = first_bytes 0x00 0xFF p (prepared_begins p counts o) (err_begins p code e) in omega arith))

pub no_ok_in_count : (p : List ℕ) (count : ℕ) → column_count p ≡ Some count → ok_status true p ≡ None
no_ok_in_count p count o = none_unless _ (λ s e. let first = ok_begins p s e in none_is_some _ count (no_columns_0 first.0) (ap column_count (sym first.1) ∙ o))

pub no_err_in_count : (p : List ℕ) (count : ℕ) → column_count p ≡ Some count → err_code p ≡ None
no_err_in_count p count o = none_unless _ (λ code e. let first = err_begins p code e in none_is_some _ count (no_columns_255 first.0) (ap column_count (sym first.1) ∙ o))

both : (b : Bool) → b ≡ false → b ≡ true → ⊥
both b e f = absurd cc

pub no_err_in_definition : (p : List ℕ) → is_definition p ≡ true → err_code p ≡ None
no_err_in_definition p o = none_unless _ (λ code e. let first = err_begins p code e in both _ (ap is_definition first.1 ∙ no_definition_255 first.0) o)

pub no_eof_in_definition : (p : List ℕ) → is_definition p ≡ true → eof_status p ≡ None
no_eof_in_definition p o = none_unless _ (λ s e. let first = eof_begins p s e in both _ (ap is_definition first.1 ∙ no_definition_254 first.0 first.2) o)

no_row_255 : (bs : List ℕ) → is_row (0xFF ∷ bs) ≡ false
unfolding is_row
no_row_255 bs = refl

pub no_err_in_row : (p : List ℕ) → is_row p ≡ true → err_code p ≡ None
no_err_in_row p o = none_unless _ (λ code e. let first = err_begins p code e in both _ (ap is_row first.1 ∙ no_row_255 first.0) o)

pub no_eof_in_row : (p : List ℕ) → is_row p ≡ true → eof_status p ≡ None
no_eof_in_row p o = none_unless _ (λ s e. let first = eof_begins p s e in both _ (ap is_row first.1 ∙ no_row_254 first.0 first.2) o)
