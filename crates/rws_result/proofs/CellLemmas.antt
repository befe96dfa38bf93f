-- A row column by column, and lists of which each element is read.
use Rattle.std.proofs.Common.{◌≡◌, ℕ, suc, zero, ◌+◌, ◌-◌, ◌<◌, Bool, true, false, List, [], ◌∷◌, ◌++◌, length, get_or, drop, Result, Ok, Err, refl, sym, ap, ◌∙◌, subst, append_assoc, drop-cons, add-one, arith, rules}
use Rattle.std.specs.Prelude.{is_ok, ◌&&◌, ◌==◌, ◌≤◌, IsErr}
use Rattle.std.proofs.lemmas.List.{append-nil}
use Rattle.std.specs.List.{list_all}
use Rattle.rws_wire.specs.Reading.{◌>>=◌}
use Rattle.rws_wire.proofs.ReadingLemmas.{done}
use Rattle.rws_msgs.specs.declared.fault.MsgFault.{MsgFault}
use Rattle.rws_msgs.specs.Fields.{ended}
use Rattle.rws_result.specs.Cells.{Cell, cell_at, row_at, each}

-- what was read before stands in front of what is read
abbrev pub behind : {A E : Type 0} → List A → Result (List A) E → Result (List A) E
behind before read = read >>= λ others. Ok (before ++ others)

-- the first of a list, in front of the others
abbrev pub first_of : {A E : Type 0} → A → Result (List A) E → Result (List A) E
first_of x read = read >>= λ others. Ok (x ∷ others)

pub behind_nothing : {A E : Type 0} (read : Result (List A) E) → behind [] read ≡ read
behind_nothing (Ok xs) = refl
behind_nothing (Err e) = refl

pub behind_one : {A E : Type 0} (before : List A) (x : A) (read : Result (List A) E) → behind before (first_of x read) ≡ behind (before ++ x ∷ []) read
behind_one {A} {E} before x (Ok xs) = ap (λ (all : List A). done {A = List A} {E = E} all) (sym (append_assoc before (x ∷ []) xs))
behind_one before x (Err e) = refl

pub ok_first : {A E : Type 0} (x : A) (read : Result (List A) E) → is_ok (first_of x read) ≡ is_ok read
ok_first x (Ok xs) = refl
ok_first x (Err e) = refl

-- one column of so many
pub row_step : (left next : ℕ) (bytes rest : List ℕ) (cell : Cell) → left ≡ suc next → cell_at bytes ≡ Ok (cell, rest)
    → row_at left bytes ≡ first_of cell (row_at next rest)
unfolding row_at
row_step left next bytes rest cell more read = rw more (rw read refl)

pub row_stuck : (left next : ℕ) (bytes : List ℕ) (fault : MsgFault) → left ≡ suc next → cell_at bytes ≡ Err fault → row_at left bytes ≡ Err fault
unfolding row_at
row_stuck left next bytes fault more read = rw more (rw read refl)

-- one element of a list
pub each_step : {A B E : Type 0} (read : A → Result B E) (xs : List A) (i : ℕ) (d : A) (x : B) → i < length xs → read (get_or xs i d) ≡ Ok x
    → each read (drop i xs) ≡ first_of x (each read (drop (i + 1) xs))
each_step read xs i d x inside found = rw (add-one, drop-cons xs i d) (rw found refl)

pub each_stuck : {A B E : Type 0} (read : A → Result B E) (xs : List A) (i : ℕ) (d : A) (fault : E) → i < length xs → read (get_or xs i d) ≡ Err fault
    → each read (drop i xs) ≡ Err fault
each_stuck read xs i d fault inside found = rw (drop-cons xs i d) (rw found refl)

-- a list can be read where each element can
pub each_ok : {A B E : Type 0} (read : A → Result B E) (xs : List A) → is_ok (each read xs) ≡ list_all (λ x. is_ok (read x)) xs
each_ok read [] = refl
each_ok {A} {B} {E} read (x ∷ xs) = by (read x) (each read xs) (each_ok read xs)
  where
    by : (first : Result B E) (others : Result (List B) E) → is_ok others ≡ list_all (λ x. is_ok (read x)) xs
        → is_ok (first >>= λ x. others >>= λ xs. done {A = List B} {E = E} (x ∷ xs)) ≡ (is_ok first && list_all (λ x. is_ok (read x)) xs)
    by (Ok x) (Ok xs) same = same
    by (Ok x) (Err e) same = same
    by (Err e) others same = refl

-- ---- a loop over the columns, at column i of so many

row_goes : (columns i : ℕ) (bytes rest : List ℕ) (cell : Cell) → i < columns → cell_at bytes ≡ Ok (cell, rest)
    → row_at (columns - i) bytes ≡ first_of cell (row_at (columns - (i + 1)) rest)
row_goes columns i bytes rest cell inside read =
    let more : columns - i ≡ suc (columns - (i + 1)) = omega arith in
    row_step (columns - i) (columns - (i + 1)) bytes rest cell more read

row_breaks : (columns i : ℕ) (bytes : List ℕ) (fault : MsgFault) → i < columns → cell_at bytes ≡ Err fault → row_at (columns - i) bytes ≡ Err fault
row_breaks columns i bytes fault inside read =
    let more : columns - i ≡ suc (columns - (i + 1)) = omega arith in
    row_stuck (columns - i) (columns - (i + 1)) bytes fault more read

row_over : (columns i : ℕ) (bytes : List ℕ) → columns ≤ i → row_at (columns - i) bytes ≡ ended [] bytes
unfolding row_at
row_over columns i bytes over =
    let none : columns - i ≡ zero = omega arith in
    rw none refl

ended_ok : {A : Type 0} (x : A) (bytes : List ℕ) → is_ok (ended x bytes) ≡ (length bytes == 0)
unfolding ended
ended_ok x [] = refl
ended_ok x (byte ∷ bytes) = search rules

not_empty : (byte : ℕ) (bytes : List ℕ) → (length (byte ∷ bytes) == 0) ≡ false
not_empty byte bytes = search rules

-- the look
pub looks_on : (columns i : ℕ) (bytes rest : List ℕ) (cell : Cell) (whole : Bool) → i < columns → cell_at bytes ≡ Ok (cell, rest)
    → is_ok (row_at (columns - i) bytes) ≡ whole → is_ok (row_at (columns - (i + 1)) rest) ≡ whole
looks_on columns i bytes rest cell whole inside read same =
    sym (ap is_ok (row_goes columns i bytes rest cell inside read) ∙ ok_first cell (row_at (columns - (i + 1)) rest)) ∙ same

pub looks_bad : (columns i : ℕ) (bytes : List ℕ) (fault : MsgFault) (whole : Bool) → i < columns → cell_at bytes ≡ Err fault
    → is_ok (row_at (columns - i) bytes) ≡ whole → false ≡ whole
looks_bad columns i bytes fault whole inside read same = sym (ap is_ok (row_breaks columns i bytes fault inside read)) ∙ same

pub looks_over : (columns i : ℕ) (bytes : List ℕ) (whole : Bool) → columns ≤ i → is_ok (row_at (columns - i) bytes) ≡ whole → (length bytes == 0) ≡ whole
looks_over columns i bytes whole over same = sym (ap is_ok (row_over columns i bytes over) ∙ ended_ok [] bytes) ∙ same

-- the copy
pub copies_on : (before after : List Cell) (columns i : ℕ) (bytes rest : List ℕ) (cell copy : Cell) (whole : Result (List Cell) MsgFault) → i < columns
    → cell_at bytes ≡ Ok (cell, rest) → copy ≡ cell → after ≡ before ++ copy ∷ [] → behind before (row_at (columns - i) bytes) ≡ whole
    → behind after (row_at (columns - (i + 1)) rest) ≡ whole
copies_on before after columns i bytes rest cell copy whole inside read copied grown same =
    let left : Result (List Cell) MsgFault = row_at (columns - (i + 1)) rest in
    ap (λ (cells : List Cell). behind cells left) (grown ∙ ap (λ (one : Cell). before ++ one ∷ []) copied)
    ∙ (sym (behind_one before cell left) ∙ (sym (ap (behind before) (row_goes columns i bytes rest cell inside read)) ∙ same))

pub copies_bad : (before : List Cell) (columns i : ℕ) (bytes : List ℕ) (fault : MsgFault) (whole : Result (List Cell) MsgFault) → i < columns
    → cell_at bytes ≡ Err fault → behind before (row_at (columns - i) bytes) ≡ whole → IsErr whole
copies_bad before columns i bytes fault whole inside read same =
    subst (λ (r : Result (List Cell) MsgFault). IsErr r) (sym (ap (behind before) (row_breaks columns i bytes fault inside read)) ∙ same) refl

pub copies_all : (before : List Cell) (columns i : ℕ) (bytes : List ℕ) (whole : Result (List Cell) MsgFault) → columns ≤ i
    → (length bytes == 0) ≡ true → behind before (row_at (columns - i) bytes) ≡ whole → whole ≡ Ok before
unfolding ended
copies_all before columns i [] whole over empty same = sym same ∙ (ap (behind before) (row_over columns i [] over) ∙ ap (λ (cells : List Cell). done {A = List Cell} {E = MsgFault} cells) (append-nil before))
copies_all before columns i (byte ∷ bytes) whole over empty same = absurd (cc (not_empty byte bytes))

pub copies_long : (before : List Cell) (columns i : ℕ) (bytes : List ℕ) (whole : Result (List Cell) MsgFault) → columns ≤ i
    → (length bytes == 0) ≡ false → behind before (row_at (columns - i) bytes) ≡ whole → IsErr whole
unfolding ended
copies_long before columns i [] whole over long same = absurd cc
copies_long before columns i (byte ∷ bytes) whole over long same =
    subst (λ (r : Result (List Cell) MsgFault). IsErr r) (sym (ap (behind before) (row_over columns i (byte ∷ bytes) over)) ∙ same) refl
