-- A statement comes under the next number.
use Rattle.std.proofs.Common.{◌≡◌, ◌≢◌, ◌==◌, ℕ, ◌+◌, ◌-◌, ◌<◌, Bool, true, false, cond, not, ◌&&◌, nat_lt, is_some, List, [], ◌∷◌, ◌++◌, length, take, drop, get_or, set, slice_get, unwrap_or, Option, Some, None, refl, sym, ap, ◌∙◌, inl, inr, arith}
use Rattle.std.proofs.lemmas.Bool.{cases_eq, eqb-true, eq-eqb, ltb-true, ltb-false, ne_eqb}
use Rattle.std.proofs.lemmas.List.{drop_all, drop_more, get_or_past, length-append, length-set, take-append-drop}
use Rattle.std.proofs.lemmas.List.FromFn.{map-range_with_len_more}
use Rattle.std.proofs.lemmas.List.Sums.{sum_by-append, sum_by-cons}
use Rattle.std.proofs.lemmas.Option.{slice_get-get_or}
use Rattle.slab.specs.Slab.{Slab, Updates, get, slab_len}
use Rattle.rws_handles.specs.Prepared.{Prepared}
use Rattle.rws_handles.specs.Slots.{Slots, count, is_closed, is_crowded, next_number, statement_at, with_opened, with_opened_by}
use Rattle.rws_handles.specs.StatementsView.{AreGivenOut, AreListed, HasNoneBehind, IsVacant, given_out, places, slots_of, times}
use Rattle.rws_handles.proofs.SlotLemmas.{Changes, changes_end, changes_set, count_set, entry_at, listed_if, none_of, put_in, set_in, times_other, times_same, vacant_still}
use Rattle.rws_handles.proofs.PlaceLemmas.{behind_still, count_of_slab, length-places, places_kept, slots_set}

-- ---- a full table

crowded_parts : (slots : Slots) → is_crowded slots ≡ false → length slots.freed ≡ 0 → length slots.entries < 65536
crowded_parts slots room none = by (nat_lt (length slots.entries) 65536) refl room
  where
    by : (few : Bool) → nat_lt (length slots.entries) 65536 ≡ few → ((length slots.freed == 0) && not few) ≡ false → length slots.entries < 65536
    by true e room = ltb-true _ _ e
    by false e room = absurd (cc (eq-eqb (length slots.freed) 0 none, room))

pub crowded_is : (slots : Slots) → AreGivenOut slots → is_crowded slots ≡ (count slots == 65536)
crowded_is slots given = by (length slots.freed == 0) (nat_lt (length slots.entries) 65536) refl refl
  where
    by : (none few : Bool) → (length slots.freed == 0) ≡ none → nat_lt (length slots.entries) 65536 ≡ few → (none && not few) ≡ (count slots == 65536)
    by true true e f = sym (ne_eqb (count slots) 65536 (λ (same : count slots ≡ 65536). absurd (omega (arith, given.counted, ltb-true _ _ f))))
    by true false e f = sym (eq-eqb (count slots) 65536 (omega (arith, given.counted, given.few, eqb-true _ _ e, ltb-false _ _ f)))
    by false few e f =
        sym (ne_eqb (count slots) 65536 (λ (same : count slots ≡ 65536).
        let none : length slots.freed ≡ 0 = omega (arith, given.counted, given.few) in
        absurd (cc (eq-eqb (length slots.freed) 0 none, e))))

pub count_below : (slots : Slots) → AreGivenOut slots → is_crowded slots ≡ false → count slots < 65536
count_below slots given room =
    elim (cases_eq (length slots.freed) 0) [
      | inl none ↦ omega (arith, given.counted, crowded_parts slots room none)
      | inr some ↦ omega (arith, given.counted, given.few, some)
    ]

-- ---- the next number

-- the list of numbers is what stays of it, and the last
last_of : (freed : List ℕ) (other : ℕ) → 0 < length freed → freed ≡ take (length freed - 1) freed ++ unwrap_or (slice_get freed (length freed - 1)) other ∷ []
last_of freed other some =
    let at : ℕ = length freed - 1 in
    let within : at < length freed = omega arith in
    let end : drop (at + 1) freed ≡ [] = drop_all (at + 1) freed (omega arith) in
    let is : unwrap_or (slice_get freed at) other ≡ get_or freed at 0 = ap (λ (o : Option ℕ). unwrap_or o other) (slice_get-get_or freed at 0 within) in
    sym (take-append-drop at freed)
    ∙ ap (λ (rest : List ℕ). take at freed ++ rest) (drop_more freed at 0 within ∙ ap (λ (rest : List ℕ). get_or freed at 0 ∷ rest) end ∙ ap (λ (n : ℕ). n ∷ []) (sym is))

abbrev pub stays : List ℕ → List ℕ
stays freed = take (length freed - 1) freed

freed_is : (slots : Slots) → 0 < length slots.freed → slots.freed ≡ stays slots.freed ++ next_number slots ∷ []
freed_is slots some = last_of slots.freed (length slots.entries + 1) some

times_next : (slots : Slots) → 0 < length slots.freed → times (next_number slots) slots.freed ≡ times (next_number slots) (stays slots.freed) + 1
times_next slots some = ap (times (next_number slots)) (freed_is slots some) ∙ times_same (next_number slots) (stays slots.freed)

times_others : (slots : Slots) (m : ℕ) → 0 < length slots.freed → m ≢ next_number slots → times m slots.freed ≡ times m (stays slots.freed)
times_others slots m some apart = ap (times m) (freed_is slots some) ∙ times_other m (next_number slots) (stays slots.freed) apart

next_vacant : (slots : Slots) → AreGivenOut slots → 0 < length slots.freed → IsVacant slots (next_number slots)
next_vacant slots given some = given.vacant (next_number slots) (omega (arith, times_next slots some))

next_at_end : (slots : Slots) → slots.freed ≡ [] → next_number slots ≡ length slots.entries + 1
next_at_end slots none = ap (λ (freed : List ℕ). unwrap_or (slice_get freed (length freed - 1)) (length slots.entries + 1)) none

pub next_some : (slots : Slots) → AreGivenOut slots → 0 < next_number slots
next_some slots given = by slots.freed refl
  where
    by : (freed : List ℕ) → slots.freed ≡ freed → 0 < next_number slots
    by [] none = omega (arith, next_at_end slots none)
    by (first ∷ rest) some = (next_vacant slots given (omega (arith, ap (λ (freed : List ℕ). length freed) some))).some

-- no statement has it
pub next_is_free : (slots : Slots) → AreGivenOut slots → statement_at slots (next_number slots) ≡ None
next_is_free slots given = by slots.freed refl
  where
    by : (freed : List ℕ) → slots.freed ≡ freed → statement_at slots (next_number slots) ≡ None
    by [] none = ap (statement_at slots) (next_at_end slots none) ∙ entry_at slots (length slots.entries) ∙ get_or_past slots.entries (length slots.entries) None (omega arith)
    by (first ∷ rest) some = (next_vacant slots given (omega (arith, ap (λ (freed : List ℕ). length freed) some))).free

-- where none was given back, it follows the statements
pub next_by_count : (slots : Slots) → AreGivenOut slots → unwrap_or (slice_get slots.freed (length slots.freed - 1)) (count slots + 1) ≡ next_number slots
next_by_count slots given = by slots.freed refl
  where
    by : (freed : List ℕ) → slots.freed ≡ freed → unwrap_or (slice_get slots.freed (length slots.freed - 1)) (count slots + 1) ≡ next_number slots
    by [] none =
        let same : count slots + 1 ≡ length slots.entries + 1 = omega (arith, given.counted, ap (λ (freed : List ℕ). length freed) none) in
        ap (λ (freed : List ℕ). unwrap_or (slice_get freed (length freed - 1)) (count slots + 1)) none ∙ same ∙ sym (next_at_end slots none)
    by (first ∷ rest) some =
        let found = slice_get-get_or slots.freed (length slots.freed - 1) 0 (omega (arith, ap (λ (freed : List ℕ). length freed) some)) in
        ap (λ (o : Option ℕ). unwrap_or o (count slots + 1)) found ∙ sym (ap (λ (o : Option ℕ). unwrap_or o (length slots.entries + 1)) found)

-- ---- what an opening makes

opened_end : (slots : Slots) (statement : Prepared) → slots.freed ≡ [] → with_opened statement slots ≡ put_in slots (Some statement) []
opened_end slots statement none = ap (λ (freed : List ℕ). with_opened_by freed statement slots) none

opened_back : (slots : Slots) (statement : Prepared) (first : ℕ) (rest : List ℕ) → slots.freed ≡ first ∷ rest → with_opened statement slots ≡ set_in slots (next_number slots) (Some statement) (stays slots.freed)
opened_back slots statement first rest some = ap (λ (freed : List ℕ). with_opened_by freed statement slots) some

changes_opened : (slots : Slots) (statement : Prepared) → AreGivenOut slots → Changes slots (with_opened statement slots) (next_number slots) (Some statement)
changes_opened slots statement given = by slots.freed refl
  where
    by : (freed : List ℕ) → slots.freed ≡ freed → Changes slots (with_opened statement slots) (next_number slots) (Some statement)
    by [] none = rw (opened_end slots statement none, next_at_end slots none) (changes_end slots (Some statement) [])
    by (first ∷ rest) some =
        let vacant = next_vacant slots given (omega (arith, ap (λ (freed : List ℕ). length freed) some)) in
        rw (opened_back slots statement first rest some)
        (changes_set slots (next_number slots) (Some statement) (stays slots.freed) (λ (e : next_number slots ≡ 0). absurd (omega (arith, vacant.some))) (omega (arith, vacant.some, vacant.within)))

pub listed_opened : (slots : Slots) (closing : List ℕ) (statement : Prepared) → AreListed slots closing → AreGivenOut slots → statement.number ≡ next_number slots → statement.closed ≡ false → AreListed (with_opened statement slots) closing
listed_opened slots closing statement listed given has open_ =
    listed_if slots (with_opened statement slots) closing (next_number slots) (Some statement) listed (changes_opened slots statement given) has (open_ ∙ sym (ap is_closed (next_is_free slots given)))

given_end : (slots : Slots) (statement : Prepared) → AreGivenOut slots → slots.freed ≡ [] → length slots.entries < 65536 → AreGivenOut (put_in slots (Some statement) [])
given_end slots statement given none few =
    let size = length-append slots.entries (Some statement ∷ []) in
    let before : length slots.freed ≡ 0 = ap (λ (freed : List ℕ). length freed) none in
    record {
      vacant = λ m some. absurd (omega (arith, some));
      once = λ m. omega arith;
      counted = omega (arith, size, before, given.counted, sum_by-append (λ o. cond (is_some o) 1 0) slots.entries (Some statement ∷ []), sum_by-cons (λ o. cond (is_some o) 1 0) (Some statement) []);
      few = omega (arith, size, few);
    }

given_back : (slots : Slots) (statement : Prepared) → AreGivenOut slots → 0 < length slots.freed → AreGivenOut (set_in slots (next_number slots) (Some statement) (stays slots.freed))
given_back slots statement given some =
    let new : Slots = set_in slots (next_number slots) (Some statement) (stays slots.freed) in
    let vacant = next_vacant slots given some in
    let not_zero : next_number slots ≢ 0 = λ (e : next_number slots ≡ 0). absurd (omega (arith, vacant.some)) in
    let within : next_number slots - 1 < length slots.entries = omega (arith, vacant.some, vacant.within) in
    let changes : Changes slots new (next_number slots) (Some statement) = changes_set slots (next_number slots) (Some statement) (stays slots.freed) not_zero within in
    let size = length-set slots.entries (next_number slots - 1) (Some statement) in
    let fewer = length-append (stays slots.freed) (next_number slots ∷ []) in
    let same = ap (λ (freed : List ℕ). length freed) (freed_is slots some) in
    record {
      vacant = λ m stood. elim (cases_eq m (next_number slots)) [
        | inl is ↦ absurd (omega (arith, stood, ap (λ (n : ℕ). times n (stays slots.freed)) is, times_next slots some, given.once (next_number slots)))
        | inr apart ↦ vacant_still slots new (next_number slots) m (Some statement) changes (omega (arith, size)) apart (given.vacant m (omega (arith, stood, times_others slots m some apart)))
      ];
      once = λ m. elim (cases_eq m (next_number slots)) [
        | inl is ↦ omega (arith, ap (λ (n : ℕ). times n (stays slots.freed)) is, times_next slots some, given.once (next_number slots))
        | inr apart ↦ omega (arith, times_others slots m some apart, given.once m)
      ];
      counted = omega (arith, size, fewer, same, given.counted, count_set slots (next_number slots) (Some statement) not_zero within, none_of (statement_at slots (next_number slots)) vacant.free);
      few = omega (arith, size, given.few);
    }

pub given_opened : (slots : Slots) (statement : Prepared) → AreGivenOut slots → is_crowded slots ≡ false → AreGivenOut (with_opened statement slots)
given_opened slots statement given room = by slots.freed refl
  where
    by : (freed : List ℕ) → slots.freed ≡ freed → AreGivenOut (with_opened statement slots)
    by [] none = rw (opened_end slots statement none) (given_end slots statement given none (crowded_parts slots room (ap (λ (freed : List ℕ). length freed) none)))
    by (first ∷ rest) some = rw (opened_back slots statement first rest some) (given_back slots statement given (omega (arith, ap (λ (freed : List ℕ). length freed) some)))

-- ---- in the slab

key_at_end : (old : Slab Prepared) (freed : List ℕ) → freed ≡ [] → next_number (slots_of old freed) - 1 ≡ given_out old freed
key_at_end old freed none = omega (arith, next_at_end (slots_of old freed) none, length-places (given_out old freed) old)

key_within : (old : Slab Prepared) (freed : List ℕ) → AreGivenOut (slots_of old freed) → 0 < length freed → next_number (slots_of old freed) - 1 < given_out old freed
key_within old freed given some =
    let vacant = next_vacant (slots_of old freed) given some in
    omega (arith, vacant.some, vacant.within, length-places (given_out old freed) old)

pub record IsOpening (old new : Slab Prepared) (freed left : List ℕ) (statement : Prepared) : Type 0 where
  pub updates : Updates old new (next_number (slots_of old freed) - 1) (Some statement)
  pub more : slab_len new ≡ slab_len old + 1
  pub rest : left ≡ stays freed

size_at_end : (old new : Slab Prepared) (freed left : List ℕ) (statement : Prepared) → IsOpening old new freed left statement → freed ≡ [] → given_out new left ≡ given_out old freed + 1
size_at_end old new freed left statement opening none =
    let no_left : length left ≡ 0 = ap (λ (numbers : List ℕ). length numbers) (opening.rest ∙ ap stays none) in
    omega (arith, opening.more, no_left, ap (λ (numbers : List ℕ). length numbers) none)

size_back : (old new : Slab Prepared) (freed left : List ℕ) (statement : Prepared) → IsOpening old new freed left statement → 0 < length freed → given_out new left ≡ given_out old freed
size_back old new freed left statement opening some =
    omega (arith, opening.more, ap (λ (numbers : List ℕ). length numbers) opening.rest, length-append (stays freed) (next_number (slots_of old freed) ∷ []), ap (λ (numbers : List ℕ). length numbers) (freed_is (slots_of old freed) some))

opens_end : (old new : Slab Prepared) (freed left : List ℕ) (statement : Prepared) → IsOpening old new freed left statement → freed ≡ [] → slots_of new left ≡ put_in (slots_of old freed) (Some statement) []
opens_end old new freed left statement opening none =
    let size : ℕ = given_out old freed in
    let key = key_at_end old freed none in
    let same : places size new ≡ places size old = places_kept size old new (next_number (slots_of old freed) - 1) (Some statement) opening.updates (omega (arith, key)) in
    let last : get new size ≡ Some statement = ap (get new) (sym key) ∙ opening.updates.changed in
    ap (λ (n : ℕ). record { entries = places n new; freed = left }) (size_at_end old new freed left statement opening none)
    ∙ ap (λ (entries : List (Option Prepared)). record { entries = entries; freed = left }) (map-range_with_len_more (λ at. get new at) 0 size size (omega arith))
    ∙ rw (same, last, opening.rest, none) refl

pub opens : (old new : Slab Prepared) (freed left : List ℕ) (statement : Prepared) → AreGivenOut (slots_of old freed) → IsOpening old new freed left statement → slots_of new left ≡ with_opened statement (slots_of old freed)
opens old new freed left statement given opening = by freed refl
  where
    by : (f : List ℕ) → freed ≡ f → slots_of new left ≡ with_opened statement (slots_of old freed)
    by [] none = opens_end old new freed left statement opening none ∙ sym (opened_end (slots_of old freed) statement none)
    by (first ∷ rest) some =
        let any : 0 < length freed = omega (arith, ap (λ (numbers : List ℕ). length numbers) some) in
        slots_set old new freed left (next_number (slots_of old freed) - 1) (Some statement) opening.updates (key_within old freed given any) (size_back old new freed left statement opening any)
        ∙ ap (λ (numbers : List ℕ). record { entries = set (places (given_out old freed) old) (next_number (slots_of old freed) - 1) (Some statement); freed = numbers }) opening.rest
        ∙ sym (opened_back (slots_of old freed) statement first rest some)

pub behind_opened : (old new : Slab Prepared) (freed left : List ℕ) (statement : Prepared) → HasNoneBehind old freed → AreGivenOut (slots_of old freed) → IsOpening old new freed left statement → HasNoneBehind new left
behind_opened old new freed left statement behind given opening = by freed refl
  where
    by : (f : List ℕ) → freed ≡ f → HasNoneBehind new left
    by [] none = λ at past.
        let larger = size_at_end old new freed left statement opening none in
        let key = key_at_end old freed none in
        opening.updates.others at (λ (e : at ≡ next_number (slots_of old freed) - 1). absurd (omega (arith, past, larger, key, e))) ∙ behind at (omega (arith, past, larger))
    by (first ∷ rest) some =
        let any : 0 < length freed = omega (arith, ap (λ (numbers : List ℕ). length numbers) some) in
        behind_still old new freed left (next_number (slots_of old freed) - 1) (Some statement) behind opening.updates (key_within old freed given any) (size_back old new freed left statement opening any)

pub next_from_slab : (entries : Slab Prepared) (freed : List ℕ) (number : ℕ) → AreGivenOut (slots_of entries freed) → number ≡ unwrap_or (slice_get freed (length freed - 1)) (slab_len entries + 1) → number ≡ next_number (slots_of entries freed)
next_from_slab entries freed number given is =
    is ∙ ap (λ (n : ℕ). unwrap_or (slice_get freed (length freed - 1)) (n + 1)) (sym (count_of_slab entries freed given)) ∙ next_by_count (slots_of entries freed) given
