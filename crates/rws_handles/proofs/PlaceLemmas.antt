-- The slab's places of the numbers that were given out.
use Rattle.std.proofs.Common.{◌≡◌, ◌≢◌, ℕ, ◌+◌, ◌-◌, ◌<◌, ◌≤◌, Bool, true, false, cond, nat_lt, is_some, IsSome, List, [], ◌∷◌, ◌++◌, length, get_or, set, Option, Some, None, Result, Ok, Err, count_by, vec_len, vec_capacity, OnSome, OnOk, IfNone, refl, sym, ap, subst, ◌∙◌, inl, inr, arith}
use Rattle.std.proofs.lemmas.Bool.{cases_eq, ltb-true, ltb-false}
use Rattle.std.proofs.lemmas.List.{ext_get_or, get_or-set_other, get_or-set_same, get_or_past, length-append, length-set, set-get_or}
use Rattle.std.proofs.lemmas.List.FromFn.{get_or-map-range_with_len, length-map-range_with_len}
use Rattle.std.proofs.lemmas.List.Sums.{sum_by-set}
use Rattle.slab.specs.Slab.{Slab, Updates, get, slab_len, with_value}
use Rattle.slab.proofs.SlabLemmas.{ContainsKey-within, Updates-with_value}
use Rattle.rws_handles.specs.declared.statements.Statements.TheInside.{Inside}
use Rattle.rws_handles.specs.declared.fault.ExecuteFault.{ExecuteFault}
use Rattle.rws_handles.specs.declared.fault.ExecuteFault.TheVariants.{UnknownHandle, CursorAsked, BadExecute, OutOfMemory}
use Rattle.rws_handles.specs.Answers.{Takes}
use Rattle.rws_handles.specs.PlainForm.{plain_form, spelled}
use Rattle.rws_handles.specs.Prepared.{IsSame, Prepared, closed_later, executed}
use Rattle.rws_handles.specs.Slots.{Slots, count, is_closed, statement_at, updated, with_statement, without_statement}
use Rattle.rws_handles.specs.Table.{plain_if_open}
use Rattle.rws_handles.specs.StatementsView.{AreGivenOut, AreListed, HasNoneBehind, IsStatements, given_out, places, slots_of, statements_view}
use Rattle.rws_handles.proofs.SlotLemmas.{changes_set, found_within, given_set, listed_if, not_there, number_of_found, taken_out, value_at}

pub length-places : (size : ℕ) (entries : Slab Prepared) → length (places size entries) ≡ size
length-places size entries = length-map-range_with_len (λ at. get entries at) 0 size

pub place_within : (size : ℕ) (entries : Slab Prepared) (at : ℕ) → at < size → get_or (places size entries) at None ≡ get entries at
place_within size entries at within = get_or-map-range_with_len (λ at. get entries at) 0 size at at None within (omega arith)

-- where none stands behind, each place is the slab's
pub place_of_slab : (entries : Slab Prepared) (freed : List ℕ) → HasNoneBehind entries freed → (at : ℕ) → get_or (places (given_out entries freed) entries) at None ≡ get entries at
place_of_slab entries freed behind at = by (nat_lt at (given_out entries freed)) refl
  where
    by : (within : Bool) → nat_lt at (given_out entries freed) ≡ within → get_or (places (given_out entries freed) entries) at None ≡ get entries at
    by true e = place_within (given_out entries freed) entries at (ltb-true _ _ e)
    by false e =
        let past : given_out entries freed ≤ at = ltb-false _ _ e in
        get_or_past (places (given_out entries freed) entries) at None (omega (arith, length-places (given_out entries freed) entries)) ∙ sym (behind at past)

pub statement_of_slab : (entries : Slab Prepared) (freed : List ℕ) (number : ℕ) → HasNoneBehind entries freed → number ≢ 0 → statement_at (slots_of entries freed) number ≡ get entries (number - 1)
statement_of_slab entries freed number behind some = value_at (slots_of entries freed) number some ∙ place_of_slab entries freed behind (number - 1)

-- ---- a change of one place

pub places_set : (size : ℕ) (old new : Slab Prepared) (key : ℕ) (entry : Option Prepared) → Updates old new key entry → key < size → places size new ≡ set (places size old) key entry
places_set size old new key entry updates within =
    ext_get_or None (places size new) (set (places size old) key entry) (length-places size new ∙ sym (length-set (places size old) key entry ∙ length-places size old))
    (λ i lt.
    let small : i < size = omega (arith, lt, length-places size new) in
    elim (cases_eq i key) [
      | inl is ↦
          place_within size new i small ∙ ap (get new) is ∙ updates.changed
          ∙ sym (get_or-set_same (places size old) key entry None (omega (arith, within, length-places size old))) ∙ sym (ap (λ (k : ℕ). get_or (set (places size old) key entry) k None) is)
      | inr apart ↦
          place_within size new i small ∙ updates.others i apart ∙ sym (place_within size old i small) ∙ sym (get_or-set_other (places size old) key i entry None apart)
    ])

pub places_kept : (size : ℕ) (old new : Slab Prepared) (key : ℕ) (entry : Option Prepared) → Updates old new key entry → size ≤ key → places size new ≡ places size old
places_kept size old new key entry updates past =
    ext_get_or None (places size new) (places size old) (length-places size new ∙ sym (length-places size old))
    (λ i lt.
    let small : i < size = omega (arith, lt, length-places size new) in
    let apart : i ≢ key = λ (e : i ≡ key). absurd (omega arith) in
    place_within size new i small ∙ updates.others i apart ∙ sym (place_within size old i small))

pub slots_set : (old new : Slab Prepared) (freed given : List ℕ) (key : ℕ) (entry : Option Prepared) → Updates old new key entry → key < given_out old freed → given_out new given ≡ given_out old freed
    → slots_of new given ≡ record { entries = set (places (given_out old freed) old) key entry; freed = given }
slots_set old new freed given key entry updates within same =
    ap (λ (size : ℕ). record { entries = places size new; freed = given }) same
    ∙ ap (λ (entries : List (Option Prepared)). record { entries = entries; freed = given }) (places_set (given_out old freed) old new key entry updates within)

pub behind_still : (old new : Slab Prepared) (freed given : List ℕ) (key : ℕ) (entry : Option Prepared) → HasNoneBehind old freed → Updates old new key entry → key < given_out old freed → given_out new given ≡ given_out old freed → HasNoneBehind new given
behind_still old new freed given key entry behind updates within same at past =
    let apart : at ≢ key = λ (e : at ≡ key). absurd (omega (arith, past, within, same, e)) in
    updates.others at apart ∙ behind at (omega (arith, past, same))

-- ---- a statement is written

present : (entries : Slab Prepared) (key : ℕ) (was : Prepared) → get entries key ≡ Some was → IsSome (get entries key)
present entries key was found = subst (λ (o : Option Prepared). IsSome o) (sym found) refl

pub len-with_value : (entries : Slab Prepared) (key : ℕ) (was statement : Prepared) → get entries key ≡ Some was → slab_len (with_value entries key statement) ≡ slab_len entries
len-with_value entries key was statement found =
    let within : key < length entries.slots = ContainsKey-within entries key (present entries key was found) in
    let one : cond {A = ℕ} (is_some (get_or entries.slots key None)) 1 0 ≡ 1 = ap (λ (o : Option Prepared). cond {A = ℕ} (is_some o) 1 0) found in
    omega (arith, sum_by-set (λ o. cond (is_some o) 1 0) entries.slots key (Some statement) None within)

pub found_at : (entries : Slab Prepared) (freed : List ℕ) (number : ℕ) (was : Prepared) → HasNoneBehind entries freed → number ≢ 0 → get entries (number - 1) ≡ Some was → statement_at (slots_of entries freed) number ≡ Some was
found_at entries freed number was behind some found = statement_of_slab entries freed number behind some ∙ found

key_within : (entries : Slab Prepared) (freed : List ℕ) (number : ℕ) (was : Prepared) → HasNoneBehind entries freed → number ≢ 0 → get entries (number - 1) ≡ Some was → number - 1 < given_out entries freed
key_within entries freed number was behind some found =
    omega (arith, found_within number (slots_of entries freed) was (found_at entries freed number was behind some found), length-places (given_out entries freed) entries)

pub written : (entries : Slab Prepared) (freed : List ℕ) (number : ℕ) (was statement : Prepared) → HasNoneBehind entries freed → number ≢ 0 → get entries (number - 1) ≡ Some was
    → slots_of (with_value entries (number - 1) statement) freed ≡ with_statement (slots_of entries freed) number (Some statement)
written entries freed number was statement behind some found =
    slots_set entries (with_value entries (number - 1) statement) freed freed (number - 1) (Some statement)
    (Updates-with_value entries (number - 1) statement (present entries (number - 1) was found))
    (key_within entries freed number was behind some found)
    (ap (λ (n : ℕ). n + length freed) (len-with_value entries (number - 1) was statement found))

pub behind_written : (entries : Slab Prepared) (freed : List ℕ) (number : ℕ) (was statement : Prepared) → HasNoneBehind entries freed → number ≢ 0 → get entries (number - 1) ≡ Some was → HasNoneBehind (with_value entries (number - 1) statement) freed
behind_written entries freed number was statement behind some found =
    behind_still entries (with_value entries (number - 1) statement) freed freed (number - 1) (Some statement) behind
    (Updates-with_value entries (number - 1) statement (present entries (number - 1) was found))
    (key_within entries freed number was behind some found)
    (ap (λ (n : ℕ). n + length freed) (len-with_value entries (number - 1) was statement found))

-- the statement of the number is changed so
pub updated_is : (entries : Slab Prepared) (freed : List ℕ) (number : ℕ) (was statement : Prepared) (change : Prepared → Prepared) → HasNoneBehind entries freed → number ≢ 0 → get entries (number - 1) ≡ Some was → statement ≡ change was
    → slots_of (with_value entries (number - 1) statement) freed ≡ updated change number (slots_of entries freed)
updated_is entries freed number was statement change behind some found is =
    written entries freed number was statement behind some found ∙ rw (found_at entries freed number was behind some found, is) refl

pub updated_none : (entries : Slab Prepared) (freed : List ℕ) (number : ℕ) (change : Prepared → Prepared) → HasNoneBehind entries freed → number ≢ 0 → get entries (number - 1) ≡ None → slots_of entries freed ≡ updated change number (slots_of entries freed)
updated_none entries freed number change behind some none = rw (statement_of_slab entries freed number behind some ∙ none) refl

-- one that is closed is closed again
pub closed_again : (statement : Prepared) → statement.closed ≡ true → statement ≡ closed_later statement
closed_again statement closed = ap (λ (now : Bool). record statement { closed = now }) closed

same_again : (entries : Slab Prepared) (key : ℕ) (was : Prepared) → get entries key ≡ Some was → with_value entries key was ≡ entries
same_again entries key was found =
    ap (λ (slots : List (Option Prepared)). record entries { slots = slots }) (ap (λ (o : Option Prepared). set entries.slots key o) (sym found) ∙ set-get_or entries.slots key None)

pub ok_any : {T E P : Type 0} (result : Result T E) → P → OnOk result P
ok_any (Ok x) is = is
ok_any (Err x) is = tt

-- an execute of a statement, seen from all of them
pub takes_in : (entries : Slab Prepared) (freed : List ℕ) (number : ℕ) (was statement : Prepared) (payload : List ℕ) (result : Result (List (List ℕ)) ExecuteFault)
    → HasNoneBehind entries freed → number ≢ 0 → get entries (number - 1) ≡ Some was → was.number ≡ number
    → Takes (plain_form was payload) was.number (λ plain. executed plain.types was) was statement result
    → Takes (plain_if_open (statement_at (slots_of entries freed) number) payload) number (λ plain. updated (executed plain.types) number (slots_of entries freed)) (slots_of entries freed) (slots_of (with_value entries (number - 1) statement) freed) result
takes_in entries freed number was statement payload result behind some found has takes = by result takes
  where
    reads : plain_if_open (statement_at (slots_of entries freed) number) payload ≡ plain_form was payload
    reads = ap (λ (o : Option Prepared). plain_if_open o payload) (found_at entries freed number was behind some found)

    same : statement ≡ was → slots_of (with_value entries (number - 1) statement) freed ≡ slots_of entries freed
    same is = ap (λ (s : Prepared). slots_of (with_value entries (number - 1) s) freed) is ∙ ap (λ (e : Slab Prepared). slots_of e freed) (same_again entries (number - 1) was found)

    by : (result : Result (List (List ℕ)) ExecuteFault) → Takes (plain_form was payload) was.number (λ plain. executed plain.types was) was statement result
        → Takes (plain_if_open (statement_at (slots_of entries freed) number) payload) number (λ plain. updated (executed plain.types) number (slots_of entries freed)) (slots_of entries freed) (slots_of (with_value entries (number - 1) statement) freed) result
    by (Ok kept) (plain, read, spells, is) =
        (plain, reads ∙ read, spells ∙ ap (λ (n : ℕ). spelled n plain) has, updated_is entries freed number was statement (executed plain.types) behind some found is)
    by (Err UnknownHandle) (read, is) = (reads ∙ read, same is)
    by (Err CursorAsked) (read, is) = (reads ∙ read, same is)
    by (Err BadExecute) (read, is) = (reads ∙ read, same is)
    by (Err OutOfMemory) (read, is) = (rw reads read, same is)

-- a statement that stays the same one is written
pub statements_kept : (s : Inside) (number : ℕ) (was statement : Prepared) → IsStatements s → number ≢ 0 → get s.entries (number - 1) ≡ Some was → IsSame was statement
    → IsStatements (record s { entries = with_value s.entries (number - 1) statement })
statements_kept s number was statement is some found same =
    let slots : Slots = statements_view s in
    let at = found_at s.entries s.freed.items number was is.behind some found in
    let len = len-with_value s.entries (number - 1) was statement found in
    let new = sym (written s.entries s.freed.items number was statement is.behind some found) in
    record {
      listed = subst (λ (slots : Slots). AreListed slots s.closing.items) new (listed_if slots (with_statement slots number (Some statement)) s.closing.items number (Some statement) is.listed
          (changes_set slots number (Some statement) slots.freed some (found_within number slots was at))
          (same.number ∙ number_of_found slots s.closing.items number was is.listed at) (same.closed ∙ sym (ap is_closed at)));
      given = subst (λ (slots : Slots). AreGivenOut slots) new (given_set slots number was statement is.given at);
      behind = behind_written s.entries s.freed.items number was statement is.behind some found;
      freed_room = omega (arith, len, is.freed_room);
      closing_room = omega (arith, len, is.closing_room);
    }

-- ---- a statement leaves

pub removed : (old new : Slab Prepared) (freed : List ℕ) (number : ℕ) (found : Option Prepared) → HasNoneBehind old freed → number ≢ 0 → found ≡ get old (number - 1) → is_some found ≡ true → Updates old new (number - 1) None → OnSome found (slab_len new + 1 ≡ slab_len old)
    → slots_of new (freed ++ number ∷ []) ≡ without_statement number (slots_of old freed)
removed old new freed number None behind some found there updates fewer = absurd cc
removed old new freed number (Some was) behind some found there updates fewer =
    slots_set old new freed (freed ++ number ∷ []) (number - 1) None updates (key_within old freed number was behind some (sym found)) (omega (arith, fewer, length-append freed (number ∷ [])))
    ∙ sym (taken_out number (slots_of old freed) was (found_at old freed number was behind some (sym found)))

pub removed_none : (old new : Slab Prepared) (freed : List ℕ) (number : ℕ) (found : Option Prepared) → HasNoneBehind old freed → number ≢ 0 → found ≡ get old (number - 1) → is_some found ≡ false → IfNone found (new ≡ old)
    → slots_of new freed ≡ without_statement number (slots_of old freed)
removed_none old new freed number None behind some found there same =
    ap (λ (entries : Slab Prepared). slots_of entries freed) same ∙ sym (not_there number (slots_of old freed) (statement_of_slab old freed number behind some ∙ sym found))
removed_none old new freed number (Some was) behind some found there same = absurd cc

-- ---- how many

pub count_of_slab : (entries : Slab Prepared) (freed : List ℕ) → AreGivenOut (slots_of entries freed) → count (slots_of entries freed) ≡ slab_len entries
count_of_slab entries freed given = omega (arith, given.counted, length-places (given_out entries freed) entries)

-- the same slots and lists, with more room
pub statements_again : (s t : Inside) → IsStatements s → t.entries.slots ≡ s.entries.slots → t.freed.items ≡ s.freed.items → t.closing.items ≡ s.closing.items
    → slab_len s.entries + vec_len t.freed ≤ vec_capacity t.freed → slab_len s.entries ≤ vec_capacity t.closing → IsStatements t
statements_again s t is slots freed closing freed_room closing_room =
    let view : statements_view t ≡ statements_view s = ap (λ (entries : List (Option Prepared)). statements_view (record t { entries = record t.entries { slots = entries } })) slots
    ∙ ap (λ (numbers : List ℕ). slots_of (record t.entries { slots = s.entries.slots }) numbers) freed in
    let size : slab_len t.entries ≡ slab_len s.entries = ap (λ (entries : List (Option Prepared)). count_by is_some entries) slots in
    record {
      listed = rw (view, closing) is.listed;
      given = rw view is.given;
      behind = λ at past. ap (λ (entries : List (Option Prepared)). get_or entries at None) slots ∙ is.behind at (omega (arith, past, size, ap (λ (numbers : List ℕ). length numbers) freed));
      freed_room = omega (arith, size, freed_room);
      closing_room = omega (arith, size, closing_room);
    }
