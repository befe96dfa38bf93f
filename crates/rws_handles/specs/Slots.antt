-- The statements of a session and the numbers that the client has for them.
use Rattle.std.specs.Prelude.{ℕ, ◌+◌, ◌-◌, Bool, false, not, ◌&&◌, nat_lt, if◌then◌else◌, ◌==◌, List, [], ◌∷◌, ◌++◌, length, take, slice_get, slice_index_or, slice_set, count_by, is_some, unwrap_or, Option, Some, None}
use Rattle.rws_handles.specs.Prepared.{Prepared}

pub record Slots : Type 0 where
  -- one place for each number that was ever given out: at the place n - 1 the statement of number n, None where it was given back
  pub entries : List (Option Prepared)
  -- the numbers that were given back and not given out again, the last one last
  pub freed : List ℕ

abbrev pub no_slots : Slots
no_slots = record { entries = []; freed = [] }

-- the statement of this number. None has the number 0
abbrev pub statement_at : Slots → ℕ → Option Prepared
statement_at slots number = if number == 0 then None else slice_index_or slots.entries (number - 1) None

-- how many statements there are
abbrev pub count : Slots → ℕ
count slots = count_by is_some slots.entries

-- the number of the next statement: the one given back last, else the first that was never given out
abbrev pub next_number : Slots → ℕ
next_number slots = unwrap_or (slice_get slots.freed (length slots.freed - 1)) (length slots.entries + 1)

-- no number is left to give out: 65,536 were given out, and none was given back
abbrev pub is_crowded : Slots → Bool
is_crowded slots = (length slots.freed == 0) && not (nat_lt (length slots.entries) 65536)

-- by the numbers that were given back
abbrev pub with_opened_by : List ℕ → Prepared → Slots → Slots
with_opened_by [] statement slots = record { entries = slots.entries ++ Some statement ∷ []; freed = [] }
with_opened_by (first ∷ rest) statement slots =
    record { entries = slice_set slots.entries (next_number slots - 1) (Some statement); freed = take (length slots.freed - 1) slots.freed }

-- a statement came under the next number
abbrev pub with_opened : Prepared → Slots → Slots
with_opened statement slots = with_opened_by slots.freed statement slots

-- another statement, or none, in the place of the one with this number
abbrev pub with_statement : Slots → ℕ → Option Prepared → Slots
with_statement slots number entry = record slots { entries = slice_set slots.entries (number - 1) entry }

abbrev pub changed_to : Slots → ℕ → (Prepared → Prepared) → Option Prepared → Slots
changed_to slots number change None = slots
changed_to slots number change (Some statement) = with_statement slots number (Some (change statement))

-- the statement of this number is changed so, if there is one
abbrev pub updated : (Prepared → Prepared) → ℕ → Slots → Slots
updated change number slots = changed_to slots number change (statement_at slots number)

-- the statement of this number leaves, if there is one, and its number is given back
abbrev pub without_statement : ℕ → Slots → Slots
without_statement number slots =
    if is_some (statement_at slots number) then record { entries = slice_set slots.entries (number - 1) None; freed = slots.freed ++ number ∷ [] }
    else slots

abbrev pub is_closed : Option Prepared → Bool
is_closed None = false
is_closed (Some statement) = statement.closed

abbrev pub closed_from : ℕ → List (Option Prepared) → List ℕ
closed_from number [] = []
closed_from number (entry ∷ entries) = if is_closed entry then number ∷ closed_from (number + 1) entries else closed_from (number + 1) entries

-- the numbers of the statements that were closed later, rising
abbrev pub closed_numbers : Slots → List ℕ
closed_numbers slots = closed_from 1 slots.entries

-- these leave, one after the other
abbrev pub without_all : List ℕ → Slots → Slots
without_all [] slots = slots
without_all (number ∷ numbers) slots = without_all numbers (without_statement number slots)
