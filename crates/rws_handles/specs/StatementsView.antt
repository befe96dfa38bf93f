-- What a `Statements` stands for, and what is true of its fields.
use Rattle.std.specs.Prelude.{◌≡◌, ℕ, ◌+◌, ◌<◌, ◌≤◌, ◌==◌, if◌then◌else◌, List, length, map, count_by, vec_len, Option, Some, None}
use Rattle.std.specs.List.{range_with_len}
use Rattle.std.specs.Vec.{vec_capacity}
use Rattle.slab.specs.Slab.{Slab, get, slab_len}
use Rattle.rws_handles.specs.declared.statements.Statements.TheInside.{Inside}
use Rattle.rws_handles.specs.Prepared.{Prepared}
use Rattle.rws_handles.specs.Slots.{Slots, count, is_closed, statement_at}

-- the first places of a slab
abbrev pub places : ℕ → Slab Prepared → List (Option Prepared)
places size entries = map (λ at. get entries at) (range_with_len 0 size)

-- how many numbers were given out: those of the statements, and those that were given back
abbrev pub given_out : Slab Prepared → List ℕ → ℕ
given_out entries freed = slab_len entries + length freed

-- how many places a slab has is its own affair; those of the numbers that were given out count
abbrev pub slots_of : Slab Prepared → List ℕ → Slots
slots_of entries freed = record { entries = places (given_out entries freed) entries; freed = freed }

-- no statement stands behind the places of the numbers that were given out
abbrev pub HasNoneBehind : Slab Prepared → List ℕ → Type 0
HasNoneBehind entries freed = (at : ℕ) → given_out entries freed ≤ at → get entries at ≡ None

abbrev pub statements_view : Inside → Slots
statements_view s = slots_of s.entries s.freed.items

-- how often the number stands there
abbrev pub times : ℕ → List ℕ → ℕ
times number numbers = count_by (λ other. other == number) numbers

abbrev pub once_if_closed : Option Prepared → ℕ
once_if_closed entry = if is_closed entry then 1 else 0

abbrev pub HasNumber : ℕ → Option Prepared → Type 0
HasNumber number None = Unit {0}
HasNumber number (Some statement) = statement.number ≡ number

-- each statement knows its number, and those closed later are listed, each once
pub record AreListed (slots : Slots) (closing : List ℕ) : Type 0 where
  pub numbered : (number : ℕ) → HasNumber number (statement_at slots number)
  pub listed : (number : ℕ) → times number closing ≡ once_if_closed (statement_at slots number)
  pub counted : length closing ≡ count_by is_closed slots.entries

-- the number was given out and names no statement
pub record IsVacant (slots : Slots) (number : ℕ) : Type 0 where
  pub some : 0 < number
  pub within : number ≤ length slots.entries
  pub free : statement_at slots number ≡ None

-- the numbers that were given back are vacant, none stands twice, and at most 65,536 were given out
pub record AreGivenOut (slots : Slots) : Type 0 where
  pub vacant : (number : ℕ) → 0 < times number slots.freed → IsVacant slots number
  pub once : (number : ℕ) → times number slots.freed ≤ 1
  pub counted : count slots + length slots.freed ≡ length slots.entries
  pub few : length slots.entries ≤ 65536

-- there is room to give each number back, and to list each statement as closed
pub record IsStatements (s : Inside) : Type 0 where
  pub listed : AreListed (statements_view s) s.closing.items
  pub given : AreGivenOut (statements_view s)
  pub behind : HasNoneBehind s.entries s.freed.items
  pub freed_room : slab_len s.entries + vec_len s.freed ≤ vec_capacity s.freed
  pub closing_room : slab_len s.entries ≤ vec_capacity s.closing
