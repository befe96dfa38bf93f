-- Counts of faults. A count never falls, and at the greatest u64 it stays.
use Rattle.std.specs.Prelude.{ℕ, ◌+◌, ◌-◌, ◌^◌, ◌≤◌, min}

-- the count after one more fault
abbrev pub one_more : ℕ → ℕ
one_more count = min (count + 1) (2 ^ 64 - 1)

-- the count rose, or it stands at the greatest u64
abbrev pub Rises : ℕ → ℕ → Type 0
Rises before after = one_more before ≤ after
