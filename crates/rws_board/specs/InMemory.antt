-- A source and a sink in memory, as contracts see them.
use Rattle.std.specs.Prelude.{ℕ, List}

-- `left`: the bytes still to be read; `fails`: the numbers, from 0, of the calls that are to fail; `calls`: how
-- many calls were made; `faults`: how many of them failed
pub record Supply : Type 0 where
  pub left : List ℕ
  pub fails : List ℕ
  pub calls : ℕ
  pub faults : ℕ

-- `taken`: the bytes taken; `room`: how many may be taken in all; `fails`: the numbers, from 0, of the calls
-- that are to fail, room or not; `calls`: how many calls were made; `faults`: how many of them failed
pub record Store : Type 0 where
  pub taken : List ℕ
  pub room : ℕ
  pub fails : List ℕ
  pub calls : ℕ
  pub faults : ℕ
