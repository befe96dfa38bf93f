-- What a read brought.
use Rattle.std.specs.Prelude.{ℕ, ◌≤◌, ⊤}
use Rattle.rws_mio.specs.declared.peer.Heard.{Heard}
use Rattle.rws_mio.specs.declared.peer.Heard.TheVariants.{Bytes, Nothing, Finish}

-- as many bytes as a buffer of this length has room for
abbrev pub IsWithin : ℕ → Heard → Type 0
IsWithin size (Bytes count) = count ≤ size
IsWithin size Nothing = ⊤
IsWithin size Finish = ⊤
