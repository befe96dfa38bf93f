-- Bytes on their way to a socket.
use Rattle.std.specs.Prelude.{ℕ, ◌*◌, Bool, List, length, nat_lt}

-- how many bytes may wait for a socket before those that cause more of them aren't read: 1 MiB
abbrev pub room : ℕ
room = 1024 * 1024

-- more of them wait than there is room for
abbrev pub is_full : List ℕ → Bool
is_full unsent = nat_lt room (length unsent)
