-- Addresses, as the settings write them.
use Rattle.std.specs.Prelude.{◌≡◌, ℕ, ◌≤◌, ◌==◌, ◌||◌, ◌&&◌, not, nat_le, Bool, false, List, ◌∷◌, ◌++◌, slice_index}
use Rattle.std.specs.List.{list_any, after_first}
use Rattle.std.specs.Fmt.{decimal}
use Rattle.std.specs.Str.{all_ascii_digits}
use Rattle.std.specs.Str.Parse.{digits_value}

-- `host:port`: the host has neither a space nor a colon and may be empty, the port has no leading zero
pub record IsAddress (text : List ℕ) : Type 0 where
  pub host : List ℕ
  pub port : ℕ
  pub spelled : text ≡ host ++ (58 ∷ decimal port)
  pub plain : list_any (λ byte. (byte == 32) || (byte == 58)) host ≡ false
  pub least : 1 ≤ port
  pub most : port ≤ 65535

-- whether it is the text of a port: it begins with a digit from 1 to 9, and all that follow are digits
abbrev pub is_port : List ℕ → Bool
is_port text = (nat_le 49 (slice_index text 0) && all_ascii_digits text) && nat_le (digits_value 10 text) 65535

-- the same as `IsAddress`, as a test: no space, and a port behind the first colon
abbrev pub is_address : List ℕ → Bool
is_address text = not (list_any (λ byte. byte == 32) text) && is_port (after_first (λ byte. byte == 58) text)
