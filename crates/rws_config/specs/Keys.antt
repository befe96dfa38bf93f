-- The keys of a settings file, which is a TOML document, and what may stand at them.
use Rattle.std.specs.Prelude.{ℕ, ◌&&◌, ◌||◌, ◌==◌, not, nat_le, Bool, true, false, List, [], ◌∷◌, length, codes, pos, Option, None, Some, is_some, is_ok, if◌then◌else◌}
use Rattle.std.specs.List.{list_any, list_all}
use Rattle.std.specs.Str.{bytes_eq}
use Rattle.hex.specs.Hex.{decode_sized}
use Rattle.toml.specs.Data.{Data, string, integer, boolean, array, Items, no_items, item, as_table}
use Rattle.rws_wire.specs.declared.mode.Mode.{Mode}
use Rattle.rws_wire.specs.declared.mode.Mode.TheVariants as mode
use Rattle.rws_config.specs.declared.limits.Limit.{Limit}
use Rattle.rws_config.specs.declared.limits.TheConstants.{VERSION, CAUSAL_TIMEOUT_S, PRIMARY_WAIT_MS, REPLAY_MS, REPLAY_ATTEMPTS, REPLAY_BYTES, HISTORY_LIMIT, SESSIONS, COMMAND_BYTES, MONITOR_MS, GTID_DOMAIN, MOST_LISTEN}
use Rattle.rws_config.specs.declared.keys.Key.{Key}
use Rattle.rws_config.specs.declared.keys.Kind.{Kind}
use Rattle.rws_config.specs.declared.keys.Kind.TheVariants.{Number, Switch, ModeName, Text, Login, Address, Addresses, Stored, Tables}
use Rattle.rws_config.specs.Address.{is_address}

-- the values of an array
abbrev pub list_of : Items → List Data
list_of no_items = []
list_of (item value values) = value ∷ list_of values

abbrev pub is_within : Limit → ℕ → Bool
is_within limit n = nat_le limit.least n && nat_le n limit.most

abbrev pub mode_named : List ℕ → Option Mode
mode_named name =
    if bytes_eq name (codes "none") then Some mode.Nothing
    else if bytes_eq name (codes "local") then Some mode.Local
    else if bytes_eq name (codes "global") then Some mode.Global
    else None

-- empty, or 40 hex digits in either case
abbrev pub is_stored : List ℕ → Bool
is_stored text = (length text == 0) || is_ok (decode_sized text 20)

abbrev pub is_address_text : Data → Bool
is_address_text (string text) = is_address text
is_address_text _ = false

abbrev pub is_table : Data → Bool
is_table value = is_some (as_table value)

-- the values that may stand at a key
abbrev pub fits : Kind → Data → Bool
fits (Number limit) (integer (pos n)) = is_within limit n
fits Switch (boolean b) = true
fits ModeName (string text) = is_some (mode_named text)
fits Text (string text) = true
fits Login (string text) = not (list_any (λ byte. byte == 0) text)
fits Address (string text) = is_address text
fits Stored (string text) = is_stored text
fits Addresses (array values) = (nat_le 1 (length (list_of values)) && nat_le (length (list_of values)) MOST_LISTEN) && list_all is_address_text (list_of values)
fits Tables (array values) = nat_le 1 (length (list_of values)) && list_all is_table (list_of values)
fits _ _ = false

pub record Entry : Type 0 where
  pub name : List ℕ
  pub kind : Kind
  pub required : Bool

abbrev pub required : List ℕ → Kind → Entry
required name kind = record { name = name; kind = kind; required = true }

abbrev pub optional : List ℕ → Kind → Entry
optional name kind = record { name = name; kind = kind; required = false }

-- the keys at the top
unfoldable pub top_keys : List Entry
top_keys = required (codes "version") (Number VERSION)
    ∷ optional (codes "listen") Addresses
    ∷ optional (codes "causal_reads") ModeName
    ∷ optional (codes "causal_timeout_s") (Number CAUSAL_TIMEOUT_S)
    ∷ optional (codes "primary_wait_ms") (Number PRIMARY_WAIT_MS)
    ∷ optional (codes "replay_ms") (Number REPLAY_MS)
    ∷ optional (codes "replay_attempts") (Number REPLAY_ATTEMPTS)
    ∷ optional (codes "replay_bytes") (Number REPLAY_BYTES)
    ∷ optional (codes "history_limit") (Number HISTORY_LIMIT)
    ∷ optional (codes "sessions") (Number SESSIONS)
    ∷ optional (codes "command_bytes") (Number COMMAND_BYTES)
    ∷ optional (codes "monitor_ms") (Number MONITOR_MS)
    ∷ optional (codes "transaction_replay") Switch
    ∷ optional (codes "gtid_domain") (Number GTID_DOMAIN)
    ∷ optional (codes "monitor_user") Login
    ∷ optional (codes "monitor_password") Login
    ∷ required (codes "server") Tables
    ∷ required (codes "account") Tables
    ∷ []

-- the keys of a table of `server`
unfoldable pub server_keys : List Entry
server_keys = required (codes "name") Text
    ∷ required (codes "address") Address
    ∷ optional (codes "maintenance") Switch
    ∷ []

-- the keys of a table of `account`
unfoldable pub account_keys : List Entry
account_keys = required (codes "user") Login
    ∷ required (codes "password") Stored
    ∷ []

-- an entry of the program's tables
abbrev pub entry_of : Key → Entry
entry_of key = record { name = key.name.now; kind = key.kind; required = key.required }
