-- What the values of a settings file mean.
use Rattle.std.specs.Prelude.{ℕ, Bool, true, false, List, [], map, codes, pos, Option, None, Some, option_map, option_and_then, if◌then◌else◌}
use Rattle.std.specs.Option.{unwrap_or}
use Rattle.std.specs.Result.{result_ok}
use Rattle.std.specs.List.{filter_map}
use Rattle.hex.specs.Hex.{decode_sized}
use Rattle.toml.specs.Data.{Data, integer, as_str, as_bool, as_array, as_table, Members, get_member}
use Rattle.rws_wire.specs.declared.mode.Mode.{Mode}
use Rattle.rws_wire.specs.declared.mode.Mode.TheVariants.{Global}
use Rattle.rws_config.specs.declared.limits.Limit.{Limit}
use Rattle.rws_config.specs.declared.limits.TheConstants.{VERSION, CAUSAL_TIMEOUT_S, PRIMARY_WAIT_MS, REPLAY_MS, REPLAY_ATTEMPTS, REPLAY_BYTES, HISTORY_LIMIT, SESSIONS, COMMAND_BYTES, MONITOR_MS, GTID_DOMAIN}
use Rattle.rws_config.specs.declared.config.Config.{Config}
use Rattle.rws_config.specs.declared.server.Server.{Server}
use Rattle.rws_config.specs.declared.account.Account.{Account}
use Rattle.rws_config.specs.BuiltIn.{built_in}
use Rattle.rws_config.specs.Keys.{list_of, is_within, mode_named}

-- a number within the limit
abbrev pub number_in : Limit → Data → Option ℕ
number_in limit (integer (pos n)) = if is_within limit n then Some n else None
number_in limit _ = None

-- each with its default
abbrev pub number_at : Limit → List ℕ → Members → ℕ
number_at limit key table = unwrap_or (option_and_then (number_in limit) (get_member key table)) limit.default

abbrev pub switch_at : Bool → List ℕ → Members → Bool
switch_at default key table = unwrap_or (option_and_then as_bool (get_member key table)) default

abbrev pub text_at : List ℕ → List ℕ → Members → List ℕ
text_at default key table = unwrap_or (option_and_then as_str (get_member key table)) default

abbrev pub mode_at : Mode → List ℕ → Members → Mode
mode_at default key table = unwrap_or (option_and_then mode_named (option_and_then as_str (get_member key table))) default

abbrev pub texts_at : List (List ℕ) → List ℕ → Members → List (List ℕ)
texts_at default key table = unwrap_or (option_map (λ values. filter_map as_str (list_of values)) (option_and_then as_array (get_member key table))) default

abbrev pub tables_at : List ℕ → Members → List Members
tables_at key table = unwrap_or (option_map (λ values. filter_map as_table (list_of values)) (option_and_then as_array (get_member key table))) []

abbrev pub server_of : Members → Server
server_of table = record {
  name = text_at [] (codes "name") table;
  address = text_at [] (codes "address") table;
  maintenance = switch_at false (codes "maintenance") table;
}

-- an empty password has no stored value
abbrev pub account_of : Members → Account
account_of table = record {
  user = text_at [] (codes "user") table;
  stored = result_ok (decode_sized (text_at [] (codes "password") table) 20);
}

-- the settings of a file in which each key is known, no required one is missing, and each value fits
abbrev pub config_of : Members → Config
config_of file = record {
  version = number_at VERSION (codes "version") file;
  listen = texts_at built_in.listen (codes "listen") file;
  causal_reads = mode_at Global (codes "causal_reads") file;
  causal_timeout_s = number_at CAUSAL_TIMEOUT_S (codes "causal_timeout_s") file;
  primary_wait_ms = number_at PRIMARY_WAIT_MS (codes "primary_wait_ms") file;
  replay_ms = number_at REPLAY_MS (codes "replay_ms") file;
  replay_attempts = number_at REPLAY_ATTEMPTS (codes "replay_attempts") file;
  replay_bytes = number_at REPLAY_BYTES (codes "replay_bytes") file;
  history_limit = number_at HISTORY_LIMIT (codes "history_limit") file;
  sessions = number_at SESSIONS (codes "sessions") file;
  command_bytes = number_at COMMAND_BYTES (codes "command_bytes") file;
  monitor_ms = number_at MONITOR_MS (codes "monitor_ms") file;
  transaction_replay = switch_at true (codes "transaction_replay") file;
  gtid_domain = number_at GTID_DOMAIN (codes "gtid_domain") file;
  monitor_user = text_at built_in.monitor_user (codes "monitor_user") file;
  monitor_password = text_at [] (codes "monitor_password") file;
  servers = map server_of (tables_at (codes "server") file);
  accounts = map account_of (tables_at (codes "account") file);
}
