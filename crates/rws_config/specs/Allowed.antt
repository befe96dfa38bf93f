-- Which settings are allowed.
use Rattle.std.specs.Prelude.{◌≡◌, ℕ, ◌≤◌, ◌==◌, List, length, map, nat_eq, false, Option, None, Some}
use Rattle.std.specs.List.{AllByRecursion, IsDistinct, list_any}
use Rattle.std.specs.Cmp.Lexicographic.{pointwise}
use Rattle.rws_config.specs.declared.limits.TheConstants.{VERSION, CAUSAL_TIMEOUT_S, PRIMARY_WAIT_MS, REPLAY_MS, REPLAY_ATTEMPTS, REPLAY_BYTES, HISTORY_LIMIT, SESSIONS, COMMAND_BYTES, MONITOR_MS, GTID_DOMAIN, MOST_SERVERS, MOST_LISTEN}
use Rattle.rws_config.specs.declared.limits.Limit.{Limit}
use Rattle.rws_config.specs.declared.config.Config.{Config}
use Rattle.rws_config.specs.declared.server.Server.{Server}
use Rattle.rws_config.specs.declared.account.Account.{Account}
use Rattle.rws_config.specs.Address.{IsAddress}

abbrev pub IsWithin : Limit → ℕ → Type 0
IsWithin limit n = (limit.least ≤ n) × (n ≤ limit.most)

-- texts that go to servers end at a zero byte
abbrev pub HasNoZero : List ℕ → Type 0
HasNoZero text = list_any (λ byte. byte == 0) text ≡ false

-- a digest is that of SHA-1
abbrev pub IsStored : Option (List ℕ) → Type 0
IsStored None = Unit {0}
IsStored (Some digest) = length digest ≡ 20

pub record IsAllowed (config : Config) : Type 0 where
  pub version : IsWithin VERSION config.version
  pub listen : AllByRecursion IsAddress config.listen
  pub listens : (1 ≤ length config.listen) × (length config.listen ≤ MOST_LISTEN)
  pub causal_timeout_s : IsWithin CAUSAL_TIMEOUT_S config.causal_timeout_s
  pub primary_wait_ms : IsWithin PRIMARY_WAIT_MS config.primary_wait_ms
  pub replay_ms : IsWithin REPLAY_MS config.replay_ms
  pub replay_attempts : IsWithin REPLAY_ATTEMPTS config.replay_attempts
  pub replay_bytes : IsWithin REPLAY_BYTES config.replay_bytes
  pub history_limit : IsWithin HISTORY_LIMIT config.history_limit
  pub sessions : IsWithin SESSIONS config.sessions
  pub command_bytes : IsWithin COMMAND_BYTES config.command_bytes
  pub monitor_ms : IsWithin MONITOR_MS config.monitor_ms
  pub gtid_domain : IsWithin GTID_DOMAIN config.gtid_domain
  pub monitor_user : HasNoZero config.monitor_user
  pub monitor_password : HasNoZero config.monitor_password
  pub servers : (1 ≤ length config.servers) × (length config.servers ≤ MOST_SERVERS)
  pub addresses : AllByRecursion (λ (server : Server). IsAddress server.address) config.servers
  pub names : IsDistinct (pointwise nat_eq) (map (λ (server : Server). server.name) config.servers)
  pub accounts : 1 ≤ length config.accounts
  pub no_zero : AllByRecursion (λ (account : Account). HasNoZero account.user) config.accounts
  pub stored : AllByRecursion (λ (account : Account). IsStored account.stored) config.accounts
  pub users : IsDistinct (pointwise nat_eq) (map (λ (account : Account). account.user) config.accounts)
