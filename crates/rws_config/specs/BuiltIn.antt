-- The settings where no file is named.
use Rattle.std.specs.Prelude.{ℕ, List, [], ◌∷◌, codes, true, false, None, Some}
use Rattle.rws_wire.specs.declared.mode.Mode.TheVariants.{Global}
use Rattle.rws_config.specs.declared.limits.TheConstants.{VERSION, CAUSAL_TIMEOUT_S, PRIMARY_WAIT_MS, REPLAY_MS, REPLAY_ATTEMPTS, REPLAY_BYTES, HISTORY_LIMIT, SESSIONS, COMMAND_BYTES, MONITOR_MS, GTID_DOMAIN}
use Rattle.rws_config.specs.declared.config.Config.{Config}
use Rattle.rws_config.specs.declared.server.Server.{Server}

abbrev pub server_named : List ℕ → List ℕ → Server
server_named name address = record { name = name; address = address; maintenance = false }

-- `14e65567abdb5135d0cfd9a70b3032c179a49ee7` in hex
abbrev pub stored_of_sec : List ℕ
stored_of_sec = 0x14 ∷ 0xe6 ∷ 0x55 ∷ 0x67 ∷ 0xab ∷ 0xdb ∷ 0x51 ∷ 0x35 ∷ 0xd0 ∷ 0xcf ∷ 0xd9 ∷ 0xa7 ∷ 0x0b ∷ 0x30 ∷ 0x32 ∷ 0xc1 ∷ 0x79 ∷ 0xa4 ∷ 0x9e ∷ 0xe7 ∷ []

-- three servers on this machine, an account without a password and one with, and the defaults
abbrev pub built_in : Config
built_in = record {
  version = VERSION.default;
  listen = codes "127.0.0.1:4006" ∷ [];
  causal_reads = Global;
  causal_timeout_s = CAUSAL_TIMEOUT_S.default;
  primary_wait_ms = PRIMARY_WAIT_MS.default;
  replay_ms = REPLAY_MS.default;
  replay_attempts = REPLAY_ATTEMPTS.default;
  replay_bytes = REPLAY_BYTES.default;
  history_limit = HISTORY_LIMIT.default;
  sessions = SESSIONS.default;
  command_bytes = COMMAND_BYTES.default;
  monitor_ms = MONITOR_MS.default;
  transaction_replay = true;
  gtid_domain = GTID_DOMAIN.default;
  monitor_user = codes "monitor";
  monitor_password = [];
  servers = server_named (codes "a") (codes "127.0.0.1:3306") ∷ server_named (codes "b") (codes "127.0.0.1:3307")
      ∷ server_named (codes "c") (codes "127.0.0.1:3308") ∷ [];
  accounts = record { user = codes "app"; stored = None } ∷ record { user = codes "sec"; stored = Some stored_of_sec } ∷ [];
}
