-- The built-in settings are allowed.
use Rattle.std.proofs.Common.{◌≡◌, ℕ, ◌∷◌, ◌++◌, ◌≤◌, List, codes, refl, sym, subst, lit≤}
use Rattle.std.specs.Fmt.{digits, decimal}
use Rattle.std.specs.List.{IsDistinct}
use Rattle.rws_config.specs.declared.config.Config.{Config}
use Rattle.rws_config.specs.Address.{IsAddress}
use Rattle.rws_config.specs.Allowed.{IsAllowed}
use Rattle.rws_config.specs.BuiltIn.{built_in}

-- an address of this machine
abbrev local : ℕ → List ℕ
local port = codes "127.0.0.1" ++ (58 ∷ decimal port)

is_local : (port : ℕ) → 1 ≤ port → port ≤ 65535 → IsAddress (local port)
is_local port least most = record { host = codes "127.0.0.1"; port = port; spelled = refl; plain = refl; least = least; most = most }

-- the form in which an address of the built-in settings is met
named : (text : List ℕ) (port : ℕ) → local port ≡ text → 1 ≤ port → port ≤ 65535 → IsAddress text
named text port e least most = subst IsAddress e (is_local port least most)

pub built_in_is_allowed : IsAllowed built_in
unfolding digits IsDistinct
built_in_is_allowed = record {
  version = (lit≤ tt, lit≤ tt);
  listen = (named _ 4006 refl (lit≤ tt) (lit≤ tt), tt);
  listens = (lit≤ tt, lit≤ tt);
  causal_timeout_s = (lit≤ tt, lit≤ tt);
  primary_wait_ms = (lit≤ tt, lit≤ tt);
  replay_ms = (lit≤ tt, lit≤ tt);
  replay_attempts = (lit≤ tt, lit≤ tt);
  replay_bytes = (lit≤ tt, lit≤ tt);
  history_limit = (lit≤ tt, lit≤ tt);
  sessions = (lit≤ tt, lit≤ tt);
  command_bytes = (lit≤ tt, lit≤ tt);
  monitor_ms = (lit≤ tt, lit≤ tt);
  gtid_domain = (lit≤ tt, lit≤ tt);
  monitor_user = refl;
  monitor_password = refl;
  servers = (lit≤ tt, lit≤ tt);
  addresses = (named _ 3306 refl (lit≤ tt) (lit≤ tt), (named _ 3307 refl (lit≤ tt) (lit≤ tt), (named _ 3308 refl (lit≤ tt) (lit≤ tt), tt)));
  names = ((refl, (refl, tt)), ((refl, tt), (tt, tt)));
  accounts = lit≤ tt;
  no_zero = (refl, (refl, tt));
  stored = (tt, (refl, tt));
  users = ((refl, tt), (tt, tt));
}

pub is_allowed : (config : Config) → config ≡ built_in → IsAllowed config
is_allowed config e = subst IsAllowed (sym e) built_in_is_allowed
