use Rattle.std.proofs.Common.{refl}
use Rattle.rws_config.specs.Keys.{top_keys, server_keys, account_keys}
use Rattle.rws_config.proofs.keys.Place.keys.Goals as goal

-- the program's tables are the tables of keys
pub returns-in-Top : goal.returns-in-Top
unfolding top_keys
returns-in-Top c = rw c.in-Top.is refl

pub returns-in-Servers : goal.returns-in-Servers
unfolding server_keys
returns-in-Servers c = rw c.in-Servers.is refl

pub returns-in-Accounts : goal.returns-in-Accounts
unfolding account_keys
returns-in-Accounts c = rw c.in-Accounts.is refl
