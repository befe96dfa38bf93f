-- What a settings file is read as: the settings, or the first fault. Kinds of faults are tried one after the other over
-- the whole file, and of several keys at fault the least by bytes is named.
use Rattle.std.specs.Prelude.{◌≡◌, ◌≢◌, ℕ, ◌&&◌, not, nat_lt, Bool, false, List, [], ◌∷◌, ◌++◌, length, map, codes, Option, None, Some, is_some, if◌then◌else◌, Result, Ok, Err}
use Rattle.std.specs.List.{AllByRecursion, filter, flat_map, list_any}
use Rattle.std.specs.Ordering.{nat_cmp, is_lt}
use Rattle.std.specs.declared.cmp.Ordering.TheVariants.{Less}
use Rattle.std.specs.Cmp.Lexicographic.{slice_cmp}
use Rattle.std.specs.Str.{bytes_eq, is_utf8}
use Rattle.toml.specs.Data.{Data, Members, no_members, member, get_member}
use Rattle.toml.specs.Parse.{parse_document}
use Rattle.rws_wire.specs.Reading.{◌>>=◌}
use Rattle.rws_config.specs.declared.limits.TheConstants.{MOST_SERVERS}
use Rattle.rws_config.specs.declared.config.Config.{Config}
use Rattle.rws_config.specs.declared.server.Server.{Server}
use Rattle.rws_config.specs.declared.account.Account.{Account}
use Rattle.rws_config.specs.declared.fault.ConfigFault.{ConfigFault}
use Rattle.rws_config.specs.declared.fault.ConfigFault.TheVariants.{BadToml, UnknownKey, Missing, BadValue, TooManyServers, Twice, OutOfMemory}
use Rattle.rws_config.specs.declared.keys.Kind.{Kind}
use Rattle.rws_config.specs.declared.keys.Place.{Place}
use Rattle.rws_config.specs.declared.keys.Place.TheVariants.{Top, Servers, Accounts}
use Rattle.rws_config.specs.declared.flaws.Flaw.{Flaw}
use Rattle.rws_config.specs.declared.flaws.Flaw.TheVariants as flaw
use Rattle.rws_config.specs.Keys.{Entry, fits, top_keys, server_keys, account_keys}
use Rattle.rws_config.specs.Values.{tables_at, config_of}

-- ---- the least of some texts, by bytes

abbrev pub lesser : Option (List ℕ) → List ℕ → List ℕ
lesser None text = text
lesser (Some other) text = if is_lt (slice_cmp nat_cmp text other) then text else other

abbrev pub least_from : Option (List ℕ) → List (List ℕ) → Option (List ℕ)
least_from best [] = best
least_from best (text ∷ texts) = least_from (Some (lesser best text)) texts

abbrev pub least : List (List ℕ) → Option (List ℕ)
least texts = least_from None texts

-- it is one of the texts, and none comes before it
pub record IsLeast (texts : List (List ℕ)) (key : List ℕ) : Type 0 where
  pub before : List (List ℕ)
  pub after : List (List ℕ)
  pub stands : texts ≡ before ++ (key ∷ after)
  pub least : AllByRecursion (λ text. slice_cmp nat_cmp text key ≢ Less) texts

-- ---- keys at fault

abbrev pub names_of : Members → List (List ℕ)
names_of no_members = []
names_of (member name value members) = name ∷ names_of members

abbrev pub is_known : List Entry → List ℕ → Bool
is_known keys name = list_any (λ key. bytes_eq key.name name) keys

abbrev pub is_missing : Members → Entry → Bool
is_missing table key = key.required && not (is_some (get_member key.name table))

abbrev pub is_bad : Kind → Option Data → Bool
is_bad kind None = false
is_bad kind (Some value) = not (fits kind value)

abbrev pub has_bad_value : Members → Entry → Bool
has_bad_value table key = is_bad key.kind (get_member key.name table)

-- the keys of a table that are unknown, missing, or have a bad value
abbrev pub flawed : Flaw → List Entry → Members → List (List ℕ)
flawed flaw.Unknown keys table = filter (λ name. not (is_known keys name)) (names_of table)
flawed flaw.Missing keys table = map (λ key. key.name) (filter (is_missing table) keys)
flawed flaw.Bad keys table = map (λ key. key.name) (filter (has_bad_value table) keys)

-- what may stand in a table, what its keys are called in a fault, and the tables of each kind
abbrev pub keys_in : Place → List Entry
keys_in Top = top_keys
keys_in Servers = server_keys
keys_in Accounts = account_keys

abbrev pub prefix : Place → List ℕ
prefix Top = []
prefix Servers = codes "server."
prefix Accounts = codes "account."

abbrev pub tables_in : Place → Members → List Members
tables_in Top file = file ∷ []
tables_in Servers file = tables_at (codes "server") file
tables_in Accounts file = tables_at (codes "account") file

abbrev pub flawed_in : Flaw → Members → Place → List (List ℕ)
flawed_in flaw file place = map (λ name. prefix place ++ name) (flat_map (flawed flaw (keys_in place)) (tables_in place file))

abbrev pub flawed_keys : Flaw → Members → List (List ℕ)
flawed_keys flaw file = flat_map (flawed_in flaw file) (Top ∷ Servers ∷ Accounts ∷ [])

-- ---- names that stand twice

abbrev pub repeated : List (List ℕ) → List (List ℕ)
repeated [] = []
repeated (name ∷ names) = if list_any (bytes_eq name) names then name ∷ repeated names else repeated names

-- ---- the whole file

abbrev pub fault_of : Flaw → List ℕ → ConfigFault
fault_of flaw.Unknown = UnknownKey
fault_of flaw.Missing = Missing
fault_of flaw.Bad = BadValue

-- the fault that names a key, where there is such a key
abbrev pub unless : (List ℕ → ConfigFault) → Option (List ℕ) → Result (Unit {0}) ConfigFault
unless fault None = Ok tt
unless fault (Some key) = Err (fault key)

abbrev pub no_key : Flaw → Members → Result (Unit {0}) ConfigFault
no_key flaw file = unless (fault_of flaw) (least (flawed_keys flaw file))

abbrev pub no_repeat : List (List ℕ) → Result (Unit {0}) ConfigFault
no_repeat names = unless Twice (least (repeated names))

abbrev pub few_servers : List Server → Result (Unit {0}) ConfigFault
few_servers servers = if nat_lt MOST_SERVERS (length servers) then Err (TooManyServers (length servers)) else Ok tt

abbrev pub server_names : Config → List (List ℕ)
server_names config = map (λ (server : Server). server.name) config.servers

abbrev pub user_names : Config → List (List ℕ)
user_names config = map (λ (account : Account). account.user) config.accounts

-- each key is known, none is missing, each value fits
abbrev pub keys_stand : Members → Result (Unit {0}) ConfigFault
keys_stand file = do
  known ← no_key flaw.Unknown file
  whole ← no_key flaw.Missing file
  no_key flaw.Bad file

-- there are at most seven servers, and no name or user stands twice
abbrev pub names_stand : Config → Result (Unit {0}) ConfigFault
names_stand config = do
  few ← few_servers config.servers
  servers ← no_repeat (server_names config)
  no_repeat (user_names config)

unfoldable pub settings_in : Members → Result Config ConfigFault
settings_in file = do
  keys ← keys_stand file
  names ← names_stand (config_of file)
  Ok (config_of file)

-- the TOML document that a text is, as TOML 1.1 says
abbrev pub document_of : List ℕ → Option Members
document_of text = if is_utf8 text then parse_document text else None

abbrev pub settings_from : Option Members → Result Config ConfigFault
settings_from None = Err BadToml
settings_from (Some file) = settings_in file

-- what a text is read as
unfoldable pub settings_of : List ℕ → Result Config ConfigFault
settings_of text = settings_from (document_of text)

-- What a call returned is what the text is read as. It may want memory instead.
abbrev pub Gives : {A : Type 0} → Result A ConfigFault → Result A ConfigFault → Type 0
Gives (Ok value) read = read ≡ Ok value
Gives (Err OutOfMemory) read = Unit {0}
Gives (Err fault) read = read ≡ Err fault
