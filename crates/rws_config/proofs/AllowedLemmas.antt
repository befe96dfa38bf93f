-- What is read is allowed.
use Rattle.std.proofs.Common.{◌≡◌, ◌⊎◌, ℕ, zero, suc, ◌<◌, ◌≤◌, ◌||◌, nat_le, nat_lt, Bool, true, false, cond, List, [], ◌∷◌, ◌++◌, length, map, get_or, Option, None, Some, option_and_then, Result, Ok, Err, IfOk, pos, negsuc, inl, inr, refl, sym, ap, ◌∙◌, subst, arith, codes, lit≤, lit<}
use Rattle.std.proofs.lemmas.List.{length-map}
use Rattle.std.specs.Option.{unwrap_or}
use Rattle.std.specs.Result.{result_ok}
use Rattle.std.specs.List.{AllByRecursion, IsDistinct, filter, filter_map, flat_map, list_all, list_any}
use Rattle.std.specs.Str.{bytes_eq}
use Rattle.std.proofs.lemmas.Bool.{and_parts, not-false, not-true}
use Rattle.std.proofs.lemmas.Bool.Decides.{nat_tests}
use Rattle.hex.specs.Hex.{decode_sized}
use Rattle.hex.specs.declared.error.FromHexError.{FromHexError}
use Rattle.hex.proofs.HexLemmas.{decode_sized-ok, decode_sized-twice, decode_of-ok}
use Rattle.rws_wire.specs.Reading.{◌>>=◌}
use Rattle.toml.specs.Data.{Data, string, integer, boolean, float, datetime, array, table as table_value, Items, Members, as_str, as_table, get_member}
use Rattle.rws_config.specs.declared.limits.Limit.{Limit}
use Rattle.rws_config.specs.declared.limits.TheConstants.{VERSION, CAUSAL_TIMEOUT_S, PRIMARY_WAIT_MS, REPLAY_MS, REPLAY_ATTEMPTS, REPLAY_BYTES, HISTORY_LIMIT, SESSIONS, COMMAND_BYTES, MONITOR_MS, GTID_DOMAIN, MOST_SERVERS, MOST_LISTEN}
use Rattle.rws_config.specs.declared.config.Config.{Config}
use Rattle.rws_config.specs.declared.server.Server.{Server}
use Rattle.rws_config.specs.declared.account.Account.{Account}
use Rattle.rws_config.specs.declared.fault.ConfigFault.{ConfigFault}
use Rattle.rws_config.specs.declared.keys.Kind.{Kind}
use Rattle.rws_config.specs.declared.keys.Kind.TheVariants.{Login, Address, Addresses, Tables}
use Rattle.rws_config.specs.declared.keys.Place.TheVariants.{Top, Servers, Accounts}
use Rattle.rws_config.specs.declared.flaws.Flaw.{Flaw}
use Rattle.rws_config.specs.declared.flaws.Flaw.TheVariants as flaw
use Rattle.rws_config.specs.Address.{IsAddress}
use Rattle.rws_config.specs.Allowed.{HasNoZero, IsAllowed, IsStored, IsWithin}
use Rattle.rws_config.specs.BuiltIn.{built_in}
use Rattle.rws_config.specs.Keys.{Entry, account_keys, fits, is_address_text, is_table, is_within, list_of, optional, required, server_keys, top_keys}
use Rattle.rws_config.specs.Values.{account_of, config_of, number_at, number_in, server_of, tables_at, text_at, texts_at}
use Rattle.rws_config.specs.Settings.{Gives, fault_of, few_servers, flawed, flawed_in, flawed_keys, has_bad_value, is_bad, is_missing, keys_stand, least, names_stand, no_key, no_repeat, repeated, server_names, settings_in, unless, user_names}
use Rattle.rws_config.proofs.AddressLemmas.{address_is}
use Rattle.rws_config.proofs.LeastLemmas.{none_is_least}
use Rattle.rws_config.proofs.BuiltInLemmas.{built_in_is_allowed}

-- ---- no flaw

passes_unless : (fault : List ℕ → ConfigFault) (found : Option (List ℕ)) (x : Unit {0}) → unless fault found ≡ Ok x → found ≡ None
passes_unless fault None x e = refl
passes_unless fault (Some key) x e = cc

passed : {A B : Type 0} (a : Result A ConfigFault) (next : A → Result B ConfigFault) (y : B) → (a >>= next) ≡ Ok y → (x : A) × (a ≡ Ok x) × (next x ≡ Ok y)
passed (Ok x) next y e = (x, refl, e)
passed (Err fault) next y e = cc

none_flawed : (flaw : Flaw) (file : Members) (x : Unit {0}) → no_key flaw file ≡ Ok x → flawed_keys flaw file ≡ []
none_flawed flaw file x e = none_is_least (flawed_keys flaw file) (passes_unless (fault_of flaw) (least (flawed_keys flaw file)) x e)

none_repeated : (names : List (List ℕ)) (x : Unit {0}) → no_repeat names ≡ Ok x → repeated names ≡ []
none_repeated names x e = none_is_least (repeated names) (passes_unless _ (least (repeated names)) x e)

both_empty : {X : Type 0} (xs ys : List X) → xs ++ ys ≡ [] → (xs ≡ []) × (ys ≡ [])
both_empty [] ys e = (refl, e)
both_empty (x ∷ xs) ys e = cc

map_empty : {X Y : Type 0} (f : X → Y) (xs : List X) → map f xs ≡ [] → xs ≡ []
map_empty f [] e = refl
map_empty f (x ∷ xs) e = cc

each_empty : {X Y : Type 0} (f : X → List Y) (xs : List X) → flat_map f xs ≡ [] → AllByRecursion (λ x. f x ≡ []) xs
each_empty f [] e = tt
each_empty f (x ∷ xs) e = let parts = both_empty (f x) (flat_map f xs) e in (parts.0, each_empty f xs parts.1)

each_fails : {X : Type 0} (test : X → Bool) (xs : List X) → filter test xs ≡ [] → AllByRecursion (λ x. test x ≡ false) xs
each_fails test [] e = tt
each_fails {X} test (x ∷ xs) e = by (test x) refl e (λ rest. each_fails test xs rest)
  where
    by : (found : Bool) → test x ≡ found → cond found (x ∷ filter test xs) (filter test xs) ≡ [] → (filter test xs ≡ [] → AllByRecursion (λ y. test y ≡ false) xs)
        → (test x ≡ false) × AllByRecursion (λ y. test y ≡ false) xs
    by true same e others = cc
    by false same e others = (same, others e)

-- the tables of a file in which no key has the flaw
record Flawless (flaw : Flaw) (file : Members) : Type 0 where
  top : flawed flaw top_keys file ≡ []
  servers : AllByRecursion (λ table. flawed flaw server_keys table ≡ []) (tables_at (codes "server") file)
  accounts : AllByRecursion (λ table. flawed flaw account_keys table ≡ []) (tables_at (codes "account") file)

flawless : (flaw : Flaw) (file : Members) → flawed_keys flaw file ≡ [] → Flawless flaw file
flawless flaw file e =
    let first = both_empty (flawed_in flaw file Top) (flawed_in flaw file Servers ++ (flawed_in flaw file Accounts ++ [])) e in
    let second = both_empty (flawed_in flaw file Servers) (flawed_in flaw file Accounts ++ []) first.1 in
    let third = both_empty (flawed_in flaw file Accounts) [] second.1 in
    let top = each_empty (flawed flaw top_keys) (file ∷ []) (map_empty _ _ first.0) in record {
      top = top.0;
      servers = each_empty (flawed flaw server_keys) (tables_at (codes "server") file) (map_empty _ _ second.0);
      accounts = each_empty (flawed flaw account_keys) (tables_at (codes "account") file) (map_empty _ _ third.0);
    }

-- ---- what stands at a key

-- a value that fits
abbrev Fitting : Members → Entry → Type 0
Fitting table key = (value : Data) × (get_member key.name table ≡ Some value) × (fits key.kind value ≡ true)

stands : (table : Members) (key : Entry) → key.required ≡ true → is_missing table key ≡ false → has_bad_value table key ≡ false → Fitting table key
stands table key required there good = by (get_member key.name table) refl
  where
    by : (found : Option Data) → get_member key.name table ≡ found → Fitting table key
    by None e = let bad : true ≡ false = rw (required, e) at there in cc
    by (Some value) e = (value, e, not-false _ (subst (λ (o : Option Data). is_bad key.kind o ≡ false) e good))

stands_or_not : (table : Members) (key : Entry) → has_bad_value table key ≡ false → (get_member key.name table ≡ None) ⊎ Fitting table key
stands_or_not table key good = by (get_member key.name table) refl
  where
    by : (found : Option Data) → get_member key.name table ≡ found → (get_member key.name table ≡ None) ⊎ Fitting table key
    by None e = inl e
    by (Some value) e = inr (value, e, not-false _ (subst (λ (o : Option Data). is_bad key.kind o ≡ false) e good))

-- ---- by kinds

is_login : (value : Data) → fits Login value ≡ true → (text : List ℕ) × (value ≡ string text) × HasNoZero text
is_login (string text) e = (text, refl, not-true _ e)
is_login (integer z) e = cc
is_login (float x) e = cc
is_login (boolean b) e = cc
is_login (datetime d) e = cc
is_login (array values) e = cc
is_login (table_value inside) e = cc

is_one_address : (value : Data) → is_address_text value ≡ true → (text : List ℕ) × (value ≡ string text) × IsAddress text
is_one_address (string text) e = (text, refl, address_is text e)
is_one_address (integer z) e = cc
is_one_address (float x) e = cc
is_one_address (boolean b) e = cc
is_one_address (datetime d) e = cc
is_one_address (array values) e = cc
is_one_address (table_value inside) e = cc

fits_address : (value : Data) → fits Address value ≡ true → is_address_text value ≡ true
fits_address (string text) e = e
fits_address (integer z) e = cc
fits_address (float x) e = cc
fits_address (boolean b) e = cc
fits_address (datetime d) e = cc
fits_address (array values) e = cc
fits_address (table_value inside) e = cc

record Listens (values : List Data) : Type 0 where
  some : 1 ≤ length values
  few : length values ≤ MOST_LISTEN
  each : list_all is_address_text values ≡ true

at_least : (n m : ℕ) → nat_le n m ≡ true → n ≤ m
at_least n m e = grind (arith, nat_tests)

are_addresses : (value : Data) → fits Addresses value ≡ true → (values : Items) × (value ≡ array values) × Listens (list_of values)
are_addresses (array values) e =
    let parts = and_parts _ (list_all is_address_text (list_of values)) e in
    let counts = and_parts (nat_le 1 (length (list_of values))) (nat_le (length (list_of values)) MOST_LISTEN) parts.0 in
    (values, refl, record { some = at_least _ _ counts.0; few = at_least _ _ counts.1; each = parts.1 })
are_addresses (string text) e = cc
are_addresses (integer z) e = cc
are_addresses (float x) e = cc
are_addresses (boolean b) e = cc
are_addresses (datetime d) e = cc
are_addresses (table_value inside) e = cc

are_tables : (value : Data) → fits Tables value ≡ true → (values : Items) × (value ≡ array values) × (1 ≤ length (list_of values)) × (list_all is_table (list_of values) ≡ true)
are_tables (array values) e =
    let parts = and_parts (nat_le 1 (length (list_of values))) (list_all is_table (list_of values)) e in
    (values, refl, at_least _ _ parts.0, parts.1)
are_tables (string text) e = cc
are_tables (integer z) e = cc
are_tables (float x) e = cc
are_tables (boolean b) e = cc
are_tables (datetime d) e = cc
are_tables (table_value inside) e = cc

addresses_of : (values : List Data) → list_all is_address_text values ≡ true → AllByRecursion IsAddress (filter_map as_str values) × (length (filter_map as_str values) ≡ length values)
addresses_of [] e = (tt, refl)
addresses_of (value ∷ values) e =
    let parts = and_parts (is_address_text value) (list_all is_address_text values) e in
    let one = is_one_address value parts.0 in
    let others = addresses_of values parts.1 in
    rw one.1 ((one.2, others.0), ap suc others.1)

tables_of : (values : List Data) → list_all is_table values ≡ true → length (filter_map as_table values) ≡ length values
tables_of [] e = refl
tables_of (table_value inside ∷ values) e = ap suc (tables_of values (and_parts true (list_all is_table values) e).1)
tables_of (string text ∷ values) e = cc
tables_of (integer z ∷ values) e = cc
tables_of (float x ∷ values) e = cc
tables_of (boolean b ∷ values) e = cc
tables_of (datetime d ∷ values) e = cc
tables_of (array items ∷ values) e = cc

-- ---- single values

number_is_within : (limit : Limit) (value : Data) (n : ℕ) → number_in limit value ≡ Some n → IsWithin limit n
number_is_within limit (integer (pos m)) n e = by (is_within limit m) refl e
  where
    by : (inside : Bool) → is_within limit m ≡ inside → cond inside (Some m) None ≡ Some n → IsWithin limit n
    by true same e =
        let parts = and_parts (nat_le limit.least m) (nat_le m limit.most) same in
        let number : m ≡ n = cc in
        subst (λ (k : ℕ). IsWithin limit k) number (at_least _ _ parts.0, at_least _ _ parts.1)
    by false same e = cc
number_is_within limit (integer (negsuc m)) n e = cc
number_is_within limit (string text) n e = cc
number_is_within limit (float x) n e = cc
number_is_within limit (boolean b) n e = cc
number_is_within limit (datetime d) n e = cc
number_is_within limit (array values) n e = cc
number_is_within limit (table_value inside) n e = cc

number_at_is_within : (limit : Limit) (key : List ℕ) (table : Members) → limit.least ≤ limit.default → limit.default ≤ limit.most → IsWithin limit (number_at limit key table)
number_at_is_within limit key table least most = by (option_and_then (number_in limit) (get_member key table)) (from (get_member key table))
  where
    from : (found : Option Data) (n : ℕ) → option_and_then (number_in limit) found ≡ Some n → IsWithin limit n
    from None n e = cc
    from (Some value) n e = number_is_within limit value n e

    by : (found : Option ℕ) → ((n : ℕ) → found ≡ Some n → IsWithin limit n) → IsWithin limit (unwrap_or found limit.default)
    by None f = (least, most)
    by (Some n) f = f n refl

login_at : (default : List ℕ) (table : Members) (key : Entry) → key.kind ≡ Login → HasNoZero default → has_bad_value table key ≡ false → HasNoZero (text_at default key.name table)
login_at default table key kind none good = by (stands_or_not table key good)
  where
    by : (get_member key.name table ≡ None) ⊎ Fitting table key → HasNoZero (text_at default key.name table)
    by (inl e) = rw e none
    by (inr (value, e, fitting)) =
        let login = is_login value (subst (λ (k : Kind). fits k value ≡ true) kind fitting) in
        rw (e, login.1) login.2

-- ---- names

or_parts : (a b : Bool) → (a || b) ≡ false → (a ≡ false) × (b ≡ false)
or_parts false b e = (refl, e)
or_parts true b e = cc

none_passes : (test : List ℕ → Bool) (names : List (List ℕ)) → list_any test names ≡ false → AllByRecursion (λ name. test name ≡ false) names
none_passes test [] e = tt
none_passes test (name ∷ names) e = let parts = or_parts (test name) (list_any test names) e in (parts.0, none_passes test names parts.1)

distinct : (names : List (List ℕ)) → repeated names ≡ [] → IsDistinct bytes_eq names
unfolding IsDistinct
distinct [] e = tt
distinct (name ∷ names) e = by (list_any (bytes_eq name) names) refl e (λ rest. distinct names rest)
  where
    by : (again : Bool) → list_any (bytes_eq name) names ≡ again → cond again (name ∷ repeated names) (repeated names) ≡ [] → (repeated names ≡ [] → IsDistinct bytes_eq names) → IsDistinct bytes_eq (name ∷ names)
    by true same e others = cc
    by false same e others = (none_passes (bytes_eq name) names same, others e)

few : (servers : List Server) (x : Unit {0}) → few_servers servers ≡ Ok x → length servers ≤ MOST_SERVERS
few servers x e = by (nat_lt MOST_SERVERS (length servers)) refl e
  where
    by : (many : Bool) → nat_lt MOST_SERVERS (length servers) ≡ many → few_servers servers ≡ Ok x → length servers ≤ MOST_SERVERS
    by true same e = let bad = rw same at e in cc
    by false same e = grind (arith, nat_tests)

digest : (text : List ℕ) → IsStored (result_ok (decode_sized text 20))
digest text = by (decode_sized text 20) refl
  where
    by : (r : Result (List ℕ) FromHexError) → decode_sized text 20 ≡ r → IsStored (result_ok r)
    by (Ok bytes) e =
        let long = decode_sized-ok text 20 bytes e in
        let whole = decode_of-ok text bytes (sym (decode_sized-twice text 20 long) ∙ e) in
        omega (arith, long, whole.2)
    by (Err fault) e = tt

-- ---- servers, accounts, addresses

some_tables : (file : Members) (key : Entry) → key.kind ≡ Tables → Fitting file key → 1 ≤ length (tables_at key.name file)
some_tables file key kind (value, e, fitting) =
    let (items, same, some, all) = are_tables value (subst (λ (k : Kind). fits k value ≡ true) kind fitting) in
    let long = tables_of (list_of items) all in
    rw (e, same) (omega (arith, some, long))

server_address : (table : Members) → flawed flaw.Missing server_keys table ≡ [] → flawed flaw.Bad server_keys table ≡ [] → IsAddress (server_of table).address
unfolding server_keys
server_address table missing bad =
    let there = each_fails (is_missing table) server_keys (map_empty (λ (key : Entry). key.name) (filter (is_missing table) server_keys) missing) in
    let good = each_fails (has_bad_value table) server_keys (map_empty (λ (key : Entry). key.name) (filter (has_bad_value table) server_keys) bad) in
    let (value, e, fitting) = stands table (required (codes "address") Address) refl there.1.0 good.1.0 in
    let (text, same, address) = is_one_address value (fits_address value fitting) in
    rw (e, same) address

server_addresses : (tables : List Members) → AllByRecursion (λ table. flawed flaw.Missing server_keys table ≡ []) tables → AllByRecursion (λ table. flawed flaw.Bad server_keys table ≡ []) tables
    → AllByRecursion (λ (server : Server). IsAddress server.address) (map server_of tables)
server_addresses [] missing bad = tt
server_addresses (table ∷ tables) missing bad = (server_address table missing.0 bad.0, server_addresses tables missing.1 bad.1)

account_user : (table : Members) → flawed flaw.Bad account_keys table ≡ [] → HasNoZero (account_of table).user
unfolding account_keys
account_user table bad =
    let good = each_fails (has_bad_value table) account_keys (map_empty (λ (key : Entry). key.name) (filter (has_bad_value table) account_keys) bad) in
    login_at [] table (required (codes "user") Login) refl refl good.0

account_users : (tables : List Members) → AllByRecursion (λ table. flawed flaw.Bad account_keys table ≡ []) tables
    → AllByRecursion (λ (account : Account). HasNoZero account.user) (map account_of tables)
account_users [] bad = tt
account_users (table ∷ tables) bad = (account_user table bad.0, account_users tables bad.1)

account_digests : (tables : List Members) → AllByRecursion (λ (account : Account). IsStored account.stored) (map account_of tables)
account_digests [] = tt
account_digests (table ∷ tables) = (digest (text_at [] (codes "password") table), account_digests tables)

record Addresses16 (texts : List (List ℕ)) : Type 0 where
  each : AllByRecursion IsAddress texts
  some : 1 ≤ length texts
  few : length texts ≤ MOST_LISTEN

listen_at : (file : Members) → has_bad_value file (optional (codes "listen") Addresses) ≡ false → Addresses16 (texts_at built_in.listen (codes "listen") file)
listen_at file good = by (stands_or_not file (optional (codes "listen") Addresses) good)
  where
    by : (get_member (codes "listen") file ≡ None) ⊎ Fitting file (optional (codes "listen") Addresses) → Addresses16 (texts_at built_in.listen (codes "listen") file)
    by (inl e) = rw e (record { each = built_in_is_allowed.listen; some = built_in_is_allowed.listens.0; few = built_in_is_allowed.listens.1 })
    by (inr (value, e, fitting)) =
        let (items, same, listens) = are_addresses value fitting in
        let (each, long) = addresses_of (list_of items) listens.each in
        rw (e, same) (record { each = each; some = omega (arith, listens.some, long); few = omega (arith, listens.few, long) })

-- ---- the whole file

all_at : {X : Type 0} (P : X → Type 0) (xs : List X) (k : ℕ) (d : X) → AllByRecursion P xs → k < length xs → P (get_or xs k d)
all_at P [] k d all inside = absurd (omega arith)
all_at P (x ∷ xs) zero d all inside = all.0
all_at P (x ∷ xs) (suc k) d all inside = all_at P xs k d all.1 (omega arith)

config_is_allowed : (file : Members) (x y : Unit {0}) → keys_stand file ≡ Ok x → names_stand (config_of file) ≡ Ok y → IsAllowed (config_of file)
unfolding top_keys
config_is_allowed file x y keys names =
    let known = passed (no_key flaw.Unknown file) (λ _. no_key flaw.Missing file >>= (λ _. no_key flaw.Bad file)) x keys in
    let whole = passed (no_key flaw.Missing file) (λ _. no_key flaw.Bad file) x known.2 in
    let missing = flawless flaw.Missing file (none_flawed flaw.Missing file whole.0 whole.1) in
    let bad = flawless flaw.Bad file (none_flawed flaw.Bad file x whole.2) in
    let there = each_fails (is_missing file) top_keys (map_empty (λ (key : Entry). key.name) (filter (is_missing file) top_keys) missing.top) in
    let good = each_fails (has_bad_value file) top_keys (map_empty (λ (key : Entry). key.name) (filter (has_bad_value file) top_keys) bad.top) in
    let config : Config = config_of file in
    let counted = passed (few_servers config.servers) (λ _. no_repeat (server_names config) >>= (λ _. no_repeat (user_names config))) y names in
    let once = passed (no_repeat (server_names config)) (λ _. no_repeat (user_names config)) y counted.2 in
    let fits_here : Entry → Type 0 = λ key. has_bad_value file key ≡ false in
    let is_here : Entry → Type 0 = λ key. is_missing file key ≡ false in
    let listen = listen_at file (all_at fits_here top_keys 1 (required [] Tables) good (lit< tt)) in
    let server : Entry = required (codes "server") Tables in
    let account : Entry = required (codes "account") Tables in
    let servers = some_tables file server refl (stands file server refl (all_at is_here top_keys 16 server there (lit< tt)) (all_at fits_here top_keys 16 server good (lit< tt))) in
    let accounts = some_tables file account refl (stands file account refl (all_at is_here top_keys 17 account there (lit< tt)) (all_at fits_here top_keys 17 account good (lit< tt))) in
    record {
      version = number_at_is_within VERSION (codes "version") file (lit≤ tt) (lit≤ tt);
      listen = listen.each;
      listens = (listen.some, listen.few);
      causal_timeout_s = number_at_is_within CAUSAL_TIMEOUT_S (codes "causal_timeout_s") file (lit≤ tt) (lit≤ tt);
      primary_wait_ms = number_at_is_within PRIMARY_WAIT_MS (codes "primary_wait_ms") file (lit≤ tt) (lit≤ tt);
      replay_ms = number_at_is_within REPLAY_MS (codes "replay_ms") file (lit≤ tt) (lit≤ tt);
      replay_attempts = number_at_is_within REPLAY_ATTEMPTS (codes "replay_attempts") file (lit≤ tt) (lit≤ tt);
      replay_bytes = number_at_is_within REPLAY_BYTES (codes "replay_bytes") file (lit≤ tt) (lit≤ tt);
      history_limit = number_at_is_within HISTORY_LIMIT (codes "history_limit") file (lit≤ tt) (lit≤ tt);
      sessions = number_at_is_within SESSIONS (codes "sessions") file (lit≤ tt) (lit≤ tt);
      command_bytes = number_at_is_within COMMAND_BYTES (codes "command_bytes") file (lit≤ tt) (lit≤ tt);
      monitor_ms = number_at_is_within MONITOR_MS (codes "monitor_ms") file (lit≤ tt) (lit≤ tt);
      gtid_domain = number_at_is_within GTID_DOMAIN (codes "gtid_domain") file (lit≤ tt) (lit≤ tt);
      monitor_user = login_at built_in.monitor_user file (optional (codes "monitor_user") Login) refl refl (all_at fits_here top_keys 14 server good (lit< tt));
      monitor_password = login_at [] file (optional (codes "monitor_password") Login) refl refl (all_at fits_here top_keys 15 server good (lit< tt));
      servers = (subst (λ (n : ℕ). 1 ≤ n) (sym (length-map (tables_at (codes "server") file) server_of)) servers, few config.servers counted.0 counted.1);
      addresses = server_addresses (tables_at (codes "server") file) missing.servers bad.servers;
      names = distinct (server_names config) (none_repeated (server_names config) once.0 once.1);
      accounts = subst (λ (n : ℕ). 1 ≤ n) (sym (length-map (tables_at (codes "account") file) account_of)) accounts;
      no_zero = account_users (tables_at (codes "account") file) bad.accounts;
      stored = account_digests (tables_at (codes "account") file);
      users = distinct (user_names config) (none_repeated (user_names config) y once.2);
    }

value_or : Config → Result Config ConfigFault → Config
value_or config (Ok other) = other
value_or config (Err fault) = config

pub settings_are_allowed : (r : Result Config ConfigFault) (file : Members) → Gives r (settings_in file) → IfOk r IsAllowed
unfolding settings_in value_or
settings_are_allowed (Err fault) file given = tt
settings_are_allowed (Ok config) file given =
    let keys = passed (keys_stand file) (λ _. names_stand (config_of file) >>= (λ _. Ok (config_of file))) config given in
    let names = passed (names_stand (config_of file)) (λ _. Ok (config_of file)) config keys.2 in
    let same : config_of file ≡ config = ap (value_or config) names.2 in
    subst IsAllowed same (config_is_allowed file keys.0 names.0 keys.1 names.1)
