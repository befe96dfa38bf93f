-- Calls one after the other, each of which may refuse.
use Rattle.std.proofs.Common.{◌≡◌, ◌⊎◌, ℕ, List, None, Some, Result, Ok, Err, inl, inr, refl, sym, ap, ◌∙◌, subst}
use Rattle.std.specs.Result.{IsErrAnd}
use Rattle.rws_wire.specs.Reading.{◌>>=◌}
use Rattle.toml.specs.Data.{Members}
use Rattle.rws_config.specs.declared.config.Config.{Config}
use Rattle.rws_config.specs.declared.fault.ConfigFault.{ConfigFault}
use Rattle.rws_config.specs.declared.fault.ConfigFault.TheVariants.{BadToml, UnknownKey, Missing, BadValue, TooManyServers, Twice, OutOfMemory}
use Rattle.rws_config.specs.Settings.{Gives, document_of, keys_stand, names_stand, settings_from, settings_in, settings_of}
use Rattle.rws_config.specs.Values.{config_of}

-- what a call refuses is refused by the whole
refused : {A B : Type 0} (fault : ConfigFault) (a : Result A ConfigFault) (next : A → Result B ConfigFault) → Gives (Err fault) a → Gives (Err fault) (a >>= next)
refused OutOfMemory a next given = tt
refused BadToml a next given = rw given refl
refused (UnknownKey key) a next given = rw given refl
refused (Missing key) a next given = rw given refl
refused (BadValue key) a next given = rw given refl
refused (TooManyServers n) a next given = rw given refl
refused (Twice name) a next given = rw given refl

pub first_refuses : {A B : Type 0} (r : Result B ConfigFault) (fault : ConfigFault) (a : Result A ConfigFault) (next : A → Result B ConfigFault)
    → IsErrAnd r (λ e. e ≡ fault) → Gives (Err fault) a → Gives r (a >>= next)
first_refuses (Ok x) fault a next err given = absurd err
first_refuses {A} {B} (Err e) fault a next err given = subst (λ (f : ConfigFault). Gives {A = B} (Err f) (a >>= next)) (sym err) (refused fault a next given)

-- what follows a call that passes
pub passes : {A B : Type 0} (r : Result B ConfigFault) (a : Result A ConfigFault) (x : A) (next : A → Result B ConfigFault) → a ≡ Ok x → Gives r (next x) → Gives r (a >>= next)
passes r a x next e given = rw e given

pub second_refuses : {A B C : Type 0} (r : Result C ConfigFault) (fault : ConfigFault) (a : Result A ConfigFault) (x : A) (b : Result B ConfigFault) (c : Result C ConfigFault)
    → a ≡ Ok x → IsErrAnd r (λ e. e ≡ fault) → Gives (Err fault) b → Gives r (a >>= (λ _. b >>= (λ _. c)))
second_refuses r fault a x b c e err given = passes r a x (λ _. b >>= (λ _. c)) e (first_refuses r fault b (λ _. c) err given)

pub both_pass : {A B C : Type 0} (r : Result C ConfigFault) (a : Result A ConfigFault) (x : A) (b : Result B ConfigFault) (y : B) (c : Result C ConfigFault)
    → a ≡ Ok x → b ≡ Ok y → Gives r c → Gives r (a >>= (λ _. b >>= (λ _. c)))
both_pass r a x b y c e f given = passes r a x (λ _. b >>= (λ _. c)) e (passes r b y (λ _. c) f given)

-- the settings of a file, by what its keys and names are found to be
pub keys_refuse : (r : Result Config ConfigFault) (fault : ConfigFault) (file : Members)
    → IsErrAnd r (λ e. e ≡ fault) → Gives (Err fault) (keys_stand file) → Gives r (settings_in file)
unfolding settings_in
keys_refuse r fault file err given = first_refuses r fault (keys_stand file) (λ _. names_stand (config_of file) >>= (λ _. Ok (config_of file))) err given

pub names_refuse : (r : Result Config ConfigFault) (fault : ConfigFault) (file : Members) (x : Unit {0}) (config : Config) → keys_stand file ≡ Ok x → config ≡ config_of file
    → IsErrAnd r (λ e. e ≡ fault) → Gives (Err fault) (names_stand config) → Gives r (settings_in file)
unfolding settings_in
names_refuse r fault file x config keys same err given =
    second_refuses r fault (keys_stand file) x (names_stand (config_of file)) (Ok (config_of file)) keys err
    (subst (λ (c : Config). Gives (Err fault) (names_stand c)) same given)

pub settings_read : (file : Members) (x : Unit {0}) (config : Config) (y : Unit {0}) → keys_stand file ≡ Ok x → config ≡ config_of file
    → names_stand config ≡ Ok y → settings_in file ≡ Ok config
unfolding settings_in
settings_read file x config y keys same names =
    both_pass (Ok config) (keys_stand file) x (names_stand (config_of file)) y (Ok (config_of file)) keys
    (subst (λ (c : Config). names_stand c ≡ Ok y) same names) (ap (λ c. Ok c) (sym same))

-- a text that is no document, and one that is
pub no_document : (r : Result Config ConfigFault) (fault : ConfigFault) (text : List ℕ) → IsErrAnd r (λ e. e ≡ fault)
    → (fault ≡ OutOfMemory) ⊎ ((fault ≡ BadToml) × (document_of text ≡ None)) → Gives r (settings_of text)
unfolding settings_of
no_document (Ok x) fault text err why = absurd err
no_document (Err e) fault text err (inl memory) = subst (λ (f : ConfigFault). Gives {A = Config} (Err f) (settings_from (document_of text))) (sym (err ∙ memory)) tt
no_document (Err e) fault text err (inr toml) = subst (λ (f : ConfigFault). Gives {A = Config} (Err f) (settings_from (document_of text))) (sym (err ∙ toml.0)) (rw toml.1 refl)

pub a_document : (r : Result Config ConfigFault) (file : Members) (text : List ℕ) → document_of text ≡ Some file → Gives r (settings_in file) → Gives r (settings_of text)
unfolding settings_of
a_document r file text e given = rw e given
