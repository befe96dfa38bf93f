-- What is said of a settings file that is refused.
use Rattle.std.specs.Prelude.{ℕ, List, ◌++◌, codes}
use Rattle.std.specs.Fmt.{decimal}
use Rattle.rws_config.specs.declared.fault.ConfigFault.{ConfigFault}
use Rattle.rws_config.specs.declared.fault.ConfigFault.TheVariants.{BadToml, UnknownKey, Missing, BadValue, TooManyServers, Twice, OutOfMemory}

abbrev pub fault_text : ConfigFault → List ℕ
fault_text BadToml = codes "not TOML"
fault_text (UnknownKey key) = codes "unknown key " ++ key
fault_text (Missing key) = codes "missing " ++ key
fault_text (BadValue key) = codes "bad value " ++ key
fault_text (TooManyServers n) = codes "too many servers " ++ decimal n
fault_text (Twice name) = codes "twice " ++ name
fault_text OutOfMemory = codes "out of memory"
