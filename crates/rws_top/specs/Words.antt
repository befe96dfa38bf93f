-- What code asks for, as contracts name it.
use Rattle.std.specs.Prelude.{Bool, true, false}
use Rattle.rws_config.specs.declared.fault.ConfigFault.{ConfigFault}
use Rattle.rws_config.specs.declared.fault.ConfigFault.TheVariants.{OutOfMemory}
use Rattle.rws_top.specs.declared.asking.Asked.{Asked}
use Rattle.rws_top.specs.declared.asking.Asked.TheVariants as asked
use Rattle.rws_top.specs.Asking.{Asks}
use Rattle.rws_top.specs.Asking.Asks.{BuiltInTrace, FileTrace, Help, Nothing}

abbrev pub asked_for : Asked → Asks
asked_for asked.BuiltInTrace = BuiltInTrace
asked_for (asked.FileTrace path) = FileTrace path.now
asked_for asked.Help = Help
asked_for asked.Nothing = Nothing

-- memory was wanting for the settings
abbrev pub is_memory : ConfigFault → Bool
is_memory OutOfMemory = true
is_memory fault = false
