-- The switch whose parts were read.
use Rattle.rws_msgs.specs.declared.switch.Switch.{Switch}
use Rattle.rws_msgs.specs.declared.switch.Parts.{Parts}

abbrev pub switch_of : Parts → Switch
switch_of parts = record { plugin = parts.plugin.now; scramble = parts.scramble }
