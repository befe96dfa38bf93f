-- The greeting whose parts were read.
use Rattle.rws_msgs.specs.declared.greeting.Greeting.{Greeting}
use Rattle.rws_msgs.specs.declared.greeting.Parts.{Parts}

abbrev pub greeting_of : Parts → Greeting
greeting_of parts = record {
  version = parts.version.now;
  id = parts.id;
  scramble = parts.scramble;
  capabilities = parts.abilities.capabilities;
  charset = parts.abilities.charset;
  status = parts.abilities.status;
  plugin = parts.plugin.now;
}
