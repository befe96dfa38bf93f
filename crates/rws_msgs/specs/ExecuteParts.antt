-- The execute whose parts were read.
use Rattle.std.specs.Option.{option_map}
use Rattle.rws_msgs.specs.declared.execute_head.ExecuteHead.{ExecuteHead}
use Rattle.rws_msgs.specs.declared.execute_head.ExecuteParts.{ExecuteParts}

abbrev pub execute_of : ExecuteParts → ExecuteHead
execute_of parts = record {
  id = parts.id;
  flags = parts.flags;
  bitmap = parts.bitmap.now;
  types = option_map (λ types. types.now) parts.types;
  values = parts.values.now;
}
