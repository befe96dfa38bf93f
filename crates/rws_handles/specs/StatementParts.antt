-- The plain form of an execute whose parts were read.
use Rattle.std.specs.Prelude.{Bool, ◌==◌, ◌||◌, is_some}
use Rattle.rws_msgs.specs.declared.execute_head.ExecuteParts.{ExecuteParts}
use Rattle.rws_msgs.specs.ExecuteParts.{execute_of}
use Rattle.rws_handles.specs.Prepared.{Prepared}
use Rattle.rws_handles.specs.PlainForm.{Plain, or_last}

abbrev pub plain_of_parts : Prepared → ExecuteParts → Plain
plain_of_parts statement parts = record {
  text = statement.text;
  long_data = statement.long_data;
  bitmap = parts.bitmap.now;
  types = or_last (execute_of parts).types statement.types;
  values = parts.values.now;
}

-- the types of the parameters are known from the parts or from before, or there are no parameters
abbrev pub knows_types : Prepared → ExecuteParts → Bool
knows_types statement parts = (statement.parameters == 0) || is_some (or_last (execute_of parts).types statement.types)
