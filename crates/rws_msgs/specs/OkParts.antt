-- The OK whose parts were read.
use Rattle.rws_msgs.specs.declared.ok_msg.OkMsg.{OkMsg}
use Rattle.rws_msgs.specs.declared.ok_msg.Parts.{Parts}

abbrev pub ok_of : Parts → OkMsg
ok_of parts = record {
  affected = parts.affected;
  insert_id = parts.insert_id;
  status = parts.status;
  warnings = parts.warnings;
  info = parts.info.now;
  state = parts.state.now;
}
