-- The error whose parts were read.
use Rattle.rws_msgs.specs.declared.err_msg.ErrMsg.{ErrMsg}
use Rattle.rws_msgs.specs.declared.err_msg.Parts.{Parts}

abbrev pub err_of : Parts → ErrMsg
err_of parts = record { code = parts.code; state = parts.state; text = parts.text.now }
