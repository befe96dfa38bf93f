-- The errors that the proxy itself answers: code, SQL state and text.
use Rattle.std.specs.Prelude.{ℕ, List, ◌++◌, codes}
use Rattle.std.specs.Fmt.{decimal}
use Rattle.rws_msgs.specs.declared.err_msg.ErrMsg.{ErrMsg}
use Rattle.rws_commands.specs.declared.proxy_error.ProxyError.{ProxyError}
use Rattle.rws_commands.specs.declared.proxy_error.ProxyError.TheVariants.{UnknownCommand, NotSupported, UnknownStatement, BadExecute, TooManyStatements, NotInReadOnly, TooManyConnections, CommandTooLarge, NoPrimary, PrimaryBehind, OutOfMemory}

abbrev pub code_of : ProxyError → ℕ
code_of UnknownCommand = 1047
code_of NotSupported = 1235
code_of UnknownStatement = 1243
code_of BadExecute = 1105
code_of TooManyStatements = 1461
code_of NotInReadOnly = 1235
code_of TooManyConnections = 1040
code_of CommandTooLarge = 1153
code_of NoPrimary = 1105
code_of (PrimaryBehind wanted found) = 1105
code_of OutOfMemory = 1037

abbrev pub state_of : ProxyError → List ℕ
state_of UnknownCommand = codes "08S01"
state_of NotSupported = codes "42000"
state_of UnknownStatement = codes "HY000"
state_of BadExecute = codes "HY000"
state_of TooManyStatements = codes "42000"
state_of NotInReadOnly = codes "42000"
state_of TooManyConnections = codes "08004"
state_of CommandTooLarge = codes "08S01"
state_of NoPrimary = codes "HY000"
state_of (PrimaryBehind wanted found) = codes "HY000"
state_of OutOfMemory = codes "HY001"

abbrev pub text_of : ProxyError → List ℕ
text_of UnknownCommand = codes "unknown command"
text_of NotSupported = codes "not supported"
text_of UnknownStatement = codes "unknown statement handle"
text_of BadExecute = codes "bad execute"
text_of TooManyStatements = codes "too many statements"
text_of NotInReadOnly = codes "not in a read-only transaction"
text_of TooManyConnections = codes "too many connections"
text_of CommandTooLarge = codes "command too large"
text_of NoPrimary = codes "no primary"
text_of (PrimaryBehind wanted found) = codes "primary behind: wanted " ++ (decimal wanted ++ (codes ", found " ++ decimal found))
text_of OutOfMemory = codes "out of memory"

abbrev pub error_of : ProxyError → ErrMsg
error_of error = record { code = code_of error; state = state_of error; text = text_of error }
