-- Which command a payload is, by its first byte ("Text protocol", "Utility commands" and "Binary protocol (prepared
-- statements)" of MariaDB's documentation).
use Rattle.std.specs.Prelude.{ℕ, List, [], ◌∷◌, ◌==◌, if◌then◌else◌}
use Rattle.rws_msgs.specs.declared.command.TheConstants.{COM_QUIT, COM_INIT_DB, COM_QUERY, COM_FIELD_LIST, COM_PING, COM_STMT_PREPARE, COM_STMT_EXECUTE, COM_STMT_SEND_LONG_DATA, COM_STMT_CLOSE, COM_STMT_RESET, COM_SET_OPTION, COM_STMT_FETCH, COM_RESET_CONNECTION}
use Rattle.rws_class.specs.Classes.{class_of}
use Rattle.rws_class.specs.declared.class.Class.{Class}
use Rattle.rws_class.specs.declared.class.Class.TheVariants.{PrimaryRead, Session, Other}
use Rattle.rws_commands.specs.declared.request.Request.{Request}
use Rattle.rws_commands.specs.declared.request.Request.TheVariants.{Quit, Ping, Query, FieldList, InitDb, Prepare, Execute, SendLongData, CloseStatement, ResetStatement, Unsupported, Unknown}

abbrev pub request_by : ℕ → Request
request_by code =
    if code == COM_QUIT then Quit
    else (if code == COM_QUERY then Query
    else (if code == COM_FIELD_LIST then FieldList
    else (if code == COM_PING then Ping
    else (if code == COM_SET_OPTION then Unsupported
    else (if code == COM_STMT_FETCH then Unsupported
    else (if code == COM_RESET_CONNECTION then Unsupported
    else (if code == COM_INIT_DB then InitDb
    else (if code == COM_STMT_PREPARE then Prepare
    else (if code == COM_STMT_EXECUTE then Execute
    else (if code == COM_STMT_SEND_LONG_DATA then SendLongData
    else (if code == COM_STMT_CLOSE then CloseStatement
    else (if code == COM_STMT_RESET then ResetStatement
    else Unknown))))))))))))

-- a payload without any byte is no command
abbrev pub request_of : List ℕ → Request
request_of [] = Unknown
request_of (code ∷ arguments) = request_by code

-- what stands behind the command byte: of a query or a prepare its text
abbrev pub arguments_of : List ℕ → List ℕ
arguments_of [] = []
arguments_of (code ∷ arguments) = arguments

-- The class of what a command does. A query has that of its text; a prepare sets the session, and an execute has a class by its
-- statement. A command that no server is to answer counts as one of which nothing is known.
abbrev pub class_by : Request → List ℕ → Class
class_by Query payload = class_of (arguments_of payload)
class_by FieldList payload = PrimaryRead
class_by InitDb payload = Session
class_by Prepare payload = Session
class_by _ payload = Other
