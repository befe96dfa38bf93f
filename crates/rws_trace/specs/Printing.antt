-- The lines that the program prints.
use Rattle.std.specs.Prelude.{ℕ, List, [], ◌++◌, codes, decimal, flat_map}
use Rattle.hex.specs.Hex.{encode_lower}
use Rattle.rws_board.specs.declared.action.Action.{Action}
use Rattle.rws_board.specs.declared.action.Action.TheVariants.{Open, ToClient, ToLink, Drop, Close}
use Rattle.rws_board.specs.declared.interaction.Interaction.{Interaction}
use Rattle.rws_board.specs.declared.interaction.Interaction.TheVariants.{Gave, Took, Told}
use Rattle.rws_gtid.specs.Spelling.{gtid_text}
use Rattle.rws_pool.specs.declared.events.PoolCall.{PoolCall}
use Rattle.rws_pool.specs.declared.events.PoolCall.TheVariants.{Route, Record, Observe}
use Rattle.rws_wire.specs.declared.close_reason.CloseReason.{CloseReason}
use Rattle.rws_wire.specs.declared.close_reason.CloseReason.TheVariants.{Quit, Handshake, Access, Connections, OutOfOrder, TooLarge, Flooded, ResultCut, OutcomeUnknown, SessionState, NotReplayable, Mismatch, Attempts, ReplayTime, Memory}
use Rattle.rws_wire.specs.declared.drop_cause.DropCause.{DropCause}
use Rattle.rws_wire.specs.declared.drop_cause.DropCause.TheVariants.{BadWire, BadReply, Unasked, Greeting, Plugin, Login, SessionDiffers, Probe, Kept, Replay, End}

-- why a link is dropped
abbrev pub cause_text : DropCause → List ℕ
cause_text BadWire = codes "bad-wire"
cause_text BadReply = codes "bad-reply"
cause_text Unasked = codes "unasked"
cause_text Greeting = codes "greeting"
cause_text Plugin = codes "plugin"
cause_text (Login code) = codes "login " ++ decimal code
cause_text SessionDiffers = codes "session-differs"
cause_text Probe = codes "probe"
cause_text Kept = codes "kept"
cause_text Replay = codes "replay"
cause_text End = codes "end"

-- why a session is closed
abbrev pub reason_text : CloseReason → List ℕ
reason_text Quit = codes "quit"
reason_text Handshake = codes "handshake"
reason_text Access = codes "access"
reason_text Connections = codes "connections"
reason_text (OutOfOrder want got) = codes "out-of-order"
reason_text (TooLarge length) = codes "too-large"
reason_text (Flooded held) = codes "flooded"
reason_text ResultCut = codes "result-cut"
reason_text OutcomeUnknown = codes "outcome-unknown"
reason_text SessionState = codes "session-state"
reason_text (NotReplayable bytes tainted read_only off) = codes "not-replayable"
reason_text (Mismatch item old new) = codes "mismatch " ++ decimal item
reason_text Attempts = codes "attempts"
reason_text (ReplayTime from_ms now_ms) = codes "replay-time"
reason_text Memory = codes "memory"

-- a line: a word, a number, a space, a text and a line feed
abbrev pub line : List ℕ → ℕ → List ℕ → List ℕ
line word number text = word ++ (decimal number ++ (codes " " ++ (text ++ codes "\n")))

-- the line of an action
abbrev pub action_text : Action → List ℕ
action_text (Open link server session) = line (codes "open ") link (decimal server ++ (codes " " ++ decimal session))
action_text (ToClient session bytes) = line (codes "client ") session (encode_lower bytes)
action_text (ToLink link bytes) = line (codes "link ") link (encode_lower bytes)
action_text (Drop link cause) = line (codes "drop ") link (cause_text cause)
action_text (Close session reason) = line (codes "close ") session (reason_text reason)

-- the line of a step of the pool
abbrev pub call_text : PoolCall → List ℕ
call_text (Route session) = codes "route " ++ (decimal session ++ codes "\n")
call_text (Record server gtid) = line (codes "record ") server (gtid_text gtid)
call_text (Observe round) = codes "observed\n"

-- what is printed of what a board did: nothing of an event
abbrev pub text_of_one : Interaction → List ℕ
text_of_one (Gave event) = []
text_of_one (Took action) = action_text action
text_of_one (Told call) = call_text call

-- what is printed of all that a board did
abbrev pub text_of : List Interaction → List ℕ
text_of interactions = flat_map text_of_one interactions

-- the line that ends the trace of a script of so many events
abbrev pub end_line : ℕ → List ℕ
end_line events = codes "end " ++ (decimal events ++ codes "\n")

-- the line that names a bad line
abbrev pub bad_line : ℕ → List ℕ
bad_line number = codes "bad line " ++ (decimal number ++ codes "\n")

-- what the program says to a faulty command line
abbrev pub usage_line : List ℕ
usage_line = codes "usage: rwsplit trace SETTINGS | simulate SETTINGS N SESSIONS STEPS | serve SETTINGS | check SETTINGS FILE\n"
