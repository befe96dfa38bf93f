-- Lines, scripts and printed lines, computed.
use Rattle.std.proofs.Common.{◌≡◌, ℕ, List, [], ◌∷◌, ◌++◌, Option, Some, None, true, false, codes, refl}
use Rattle.hex.proofs.OnLiterals.{hex_on_literals}
use Rattle.std.specs.Fmt.{digits}
use Rattle.rws_trace.specs.Lines.{lines_of}
use Rattle.rws_trace.specs.EventLine.{meaning_of}
use Rattle.rws_trace.specs.Script.{script_of, ended, first_order, told_before, script_from}
use Rattle.rws_trace.specs.Printing.{action_text, call_text, text_of, end_line, bad_line}
use Rattle.rws_board.specs.declared.action.Action.TheVariants.{Open, ToClient, Drop, Close}
use Rattle.rws_board.specs.declared.event.Event.TheVariants.{Accept, Begin, ClientBytes, ClientGone, LinkReady, LinkBytes, LinkGone, Clock, Observed}
use Rattle.rws_board.specs.declared.interaction.Interaction.TheVariants.{Gave, Took, Told}
use Rattle.rws_pool.specs.declared.events.PoolCall.TheVariants.{Route, Record, Observe}
use Rattle.rws_pool.specs.declared.words.Round.{Round}
use Rattle.rws_pool.specs.declared.words.Seen.{Seen}
use Rattle.rws_pool.specs.declared.words.State.{State}
use Rattle.rws_pool.specs.declared.words.State.TheVariants.{Down, Running, Slave, Master, Maintenance}
use Rattle.rws_trace.specs.declared.event_line.EventLine.TheVariants.{Silent, Says, Bad}
use Rattle.rws_trace.specs.declared.settings.TraceSettings.{TraceSettings}
use Rattle.rws_wire.specs.declared.close_reason.CloseReason.TheVariants.{Mismatch, Memory}
use Rattle.rws_wire.specs.declared.drop_cause.DropCause.TheVariants.{Login}

-- three servers, and an account without a password
abbrev three : TraceSettings
three = record { servers = 3; plain = true }

-- a scramble
abbrev scramble : List ℕ
scramble = 65 ∷ 66 ∷ 67 ∷ 68 ∷ 69 ∷ 70 ∷ 71 ∷ 72 ∷ 73 ∷ 74 ∷ 75 ∷ 76 ∷ 77 ∷ 78 ∷ 79 ∷ 80 ∷ 81 ∷ 82 ∷ 83 ∷ 255 ∷ []

abbrev seen : State → ℕ → Seen
seen state position = record { state = state; position = position }

abbrev round : List (Option Seen) → Round
round all = record { seen = all }

-- an empty line is a line, and behind the last line feed there is none
lines-middle : lines_of (codes "ab\n\nc") ≡ codes "ab" ∷ [] ∷ codes "c" ∷ []
lines-middle = refl

lines-end : lines_of (codes "ab\n") ≡ codes "ab" ∷ []
lines-end = refl

lines-feed : lines_of (codes "\n") ≡ [] ∷ []
lines-feed = refl

says-accept : meaning_of three (codes "accept 4294967295 4142434445464748494a4B4c4D4e4f50515253fF") ≡ Says (Accept 4294967295 scramble)
unfolding hex_on_literals
says-accept = refl

-- one that needs no account without a password
says-accept-password : meaning_of (record { servers = 3; plain = false }) (codes "accept 1 4142434445464748494a4B4c4D4e4f50515253fF") ≡ Says (Accept 1 scramble)
unfolding hex_on_literals
says-accept-password = refl

says-begin : meaning_of three (codes "begin 4294967295 2") ≡ Says (Begin 4294967295 2)
says-begin = refl

says-client : meaning_of three (codes "client 7 0aFf") ≡ Says (ClientBytes 7 (10 ∷ 255 ∷ []))
unfolding hex_on_literals
says-client = refl

says-ready : meaning_of three (codes "ready 18446744073709551615") ≡ Says (LinkReady 18446744073709551615)
says-ready = refl

says-link : meaning_of three (codes "link 18446744073709551615 00") ≡ Says (LinkBytes 18446744073709551615 (0 ∷ []))
unfolding hex_on_literals
says-link = refl

says-gone : meaning_of three (codes "gone 1") ≡ Says (ClientGone 1)
says-gone = refl

says-lost : meaning_of three (codes "lost 12") ≡ Says (LinkGone 12)
says-lost = refl

says-clock : meaning_of three (codes "clock 18446744073709551615") ≡ Says (Clock 18446744073709551615)
says-clock = refl

says-observe : meaning_of three (codes "observe 0=master:18446744073709551615 2=down:0") ≡ Says (Observed (round (Some (seen Master 18446744073709551615) ∷ None ∷ Some (seen Down 0) ∷ None ∷ None ∷ None ∷ None ∷ [])))
says-observe = refl

says-observe-last : meaning_of (record { servers = 7; plain = false }) (codes "observe 1=maintenance:1 4=slave:2 6=running:3") ≡ Says (Observed (round (None ∷ Some (seen Maintenance 1) ∷ None ∷ None ∷ Some (seen Slave 2) ∷ None ∷ Some (seen Running 3) ∷ [])))
says-observe-last = refl

says-comment : meaning_of three (codes "# begin 1 0") ≡ Silent
says-comment = refl

bad-number : meaning_of three (codes "begin 01 0") ≡ Bad
bad-number = refl

bad-zero : meaning_of three (codes "gone 0") ≡ Bad
bad-zero = refl

bad-accept-38 : meaning_of three (codes "accept 1 4142434445464748494a4B4c4D4e4f50515253") ≡ Bad
unfolding hex_on_literals
bad-accept-38 = refl

bad-accept-39 : meaning_of three (codes "accept 1 4142434445464748494a4B4c4D4e4f50515253f") ≡ Bad
unfolding hex_on_literals
bad-accept-39 = refl

bad-accept-41 : meaning_of three (codes "accept 1 4142434445464748494a4B4c4D4e4f50515253fF0") ≡ Bad
unfolding hex_on_literals
bad-accept-41 = refl

bad-accept-42 : meaning_of three (codes "accept 1 4142434445464748494a4B4c4D4e4f50515253fF01") ≡ Bad
unfolding hex_on_literals
bad-accept-42 = refl

-- a zero byte, and none where two zeros stand in two bytes
bad-accept-zero : meaning_of three (codes "accept 1 4142434445464748494a004c4D4e4f50515253fF") ≡ Bad
unfolding hex_on_literals
bad-accept-zero = refl

says-accept-zeros : meaning_of three (codes "accept 1 1001434445464748494a4B4c4D4e4f50515253fF") ≡ Says (Accept 1 (16 ∷ 1 ∷ 67 ∷ 68 ∷ 69 ∷ 70 ∷ 71 ∷ 72 ∷ 73 ∷ 74 ∷ 75 ∷ 76 ∷ 77 ∷ 78 ∷ 79 ∷ 80 ∷ 81 ∷ 82 ∷ 83 ∷ 255 ∷ []))
unfolding hex_on_literals
says-accept-zeros = refl

bad-ready : meaning_of three (codes "ready 0") ≡ Bad
bad-ready = refl

bad-ready-zero : meaning_of three (codes "ready 01") ≡ Bad
bad-ready-zero = refl

bad-server : meaning_of three (codes "begin 1 3") ≡ Bad
bad-server = refl

bad-password : meaning_of (record { servers = 3; plain = false }) (codes "begin 1 0") ≡ Bad
bad-password = refl

bad-session : meaning_of three (codes "gone 4294967296") ≡ Bad
bad-session = refl

bad-link : meaning_of three (codes "lost 18446744073709551616") ≡ Bad
bad-link = refl

bad-blank : meaning_of three (codes "gone  1") ≡ Bad
bad-blank = refl

bad-end : meaning_of three (codes "gone 1 ") ≡ Bad
bad-end = refl

bad-odd : meaning_of three (codes "client 1 0") ≡ Bad
unfolding hex_on_literals
bad-odd = refl

bad-hex : meaning_of three (codes "client 1 0g") ≡ Bad
unfolding hex_on_literals
bad-hex = refl

bad-no_bytes : meaning_of three (codes "client 1 ") ≡ Bad
bad-no_bytes = refl

bad-clock : meaning_of three (codes "clock 18446744073709551616") ≡ Bad
bad-clock = refl

bad-clock-word : meaning_of three (codes "clock 1 0") ≡ Bad
bad-clock-word = refl

bad-observe-none : meaning_of three (codes "observe") ≡ Bad
bad-observe-none = refl

bad-observe-space : meaning_of three (codes "observe 0=down:0 ") ≡ Bad
bad-observe-space = refl

bad-observe-server : meaning_of three (codes "observe 3=down:0") ≡ Bad
bad-observe-server = refl

bad-observe-seven : meaning_of (record { servers = 7; plain = true }) (codes "observe 7=down:0") ≡ Bad
bad-observe-seven = refl

bad-observe-twice : meaning_of three (codes "observe 1=down:0 1=down:0") ≡ Bad
bad-observe-twice = refl

bad-observe-falling : meaning_of three (codes "observe 1=down:0 0=down:0") ≡ Bad
bad-observe-falling = refl

bad-observe-state : meaning_of three (codes "observe 0=Master:0") ≡ Bad
bad-observe-state = refl

bad-observe-colon : meaning_of three (codes "observe 0=down") ≡ Bad
bad-observe-colon = refl

bad-observe-colons : meaning_of three (codes "observe 0=down:0:0") ≡ Bad
bad-observe-colons = refl

bad-observe-equals : meaning_of three (codes "observe 0:down:0") ≡ Bad
bad-observe-equals = refl

bad-observe-sequence : meaning_of three (codes "observe 0=down:18446744073709551616") ≡ Bad
bad-observe-sequence = refl

bad-observe-zero : meaning_of three (codes "observe 0=down:00") ≡ Bad
bad-observe-zero = refl

bad-word : meaning_of three (codes "jump") ≡ Bad
bad-word = refl

-- the first trace
script-ping : script_of three (codes "begin 1 0\n\n# ping\nclient 1 010000000e\n") ≡ told_before (Begin 1 0) (told_before (ClientBytes 1 (1 ∷ 0 ∷ 0 ∷ 0 ∷ 14 ∷ [])) (ended None))
unfolding hex_on_literals
script-ping = refl

-- nothing counts behind a bad line
script-jump : script_of three (codes "begin 1 0\njump\ngone 1\n") ≡ told_before (Begin 1 0) (ended (Some 2))
script-jump = refl

-- sessions begin in rising order
script-order : script_of three (codes "begin 2 0\nbegin 4 0\ngone 2\nbegin 4 0") ≡ told_before (Begin 2 0) (told_before (Begin 4 0) (told_before (ClientGone 2) (ended (Some 4))))
script-order = refl

-- an accepted session is one of them
script-accept : script_of three (codes "accept 2 4142434445464748494a4B4c4D4e4f50515253fF\nbegin 4 0\nready 1\naccept 4 4142434445464748494a4B4c4D4e4f50515253fF") ≡ told_before (Accept 2 scramble) (told_before (Begin 4 0) (told_before (LinkReady 1) (ended (Some 4))))
unfolding hex_on_literals
script-accept = refl

script-accepted : script_of three (codes "accept 2 4142434445464748494a4B4c4D4e4f50515253fF\nbegin 2 0") ≡ told_before (Accept 2 scramble) (ended (Some 2))
unfolding hex_on_literals
script-accepted = refl

-- the clock may stand still, and a session that begins doesn't set it back
script-clock : script_of three (codes "clock 5\nclock 5\nbegin 1 0\nclock 4") ≡ told_before (Clock 5) (told_before (Clock 5) (told_before (Begin 1 0) (ended (Some 4))))
script-clock = refl

-- nor does the clock change which sessions may begin
script-clock_order : script_of three (codes "begin 2 0\nclock 5\nbegin 2 0") ≡ told_before (Begin 2 0) (told_before (Clock 5) (ended (Some 3)))
script-clock_order = refl

script-empty : script_of three [] ≡ ended None
script-empty = refl

-- the last line that is counted
script-last : script_from three 8589934591 first_order (codes "gone 1" ∷ codes "" ∷ []) ≡ told_before (ClientGone 1) (ended (Some 8589934592))
script-last = refl

printed-open : action_text (Open 18446744073709551615 6 4294967295) ≡ codes "open 18446744073709551615 6 4294967295\n"
unfolding digits
printed-open = refl

printed-client : action_text (ToClient 1 (10 ∷ 255 ∷ [])) ≡ codes "client 1 0aff\n"
unfolding hex_on_literals digits
printed-client = refl

printed-drop : action_text (Drop 18446744073709551615 (Login 1045)) ≡ codes "drop 18446744073709551615 login 1045\n"
unfolding digits
printed-drop = refl

printed-close : action_text (Close 2 (Mismatch 3 [] [])) ≡ codes "close 2 mismatch 3\n"
unfolding digits
printed-close = refl

printed-route : call_text (Route 4294967295) ≡ codes "route 4294967295\n"
unfolding digits
printed-route = refl

printed-record : call_text (Record 6 (record { domain = 0; server = 4294967295; sequence = 18446744073709551615 })) ≡ codes "record 6 0-4294967295-18446744073709551615\n"
unfolding digits
printed-record = refl

printed-observed : text_of (Gave (Clock 1) ∷ Told (Observe (round [])) ∷ Took (Close 2 Memory) ∷ []) ≡ codes "observed\nclose 2 memory\n"
unfolding digits
printed-observed = refl

printed-end : end_line 0 ++ bad_line 2 ≡ codes "end 0\nbad line 2\n"
unfolding digits
printed-end = refl
