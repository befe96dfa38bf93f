-- What one line of a trace says. Its words are parted by one space each, and the first is its keyword:
--     accept SESSION SCRAMBLE
--     begin SESSION SERVER
--     client SESSION HEX
--     gone SESSION
--     ready LINK
--     link LINK HEX
--     lost LINK
--     clock MS
--     observe SERVER=STATE:SEQUENCE ..
-- A number is decimal digits without a leading zero, SERVER is an index of the settings' servers, and HEX is two or
-- more hex digits, an even number of them. SCRAMBLE is HEX of twenty bytes, none of them zero. Where the settings' first
-- account has a password no session may begin by a `begin` line. MS and SEQUENCE are below 2^64. An `observe` line has
-- one word or more, which name servers by rising indexes; STATE is `down`, `running`, `slave`, `master` or `maintenance`.
use Rattle.std.specs.Prelude.{ℕ, ◌+◌, ◌-◌, ◌^◌, ◌==◌, ◌&&◌, not, nat_le, Bool, false, if◌then◌else◌, List, [], ◌∷◌, replicate, slice_set, codes, bytes_eq, Option, Some, None, option_map}
use Rattle.std.specs.Char.{is_ascii_digit}
use Rattle.std.specs.List.{list_all, list_any, slice_split}
use Rattle.std.specs.Option.{option_and_then}
use Rattle.std.specs.Result.{result_ok}
use Rattle.std.specs.Str.Parse.{digits_value}
use Rattle.hex.specs.Hex.{decode_of, decode_sized}
use Rattle.rws_board.specs.declared.event.Event.{Event}
use Rattle.rws_board.specs.declared.event.Event.TheVariants.{Accept, Begin, ClientBytes, ClientGone, LinkReady, LinkBytes, LinkGone, Clock, Observed}
use Rattle.rws_pool.specs.declared.words.Round.{Round}
use Rattle.rws_pool.specs.declared.words.Seen.{Seen}
use Rattle.rws_pool.specs.declared.words.State.{State}
use Rattle.rws_pool.specs.declared.words.State.TheVariants.{Down, Running, Slave, Master, Maintenance}
use Rattle.rws_trace.specs.declared.event_line.EventLine.{EventLine}
use Rattle.rws_trace.specs.declared.naming.Naming.{Naming}
use Rattle.rws_trace.specs.declared.settings.TraceSettings.{TraceSettings}
use Rattle.rws_trace.specs.declared.event_line.EventLine.TheVariants.{Silent, Says, Bad}

-- the words of a line
abbrev pub words_of : List ℕ → List (List ℕ)
words_of line = slice_split (λ byte. byte == 32) line

-- a zero stands before others
abbrev pub has_leading_zero : List ℕ → Bool
has_leading_zero (digit ∷ next ∷ digits) = digit == 48
has_leading_zero word = false

-- decimal digits, with no zero before others
abbrev pub is_number : List ℕ → Bool
is_number [] = false
is_number word = not (has_leading_zero word) && list_all is_ascii_digit word

-- the number that a word writes, if it is neither below `least` nor above `most`
abbrev pub number_within : ℕ → ℕ → List ℕ → Option ℕ
number_within least most word =
    let number = digits_value 10 word in
    if is_number word && (nat_le least number && nat_le number most) then Some number else None

abbrev pub session_of : List ℕ → Option ℕ
session_of word = number_within 1 (2 ^ 32 - 1) word

abbrev pub link_of : List ℕ → Option ℕ
link_of word = number_within 1 (2 ^ 64 - 1) word

-- a number below 2^64
abbrev pub number_of : List ℕ → Option ℕ
number_of word = number_within 0 (2 ^ 64 - 1) word

-- the index of one of so many servers, none below `least`
abbrev pub server_from : ℕ → ℕ → List ℕ → Option ℕ
server_from least servers word = number_within least (servers - 1) word

-- the bytes that a word writes in hex, one or more
abbrev pub bytes_of : List ℕ → Option (List ℕ)
bytes_of [] = None
bytes_of word = result_ok (decode_of word)

-- bytes of which none is zero
abbrev pub unless_zero : Option (List ℕ) → Option (List ℕ)
unless_zero (Some bytes) = if list_any (λ byte. byte == 0) bytes then None else Some bytes
unless_zero None = None

-- the twenty bytes that a word writes in hex, if none is zero
abbrev pub scramble_of : List ℕ → Option (List ℕ)
scramble_of word = unless_zero (result_ok (decode_sized word 20))

-- f of the two values, if both are there
abbrev pub with_both : {A B C : Type 0} → (A → B → C) → Option A → Option B → Option C
with_both f (Some a) (Some b) = Some (f a b)
with_both f (Some a) None = None
with_both f None b = None

abbrev pub begin_of : TraceSettings → List ℕ → List ℕ → Option Event
begin_of settings session server =
    if settings.plain then with_both Begin (session_of session) (server_from 0 settings.servers server) else None

abbrev pub event_of_two : List ℕ → List ℕ → Option Event
event_of_two keyword number =
    if bytes_eq keyword (codes "gone") then option_map ClientGone (session_of number)
    else if bytes_eq keyword (codes "ready") then option_map LinkReady (link_of number)
    else if bytes_eq keyword (codes "lost") then option_map LinkGone (link_of number)
    else if bytes_eq keyword (codes "clock") then option_map Clock (number_of number)
    else None

abbrev pub event_of_three : TraceSettings → List ℕ → List ℕ → List ℕ → Option Event
event_of_three settings keyword number word =
    if bytes_eq keyword (codes "accept") then with_both Accept (session_of number) (scramble_of word)
    else if bytes_eq keyword (codes "begin") then begin_of settings number word
    else if bytes_eq keyword (codes "client") then with_both ClientBytes (session_of number) (bytes_of word)
    else if bytes_eq keyword (codes "link") then with_both LinkBytes (link_of number) (bytes_of word)
    else None

abbrev pub event_of_few : TraceSettings → List ℕ → List (List ℕ) → Option Event
event_of_few settings keyword (number ∷ []) = event_of_two keyword number
event_of_few settings keyword (number ∷ word ∷ []) = event_of_three settings keyword number word
event_of_few settings keyword words = None

abbrev pub state_of : List ℕ → Option State
state_of word =
    if bytes_eq word (codes "down") then Some Down
    else if bytes_eq word (codes "running") then Some Running
    else if bytes_eq word (codes "slave") then Some Slave
    else if bytes_eq word (codes "master") then Some Master
    else if bytes_eq word (codes "maintenance") then Some Maintenance
    else None

abbrev pub seen_as : State → ℕ → Seen
seen_as state position = record { state = state; position = position }

-- the two parts of a text in which this byte stands once
abbrev pub two_of : List (List ℕ) → Option (List ℕ × List ℕ)
two_of (left ∷ right ∷ []) = Some (left, right)
two_of parts = None

abbrev pub halves : ℕ → List ℕ → Option (List ℕ × List ℕ)
halves byte text = two_of (slice_split (λ b. b == byte) text)

-- what is seen of a server, by STATE:SEQUENCE
abbrev pub seen_of : List ℕ → Option Seen
seen_of text = option_and_then (λ parts. with_both seen_as (state_of parts.0) (number_of parts.1)) (halves 58 text)

-- which server a word SERVER=STATE:SEQUENCE names, none below `least`, and what is seen of it
abbrev pub named_from : ℕ → ℕ → List ℕ → Option (ℕ × Seen)
named_from least servers word =
    option_and_then (λ parts. with_both (λ server seen. (server, seen)) (server_from least servers parts.0) (seen_of parts.1)) (halves 61 word)

-- one server more is named
abbrev pub with_named : Naming → ℕ × Seen → Naming
with_named naming named = record { least = named.0 + 1; seen = slice_set naming.seen named.0 (Some named.1) }

abbrev pub name_one : ℕ → Naming → List ℕ → Option Naming
name_one servers naming word = option_map (with_named naming) (named_from naming.least servers word)

-- what is named behind some words
abbrev pub name_all : ℕ → List (List ℕ) → Naming → Option Naming
name_all servers [] naming = Some naming
name_all servers (word ∷ words) naming = option_and_then (λ more. name_all servers words more) (name_one servers naming word)

abbrev pub none_named : Naming
none_named = record { least = 0; seen = replicate 7 None }

abbrev pub round_by : Naming → Round
round_by naming = record { seen = naming.seen }

-- the round in which words name servers
abbrev pub round_of : ℕ → List (List ℕ) → Option Round
round_of servers words = option_map round_by (name_all servers words none_named)

-- the event that the words of a line say
abbrev pub event_of : TraceSettings → List (List ℕ) → Option Event
event_of settings (keyword ∷ word ∷ words) =
    if bytes_eq keyword (codes "observe") then option_map Observed (round_of settings.servers (word ∷ words))
    else event_of_few settings keyword (word ∷ words)
event_of settings words = None

abbrev pub said_or_bad : Option Event → EventLine
said_or_bad (Some event) = Says event
said_or_bad None = Bad

-- what a line says by itself: an empty line and a comment, which begins with `#`, say nothing
abbrev pub meaning_of : TraceSettings → List ℕ → EventLine
meaning_of settings [] = Silent
meaning_of settings (byte ∷ line) = if byte == 35 then Silent else said_or_bad (event_of settings (words_of (byte ∷ line)))
