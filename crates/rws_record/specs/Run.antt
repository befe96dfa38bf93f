-- The run of a worker: the events that it was given, what they told its sessions, what its sessions did, and which
-- rounds of the monitor it took into the words of the pool, in one list, newest first.
use Rattle.std.specs.Prelude.{◌≡◌, ℕ, ◌+◌, max, min, Bool, true, false, not, List, [], ◌∷◌, ◌++◌, length, drop, filter, map, nat_lt, ◌==◌, ◌&&◌, Option, Some, None, is_some, if◌then◌else◌}
use Rattle.std.specs.Option.{option_map}
use Rattle.std.specs.List.{range_with_len}
use Rattle.rws_board.specs.declared.event.Event.{Event}
use Rattle.rws_board.specs.declared.event.Event.TheVariants as events
use Rattle.rws_board.specs.declared.interaction.Interaction.{Interaction}
use Rattle.rws_board.specs.declared.interaction.Interaction.TheVariants.{Told}
use Rattle.rws_pool.specs.declared.events.PoolCall.TheVariants as calls
use Rattle.rws_pool.specs.declared.events.PoolEvent.{PoolEvent}
use Rattle.rws_pool.specs.declared.events.PoolEvent.TheVariants.{Record, Observe}
use Rattle.rws_pool.specs.declared.words.Round.{Round}
use Rattle.rws_pool.specs.declared.words.Seen.{Seen}
use Rattle.rws_pool.specs.declared.words.PoolWords.{PoolWords}
use Rattle.rws_pool.specs.Machine.{new_words, pool_from}
use Rattle.rws_select.specs.declared.selector.Load.{Load}
use Rattle.rws_config.specs.declared.config.Config.{Config}
use Rattle.rws_record.specs.Item.{Item}
use Rattle.rws_record.specs.Item.Item.{Accepted, TurnsAway, Began, ClientBytes, LinkReady, LinkBytes, ClientGone, LinkLost, Ticks, Routed, Puts, Starves}
use Rattle.rws_record.specs.Item.Put.{Records}
use Rattle.rws_link.specs.Stepping.{LinkState, is_new}
use Rattle.rws_record.specs.Values.{opens, links, linked, exchange, server_of, asking, is_over, is_starved, contains}
use Rattle.rws_record.specs.Rules.{found_in, next, ◌or◌}
use Rattle.rws_record.specs.Record.{CanBeMade, want_number}
use Rattle.rws_record.specs.Outputs.{done_for}

pub data Entry : Type 0 where
  -- an event came
  Came : Event → Entry
  -- the last event told a session this
  Heard : (session : ℕ) → Item → Entry
  -- a session went on by a step of its own, or was answered by its worker
  Did : (session : ℕ) → Item → Entry
  -- the words of the pool took in a round of the monitor
  Observes : Round → Entry

-- the record of one session
abbrev pub record_of : ℕ → List Entry → List Item
record_of session [] = []
record_of session (Came event ∷ run) = record_of session run
record_of session (Heard other item ∷ run) = if other == session then item ∷ record_of session run else record_of session run
record_of session (Did other item ∷ run) = if other == session then item ∷ record_of session run else record_of session run
record_of session (Observes round ∷ run) = record_of session run

-- Sessions and links

-- the session began, and isn't over
abbrev pub is_live : List Item → Bool
is_live [] = false
is_live (item ∷ past) = not (is_over (item ∷ past))

-- the number of the session that an event is to begin, or 0
abbrev pub begun_by : Event → ℕ
begun_by (events.Accept session scramble) = session
begun_by (events.Begin session server) = session
begun_by _ = 0

-- the greatest number of a session that was to begin so far
abbrev pub greatest : List Entry → ℕ
greatest [] = 0
greatest (Came event ∷ run) = max (begun_by event) (greatest run)
greatest (_ ∷ run) = greatest run

-- the session that an entry begins, if it does; one that is turned away begins too, and is over as soon as it rests
abbrev pub begins_session : ℕ → Item → List ℕ
begins_session session (Accepted number scramble reading) = session ∷ []
begins_session session (TurnsAway told) = session ∷ []
begins_session session (Began link server reading) = session ∷ []
begins_session session _ = []

-- the sessions that ever began, in order of number
abbrev pub begun : List Entry → List ℕ
begun [] = []
begun (Heard session item ∷ run) = begun run ++ begins_session session item
begun (_ ∷ run) = begun run

-- the sessions that are open
abbrev pub open_sessions : List Entry → List ℕ
open_sessions run = filter (λ session. is_live (record_of session run)) (begun run)

-- the reading of an event of the clock
abbrev pub reading_by : Event → ℕ → ℕ
reading_by (events.Clock now) before = now
reading_by _ before = before

-- the clock's last reading
abbrev pub last_clock : List Entry → ℕ
last_clock [] = 0
last_clock (Came event ∷ run) = reading_by event (last_clock run)
last_clock (_ ∷ run) = last_clock run

-- the session and the number of the link that an entry opens
abbrev pub opens_for : Entry → Option (ℕ × ℕ)
opens_for (Came event) = None
opens_for (Heard session item) = option_map (λ opened. (session, opened.0)) (opens item)
opens_for (Did session item) = option_map (λ opened. (session, opened.0)) (opens item)
opens_for (Observes round) = None

abbrev pub link_by : Option (ℕ × ℕ) → ℕ → ℕ
link_by (Some opened) before = opened.1
link_by None before = before

-- the number of the link that was opened last; links are numbered from 1 in order of opening
abbrev pub last_link : List Entry → ℕ
last_link [] = 0
last_link (entry ∷ run) = link_by (opens_for entry) (last_link run)

abbrev pub owner_by : ℕ → Option (ℕ × ℕ) → Option ℕ → Option ℕ
owner_by link (Some opened) before = if opened.1 == link then Some opened.0 else before
owner_by link None before = before

-- the session for which the link was opened
abbrev pub owner : ℕ → List Entry → Option ℕ
owner link [] = None
owner link (entry ∷ run) = owner_by link (opens_for entry) (owner link run)

-- What an event tells, and to whom

abbrev pub if_so : {A : Type 0} → Bool → A → List A
if_so true a = a ∷ []
if_so false a = []

-- to the session, if it goes on
abbrev pub told_to : ℕ → Item → List Entry → List (ℕ × Item)
told_to session item run = if_so (is_live (record_of session run)) (session, item)

-- to the session for which the link was opened, if it still has the link, and the link is so
abbrev pub told_on : ℕ → Item → (LinkState → Bool) → Option ℕ → List Entry → List (ℕ × Item)
told_on link item is_so None run = []
told_on link item is_so (Some session) run =
    let past = record_of session run in
    if_so (is_live past && (contains link (links past) && is_so (linked link past))) (session, item)

-- a further session may be open
abbrev pub has_room : Config → List Entry → Bool
has_room config run = nat_lt (length (open_sessions run)) config.sessions

-- how a session begins, or that its client is turned away
abbrev pub beginning : Bool → Item → (told : Bool) → Item
beginning true item told = item
beginning false item told = TurnsAway told

-- A session begins with a number above all before, and a link to a server of the settings where it has one from the
-- beginning; whatever names a session or a link that isn't open tells nobody anything.
abbrev pub told_by : Config → Event → List Entry → List (ℕ × Item)
told_by config (events.Accept session scramble) run =
    if_so (nat_lt (greatest run) session) (session, beginning (has_room config run) (Accepted session scramble (last_clock run)) true)
told_by config (events.Begin session server) run =
    if_so (nat_lt (greatest run) session && nat_lt server (length config.servers))
    (session, beginning (has_room config run) (Began (last_link run + 1) server (last_clock run)) false)
told_by config (events.ClientBytes session bytes) run = told_to session (ClientBytes bytes) run
told_by config (events.ClientGone session) run = told_to session ClientGone run
told_by config (events.LinkReady link) run = told_on link (LinkReady link) (λ state. is_new state) (owner link run) run
told_by config (events.LinkBytes link bytes) run = told_on link (LinkBytes link bytes) (λ state. true) (owner link run) run
told_by config (events.LinkGone link) run = told_on link (LinkLost link) (λ state. true) (owner link run) run
-- what the clock shows is told to each session, in order of number
told_by config (events.Clock now) run = map (λ session. (session, Ticks now)) (open_sessions run)
told_by config (events.Observed round) run = []
told_by config events.End run = []

-- what the last event tells that wasn't heard yet
abbrev pub untold : Config → List Entry → List (ℕ × Item)
untold config [] = []
untold config (Came event ∷ run) = told_by config event run
untold config (Heard session item ∷ run) = drop 1 (untold config run)
untold config (Did session item ∷ run) = untold config run
untold config (Observes round ∷ run) = untold config run

-- What is taken in of an event

-- no server is named
abbrev pub names_none : List (Option Seen) → Bool
names_none [] = true
names_none (None ∷ more) = names_none more
names_none (Some seen ∷ more) = false

-- none is named but those below this number
abbrev pub names_only : ℕ → Round → Bool
names_only count round = names_none (drop count round.seen)

-- a round of the monitor, unless it names a server that the settings lack
abbrev pub round_of : Config → Event → Option Round
round_of config (events.Observed round) = if names_only (length config.servers) round then Some round else None
round_of config _ = None

-- what is to be taken in of the last event and wasn't yet
abbrev pub unobserved : Config → List Entry → Option Round
unobserved config [] = None
unobserved config (Came event ∷ run) = round_of config event
unobserved config (Observes round ∷ run) = None
unobserved config (_ ∷ run) = unobserved config run

-- the session that heard of the last event last
abbrev pub hearer : List Entry → Option ℕ
hearer [] = None
hearer (Came event ∷ run) = None
hearer (Heard session item ∷ run) = Some session
hearer (Did session item ∷ run) = hearer run
hearer (Observes round ∷ run) = hearer run

-- The words of the pool, and the worker's loads

-- the steps that the words took in a run, oldest first
abbrev pub pool_events_of : List Entry → List PoolEvent
pool_events_of [] = []
pool_events_of (Did session (Puts (Records server gtid)) ∷ run) = pool_events_of run ++ Record server gtid ∷ []
pool_events_of (Observes round ∷ run) = pool_events_of run ++ Observe round ∷ []
pool_events_of (_ ∷ run) = pool_events_of run

abbrev pub words_of : Config → List Entry → PoolWords
words_of config run = pool_from (new_words config.gtid_domain) (pool_events_of run)

abbrev pub is_owed_on : ℕ → List Item → Bool
is_owed_on link past = is_some (exchange link past)

-- how many links a session has to a server, and on how many of them something awaits its reply
abbrev pub links_to : (server : ℕ) → List Item → List ℕ
links_to server past = filter (λ link. server_of link past == server) (links past)

abbrev pub pending_to : (server : ℕ) → List Item → List ℕ
pending_to server past = filter (λ link. is_owed_on link past) (links_to server past)

abbrev pub sum : List ℕ → ℕ
sum [] = 0
sum (number ∷ numbers) = number + sum numbers

-- the greatest count that a load has; with as many sessions as settings allow none comes near
abbrev pub capped : ℕ → ℕ
capped number = min number 65535

-- what the worker has open to a server
abbrev pub load_of : List Entry → (server : ℕ) → Load
load_of run server = record {
  pending = capped (sum (map (λ session. length (pending_to server (record_of session run))) (open_sessions run)));
  links = capped (sum (map (λ session. length (links_to server (record_of session run))) (open_sessions run)));
}

abbrev pub loads_of : List Entry → List Load
loads_of run = map (λ server. load_of run server) (range_with_len 0 7)

-- The run

abbrev pub step_of : Config → Option ℕ → List Entry → Option Entry
step_of config None run = None
step_of config (Some session) run = option_map (λ item. Did session item) (next config (record_of session run))

-- the worker's answer to a session that asks
abbrev pub answer_for : Config → ℕ → List Entry → Item
answer_for config session run =
    let words = words_of config run in
    let loads = loads_of run in
    Routed words loads (last_link run + 1) (found_in config (record_of session run) words loads)

abbrev pub answering : Config → (asks : Bool) → ℕ → List Entry → Option Entry
answering config true session run = Some (Did session (answer_for config session run))
answering config false session run = None

-- the worker answers the session that asks it
abbrev pub answer_of : Config → Option ℕ → List Entry → Option Entry
answer_of config None run = None
answer_of config (Some session) run = answering config (asking (record_of session run)) session run

abbrev pub hearing : List (ℕ × Item) → Option Entry
hearing [] = None
hearing (told ∷ others) = Some (Heard told.0 told.1)

abbrev pub observing : Option Round → Option Entry
observing round = option_map (λ r. Observes r) round

-- The next entry but an event: the session that heard something goes on until it rests, the worker's answers between, then
-- the next one hears what it is told, and at last the words take the round in. None where the run rests.
abbrev pub next_entry : Config → List Entry → Option Entry
next_entry config run =
    step_of config (hearer run) run or (answer_of config (hearer run) run or (hearing (untold config run) or observing (unobserved config run)))

-- Each event comes when the run rests, and each other entry is the next one; but to the session that heard of the last
-- event memory may be wanting, once.
pub data IsRun (config : Config) : List Entry → Type 0 where
  starts : IsRun config []
  came : {run : List Entry} {event : Event} → IsRun config run → next_entry config run ≡ None
      → IsRun config (Came event ∷ run)
  goes_on : {run : List Entry} {entry : Entry} → IsRun config run → next_entry config run ≡ Some entry
      → IsRun config (entry ∷ run)
  starves : {run : List Entry} {session number : ℕ} {made : Bool} → IsRun config run → hearer run ≡ Some session
      → is_starved (record_of session run) ≡ false → CanBeMade made (record_of session run)
      → number ≡ want_number config (record_of session run)
      → IsRun config (Did session (Starves made number) ∷ run)

abbrev pub is_want : Item → Bool
is_want (Starves made number) = true
is_want _ = false

-- memory was wanting nowhere in the run
abbrev pub is_ample : List Entry → Bool
is_ample [] = true
is_ample (Did session item ∷ run) = not (is_want item) && is_ample run
is_ample (_ ∷ run) = is_ample run

-- What is known of a run outside

-- the events of a run, oldest first
abbrev pub events_of : List Entry → List Event
events_of [] = []
events_of (Came event ∷ run) = events_of run ++ event ∷ []
events_of (_ ∷ run) = events_of run

-- what is done outside in a run, oldest first
abbrev pub done_in : List Entry → List Interaction
done_in [] = []
done_in (Did session item ∷ run) = done_in run ++ done_for session item (record_of session run)
done_in (Observes round ∷ run) = done_in run ++ Told (calls.Observe round) ∷ []
done_in (_ ∷ run) = done_in run

-- a run over these events that rests
pub record IsRunOver (config : Config) (events : List Event) (run : List Entry) : Type 0 where
  pub legal : IsRun config run
  pub rests : next_entry config run ≡ None
  pub heard : events_of run ≡ events
