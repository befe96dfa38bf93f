-- Runs of a worker over lists of events, computed by the definition: what each does was reasoned out by hand from the
-- rules, or by a model that shares nothing with this one. Bytes are written as in a trace.
use Rattle.std.proofs.Common.{◌≡◌, ℕ, suc, zero, ◌+◌, ◌-◌, ◌*◌, Bool, true, false, List, [], ◌∷◌, ◌++◌, refl, sym, ap, ◌∙◌, append_assoc, append-nil, subst, Option, Some, None, codes}
use Rattle.std.specs.Prelude.{nat_lt, ◌&&◌, if◌then◌else◌}
use Rattle.rws_wire.specs.declared.close_reason.CloseReason.{CloseReason}
use Rattle.rws_wire.specs.declared.close_reason.CloseReason.TheVariants.{Quit, OutOfOrder, ResultCut, OutcomeUnknown, SessionState, Memory}
use Rattle.rws_wire.specs.declared.drop_cause.DropCause.{DropCause}
use Rattle.rws_wire.specs.declared.drop_cause.DropCause.TheVariants.{BadWire, BadReply, Unasked, End as AtEnd}
use Rattle.rws_wire.specs.Lenenc.{lenenc, lenenc_bytes}
use Rattle.rws_wire.specs.Packets.{full_packet, spelling, number_behind}
use Rattle.rws_wire.specs.Payloads.{payload_behind, first_payload}
use Rattle.rws_msgs.specs.EofLayout.{eof_at}
use Rattle.rws_msgs.specs.ErrLayout.{err_at, err_code, err_bytes}
use Rattle.rws_msgs.specs.Fields.{bytes_at, number_at, fixed_at, lenenc_at, text_at, text_bytes, ended}
use Rattle.rws_msgs.specs.OkLayout.{state_at, texts_at, ok_at, ok_status, texts_bytes, ok_bytes}
use Rattle.rws_msgs.specs.PrepareOkLayout.{prepare_ok_at}
use Rattle.rws_reply.specs.Payloads.{eof_status, prepared_counts, column_count, is_definition, is_row}
use Rattle.rws_reply.specs.Tracking.{progress, role}
use Rattle.rws_reply.specs.ClientForm.{client_ok, client_form}
use Rattle.rws_token.specs.Lexeme.{same_word}
use Rattle.rws_words.specs.Words.{refused_names}
use Rattle.rws_class.specs.Classes.{class_of}
use Rattle.rws_board.specs.declared.action.Action.TheVariants.{ToClient, ToLink, Open, Drop, Close}
use Rattle.rws_board.specs.declared.event.Event.{Event}
use Rattle.rws_board.specs.declared.event.Event.TheVariants.{Begin, ClientBytes, ClientGone, Clock, LinkBytes, LinkGone, Observed, End}
use Rattle.rws_board.specs.declared.interaction.Interaction.{Interaction}
use Rattle.rws_board.specs.declared.interaction.Interaction.TheVariants.{Took, Told}
use Rattle.rws_pool.specs.declared.events.PoolCall.TheVariants.{Observe, Record, Route}
use Rattle.rws_pool.specs.declared.words.Round.{Round}
use Rattle.rws_pool.specs.declared.words.Seen.{Seen}
use Rattle.rws_pool.specs.declared.words.State.{State}
use Rattle.rws_pool.specs.declared.words.State.TheVariants.{Down, Master, Slave}
use Rattle.rws_config.specs.BuiltIn.{built_in}
use Rattle.rws_record.specs.Item.Item.{Starves}
use Rattle.rws_record.specs.Values.{is_starved}
use Rattle.rws_record.specs.Record.{CanBeMade, want_number}
use Rattle.rws_record.specs.Run.{Entry, IsRun, IsRunOver, hearer, record_of, next_entry, events_of, done_in}
use Rattle.rws_record.specs.Run.Entry.{Came, Did}
use Rattle.rws_record.specs.Run.IsRun.{starts, came, goes_on, starves}
use Rattle.rws_commands.specs.declared.command.Command.{Command}
use Rattle.rws_record.specs.Rules.{flood_by, flood_limit}
use Rattle.rws_record.proofs.EntryLemmas.{of_next_entry, same_events}
use Rattle.rws_causal.specs.Commits.{commit_in, commit_of, shown_at, entry_at, variables_at}
use Rattle.rws_gtid.specs.Parsing as parsing

-- The run over events, computed

abbrev gone_on : Option Entry → List Entry → List Entry
gone_on None run = run
gone_on (Some entry) run = entry ∷ run

-- after at most so many further entries
abbrev settled : ℕ → List Entry → List Entry
settled zero run = run
settled (suc fuel) run = settled fuel (gone_on (next_entry built_in run) run)

-- each event answered in at most so many entries
abbrev over : ℕ → List Event → List Entry → List Entry
over fuel [] run = run
over fuel (event ∷ events) run = over fuel events (settled fuel (Came event ∷ run))

abbrev is_none : Option Entry → Bool
is_none None = true
is_none (Some entry) = false

-- no answer took more
abbrev is_settled : ℕ → List Event → List Entry → Bool
is_settled fuel [] run = is_none (next_entry built_in run)
is_settled fuel (event ∷ events) run =
    is_none (next_entry built_in run) && is_settled fuel events (settled fuel (Came event ∷ run))

-- What is computed is a legal run

gone_on_legal : (run : List Entry) (entry : Option Entry) → IsRun built_in run → next_entry built_in run ≡ entry
    → IsRun built_in (gone_on entry run)
gone_on_legal run None legal next = legal
gone_on_legal run (Some entry) legal next = goes_on legal next

settled_legal : (fuel : ℕ) (run : List Entry) → IsRun built_in run → IsRun built_in (settled fuel run)
settled_legal zero run legal = legal
settled_legal (suc fuel) run legal =
    settled_legal fuel (gone_on (next_entry built_in run) run) (gone_on_legal run (next_entry built_in run) legal refl)

gone_on_events : (run : List Entry) (entry : Option Entry) → next_entry built_in run ≡ entry
    → events_of (gone_on entry run) ≡ events_of run
gone_on_events run None next = refl
gone_on_events run (Some entry) next = same_events (of_next_entry built_in run entry next)

settled_events : (fuel : ℕ) (run : List Entry) → events_of (settled fuel run) ≡ events_of run
settled_events zero run = refl
settled_events (suc fuel) run =
    settled_events fuel (gone_on (next_entry built_in run) run) ∙ gone_on_events run (next_entry built_in run) refl

rests : (entry : Option Entry) → is_none entry ≡ true → entry ≡ None
rests None e = refl
rests (Some entry) e = absurd cc

both : (a b : Bool) → (a && b) ≡ true → (a ≡ true) × (b ≡ true)
both true b e = (refl, e)
both false b e = absurd cc

legal_over : (fuel : ℕ) (events : List Event) (run : List Entry) → IsRun built_in run → is_settled fuel events run ≡ true
    → IsRunOver built_in (events_of run ++ events) (over fuel events run)
legal_over fuel [] run legal settles =
    record { legal = legal; rests = rests (next_entry built_in run) settles; heard = sym (append-nil (events_of run)) }
legal_over fuel (event ∷ events) run legal settles =
    let now : List Entry = settled fuel (Came event ∷ run) in
    let parts = both (is_none (next_entry built_in run)) (is_settled fuel events now) settles in
    let now_legal : IsRun built_in now = settled_legal fuel (Came event ∷ run) (came legal (rests (next_entry built_in run) parts.0)) in
    let events_are : events_of now ++ events ≡ events_of run ++ event ∷ events =
    ap (λ (list : List Event). list ++ events) (settled_events fuel (Came event ∷ run))
    ∙ append_assoc (events_of run) (event ∷ []) events in
    subst (λ (list : List Event). IsRunOver built_in list (over fuel events now)) events_are
    (legal_over fuel events now now_legal parts.1)

-- the legal run over these events, under the built-in settings, does this
pub record Does (events : List Event) (interactions : List Interaction) : Type 0 where
  run : List Entry
  legal : IsRunOver built_in events run
  does : done_in run ≡ interactions

pub does_in : (fuel : ℕ) {events : List Event} {interactions : List Interaction} → is_settled fuel events [] ≡ true
    → done_in (over fuel events []) ≡ interactions → Does events interactions
does_in fuel {events} settles does =
    record { run = over fuel events []; legal = legal_over fuel events [] starts settles; does = does }

-- Memory is wanting to a session, so many entries behind an event

abbrev until : ℕ → List Event → Event → List Entry
until steps before event = settled steps (Came event ∷ over 16 before [])

abbrev starved : ℕ → ℕ → Bool → List Event → Event → List Entry
starved steps session made before event =
    Did session (Starves made (want_number built_in (record_of session (until steps before event)))) ∷ until steps before event

abbrev wanting : ℕ → ℕ → Bool → List Event → Event → List Entry
wanting steps session made before event = settled 16 (starved steps session made before event)

module _ (steps session : ℕ) (made : Bool) (before : List Event) (event : Event) (after : List Event) (interactions : List Interaction)
    (settles : is_settled 16 before [] ≡ true) (hears : hearer (until steps before event) ≡ Some session)
    (once : is_starved (record_of session (until steps before event)) ≡ false)
    (can : CanBeMade made (record_of session (until steps before event)))
    (settles_after : is_settled 16 after (wanting steps session made before event) ≡ true)
    (does : done_in (over 16 after (wanting steps session made before event)) ≡ interactions) where
  start : IsRunOver built_in before (over 16 before [])
  start = legal_over 16 before [] starts settles

  now_legal : IsRun built_in (wanting steps session made before event)
  now_legal =
      settled_legal 16 (starved steps session made before event)
      (starves (settled_legal steps (Came event ∷ over 16 before []) (came start.legal start.rests)) hears once can refl)

  heard : events_of (wanting steps session made before event) ≡ before ++ event ∷ []
  heard =
      settled_events 16 (starved steps session made before event)
      ∙ settled_events steps (Came event ∷ over 16 before [])
      ∙ ap (λ (list : List Event). list ++ event ∷ []) start.heard

  wants_in : Does ((before ++ event ∷ []) ++ after) interactions
  wants_in = record {
    run = over 16 after (wanting steps session made before event);
    legal = subst (λ (list : List Event). IsRunOver built_in (list ++ after) (over 16 after (wanting steps session made before event))) heard
        (legal_over 16 after (wanting steps session made before event) now_legal settles_after);
    does = does;
  }

-- Events and actions with bytes as a trace writes them

abbrev digit : ℕ → ℕ
digit code = if nat_lt code 58 then code - 48 else code - 87

abbrev pub hex : List ℕ → List ℕ
hex (high ∷ low ∷ digits) = (16 * digit high + digit low) ∷ hex digits
hex _ = []

abbrev pub from_client : ℕ → List ℕ → Event
from_client session digits = ClientBytes session (hex digits)

abbrev pub on_link : ℕ → List ℕ → Event
on_link link digits = LinkBytes link (hex digits)

abbrev pub to_client : ℕ → List ℕ → Interaction
to_client session digits = Took (ToClient session (hex digits))

abbrev pub to_link : ℕ → List ℕ → Interaction
to_link link digits = Took (ToLink link (hex digits))

abbrev pub opens : (link server session : ℕ) → Interaction
opens link server session = Took (Open link server session)

abbrev pub drops : ℕ → DropCause → Interaction
drops link cause = Took (Drop link cause)

abbrev pub closes : ℕ → CloseReason → Interaction
closes session reason = Took (Close session reason)

abbrev pub routes : ℕ → Interaction
routes session = Told (Route session)

-- a commit of domain 0 is told of
abbrev pub commits : (server number sequence : ℕ) → Interaction
commits server number sequence = Told (Record server (record { domain = 0; server = number; sequence = sequence }))

abbrev pub takes_in : Round → Interaction
takes_in round = Told (Observe round)

-- a round of the monitor that names the three servers of the built-in settings, all at one position
abbrev in_state : State → Option Seen
in_state state = Some (record { state = state; position = 6 })

abbrev pub round_in : (a b c : State) → Round
round_in a b c = record { seen = in_state a ∷ in_state b ∷ in_state c ∷ None ∷ None ∷ None ∷ None ∷ [] }

abbrev pub primary_first : Round
primary_first = round_in Master Slave Slave

-- The runs

nothing_happens : Does
    (End ∷ [])
    []
unfolding lenenc lenenc_bytes full_packet spelling number_behind payload_behind first_payload eof_at err_at err_code err_bytes bytes_at number_at fixed_at lenenc_at text_at text_bytes ended state_at texts_at ok_at ok_status texts_bytes ok_bytes prepare_ok_at eof_status prepared_counts column_count is_definition is_row progress role client_ok client_form class_of same_word commit_in commit_of shown_at
nothing_happens = does_in 16 refl refl

ping : Does
    (Begin 1 0 ∷ from_client 1 (codes "010000000e") ∷ End ∷ [])
    (to_client 1 (codes "0700000100000002000000") ∷ [])
unfolding lenenc lenenc_bytes full_packet spelling number_behind payload_behind first_payload eof_at err_at err_code err_bytes bytes_at number_at fixed_at lenenc_at text_at text_bytes ended state_at texts_at ok_at ok_status texts_bytes ok_bytes prepare_ok_at eof_status prepared_counts column_count is_definition is_row progress role client_ok client_form class_of same_word commit_in commit_of shown_at
ping = does_in 16 refl refl

two_pings_in_one_piece : Does
    (Begin 1 0 ∷ from_client 1 (codes "010000000e010000000e") ∷ End ∷ [])
    (to_client 1 (codes "0700000100000002000000") ∷ to_client 1 (codes "0700000100000002000000") ∷ [])
unfolding lenenc lenenc_bytes full_packet spelling number_behind payload_behind first_payload eof_at err_at err_code err_bytes bytes_at number_at fixed_at lenenc_at text_at text_bytes ended state_at texts_at ok_at ok_status texts_bytes ok_bytes prepare_ok_at eof_status prepared_counts column_count is_definition is_row progress role client_ok client_form class_of same_word commit_in commit_of shown_at
two_pings_in_one_piece = does_in 16 refl refl

ping_in_five_pieces : Does
    (Begin 1 0 ∷ from_client 1 (codes "01") ∷ from_client 1 (codes "00") ∷ from_client 1 (codes "00") ∷
    from_client 1 (codes "00") ∷ from_client 1 (codes "0e") ∷ End ∷ [])
    (to_client 1 (codes "0700000100000002000000") ∷ [])
unfolding lenenc lenenc_bytes full_packet spelling number_behind payload_behind first_payload eof_at err_at err_code err_bytes bytes_at number_at fixed_at lenenc_at text_at text_bytes ended state_at texts_at ok_at ok_status texts_bytes ok_bytes prepare_ok_at eof_status prepared_counts column_count is_definition is_row progress role client_ok client_form class_of same_word commit_in commit_of shown_at
ping_in_five_pieces = does_in 16 refl refl

-- a text that would set what the proxy stands on is sent to nobody: `set session server_id=2`
refused_text : Does
    (Begin 1 0 ∷ from_client 1 (codes "18000000037365742073657373696f6e207365727665725f69643d32") ∷ End ∷ [])
    (to_client 1 (codes "16000001ffd3042334323030306e6f7420737570706f72746564") ∷ [])
unfolding lenenc lenenc_bytes full_packet spelling number_behind payload_behind first_payload eof_at err_at err_code err_bytes bytes_at number_at fixed_at lenenc_at text_at text_bytes ended state_at texts_at ok_at ok_status texts_bytes ok_bytes prepare_ok_at eof_status prepared_counts column_count is_definition is_row progress role client_ok client_form class_of same_word refused_names commit_in commit_of shown_at
refused_text = does_in 16 refl refl

-- the fault shows at the header, and what was sent before it is answered
out_of_order : Does
    (Begin 1 0 ∷ from_client 1 (codes "010000000e010000010e") ∷ End ∷ [])
    (to_client 1 (codes "0700000100000002000000") ∷
    to_client 1 (codes "1d000001ff84042330385330317061636b657473206f7574206f66206f72646572") ∷
    closes 1 (OutOfOrder 0 1) ∷ drops 1 AtEnd ∷ [])
unfolding lenenc lenenc_bytes full_packet spelling number_behind payload_behind first_payload eof_at err_at err_code err_bytes bytes_at number_at fixed_at lenenc_at text_at text_bytes ended state_at texts_at ok_at ok_status texts_bytes ok_bytes prepare_ok_at eof_status prepared_counts column_count is_definition is_row progress role client_ok client_form class_of same_word commit_in commit_of shown_at
out_of_order = does_in 16 refl refl

-- a command of no name, an empty one, and the end
unknown_then_quit : Does
    (Begin 1 0 ∷ from_client 1 (codes "0100000077") ∷ from_client 1 (codes "00000000") ∷
    from_client 1 (codes "0100000001") ∷ End ∷ [])
    (to_client 1 (codes "18000001ff1704233038533031756e6b6e6f776e20636f6d6d616e64") ∷
    to_client 1 (codes "18000001ff1704233038533031756e6b6e6f776e20636f6d6d616e64") ∷ closes 1 Quit ∷
    drops 1 AtEnd ∷ [])
unfolding lenenc lenenc_bytes full_packet spelling number_behind payload_behind first_payload eof_at err_at err_code err_bytes bytes_at number_at fixed_at lenenc_at text_at text_bytes ended state_at texts_at ok_at ok_status texts_bytes ok_bytes prepare_ok_at eof_status prepared_counts column_count is_definition is_row progress role client_ok client_form class_of same_word commit_in commit_of shown_at
unknown_then_quit = does_in 16 refl refl

-- COM_SET_OPTION, COM_STMT_FETCH and COM_RESET_CONNECTION
not_supported : Does
    (Begin 1 1 ∷ from_client 1 (codes "030000001b0000") ∷ from_client 1 (codes "050000001c01000000") ∷
    from_client 1 (codes "010000001f") ∷ End ∷ [])
    (to_client 1 (codes "16000001ffd3042334323030306e6f7420737570706f72746564") ∷
    to_client 1 (codes "16000001ffd3042334323030306e6f7420737570706f72746564") ∷
    to_client 1 (codes "16000001ffd3042334323030306e6f7420737570706f72746564") ∷ [])
unfolding lenenc lenenc_bytes full_packet spelling number_behind payload_behind first_payload eof_at err_at err_code err_bytes bytes_at number_at fixed_at lenenc_at text_at text_bytes ended state_at texts_at ok_at ok_status texts_bytes ok_bytes prepare_ok_at eof_status prepared_counts column_count is_definition is_row progress role client_ok client_form class_of same_word commit_in commit_of shown_at
not_supported = does_in 16 refl refl

answered_then_lost : Does
    (Observed primary_first ∷ Begin 1 0 ∷ from_client 1 (codes "020000000378") ∷ on_link 1 (codes "0700000100000002000000") ∷ LinkGone 1 ∷
    End ∷ [])
    (takes_in primary_first ∷ routes 1 ∷ to_link 1 (codes "020000000378") ∷ to_client 1 (codes "0700000100000002000000") ∷ closes 1 SessionState ∷ [])
unfolding lenenc lenenc_bytes full_packet spelling number_behind payload_behind first_payload eof_at err_at err_code err_bytes bytes_at number_at fixed_at lenenc_at text_at text_bytes ended state_at texts_at ok_at ok_status texts_bytes ok_bytes prepare_ok_at eof_status prepared_counts column_count is_definition is_row progress role client_ok client_form class_of same_word commit_in commit_of shown_at
answered_then_lost = does_in 16 refl refl

-- the link is gone already, so it isn't dropped
lost_with_a_command : Does
    (Observed primary_first ∷ Begin 1 0 ∷ from_client 1 (codes "020000000378") ∷ LinkGone 1 ∷ on_link 1 (codes "0700000100000002000000") ∷
    End ∷ [])
    (takes_in primary_first ∷ routes 1 ∷ to_link 1 (codes "020000000378") ∷ closes 1 OutcomeUnknown ∷ [])
unfolding lenenc lenenc_bytes full_packet spelling number_behind payload_behind first_payload eof_at err_at err_code err_bytes bytes_at number_at fixed_at lenenc_at text_at text_bytes ended state_at texts_at ok_at ok_status texts_bytes ok_bytes prepare_ok_at eof_status prepared_counts column_count is_definition is_row progress role client_ok client_form class_of same_word commit_in commit_of shown_at
lost_with_a_command = does_in 16 refl refl

-- what waits behind a command is taken up when its reply is whole
one_after_the_other : Does
    (Observed primary_first ∷ Begin 1 0 ∷ from_client 1 (codes "020000000378010000000e0100000001") ∷ on_link 1 (codes "0700000100") ∷
    on_link 1 (codes "000002000000") ∷ End ∷ [])
    (takes_in primary_first ∷ routes 1 ∷ to_link 1 (codes "020000000378") ∷ to_client 1 (codes "0700000100000002000000") ∷
    to_client 1 (codes "0700000100000002000000") ∷ closes 1 Quit ∷ drops 1 AtEnd ∷ [])
unfolding lenenc lenenc_bytes full_packet spelling number_behind payload_behind first_payload eof_at err_at err_code err_bytes bytes_at number_at fixed_at lenenc_at text_at text_bytes ended state_at texts_at ok_at ok_status texts_bytes ok_bytes prepare_ok_at eof_status prepared_counts column_count is_definition is_row progress role client_ok client_form class_of same_word commit_in commit_of shown_at
one_after_the_other = does_in 16 refl refl

-- an OK that names the GTID 0-1-7 is passed on without the session's state, and without the status bit 0x4000 that tells of it
ok_without_its_state : Does
    (Observed primary_first ∷ Begin 1 0 ∷ from_client 1 (codes "020000000378") ∷
    on_link 1 (codes "1b0000010001000240000000120010096c6173745f6774696405302d312d37") ∷ End ∷ [])
    (takes_in primary_first ∷ routes 1 ∷ to_link 1 (codes "020000000378") ∷ commits 0 1 7 ∷ to_client 1 (codes "0700000100010002000000") ∷ [])
unfolding lenenc lenenc_bytes full_packet spelling number_behind payload_behind first_payload eof_at err_at err_code err_bytes bytes_at number_at fixed_at lenenc_at text_at text_bytes ended state_at texts_at ok_at ok_status texts_bytes ok_bytes prepare_ok_at eof_status prepared_counts column_count is_definition is_row progress role client_ok client_form class_of same_word commit_in commit_of shown_at entry_at variables_at parsing.gtid_at parsing.number_at parsing.dash_at
ok_without_its_state = does_in 16 refl refl

-- what stands where rows stand is a row, even if it could be read as such an OK; an EOF keeps its status
row_like_an_ok : Does
    (Observed primary_first ∷ Begin 1 0 ∷ from_client 1 (codes "020000000378") ∷
    on_link 1 (codes "010000010117000002036465660000000161000c2d000a000000fd000000000005000003fe00000200") ∷
    on_link 1 (codes "070000040000000240000005000005fe00000240") ∷ End ∷ [])
    (takes_in primary_first ∷ routes 1 ∷ to_link 1 (codes "020000000378") ∷ to_client 1 (codes "0100000101") ∷
    to_client 1 (codes "17000002036465660000000161000c2d000a000000fd0000000000") ∷
    to_client 1 (codes "05000003fe00000200") ∷ to_client 1 (codes "0700000400000002400000") ∷
    to_client 1 (codes "05000005fe00000240") ∷ [])
unfolding lenenc lenenc_bytes full_packet spelling number_behind payload_behind first_payload eof_at err_at err_code err_bytes bytes_at number_at fixed_at lenenc_at text_at text_bytes ended state_at texts_at ok_at ok_status texts_bytes ok_bytes prepare_ok_at eof_status prepared_counts column_count is_definition is_row progress role client_ok client_form class_of same_word commit_in commit_of shown_at
row_like_an_ok = does_in 16 refl refl

error_of_a_server : Does
    (Observed primary_first ∷ Begin 1 0 ∷ from_client 1 (codes "020000000378") ∷ on_link 1 (codes "0b000001ff7a042334325330326e6f") ∷
    from_client 1 (codes "010000000e") ∷ End ∷ [])
    (takes_in primary_first ∷ routes 1 ∷ to_link 1 (codes "020000000378") ∷ to_client 1 (codes "0b000001ff7a042334325330326e6f") ∷
    to_client 1 (codes "0700000100000002000000") ∷ [])
unfolding lenenc lenenc_bytes full_packet spelling number_behind payload_behind first_payload eof_at err_at err_code err_bytes bytes_at number_at fixed_at lenenc_at text_at text_bytes ended state_at texts_at ok_at ok_status texts_bytes ok_bytes prepare_ok_at eof_status prepared_counts column_count is_definition is_row progress role client_ok client_form class_of same_word commit_in commit_of shown_at
error_of_a_server = does_in 16 refl refl

-- an EOF where a reply begins
no_reply : Does
    (Observed primary_first ∷ Begin 1 0 ∷ from_client 1 (codes "020000000378") ∷
    on_link 1 (codes "05000001fe0000020017000002036465660000000161000c2d000a000000fd0000000000") ∷ End ∷ [])
    (takes_in primary_first ∷ routes 1 ∷ to_link 1 (codes "020000000378") ∷ drops 1 BadReply ∷ closes 1 OutcomeUnknown ∷ [])
unfolding lenenc lenenc_bytes full_packet spelling number_behind payload_behind first_payload eof_at err_at err_code err_bytes bytes_at number_at fixed_at lenenc_at text_at text_bytes ended state_at texts_at ok_at ok_status texts_bytes ok_bytes prepare_ok_at eof_status prepared_counts column_count is_definition is_row progress role client_ok client_form class_of same_word commit_in commit_of shown_at
no_reply = does_in 16 refl refl

-- packets are passed on as they are whole, however the bytes are cut
rows_in_parts : Does
    (Observed primary_first ∷ Begin 1 0 ∷ from_client 1 (codes "020000000378") ∷ on_link 1 (codes "010000010117000002") ∷
    on_link 1 (codes "036465660000000161000c2d000a000000fd000000000005000003fe00000200") ∷
    on_link 1 (codes "02000004013601000005fb05") ∷ on_link 1 (codes "000006fe00000200") ∷ End ∷ [])
    (takes_in primary_first ∷ routes 1 ∷ to_link 1 (codes "020000000378") ∷ to_client 1 (codes "0100000101") ∷
    to_client 1 (codes "17000002036465660000000161000c2d000a000000fd0000000000") ∷
    to_client 1 (codes "05000003fe00000200") ∷ to_client 1 (codes "020000040136") ∷
    to_client 1 (codes "01000005fb") ∷ to_client 1 (codes "05000006fe00000200") ∷ [])
unfolding lenenc lenenc_bytes full_packet spelling number_behind payload_behind first_payload eof_at err_at err_code err_bytes bytes_at number_at fixed_at lenenc_at text_at text_bytes ended state_at texts_at ok_at ok_status texts_bytes ok_bytes prepare_ok_at eof_status prepared_counts column_count is_definition is_row progress role client_ok client_form class_of same_word commit_in commit_of shown_at
rows_in_parts = does_in 16 refl refl

error_behind_rows : Does
    (Observed primary_first ∷ Begin 4 0 ∷ from_client 4 (codes "020000000378") ∷
    on_link 1 (codes "010000010117000002036465660000000161000c2d000a000000fd000000000005000003fe0000020002000004013512000005ffbd0423485930303064656164206c6f636b") ∷
    End ∷ [])
    (takes_in primary_first ∷ routes 4 ∷ to_link 1 (codes "020000000378") ∷ to_client 4 (codes "0100000101") ∷
    to_client 4 (codes "17000002036465660000000161000c2d000a000000fd0000000000") ∷
    to_client 4 (codes "05000003fe00000200") ∷ to_client 4 (codes "020000040135") ∷
    to_client 4 (codes "12000005ffbd0423485930303064656164206c6f636b") ∷ [])
unfolding lenenc lenenc_bytes full_packet spelling number_behind payload_behind first_payload eof_at err_at err_code err_bytes bytes_at number_at fixed_at lenenc_at text_at text_bytes ended state_at texts_at ok_at ok_status texts_bytes ok_bytes prepare_ok_at eof_status prepared_counts column_count is_definition is_row progress role client_ok client_form class_of same_word commit_in commit_of shown_at
error_behind_rows = does_in 16 refl refl

-- a reply goes on behind an EOF, and behind an OK, that announces another result
more_results : Does
    (Observed primary_first ∷ Begin 1 0 ∷ from_client 1 (codes "020000000378") ∷
    on_link 1 (codes "010000010117000002036465660000000161000c2d000a000000fd000000000005000003fe00000a0002000004013505000005fe00000a00") ∷
    from_client 1 (codes "010000000e") ∷ on_link 1 (codes "070000060000000a000000") ∷
    on_link 1 (codes "0700000700000002000000") ∷ End ∷ [])
    (takes_in primary_first ∷ routes 1 ∷ to_link 1 (codes "020000000378") ∷ to_client 1 (codes "0100000101") ∷
    to_client 1 (codes "17000002036465660000000161000c2d000a000000fd0000000000") ∷
    to_client 1 (codes "05000003fe00000a00") ∷ to_client 1 (codes "020000040135") ∷
    to_client 1 (codes "05000005fe00000a00") ∷ to_client 1 (codes "070000060000000a000000") ∷
    to_client 1 (codes "0700000700000002000000") ∷ to_client 1 (codes "0700000100000002000000") ∷ [])
unfolding lenenc lenenc_bytes full_packet spelling number_behind payload_behind first_payload eof_at err_at err_code err_bytes bytes_at number_at fixed_at lenenc_at text_at text_bytes ended state_at texts_at ok_at ok_status texts_bytes ok_bytes prepare_ok_at eof_status prepared_counts column_count is_definition is_row progress role client_ok client_form class_of same_word commit_in commit_of shown_at
more_results = does_in 16 refl refl

-- definitions without their number before them
field_list : Does
    (Observed primary_first ∷ Begin 1 0 ∷ from_client 1 (codes "03000000047400") ∷
    on_link 1 (codes "18000001036465660000000161000c2d000a000000fd0000000000fb") ∷
    on_link 1 (codes "05000002fe00000200") ∷ from_client 1 (codes "010000000e") ∷ End ∷ [])
    (takes_in primary_first ∷ routes 1 ∷ to_link 1 (codes "03000000047400") ∷
    to_client 1 (codes "18000001036465660000000161000c2d000a000000fd0000000000fb") ∷
    to_client 1 (codes "05000002fe00000200") ∷ to_client 1 (codes "0700000100000002000000") ∷ [])
unfolding lenenc lenenc_bytes full_packet spelling number_behind payload_behind first_payload eof_at err_at err_code err_bytes bytes_at number_at fixed_at lenenc_at text_at text_bytes ended state_at texts_at ok_at ok_status texts_bytes ok_bytes prepare_ok_at eof_status prepared_counts column_count is_definition is_row progress role client_ok client_form class_of same_word commit_in commit_of shown_at
field_list = does_in 16 refl refl

loss_cuts_a_result : Does
    (Observed primary_first ∷ Begin 1 0 ∷ from_client 1 (codes "020000000378") ∷
    on_link 1 (codes "010000010117000002036465660000000161000c2d000a000000fd0000000000") ∷ LinkGone 1 ∷
    from_client 1 (codes "010000000e") ∷ End ∷ [])
    (takes_in primary_first ∷ routes 1 ∷ to_link 1 (codes "020000000378") ∷ to_client 1 (codes "0100000101") ∷
    to_client 1 (codes "17000002036465660000000161000c2d000a000000fd0000000000") ∷ closes 1 ResultCut ∷ [])
unfolding lenenc lenenc_bytes full_packet spelling number_behind payload_behind first_payload eof_at err_at err_code err_bytes bytes_at number_at fixed_at lenenc_at text_at text_bytes ended state_at texts_at ok_at ok_status texts_bytes ok_bytes prepare_ok_at eof_status prepared_counts column_count is_definition is_row progress role client_ok client_form class_of same_word commit_in commit_of shown_at
loss_cuts_a_result = does_in 16 refl refl

-- a packet under a wrong number
fault_cuts_a_result : Does
    (Observed primary_first ∷ Begin 4 0 ∷ from_client 4 (codes "020000000378") ∷
    on_link 1 (codes "010000010117000002036465660000000161000c2d000a000000fd000000000005000003fe0000020002000005013505000006fe00000200") ∷
    End ∷ [])
    (takes_in primary_first ∷ routes 4 ∷ to_link 1 (codes "020000000378") ∷ to_client 4 (codes "0100000101") ∷
    to_client 4 (codes "17000002036465660000000161000c2d000a000000fd0000000000") ∷
    to_client 4 (codes "05000003fe00000200") ∷ drops 1 BadWire ∷ closes 4 ResultCut ∷ [])
unfolding lenenc lenenc_bytes full_packet spelling number_behind payload_behind first_payload eof_at err_at err_code err_bytes bytes_at number_at fixed_at lenenc_at text_at text_bytes ended state_at texts_at ok_at ok_status texts_bytes ok_bytes prepare_ok_at eof_status prepared_counts column_count is_definition is_row progress role client_ok client_form class_of same_word commit_in commit_of shown_at
fault_cuts_a_result = does_in 16 refl refl

bad_wire : Does
    (Observed primary_first ∷ Begin 1 0 ∷ from_client 1 (codes "020000000378") ∷ on_link 1 (codes "0700000200000002000000") ∷ End ∷ [])
    (takes_in primary_first ∷ routes 1 ∷ to_link 1 (codes "020000000378") ∷ drops 1 BadWire ∷ closes 1 OutcomeUnknown ∷ [])
unfolding lenenc lenenc_bytes full_packet spelling number_behind payload_behind first_payload eof_at err_at err_code err_bytes bytes_at number_at fixed_at lenenc_at text_at text_bytes ended state_at texts_at ok_at ok_status texts_bytes ok_bytes prepare_ok_at eof_status prepared_counts column_count is_definition is_row progress role client_ok client_form class_of same_word commit_in commit_of shown_at
bad_wire = does_in 16 refl refl

byte_behind_a_reply : Does
    (Observed primary_first ∷ Begin 1 0 ∷ from_client 1 (codes "020000000378020000000378") ∷ on_link 1 (codes "070000010000000200000000") ∷
    End ∷ [])
    (takes_in primary_first ∷ routes 1 ∷ to_link 1 (codes "020000000378") ∷ to_client 1 (codes "0700000100000002000000") ∷ drops 1 Unasked ∷
    closes 1 SessionState ∷ [])
unfolding lenenc lenenc_bytes full_packet spelling number_behind payload_behind first_payload eof_at err_at err_code err_bytes bytes_at number_at fixed_at lenenc_at text_at text_bytes ended state_at texts_at ok_at ok_status texts_bytes ok_bytes prepare_ok_at eof_status prepared_counts column_count is_definition is_row progress role client_ok client_form class_of same_word commit_in commit_of shown_at
byte_behind_a_reply = does_in 16 refl refl

-- three sessions in turn, on the links 1, 2 and 3: one that is kept isn't routed again, and one that sent nothing outlasts the loss of its
-- link
three_sessions : Does
    (Observed primary_first ∷ Begin 5 0 ∷ Begin 7 0 ∷ Begin 9 0 ∷ from_client 7 (codes "02000000") ∷ from_client 9 (codes "020000000378") ∷
    from_client 7 (codes "0379") ∷ on_link 3 (codes "07000001") ∷ from_client 5 (codes "010000000e") ∷
    on_link 2 (codes "0700000100000003000000") ∷ on_link 3 (codes "00000002000000") ∷ LinkGone 2 ∷
    from_client 9 (codes "020000000378") ∷ from_client 7 (codes "010000000e") ∷ on_link 1 (codes "00") ∷
    ClientGone 9 ∷ End ∷ [])
    (takes_in primary_first ∷ routes 9 ∷ to_link 3 (codes "020000000378") ∷ routes 7 ∷ to_link 2 (codes "020000000379") ∷
    to_client 5 (codes "0700000100000002000000") ∷ to_client 7 (codes "0700000100000003000000") ∷
    to_client 9 (codes "0700000100000002000000") ∷ closes 7 SessionState ∷ to_link 3 (codes "020000000378") ∷
    drops 1 Unasked ∷ drops 3 AtEnd ∷ [])
unfolding lenenc lenenc_bytes full_packet spelling number_behind payload_behind first_payload eof_at err_at err_code err_bytes bytes_at number_at fixed_at lenenc_at text_at text_bytes ended state_at texts_at ok_at ok_status texts_bytes ok_bytes prepare_ok_at eof_status prepared_counts column_count is_definition is_row progress role client_ok client_form class_of same_word commit_in commit_of shown_at
three_sessions = does_in 16 refl refl

-- a fault on one session's link is none of the other session's business
one_link_breaks : Does
    (Observed primary_first ∷ Begin 1 0 ∷ Begin 2 0 ∷ from_client 1 (codes "020000000378") ∷ from_client 2 (codes "020000000378") ∷
    on_link 1 (codes "01000002") ∷ on_link 2 (codes "0700000100000002000000") ∷ End ∷ [])
    (takes_in primary_first ∷ routes 1 ∷ to_link 1 (codes "020000000378") ∷ routes 2 ∷ to_link 2 (codes "020000000378") ∷ drops 1 BadWire ∷
    closes 1 OutcomeUnknown ∷ to_client 2 (codes "0700000100000002000000") ∷ [])
unfolding lenenc lenenc_bytes full_packet spelling number_behind payload_behind first_payload eof_at err_at err_code err_bytes bytes_at number_at fixed_at lenenc_at text_at text_bytes ended state_at texts_at ok_at ok_status texts_bytes ok_bytes prepare_ok_at eof_status prepared_counts column_count is_definition is_row progress role client_ok client_form class_of same_word commit_in commit_of shown_at
one_link_breaks = does_in 16 refl refl

-- a client that is gone is told nothing more, and closes nothing
client_gone : Does
    (Observed primary_first ∷ Begin 1 0 ∷ from_client 1 (codes "020000000378") ∷ ClientGone 1 ∷
    on_link 1 (codes "0700000100000002000000") ∷ from_client 1 (codes "010000000e") ∷ ClientGone 1 ∷ End ∷ [])
    (takes_in primary_first ∷ routes 1 ∷ to_link 1 (codes "020000000378") ∷ drops 1 AtEnd ∷ [])
unfolding lenenc lenenc_bytes full_packet spelling number_behind payload_behind first_payload eof_at err_at err_code err_bytes bytes_at number_at fixed_at lenenc_at text_at text_bytes ended state_at texts_at ok_at ok_status texts_bytes ok_bytes prepare_ok_at eof_status prepared_counts column_count is_definition is_row progress role client_ok client_form class_of same_word commit_in commit_of shown_at
client_gone = does_in 16 refl refl

-- a session that is over hears nothing, and its number isn't given again
session_over : Does
    (Begin 1 0 ∷ from_client 1 (codes "0100000001010000000e") ∷ from_client 1 (codes "010000000e") ∷
    on_link 1 (codes "00") ∷ LinkGone 1 ∷ ClientGone 1 ∷ Begin 1 0 ∷ from_client 1 (codes "010000000e") ∷ End ∷ [])
    (closes 1 Quit ∷ drops 1 AtEnd ∷ [])
unfolding lenenc lenenc_bytes full_packet spelling number_behind payload_behind first_payload eof_at err_at err_code err_bytes bytes_at number_at fixed_at lenenc_at text_at text_bytes ended state_at texts_at ok_at ok_status texts_bytes ok_bytes prepare_ok_at eof_status prepared_counts column_count is_definition is_row progress role client_ok client_form class_of same_word commit_in commit_of shown_at
session_over = does_in 16 refl refl

-- a server that the settings don't have: no session begins and no link is opened, but the number is gone
no_such_server : Does
    (Observed primary_first ∷ Begin 5 3 ∷ from_client 5 (codes "010000000e") ∷ Begin 4 0 ∷ from_client 4 (codes "010000000e") ∷ Begin 5 0 ∷
    from_client 5 (codes "010000000e") ∷ Begin 6 0 ∷ from_client 6 (codes "020000000378") ∷ End ∷ [])
    (takes_in primary_first ∷ routes 6 ∷ to_link 1 (codes "020000000378") ∷ [])
unfolding lenenc lenenc_bytes full_packet spelling number_behind payload_behind first_payload eof_at err_at err_code err_bytes bytes_at number_at fixed_at lenenc_at text_at text_bytes ended state_at texts_at ok_at ok_status texts_bytes ok_bytes prepare_ok_at eof_status prepared_counts column_count is_definition is_row progress role client_ok client_form class_of same_word commit_in commit_of shown_at
no_such_server = does_in 16 refl refl

-- Floods under the built-in settings: nothing is too much at the limit, or while no command is pending; above it, it is the
-- first number above, however many bytes came

at_the_limit : (command : Command) → flood_by (Some command) (flood_limit built_in) 68157440 ≡ None
at_the_limit command = refl

above_it : (command : Command) → flood_by (Some command) (flood_limit built_in) 68157441 ≡ Some 68157441
above_it command = refl

far_above_it : (command : Command) → flood_by (Some command) (flood_limit built_in) 100000000 ≡ Some 68157441
far_above_it command = refl

none_pending : flood_by None (flood_limit built_in) 100000000 ≡ None
none_pending = refl

-- Runs in which memory is wanting

-- in place of what would have been sent: the client is told, and another session goes on
want_for_a_command : Does
    (Begin 1 0 ∷ Begin 2 1 ∷ from_client 1 (codes "020000000378") ∷ from_client 1 (codes "010000000e") ∷
    from_client 2 (codes "010000000e") ∷ on_link 1 (codes "0700000100000002000000") ∷ End ∷ [])
    (to_client 1 (codes "16000001ff0d042348593030316f7574206f66206d656d6f7279") ∷ closes 1 Memory ∷ drops 1 AtEnd ∷
    to_client 2 (codes "0700000100000002000000") ∷ [])
unfolding lenenc lenenc_bytes full_packet spelling number_behind payload_behind first_payload eof_at err_at err_code err_bytes bytes_at number_at fixed_at lenenc_at text_at text_bytes ended state_at texts_at ok_at ok_status texts_bytes ok_bytes prepare_ok_at eof_status prepared_counts column_count is_definition is_row progress role client_ok client_form class_of same_word commit_in commit_of shown_at
want_for_a_command =
    wants_in 2 1 true (Begin 1 0 ∷ Begin 2 1 ∷ []) (from_client 1 (codes "020000000378"))
    (from_client 1 (codes "010000000e") ∷ from_client 2 (codes "010000000e") ∷
    on_link 1 (codes "0700000100000002000000") ∷ End ∷ []) _ refl refl refl tt refl refl

-- for what the session heard
want_for_bytes : Does
    (Begin 1 0 ∷ from_client 1 (codes "02") ∷ End ∷ [])
    (to_client 1 (codes "16000001ff0d042348593030316f7574206f66206d656d6f7279") ∷ closes 1 Memory ∷ drops 1 AtEnd ∷ [])
unfolding lenenc lenenc_bytes full_packet spelling number_behind payload_behind first_payload eof_at err_at err_code err_bytes bytes_at number_at fixed_at lenenc_at text_at text_bytes ended state_at texts_at ok_at ok_status texts_bytes ok_bytes prepare_ok_at eof_status prepared_counts column_count is_definition is_row progress role client_ok client_form class_of same_word commit_in commit_of shown_at
want_for_bytes = wants_in 1 1 true (Begin 1 0 ∷ []) (from_client 1 (codes "02")) (End ∷ []) _ refl refl refl tt refl refl

-- behind a payload of a reply: what was told stands
want_in_a_reply : Does
    (Observed primary_first ∷ Begin 1 0 ∷ from_client 1 (codes "020000000378") ∷
    on_link 1 (codes "010000010117000002036465660000000161000c2d000a000000fd0000000000") ∷ End ∷ [])
    (takes_in primary_first ∷ routes 1 ∷ to_link 1 (codes "020000000378") ∷ to_client 1 (codes "0100000101") ∷
    to_client 1 (codes "16000001ff0d042348593030316f7574206f66206d656d6f7279") ∷ closes 1 Memory ∷ drops 1 AtEnd ∷ [])
unfolding lenenc lenenc_bytes full_packet spelling number_behind payload_behind first_payload eof_at err_at err_code err_bytes bytes_at number_at fixed_at lenenc_at text_at text_bytes ended state_at texts_at ok_at ok_status texts_bytes ok_bytes prepare_ok_at eof_status prepared_counts column_count is_definition is_row progress role client_form class_of same_word commit_in commit_of shown_at
want_in_a_reply =
    wants_in 3 1 true (Observed primary_first ∷ Begin 1 0 ∷ from_client 1 (codes "020000000378") ∷ [])
    (on_link 1 (codes "010000010117000002036465660000000161000c2d000a000000fd0000000000")) (End ∷ []) _ refl refl refl tt refl refl

-- its link is lost: what is owed for that is owed no more, and no link is left
want_at_a_loss : Does
    (Begin 1 0 ∷ LinkGone 1 ∷ End ∷ [])
    (to_client 1 (codes "16000001ff0d042348593030316f7574206f66206d656d6f7279") ∷ closes 1 Memory ∷ [])
unfolding lenenc lenenc_bytes full_packet spelling number_behind payload_behind first_payload eof_at err_at err_code err_bytes bytes_at number_at fixed_at lenenc_at text_at text_bytes ended state_at texts_at ok_at ok_status texts_bytes ok_bytes prepare_ok_at eof_status prepared_counts column_count is_definition is_row progress role client_ok client_form class_of same_word commit_in commit_of shown_at
want_at_a_loss = wants_in 1 1 true (Begin 1 0 ∷ []) (LinkGone 1) (End ∷ []) _ refl refl refl tt refl refl

-- a session that was closed already gives up its link
want_behind_a_close : Does
    (Begin 1 0 ∷ from_client 1 (codes "0100000001") ∷ End ∷ [])
    (closes 1 Quit ∷ drops 1 AtEnd ∷ [])
unfolding lenenc lenenc_bytes full_packet spelling number_behind payload_behind first_payload eof_at err_at err_code err_bytes bytes_at number_at fixed_at lenenc_at text_at text_bytes ended state_at texts_at ok_at ok_status texts_bytes ok_bytes prepare_ok_at eof_status prepared_counts column_count is_definition is_row progress role client_ok client_form class_of same_word commit_in commit_of shown_at
want_behind_a_close = wants_in 3 1 true (Begin 1 0 ∷ []) (from_client 1 (codes "0100000001")) (End ∷ []) _ refl refl refl tt refl refl

-- for the session itself: its client is told nothing
want_for_a_session : Does
    (Begin 1 0 ∷ Begin 2 0 ∷ from_client 1 (codes "010000000e") ∷ from_client 2 (codes "010000000e") ∷ End ∷ [])
    (closes 1 Memory ∷ drops 1 AtEnd ∷ to_client 2 (codes "0700000100000002000000") ∷ [])
unfolding lenenc lenenc_bytes full_packet spelling number_behind payload_behind first_payload eof_at err_at err_code err_bytes bytes_at number_at fixed_at lenenc_at text_at text_bytes ended state_at texts_at ok_at ok_status texts_bytes ok_bytes prepare_ok_at eof_status prepared_counts column_count is_definition is_row progress role client_ok client_form class_of same_word commit_in commit_of shown_at
want_for_a_session =
    wants_in 1 1 false [] (Begin 1 0) (Begin 2 0 ∷ from_client 1 (codes "010000000e") ∷ from_client 2 (codes "010000000e") ∷ End ∷ [])
    _ refl refl refl tt refl refl

-- Rounds of the monitor, over the three servers of the built-in settings

abbrev primary_and_replica : Option Seen → Round
primary_and_replica fourth = record {
  seen = Some (record { state = Master; position = 7 }) ∷ None ∷ Some (record { state = Slave; position = 5 }) ∷ fourth
      ∷ None ∷ None ∷ None ∷ [];
}

-- each is taken in where it comes, and what sessions do stays as it is
rounds_are_taken_in : Does
    (Begin 1 0 ∷ Observed (primary_and_replica None) ∷ Clock 5000 ∷ from_client 1 (codes "010000000e") ∷
    Observed (primary_and_replica None) ∷ End ∷ [])
    (takes_in (primary_and_replica None) ∷ to_client 1 (codes "0700000100000002000000") ∷
    takes_in (primary_and_replica None) ∷ [])
unfolding lenenc lenenc_bytes full_packet spelling number_behind payload_behind first_payload eof_at err_at err_code err_bytes bytes_at number_at fixed_at lenenc_at text_at text_bytes ended state_at texts_at ok_at ok_status texts_bytes ok_bytes prepare_ok_at eof_status prepared_counts column_count is_definition is_row progress role client_ok client_form class_of same_word commit_in commit_of shown_at
rounds_are_taken_in = does_in 16 refl refl

-- one that names a fourth server isn't, whatever it says of it
a_round_with_a_further_server : Does
    (Observed (primary_and_replica (Some (record { state = Down; position = 0 }))) ∷ Observed (primary_and_replica None) ∷ End ∷ [])
    (takes_in (primary_and_replica None) ∷ [])
unfolding payload_behind first_payload
a_round_with_a_further_server = does_in 16 refl refl
