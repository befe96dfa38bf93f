-- Runs in which commands are routed, computed by the definition.
use Rattle.std.proofs.Common.{[], ◌∷◌, refl, codes}
use Rattle.rws_wire.specs.declared.close_reason.CloseReason.TheVariants.{OutcomeUnknown}
use Rattle.rws_wire.specs.declared.drop_cause.DropCause.TheVariants.{Kept}
use Rattle.rws_wire.specs.Lenenc.{lenenc, lenenc_bytes}
use Rattle.rws_wire.specs.Packets.{full_packet, spelling, number_behind}
use Rattle.rws_wire.specs.Payloads.{payload_behind, first_payload}
use Rattle.rws_msgs.specs.EofLayout.{eof_at}
use Rattle.rws_msgs.specs.ErrLayout.{err_at, err_code, err_bytes}
use Rattle.rws_msgs.specs.Fields.{bytes_at, number_at, fixed_at, lenenc_at, text_at, text_bytes, zero_text_at, last_text_at, ended}
use Rattle.rws_msgs.specs.GreetingLayout.{abilities_at, last_piece_at, plugin_at, greeting_at, abilities_bytes, front_bytes as greeting_front, back_bytes, greeting_bytes}
use Rattle.rws_msgs.specs.OkLayout.{state_at, texts_at, ok_at, ok_status, texts_bytes, ok_bytes}
use Rattle.rws_msgs.specs.PrepareOkLayout.{prepare_ok_at}
use Rattle.rws_msgs.specs.ResponseLayout.{has, answer_at, name_at, attributes_at, names_at, response_at, answer_bytes, name_bytes, attributes_bytes, names_bytes, front_bytes as response_front, response_bytes}
use Rattle.rws_msgs.specs.SwitchLayout.{switch_at, asked_at, plugin_asked, switch_bytes}
use Rattle.rws_link.specs.Handshake.{flags_of, response_of, reaction}
use Rattle.rws_reply.specs.Payloads.{eof_status, prepared_counts, column_count, is_definition, is_row}
use Rattle.rws_reply.specs.Tracking.{progress, role}
use Rattle.rws_reply.specs.ClientForm.{client_ok, client_form}
use Rattle.rws_token.specs.Lexeme.{same_word}
use Rattle.rws_words.specs.Words.{key_words}
use Rattle.rws_class.specs.Classes.{class_of}
use Rattle.rws_class.specs.Forms.{forms}
use Rattle.rws_board.specs.declared.event.Event.TheVariants.{Begin, Clock, LinkGone, LinkReady, Observed, End}
use Rattle.rws_pool.specs.declared.words.State.TheVariants.{Master, Slave, Running}
use Rattle.rws_record.proofs.WorkedRuns.{Does, closes, does_in, drops, from_client, on_link, opens, primary_first, round_in, routes, takes_in, to_client, to_link}
use Rattle.rws_causal.specs.Commits.{commit_in, commit_of, shown_at}

-- a read goes to a replica of the least load, on a link that is opened for it, and its reply to the client
a_read_goes_to_a_replica : Does
    (Observed primary_first ∷ Begin 1 0 ∷
    from_client 1 (codes "0500000005010000001b0000000353454c45435420622046524f4d20742057484552452069643d31") ∷ LinkReady 2 ∷
    on_link 2 (codes "010000010117000002036465660000000161000c2d000a000000fd000000000005000003fe0000020001000004fb05000005fe00000200") ∷
    End ∷ [])
    (takes_in primary_first ∷ to_client 1 (codes "18000001ff1704233038533031756e6b6e6f776e20636f6d6d616e64") ∷ routes 1 ∷
    opens 2 1 1 ∷ to_link 2 (codes "1b0000000353454c45435420622046524f4d20742057484552452069643d31") ∷
    to_client 1 (codes "0100000101") ∷ to_client 1 (codes "17000002036465660000000161000c2d000a000000fd0000000000") ∷
    to_client 1 (codes "05000003fe00000200") ∷ to_client 1 (codes "01000004fb") ∷ to_client 1 (codes "05000005fe00000200") ∷ [])
unfolding lenenc lenenc_bytes full_packet spelling number_behind payload_behind first_payload eof_at err_at err_code err_bytes bytes_at number_at fixed_at lenenc_at text_at text_bytes zero_text_at last_text_at ended state_at texts_at ok_at ok_status texts_bytes ok_bytes prepare_ok_at eof_status prepared_counts column_count is_definition is_row progress role client_ok client_form has answer_at name_at attributes_at names_at response_at answer_bytes name_bytes attributes_bytes names_bytes response_front response_bytes abilities_at last_piece_at plugin_at greeting_at abilities_bytes greeting_front back_bytes greeting_bytes switch_at asked_at plugin_asked switch_bytes flags_of response_of reaction class_of same_word forms commit_in commit_of shown_at
a_read_goes_to_a_replica = does_in 16 refl refl

-- a replica whose link awaits a reply is passed over for one without
a_load_is_heavier_with_a_pending_command : Does
    (Observed primary_first ∷ Begin 1 0 ∷ Begin 5 0 ∷
    from_client 1 (codes "0a0000000373656c6563742040781d00000003696e7365727420696e746f2074202861292076616c75657320283129") ∷
    LinkReady 3 ∷
    from_client 5 (codes "090000000373656c656374203109000000037365742040613d31240000000373656c6563742073716c5f63616c635f666f756e645f726f777320612066726f6d2074") ∷
    End ∷ [])
    (takes_in primary_first ∷ routes 1 ∷ opens 3 1 1 ∷ to_link 3 (codes "0a0000000373656c656374204078") ∷ routes 5 ∷ opens 4 2 5 ∷
    [])
unfolding lenenc lenenc_bytes full_packet spelling number_behind payload_behind first_payload eof_at err_at err_code err_bytes bytes_at number_at fixed_at lenenc_at text_at text_bytes zero_text_at last_text_at ended state_at texts_at ok_at ok_status texts_bytes ok_bytes prepare_ok_at eof_status prepared_counts column_count is_definition is_row progress role client_ok client_form has answer_at name_at attributes_at names_at response_at answer_bytes name_bytes attributes_bytes names_bytes response_front response_bytes abilities_at last_piece_at plugin_at greeting_at abilities_bytes greeting_front back_bytes greeting_bytes switch_at asked_at plugin_asked switch_bytes flags_of response_of reaction class_of same_word forms commit_in commit_of shown_at
a_load_is_heavier_with_a_pending_command = does_in 16 refl refl

-- a write goes to the primary; once it was sent, nobody knows whether a lost link carried it out
a_lost_write : Does
    (Observed (round_in Master Slave Running) ∷ Begin 1 0 ∷
    from_client 1 (codes "1d00000003696e7365727420696e746f2074202861292076616c7565732028312917000000037365742074696d655f7a6f6e653d272b30303a303027") ∷
    LinkGone 1 ∷ End ∷ [])
    (takes_in (round_in Master Slave Running) ∷ routes 1 ∷
    to_link 1 (codes "1d00000003696e7365727420696e746f2074202861292076616c75657320283129") ∷ closes 1 OutcomeUnknown ∷ [])
unfolding lenenc lenenc_bytes full_packet spelling number_behind payload_behind first_payload eof_at err_at err_code err_bytes bytes_at number_at fixed_at lenenc_at text_at text_bytes zero_text_at last_text_at ended state_at texts_at ok_at ok_status texts_bytes ok_bytes prepare_ok_at eof_status prepared_counts column_count is_definition is_row progress role client_ok client_form has answer_at name_at attributes_at names_at response_at answer_bytes name_bytes attributes_bytes names_bytes response_front response_bytes abilities_at last_piece_at plugin_at greeting_at abilities_bytes greeting_front back_bytes greeting_bytes switch_at asked_at plugin_asked switch_bytes flags_of response_of reaction class_of same_word key_words forms commit_in commit_of shown_at
a_lost_write = does_in 16 refl refl

-- a read whose link is lost is sent to the next replica, and behind that to the primary
a_lost_read_is_sent_again : Does
    (Observed primary_first ∷ Begin 1 0 ∷ from_client 1 (codes "1b0000000353454c45435420622046524f4d20742057484552452069643d31") ∷
    LinkReady 2 ∷ LinkGone 2 ∷ LinkReady 3 ∷ LinkGone 3 ∷ End ∷ [])
    (takes_in primary_first ∷ routes 1 ∷ opens 2 1 1 ∷
    to_link 2 (codes "1b0000000353454c45435420622046524f4d20742057484552452069643d31") ∷ routes 1 ∷ opens 3 2 1 ∷
    to_link 3 (codes "1b0000000353454c45435420622046524f4d20742057484552452069643d31") ∷ routes 1 ∷
    to_link 1 (codes "1b0000000353454c45435420622046524f4d20742057484552452069643d31") ∷ [])
unfolding lenenc lenenc_bytes full_packet spelling number_behind payload_behind first_payload eof_at err_at err_code err_bytes bytes_at number_at fixed_at lenenc_at text_at text_bytes zero_text_at last_text_at ended state_at texts_at ok_at ok_status texts_bytes ok_bytes prepare_ok_at eof_status prepared_counts column_count is_definition is_row progress role client_ok client_form has answer_at name_at attributes_at names_at response_at answer_bytes name_bytes attributes_bytes names_bytes response_front response_bytes abilities_at last_piece_at plugin_at greeting_at abilities_bytes greeting_front back_bytes greeting_bytes switch_at asked_at plugin_asked switch_bytes flags_of response_of reaction class_of same_word forms commit_in commit_of shown_at
a_lost_read_is_sent_again = does_in 16 refl refl

-- the primary that was tried isn't tried again before the clock shows something
a_primary_that_was_tried : Does
    (Observed primary_first ∷ Begin 4 0 ∷ from_client 4 (codes "0c0000000373686f77207461626c6573") ∷ LinkGone 1 ∷ Clock 5000 ∷
    LinkReady 2 ∷ End ∷ [])
    (takes_in primary_first ∷ routes 4 ∷ to_link 1 (codes "0c0000000373686f77207461626c6573") ∷ routes 4 ∷ routes 4 ∷ opens 2 0 4 ∷
    to_link 2 (codes "0c0000000373686f77207461626c6573") ∷ [])
unfolding lenenc lenenc_bytes full_packet spelling number_behind payload_behind first_payload eof_at err_at err_code err_bytes bytes_at number_at fixed_at lenenc_at text_at text_bytes zero_text_at last_text_at ended state_at texts_at ok_at ok_status texts_bytes ok_bytes prepare_ok_at eof_status prepared_counts column_count is_definition is_row progress role client_ok client_form has answer_at name_at attributes_at names_at response_at answer_bytes name_bytes attributes_bytes names_bytes response_front response_bytes abilities_at last_piece_at plugin_at greeting_at abilities_bytes greeting_front back_bytes greeting_bytes switch_at asked_at plugin_asked switch_bytes flags_of response_of reaction class_of same_word forms commit_in commit_of shown_at
a_primary_that_was_tried = does_in 16 refl refl

-- ten seconds behind the reading at which none was found
no_primary_in_time : Does
    (Begin 1 1 ∷ from_client 1 (codes "1d00000003696e7365727420696e746f2074202861292076616c75657320283129") ∷ Clock 10000 ∷ End ∷
    [])
    (routes 1 ∷ routes 1 ∷ to_client 1 (codes "13000001ff51042348593030306e6f207072696d617279") ∷ [])
unfolding lenenc lenenc_bytes full_packet spelling number_behind payload_behind first_payload eof_at err_at err_code err_bytes bytes_at number_at fixed_at lenenc_at text_at text_bytes zero_text_at last_text_at ended state_at texts_at ok_at ok_status texts_bytes ok_bytes prepare_ok_at eof_status prepared_counts column_count is_definition is_row progress role client_ok client_form has answer_at name_at attributes_at names_at response_at answer_bytes name_bytes attributes_bytes names_bytes response_front response_bytes abilities_at last_piece_at plugin_at greeting_at abilities_bytes greeting_front back_bytes greeting_bytes switch_at asked_at plugin_asked switch_bytes flags_of response_of reaction class_of same_word key_words forms commit_in commit_of shown_at
no_primary_in_time = does_in 16 refl refl

-- a millisecond before that
no_primary_yet : Does
    (Begin 1 1 ∷ from_client 1 (codes "1c000000035354415254205452414e53414354494f4e2052454144204f4e4c59") ∷ Clock 9999 ∷ End ∷ [])
    (routes 1 ∷ routes 1 ∷ [])
unfolding lenenc lenenc_bytes full_packet spelling number_behind payload_behind first_payload eof_at err_at err_code err_bytes bytes_at number_at fixed_at lenenc_at text_at text_bytes zero_text_at last_text_at ended state_at texts_at ok_at ok_status texts_bytes ok_bytes prepare_ok_at eof_status prepared_counts column_count is_definition is_row progress role client_ok client_form has answer_at name_at attributes_at names_at response_at answer_bytes name_bytes attributes_bytes names_bytes response_front response_bytes abilities_at last_piece_at plugin_at greeting_at abilities_bytes greeting_front back_bytes greeting_bytes switch_at asked_at plugin_asked switch_bytes flags_of response_of reaction class_of same_word forms commit_in commit_of shown_at
no_primary_yet = does_in 16 refl refl

-- a command by which anything may be changed keeps the session on its link, and the others are given up
a_session_is_kept : Does
    (Observed primary_first ∷ Begin 1 1 ∷
    from_client 1 (codes "090000000363616c6c20702829010000000e") ∷ LinkReady 2 ∷ End ∷ [])
    (takes_in primary_first ∷ routes 1 ∷ opens 2 0 1 ∷
    to_link 2 (codes "090000000363616c6c20702829") ∷ drops 1 Kept ∷ [])
unfolding lenenc lenenc_bytes full_packet spelling number_behind payload_behind first_payload eof_at err_at err_code err_bytes bytes_at number_at fixed_at lenenc_at text_at text_bytes zero_text_at last_text_at ended state_at texts_at ok_at ok_status texts_bytes ok_bytes prepare_ok_at eof_status prepared_counts column_count is_definition is_row progress role client_ok client_form has answer_at name_at attributes_at names_at response_at answer_bytes name_bytes attributes_bytes names_bytes response_front response_bytes abilities_at last_piece_at plugin_at greeting_at abilities_bytes greeting_front back_bytes greeting_bytes switch_at asked_at plugin_asked switch_bytes flags_of response_of reaction class_of same_word forms commit_in commit_of shown_at
a_session_is_kept = does_in 16 refl refl

-- each session hears of the clock in order of number, and waits for a primary from its own reading on
two_sessions_wait : Does
    (Begin 1 1 ∷ from_client 1 (codes "1d00000003696e7365727420696e746f2074202861292076616c75657320283129") ∷ Clock 5000 ∷
    Begin 2 1 ∷ from_client 2 (codes "1d00000003696e7365727420696e746f2074202861292076616c75657320283129") ∷ Clock 10000 ∷
    Clock 15000 ∷ End ∷ [])
    (routes 1 ∷ routes 1 ∷ routes 2 ∷ routes 1 ∷ to_client 1 (codes "13000001ff51042348593030306e6f207072696d617279") ∷ routes 2 ∷
    routes 2 ∷ to_client 2 (codes "13000001ff51042348593030306e6f207072696d617279") ∷ [])
unfolding lenenc lenenc_bytes full_packet spelling number_behind payload_behind first_payload eof_at err_at err_code err_bytes bytes_at number_at fixed_at lenenc_at text_at text_bytes zero_text_at last_text_at ended state_at texts_at ok_at ok_status texts_bytes ok_bytes prepare_ok_at eof_status prepared_counts column_count is_definition is_row progress role client_ok client_form has answer_at name_at attributes_at names_at response_at answer_bytes name_bytes attributes_bytes names_bytes response_front response_bytes abilities_at last_piece_at plugin_at greeting_at abilities_bytes greeting_front back_bytes greeting_bytes switch_at asked_at plugin_asked switch_bytes flags_of response_of reaction class_of same_word key_words forms commit_in commit_of shown_at
two_sessions_wait = does_in 16 refl refl
