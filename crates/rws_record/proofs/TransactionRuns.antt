-- Runs in which transactions are open, computed by the definition.
use Rattle.std.proofs.Common.{◌≡◌, ℕ, List, true, false, [], ◌∷◌, refl, None, Some, codes}
use Rattle.rws_wire.specs.declared.close_reason.CloseReason.TheVariants.{NotReplayable, OutcomeUnknown, SessionState}
use Rattle.rws_wire.specs.declared.drop_cause.DropCause.TheVariants.{Unasked, End as AtEnd}
use Rattle.rws_wire.specs.Lenenc.{lenenc, lenenc_bytes}
use Rattle.rws_wire.specs.Packets.{full_packet, spelling, number_behind}
use Rattle.rws_wire.specs.Payloads.{payload_behind, first_payload}
use Rattle.rws_msgs.specs.EofLayout.{eof_at}
use Rattle.rws_msgs.specs.ErrLayout.{err_at, err_code, err_bytes}
use Rattle.rws_msgs.specs.Fields.{bytes_at, number_at, fixed_at, lenenc_at, text_at, text_bytes, zero_text_at, last_text_at, ended}
use Rattle.rws_msgs.specs.GreetingLayout.{abilities_at, last_piece_at, plugin_at, greeting_at, abilities_bytes, front_bytes as greeting_front, back_bytes, greeting_bytes}
use Rattle.rws_msgs.specs.OkLayout.{state_at, texts_at, ok_at, ok_status, texts_bytes, ok_bytes}
use Rattle.rws_msgs.specs.PrepareOkLayout.{prepare_ok_at, prepare_ok_bytes}
use Rattle.rws_msgs.specs.ResponseLayout.{has, answer_at, name_at, attributes_at, names_at, response_at, answer_bytes, name_bytes, attributes_bytes, names_bytes, front_bytes as response_front, response_bytes}
use Rattle.rws_msgs.specs.SwitchLayout.{switch_at, asked_at, plugin_asked, switch_bytes}
use Rattle.rws_link.specs.Handshake.{flags_of, response_of, reaction}
use Rattle.rws_reply.specs.Payloads.{eof_status, prepared_counts, column_count, is_definition, is_row}
use Rattle.rws_reply.specs.Tracking.{progress, role}
use Rattle.rws_reply.specs.ClientForm.{client_ok, client_prepared, client_form}
use Rattle.rws_token.specs.Lexeme.{same_word}
use Rattle.rws_words.specs.Words.{key_words, refused_names, setting_names}
use Rattle.rws_class.specs.Classes.{class_of}
use Rattle.rws_class.specs.Forms.{forms}
use Rattle.rws_reply.specs.declared.kind.Outcome.{Outcome}
use Rattle.rws_reply.specs.declared.kind.Outcome.TheVariants.{Done, Failed}
use Rattle.rws_reply.specs.declared.kind.Kind.TheVariants.{Query as QueryReply}
use Rattle.rws_board.specs.declared.event.Event.TheVariants.{Begin, LinkGone, LinkReady, Observed, End}
use Rattle.rws_pool.specs.declared.words.PoolWords.{PoolWords}
use Rattle.rws_pool.specs.declared.words.State.TheVariants.{Down, Master, Slave}
use Rattle.rws_select.specs.declared.selector.Load.{Load}
use Rattle.rws_route.specs.declared.destination.Target.TheVariants.{Primary}
use Rattle.rws_config.specs.BuiltIn.{built_in}
use Rattle.rws_commands.specs.declared.command.Body.TheVariants.{Payload}
use Rattle.rws_commands.specs.declared.command.Command.{Command}
use Rattle.rws_record.specs.Item.{Item, Recording}
use Rattle.rws_record.specs.Item.Item.{Began, Routed, Takes, Puts}
use Rattle.rws_commands.specs.declared.judged.Judged.TheVariants.{Serves}
use Rattle.rws_record.specs.Item.Put.{Tells}
use Rattle.rws_record.specs.Item.Tell.{Passes}
use Rattle.rws_record.specs.Item.Recording.{Nothing, Accepts}
use Rattle.rws_record.specs.Log.{log, mark, total}
use Rattle.rws_record.specs.Values.{transaction_bytes}
use Rattle.rws_record.proofs.WorkedRuns.{commits, Does, closes, does_in, drops, from_client, hex, on_link, opens, primary_first, round_in, routes, takes_in, to_client, to_link}
use Rattle.rws_causal.specs.Commits.{commit_in, commit_of, shown_at, entry_at, variables_at}
use Rattle.rws_gtid.specs.Parsing as parsing

-- a session is pinned to the link that its transaction is open on: a read goes there, and isn't routed
begin_pins_the_session : Does
    (Observed primary_first ∷ Begin 1 0 ∷
    from_client 1 (codes "12000000037374617274207472616e73616374696f6e1b0000000353454c45435420622046524f4d20742057484552452069643d31") ∷
    on_link 1 (codes "0700000100000003000000") ∷ End ∷ [])
    (takes_in primary_first ∷ routes 1 ∷ to_link 1 (codes "12000000037374617274207472616e73616374696f6e") ∷
    to_client 1 (codes "0700000100000003000000") ∷
    to_link 1 (codes "1b0000000353454c45435420622046524f4d20742057484552452069643d31") ∷ [])
unfolding lenenc lenenc_bytes full_packet spelling number_behind payload_behind first_payload eof_at err_at err_code err_bytes bytes_at number_at fixed_at lenenc_at text_at text_bytes zero_text_at last_text_at ended state_at texts_at ok_at ok_status texts_bytes ok_bytes prepare_ok_at eof_status prepared_counts column_count is_definition is_row progress role client_ok client_form has answer_at name_at attributes_at names_at response_at answer_bytes name_bytes attributes_bytes names_bytes response_front response_bytes abilities_at last_piece_at plugin_at greeting_at abilities_bytes greeting_front back_bytes greeting_bytes switch_at asked_at plugin_asked switch_bytes flags_of response_of reaction class_of same_word key_words forms commit_in commit_of shown_at
begin_pins_the_session = does_in 16 refl refl

-- a COMMIT ends it, as its OK says, and the next read is routed
commit_ends_it : Does
    (Observed primary_first ∷ Begin 1 0 ∷ from_client 1 (codes "12000000037374617274207472616e73616374696f6e") ∷
    on_link 1 (codes "0700000100000003000000") ∷
    from_client 1 (codes "0c00000003434f4d4d495420574f524b1b0000000353454c45435420622046524f4d20742057484552452069643d31") ∷
    on_link 1 (codes "2a000001000100024000000f526f7773206d6174636865643a2031120010096c6173745f6774696405302d312d31") ∷ End ∷ [])
    (takes_in primary_first ∷ routes 1 ∷ to_link 1 (codes "12000000037374617274207472616e73616374696f6e") ∷
    to_client 1 (codes "0700000100000003000000") ∷ to_link 1 (codes "0c00000003434f4d4d495420574f524b") ∷
    commits 0 1 1 ∷ to_client 1 (codes "17000001000100020000000f526f7773206d6174636865643a2031") ∷ routes 1 ∷ opens 2 1 1 ∷ [])
unfolding lenenc lenenc_bytes full_packet spelling number_behind payload_behind first_payload eof_at err_at err_code err_bytes bytes_at number_at fixed_at lenenc_at text_at text_bytes zero_text_at last_text_at ended state_at texts_at ok_at ok_status texts_bytes ok_bytes prepare_ok_at eof_status prepared_counts column_count is_definition is_row progress role client_ok client_form has answer_at name_at attributes_at names_at response_at answer_bytes name_bytes attributes_bytes names_bytes response_front response_bytes abilities_at last_piece_at plugin_at greeting_at abilities_bytes greeting_front back_bytes greeting_bytes switch_at asked_at plugin_asked switch_bytes flags_of response_of reaction class_of same_word key_words forms commit_in commit_of shown_at entry_at variables_at parsing.gtid_at parsing.number_at parsing.dash_at
commit_ends_it = does_in 16 refl refl

-- a COMMIT whose OK shows a transaction leaves it open (`COMMIT AND CHAIN`, say), and the next read stays
commit_leaves_it_open : Does
    (Observed primary_first ∷ Begin 4 0 ∷ from_client 4 (codes "0600000003626567696e") ∷
    on_link 1 (codes "0900000100fc2c010003000000") ∷
    from_client 4 (codes "0700000003636f6d6d69741b0000000353454c45435420622046524f4d20742057484552452069643d31") ∷
    on_link 1 (codes "1b0000010001000340000000120010096c6173745f6774696405302d312d37") ∷ End ∷ [])
    (takes_in primary_first ∷ routes 4 ∷ to_link 1 (codes "0600000003626567696e") ∷
    to_client 4 (codes "0900000100fc2c010003000000") ∷ to_link 1 (codes "0700000003636f6d6d6974") ∷
    commits 0 1 7 ∷ to_client 4 (codes "0700000100010003000000") ∷
    to_link 1 (codes "1b0000000353454c45435420622046524f4d20742057484552452069643d31") ∷ [])
unfolding lenenc lenenc_bytes full_packet spelling number_behind payload_behind first_payload eof_at err_at err_code err_bytes bytes_at number_at fixed_at lenenc_at text_at text_bytes zero_text_at last_text_at ended state_at texts_at ok_at ok_status texts_bytes ok_bytes prepare_ok_at eof_status prepared_counts column_count is_definition is_row progress role client_ok client_form has answer_at name_at attributes_at names_at response_at answer_bytes name_bytes attributes_bytes names_bytes response_front response_bytes abilities_at last_piece_at plugin_at greeting_at abilities_bytes greeting_front back_bytes greeting_bytes switch_at asked_at plugin_asked switch_bytes flags_of response_of reaction class_of same_word key_words forms commit_in commit_of shown_at entry_at variables_at parsing.gtid_at parsing.number_at parsing.dash_at
commit_leaves_it_open = does_in 16 refl refl

-- a prepare shows nothing of the transaction: its OK has no status, and the transaction stays open; so the next read isn't routed
a_prepare_leaves_it_open : Does
    (Observed primary_first ∷ Begin 4 0 ∷ from_client 4 (codes "0600000003626567696e") ∷
    on_link 1 (codes "0700000100000003000000") ∷ from_client 4 (codes "0c0000001673617665706f696e742061") ∷
    on_link 1 (codes "0c000001006500000000000000000000") ∷
    from_client 4 (codes "1b0000000353454c45435420622046524f4d20742057484552452069643d31") ∷ End ∷ [])
    (takes_in primary_first ∷ routes 4 ∷ to_link 1 (codes "0600000003626567696e") ∷
    to_client 4 (codes "0700000100000003000000") ∷ to_link 1 (codes "0c0000001673617665706f696e742061") ∷
    to_client 4 (codes "0c000001000100000000000000000000") ∷
    to_link 1 (codes "1b0000000353454c45435420622046524f4d20742057484552452069643d31") ∷ [])
unfolding lenenc lenenc_bytes full_packet spelling number_behind payload_behind first_payload eof_at err_at err_code err_bytes bytes_at number_at fixed_at lenenc_at text_at text_bytes zero_text_at last_text_at ended state_at texts_at ok_at ok_status texts_bytes ok_bytes prepare_ok_at prepare_ok_bytes eof_status prepared_counts column_count is_definition is_row progress role client_ok client_prepared client_form has answer_at name_at attributes_at names_at response_at answer_bytes name_bytes attributes_bytes names_bytes response_front response_bytes abilities_at last_piece_at plugin_at greeting_at abilities_bytes greeting_front back_bytes greeting_bytes switch_at asked_at plugin_asked switch_bytes flags_of response_of reaction class_of same_word key_words forms commit_in commit_of shown_at
a_prepare_leaves_it_open = does_in 16 refl refl

-- a read-only transaction is open at a replica: a write is refused, and a read goes there; with its link the transaction is
-- lost, and its bytes are those of the two commands that were sent
a_read_only_transaction : Does
    (Observed primary_first ∷ Begin 4 0 ∷
    from_client 4 (codes "1c000000035354415254205452414e53414354494f4e2052454144204f4e4c59") ∷ LinkReady 2 ∷
    from_client 4 (codes "1d00000003696e7365727420696e746f2074202861292076616c75657320283129") ∷
    on_link 2 (codes "0700000100000003000000") ∷
    from_client 4 (codes "1b0000000353454c45435420622046524f4d20742057484552452069643d31") ∷ LinkGone 2 ∷ End ∷ [])
    (takes_in primary_first ∷ routes 4 ∷ opens 2 1 4 ∷
    to_link 2 (codes "1c000000035354415254205452414e53414354494f4e2052454144204f4e4c59") ∷
    to_client 4 (codes "0700000100000003000000") ∷
    to_client 4 (codes "27000001ffd3042334323030306e6f7420696e206120726561642d6f6e6c79207472616e73616374696f6e") ∷
    to_link 2 (codes "1b0000000353454c45435420622046524f4d20742057484552452069643d31") ∷
    closes 4 (NotReplayable 55 false true true) ∷ drops 1 AtEnd ∷ [])
unfolding lenenc lenenc_bytes full_packet spelling number_behind payload_behind first_payload eof_at err_at err_code err_bytes bytes_at number_at fixed_at lenenc_at text_at text_bytes zero_text_at last_text_at ended state_at texts_at ok_at ok_status texts_bytes ok_bytes prepare_ok_at eof_status prepared_counts column_count is_definition is_row progress role client_ok client_form has answer_at name_at attributes_at names_at response_at answer_bytes name_bytes attributes_bytes names_bytes response_front response_bytes abilities_at last_piece_at plugin_at greeting_at abilities_bytes greeting_front back_bytes greeting_bytes switch_at asked_at plugin_asked switch_bytes flags_of response_of reaction class_of same_word key_words forms commit_in commit_of shown_at
a_read_only_transaction = does_in 16 refl refl

-- nobody knows whether a COMMIT was carried out that was out on a lost link
a_lost_commit : Does
    (Observed primary_first ∷ Begin 1 0 ∷ from_client 1 (codes "12000000037374617274207472616e73616374696f6e") ∷
    on_link 1 (codes "0700000100000003000000") ∷ from_client 1 (codes "0c00000003434f4d4d495420574f524b") ∷ LinkGone 1 ∷ End ∷ [])
    (takes_in primary_first ∷ routes 1 ∷ to_link 1 (codes "12000000037374617274207472616e73616374696f6e") ∷
    to_client 1 (codes "0700000100000003000000") ∷ to_link 1 (codes "0c00000003434f4d4d495420574f524b") ∷
    closes 1 OutcomeUnknown ∷ [])
unfolding lenenc lenenc_bytes full_packet spelling number_behind payload_behind first_payload eof_at err_at err_code err_bytes bytes_at number_at fixed_at lenenc_at text_at text_bytes zero_text_at last_text_at ended state_at texts_at ok_at ok_status texts_bytes ok_bytes prepare_ok_at eof_status prepared_counts column_count is_definition is_row progress role client_ok client_form has answer_at name_at attributes_at names_at response_at answer_bytes name_bytes attributes_bytes names_bytes response_front response_bytes abilities_at last_piece_at plugin_at greeting_at abilities_bytes greeting_front back_bytes greeting_bytes switch_at asked_at plugin_asked switch_bytes flags_of response_of reaction class_of same_word key_words forms commit_in commit_of shown_at
a_lost_commit = does_in 16 refl refl

-- a write in a transaction is lost with it: nothing of it stays on the server, so its outcome isn't unknown
a_lost_write_in_a_transaction : Does
    (Observed primary_first ∷ Begin 1 0 ∷ from_client 1 (codes "12000000037374617274207472616e73616374696f6e") ∷
    on_link 1 (codes "0700000100000003000000") ∷
    from_client 1 (codes "1d00000003696e7365727420696e746f2074202861292076616c75657320283129") ∷ LinkGone 1 ∷ End ∷ [])
    (takes_in primary_first ∷ routes 1 ∷ to_link 1 (codes "12000000037374617274207472616e73616374696f6e") ∷
    to_client 1 (codes "0700000100000003000000") ∷
    to_link 1 (codes "1d00000003696e7365727420696e746f2074202861292076616c75657320283129") ∷
    closes 1 (NotReplayable 47 false false true) ∷ [])
unfolding lenenc lenenc_bytes full_packet spelling number_behind payload_behind first_payload eof_at err_at err_code err_bytes bytes_at number_at fixed_at lenenc_at text_at text_bytes zero_text_at last_text_at ended state_at texts_at ok_at ok_status texts_bytes ok_bytes prepare_ok_at eof_status prepared_counts column_count is_definition is_row progress role client_ok client_form has answer_at name_at attributes_at names_at response_at answer_bytes name_bytes attributes_bytes names_bytes response_front response_bytes abilities_at last_piece_at plugin_at greeting_at abilities_bytes greeting_front back_bytes greeting_bytes switch_at asked_at plugin_asked switch_bytes flags_of response_of reaction class_of same_word key_words forms commit_in commit_of shown_at
a_lost_write_in_a_transaction = does_in 16 refl refl

-- an error taints the transaction, and leaves it open
an_error_taints : Does
    (Observed primary_first ∷ Begin 1 0 ∷
    from_client 1 (codes "2b000000037374617274207472616e73616374696f6e207769746820636f6e73697374656e7420736e617073686f74") ∷
    on_link 1 (codes "0700000100000003000000") ∷
    from_client 1 (codes "1b0000000353454c45435420622046524f4d20742057484552452069643d31") ∷
    on_link 1 (codes "12000001ff510423485930303064656164206c6f636b") ∷ LinkGone 1 ∷ End ∷ [])
    (takes_in primary_first ∷ routes 1 ∷
    to_link 1 (codes "2b000000037374617274207472616e73616374696f6e207769746820636f6e73697374656e7420736e617073686f74") ∷
    to_client 1 (codes "0700000100000003000000") ∷
    to_link 1 (codes "1b0000000353454c45435420622046524f4d20742057484552452069643d31") ∷
    to_client 1 (codes "12000001ff510423485930303064656164206c6f636b") ∷ closes 1 (NotReplayable 70 true false true) ∷ [])
unfolding lenenc lenenc_bytes full_packet spelling number_behind payload_behind first_payload eof_at err_at err_code err_bytes bytes_at number_at fixed_at lenenc_at text_at text_bytes zero_text_at last_text_at ended state_at texts_at ok_at ok_status texts_bytes ok_bytes prepare_ok_at eof_status prepared_counts column_count is_definition is_row progress role client_ok client_form has answer_at name_at attributes_at names_at response_at answer_bytes name_bytes attributes_bytes names_bytes response_front response_bytes abilities_at last_piece_at plugin_at greeting_at abilities_bytes greeting_front back_bytes greeting_bytes switch_at asked_at plugin_asked switch_bytes flags_of response_of reaction class_of same_word key_words forms commit_in commit_of shown_at
an_error_taints = does_in 16 refl refl

-- a BEGIN in a transaction begins the next one: that isn't tainted, and has the bytes of its own commands
begin_begins_the_next : Does
    (Observed primary_first ∷ Begin 1 0 ∷ from_client 1 (codes "0600000003626567696e") ∷
    on_link 1 (codes "0700000100000003000000") ∷
    from_client 1 (codes "1b0000000353454c45435420622046524f4d20742057484552452069643d31") ∷
    on_link 1 (codes "12000001ff510423485930303064656164206c6f636b") ∷
    from_client 1 (codes "2b000000037374617274207472616e73616374696f6e207769746820636f6e73697374656e7420736e617073686f74") ∷
    on_link 1 (codes "0700000100000003000000") ∷ LinkGone 1 ∷ End ∷ [])
    (takes_in primary_first ∷ routes 1 ∷ to_link 1 (codes "0600000003626567696e") ∷
    to_client 1 (codes "0700000100000003000000") ∷
    to_link 1 (codes "1b0000000353454c45435420622046524f4d20742057484552452069643d31") ∷
    to_client 1 (codes "12000001ff510423485930303064656164206c6f636b") ∷
    to_link 1 (codes "2b000000037374617274207472616e73616374696f6e207769746820636f6e73697374656e7420736e617073686f74") ∷
    to_client 1 (codes "0700000100000003000000") ∷ closes 1 (NotReplayable 43 false false true) ∷ [])
unfolding lenenc lenenc_bytes full_packet spelling number_behind payload_behind first_payload eof_at err_at err_code err_bytes bytes_at number_at fixed_at lenenc_at text_at text_bytes zero_text_at last_text_at ended state_at texts_at ok_at ok_status texts_bytes ok_bytes prepare_ok_at eof_status prepared_counts column_count is_definition is_row progress role client_ok client_form has answer_at name_at attributes_at names_at response_at answer_bytes name_bytes attributes_bytes names_bytes response_front response_bytes abilities_at last_piece_at plugin_at greeting_at abilities_bytes greeting_front back_bytes greeting_bytes switch_at asked_at plugin_asked switch_bytes flags_of response_of reaction class_of same_word key_words forms commit_in commit_of shown_at
begin_begins_the_next = does_in 16 refl refl

-- the proxy's own OK shows whether a transaction is open
ping_shows_the_transaction : Does
    (Observed primary_first ∷ Begin 1 0 ∷ from_client 1 (codes "12000000037374617274207472616e73616374696f6e010000000e") ∷
    on_link 1 (codes "0700000100000003000000") ∷ from_client 1 (codes "0900000003726f6c6c6261636b010000000e") ∷
    on_link 1 (codes "0700000100000002000000") ∷ End ∷ [])
    (takes_in primary_first ∷ routes 1 ∷ to_link 1 (codes "12000000037374617274207472616e73616374696f6e") ∷
    to_client 1 (codes "0700000100000003000000") ∷ to_client 1 (codes "0700000100000003000000") ∷
    to_link 1 (codes "0900000003726f6c6c6261636b") ∷ to_client 1 (codes "0700000100000002000000") ∷
    to_client 1 (codes "0700000100000002000000") ∷ [])
unfolding lenenc lenenc_bytes full_packet spelling number_behind payload_behind first_payload eof_at err_at err_code err_bytes bytes_at number_at fixed_at lenenc_at text_at text_bytes zero_text_at last_text_at ended state_at texts_at ok_at ok_status texts_bytes ok_bytes prepare_ok_at eof_status prepared_counts column_count is_definition is_row progress role client_ok client_form has answer_at name_at attributes_at names_at response_at answer_bytes name_bytes attributes_bytes names_bytes response_front response_bytes abilities_at last_piece_at plugin_at greeting_at abilities_bytes greeting_front back_bytes greeting_bytes switch_at asked_at plugin_asked switch_bytes flags_of response_of reaction class_of same_word key_words forms commit_in commit_of shown_at
ping_shows_the_transaction = does_in 16 refl refl

-- `set autocommit=off` opens no transaction, and is played on another link, whose reply says nothing of the session; a read is
-- then routed to the primary
autocommit_off_is_played : Does
    (Observed primary_first ∷ Begin 1 2 ∷ from_client 1 (codes "1300000003736574206175746f636f6d6d69743d6f6666") ∷ LinkReady 2 ∷
    on_link 2 (codes "0700000100000000000000") ∷ on_link 1 (codes "0700000100000003000000") ∷
    from_client 1 (codes "010000000e090000000373656c6563742031") ∷ End ∷ [])
    (takes_in primary_first ∷ routes 1 ∷ opens 2 0 1 ∷ to_link 2 (codes "1300000003736574206175746f636f6d6d69743d6f6666") ∷
    to_client 1 (codes "0700000100000000000000") ∷ to_link 1 (codes "1300000003736574206175746f636f6d6d69743d6f6666") ∷
    to_client 1 (codes "0700000100000000000000") ∷ routes 1 ∷ to_link 2 (codes "090000000373656c6563742031") ∷ [])
unfolding lenenc lenenc_bytes full_packet spelling number_behind payload_behind first_payload eof_at err_at err_code err_bytes bytes_at number_at fixed_at lenenc_at text_at text_bytes zero_text_at last_text_at ended state_at texts_at ok_at ok_status texts_bytes ok_bytes prepare_ok_at eof_status prepared_counts column_count is_definition is_row progress role client_ok client_form has answer_at name_at attributes_at names_at response_at answer_bytes name_bytes attributes_bytes names_bytes response_front response_bytes abilities_at last_piece_at plugin_at greeting_at abilities_bytes greeting_front back_bytes greeting_bytes switch_at asked_at plugin_asked switch_bytes flags_of response_of reaction class_of same_word refused_names setting_names forms commit_in commit_of shown_at
autocommit_off_is_played = does_in 16 refl refl

-- a reply counts before what is behind it: the transaction is over when its link is given up, and the session goes on
the_reply_counts_before_the_loss : Does
    (Observed primary_first ∷ Begin 1 0 ∷ from_client 1 (codes "12000000037374617274207472616e73616374696f6e") ∷
    on_link 1 (codes "0700000100000003000000") ∷ from_client 1 (codes "0900000003726f6c6c6261636b010000000e") ∷
    on_link 1 (codes "070000010000000200000000") ∷ End ∷ [])
    (takes_in primary_first ∷ routes 1 ∷ to_link 1 (codes "12000000037374617274207472616e73616374696f6e") ∷
    to_client 1 (codes "0700000100000003000000") ∷ to_link 1 (codes "0900000003726f6c6c6261636b") ∷
    to_client 1 (codes "0700000100000002000000") ∷ drops 1 Unasked ∷ to_client 1 (codes "0700000100000002000000") ∷ [])
unfolding lenenc lenenc_bytes full_packet spelling number_behind payload_behind first_payload eof_at err_at err_code err_bytes bytes_at number_at fixed_at lenenc_at text_at text_bytes zero_text_at last_text_at ended state_at texts_at ok_at ok_status texts_bytes ok_bytes prepare_ok_at eof_status prepared_counts column_count is_definition is_row progress role client_ok client_form has answer_at name_at attributes_at names_at response_at answer_bytes name_bytes attributes_bytes names_bytes response_front response_bytes abilities_at last_piece_at plugin_at greeting_at abilities_bytes greeting_front back_bytes greeting_bytes switch_at asked_at plugin_asked switch_bytes flags_of response_of reaction class_of same_word key_words forms commit_in commit_of shown_at
the_reply_counts_before_the_loss = does_in 16 refl refl

-- with autocommit off a read opens a transaction, where its reply says so
a_read_opens_one : Does
    (Observed primary_first ∷ Begin 1 0 ∷
    from_client 1 (codes "1300000003736574206175746f636f6d6d69743d6f6666090000000373656c6563742031") ∷
    on_link 1 (codes "0700000100000000000000") ∷
    on_link 1 (codes "010000010117000002036465660000000161000c2d000a000000fd000000000005000003fe0000020002000004013505000005fe00000100") ∷
    from_client 1 (codes "010000000e") ∷ LinkGone 1 ∷ End ∷ [])
    (takes_in primary_first ∷ routes 1 ∷ to_link 1 (codes "1300000003736574206175746f636f6d6d69743d6f6666") ∷
    to_client 1 (codes "0700000100000000000000") ∷ routes 1 ∷ to_link 1 (codes "090000000373656c6563742031") ∷
    to_client 1 (codes "0100000101") ∷ to_client 1 (codes "17000002036465660000000161000c2d000a000000fd0000000000") ∷
    to_client 1 (codes "05000003fe00000200") ∷ to_client 1 (codes "020000040135") ∷ to_client 1 (codes "05000005fe00000100") ∷
    to_client 1 (codes "0700000100000001000000") ∷ closes 1 (NotReplayable 9 false false true) ∷ [])
unfolding lenenc lenenc_bytes full_packet spelling number_behind payload_behind first_payload eof_at err_at err_code err_bytes bytes_at number_at fixed_at lenenc_at text_at text_bytes zero_text_at last_text_at ended state_at texts_at ok_at ok_status texts_bytes ok_bytes prepare_ok_at eof_status prepared_counts column_count is_definition is_row progress role client_ok client_form has answer_at name_at attributes_at names_at response_at answer_bytes name_bytes attributes_bytes names_bytes response_front response_bytes abilities_at last_piece_at plugin_at greeting_at abilities_bytes greeting_front back_bytes greeting_bytes switch_at asked_at plugin_asked switch_bytes flags_of response_of reaction class_of same_word refused_names setting_names forms commit_in commit_of shown_at
a_read_opens_one = does_in 16 refl refl

-- what a replica says of a transaction isn't heard, unless it was asked to begin one
a_reply_of_a_replica : Does
    (Observed (round_in Master Down Slave) ∷ Begin 1 2 ∷
    from_client 1 (codes "1b0000000353454c45435420622046524f4d20742057484552452069643d31010000000e") ∷
    on_link 1 (codes "010000010117000002036465660000000161000c2d000a000000fd000000000005000003fe0000020005000004fe00000300") ∷
    End ∷ [])
    (takes_in (round_in Master Down Slave) ∷ routes 1 ∷
    to_link 1 (codes "1b0000000353454c45435420622046524f4d20742057484552452069643d31") ∷ to_client 1 (codes "0100000101") ∷
    to_client 1 (codes "17000002036465660000000161000c2d000a000000fd0000000000") ∷ to_client 1 (codes "05000003fe00000200") ∷
    to_client 1 (codes "05000004fe00000300") ∷ to_client 1 (codes "0700000100000002000000") ∷ [])
unfolding lenenc lenenc_bytes full_packet spelling number_behind payload_behind first_payload eof_at err_at err_code err_bytes bytes_at number_at fixed_at lenenc_at text_at text_bytes zero_text_at last_text_at ended state_at texts_at ok_at ok_status texts_bytes ok_bytes prepare_ok_at eof_status prepared_counts column_count is_definition is_row progress role client_ok client_form has answer_at name_at attributes_at names_at response_at answer_bytes name_bytes attributes_bytes names_bytes response_front response_bytes abilities_at last_piece_at plugin_at greeting_at abilities_bytes greeting_front back_bytes greeting_bytes switch_at asked_at plugin_asked switch_bytes flags_of response_of reaction class_of same_word key_words forms commit_in commit_of shown_at
a_reply_of_a_replica = does_in 16 refl refl

-- where the session is kept on the link of its transaction, what it has set is lost first
a_kept_transaction : Does
    (Observed primary_first ∷ Begin 1 0 ∷ from_client 1 (codes "12000000037374617274207472616e73616374696f6e") ∷
    on_link 1 (codes "0700000100000003000000") ∷ from_client 1 (codes "020000000378") ∷
    on_link 1 (codes "0700000100000003000000") ∷ LinkGone 1 ∷ End ∷ [])
    (takes_in primary_first ∷ routes 1 ∷ to_link 1 (codes "12000000037374617274207472616e73616374696f6e") ∷
    to_client 1 (codes "0700000100000003000000") ∷ to_link 1 (codes "020000000378") ∷
    to_client 1 (codes "0700000100000003000000") ∷ closes 1 SessionState ∷ [])
unfolding lenenc lenenc_bytes full_packet spelling number_behind payload_behind first_payload eof_at err_at err_code err_bytes bytes_at number_at fixed_at lenenc_at text_at text_bytes zero_text_at last_text_at ended state_at texts_at ok_at ok_status texts_bytes ok_bytes prepare_ok_at eof_status prepared_counts column_count is_definition is_row progress role client_ok client_form has answer_at name_at attributes_at names_at response_at answer_bytes name_bytes attributes_bytes names_bytes response_front response_bytes abilities_at last_piece_at plugin_at greeting_at abilities_bytes greeting_front back_bytes greeting_bytes switch_at asked_at plugin_asked switch_bytes flags_of response_of reaction class_of same_word key_words forms commit_in commit_of shown_at
a_kept_transaction = does_in 16 refl refl

-- The log of a transaction: the commands that were answered in it, from the one that began it, each with its reply, and an error is one.
-- Its mark is the serial of the next entry when it began. What a session took up and what it told its client is enough of a record.

abbrev asking_for : List ℕ → Command
asking_for digits = record { body = Payload (hex digits); kind = QueryReply; number = 1 }

abbrev use_db1 : Command
use_db1 = asking_for (codes "0375736520646231")

abbrev start : Command
start = asking_for (codes "037374617274207472616e73616374696f6e")

abbrev reading : Command
reading = asking_for (codes "0353454c45435420622046524f4d20742057484552452069643d31")

abbrev ending : Command
ending = asking_for (codes "03636f6d6d6974")

abbrev ok : ℕ → List ℕ
ok status = 0 ∷ 0 ∷ 0 ∷ status ∷ 0 ∷ 0 ∷ 0 ∷ []

abbrev dead_lock : List ℕ
dead_lock = hex (codes "ff510423485930303064656164206c6f636b")

abbrev answers : Command → List ℕ → Outcome → Recording → List Item → List Item
answers command payload outcome recording past =
    Puts (Tells 1 (Passes 1 command payload (Some (record { outcome = outcome; named = None })) recording)) ∷ past

abbrev takes : Command → List Item → List Item
takes command past = Takes (Serves command) 1 ∷ past

module _ (words : PoolWords) (loads : List Load) where
  abbrev finds : List Item → List Item
  finds past = Routed words loads 2 (Primary 0) ∷ past

  -- `use db1`, and behind it a transaction in which a read was answered by an error
  abbrev read_in_one : List Item
  read_in_one =
      answers reading dead_lock (Failed 1213) Nothing (takes reading
      (answers start (ok 3) (Done 3) Nothing (finds (takes start
      (answers use_db1 (ok 2) (Done 2) Accepts (finds (takes use_db1 (Began 1 0 0 ∷ []))))))))

  the_log : log built_in (takes ending read_in_one)
      ≡ record { command = start; reply = ok 3 ∷ [] } ∷ record { command = reading; reply = dead_lock ∷ [] } ∷ []
  unfolding lenenc lenenc_bytes full_packet spelling number_behind payload_behind first_payload class_of same_word key_words forms
  the_log = refl

  the_mark : mark built_in (takes ending read_in_one) ≡ 1
  unfolding lenenc lenenc_bytes full_packet spelling number_behind payload_behind first_payload class_of same_word key_words forms
  the_mark = refl

  -- the pending command isn't in the log, but its bytes count for what is lost
  the_bytes : total (log built_in (takes ending read_in_one)) ≡ 45
  unfolding lenenc lenenc_bytes full_packet spelling number_behind payload_behind first_payload class_of same_word key_words forms
  the_bytes = refl

  bytes_with_the_pending : transaction_bytes built_in (takes ending read_in_one) ≡ 52
  unfolding lenenc lenenc_bytes full_packet spelling number_behind payload_behind first_payload class_of same_word key_words forms
  bytes_with_the_pending = refl

  the_log_ends : log built_in (answers ending (ok 2) (Done 2) Nothing (takes ending read_in_one)) ≡ []
  unfolding lenenc lenenc_bytes full_packet spelling number_behind payload_behind first_payload class_of same_word key_words forms
  the_log_ends = refl

  the_mark_ends : mark built_in (answers ending (ok 2) (Done 2) Nothing (takes ending read_in_one)) ≡ 0
  unfolding lenenc lenenc_bytes full_packet spelling number_behind payload_behind first_payload class_of same_word key_words forms
  the_mark_ends = refl

  -- with the next one both begin anew
  the_next_log : log built_in (answers start (ok 3) (Done 3) Nothing (takes start read_in_one)) ≡ record { command = start; reply = ok 3 ∷ [] } ∷ []
  unfolding lenenc lenenc_bytes full_packet spelling number_behind payload_behind first_payload class_of same_word key_words forms
  the_next_log = refl
