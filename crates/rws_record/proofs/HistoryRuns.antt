-- Runs in which commands that set a session are played on its other links, computed by the definition.
use Rattle.std.proofs.Common.{[], ◌∷◌, refl, codes}
use Rattle.rws_wire.specs.declared.drop_cause.DropCause.TheVariants.{SessionDiffers}
use Rattle.rws_wire.specs.Lenenc.{lenenc, lenenc_bytes}
use Rattle.rws_wire.specs.Packets.{full_packet, spelling, number_behind}
use Rattle.rws_wire.specs.Payloads.{payload_behind, first_payload}
use Rattle.rws_msgs.specs.EofLayout.{eof_at}
use Rattle.rws_msgs.specs.ErrLayout.{err_at, err_code, err_bytes}
use Rattle.rws_msgs.specs.Fields.{bytes_at, number_at, fixed_at, lenenc_at, text_at, text_bytes, zero_text_at, last_text_at, ended}
use Rattle.rws_msgs.specs.GreetingLayout.{abilities_at, last_piece_at, plugin_at, greeting_at, abilities_bytes, front_bytes as greeting_front, back_bytes, greeting_bytes}
use Rattle.rws_msgs.specs.OkLayout.{state_at, texts_at, ok_at, ok_status, texts_bytes, ok_bytes}
use Rattle.rws_msgs.specs.PrepareOkLayout.{prepare_ok_at}
use Rattle.rws_msgs.specs.ResponseLayout.{has, answer_at, name_at, attributes_at, names_at, response_at, answer_bytes, name_bytes, attributes_bytes, names_bytes, front_bytes as response_front, response_bytes}
use Rattle.rws_msgs.specs.SwitchLayout.{switch_at, asked_at, plugin_asked, switch_bytes}
use Rattle.rws_link.specs.Handshake.{flags_of, response_of, reaction}
use Rattle.rws_reply.specs.Payloads.{eof_status, prepared_counts, column_count, is_definition, is_row}
use Rattle.rws_reply.specs.Tracking.{progress, role}
use Rattle.rws_reply.specs.ClientForm.{client_ok, client_form}
use Rattle.rws_token.specs.Lexeme.{same_word}
use Rattle.rws_words.specs.Words.{key_words, refused_names}
use Rattle.rws_class.specs.Classes.{class_of}
use Rattle.rws_class.specs.Forms.{forms}
use Rattle.rws_board.specs.declared.event.Event.TheVariants.{Begin, LinkReady, Observed, End}
use Rattle.rws_record.proofs.WorkedRuns.{Does, does_in, drops, from_client, on_link, opens, primary_first, routes, takes_in, to_client, to_link}
use Rattle.rws_causal.specs.Commits.{commit_in, commit_of, shown_at}

-- what sets the session on one link is played on the other, once its reply is whole
a_link_plays_what_another_led : Does
    (Observed primary_first ∷ Begin 1 2 ∷ from_client 1 (codes "0a00000003736574204076303d30") ∷ LinkReady 2 ∷
    on_link 2 (codes "070000010000000a0000000700000200000002000000") ∷ on_link 1 (codes "0700000100000002000000") ∷ End ∷ [])
    (takes_in primary_first ∷ routes 1 ∷ opens 2 0 1 ∷ to_link 2 (codes "0a00000003736574204076303d30") ∷
    to_client 1 (codes "070000010000000a000000") ∷ to_client 1 (codes "0700000200000002000000") ∷
    to_link 1 (codes "0a00000003736574204076303d30") ∷ [])
unfolding lenenc lenenc_bytes full_packet spelling number_behind payload_behind first_payload eof_at err_at err_code err_bytes bytes_at number_at fixed_at lenenc_at text_at text_bytes zero_text_at last_text_at ended state_at texts_at ok_at ok_status texts_bytes ok_bytes prepare_ok_at eof_status prepared_counts column_count is_definition is_row progress role client_ok client_form has answer_at name_at attributes_at names_at response_at answer_bytes name_bytes attributes_bytes names_bytes response_front response_bytes abilities_at last_piece_at plugin_at greeting_at abilities_bytes greeting_front back_bytes greeting_bytes switch_at asked_at plugin_asked switch_bytes flags_of response_of reaction class_of same_word refused_names forms commit_in commit_of shown_at
a_link_plays_what_another_led = does_in 16 refl refl

-- a link that is opened later plays it before the command that it was opened for
a_new_link_plays_the_history : Does
    (Observed primary_first ∷ Begin 1 0 ∷
    from_client 1 (codes "0800000003757365206462312500000003776974682063206173202873656c6563742031292073656c656374202a2066726f6d2063") ∷
    on_link 1 (codes "17000001000000020000000f526f7773206d6174636865643a2031") ∷ LinkReady 2 ∷ End ∷ [])
    (takes_in primary_first ∷ routes 1 ∷ to_link 1 (codes "080000000375736520646231") ∷
    to_client 1 (codes "17000001000000020000000f526f7773206d6174636865643a2031") ∷
    routes 1 ∷ opens 2 1 1 ∷ to_link 2 (codes "080000000375736520646231") ∷ [])
unfolding lenenc lenenc_bytes full_packet spelling number_behind payload_behind first_payload eof_at err_at err_code err_bytes bytes_at number_at fixed_at lenenc_at text_at text_bytes zero_text_at last_text_at ended state_at texts_at ok_at ok_status texts_bytes ok_bytes prepare_ok_at eof_status prepared_counts column_count is_definition is_row progress role client_ok client_form has answer_at name_at attributes_at names_at response_at answer_bytes name_bytes attributes_bytes names_bytes response_front response_bytes abilities_at last_piece_at plugin_at greeting_at abilities_bytes greeting_front back_bytes greeting_bytes switch_at asked_at plugin_asked switch_bytes flags_of response_of reaction class_of same_word key_words forms commit_in commit_of shown_at
a_new_link_plays_the_history = does_in 16 refl refl

-- a server that answers by an error what another one took is given up, and isn't tried again
a_server_differs : Does
    (Observed primary_first ∷ Begin 1 2 ∷
    from_client 1 (codes "040000000264c3a91b0000000353454c45435420622046524f4d20742057484552452069643d31") ∷ LinkReady 2 ∷
    on_link 2 (codes "0700000100000002000000") ∷ on_link 1 (codes "09000001ff51042348593030300100000000") ∷ End ∷ [])
    (takes_in primary_first ∷ routes 1 ∷ opens 2 0 1 ∷ to_link 2 (codes "040000000264c3a9") ∷
    to_client 1 (codes "0700000100000002000000") ∷ to_link 1 (codes "040000000264c3a9") ∷
    routes 1 ∷ opens 3 1 1 ∷ drops 1 SessionDiffers ∷ [])
unfolding lenenc lenenc_bytes full_packet spelling number_behind payload_behind first_payload eof_at err_at err_code err_bytes bytes_at number_at fixed_at lenenc_at text_at text_bytes zero_text_at last_text_at ended state_at texts_at ok_at ok_status texts_bytes ok_bytes prepare_ok_at eof_status prepared_counts column_count is_definition is_row progress role client_ok client_form has answer_at name_at attributes_at names_at response_at answer_bytes name_bytes attributes_bytes names_bytes response_front response_bytes abilities_at last_piece_at plugin_at greeting_at abilities_bytes greeting_front back_bytes greeting_bytes switch_at asked_at plugin_asked switch_bytes flags_of response_of reaction class_of same_word forms commit_in commit_of shown_at
a_server_differs = does_in 16 refl refl

-- a command that the server refuses sets nothing, and isn't played
a_refused_command_is_not_played : Does
    (Observed primary_first ∷ Begin 1 2 ∷ from_client 1 (codes "040000000264c3a9") ∷ LinkReady 2 ∷
    on_link 2 (codes "09000001ff5104234859303030") ∷ End ∷ [])
    (takes_in primary_first ∷ routes 1 ∷ opens 2 0 1 ∷ to_link 2 (codes "040000000264c3a9") ∷
    to_client 1 (codes "09000001ff5104234859303030") ∷ [])
unfolding lenenc lenenc_bytes full_packet spelling number_behind payload_behind first_payload eof_at err_at err_code err_bytes bytes_at number_at fixed_at lenenc_at text_at text_bytes zero_text_at last_text_at ended state_at texts_at ok_at ok_status texts_bytes ok_bytes prepare_ok_at eof_status prepared_counts column_count is_definition is_row progress role client_ok client_form has answer_at name_at attributes_at names_at response_at answer_bytes name_bytes attributes_bytes names_bytes response_front response_bytes abilities_at last_piece_at plugin_at greeting_at abilities_bytes greeting_front back_bytes greeting_bytes switch_at asked_at plugin_asked switch_bytes flags_of response_of reaction class_of same_word forms commit_in commit_of shown_at
a_refused_command_is_not_played = does_in 16 refl refl
