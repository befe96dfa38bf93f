-- Runs with logins, computed by the definition.
use Rattle.std.proofs.Common.{[], ◌∷◌, refl, codes}
use Rattle.rws_wire.specs.declared.close_reason.CloseReason.TheVariants.{Access, Handshake}
use Rattle.rws_wire.specs.declared.drop_cause.DropCause.TheVariants.{Login, Plugin}
use Rattle.rws_wire.specs.Lenenc.{lenenc, lenenc_bytes}
use Rattle.rws_wire.specs.Packets.{full_packet, spelling, number_behind}
use Rattle.rws_wire.specs.Payloads.{payload_behind, first_payload}
use Rattle.rws_msgs.specs.EofLayout.{eof_at}
use Rattle.rws_msgs.specs.ErrLayout.{err_at, err_code, err_bytes}
use Rattle.rws_msgs.specs.Fields.{bytes_at, number_at, fixed_at, lenenc_at, text_at, text_bytes, zero_text_at, last_text_at, ended}
use Rattle.rws_msgs.specs.GreetingLayout.{abilities_at, last_piece_at, plugin_at, greeting_at, abilities_bytes, front_bytes as greeting_front, back_bytes, greeting_bytes}
use Rattle.rws_msgs.specs.OkLayout.{state_at, texts_at, ok_at, ok_status, texts_bytes, ok_bytes}
use Rattle.rws_msgs.specs.PrepareOkLayout.{prepare_ok_at}
use Rattle.rws_msgs.specs.ResponseLayout.{has, answer_at, name_at, attributes_at, names_at, response_at, answer_bytes, name_bytes, attributes_bytes, names_bytes, front_bytes as response_front, response_bytes}
use Rattle.rws_msgs.specs.SwitchLayout.{switch_at, asked_at, plugin_asked, switch_bytes}
use Rattle.rws_link.specs.Handshake.{flags_of, response_of, reaction}
use Rattle.rws_reply.specs.Payloads.{eof_status, prepared_counts, column_count, is_definition, is_row}
use Rattle.rws_reply.specs.Tracking.{progress, role}
use Rattle.rws_reply.specs.ClientForm.{client_ok, client_form}
use Rattle.rws_token.specs.Lexeme.{same_word}
use Rattle.rws_class.specs.Classes.{class_of}
use Rattle.rws_class.specs.Forms.{forms}
use Rattle.rws_board.specs.declared.event.Event.TheVariants.{Accept, Observed, End}
use Rattle.rws_record.proofs.WorkedRuns.{Does, closes, does_in, drops, from_client, hex, on_link, opens, primary_first, routes, takes_in, to_client, to_link}
use Rattle.rws_causal.specs.Commits.{commit_in, commit_of, shown_at}

-- a client is greeted and let in; its first command opens a link, which repeats the login, is prepared, and gets the command
a_login_is_repeated : Does
    (Observed primary_first ∷ Accept 2 (hex (codes "4142434445464748494a4b4c4d4e4f5051525354")) ∷ from_client 2 (codes "3b00000101a20800000000012d000000000000000000000000000000000000000000000061707000006d7973716c5f6e61746976655f70617373776f726400") ∷ from_client 2 (codes "020000000378") ∷
    on_link 1 (codes "4f0000000a31302e362e302d66616b6500010000004141414141414141000fa22d0200ae001500000000000000000000414141414141414141414141006d7973716c5f6e61746976655f70617373776f726400") ∷ on_link 1 (codes "0700000200000002000000") ∷ on_link 1 (codes "0700000100000002000000") ∷
    on_link 1 (codes "0700000100000002000000") ∷ End ∷ [])
    (takes_in primary_first ∷ to_client 2 (codes "520000000a31302e362e302d727773706c697400020000004142434445464748000fa72d02003e001500000000000000000000494a4b4c4d4e4f5051525354006d7973716c5f6e61746976655f70617373776f726400") ∷ to_client 2 (codes "0700000200000002000000") ∷ routes 2 ∷ opens 1 0 2 ∷ to_link 1 (codes "3b00000101a2ae00000000012d000000000000000000000000000000000000000000000061707000006d7973716c5f6e61746976655f70617373776f726400") ∷
    to_link 1 (codes "64000000035345542053455353494f4e2073657373696f6e5f747261636b5f73797374656d5f7661726961626c6573203d20434f4e43415428404073657373696f6e5f747261636b5f73797374656d5f7661726961626c65732c20272c6c6173745f677469642729") ∷ to_link 1 (codes "020000000378") ∷ to_client 2 (codes "0700000100000002000000") ∷ [])
unfolding lenenc lenenc_bytes full_packet spelling number_behind payload_behind first_payload eof_at err_at err_code err_bytes bytes_at number_at fixed_at lenenc_at text_at text_bytes zero_text_at last_text_at ended state_at texts_at ok_at ok_status texts_bytes ok_bytes prepare_ok_at eof_status prepared_counts column_count is_definition is_row progress role client_ok client_form has answer_at name_at attributes_at names_at response_at answer_bytes name_bytes attributes_bytes names_bytes response_front response_bytes abilities_at last_piece_at plugin_at greeting_at abilities_bytes greeting_front back_bytes greeting_bytes switch_at asked_at plugin_asked switch_bytes flags_of response_of reaction class_of same_word commit_in commit_of shown_at
a_login_is_repeated = does_in 16 refl refl

-- a payload that is no response: 1043
a_response_that_is_none : Does
    (Accept 1 (hex (codes "70197e0ae26e46bc3d429d9bcae91f64266e5471")) ∷
    from_client 1 (codes "00000001") ∷ End ∷ [])
    (to_client 1 (codes "520000000a31302e362e302d727773706c6974000100000070197e0ae26e46bc000fa72d02003e0015000000000000000000003d429d9bcae91f64266e5471006d7973716c5f6e61746976655f70617373776f726400") ∷
    to_client 1 (codes "16000002ff13042330385330316261642068616e647368616b65") ∷
    closes 1 Handshake ∷ [])
unfolding lenenc lenenc_bytes full_packet spelling number_behind payload_behind first_payload eof_at err_at err_code err_bytes bytes_at number_at fixed_at lenenc_at text_at text_bytes zero_text_at last_text_at ended state_at texts_at ok_at ok_status texts_bytes ok_bytes prepare_ok_at eof_status prepared_counts column_count is_definition is_row progress role client_ok client_form has answer_at name_at attributes_at names_at response_at answer_bytes name_bytes attributes_bytes names_bytes response_front response_bytes abilities_at last_piece_at plugin_at greeting_at abilities_bytes greeting_front back_bytes greeting_bytes switch_at asked_at plugin_asked switch_bytes flags_of response_of reaction class_of same_word commit_in commit_of shown_at
a_response_that_is_none = does_in 16 refl refl

-- an answer for an account with an empty password: 1045
a_client_is_denied : Does
    (Accept 1 (hex (codes "36a316f04142608c9e91bd7c8e5f303dafbcf8a3")) ∷
    from_client 1 (codes "530000010da32901000000010800000000000000000000000000000000000000000000006170700013f820b0376d2510ae8c649525b5e774f41a375a6d796462006d7973716c5f6e61746976655f70617373776f726400") ∷ End ∷ [])
    (to_client 1 (codes "520000000a31302e362e302d727773706c6974000100000036a316f04142608c000fa72d02003e0015000000000000000000009e91bd7c8e5f303dafbcf8a3006d7973716c5f6e61746976655f70617373776f726400") ∷
    to_client 1 (codes "16000002ff15042332383030306163636573732064656e696564") ∷
    closes 1 Access ∷ [])
unfolding lenenc lenenc_bytes full_packet spelling number_behind payload_behind first_payload eof_at err_at err_code err_bytes bytes_at number_at fixed_at lenenc_at text_at text_bytes zero_text_at last_text_at ended state_at texts_at ok_at ok_status texts_bytes ok_bytes prepare_ok_at eof_status prepared_counts column_count is_definition is_row progress role client_ok client_form has answer_at name_at attributes_at names_at response_at answer_bytes name_bytes attributes_bytes names_bytes response_front response_bytes abilities_at last_piece_at plugin_at greeting_at abilities_bytes greeting_front back_bytes greeting_bytes switch_at asked_at plugin_asked switch_bytes flags_of response_of reaction class_of same_word commit_in commit_of shown_at
a_client_is_denied = does_in 16 refl refl

-- a client that names another plugin is asked for an answer by the native one, over the same scramble
a_client_is_asked_for_another_answer : Does
    (Accept 1 (hex (codes "aa7bbefefa7058bf23c317af64b0b3627d7b2130")) ∷
    from_client 1 (codes "430000010fa30801000000010800000000000000000000000000000000000000000000006e6f626f647900006d7964620063616368696e675f736861325f70617373776f726400") ∷ End ∷ [])
    (to_client 1 (codes "520000000a31302e362e302d727773706c69740001000000aa7bbefefa7058bf000fa72d02003e00150000000000000000000023c317af64b0b3627d7b2130006d7973716c5f6e61746976655f70617373776f726400") ∷
    to_client 1 (codes "2c000002fe6d7973716c5f6e61746976655f70617373776f726400aa7bbefefa7058bf23c317af64b0b3627d7b213000") ∷ [])
unfolding lenenc lenenc_bytes full_packet spelling number_behind payload_behind first_payload eof_at err_at err_code err_bytes bytes_at number_at fixed_at lenenc_at text_at text_bytes zero_text_at last_text_at ended state_at texts_at ok_at ok_status texts_bytes ok_bytes prepare_ok_at eof_status prepared_counts column_count is_definition is_row progress role client_ok client_form has answer_at name_at attributes_at names_at response_at answer_bytes name_bytes attributes_bytes names_bytes response_front response_bytes abilities_at last_piece_at plugin_at greeting_at abilities_bytes greeting_front back_bytes greeting_bytes switch_at asked_at plugin_asked switch_bytes flags_of response_of reaction class_of same_word commit_in commit_of shown_at
a_client_is_asked_for_another_answer = does_in 16 refl refl

-- a server that asks for an answer by another plugin is given up: the command that waits for it is routed again, and waits for a
-- primary that wasn't tried
a_server_asks_for_another_plugin : Does
    (Observed primary_first ∷ Accept 4 (hex (codes "e4c02ce09f72cf2fa0c89489088e457dae8cbd36")) ∷
    from_client 4 (codes "400000012da229010000000108000000000000000000000000000000000000000000000061707000006d796462006d7973716c5f6e61746976655f70617373776f726400") ∷
    from_client 4 (codes "0900000003726f6c6c62") ∷
    from_client 4 (codes "61636b") ∷
    on_link 1 (codes "420000000a31302e362e302d66616b6500010000004141414141414141000fa22d0200ae00150000000000000000000041414141414141414141414100776861746576657200") ∷
    on_link 1 (codes "1c000002fe6f7468657200424242424242424242424242424242424242424200") ∷ End ∷ [])
    (takes_in primary_first ∷ to_client 4 (codes "520000000a31302e362e302d727773706c69740004000000e4c02ce09f72cf2f000fa72d02003e001500000000000000000000a0c89489088e457dae8cbd36006d7973716c5f6e61746976655f70617373776f726400") ∷
    to_client 4 (codes "0700000200000002000000") ∷
    routes 4 ∷ opens 1 0 4 ∷
    to_link 1 (codes "400000010da2ae000000000108000000000000000000000000000000000000000000000061707000006d796462006d7973716c5f6e61746976655f70617373776f726400") ∷
    drops 1 Plugin ∷ routes 4 ∷ [])
unfolding lenenc lenenc_bytes full_packet spelling number_behind payload_behind first_payload eof_at err_at err_code err_bytes bytes_at number_at fixed_at lenenc_at text_at text_bytes zero_text_at last_text_at ended state_at texts_at ok_at ok_status texts_bytes ok_bytes prepare_ok_at eof_status prepared_counts column_count is_definition is_row progress role client_ok client_form has answer_at name_at attributes_at names_at response_at answer_bytes name_bytes attributes_bytes names_bytes response_front response_bytes abilities_at last_piece_at plugin_at greeting_at abilities_bytes greeting_front back_bytes greeting_bytes switch_at asked_at plugin_asked switch_bytes flags_of response_of reaction class_of same_word forms commit_in commit_of shown_at
a_server_asks_for_another_plugin = does_in 16 refl refl

-- so is one that refuses the preamble: a read goes to the next replica
a_server_refuses_the_preamble : Does
    (Observed primary_first ∷ Accept 4 (hex (codes "147cfb3bfe818223725f4b6d3d38ad7271b7a284")) ∷
    from_client 4 (codes "3b00000101a228010000000121000000000000000000000000000000000000000000000061707000006d7973716c5f6e61746976655f70617373776f726400") ∷
    from_client 4 (codes "1b0000000353454c45435420622046524f4d20742057484552452069643d31") ∷
    on_link 1 (codes "4f0000000a31302e362e302d66616b6500010000004141414141414141000fa22d0200ae001500000000000000000000414141414141414141414141006d7973716c5f6e61746976655f70617373776f726400") ∷
    on_link 1 (codes "0700000200000002000000") ∷
    on_link 1 (codes "12000001ff280423485930303064656164206c6f636b") ∷ End ∷ [])
    (takes_in primary_first ∷ to_client 4 (codes "520000000a31302e362e302d727773706c69740004000000147cfb3bfe818223000fa72d02003e001500000000000000000000725f4b6d3d38ad7271b7a284006d7973716c5f6e61746976655f70617373776f726400") ∷
    to_client 4 (codes "0700000200000002000000") ∷
    routes 4 ∷ opens 1 1 4 ∷
    to_link 1 (codes "3b00000101a2ae000000000121000000000000000000000000000000000000000000000061707000006d7973716c5f6e61746976655f70617373776f726400") ∷
    to_link 1 (codes "64000000035345542053455353494f4e2073657373696f6e5f747261636b5f73797374656d5f7661726961626c6573203d20434f4e43415428404073657373696f6e5f747261636b5f73797374656d5f7661726961626c65732c20272c6c6173745f677469642729") ∷
    drops 1 (Login 1064) ∷ routes 4 ∷ opens 2 2 4 ∷ [])
unfolding lenenc lenenc_bytes full_packet spelling number_behind payload_behind first_payload eof_at err_at err_code err_bytes bytes_at number_at fixed_at lenenc_at text_at text_bytes zero_text_at last_text_at ended state_at texts_at ok_at ok_status texts_bytes ok_bytes prepare_ok_at eof_status prepared_counts column_count is_definition is_row progress role client_ok client_form has answer_at name_at attributes_at names_at response_at answer_bytes name_bytes attributes_bytes names_bytes response_front response_bytes abilities_at last_piece_at plugin_at greeting_at abilities_bytes greeting_front back_bytes greeting_bytes switch_at asked_at plugin_asked switch_bytes flags_of response_of reaction class_of same_word commit_in commit_of shown_at
a_server_refuses_the_preamble = does_in 16 refl refl
