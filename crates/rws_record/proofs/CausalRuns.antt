-- Runs in which a read is to see a commit, computed by the definition.
use Rattle.std.proofs.Common.{ℕ, List, [], ◌∷◌, refl, codes, Option, Some, None}
use Rattle.rws_wire.specs.Lenenc.{lenenc, lenenc_bytes}
use Rattle.rws_wire.specs.Packets.{full_packet, spelling, number_behind}
use Rattle.rws_wire.specs.Payloads.{payload_behind, first_payload}
use Rattle.rws_msgs.specs.EofLayout.{eof_at}
use Rattle.rws_msgs.specs.ErrLayout.{err_at, err_code, err_bytes}
use Rattle.rws_msgs.specs.Fields.{bytes_at, number_at, fixed_at, lenenc_at, text_at, text_bytes, zero_text_at, last_text_at, ended}
use Rattle.rws_msgs.specs.GreetingLayout.{abilities_at, last_piece_at, plugin_at, greeting_at, abilities_bytes, front_bytes as greeting_front, back_bytes, greeting_bytes}
use Rattle.rws_msgs.specs.OkLayout.{state_at, texts_at, ok_at, ok_status, texts_bytes, ok_bytes}
use Rattle.rws_msgs.specs.PrepareOkLayout.{prepare_ok_at}
use Rattle.rws_msgs.specs.ResponseLayout.{has, answer_at, name_at, attributes_at, names_at, response_at, answer_bytes, name_bytes, attributes_bytes, names_bytes, front_bytes as response_front, response_bytes}
use Rattle.rws_msgs.specs.SwitchLayout.{switch_at, asked_at, plugin_asked, switch_bytes}
use Rattle.rws_link.specs.Handshake.{flags_of, response_of, reaction}
use Rattle.rws_reply.specs.Payloads.{eof_status, prepared_counts, column_count, is_definition, is_row}
use Rattle.rws_reply.specs.Tracking.{progress, role}
use Rattle.rws_reply.specs.ClientForm.{client_ok, client_form}
use Rattle.rws_token.specs.Lexeme.{same_word}
use Rattle.rws_class.specs.Classes.{class_of}
use Rattle.rws_class.specs.Forms.{forms}
use Rattle.rws_board.specs.declared.event.Event.TheVariants.{Begin, LinkReady, Observed, End}
use Rattle.rws_pool.specs.declared.words.State.{State}
use Rattle.rws_pool.specs.declared.words.State.TheVariants.{Master, Slave, Down}
use Rattle.rws_pool.specs.declared.words.Seen.{Seen}
use Rattle.rws_pool.specs.declared.words.Round.{Round}
use Rattle.std.specs.Fmt.{digits}
use Rattle.rws_gtid.specs.Parsing as parsing
use Rattle.rws_result.specs.Cells.{name_at as column_name, cell_at, row_at}
use Rattle.rws_causal.specs.Commits.{commit_in, commit_of, shown_at, entry_at, variables_at}
use Rattle.rws_record.proofs.WorkedRuns.{Does, commits, does_in, from_client, on_link, opens, routes, takes_in, to_client, to_link}

abbrev at : State → (position : ℕ) → Option Seen
at state position = Some (record { state = state; position = position })

-- a round that names servers from the first one on
abbrev seeing : List (Option Seen) → Round
seeing (a ∷ b ∷ c ∷ []) = record { seen = a ∷ b ∷ c ∷ None ∷ None ∷ None ∷ None ∷ [] }
seeing _ = record { seen = None ∷ None ∷ None ∷ None ∷ None ∷ None ∷ None ∷ [] }

-- the words of the pool are told of a commit before the client is
a_commit_is_told_of_first : Does
    (Begin 1 0 ∷ Observed (seeing (at Master 6 ∷ None ∷ None ∷ [])) ∷ from_client 1 (codes "0e0000000364656c6574652066726f6d2074") ∷
    on_link 1 (codes "1b0000010001000240000000120010096c6173745f6774696405302d312d37") ∷ End ∷ [])
    (takes_in (seeing (at Master 6 ∷ None ∷ None ∷ [])) ∷ routes 1 ∷ to_link 1 (codes "0e0000000364656c6574652066726f6d2074") ∷
    commits 0 1 7 ∷ to_client 1 (codes "0700000100010002000000") ∷ [])
unfolding lenenc lenenc_bytes full_packet spelling number_behind payload_behind first_payload eof_at err_at err_code err_bytes bytes_at number_at fixed_at lenenc_at text_at text_bytes zero_text_at last_text_at ended state_at texts_at ok_at ok_status texts_bytes ok_bytes prepare_ok_at eof_status prepared_counts column_count is_definition is_row progress role client_ok client_form has answer_at name_at attributes_at names_at response_at answer_bytes name_bytes attributes_bytes names_bytes response_front response_bytes abilities_at last_piece_at plugin_at greeting_at abilities_bytes greeting_front back_bytes greeting_bytes switch_at asked_at plugin_asked switch_bytes flags_of response_of reaction class_of same_word forms commit_in commit_of shown_at entry_at variables_at parsing.gtid_at parsing.number_at parsing.dash_at parsing.entries_at parsing.gtids_of parsing.position_in column_name cell_at row_at digits
a_commit_is_told_of_first = does_in 16 refl refl

-- a read of another session waits at its replica for the commit, and goes there once that has it
a_replica_waits_first : Does
    (Begin 1 0 ∷ Begin 2 0 ∷ Observed (seeing (at Master 6 ∷ at Slave 6 ∷ None ∷ [])) ∷
    from_client 1 (codes "0e0000000364656c6574652066726f6d2074") ∷
    on_link 1 (codes "1b0000010001000240000000120010096c6173745f6774696405302d312d37") ∷
    from_client 2 (codes "100000000373656c65637420612066726f6d2074") ∷ LinkReady 3 ∷
    on_link 3 (codes "010000010117000002036465660000000161000c2d000a000000fd000000000005000003fe0000020002000004013005000005fe00000200") ∷
    on_link 3 (codes "010000010117000002036465660000000161000c2d000a000000fd000000000005000003fe0000020002000004013505000005fe00000200") ∷
    End ∷ [])
    (takes_in (seeing (at Master 6 ∷ at Slave 6 ∷ None ∷ [])) ∷ routes 1 ∷ to_link 1 (codes "0e0000000364656c6574652066726f6d2074") ∷
    commits 0 1 7 ∷ to_client 1 (codes "0700000100010002000000") ∷ routes 2 ∷ opens 3 1 2 ∷
    to_link 3 (codes "250000000353454c454354204d41535445525f475449445f574149542827302d312d37272c20313029") ∷
    to_link 3 (codes "100000000373656c65637420612066726f6d2074") ∷ to_client 2 (codes "0100000101") ∷
    to_client 2 (codes "17000002036465660000000161000c2d000a000000fd0000000000") ∷ to_client 2 (codes "05000003fe00000200") ∷
    to_client 2 (codes "020000040135") ∷ to_client 2 (codes "05000005fe00000200") ∷ [])
unfolding lenenc lenenc_bytes full_packet spelling number_behind payload_behind first_payload eof_at err_at err_code err_bytes bytes_at number_at fixed_at lenenc_at text_at text_bytes zero_text_at last_text_at ended state_at texts_at ok_at ok_status texts_bytes ok_bytes prepare_ok_at eof_status prepared_counts column_count is_definition is_row progress role client_ok client_form has answer_at name_at attributes_at names_at response_at answer_bytes name_bytes attributes_bytes names_bytes response_front response_bytes abilities_at last_piece_at plugin_at greeting_at abilities_bytes greeting_front back_bytes greeting_bytes switch_at asked_at plugin_asked switch_bytes flags_of response_of reaction class_of same_word forms commit_in commit_of shown_at entry_at variables_at parsing.gtid_at parsing.number_at parsing.dash_at parsing.entries_at parsing.gtids_of parsing.position_in column_name cell_at row_at digits
a_replica_waits_first = does_in 16 refl refl

-- a replica that has it not by then sends the read back to the primary
a_replica_that_waits_too_long : Does
    (Begin 1 0 ∷ Begin 2 0 ∷ Observed (seeing (at Master 6 ∷ at Slave 6 ∷ None ∷ [])) ∷
    from_client 1 (codes "0e0000000364656c6574652066726f6d2074") ∷
    on_link 1 (codes "1b0000010001000240000000120010096c6173745f6774696405302d312d37") ∷
    from_client 2 (codes "100000000373656c65637420612066726f6d2074") ∷ LinkReady 3 ∷
    on_link 3 (codes "010000010117000002036465660000000161000c2d000a000000fd000000000005000003fe0000020003000004022d3105000005fe00000200") ∷
    on_link 2 (codes "010000010117000002036465660000000161000c2d000a000000fd000000000005000003fe0000020002000004013505000005fe00000200") ∷
    End ∷ [])
    (takes_in (seeing (at Master 6 ∷ at Slave 6 ∷ None ∷ [])) ∷ routes 1 ∷ to_link 1 (codes "0e0000000364656c6574652066726f6d2074") ∷
    commits 0 1 7 ∷ to_client 1 (codes "0700000100010002000000") ∷ routes 2 ∷ opens 3 1 2 ∷
    to_link 3 (codes "250000000353454c454354204d41535445525f475449445f574149542827302d312d37272c20313029") ∷ routes 2 ∷
    to_link 2 (codes "100000000373656c65637420612066726f6d2074") ∷ to_client 2 (codes "0100000101") ∷
    to_client 2 (codes "17000002036465660000000161000c2d000a000000fd0000000000") ∷ to_client 2 (codes "05000003fe00000200") ∷
    to_client 2 (codes "020000040135") ∷ to_client 2 (codes "05000005fe00000200") ∷ [])
unfolding lenenc lenenc_bytes full_packet spelling number_behind payload_behind first_payload eof_at err_at err_code err_bytes bytes_at number_at fixed_at lenenc_at text_at text_bytes zero_text_at last_text_at ended state_at texts_at ok_at ok_status texts_bytes ok_bytes prepare_ok_at eof_status prepared_counts column_count is_definition is_row progress role client_ok client_form has answer_at name_at attributes_at names_at response_at answer_bytes name_bytes attributes_bytes names_bytes response_front response_bytes abilities_at last_piece_at plugin_at greeting_at abilities_bytes greeting_front back_bytes greeting_bytes switch_at asked_at plugin_asked switch_bytes flags_of response_of reaction class_of same_word forms commit_in commit_of shown_at entry_at variables_at parsing.gtid_at parsing.number_at parsing.dash_at parsing.entries_at parsing.gtids_of parsing.position_in column_name cell_at row_at digits
a_replica_that_waits_too_long = does_in 16 refl refl

-- a primary of which it isn't known that it has the commit tells its position first
a_primary_is_probed_first : Does
    (Begin 1 0 ∷ Observed (seeing (at Master 6 ∷ at Slave 6 ∷ None ∷ [])) ∷ from_client 1 (codes "0e0000000364656c6574652066726f6d2074") ∷
    on_link 1 (codes "1b0000010001000240000000120010096c6173745f6774696405302d312d37") ∷
    Observed (seeing (at Down 0 ∷ at Master 6 ∷ None ∷ [])) ∷ from_client 1 (codes "100000000373656c65637420612066726f6d2074") ∷
    LinkReady 2 ∷
    on_link 2 (codes "010000010117000002036465660000000161000c2d000a000000fd000000000005000003fe000002000600000405302d312d3705000005fe00000200") ∷
    End ∷ [])
    (takes_in (seeing (at Master 6 ∷ at Slave 6 ∷ None ∷ [])) ∷ routes 1 ∷ to_link 1 (codes "0e0000000364656c6574652066726f6d2074") ∷
    commits 0 1 7 ∷ to_client 1 (codes "0700000100010002000000") ∷ takes_in (seeing (at Down 0 ∷ at Master 6 ∷ None ∷ [])) ∷ routes 1 ∷
    opens 2 1 1 ∷ to_link 2 (codes "1a0000000353454c454354204040677469645f63757272656e745f706f73") ∷
    to_link 2 (codes "100000000373656c65637420612066726f6d2074") ∷ [])
unfolding lenenc lenenc_bytes full_packet spelling number_behind payload_behind first_payload eof_at err_at err_code err_bytes bytes_at number_at fixed_at lenenc_at text_at text_bytes zero_text_at last_text_at ended state_at texts_at ok_at ok_status texts_bytes ok_bytes prepare_ok_at eof_status prepared_counts column_count is_definition is_row progress role client_ok client_form has answer_at name_at attributes_at names_at response_at answer_bytes name_bytes attributes_bytes names_bytes response_front response_bytes abilities_at last_piece_at plugin_at greeting_at abilities_bytes greeting_front back_bytes greeting_bytes switch_at asked_at plugin_asked switch_bytes flags_of response_of reaction class_of same_word forms commit_in commit_of shown_at entry_at variables_at parsing.gtid_at parsing.number_at parsing.dash_at parsing.entries_at parsing.gtids_of parsing.position_in column_name cell_at row_at digits
a_primary_is_probed_first = does_in 16 refl refl

-- one that is behind isn't asked, and the read is answered so
a_primary_that_is_behind : Does
    (Begin 1 0 ∷ Observed (seeing (at Master 6 ∷ at Slave 6 ∷ None ∷ [])) ∷ from_client 1 (codes "0e0000000364656c6574652066726f6d2074") ∷
    on_link 1 (codes "1b0000010001000240000000120010096c6173745f6774696405302d312d37") ∷
    Observed (seeing (at Down 0 ∷ at Master 6 ∷ None ∷ [])) ∷ from_client 1 (codes "100000000373656c65637420612066726f6d2074") ∷
    LinkReady 2 ∷
    on_link 2 (codes "010000010117000002036465660000000161000c2d000a000000fd000000000005000003fe000002000600000405302d312d3605000005fe00000200") ∷
    End ∷ [])
    (takes_in (seeing (at Master 6 ∷ at Slave 6 ∷ None ∷ [])) ∷ routes 1 ∷ to_link 1 (codes "0e0000000364656c6574652066726f6d2074") ∷
    commits 0 1 7 ∷ to_client 1 (codes "0700000100010002000000") ∷ takes_in (seeing (at Down 0 ∷ at Master 6 ∷ None ∷ [])) ∷ routes 1 ∷
    opens 2 1 1 ∷ to_link 2 (codes "1a0000000353454c454354204040677469645f63757272656e745f706f73") ∷
    to_client 1 (codes "2a000001ff51042348593030307072696d61727920626568696e643a2077616e74656420372c20666f756e642036") ∷ [])
unfolding lenenc lenenc_bytes full_packet spelling number_behind payload_behind first_payload eof_at err_at err_code err_bytes bytes_at number_at fixed_at lenenc_at text_at text_bytes zero_text_at last_text_at ended state_at texts_at ok_at ok_status texts_bytes ok_bytes prepare_ok_at eof_status prepared_counts column_count is_definition is_row progress role client_ok client_form has answer_at name_at attributes_at names_at response_at answer_bytes name_bytes attributes_bytes names_bytes response_front response_bytes abilities_at last_piece_at plugin_at greeting_at abilities_bytes greeting_front back_bytes greeting_bytes switch_at asked_at plugin_asked switch_bytes flags_of response_of reaction class_of same_word forms commit_in commit_of shown_at entry_at variables_at parsing.gtid_at parsing.number_at parsing.dash_at parsing.entries_at parsing.gtids_of parsing.position_in column_name cell_at row_at digits
a_primary_that_is_behind = does_in 16 refl refl

-- the words know of no position of a primary that made no commit here
a_primary_that_comes_back : Does
    (Begin 1 1 ∷ Observed (seeing (at Down 0 ∷ at Master 6 ∷ None ∷ [])) ∷ from_client 1 (codes "0e0000000364656c6574652066726f6d2074") ∷
    on_link 1 (codes "1b0000010001000240000000120010096c6173745f6774696405302d322d37") ∷
    Observed (seeing (at Master 6 ∷ at Down 6 ∷ None ∷ [])) ∷ from_client 1 (codes "100000000373656c65637420612066726f6d2074") ∷
    LinkReady 2 ∷ End ∷ [])
    (takes_in (seeing (at Down 0 ∷ at Master 6 ∷ None ∷ [])) ∷ routes 1 ∷ to_link 1 (codes "0e0000000364656c6574652066726f6d2074") ∷
    commits 1 2 7 ∷ to_client 1 (codes "0700000100010002000000") ∷ takes_in (seeing (at Master 6 ∷ at Down 6 ∷ None ∷ [])) ∷ routes 1 ∷
    opens 2 0 1 ∷ to_link 2 (codes "1a0000000353454c454354204040677469645f63757272656e745f706f73") ∷ [])
unfolding lenenc lenenc_bytes full_packet spelling number_behind payload_behind first_payload eof_at err_at err_code err_bytes bytes_at number_at fixed_at lenenc_at text_at text_bytes zero_text_at last_text_at ended state_at texts_at ok_at ok_status texts_bytes ok_bytes prepare_ok_at eof_status prepared_counts column_count is_definition is_row progress role client_ok client_form has answer_at name_at attributes_at names_at response_at answer_bytes name_bytes attributes_bytes names_bytes response_front response_bytes abilities_at last_piece_at plugin_at greeting_at abilities_bytes greeting_front back_bytes greeting_bytes switch_at asked_at plugin_asked switch_bytes flags_of response_of reaction class_of same_word forms commit_in commit_of shown_at entry_at variables_at parsing.gtid_at parsing.number_at parsing.dash_at parsing.entries_at parsing.gtids_of parsing.position_in column_name cell_at row_at digits
a_primary_that_comes_back = does_in 16 refl refl
