-- Runs with prepared statements, computed by the definition.
use Rattle.std.proofs.Common.{[], ◌∷◌, refl, None, Some, codes}
use Rattle.rws_wire.specs.declared.drop_cause.DropCause.TheVariants.{SessionDiffers}
use Rattle.rws_wire.specs.Lenenc.{lenenc, lenenc_bytes}
use Rattle.rws_wire.specs.Packets.{full_packet, spelling, number_behind}
use Rattle.rws_wire.specs.Payloads.{payload_behind, first_payload}
use Rattle.rws_msgs.specs.EofLayout.{eof_at}
use Rattle.rws_msgs.specs.ErrLayout.{err_at, err_code, err_bytes}
use Rattle.rws_msgs.specs.ExecuteLayout.{once_at, types_at, values_at, execute_at, types_bytes, values_bytes, execute_bytes}
use Rattle.rws_msgs.specs.Fields.{bytes_at, number_at, fixed_at, lenenc_at, text_at, text_bytes, zero_text_at, last_text_at, ended}
use Rattle.rws_msgs.specs.OkLayout.{state_at, texts_at, ok_at, ok_status, texts_bytes, ok_bytes}
use Rattle.rws_msgs.specs.PrepareOkLayout.{prepare_ok_at, prepare_ok_bytes}
use Rattle.rws_reply.specs.Payloads.{eof_status, prepared_counts, column_count, is_definition, is_row}
use Rattle.rws_reply.specs.Tracking.{progress, role}
use Rattle.rws_reply.specs.ClientForm.{client_ok, client_prepared, client_form}
use Rattle.rws_token.specs.Lexeme.{same_word}
use Rattle.rws_words.specs.Words.{key_words, refused_names, setting_names}
use Rattle.rws_class.specs.Classes.{class_of}
use Rattle.rws_class.specs.Forms.{forms}
use Rattle.rws_handles.specs.PlainForm.{long_data_bytes, run_bytes, long_data_at}
use Rattle.rws_pool.specs.declared.words.State.TheVariants.{Slave, Master}
use Rattle.rws_board.specs.declared.event.Event.TheVariants.{Begin, LinkReady, Observed, End}
use Rattle.rws_record.proofs.WorkedRuns.{Does, does_in, drops, from_client, on_link, opens, routes, takes_in, to_client, to_link}
use Rattle.rws_causal.specs.Commits.{commit_in, commit_of, shown_at}

-- an execute goes out under the id that the server gave, with its types
an_execute_goes_out_under_the_links_id : Does
    (Observed (record { seen = Some (record { state = Master; position = 6 }) ∷ Some (record { state = Slave; position = 4 }) ∷ Some (record { state = Slave; position = 5 }) ∷ None ∷ None ∷ None ∷ None ∷ [] }) ∷
    Begin 1 0 ∷
    from_client 1 (codes "2900000016696e7365727420696e746f20742076616c75657320283f2c3f2c3f2c3f2c3f2c3f2c3f2c3f2c3f29") ∷
    on_link 1 (codes "0c00000100650000000000090000000017000002036465660000000161000c2d000a000000fd000000000017000003036465660000000161000c2d000a000000fd000000000017000004036465660000000161000c2d000a000000fd000000000017000005036465660000000161000c2d000a000000fd000000000017000006036465660000000161000c2d000a000000fd000000000017000007036465660000000161000c2d000a000000fd000000000017000008036465660000000161000c2d000a000000fd000000000017000009036465660000000161000c2d000a000000fd00000000001700000a036465660000000161000c2d000a000000fd00000000000500000bfe00000200") ∷
    from_client 1 (codes "3100000017010000000001000000000001030003000300030003000300030003000300017601760176017601760176017601760176") ∷ End ∷ [])
    (takes_in (record { seen = Some (record { state = Master; position = 6 }) ∷ Some (record { state = Slave; position = 4 }) ∷ Some (record { state = Slave; position = 5 }) ∷ None ∷ None ∷ None ∷ None ∷ [] }) ∷
    routes 1 ∷
    to_link 1 (codes "2900000016696e7365727420696e746f20742076616c75657320283f2c3f2c3f2c3f2c3f2c3f2c3f2c3f2c3f29") ∷
    to_client 1 (codes "0c000001000100000000000900000000") ∷
    to_client 1 (codes "17000002036465660000000161000c2d000a000000fd0000000000") ∷
    to_client 1 (codes "17000003036465660000000161000c2d000a000000fd0000000000") ∷
    to_client 1 (codes "17000004036465660000000161000c2d000a000000fd0000000000") ∷
    to_client 1 (codes "17000005036465660000000161000c2d000a000000fd0000000000") ∷
    to_client 1 (codes "17000006036465660000000161000c2d000a000000fd0000000000") ∷
    to_client 1 (codes "17000007036465660000000161000c2d000a000000fd0000000000") ∷
    to_client 1 (codes "17000008036465660000000161000c2d000a000000fd0000000000") ∷
    to_client 1 (codes "17000009036465660000000161000c2d000a000000fd0000000000") ∷
    to_client 1 (codes "1700000a036465660000000161000c2d000a000000fd0000000000") ∷
    to_client 1 (codes "0500000bfe00000200") ∷
    routes 1 ∷
    to_link 1 (codes "3100000017650000000001000000000001030003000300030003000300030003000300017601760176017601760176017601760176") ∷ [])
unfolding lenenc lenenc_bytes full_packet spelling number_behind payload_behind first_payload eof_at err_at err_code err_bytes bytes_at number_at fixed_at lenenc_at text_at text_bytes zero_text_at last_text_at ended state_at texts_at ok_at ok_status texts_bytes ok_bytes prepare_ok_at prepare_ok_bytes once_at types_at values_at execute_at types_bytes values_bytes execute_bytes eof_status prepared_counts column_count is_definition is_row progress role client_ok client_prepared client_form long_data_bytes run_bytes long_data_at class_of same_word key_words refused_names setting_names forms commit_in commit_of shown_at
an_execute_goes_out_under_the_links_id = does_in 24 refl refl

-- long data waits for the execute that takes it, of the last statement that was prepared; as its class says, that is a read
long_data_waits_for_its_execute : Does
    (Observed (record { seen = Some (record { state = Master; position = 0 }) ∷ Some (record { state = Slave; position = 0 }) ∷ Some (record { state = Slave; position = 0 }) ∷ None ∷ None ∷ None ∷ None ∷ [] }) ∷
    Begin 1 0 ∷
    from_client 1 (codes "090000001673656c656374203f") ∷
    on_link 1 (codes "0c00000100650000000100010000000017000002036465660000000161000c2d000a000000fd000000000005000003fe0000020017000004036465660000000161000c2d000a000000fd000000000005000005fe00000200") ∷
    from_client 1 (codes "2f000000180100000001004c4c4c4c4c4c4c4c4c4c4c4c4c4c4c4c4c4c4c4c4c4c4c4c4c4c4c4c4c4c4c4c4c4c4c4c4c4c4c4c") ∷
    from_client 1 (codes "1000000017ffffffff00") ∷
    from_client 1 (codes "01000000000108000176") ∷ End ∷ [])
    (takes_in (record { seen = Some (record { state = Master; position = 0 }) ∷ Some (record { state = Slave; position = 0 }) ∷ Some (record { state = Slave; position = 0 }) ∷ None ∷ None ∷ None ∷ None ∷ [] }) ∷
    routes 1 ∷
    to_link 1 (codes "090000001673656c656374203f") ∷
    to_client 1 (codes "0c000001000100000001000100000000") ∷
    to_client 1 (codes "17000002036465660000000161000c2d000a000000fd0000000000") ∷
    to_client 1 (codes "05000003fe00000200") ∷
    to_client 1 (codes "17000004036465660000000161000c2d000a000000fd0000000000") ∷
    to_client 1 (codes "05000005fe00000200") ∷
    routes 1 ∷
    opens 2 1 1 ∷ [])
unfolding lenenc lenenc_bytes full_packet spelling number_behind payload_behind first_payload eof_at err_at err_code err_bytes bytes_at number_at fixed_at lenenc_at text_at text_bytes zero_text_at last_text_at ended state_at texts_at ok_at ok_status texts_bytes ok_bytes prepare_ok_at prepare_ok_bytes once_at types_at values_at execute_at types_bytes values_bytes execute_bytes eof_status prepared_counts column_count is_definition is_row progress role client_ok client_prepared client_form long_data_bytes run_bytes long_data_at class_of same_word key_words refused_names setting_names forms commit_in commit_of shown_at
long_data_waits_for_its_execute = does_in 24 refl refl

-- a server is told to close a statement that has left before the next command that it is to answer
a_server_closes_what_has_left : Does
    (Observed (record { seen = Some (record { state = Master; position = 6 }) ∷ Some (record { state = Slave; position = 6 }) ∷ Some (record { state = Slave; position = 6 }) ∷ None ∷ None ∷ None ∷ None ∷ [] }) ∷
    Begin 1 0 ∷
    from_client 1 (codes "1b0000000373656c65637420612066726f6d207420666f72207570646174650c0000001673686f77207461626c6573050000001901000000") ∷
    on_link 1 (codes "010000010117000002036465660000000161000c2d000a000000fd000000000005000003fe0000020002000004013612000005ffbd0423485930303064656164206c6f636b") ∷
    on_link 1 (codes "0c00000100650000000100000000000017000002036465660000000161000c2d000a000000fd000000000005000003fe00000200") ∷
    from_client 1 (codes "0c0000001673617665706f696e742061") ∷ End ∷ [])
    (takes_in (record { seen = Some (record { state = Master; position = 6 }) ∷ Some (record { state = Slave; position = 6 }) ∷ Some (record { state = Slave; position = 6 }) ∷ None ∷ None ∷ None ∷ None ∷ [] }) ∷
    routes 1 ∷
    to_link 1 (codes "1b0000000373656c65637420612066726f6d207420666f7220757064617465") ∷
    to_client 1 (codes "0100000101") ∷
    to_client 1 (codes "17000002036465660000000161000c2d000a000000fd0000000000") ∷
    to_client 1 (codes "05000003fe00000200") ∷
    to_client 1 (codes "020000040136") ∷
    to_client 1 (codes "12000005ffbd0423485930303064656164206c6f636b") ∷
    routes 1 ∷
    to_link 1 (codes "0c0000001673686f77207461626c6573") ∷
    to_client 1 (codes "0c000001000100000001000000000000") ∷
    to_client 1 (codes "17000002036465660000000161000c2d000a000000fd0000000000") ∷
    to_client 1 (codes "05000003fe00000200") ∷
    routes 1 ∷
    to_link 1 (codes "050000001965000000") ∷
    to_link 1 (codes "0c0000001673617665706f696e742061") ∷ [])
unfolding lenenc lenenc_bytes full_packet spelling number_behind payload_behind first_payload eof_at err_at err_code err_bytes bytes_at number_at fixed_at lenenc_at text_at text_bytes zero_text_at last_text_at ended state_at texts_at ok_at ok_status texts_bytes ok_bytes prepare_ok_at prepare_ok_bytes once_at types_at values_at execute_at types_bytes values_bytes execute_bytes eof_status prepared_counts column_count is_definition is_row progress role client_ok client_prepared client_form long_data_bytes run_bytes long_data_at class_of same_word key_words refused_names setting_names forms commit_in commit_of shown_at
a_server_closes_what_has_left = does_in 24 refl refl

-- a statement leaves while another link plays its prepare
an_id_comes_too_late : Does
    (Observed (record { seen = Some (record { state = Master; position = 6 }) ∷ Some (record { state = Slave; position = 6 }) ∷ Some (record { state = Slave; position = 6 }) ∷ None ∷ None ∷ None ∷ None ∷ [] }) ∷
    Begin 1 2 ∷
    from_client 1 (codes "2900000016696e7365727420696e746f20742076616c75657320283f2c3f2c3f2c3f2c3f2c3f2c3f2c3f2c3f29") ∷
    LinkReady 2 ∷
    on_link 2 (codes "0c00000100c90000000000090000000017000002036465660000000161000c2d000a000000fd000000000017000003036465660000000161000c2d000a000000fd000000000017000004036465660000000161000c2d000a000000fd000000000017000005036465660000000161000c2d000a000000fd000000000017000006036465660000000161000c2d000a000000fd000000000017000007036465660000000161000c2d000a000000fd000000000017000008036465660000000161000c2d000a000000fd000000000017000009036465660000000161000c2d000a000000fd00000000001700000a036465660000000161000c2d000a000000fd00000000000500000bfe00000200") ∷
    from_client 1 (codes "0500000019010000000d00000017010000000001000000000000") ∷
    on_link 1 (codes "0c00000100650000000000090000000017000002036465660000000161000c2d000a000000fd000000000017000003036465660000000161000c2d000a000000fd000000000017000004036465660000000161000c2d000a000000fd000000000017000005036465660000000161000c2d000a000000fd000000000017000006036465660000000161000c2d000a000000fd000000000017000007036465660000000161000c2d000a000000fd000000000017000008036465660000000161000c2d000a000000fd000000000017000009036465660000000161000c2d000a000000fd00000000001700000a036465660000000161000c2d000a000000fd00000000000500000bfe00000200") ∷ End ∷ [])
    (takes_in (record { seen = Some (record { state = Master; position = 6 }) ∷ Some (record { state = Slave; position = 6 }) ∷ Some (record { state = Slave; position = 6 }) ∷ None ∷ None ∷ None ∷ None ∷ [] }) ∷
    routes 1 ∷
    opens 2 0 1 ∷
    to_link 2 (codes "2900000016696e7365727420696e746f20742076616c75657320283f2c3f2c3f2c3f2c3f2c3f2c3f2c3f2c3f29") ∷
    to_client 1 (codes "0c000001000100000000000900000000") ∷
    to_client 1 (codes "17000002036465660000000161000c2d000a000000fd0000000000") ∷
    to_client 1 (codes "17000003036465660000000161000c2d000a000000fd0000000000") ∷
    to_client 1 (codes "17000004036465660000000161000c2d000a000000fd0000000000") ∷
    to_client 1 (codes "17000005036465660000000161000c2d000a000000fd0000000000") ∷
    to_client 1 (codes "17000006036465660000000161000c2d000a000000fd0000000000") ∷
    to_client 1 (codes "17000007036465660000000161000c2d000a000000fd0000000000") ∷
    to_client 1 (codes "17000008036465660000000161000c2d000a000000fd0000000000") ∷
    to_client 1 (codes "17000009036465660000000161000c2d000a000000fd0000000000") ∷
    to_client 1 (codes "1700000a036465660000000161000c2d000a000000fd0000000000") ∷
    to_client 1 (codes "0500000bfe00000200") ∷
    to_link 1 (codes "2900000016696e7365727420696e746f20742076616c75657320283f2c3f2c3f2c3f2c3f2c3f2c3f2c3f2c3f29") ∷
    to_client 1 (codes "21000001ffdb04234859303030756e6b6e6f776e2073746174656d656e742068616e646c65") ∷ [])
unfolding lenenc lenenc_bytes full_packet spelling number_behind payload_behind first_payload eof_at err_at err_code err_bytes bytes_at number_at fixed_at lenenc_at text_at text_bytes zero_text_at last_text_at ended state_at texts_at ok_at ok_status texts_bytes ok_bytes prepare_ok_at prepare_ok_bytes once_at types_at values_at execute_at types_bytes values_bytes execute_bytes eof_status prepared_counts column_count is_definition is_row progress role client_ok client_prepared client_form long_data_bytes run_bytes long_data_at class_of same_word key_words refused_names setting_names forms commit_in commit_of shown_at
an_id_comes_too_late = does_in 24 refl refl

-- a prepare says nothing of the transaction that is open: a ping shows it still
a_prepare_says_nothing_of_a_transaction : Does
    (Observed (record { seen = Some (record { state = Master; position = 0 }) ∷ Some (record { state = Slave; position = 0 }) ∷ Some (record { state = Slave; position = 0 }) ∷ None ∷ None ∷ None ∷ None ∷ [] }) ∷
    Begin 1 0 ∷
    from_client 1 (codes "0b00000003424547494e20574f524b010000000e220000001673656c65637420612066726f6d207420776865726520623d3f20616e6420633d3f") ∷
    on_link 1 (codes "0700000100000003000000") ∷
    on_link 1 (codes "0c00000100650000000100020000000017000002036465660000000161000c2d000a000000fd000000000017000003036465660000000161000c2d000a000000fd000000000005000004fe0000020017000005036465660000000161000c2d000a000000fd000000000005000006fe00000200") ∷ End ∷ [])
    (takes_in (record { seen = Some (record { state = Master; position = 0 }) ∷ Some (record { state = Slave; position = 0 }) ∷ Some (record { state = Slave; position = 0 }) ∷ None ∷ None ∷ None ∷ None ∷ [] }) ∷
    routes 1 ∷
    to_link 1 (codes "0b00000003424547494e20574f524b") ∷
    to_client 1 (codes "0700000100000003000000") ∷
    to_client 1 (codes "0700000100000003000000") ∷
    to_link 1 (codes "220000001673656c65637420612066726f6d207420776865726520623d3f20616e6420633d3f") ∷
    to_client 1 (codes "0c000001000100000001000200000000") ∷
    to_client 1 (codes "17000002036465660000000161000c2d000a000000fd0000000000") ∷
    to_client 1 (codes "17000003036465660000000161000c2d000a000000fd0000000000") ∷
    to_client 1 (codes "05000004fe00000200") ∷
    to_client 1 (codes "17000005036465660000000161000c2d000a000000fd0000000000") ∷
    to_client 1 (codes "05000006fe00000200") ∷ [])
unfolding lenenc lenenc_bytes full_packet spelling number_behind payload_behind first_payload eof_at err_at err_code err_bytes bytes_at number_at fixed_at lenenc_at text_at text_bytes zero_text_at last_text_at ended state_at texts_at ok_at ok_status texts_bytes ok_bytes prepare_ok_at prepare_ok_bytes once_at types_at values_at execute_at types_bytes values_bytes execute_bytes eof_status prepared_counts column_count is_definition is_row progress role client_ok client_prepared client_form long_data_bytes run_bytes long_data_at class_of same_word key_words refused_names setting_names forms commit_in commit_of shown_at
a_prepare_says_nothing_of_a_transaction = does_in 24 refl refl

-- a statement that is closed in a transaction stays for the other links until that ends
a_close_waits_for_the_transaction : Does
    (Observed (record { seen = Some (record { state = Master; position = 0 }) ∷ Some (record { state = Slave; position = 0 }) ∷ Some (record { state = Slave; position = 0 }) ∷ None ∷ None ∷ None ∷ None ∷ [] }) ∷
    Begin 1 2 ∷
    from_client 1 (codes "0600000016626567696e") ∷
    LinkReady 2 ∷
    on_link 2 (codes "0c00000100c900000000000000000000") ∷
    from_client 1 (codes "0a00000017010000000001000000") ∷
    on_link 2 (codes "0700000100000003000000") ∷
    from_client 1 (codes "050000001901000000") ∷ End ∷ [])
    (takes_in (record { seen = Some (record { state = Master; position = 0 }) ∷ Some (record { state = Slave; position = 0 }) ∷ Some (record { state = Slave; position = 0 }) ∷ None ∷ None ∷ None ∷ None ∷ [] }) ∷
    routes 1 ∷
    opens 2 0 1 ∷
    to_link 2 (codes "0600000016626567696e") ∷
    to_client 1 (codes "0c000001000100000000000000000000") ∷
    to_link 1 (codes "0600000016626567696e") ∷
    routes 1 ∷
    to_link 2 (codes "0a00000017c90000000001000000") ∷
    to_client 1 (codes "0700000100000003000000") ∷ [])
unfolding lenenc lenenc_bytes full_packet spelling number_behind payload_behind first_payload eof_at err_at err_code err_bytes bytes_at number_at fixed_at lenenc_at text_at text_bytes zero_text_at last_text_at ended state_at texts_at ok_at ok_status texts_bytes ok_bytes prepare_ok_at prepare_ok_bytes once_at types_at values_at execute_at types_bytes values_bytes execute_bytes eof_status prepared_counts column_count is_definition is_row progress role client_ok client_prepared client_form long_data_bytes run_bytes long_data_at class_of same_word key_words refused_names setting_names forms commit_in commit_of shown_at
a_close_waits_for_the_transaction = does_in 24 refl refl

-- an error costs the link also where the entry has left meanwhile
a_server_differs_in_an_entry_that_has_left : Does
    (Observed (record { seen = Some (record { state = Master; position = 0 }) ∷ Some (record { state = Slave; position = 0 }) ∷ Some (record { state = Slave; position = 0 }) ∷ None ∷ None ∷ None ∷ None ∷ [] }) ∷
    Begin 1 2 ∷
    from_client 1 (codes "0a0000000373656c6563") ∷
    from_client 1 (codes "74204078") ∷
    LinkReady 2 ∷
    from_client 1 (codes "0c0000001673617665706f696e742061") ∷
    on_link 2 (codes "010000010117000002036465660000000161000c2d000a000000fd000000000005000003fe0000020002000004013605000005fe00000200") ∷
    LinkReady 3 ∷
    on_link 3 (codes "0c000001002d") ∷
    on_link 3 (codes "01000000000000000000") ∷
    from_client 1 (codes "050000001901000000") ∷
    on_link 1 (codes "09000001ff5104234859303030") ∷ End ∷ [])
    (takes_in (record { seen = Some (record { state = Master; position = 0 }) ∷ Some (record { state = Slave; position = 0 }) ∷ Some (record { state = Slave; position = 0 }) ∷ None ∷ None ∷ None ∷ None ∷ [] }) ∷
    routes 1 ∷
    opens 2 1 1 ∷
    to_link 2 (codes "0a0000000373656c656374204078") ∷
    to_client 1 (codes "0100000101") ∷
    to_client 1 (codes "17000002036465660000000161000c2d000a000000fd0000000000") ∷
    to_client 1 (codes "05000003fe00000200") ∷
    to_client 1 (codes "020000040136") ∷
    to_client 1 (codes "05000005fe00000200") ∷
    routes 1 ∷
    opens 3 0 1 ∷
    to_link 3 (codes "0c0000001673617665706f696e742061") ∷
    to_client 1 (codes "0c000001000100000000000000000000") ∷
    to_link 1 (codes "0c0000001673617665706f696e742061") ∷
    to_link 2 (codes "0c0000001673617665706f696e742061") ∷
    drops 1 SessionDiffers ∷ [])
unfolding lenenc lenenc_bytes full_packet spelling number_behind payload_behind first_payload eof_at err_at err_code err_bytes bytes_at number_at fixed_at lenenc_at text_at text_bytes zero_text_at last_text_at ended state_at texts_at ok_at ok_status texts_bytes ok_bytes prepare_ok_at prepare_ok_bytes once_at types_at values_at execute_at types_bytes values_bytes execute_bytes eof_status prepared_counts column_count is_definition is_row progress role client_ok client_prepared client_form long_data_bytes run_bytes long_data_at class_of same_word key_words refused_names setting_names forms commit_in commit_of shown_at
a_server_differs_in_an_entry_that_has_left = does_in 24 refl refl

-- before the first prepare the last statement is none
no_statement_is_the_last_one : Does
    (Begin 1 0 ∷
    from_client 1 (codes "1000000017ffffffff0001000000000108000176050000001902000000") ∷ End ∷ [])
    (to_client 1 (codes "21000001ffdb04234859303030756e6b6e6f776e2073746174656d656e742068616e646c65") ∷ [])
unfolding lenenc lenenc_bytes full_packet spelling number_behind payload_behind first_payload eof_at err_at err_code err_bytes bytes_at number_at fixed_at lenenc_at text_at text_bytes zero_text_at last_text_at ended state_at texts_at ok_at ok_status texts_bytes ok_bytes prepare_ok_at prepare_ok_bytes once_at types_at values_at execute_at types_bytes values_bytes execute_bytes eof_status prepared_counts column_count is_definition is_row progress role client_ok client_prepared client_form long_data_bytes run_bytes long_data_at class_of same_word key_words refused_names setting_names forms commit_in commit_of shown_at
no_statement_is_the_last_one = does_in 24 refl refl

-- an execute of a text that sets the session keeps that on its link
an_execute_that_sets_the_session : Does
    (Observed (record { seen = Some (record { state = Master; position = 0 }) ∷ Some (record { state = Slave; position = 0 }) ∷ Some (record { state = Slave; position = 0 }) ∷ None ∷ None ∷ None ∷ None ∷ [] }) ∷
    Begin 1 0 ∷
    from_client 1 (codes "0c0000001673617665706f696e742061") ∷
    on_link 1 (codes "0c000001006500000000000000000000") ∷
    from_client 1 (codes "0e000000170100000000") ∷
    from_client 1 (codes "010000") ∷
    from_client 1 (codes "006a756e6b") ∷ End ∷ [])
    (takes_in (record { seen = Some (record { state = Master; position = 0 }) ∷ Some (record { state = Slave; position = 0 }) ∷ Some (record { state = Slave; position = 0 }) ∷ None ∷ None ∷ None ∷ None ∷ [] }) ∷
    routes 1 ∷
    to_link 1 (codes "0c0000001673617665706f696e742061") ∷
    to_client 1 (codes "0c000001000100000000000000000000") ∷
    routes 1 ∷
    to_link 1 (codes "0a00000017650000000001000000") ∷ [])
unfolding lenenc lenenc_bytes full_packet spelling number_behind payload_behind first_payload eof_at err_at err_code err_bytes bytes_at number_at fixed_at lenenc_at text_at text_bytes zero_text_at last_text_at ended state_at texts_at ok_at ok_status texts_bytes ok_bytes prepare_ok_at prepare_ok_bytes once_at types_at values_at execute_at types_bytes values_bytes execute_bytes eof_status prepared_counts column_count is_definition is_row progress role client_ok client_prepared client_form long_data_bytes run_bytes long_data_at class_of same_word key_words refused_names setting_names forms commit_in commit_of shown_at
an_execute_that_sets_the_session = does_in 24 refl refl
