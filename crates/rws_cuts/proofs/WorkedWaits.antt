-- A piece before and behind what else is heard, computed by the definition under the built-in settings.
use Rattle.std.proofs.Common.{◌≡◌, List, [], ◌∷◌, refl, None, codes}
use Rattle.rws_wire.specs.Lenenc.{lenenc, lenenc_bytes}
use Rattle.rws_wire.specs.Packets.{full_packet, spelling, number_behind}
use Rattle.rws_wire.specs.Payloads.{payload_behind, first_payload}
use Rattle.rws_msgs.specs.EofLayout.{eof_at}
use Rattle.rws_msgs.specs.ErrLayout.{err_at, err_code, err_bytes}
use Rattle.rws_msgs.specs.Fields.{bytes_at, number_at, fixed_at, lenenc_at, text_at, text_bytes, zero_text_at, last_text_at, ended}
use Rattle.rws_msgs.specs.OkLayout.{state_at, texts_at, ok_at, ok_status, texts_bytes, ok_bytes}
use Rattle.rws_msgs.specs.PrepareOkLayout.{prepare_ok_at}
use Rattle.rws_reply.specs.Payloads.{eof_status, prepared_counts, column_count, is_definition, is_row}
use Rattle.rws_reply.specs.Tracking.{progress, role}
use Rattle.rws_reply.specs.ClientForm.{client_ok, client_form}
use Rattle.rws_causal.specs.Commits.{commit_in, commit_of, shown_at, entry_at, variables_at}
use Rattle.rws_config.specs.BuiltIn.{built_in}
use Rattle.rws_record.specs.Item.{Item}
use Rattle.rws_record.specs.Item.Item.{ClientBytes, LinkBytes}
use Rattle.rws_record.specs.declared.output.Output.{Output}
use Rattle.rws_record.specs.Rules.{next}
use Rattle.rws_record.proofs.WorkedRuns.{hex}
use Rattle.rws_cuts.proofs.WorkedCuts.{Gives, a_primary, an_ok, begun, behind, first_command, gives_in, second_command, to_client, to_link}

-- a command was sent, and its reply is awaited
abbrev awaiting : List Item
awaiting = behind (a_primary ∷ []) (ClientBytes (hex first_command) ∷ begun)

abbrev second : Item
second = ClientBytes (hex second_command)

abbrev reply : Item
reply = LinkBytes 1 (hex an_ok)

-- the reply in two pieces
abbrev first_piece : Item
first_piece = LinkBytes 1 (hex (codes "07000001"))

abbrev last_piece : Item
last_piece = LinkBytes 1 (hex (codes "00000002000000"))

abbrev both_answered : List Output
both_answered = to_link first_command ∷ to_client an_ok ∷ to_link second_command ∷ []

-- The client's next command

-- it leads to nothing while the first one isn't answered
the_next_command_waits : next built_in (second ∷ awaiting) ≡ None
unfolding lenenc lenenc_bytes full_packet spelling number_behind payload_behind first_payload eof_at err_at err_code err_bytes bytes_at number_at fixed_at lenenc_at text_at text_bytes zero_text_at last_text_at ended state_at texts_at ok_at ok_status texts_bytes ok_bytes prepare_ok_at eof_status prepared_counts column_count is_definition is_row progress role client_ok client_form commit_in commit_of shown_at entry_at variables_at
the_next_command_waits = refl

-- before the reply
a_command_before_the_reply : Gives (a_primary ∷ []) (reply ∷ second ∷ awaiting) both_answered
unfolding lenenc lenenc_bytes full_packet spelling number_behind payload_behind first_payload eof_at err_at err_code err_bytes bytes_at number_at fixed_at lenenc_at text_at text_bytes zero_text_at last_text_at ended state_at texts_at ok_at ok_status texts_bytes ok_bytes prepare_ok_at eof_status prepared_counts column_count is_definition is_row progress role client_ok client_form commit_in commit_of shown_at entry_at variables_at
a_command_before_the_reply = gives_in 12 (a_primary ∷ []) (reply ∷ second ∷ awaiting) both_answered refl refl refl refl

-- and behind all that comes of it
a_command_behind_the_reply : Gives (a_primary ∷ []) (second ∷ behind [] (reply ∷ awaiting)) both_answered
unfolding lenenc lenenc_bytes full_packet spelling number_behind payload_behind first_payload eof_at err_at err_code err_bytes bytes_at number_at fixed_at lenenc_at text_at text_bytes zero_text_at last_text_at ended state_at texts_at ok_at ok_status texts_bytes ok_bytes prepare_ok_at eof_status prepared_counts column_count is_definition is_row progress role client_ok client_form commit_in commit_of shown_at entry_at variables_at
a_command_behind_the_reply = gives_in 12 (a_primary ∷ []) (second ∷ behind [] (reply ∷ awaiting)) both_answered refl refl refl refl

-- A piece of the reply

a_piece_leads_to_nothing : next built_in (first_piece ∷ awaiting) ≡ None
unfolding lenenc lenenc_bytes full_packet spelling number_behind payload_behind first_payload eof_at err_at err_code err_bytes bytes_at number_at fixed_at lenenc_at text_at text_bytes zero_text_at last_text_at ended state_at texts_at ok_at ok_status texts_bytes ok_bytes prepare_ok_at eof_status prepared_counts column_count is_definition is_row progress role client_ok client_form commit_in commit_of shown_at entry_at variables_at
a_piece_leads_to_nothing = refl

-- before the command
a_piece_before_a_command : Gives (a_primary ∷ []) (last_piece ∷ second ∷ first_piece ∷ awaiting) both_answered
unfolding lenenc lenenc_bytes full_packet spelling number_behind payload_behind first_payload eof_at err_at err_code err_bytes bytes_at number_at fixed_at lenenc_at text_at text_bytes zero_text_at last_text_at ended state_at texts_at ok_at ok_status texts_bytes ok_bytes prepare_ok_at eof_status prepared_counts column_count is_definition is_row progress role client_ok client_form commit_in commit_of shown_at entry_at variables_at
a_piece_before_a_command = gives_in 12 (a_primary ∷ []) (last_piece ∷ second ∷ first_piece ∷ awaiting) both_answered refl refl refl refl

-- and behind it
a_piece_behind_a_command : Gives (a_primary ∷ []) (last_piece ∷ first_piece ∷ second ∷ awaiting) both_answered
unfolding lenenc lenenc_bytes full_packet spelling number_behind payload_behind first_payload eof_at err_at err_code err_bytes bytes_at number_at fixed_at lenenc_at text_at text_bytes zero_text_at last_text_at ended state_at texts_at ok_at ok_status texts_bytes ok_bytes prepare_ok_at eof_status prepared_counts column_count is_definition is_row progress role client_ok client_form commit_in commit_of shown_at entry_at variables_at
a_piece_behind_a_command = gives_in 12 (a_primary ∷ []) (last_piece ∷ first_piece ∷ second ∷ awaiting) both_answered refl refl refl refl
