-- Small cuttings, computed by the definition under the built-in settings: a command in two pieces, and a byte behind a whole reply.
use Rattle.std.proofs.Common.{◌≡◌, ℕ, suc, zero, Bool, true, false, List, [], ◌∷◌, ◌++◌, refl, Option, Some, None, codes}
use Rattle.rws_wire.specs.Lenenc.{lenenc, lenenc_bytes}
use Rattle.rws_wire.specs.Packets.{full_packet, spelling, number_behind}
use Rattle.rws_wire.specs.Payloads.{payload_behind, first_payload}
use Rattle.rws_wire.specs.declared.drop_cause.DropCause.TheVariants.{Unasked}
use Rattle.rws_msgs.specs.EofLayout.{eof_at}
use Rattle.rws_msgs.specs.ErrLayout.{err_at, err_code, err_bytes}
use Rattle.rws_msgs.specs.Fields.{bytes_at, number_at, fixed_at, lenenc_at, text_at, text_bytes, zero_text_at, last_text_at, ended}
use Rattle.rws_msgs.specs.OkLayout.{state_at, texts_at, ok_at, ok_status, texts_bytes, ok_bytes}
use Rattle.rws_msgs.specs.PrepareOkLayout.{prepare_ok_at}
use Rattle.rws_reply.specs.Payloads.{eof_status, prepared_counts, column_count, is_definition, is_row}
use Rattle.rws_reply.specs.Tracking.{progress, role}
use Rattle.rws_reply.specs.ClientForm.{client_ok, client_form}
use Rattle.rws_causal.specs.Commits.{commit_in, commit_of, shown_at, entry_at, variables_at}
use Rattle.rws_board.specs.declared.action.Action.TheVariants.{Drop, Open, ToClient, ToLink}
use Rattle.rws_pool.specs.declared.events.PoolEvent.TheVariants.{Observe}
use Rattle.rws_pool.specs.declared.words.State.TheVariants.{Master}
use Rattle.rws_pool.specs.Machine.{new_words, pool_from}
use Rattle.rws_select.specs.declared.selector.Load.{Load}
use Rattle.rws_config.specs.BuiltIn.{built_in}
use Rattle.rws_record.specs.Item.{Item}
use Rattle.rws_record.specs.Item.Item.{Began, ClientBytes, LinkBytes}
use Rattle.rws_record.specs.declared.output.Output.{Output}
use Rattle.rws_record.specs.declared.output.Output.TheVariants.{Act}
use Rattle.rws_record.specs.Values.{asking}
use Rattle.rws_record.specs.Rules.{next}
use Rattle.rws_record.specs.Outputs.{outputs_of}
use Rattle.rws_record.proofs.WorkedRuns.{hex}
use Rattle.rws_cuts.specs.Turns.{Answer, Turns, answered}
use Rattle.rws_cuts.specs.Turns.Turns.{rests, goes_on, hears}

-- A turn, computed: the record, and the answers that are left

abbrev At : Type 0
At = List Answer × List Item

abbrev stepped : Option Item → Bool → List Answer → List Item → At
stepped (Some item) asks answers past = (answers, item ∷ past)
stepped None true (answer ∷ answers) past = (answers, answered built_in answer past ∷ past)
stepped None true [] past = ([], past)
stepped None false answers past = (answers, past)

-- after at most so many steps
abbrev turned : ℕ → At → At
turned zero at = at
turned (suc fuel) at = turned fuel (stepped (next built_in at.1) (asking at.1) at.0 at.1)

-- what is computed is a turn, if it ends with no answer left, at rest
abbrev IsTurn : ℕ → Type 0
IsTurn fuel =
    (answers : List Answer) (past : List Item) → (turned fuel (answers, past)).0 ≡ []
    → next built_in (turned fuel (answers, past)).1 ≡ None → asking (turned fuel (answers, past)).1 ≡ false
    → Turns built_in answers past (turned fuel (answers, past)).1

step_in : (fuel : ℕ) (past : List Item) → IsTurn fuel → (item : Option Item) (asks : Bool) (answers : List Answer)
    → next built_in past ≡ item → asking past ≡ asks → (turned fuel (stepped item asks answers past)).0 ≡ []
    → next built_in (turned fuel (stepped item asks answers past)).1 ≡ None → asking (turned fuel (stepped item asks answers past)).1 ≡ false
    → Turns built_in answers past (turned fuel (stepped item asks answers past)).1
step_in fuel past go (Some item) asks answers e a left none quiet = goes_on e (go answers (item ∷ past) left none quiet)
step_in fuel past go None true (answer ∷ answers) e a left none quiet =
    hears a (go answers (answered built_in answer past ∷ past) left none quiet)
step_in fuel past go None true [] e a left none quiet = go [] past left none quiet
step_in fuel past go None false answers e a left none quiet = go answers past left none quiet

turns_in : (fuel : ℕ) → IsTurn fuel
turns_in zero [] past left none quiet = rests none quiet
turns_in zero (answer ∷ answers) past left none quiet = absurd cc
turns_in (suc fuel) answers past left none quiet =
    step_in fuel past (turns_in fuel) (next built_in past) (asking past) answers refl refl left none quiet

-- this turn is there, and the session gave out this by then
pub record Gives (answers : List Answer) (past : List Item) (outs : List Output) : Type 0 where
  now : List Item
  turn : Turns built_in answers past now
  gave : outputs_of 1 now ≡ outs

pub gives_in : (fuel : ℕ) (answers : List Answer) (past : List Item) (outs : List Output) → (turned fuel (answers, past)).0 ≡ []
    → next built_in (turned fuel (answers, past)).1 ≡ None → asking (turned fuel (answers, past)).1 ≡ false
    → outputs_of 1 (turned fuel (answers, past)).1 ≡ outs → Gives answers past outs
gives_in fuel answers past outs left none quiet gave =
    record { now = (turned fuel (answers, past)).1; turn = turns_in fuel answers past left none quiet; gave = gave }

-- a worker that has seen that the first server is the primary
abbrev pub a_primary : Answer
a_primary = record {
  words = pool_from (new_words 0) (Observe (record { seen = Some (record { state = Master; position = 6 }) ∷ None ∷ None ∷ None ∷ None ∷ None ∷ None ∷ [] }) ∷ []);
  loads = (λ (none : Load). none ∷ none ∷ none ∷ none ∷ none ∷ none ∷ none ∷ []) (record { pending = 0; links = 0 });
  link = 2;
}

-- a session of a client and a link, and two commands of the client
abbrev pub begun : List Item
begun = Began 1 0 0 ∷ []

abbrev pub first_command : List ℕ
first_command = codes "020000000261"

abbrev pub second_command : List ℕ
second_command = codes "020000000262"

abbrev pub an_ok : List ℕ
an_ok = codes "0700000100000002000000"

abbrev pub to_link : List ℕ → Output
to_link digits = Act (ToLink 1 (hex digits))

abbrev pub to_client : List ℕ → Output
to_client digits = Act (ToClient 1 (hex digits))

-- the record after a turn
abbrev pub behind : List Answer → List Item → List Item
behind answers past = (turned 12 (answers, past)).1

-- A command in one piece, and in two

-- the whole command
a_command_in_one : Gives (a_primary ∷ []) (ClientBytes (hex first_command) ∷ begun) (to_link first_command ∷ [])
unfolding lenenc lenenc_bytes full_packet spelling number_behind payload_behind first_payload eof_at err_at err_code err_bytes bytes_at number_at fixed_at lenenc_at text_at text_bytes zero_text_at last_text_at ended state_at texts_at ok_at ok_status texts_bytes ok_bytes prepare_ok_at eof_status prepared_counts column_count is_definition is_row progress role client_ok client_form commit_in commit_of shown_at entry_at variables_at
a_command_in_one = gives_in 8 (a_primary ∷ []) (ClientBytes (hex first_command) ∷ begun) (to_link first_command ∷ []) refl refl refl refl

-- a piece of it does nothing
a_piece_of_it : Gives [] (ClientBytes (hex (codes "02000000")) ∷ begun) []
unfolding lenenc lenenc_bytes full_packet spelling number_behind payload_behind first_payload eof_at err_at err_code err_bytes bytes_at number_at fixed_at lenenc_at text_at text_bytes zero_text_at last_text_at ended state_at texts_at ok_at ok_status texts_bytes ok_bytes prepare_ok_at eof_status prepared_counts column_count is_definition is_row progress role client_ok client_form commit_in commit_of shown_at entry_at variables_at
a_piece_of_it = gives_in 8 [] (ClientBytes (hex (codes "02000000")) ∷ begun) [] refl refl refl refl

-- and the rest behind it does what the whole did
the_rest_of_it : Gives (a_primary ∷ []) (ClientBytes (hex (codes "0261")) ∷ behind [] (ClientBytes (hex (codes "02000000")) ∷ begun)) (to_link first_command ∷ [])
unfolding lenenc lenenc_bytes full_packet spelling number_behind payload_behind first_payload eof_at err_at err_code err_bytes bytes_at number_at fixed_at lenenc_at text_at text_bytes zero_text_at last_text_at ended state_at texts_at ok_at ok_status texts_bytes ok_bytes prepare_ok_at eof_status prepared_counts column_count is_definition is_row progress role client_ok client_form commit_in commit_of shown_at entry_at variables_at
the_rest_of_it = gives_in 8 (a_primary ∷ []) (ClientBytes (hex (codes "0261")) ∷ behind [] (ClientBytes (hex (codes "02000000")) ∷ begun)) (to_link first_command ∷ []) refl refl refl refl

-- A byte behind a reply, where the client has sent its next command

abbrev sent : List Item
sent = behind (a_primary ∷ []) (ClientBytes (hex (first_command ++ second_command)) ∷ begun)

-- with the reply it costs the link
a_byte_behind_a_reply : Gives (a_primary ∷ []) (LinkBytes 1 (hex an_ok ++ 1 ∷ []) ∷ sent) (to_link first_command ∷ to_client an_ok ∷ Act (Drop 1 Unasked) ∷ Act (Open 2 0 1) ∷ [])
unfolding lenenc lenenc_bytes full_packet spelling number_behind payload_behind first_payload eof_at err_at err_code err_bytes bytes_at number_at fixed_at lenenc_at text_at text_bytes zero_text_at last_text_at ended state_at texts_at ok_at ok_status texts_bytes ok_bytes prepare_ok_at eof_status prepared_counts column_count is_definition is_row progress role client_ok client_form commit_in commit_of shown_at entry_at variables_at
a_byte_behind_a_reply = gives_in 12 (a_primary ∷ []) (LinkBytes 1 (hex an_ok ++ 1 ∷ []) ∷ sent) (to_link first_command ∷ to_client an_ok ∷ Act (Drop 1 Unasked) ∷ Act (Open 2 0 1) ∷ []) refl refl refl refl

-- the reply alone
a_reply_alone : Gives (a_primary ∷ []) (LinkBytes 1 (hex an_ok) ∷ sent) (to_link first_command ∷ to_client an_ok ∷ to_link second_command ∷ [])
unfolding lenenc lenenc_bytes full_packet spelling number_behind payload_behind first_payload eof_at err_at err_code err_bytes bytes_at number_at fixed_at lenenc_at text_at text_bytes zero_text_at last_text_at ended state_at texts_at ok_at ok_status texts_bytes ok_bytes prepare_ok_at eof_status prepared_counts column_count is_definition is_row progress role client_ok client_form commit_in commit_of shown_at entry_at variables_at
a_reply_alone = gives_in 12 (a_primary ∷ []) (LinkBytes 1 (hex an_ok) ∷ sent) (to_link first_command ∷ to_client an_ok ∷ to_link second_command ∷ []) refl refl refl refl

-- and the byte behind that is one of the next reply
a_byte_of_the_next_reply : Gives [] (LinkBytes 1 (1 ∷ []) ∷ behind (a_primary ∷ []) (LinkBytes 1 (hex an_ok) ∷ sent)) (to_link first_command ∷ to_client an_ok ∷ to_link second_command ∷ [])
unfolding lenenc lenenc_bytes full_packet spelling number_behind payload_behind first_payload eof_at err_at err_code err_bytes bytes_at number_at fixed_at lenenc_at text_at text_bytes zero_text_at last_text_at ended state_at texts_at ok_at ok_status texts_bytes ok_bytes prepare_ok_at eof_status prepared_counts column_count is_definition is_row progress role client_ok client_form commit_in commit_of shown_at entry_at variables_at
a_byte_of_the_next_reply = gives_in 12 [] (LinkBytes 1 (1 ∷ []) ∷ behind (a_primary ∷ []) (LinkBytes 1 (hex an_ok) ∷ sent)) (to_link first_command ∷ to_client an_ok ∷ to_link second_command ∷ []) refl refl refl refl
