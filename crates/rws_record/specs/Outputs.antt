-- What the client and the servers see of what a session gives out.
use Rattle.std.specs.Prelude.{ℕ, List, [], ◌∷◌, ◌++◌, map, false}
use Rattle.rws_wire.specs.Packets.{spelling}
use Rattle.rws_msgs.specs.ErrLayout.{err_bytes}
use Rattle.rws_msgs.specs.OkLayout.{ok_bytes}
use Rattle.rws_board.specs.declared.action.Action.TheVariants as actions
use Rattle.rws_board.specs.declared.interaction.Interaction.{Interaction}
use Rattle.rws_board.specs.declared.interaction.Interaction.TheVariants.{Took, Told}
use Rattle.rws_pool.specs.declared.events.PoolCall.{PoolCall}
use Rattle.rws_pool.specs.declared.events.PoolCall.TheVariants as calls
use Rattle.rws_msgs.specs.declared.command.TheConstants.{COM_STMT_CLOSE}
use Rattle.rws_wire.specs.Numbers.{bytes_of}
use Rattle.rws_commands.specs.Errors.{error_of}
use Rattle.rws_record.specs.Item.{Item, Tell, Put}
use Rattle.rws_record.specs.Item.Item.{Puts}
use Rattle.rws_record.specs.Item.Tell.{Passes, Owns, Refuses}
use Rattle.rws_record.specs.declared.output.Output.{Output}
use Rattle.rws_record.specs.declared.output.Output.TheVariants.{Act, Record}
use Rattle.rws_record.specs.Item.Put.{Hands, Tells, Records, Routes, Opens, LogsInto, Sends, Forgets, Drops, Closes}
use Rattle.rws_record.specs.Values.{sent_for}

-- the OK that the proxy itself answers: nothing affected, no insert id, no warnings
abbrev pub own_ok : ℕ → List ℕ
own_ok status = ok_bytes false (record { affected = 0; insert_id = 0; status = status; warnings = 0; info = []; state = [] })

-- the payload that tells it
abbrev pub payload_of : Tell → List ℕ
payload_of (Passes link command payload ending recording) = payload
payload_of (Owns status) = own_ok status
payload_of (Refuses error) = err_bytes (error_of error)

-- the command by which a server closes the statement that has this id there
abbrev pub close_bytes : (id : ℕ) → List ℕ
close_bytes id = COM_STMT_CLOSE ∷ bytes_of 4 id

-- what is given out for it, in a session of this number and from the record below it
abbrev pub outs_for : ℕ → Put → List Item → List Output
outs_for session (Hands packets) past = Act (actions.ToClient session packets) ∷ []
outs_for session (Records server gtid) past = Record server gtid ∷ []
outs_for session Routes past = []
outs_for session (Opens link server login) past = Act (actions.Open link server session) ∷ []
outs_for session (LogsInto link packets) past = Act (actions.ToLink link packets) ∷ []
outs_for session (Tells number tell) past = Act (actions.ToClient session (spelling number (payload_of tell))) ∷ []
outs_for session (Sends link purpose) past = map (λ payload. Act (actions.ToLink link (spelling 0 payload))) (sent_for purpose)
outs_for session (Forgets link id) past = Act (actions.ToLink link (spelling 0 (close_bytes id))) ∷ []
outs_for session (Drops link cause) past = Act (actions.Drop link cause) ∷ []
outs_for session (Closes reason) past = Act (actions.Close session reason) ∷ []

-- what is given out for an item
abbrev pub outs_of : ℕ → Item → List Item → List Output
outs_of session (Puts put) past = outs_for session put past
outs_of session _ past = []

-- the words of the pool are asked for
abbrev pub calls_of : ℕ → Item → List PoolCall
calls_of session (Puts Routes) = calls.Route session ∷ []
calls_of session _ = []

-- what the outside takes, or is told, for something that is given out
abbrev pub done_as : Output → Interaction
done_as (Act action) = Took action
done_as (Record server gtid) = Told (calls.Record server gtid)

-- all that passes outside for an item: it gives something out or asks, and not both
abbrev pub done_for : ℕ → Item → List Item → List Interaction
done_for session item past = map done_as (outs_of session item past) ++ map Told (calls_of session item)

-- all that a session gave out, oldest first
abbrev pub outputs_of : ℕ → List Item → List Output
outputs_of session [] = []
outputs_of session (item ∷ past) = outputs_of session past ++ outs_of session item past
