-- The log of a session's transaction: the commands that were answered in it, each with the reply that the client has.
use Rattle.std.specs.Prelude.{ℕ, ◌+◌, Bool, true, false, List, [], ◌∷◌, ◌++◌, Some}
use Rattle.rws_trx.specs.declared.state.Course.{Course}
use Rattle.rws_trx.specs.OnLinks.{by_course, course_of}
use Rattle.rws_config.specs.declared.config.Config.{Config}
use Rattle.rws_commands.specs.declared.command.Command.{Command}
use Rattle.rws_commands.specs.Commands.{bytes_of}
use Rattle.rws_record.specs.Item.{Item}
use Rattle.rws_record.specs.Item.Item.{Puts}
use Rattle.rws_record.specs.Item.Put.{Tells}
use Rattle.rws_record.specs.Item.Tell.{Passes}
use Rattle.rws_record.specs.Values.{answer_to, class_by_pending, kept_on, or_link, pending, routing, serials, speaks, told, transaction}

pub record Logged : Type 0 where
  pub command : Command
  -- its payloads, in the client's form
  pub reply : List (List ℕ)

-- something that a reply which speaks of the transaction changes so, and no other
abbrev pub if_speaks : {A : Type 0} → (speaks : Bool) → Course → (goes_on begins none before : A) → A
if_speaks true course goes_on begins none before = by_course course goes_on begins none
if_speaks false course goes_on begins none before = before

-- the commands of the open transaction, from the one that began it
abbrev pub log : Config → List Item → List Logged
log config [] = []
log config (Puts (Tells number (Passes link command payload (Some ending) recording)) ∷ past) =
    let t = transaction config past in
    let last : Logged = record { command = command; reply = told past ++ payload ∷ [] } in
    if_speaks (speaks (or_link (kept_on past) t.link) link (class_by_pending (pending past)) (routing config past))
    (course_of (answer_to (pending past) link ending.outcome t.state) t) (log config past ++ last ∷ []) (last ∷ []) [] (log config past)
log config (_ ∷ past) = log config past

-- the mark: the serial of the next entry of the history when the command was sent that began it
abbrev pub mark : Config → List Item → ℕ
mark config [] = 0
mark config (Puts (Tells number (Passes link command payload (Some ending) recording)) ∷ past) =
    let t = transaction config past in
    if_speaks (speaks (or_link (kept_on past) t.link) link (class_by_pending (pending past)) (routing config past))
    (course_of (answer_to (pending past) link ending.outcome t.state) t) (mark config past) (serials past) 0 (mark config past)
mark config (_ ∷ past) = mark config past

-- how many bytes the commands of a log have
abbrev pub total : List Logged → ℕ
total [] = 0
total (first ∷ others) = bytes_of first.command.body + total others
