-- What a read is to see by its last route, and what its link's server has told of that since.
use Rattle.std.specs.Prelude.{◌≡◌, ◌<◌, ◌≤◌, ℕ, ◌+◌, true, List, [], ◌∷◌, Option, Some, None, Ok, codes}
use Rattle.rws_gtid.specs.declared.Gtid.{Gtid}
use Rattle.rws_gtid.specs.Parsing.{position_in}
use Rattle.rws_pool.specs.declared.words.PoolWords.{PoolWords}
use Rattle.rws_pool.specs.Machine.{seen_at}
use Rattle.rws_causal.specs.Rules.{reached, wanted}
use Rattle.rws_route.specs.declared.destination.Target.{Target}
use Rattle.rws_route.specs.Targets.{only_reads}
use Rattle.rws_reply.specs.declared.kind.Kind.TheVariants.{Query as QueryReply}
use Rattle.rws_reply.specs.declared.kind.Outcome.{Outcome}
use Rattle.rws_reply.specs.Replies.{IsReply}
use Rattle.rws_link.specs.declared.step.LinkStep.{LinkStep}
use Rattle.rws_config.specs.declared.config.Config.{Config}
use Rattle.rws_commands.specs.declared.command.Command.{Command}
use Rattle.rws_commands.specs.Commands.{class_of_command}
use Rattle.rws_record.specs.Item.{Item}
use Rattle.rws_record.specs.Item.Item.{Comes, Routed, Takes, Puts}
use Rattle.rws_record.specs.Item.Put.{Sends}
use Rattle.rws_record.specs.Item.Purpose.{Waits, Probes}
use Rattle.rws_record.specs.Values.{asked_on, exchange, own}
use Rattle.rws_laws.specs.Client.{IsPending}
use Rattle.rws_laws.specs.Servers.{came_on, value_came}

-- an answer of the worker: the words, what was found by them, and the record below it
pub record Route : Type 0 where
  pub words : PoolWords
  pub found : Target
  pub below : List Item

-- the last one to the command that was taken up last
abbrev pub route_last : List Item → Option Route
route_last [] = None
route_last (Takes it number ∷ past) = None
route_last (Routed words loads next found ∷ past) = Some (record { words = words; found = found; below = past })
route_last (_ ∷ past) = route_last past

-- the commit that a read is to see by it: none, the session's own last one, or the last one of the words, as the settings say
abbrev pub wanted_by : Config → Route → Option Gtid
wanted_by config route = wanted config.causal_reads route.words (own route.below)

-- by its words a server had reached so much
abbrev pub position_by : (server : ℕ) → Route → ℕ
position_by server route = (seen_at route.words server).position

-- an item that neither takes up a command nor routes one
abbrev pub IsOfRoute : Item → Type 0
IsOfRoute (Takes it number) = ⊥
IsOfRoute (Routed words loads next found) = ⊥
IsOfRoute _ = Unit {0}

-- the newest item ends a reply to a query on the link
pub record EndsReply (link : ℕ) (past : List Item) : Type 0 where
  pub outcome : Outcome
  pub whole : IsReply QueryReply (came_on link past) outcome
  pub left : exchange link past ≡ None

-- Since the command was routed last, the link's server has told that it has this commit: a wait for it ended by the value 0, or a probe
-- gave a position that is no lower.
pub data HasTold (link : ℕ) (gtid : Gtid) : List Item → Type 0 where
  waited : {past : List Item} {said : LinkStep} {seconds : ℕ} → asked_on link past ≡ Some (Waits gtid seconds)
      → EndsReply link (Comes link said ∷ past) → value_came link (Comes link said ∷ past) ≡ Some (codes "0")
      → HasTold link gtid (Comes link said ∷ past)
  probed : {past : List Item} {said : LinkStep} (list : List ℕ) (position : Option Gtid) → asked_on link past ≡ Some (Probes gtid)
      → EndsReply link (Comes link said ∷ past) → value_came link (Comes link said ∷ past) ≡ Some list
      → position_in gtid.domain list ≡ Ok position → gtid.sequence ≤ reached position
      → HasTold link gtid (Comes link said ∷ past)
  since : {item : Item} {past : List Item} → IsOfRoute item → HasTold link gtid past → HasTold link gtid (item ∷ past)

-- The pending command only reads, and by its last route, which found this, it wants to see this commit, which the server that was found
-- isn't known to have.
pub record Wants (config : Config) (gtid : Gtid) (server : ℕ) (found : Target) (past : List Item) : Type 0 where
  pub command : Command
  pub pending : IsPending config command past
  pub reads : only_reads (class_of_command command) ≡ true
  pub route : Route
  pub last : route_last past ≡ Some route
  pub at : route.found ≡ found
  pub wants : wanted_by config route ≡ Some gtid
  pub below : position_by server route < gtid.sequence

-- how often a server was asked something before the command, since that was routed last
abbrev pub asked_first : List Item → ℕ
asked_first [] = 0
asked_first (Takes it number ∷ past) = 0
asked_first (Routed words loads next found ∷ past) = 0
asked_first (Puts (Sends link (Waits gtid seconds)) ∷ past) = asked_first past + 1
asked_first (Puts (Sends link (Probes gtid)) ∷ past) = asked_first past + 1
asked_first (_ ∷ past) = asked_first past
