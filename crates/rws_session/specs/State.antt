-- What a session keeps of its record: a value for each thing that its later steps depend on.
use Rattle.std.specs.Prelude.{ℕ, Bool, List, ◌∷◌, map, Option, Some, None}
use Rattle.rws_wire.specs.Packets.{spelling}
use Rattle.rws_msgs.specs.ErrLayout.{err_bytes}
use Rattle.rws_gtid.specs.declared.Gtid.{Gtid}
use Rattle.rws_native.specs.declared.login.Login.{Login}
use Rattle.rws_front.specs.Fronting.{Fronting}
use Rattle.rws_routing.specs.declared.routing.Routing.{Routing}
use Rattle.rws_trx.specs.declared.transaction.Transaction.{Transaction}
use Rattle.rws_config.specs.declared.config.Config.{Config}
use Rattle.rws_commands.specs.declared.command.Command.{Command}
use Rattle.rws_commands.specs.Statements.{Statements}
use Rattle.rws_commands.specs.declared.proxy_error.ProxyError.TheVariants.{OutOfMemory}
use Rattle.rws_record.specs.Item.{Item, Put}
use Rattle.rws_record.specs.Item.Put.{Hands, Tells, Records, Routes, Opens, LogsInto, Sends, Forgets, Drops, Closes}
use Rattle.rws_record.specs.Item.Tell.{Passes, Owns, Refuses}
use Rattle.rws_record.specs.Record.{want_number}
use Rattle.rws_record.specs.Values.{asking, banned, fronted, is_over, kept_on, links, login_of, now as reading, own, pending, reply_number, routing, sent_on, serials, statements, told_from, transaction}
use Rattle.rws_record.specs.Rules.{owed}
use Rattle.rws_commands.specs.Errors.{error_of}
use Rattle.rws_links.specs.declared.numbered.NumberedLink.{NumberedLink}
pub use Rattle.rws_links.specs.Links.{link_of, number_of}
use Rattle.rws_links.specs.History.{recorded}
use Rattle.rws_session.specs.declared.owing.Out.{Out}
use Rattle.rws_session.specs.declared.owing.Out.TheVariants as outs

pub record State : Type 0 where
  -- the client's side, with its bytes that aren't taken up, and the login that it handed out
  pub front : Fronting
  pub login : Option Login
  -- the links, in order of number
  pub links : List NumberedLink
  -- the link that the session is kept on
  pub kept_on : Option ℕ
  -- the client's prepared statements and the session's history, how many entries that ever had, and the servers that answered one
  -- otherwise
  pub statements : Statements
  pub serials : ℕ
  pub banned : ℕ
  -- the command that isn't answered, the link that it was sent on, and that from which a part of its reply was told
  pub pending : Option Command
  pub sent_on : Option ℕ
  pub told_from : Option ℕ
  -- the number of the packet that the client gets next in the command's reply
  pub reply_number : ℕ
  -- how far the command has come on its way to a server; the last commit that the session itself saw; what transaction is open, and
  -- where; and what the clock showed last
  pub routing : Routing
  pub own : Option Gtid
  pub transaction : Transaction
  pub now_ms : ℕ
  -- the worker was asked for the words of the pool, by which the pending command's target is found
  pub asking : Bool
  -- the session is closed, or its client is gone
  pub over : Bool
  -- what is to be given out before anything else; None would be something that never waits
  pub owed : List (Option Out)
  -- the packet that tells the client that memory was wanting, and the number that it is to have
  pub farewell : List ℕ
  pub want_number : ℕ

-- What code needs to know of something that is owed. The worker is asked, and a command is sent, as soon as that is due, and a link
-- is opened in the call that finds the command's target: they never wait.
abbrev pub erased : Put → Option Out
erased (Hands packets) = Some (outs.Hand packets)
erased (Records server gtid) = Some (outs.Record server gtid)
erased Routes = None
erased (Opens link server login) = None
erased (LogsInto link packets) = Some (outs.LogIn link packets)
erased (Tells number (Passes link command payload ending recording)) = Some (outs.Pass number link payload ending (recorded recording))
erased (Tells number (Owns status)) = Some (outs.Own number status)
erased (Tells number (Refuses error)) = Some (outs.Refuse number error)
erased (Sends link purpose) = None
erased (Forgets link id) = None
erased (Drops link cause) = Some (outs.Drop link cause)
erased (Closes reason) = Some (outs.Close reason)

-- it is made with the session, and waits for want of memory
abbrev pub farewell_packet : List ℕ
farewell_packet = spelling 1 (err_bytes (error_of OutOfMemory))

-- a packet with this number
abbrev pub numbered : ℕ → List ℕ → List ℕ
numbered number (a ∷ b ∷ c ∷ before ∷ rest) = a ∷ b ∷ c ∷ number ∷ rest
numbered number packet = packet

-- what a session keeps of a record: each value under its name
abbrev pub state_of : Config → List Item → State
state_of config past = record {
  front = fronted config past;
  login = login_of config past;
  links = map (link_of past) (links past);
  kept_on = kept_on past;
  statements = statements config past;
  serials = serials past;
  banned = banned past;
  pending = pending past;
  sent_on = sent_on past;
  told_from = told_from past;
  reply_number = reply_number past;
  routing = routing config past;
  own = own past;
  transaction = transaction config past;
  now_ms = reading past;
  asking = asking past;
  over = is_over past;
  owed = map erased (owed config past);
  farewell = farewell_packet;
  want_number = want_number config past;
}
