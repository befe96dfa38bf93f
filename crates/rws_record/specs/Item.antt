-- The record of one session: what came to it, what it took up, and what it gave out. A record is a list of these
-- items, newest first.
use Rattle.std.specs.Prelude.{ℕ, Bool, List, Option}
use Rattle.rws_wire.specs.declared.close_reason.CloseReason.{CloseReason}
use Rattle.rws_wire.specs.declared.drop_cause.DropCause.{DropCause}
use Rattle.rws_native.specs.declared.login.Login.{Login}
use Rattle.rws_gtid.specs.declared.Gtid.{Gtid}
use Rattle.rws_front.specs.declared.step.FrontStep.{FrontStep}
use Rattle.rws_link.specs.declared.step.LinkStep.{LinkStep}
use Rattle.rws_pool.specs.declared.words.PoolWords.{PoolWords}
use Rattle.rws_select.specs.declared.selector.Load.{Load}
use Rattle.rws_route.specs.declared.destination.Target.{Target}
use Rattle.rws_commands.specs.declared.command.Command.{Command}
pub use Rattle.rws_commands.specs.declared.ending.Ending.{Ending}
use Rattle.rws_commands.specs.declared.history.HistoryEntry.{HistoryEntry}
use Rattle.rws_commands.specs.declared.judged.Judged.{Judged}
use Rattle.rws_commands.specs.declared.proxy_error.ProxyError.{ProxyError}

-- why something goes to a server that it is to answer
pub data Purpose : Type 0 where
  -- the server is to tell the GTIDs of commits from now on: the first command on a link, behind its login
  Prepares : Purpose
  -- the client asked for it; an execute is of the statement that has this id at the link's server
  Asks : Command → (id : Option ℕ) → Purpose
  -- it set the session on another link before: an entry of the session's history
  Plays : HistoryEntry → Purpose
  -- before a read that is to see a commit: a replica is to wait for it, so many seconds at most; the primary is to tell its position
  Waits : Gtid → (seconds : ℕ) → Purpose
  Probes : Gtid → Purpose

-- what the end of a reply means for the session's history
pub data Recording : Type 0 where
  Nothing : Recording
  -- its command is added
  Accepts : Recording
  -- there is no room for it, so the session is kept on the link
  Keeps : Recording

-- what the client is told
pub data Tell : Type 0 where
  -- a payload of the reply that this link gives to the command, in the client's form; the last one with how the server's
  -- reply ended and what that means for the history
  Passes : (link : ℕ) → Command → (payload : List ℕ) → Option Ending → Recording → Tell
  -- the proxy's own OK
  Owns : (status : ℕ) → Tell
  -- the proxy's own error
  Refuses : ProxyError → Tell

-- what the session gives out
pub data Put : Type 0 where
  -- to the client, packets as its front has made them: those of the login, or the error at which its packets end
  Hands : (packets : List ℕ) → Put
  -- to the client, in packets from this number on
  Tells : (number : ℕ) → Tell → Put
  -- the words of the pool are told of a commit that a server made, before anybody else is
  Records : (server : ℕ) → Gtid → Put
  -- the worker is asked for the words of the pool and its loads, by which the pending command's target is found
  Routes : Put
  -- a link to this server is opened, on which the client's login is repeated
  Opens : (link server : ℕ) → Login → Put
  -- to a server, packets of the login as the link has made them
  LogsInto : (link : ℕ) → (packets : List ℕ) → Put
  -- to a server, a command
  Sends : (link : ℕ) → Purpose → Put
  -- to a server, that it is to close a statement, which it has under this id
  Forgets : (link id : ℕ) → Put
  -- a link is given up
  Drops : (link : ℕ) → DropCause → Put
  -- the session is closed
  Closes : CloseReason → Put

pub data Item : Type 0 where
  -- from outside: a client connects, and is to be greeted with this scramble; it is turned away, since there are as many
  -- sessions as may be, and is told so or not; a session begins in the command phase, with a link that is ready. `reading` is what
  -- the clock showed last, in milliseconds
  Accepted : (session : ℕ) → (scramble : List ℕ) → (reading : ℕ) → Item
  TurnsAway : (told : Bool) → Item
  Began : (link server reading : ℕ) → Item
  -- bytes come; a link that is opening counts as ready; the client or a link is gone
  ClientBytes : List ℕ → Item
  LinkReady : (link : ℕ) → Item
  LinkBytes : (link : ℕ) → List ℕ → Item
  ClientGone : Item
  LinkLost : (link : ℕ) → Item
  -- the clock shows this
  Ticks : (reading : ℕ) → Item
  -- the worker's answer: the words, the loads of its links by server, and the number that the next link has; and where the
  -- pending command goes by these
  Routed : PoolWords → List Load → (next : ℕ) → Target → Item
  -- what came of a link: packets of its login are to be sent, it is logged in, a payload of the reply that it owes, as the
  -- server sent it, or that it is lost
  Comes : (link : ℕ) → LinkStep → Item
  -- what came of the client but for its commands: packets of its login are to be sent, it is logged in, or its packets can't
  -- be read on
  Connects : FrontStep → Item
  -- the session's own steps: it takes up the client's next command, whose reply begins with this number; it notes that the
  -- client sent on, behind a command that isn't answered, until so many bytes were held, which is one more than it may; and it
  -- gives something out
  Takes : Judged → (number : ℕ) → Item
  Floods : (held : ℕ) → Item
  Puts : Put → Item
  -- memory was wanting, in place of what would have come next, where an error to the client has this number; or it was wanting
  -- for the session itself, which then wasn't made
  Starves : (made : Bool) → (number : ℕ) → Item
