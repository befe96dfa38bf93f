-- What is left to answer where a session rests: the other direction of `Causes`.
use Rattle.std.specs.Prelude.{◌≡◌, ◌≢◌, ℕ, ◌+◌, ◌≤◌, length, true, false, List, [], Some, None, Contains}
use Rattle.rws_wire.specs.Payloads.{first_payload}
use Rattle.rws_wire.specs.Payloads.Beginning.{Nothing}
use Rattle.rws_reply.specs.ClientForm.{client_reply}
use Rattle.rws_link.specs.declared.handshake.Handshake.{Handshake}
use Rattle.rws_link.specs.Handshake.{due}
use Rattle.rws_link.specs.Stepping.{Exchange, LinkState, LogsIn, Rests}
use Rattle.rws_route.specs.declared.destination.Target.TheVariants.{NoPrimary as Nowhere}
use Rattle.rws_routing.specs.declared.routing.Check.{Check}
use Rattle.rws_config.specs.declared.config.Config.{Config}
use Rattle.rws_config.specs.declared.limits.TheConstants.{FLOOD_ROOM, SERVER_PAYLOAD}
use Rattle.rws_commands.specs.declared.command.Command.{Command}
use Rattle.rws_commands.specs.declared.history.HistoryEntry.{HistoryEntry}
use Rattle.rws_commands.specs.Statements.{next_handle, unplayed}
use Rattle.rws_record.specs.Item.{Item}
use Rattle.rws_record.specs.Item.Purpose.{Plays}
use Rattle.rws_record.specs.Values.{asked_on, cursor, fronted, goes_on, held, links, linked, is_up, exchange, pinned, link_held, pending, routing, sent_on, statements, told, is_over}
use Rattle.rws_laws.specs.Client.{IsAwaited}
use Rattle.rws_laws.specs.Servers.{asks_first, came_on}
use Rattle.rws_laws.specs.Causes.{found_last}

-- What a pending command waits for.
pub data Waits (config : Config) (command : Command) (past : List Item) : Type 0 where
  -- for a primary: its last route found none, and it was sent nowhere
  for_primary : pinned config past ≡ None → sent_on past ≡ None → found_last past ≡ Some Nowhere → Waits config command past
  -- for the link that it is to go on, which isn't prepared: the server's next word is awaited, in the login or on the preamble
  for_link : (link : ℕ) → Contains (links past) link → goes_on config past ≡ Some link → sent_on past ≡ None → is_up link past ≡ false
      → linked link past ≢ Rests → Waits config command past
  -- for that link, which is prepared and plays an entry of the history: the reply to it is awaited
  for_entry : (link : ℕ) (entry : HistoryEntry) (e : Exchange) → Contains (links past) link → goes_on config past ≡ Some link → sent_on past ≡ None
      → asked_on link past ≡ Some (Plays entry) → exchange link past ≡ Some e → Waits config command past
  -- for what that link's server is asked before it: the reply to that is awaited
  for_check : (link : ℕ) (check : Check) (e : Exchange) → Contains (links past) link → goes_on config past ≡ Some link → sent_on past ≡ None
      → (routing config past).check ≡ Some check → asks_first (asked_on link past) ≡ Some check → exchange link past ≡ Some e
      → Waits config command past
  -- for its reply: it was sent there, and all that came of the reply was told in the client's form
  for_reply : (link number : ℕ) → Contains (links past) link → goes_on config past ≡ Some link → sent_on past ≡ Some link
      → exchange link past ≡ Some (record { kind = command.kind; next = number; sofar = came_on link past })
      → told past ≡ client_reply command.kind (next_handle (statements config past)) (came_on link past) → Waits config command past
  -- for nothing that may come: the settings have no account, so a session that began with a link has no login for another
  for_account : config.accounts ≡ [] → sent_on past ≡ None → Waits config command past

-- a link that owes no reply: it rests, or logs in, and the server's next word isn't whole
pub data IsIdle (link : LinkState) : Type 0 where
  at_rest : link ≡ Rests → IsIdle link
  at_login : {handshake : Handshake} {bytes : List ℕ} → link ≡ LogsIn handshake bytes
      → first_payload SERVER_PAYLOAD (due handshake) bytes ≡ Nothing → IsIdle link

-- What stands in a session that goes on and rests. Nothing that came waits for an answer but the command that its server
-- has, or is to have, and what the client sent behind it.
pub record HasAnswered (config : Config) (past : List Item) : Type 0 where
  -- where it is pinned to a link, it has that
  pub stays : (link : ℕ) → pinned config past ≡ Some link → Contains (links past) link
  -- where a command is pending, it waits
  pub waits : (command : Command) → pending past ≡ Some command → Waits config command past
  -- where no command is pending, nothing comes of the client: its bytes begin with no whole payload and no fault
  pub client : pending past ≡ None → IsAwaited config (fronted config past)
  -- where one is, no more bytes came behind it than a command and the room beside it may have
  pub room : (command : Command) → pending past ≡ Some command → length (held config past) ≤ config.command_bytes + FLOOD_ROOM
  -- of a reply that is awaited no whole payload came, and no fault
  pub reply : (link : ℕ) (e : Exchange) → Contains (links past) link → exchange link past ≡ Some e
      → first_payload SERVER_PAYLOAD e.next (link_held link past) ≡ Nothing
  -- a link that awaits no reply idles: no byte came on it that nobody awaited, it isn't lost, and its login goes on
  pub asked : (link : ℕ) → Contains (links past) link → exchange link past ≡ None → IsIdle (linked link past)
  -- and one that rests is prepared, and has played the history
  pub prepared : (link : ℕ) → Contains (links past) link → linked link past ≡ Rests → is_up link past ≡ true
  pub played : (link : ℕ) → Contains (links past) link → linked link past ≡ Rests → unplayed (cursor link past) (statements config past) ≡ None

-- A session that goes on has answered; one that is over has given up its links.
pub record IsAnswered (config : Config) (past : List Item) : Type 0 where
  pub going_on : is_over past ≡ false → HasAnswered config past
  pub ended : is_over past ≡ true → links past ≡ []
