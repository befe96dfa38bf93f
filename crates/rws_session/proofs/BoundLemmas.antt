-- A session that stands for a record that rests holds few bytes.
use Rattle.std.proofs.Common.{◌≡◌, ℕ, Bool, ◌+◌, ◌<◌, ◌≤◌, true, false, List, length, refl, sym, ap, ◌∙◌, arith, Option, Some, None, Result, Ok, Err, IfOk}
use Rattle.std.specs.Prelude.{Contains}
use Rattle.rws_wire.specs.Packets.{full_packet, spelled_length}
use Rattle.rws_wire.proofs.LengthLemmas.{unread_is_bounded}
use Rattle.rws_link.specs.Handshake.{due}
use Rattle.rws_link.specs.Stepping.{LinkState, Exchange}
use Rattle.rws_config.specs.declared.config.Config.{Config}
use Rattle.rws_config.specs.declared.limits.TheConstants.{FLOOD_ROOM, SERVER_PAYLOAD}
use Rattle.rws_config.specs.Allowed.{IsAllowed}
use Rattle.rws_commands.specs.declared.command.Command.{Command}
use Rattle.rws_record.specs.Item.{Item}
use Rattle.rws_record.specs.Values.{exchange, fronted, held, is_over, link_held, linked, links, pending, unread}
use Rattle.rws_record.proofs.RestLemmas.{Idles, Rested, rested}
use Rattle.rws_record.proofs.RestLemmas.Idles.{at_rest, at_login}
use Rattle.rws_links.proofs.HoldLemmas.{links_few}
use Rattle.rws_session.specs.State.{State}
use Rattle.rws_session.specs.Kept.{Kept, Stands}
use Rattle.rws_session.specs.Steps.{Hears, Rests}
use Rattle.rws_session.specs.Bounds.{IsBounded}
use Rattle.rws_session.proofs.FrontLemmas.{idle_few, limit_is}

-- the headers of an allowed command fit beside it
headers_fit : (bytes : ℕ) → bytes ≤ 67108864 → spelled_length bytes ≤ bytes + FLOOD_ROOM
unfolding full_packet
headers_fit bytes small = omega arith

some_length : (bytes : ℕ) → 0 < spelled_length bytes
some_length bytes = omega arith

module _ (config : Config) (past : List Item) (now : Rested config past) where
  client_few : IsAllowed config → length (held config past) ≤ config.command_bytes + FLOOD_ROOM
  client_few allowed = by_pending (pending past) refl
    where
      by_pending : (command : Option Command) → pending past ≡ command → length (held config past) ≤ config.command_bytes + FLOOD_ROOM
      by_pending (Some command) p = now.room command p
      by_pending None p =
          let few = idle_few config.accounts (fronted config past) (now.client p) in
          let limit : (fronted config past).stream.limit ≡ config.command_bytes = limit_is config past in
          let few : length (held config past) < spelled_length config.command_bytes = rw limit at few in
          let fit = headers_fit config.command_bytes allowed.command_bytes.1 in omega arith

  link_few : (link : ℕ) → Contains (links past) link → length (link_held link past) < spelled_length SERVER_PAYLOAD
  link_few link has = by_exchange (exchange link past) refl
    where
      idles_few : (state : LinkState) → Idles state → length (unread state) < spelled_length SERVER_PAYLOAD
      idles_few state (at_rest is) = rw is (some_length SERVER_PAYLOAD)
      idles_few state (at_login {handshake = handshake} {bytes = bytes} is f) =
          rw is (unread_is_bounded SERVER_PAYLOAD (due handshake) bytes f)

      by_exchange : (e : Option Exchange) → exchange link past ≡ e → length (link_held link past) < spelled_length SERVER_PAYLOAD
      by_exchange (Some e) a = unread_is_bounded SERVER_PAYLOAD e.next (link_held link past) (now.reply link e has a)
      by_exchange None a =
          idles_few (linked link past) (now.asked link has a)

pub bounded : (config : Config) (past : List Item) (k : Kept) → IsAllowed config → Stands config k past → IsBounded config k
bounded config past k allowed stands = λ goes_on.
    let over : is_over past ≡ false = sym (ap (λ (s : State). s.over) stands.is.mirrors) ∙ goes_on in
    let now = rested config past stands.rests stands.unasking over in
    record {
      client = rw stands.is.mirrors (client_few config past now allowed);
      links = rw stands.is.mirrors (links_few past (links past) (link_few config past now));
    }

-- a session that started, and asks for nothing
pub started_bounded : {E : Type 0} (config : Config) (past : List Item) (old new : Kept) (result : Result Bool E) → IsAllowed config
    → IfOk result (λ asks. Rests config past old new asks) → IfOk result (λ asks. asks ≡ false → IsBounded config new)
started_bounded config past old new (Err e) allowed rests = tt
started_bounded config past old new (Ok true) allowed rests = λ e. absurd cc
started_bounded config past old new (Ok false) allowed rests = λ e. bounded config rests.goes.reached new allowed rests.stands

-- where none was heard
pub unheard_bounded : (config : Config) (past : List Item) (found : Option Item) (old new : Kept) → IsAllowed config
    → Stands config old past → Hears config found past false old new → IsBounded config new
unheard_bounded config past (Some item) old new allowed stands hears = absurd hears
unheard_bounded config past None old new allowed stands hears = rw hears (bounded config past old allowed stands)
