-- Where the bytes that came on links are bytes, so are the payloads that are read of them.
use Rattle.std.proofs.Common.{◌≡◌, ℕ, zero, suc, ◌<◌, ◌≤◌, Bool, true, false, List, [], ◌∷◌, ◌++◌, length, take, drop, refl, sym, ◌∙◌, arith, Option, Some, None}
use Rattle.std.specs.Prelude.{◌==◌, if◌then◌else◌}
use Rattle.std.specs.List.{AllByRecursion}
use Rattle.std.proofs.lemmas.List.{length-drop, nil_from_length}
use Rattle.rws_wire.specs.Numbers.{AreBytes}
use Rattle.rws_wire.specs.Packets.{next_number}
use Rattle.rws_wire.specs.Payloads.{Beginning, first_payload, packet_of, payload_behind}
use Rattle.rws_wire.specs.Payloads.Beginning.{Nothing, Whole, Faulty}
use Rattle.rws_wire.specs.declared.packet.Packet.{Packet}
use Rattle.rws_wire.specs.declared.packet.Packet.TheVariants.{Partial, Bad, More, Last}
use Rattle.rws_wire.proofs.NumberLemmas.{AreBytes-drop, AreBytes-take}
use Rattle.rws_wire.proofs.PayloadLemmas.{behind_bad, behind_last, behind_more, behind_partial, first_payload-is, more_fits}
use Rattle.rws_reply.specs.Replies.{Payload}
use Rattle.rws_reply.specs.declared.kind.Progress.{Progress}
use Rattle.rws_reply.specs.declared.kind.Progress.TheVariants.{More as On, Whole as Ends}
use Rattle.rws_reply.specs.declared.role.Role.{Role}
use Rattle.rws_reply.specs.Tracking.{progress, role}
use Rattle.rws_link.specs.declared.handshake.Handshake.{Handshake}
use Rattle.rws_link.specs.declared.handshake.Reaction.{Reaction}
use Rattle.rws_link.specs.declared.handshake.Reaction.TheVariants.{Answers, Accepted, Loses}
use Rattle.rws_link.specs.Handshake.{due, reaction}
use Rattle.rws_link.specs.declared.step.LinkStep.{LinkStep}
use Rattle.rws_link.specs.declared.step.LinkStep.TheVariants as steps
use Rattle.rws_link.specs.Stepping.{LinkState, LogsIn, Rests, Awaits, IsLost, Exchange, behind_part, fed, is_new, logged_in, opened as opening, reacted, read_by, replied, replied_by, settled, step, with_part}
use Rattle.rws_config.specs.declared.config.Config.{Config}
use Rattle.rws_config.specs.declared.limits.TheConstants.{SERVER_PAYLOAD}
use Rattle.rws_record.specs.Item.{Item}
use Rattle.rws_record.specs.Item.Item.{Accepted, TurnsAway, Began, ClientBytes, LinkReady, LinkBytes, ClientGone, LinkLost, Ticks, Routed, Comes, Connects, Takes, Floods, Puts, Starves}
use Rattle.rws_record.specs.Item.Put.{Hands, Tells, Records, Routes, Opens, LogsInto, Sends, Forgets, Drops, Closes}
use Rattle.rws_record.specs.Values.{kind_of, link_held, linked, sent_all, sent_for, unread}
use Rattle.rws_laws.specs.Servers.{came_on, with_said}
use Rattle.rws_laws.specs.Causes.{AreCaused, IsRead}
use Rattle.rws_laws.specs.Laws.{HeardBytes}
use Rattle.rws_laws.proofs.CameLemmas.{by_sent}

-- Lists of bytes

none_fit : AreBytes []
none_fit = λ i. omega arith

one_more : (byte : ℕ) (bytes : List ℕ) → byte < 256 → AreBytes bytes → AreBytes (byte ∷ bytes)
one_more byte bytes small fit zero = small
one_more byte bytes small fit (suc i) = fit i

joined : (front back : List ℕ) → AreBytes front → AreBytes back → AreBytes (front ++ back)
joined [] back fit more = more
joined (byte ∷ front) back fit more = one_more byte (front ++ back) (fit 0) (joined front back (λ i. fit (suc i)) more)

all_and_one : (payloads : List Payload) (payload : Payload) → AllByRecursion AreBytes payloads → AreBytes payload
    → AllByRecursion AreBytes (payloads ++ payload ∷ [])
all_and_one [] payload all fit = (fit, tt)
all_and_one (first ∷ others) payload all fit = (all.0, all_and_one others payload all.1 fit)

-- A payload of bytes

module _ (limit : ℕ) (payload : Payload) (next : ℕ) (rest : List ℕ) where
  by_front : (bound number : ℕ) (before bytes : List ℕ) (p : Packet) → packet_of limit number (length before) bytes ≡ p
      → length bytes ≤ suc bound → AreBytes before → AreBytes bytes
      → ((number : ℕ) (before bytes : List ℕ) → length bytes ≤ bound → AreBytes before → AreBytes bytes
      → payload_behind limit number before bytes ≡ Whole payload next rest → AreBytes payload × AreBytes rest)
      → payload_behind limit number before bytes ≡ Whole payload next rest → AreBytes payload × AreBytes rest
  by_front bound number before bytes Partial is short fit more below e =
      let none = behind_partial limit number before bytes is in absurd cc
  by_front bound number before bytes (Bad fault) is short fit more below e =
      let bad = behind_bad limit number before bytes fault is in absurd cc
  by_front bound number before bytes (Last size) is short fit more below e =
      let last = behind_last limit number before bytes size is in
      let same : Whole (before ++ take size (drop 4 bytes)) (next_number number) (drop size (drop 4 bytes)) ≡ Whole payload next rest = sym last ∙ e in
      let payload_is : before ++ take size (drop 4 bytes) ≡ payload = cc in
      let rest_is : drop size (drop 4 bytes) ≡ rest = cc in (
        rw (← payload_is) (joined before (take size (drop 4 bytes)) fit (AreBytes-take size (drop 4 bytes) (AreBytes-drop 4 bytes more))),
        rw (← rest_is) (AreBytes-drop size (drop 4 bytes) (AreBytes-drop 4 bytes more)),
      )
  by_front bound number before bytes (More size) is short fit more below e =
      let on = behind_more limit number before bytes size is in
      let long = more_fits limit number (length before) bytes size is in
      let left : length (drop size (drop 4 bytes)) ≤ bound = omega (arith, length-drop size (drop 4 bytes), length-drop 4 bytes) in
      below (next_number number) (before ++ take size (drop 4 bytes)) (drop size (drop 4 bytes)) left
      (joined before (take size (drop 4 bytes)) fit (AreBytes-take size (drop 4 bytes) (AreBytes-drop 4 bytes more)))
      (AreBytes-drop size (drop 4 bytes) (AreBytes-drop 4 bytes more)) (sym on ∙ e)

  fits_behind : (bound number : ℕ) (before bytes : List ℕ) → length bytes ≤ bound → AreBytes before → AreBytes bytes
      → payload_behind limit number before bytes ≡ Whole payload next rest → AreBytes payload × AreBytes rest
  fits_behind zero number before bytes short fit more e =
      let empty : bytes ≡ [] = nil_from_length bytes (omega arith) in
      let none = behind_partial limit number before [] refl in
      let e : payload_behind limit number before [] ≡ Whole payload next rest = rw empty at e in absurd cc
  fits_behind (suc bound) number before bytes short fit more e =
      by_front bound number before bytes (packet_of limit number (length before) bytes) refl short fit more (fits_behind bound) e

  fits : (number : ℕ) (bytes : List ℕ) → AreBytes bytes → first_payload limit number bytes ≡ Whole payload next rest
      → AreBytes payload × AreBytes rest
  fits number bytes fit e =
      fits_behind (length bytes) number [] bytes (omega arith) none_fit fit (sym (first_payload-is limit number bytes) ∙ e)

-- What a link holds

fed_fits : (bytes : List ℕ) (link : LinkState) → AreBytes bytes → AreBytes (unread link) → AreBytes (unread (fed bytes link))
fed_fits bytes (LogsIn handshake held) fit below = joined held bytes below fit
fed_fits [] Rests fit below = none_fit
fed_fits (byte ∷ bytes) Rests fit below = none_fit
fed_fits bytes (Awaits e held) fit below = joined held bytes below fit
fed_fits bytes (IsLost cause) fit below = none_fit

settled_fits : (rest : List ℕ) → AreBytes (unread (settled rest))
settled_fits [] = none_fit
settled_fits (byte ∷ rest) = none_fit

part_fits : (e : Exchange) (rest : List ℕ) (far : Progress) → AreBytes rest → AreBytes (unread (behind_part e rest far))
part_fits e rest On fit = fit
part_fits e rest (Ends outcome) fit = settled_fits rest

replied_fits : (e : Exchange) (payload rest : List ℕ) (number : ℕ) (its : Option Role) (far : Option Progress) → AreBytes rest
    → AreBytes (unread (replied_by e payload number rest its far).after)
replied_fits e payload rest number (Some its) (Some far) fit = part_fits (with_part payload number e) rest far fit
replied_fits e payload rest number (Some its) None fit = none_fit
replied_fits e payload rest number None (Some far) fit = none_fit
replied_fits e payload rest number None None fit = none_fit

read_fits : (e : Exchange) (bytes : List ℕ) (found : Beginning) → AreBytes bytes → first_payload SERVER_PAYLOAD e.next bytes ≡ found
    → AreBytes (unread (read_by (Awaits e bytes) (replied e) found).after)
read_fits e bytes Nothing fit f = fit
read_fits e bytes (Faulty fault) fit f = none_fit
read_fits e bytes (Whole payload next rest) fit f =
    replied_fits e payload rest next (role e.kind e.sofar payload) (progress e.kind e.sofar payload)
    (fits SERVER_PAYLOAD payload next rest e.next bytes fit f).1

entered_fits : (rest : List ℕ) → AreBytes (unread (logged_in rest).after)
entered_fits [] = none_fit
entered_fits (byte ∷ rest) = none_fit

reacted_fits : (rest : List ℕ) (its : Reaction) → AreBytes rest → AreBytes (unread (reacted rest its).after)
reacted_fits rest (Answers packets stage1 next) fit = fit
reacted_fits rest Accepted fit = entered_fits rest
reacted_fits rest (Loses cause) fit = none_fit

greeted_fits : (handshake : Handshake) (bytes : List ℕ) (found : Beginning) → AreBytes bytes
    → first_payload SERVER_PAYLOAD (due handshake) bytes ≡ found
    → AreBytes (unread (read_by (LogsIn handshake bytes) (λ payload next rest. reacted rest (reaction handshake payload next)) found).after)
greeted_fits handshake bytes Nothing fit f = fit
greeted_fits handshake bytes (Faulty fault) fit f = none_fit
greeted_fits handshake bytes (Whole payload next rest) fit f =
    reacted_fits rest (reaction handshake payload next) (fits SERVER_PAYLOAD payload next rest (due handshake) bytes fit f).1

step_fits : (link : LinkState) → AreBytes (unread link) → AreBytes (unread (step link).after)
step_fits (LogsIn handshake bytes) fit = greeted_fits handshake bytes (first_payload SERVER_PAYLOAD (due handshake) bytes) fit refl
step_fits Rests fit = none_fit
step_fits (Awaits e bytes) fit = read_fits e bytes (first_payload SERVER_PAYLOAD e.next bytes) fit refl
step_fits (IsLost cause) fit = none_fit

-- a link that an item may change
one_fits : (test : Bool) (changed link : LinkState) → AreBytes (unread changed) → AreBytes (unread link)
    → AreBytes (unread (if test then changed else link))
one_fits true changed link c l = c
one_fits false changed link c l = l

held_fits : (link : ℕ) (past : List Item) → HeardBytes past → AreBytes (link_held link past)
held_fits link [] heard = none_fit
held_fits link (LinkBytes from bytes ∷ past) heard =
    let below = held_fits link past heard.1 in one_fits (from == link) _ _ (fed_fits bytes (linked link past) heard.0 below) below
held_fits link (Comes from said ∷ past) heard =
    let below = held_fits link past heard in
    one_fits (from == link) _ _ (step_fits (linked link past) below) below
held_fits link (Began first server reading ∷ past) heard = one_fits (first == link) Rests _ none_fit (held_fits link past heard)
held_fits link (Puts (Sends to purpose) ∷ past) heard =
    one_fits (to == link) (sent_all (sent_for purpose) (kind_of purpose)) _
    (by_sent (λ (state : LinkState). AreBytes (unread state)) none_fit (λ e. none_fit) (sent_for purpose) (kind_of purpose)) (held_fits link past heard)
held_fits link (LinkReady ready ∷ past) heard =
    let below = held_fits link past heard in
    one_fits (ready == link) _ _ (one_fits (is_new (linked link past)) Rests _ none_fit below) below
held_fits link (Puts (Opens opened server login) ∷ past) heard =
    one_fits (opened == link) (opening login) _ none_fit (held_fits link past heard)
held_fits link (Accepted session scramble reading ∷ past) heard = held_fits link past heard
held_fits link (TurnsAway told ∷ past) heard = held_fits link past heard
held_fits link (Routed words loads next found ∷ past) heard = held_fits link past heard
held_fits link (Connects said ∷ past) heard = held_fits link past heard
held_fits link (Puts (Hands packets) ∷ past) heard = held_fits link past heard
held_fits link (Puts (Records server gtid) ∷ past) heard = held_fits link past heard
held_fits link (Puts Routes ∷ past) heard = held_fits link past heard
held_fits link (Puts (Forgets to id) ∷ past) heard = held_fits link past heard
held_fits link (Puts (LogsInto to packets) ∷ past) heard = held_fits link past heard
held_fits link (ClientBytes bytes ∷ past) heard = held_fits link past heard
held_fits link (ClientGone ∷ past) heard = held_fits link past heard
held_fits link (LinkLost gone ∷ past) heard = held_fits link past heard
held_fits link (Ticks reading ∷ past) heard = held_fits link past heard
held_fits link (Takes it number ∷ past) heard = held_fits link past heard
held_fits link (Floods bytes ∷ past) heard = held_fits link past heard
held_fits link (Starves made number ∷ past) heard = held_fits link past heard
held_fits link (Puts (Tells number tell) ∷ past) heard = held_fits link past heard
held_fits link (Puts (Drops gone cause) ∷ past) heard = held_fits link past heard
held_fits link (Puts (Closes reason) ∷ past) heard = held_fits link past heard

-- What came of a reply

pub came_fits : (config : Config) (link : ℕ) (past : List Item) → AreCaused config past → HeardBytes past
    → AllByRecursion AreBytes (came_on link past)
came_fits config link [] caused heard = tt
came_fits config link (Puts (Sends to purpose) ∷ past) caused heard = by_test (to == link) (came_fits config link past caused.1 heard)
  where
    by_test : (test : Bool) → AllByRecursion AreBytes (came_on link past)
        → AllByRecursion AreBytes (if test then [] else came_on link past)
    by_test true below = tt
    by_test false below = below
came_fits config link (Comes from said ∷ past) caused heard =
    by_test (from == link) said caused.1 (came_fits config link past caused.2 heard)
  where
    by_said : (said : LinkStep) → IsRead config (Comes from said) past → AllByRecursion AreBytes (came_on link past)
        → AllByRecursion AreBytes (with_said said (came_on link past))
    by_said (steps.Part payload its far next more) read below =
        all_and_one (came_on link past) payload below
        (fits SERVER_PAYLOAD payload next read.1 read.0.next (link_held from past) (held_fits from past heard) read.4).0
    by_said (steps.Lost cause) read below = below
    by_said (steps.Send bytes) read below = below
    by_said steps.LoggedIn read below = below
    by_said steps.Idle read below = below

    by_test : (test : Bool) (said : LinkStep) → IsRead config (Comes from said) past → AllByRecursion AreBytes (came_on link past)
        → AllByRecursion AreBytes (if test then with_said said (came_on link past) else came_on link past)
    by_test true said read below = by_said said read below
    by_test false said read below = below
came_fits config link (Accepted session scramble reading ∷ past) caused heard = came_fits config link past caused.2 heard
came_fits config link (TurnsAway told ∷ past) caused heard = came_fits config link past caused.2 heard
came_fits config link (LinkReady ready ∷ past) caused heard = came_fits config link past caused.2 heard
came_fits config link (Routed words loads next found ∷ past) caused heard = came_fits config link past caused.2 heard
came_fits config link (Connects said ∷ past) caused heard = came_fits config link past caused.2 heard
came_fits config link (Puts (Hands packets) ∷ past) caused heard = came_fits config link past caused.1 heard
came_fits config link (Puts (Records server gtid) ∷ past) caused heard = came_fits config link past caused.1 heard
came_fits config link (Puts Routes ∷ past) caused heard = came_fits config link past caused.1 heard
came_fits config link (Puts (Opens opened server login) ∷ past) caused heard = came_fits config link past caused.1 heard
came_fits config link (Puts (Forgets to id) ∷ past) caused heard = came_fits config link past caused.1 heard
came_fits config link (Puts (LogsInto to packets) ∷ past) caused heard = came_fits config link past caused.1 heard
came_fits config link (Began first server reading ∷ past) caused heard = came_fits config link past caused.2 heard
came_fits config link (ClientBytes bytes ∷ past) caused heard = came_fits config link past caused.2 heard
came_fits config link (LinkBytes from bytes ∷ past) caused heard = came_fits config link past caused.2 heard.1
came_fits config link (ClientGone ∷ past) caused heard = came_fits config link past caused.2 heard
came_fits config link (LinkLost gone ∷ past) caused heard = came_fits config link past caused.2 heard
came_fits config link (Ticks reading ∷ past) caused heard = came_fits config link past caused.2 heard
came_fits config link (Takes it number ∷ past) caused heard = came_fits config link past caused.2 heard
came_fits config link (Floods bytes ∷ past) caused heard = came_fits config link past caused.2 heard
came_fits config link (Starves made number ∷ past) caused heard = came_fits config link past caused.3 heard
came_fits config link (Puts (Tells number tell) ∷ past) caused heard = came_fits config link past caused.1 heard
came_fits config link (Puts (Drops gone cause) ∷ past) caused heard = came_fits config link past caused.1 heard
came_fits config link (Puts (Closes reason) ∷ past) caused heard = came_fits config link past caused.1 heard
