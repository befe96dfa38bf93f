-- A step of a legal record keeps what is known of the pending command: that it came of the client, where it was sent, what
-- was told of its reply, and what is awaited.
use Rattle.std.proofs.Common.{◌≡◌, ℕ, Bool, true, false, List, [], ◌∷◌, ◌++◌, map, drop, refl, sym, ap, subst, ◌∙◌, Option, Some, None}
use Rattle.std.specs.Prelude.{◌≢◌, ◌==◌, if◌then◌else◌}
use Rattle.std.proofs.lemmas.Bool.{eqb-true}
use Rattle.rws_wire.specs.declared.close_reason.CloseReason.{CloseReason}
use Rattle.rws_wire.specs.Packets.{number_behind}
use Rattle.rws_wire.specs.declared.drop_cause.DropCause.{DropCause}
use Rattle.rws_wire.specs.declared.drop_cause.DropCause.TheVariants.{End, Kept}
use Rattle.rws_reply.specs.Replies.{Payload}
use Rattle.rws_gtid.specs.declared.Gtid.{Gtid}
use Rattle.rws_native.specs.declared.login.Login.{Login}
use Rattle.rws_route.specs.declared.destination.Target.{Target}
use Rattle.rws_route.specs.declared.destination.Target.TheVariants.{Primary, Replica, NoPrimary as Nowhere}
use Rattle.rws_routing.specs.declared.routing.Routing.{Routing}
use Rattle.rws_routing.specs.Routings.{is_at, lost, tried_by}
use Rattle.rws_config.specs.declared.config.Config.{Config}
use Rattle.rws_commands.specs.declared.command.Command.{Command}
use Rattle.rws_link.specs.Stepping.{Exchange}
use Rattle.rws_record.specs.Item.{Item, Purpose, Put}
use Rattle.rws_record.specs.Item.Item.{Puts}
use Rattle.rws_record.specs.Item.Recording.{Nothing}
use Rattle.rws_record.specs.Item.Tell.{Passes, Owns, Refuses}
use Rattle.rws_record.specs.Item.Put.{Hands, Tells, Records, Routes, Opens, LogsInto, Sends, Forgets, Drops, Closes}
use Rattle.rws_record.specs.Values.{contains, or_link, pending, reply_number, told, unless_link, without}
use Rattle.rws_record.specs.Rules.{Loss, after_keeping, after_loss_by, after_route, is_loss, loss_of, after_loss, opening, owed, recording_commit, refusing, ending}
use Rattle.rws_record.proofs.WithoutLemmas.{without_has_less}
use Rattle.rws_record.specs.Rules.Loss.{CutsReply, HidesOutcome, TakesState, EndsTransaction, StartsReplay, SendsElsewhere, IsForgotten}
use Rattle.rws_laws.specs.Causes.{number_behind_all}
use Rattle.rws_laws.specs.Client.Asked.{before}
use Rattle.rws_laws.proofs.ListLemmas.{other_stays, stays_other}
use Rattle.rws_laws.proofs.Sound.{SentBy, ToldBy, Asking, passed, WaitsBy, WaitsOn, same_some}
use Rattle.rws_laws.proofs.Sound.WaitsOn.{prepares, repeats, checks, replies}
use Rattle.rws_laws.proofs.Sound.ToldBy.{none_told, a_part, all}

-- Numbers of a reply

pub numbers_on : (payloads : List Payload) (payload : Payload) (number : ℕ)
    → number_behind_all (payloads ++ payload ∷ []) number ≡ number_behind (number_behind_all payloads number) payload
numbers_on [] payload number = refl
numbers_on (first ∷ others) payload number = numbers_on others payload (number_behind number first)

-- an item that changes nothing of it
pub still_asked : {config : Config} {past : List Item} {item : Item} → pending (item ∷ past) ≡ pending past
    → reply_number (item ∷ past) ≡ reply_number past → told (item ∷ past) ≡ told past → Asking config past
    → Asking config (item ∷ past)
still_asked p r t asks = λ command is.
    let now = asks command (sym p ∙ is) in
    record { asked = before now.asked; counts = r ∙ now.counts ∙ ap (λ (list : List Payload). number_behind_all list command.number) (sym t) }

-- a payload that was told goes on with it
pub asks_on : {config : Config} {past : List Item} (number link : ℕ) (command : Command) (payload : Payload)
    → pending past ≡ Some command → number ≡ number_behind_all (told past) command.number → Asking config past
    → Asking config (Puts (Tells number (Passes link command payload None Nothing)) ∷ past)
asks_on {past = past} number link command payload p n asks = λ its is.
    let now = asks its is in
    let same : command ≡ its = same_some command its (sym p ∙ is) in
    record {
      asked = before now.asked;
      counts = ap (λ (k : ℕ). number_behind k payload) (n ∙ ap (λ (c : Command). number_behind_all (told past) c.number) same)
          ∙ sym (numbers_on (told past) payload its.number);
    }

-- What is told

not_nothing : (list : List Payload) (payload : Payload) → (list ++ payload ∷ []) ≢ []
not_nothing [] payload e = absurd cc
not_nothing (first ∷ others) payload e = absurd cc

pub told_part : (list : List Payload) (payload : Payload) (link : ℕ) (pending : Option Command) (sent : Option ℕ) → sent ≡ Some link
    → ToldBy (list ++ payload ∷ []) (Some link) sent pending
told_part list payload link pending sent s =
    subst (λ (on : Option ℕ). ToldBy (list ++ payload ∷ []) (Some link) on pending) (sym s) (a_part (not_nothing list payload))

-- where the pending command wasn't sent, nothing was told
pub unsent_told : {list : List Payload} {from sent : Option ℕ} {pending : Option Command} (command : Command) → sent ≡ None
    → pending ≡ Some command → ToldBy list from sent pending → (list ≡ []) × (from ≡ None)
unsent_told command s p none_told = (refl, refl)
unsent_told command s p (a_part some) = absurd cc
unsent_told command s p all = absurd cc

pub told_sent : (list : List Payload) (from sent : Option ℕ) (pending : Option Command) → (list ≡ []) × (from ≡ None)
    → ToldBy list from sent pending
told_sent list from sent pending none = rw (none.0, none.1) none_told

-- Where it was sent

pub sent_there : (up : ℕ → Bool) (command : Command) (pending : Option Command) (link : ℕ) (goes : Option ℕ) (links : List ℕ)
    → pending ≡ Some command → goes ≡ Some link → up link ≡ true → contains link links ≡ true → SentBy pending (Some link) goes up links
sent_there up command pending link goes links p g u h = λ other e.
    let same = same_some link other e in (
      command,
      p,
      g ∙ e,
      subst (λ (l : ℕ). up l ≡ true) same u,
      subst (λ (l : ℕ). contains l links ≡ true) same h,
    )

-- A link is lost

pub unless_other : (gone link : ℕ) (sent : Option ℕ) → sent ≡ Some link → (link == gone) ≡ false → unless_link gone sent ≡ Some link
unless_other gone link sent s n = rw s (rw n refl)

pub unless_before : (gone link : ℕ) (sent : Option ℕ) → unless_link gone sent ≡ Some link → (sent ≡ Some link) × ((link == gone) ≡ false)
unless_before gone link None s = absurd cc
unless_before gone link (Some other) s = by_test (other == gone) refl s
  where
    by_test : (test : Bool) → (other == gone) ≡ test → (if test then None else Some other) ≡ Some link
        → (Some other ≡ Some link) × ((link == gone) ≡ false)
    by_test true t s = absurd cc
    by_test false t s =
        let same : other ≡ link = same_some other link s in (s, subst (λ (l : ℕ). (l == gone) ≡ false) same t)

lost_keeps : (test : Bool) (cleared r : Routing) → test ≡ false → (if test then cleared else r).assigned ≡ r.assigned
lost_keeps true cleared r t = absurd cc
lost_keeps false cleared r t = refl

-- a command that was sent elsewhere goes on there
pub goes_without : (kept : Option ℕ) (r : Routing) (gone link : ℕ) → or_link kept r.assigned ≡ Some link → (link == gone) ≡ false
    → or_link kept (lost gone r).assigned ≡ Some link
goes_without (Some other) r gone link g n = g
goes_without None r gone link g n =
    lost_keeps (is_at gone r.assigned) (record r { assigned = None; tried = tried_by r.target r.tried }) r (ap (is_at gone) g ∙ n) ∙ g

pub without_sent : {pending : Option Command} {up : ℕ → Bool} (links : List ℕ) (sent kept : Option ℕ) (r : Routing) (gone : ℕ)
    → SentBy pending sent (or_link kept r.assigned) up links
    → SentBy pending (unless_link gone sent) (or_link kept (lost gone r).assigned) up (without gone links)
without_sent links sent kept r gone its = λ link s.
    let before = unless_before gone link sent s in
    let there = its link before.0 in
    (there.0, there.1, goes_without kept r gone link there.2 before.1, there.3, other_stays gone link links before.1 there.4)

-- what was told is kept, where no reply is cut
pub told_without : {list : List Payload} {from sent : Option ℕ} {pending : Option Command} (gone : ℕ) → from ≢ Some gone
    → ToldBy list from sent pending → ToldBy list from (unless_link gone sent) pending
told_without gone n none_told = none_told
told_without gone n (a_part {told = list} {link = link} {pending = pending} some) = by_test (link == gone) refl
  where
    by_test : (test : Bool) → (link == gone) ≡ test → ToldBy list (Some link) (if test then None else Some link) pending
    by_test true t = absurd (n (ap Some (eqb-true link gone t)))
    by_test false t = a_part some
told_without gone n all = all

-- What is awaited

-- what is owed passes the same payloads
pub passes_same : {link : ℕ} {e : Exchange} {asked : Option Purpose} {up : Bool} {pending : Option Command} {sent : Option ℕ} {handle : ℕ} {told : List Payload}
    (owing now : List Put) → passed owing ≡ passed now → WaitsOn link e asked up pending sent handle told owing
    → WaitsOn link e asked up pending sent handle told now
passes_same owing now same (prepares a u) = prepares a u
passes_same owing now same (repeats a) = repeats a
passes_same owing now same (checks a) = checks a
passes_same {told = list} owing now same (replies awaited) = replies (record {
  command = awaited.command;
  id = awaited.id;
  asked_it = awaited.asked_it;
  kind = awaited.kind;
  in_form = awaited.in_form ∙ ap (λ (more : List Payload). list ++ more) same;
  waits = awaited.waits;
  sent_there = awaited.sent_there;
})

pub owes_same : {exchange : ℕ → Option Exchange} {asked : ℕ → Option Purpose} {up : ℕ → Bool} {pending : Option Command} {sent : Option ℕ} {handle : ℕ} {told : List Payload}
    (links : List ℕ) (owing now : List Put) → passed owing ≡ passed now
    → WaitsBy links exchange asked up pending sent handle told owing → WaitsBy links exchange asked up pending sent handle told now
owes_same {told = list} links owing now same waits = λ link e has a. passes_same owing now same (waits link e has a)

-- on the links that are left when one is lost
still_there : {link : ℕ} {e : Exchange} {asked : Option Purpose} {up : Bool} {pending : Option Command} {sent : Option ℕ} {handle : ℕ} {told : List Payload}
    (gone : ℕ) (owing now : List Put) → passed owing ≡ passed now → (link == gone) ≡ false → WaitsOn link e asked up pending sent handle told owing
    → WaitsOn link e asked up pending (unless_link gone sent) handle told now
still_there gone owing now same n (prepares a u) = prepares a u
still_there gone owing now same n (repeats a) = repeats a
still_there gone owing now same n (checks a) = checks a
still_there {link = link} {sent = sent} {told = list} gone owing now same n (replies awaited) = replies (record {
  command = awaited.command;
  id = awaited.id;
  asked_it = awaited.asked_it;
  kind = awaited.kind;
  in_form = awaited.in_form ∙ ap (λ (more : List Payload). list ++ more) same;
  waits = awaited.waits;
  sent_there = unless_other gone link sent awaited.sent_there n;
})

pub without_waits : {exchange : ℕ → Option Exchange} {asked : ℕ → Option Purpose} {up : ℕ → Bool} {pending : Option Command} {sent : Option ℕ} {handle : ℕ} {told : List Payload}
    (links : List ℕ) (gone : ℕ) (owing now : List Put) → passed owing ≡ passed now → WaitsBy links exchange asked up pending sent handle told owing
    → WaitsBy (without gone links) exchange asked up pending (unless_link gone sent) handle told now
without_waits links gone owing now same waits = λ link e has a.
    still_there gone owing now same (stays_other gone link links has) (waits link e (without_has_less gone link links has) a)

passed_both : (first others : List Put) → passed (first ++ others) ≡ passed first ++ passed others
passed_both [] others = refl
passed_both (Tells number (Passes link command payload outcome recording) ∷ rest) others = ap (λ (l : List Payload). payload ∷ l) (passed_both rest others)
passed_both (Tells number (Owns status) ∷ rest) others = passed_both rest others
passed_both (Tells number (Refuses error) ∷ rest) others = passed_both rest others
passed_both (Hands packets ∷ rest) others = passed_both rest others
passed_both (Records server gtid ∷ rest) others = passed_both rest others
passed_both (Routes ∷ rest) others = passed_both rest others
passed_both (Opens link server login ∷ rest) others = passed_both rest others
passed_both (Forgets link id ∷ rest) others = passed_both rest others
passed_both (LogsInto link packets ∷ rest) others = passed_both rest others
passed_both (Sends link purpose ∷ rest) others = passed_both rest others
passed_both (Drops link cause ∷ rest) others = passed_both rest others
passed_both (Closes reason ∷ rest) others = passed_both rest others

-- what a loss brings passes nothing
loss_passes : (loss : Loss) (ends : CloseReason) → passed (after_loss_by loss ends) ≡ []
loss_passes CutsReply ends = refl
loss_passes HidesOutcome ends = refl
loss_passes TakesState ends = refl
loss_passes EndsTransaction ends = refl
loss_passes StartsReplay ends = refl
loss_passes SendsElsewhere ends = refl
loss_passes IsForgotten ends = refl

pub lost_passes : (config : Config) (link : ℕ) (past : List Item) → passed (after_loss config link past) ≡ []
lost_passes config link past = loss_passes (loss_of config link past) (ending config past)

lossy_passes : (lossy : Bool) (list others : List Put) → passed list ≡ [] → passed ((if lossy then list else []) ++ others) ≡ passed others
lossy_passes true list others none = passed_both list others ∙ ap (λ (l : List Payload). l ++ passed others) none
lossy_passes false list others none = refl

-- what follows a link that is given up passes nothing
pub drop_passes : (config : Config) (link : ℕ) (cause : DropCause) (past : List Item)
    → passed (owed config (Puts (Drops link cause) ∷ past)) ≡ passed (drop 1 (owed config past))
drop_passes config link cause past =
    lossy_passes (is_loss cause) (after_loss config link past) (drop 1 (owed config past)) (lost_passes config link past)

-- nor does the commit that stands in front
pub recording_passes : (server : ℕ) (commit : Option Gtid) (list : List Put) → passed (recording_commit server commit ++ list) ≡ passed list
recording_passes server None list = refl
recording_passes server (Some gtid) list = refl

others_pass : (list : List ℕ) → passed (map (λ link. Drops link Kept) list) ≡ []
others_pass [] = refl
others_pass (link ∷ others) = others_pass others

-- and what follows a command that was sent
pub keeping_passes : (keeping : Bool) (link : ℕ) (kept : Option ℕ) (list : List ℕ) → passed (after_keeping keeping link kept list) ≡ []
keeping_passes true link None list = others_pass (without link list)
keeping_passes true link (Some kept) list = refl
keeping_passes false link kept list = refl

-- and the worker's answer
opening_passes : (link : Option ℕ) (next server : ℕ) (login : Option Login) → passed (opening link next server login) ≡ []
opening_passes None next server (Some login) = refl
opening_passes None next server None = refl
opening_passes (Some link) next server login = refl

refusing_passes : (late : Bool) (number : ℕ) → passed (refusing late number) ≡ []
refusing_passes true number = refl
refusing_passes false number = refl

pub route_passes : (found : Target) (link : Option ℕ) (next : ℕ) (login : Option Login) (late : Bool) (number : ℕ)
    → passed (after_route found link next login late number) ≡ []
route_passes Nowhere link next login late number = refusing_passes late number
route_passes (Primary server) link next login late number = opening_passes link next server login
route_passes (Replica server) link next login late number = opening_passes link next server login

pub farewells_pass : (list : List ℕ) → passed (map (λ link. Drops link End) list) ≡ []
farewells_pass [] = refl
farewells_pass (link ∷ others) = farewells_pass others

-- only the preamble's reply, or that to an entry of the history, was awaited, since nothing is pending
pub none_waits : {link : ℕ} {e : Exchange} {asked : Option Purpose} {up : Bool} {pending : Option Command} {sent : Option ℕ} {handle : ℕ} {told : List Payload}
    {owed : List Put} (now : Option Command) (where_now : Option ℕ) (at : ℕ) (list : List Payload) (owes : List Put)
    → pending ≡ None → WaitsOn link e asked up pending sent handle told owed → WaitsOn link e asked up now where_now at list owes
none_waits now where_now at list owes p (prepares a u) = prepares a u
none_waits now where_now at list owes p (repeats a) = repeats a
none_waits now where_now at list owes p (checks a) = checks a
none_waits now where_now at list owes p (replies awaited) = let w = awaited.waits in absurd cc

pub waits_none : {exchange : ℕ → Option Exchange} {asked : ℕ → Option Purpose} {up : ℕ → Bool} {pending : Option Command} {sent : Option ℕ} {handle : ℕ} {told : List Payload}
    {owed : List Put} (links : List ℕ) (now : Option Command) (where_now : Option ℕ) (at : ℕ) (list : List Payload) (owes : List Put)
    → pending ≡ None → WaitsBy links exchange asked up pending sent handle told owed → WaitsBy links exchange asked up now where_now at list owes
waits_none links now where_now at list owes p waits = λ link e has a. none_waits now where_now at list owes p (waits link e has a)

-- and since nothing was sent
pub unsent_waits : {link : ℕ} {e : Exchange} {asked : Option Purpose} {up : Bool} {pending : Option Command} {sent : Option ℕ} {handle : ℕ} {told : List Payload}
    {owed : List Put} (now : Option Command) (where_now : Option ℕ) (at : ℕ) (list : List Payload) (owes : List Put)
    → sent ≡ None → WaitsOn link e asked up pending sent handle told owed → WaitsOn link e asked up now where_now at list owes
unsent_waits now where_now at list owes s (prepares a u) = prepares a u
unsent_waits now where_now at list owes s (repeats a) = repeats a
unsent_waits now where_now at list owes s (checks a) = checks a
unsent_waits now where_now at list owes s (replies awaited) = let there = awaited.sent_there in absurd cc
