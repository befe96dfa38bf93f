-- What a legal record keeps true at each of its places, so that all that is given out has its cause.
use Rattle.std.proofs.Common.{◌≡◌, ℕ, Bool, true, false, List, [], ◌∷◌, ◌++◌, ap, Option, Some, None}
use Rattle.std.specs.Prelude.{◌≢◌, ◌==◌}
use Rattle.std.proofs.lemmas.Bool.{eqb-true, eq-eqb}
use Rattle.rws_wire.specs.declared.close_reason.CloseReason.{CloseReason}
use Rattle.rws_wire.specs.declared.drop_cause.DropCause.{DropCause}
use Rattle.rws_gtid.specs.declared.Gtid.{Gtid}
use Rattle.rws_routing.specs.declared.routing.Check.{Check}
use Rattle.rws_native.specs.declared.login.Login.{Login}
use Rattle.rws_reply.specs.Replies.{Payload}
use Rattle.rws_reply.specs.ClientForm.{client_reply}
use Rattle.rws_config.specs.declared.config.Config.{Config}
use Rattle.rws_commands.specs.declared.command.Command.{Command}
use Rattle.rws_commands.specs.declared.history.HistoryEntry.{HistoryEntry}
use Rattle.rws_commands.specs.Statements.{next_handle}
use Rattle.rws_link.specs.Stepping.{Exchange}
use Rattle.rws_record.specs.Item.{Item, Purpose, Tell, Put}
use Rattle.rws_record.specs.Item.Item.{Puts}
use Rattle.rws_record.specs.Item.Tell.{Passes}
use Rattle.rws_record.specs.Item.Put.{Hands, Tells, Records, Opens, LogsInto, Drops, Closes}
use Rattle.rws_record.specs.Item.Purpose.{Prepares, Asks, Plays}
use Rattle.rws_record.specs.Values.{contains, goes_on, links, asked_on, exchange, is_up, pending, sent_on, reply_number, statements, told, told_from, is_over}
use Rattle.rws_record.specs.Rules.{follow, is_link, is_loss, owed}
use Rattle.rws_record.proofs.WantLemmas.{closes_soon}
use Rattle.rws_laws.specs.Client.{Asked}
use Rattle.rws_laws.specs.Servers.{asks_first}
use Rattle.rws_laws.specs.Causes.{IsCaused, number_behind_all}

-- What is owed has its cause; what stands behind the first has it once the first was given out. A link that is given up for a
-- fault and a close come last.
pub data Caused (config : Config) : List Put → List Item → Type 0 where
  nothing : {past : List Item} → Caused config [] past
  drops : {link : ℕ} {cause : DropCause} {past : List Item} → is_over past ≡ false → IsCaused config (Drops link cause) past
      → Caused config (Drops link cause ∷ []) past
  leaves : {link : ℕ} {cause : DropCause} {others : List Put} {past : List Item} → is_loss cause ≡ false
      → IsCaused config (Drops link cause) past → Caused config others (Puts (Drops link cause) ∷ past)
      → Caused config (Drops link cause ∷ others) past
  closes : {reason : CloseReason} {past : List Item} → IsCaused config (Closes reason) past
      → Caused config (Closes reason ∷ []) past
  hands : {packets : List ℕ} {others : List Put} {past : List Item} → IsCaused config (Hands packets) past
      → Caused config others (Puts (Hands packets) ∷ past) → Caused config (Hands packets ∷ others) past
  opens : {link server : ℕ} {login : Login} {past : List Item} → IsCaused config (Opens link server login) past
      → Caused config (Opens link server login ∷ []) past
  logs_on : {link : ℕ} {packets : List ℕ} {past : List Item} → IsCaused config (LogsInto link packets) past
      → Caused config (LogsInto link packets ∷ []) past
  records : {server : ℕ} {gtid : Gtid} {others : List Put} {past : List Item} → IsCaused config (Records server gtid) past
      → Caused config others (Puts (Records server gtid) ∷ past) → Caused config (Records server gtid ∷ others) past
  -- with what follows it
  tells : {number : ℕ} {tell : Tell} {others : List Put} {past : List Item} → IsCaused config (Tells number tell) past
      → Caused config (follow config (Tells number tell) past ++ others) (Puts (Tells number tell) ∷ past)
      → Caused config (Tells number tell ∷ others) past

pub first_caused : {config : Config} {put : Put} {others : List Put} {past : List Item} → Caused config (put ∷ others) past
    → IsCaused config put past
first_caused (drops n cause) = cause
first_caused (leaves lossless cause rest) = cause
first_caused (closes cause) = cause
first_caused (tells cause rest) = cause
first_caused (hands cause rest) = cause
first_caused (opens cause) = cause
first_caused (logs_on cause) = cause
first_caused (records cause rest) = cause

-- a command that was sent is the client's, and went on the link that it is to go on, which was prepared and which the session has
abbrev pub SentBy : Option Command → (sent goes : Option ℕ) → (up : ℕ → Bool) → (links : List ℕ) → Type 0
SentBy pending sent goes up links =
    (link : ℕ) → sent ≡ Some link
    → (command : Command) × (pending ≡ Some command) × (goes ≡ Some link) × (up link ≡ true) × (contains link links ≡ true)

abbrev pub Sent : Config → List Item → Type 0
Sent config past = SentBy (pending past) (sent_on past) (goes_on config past) (λ link. is_up link past) (links past)

-- The client was passed nothing of the pending command's reply, or a part of it from the link on which the command was
-- sent, or its end.
pub data ToldBy : List Payload → (from sent : Option ℕ) → Option Command → Type 0 where
  none_told : {sent : Option ℕ} {pending : Option Command} → ToldBy [] None sent pending
  a_part : {told : List Payload} {link : ℕ} {pending : Option Command} → told ≢ [] → ToldBy told (Some link) (Some link) pending
  all : {told : List Payload} {sent : Option ℕ} → ToldBy told None sent None

abbrev pub Telling : List Item → Type 0
Telling past = ToldBy (told past) (told_from past) (sent_on past) (pending past)

-- while the session goes on
abbrev pub TellsOn : Config → List Item → Type 0
TellsOn config past = is_over past ≡ false → closes_soon (owed config past) ≡ false → Telling past

-- the pending command came of the client, and the numbers of its reply count on from it
pub record IsAsked (config : Config) (command : Command) (past : List Item) : Type 0 where
  pub asked : Asked config command past
  pub counts : reply_number past ≡ number_behind_all (told past) command.number

abbrev pub Asking : Config → List Item → Type 0
Asking config past = (command : Command) → pending past ≡ Some command → IsAsked config command past

-- the payloads that are passed among what is owed
abbrev pub passed : List Put → List Payload
passed [] = []
passed (Tells number (Passes link command payload outcome recording) ∷ others) = payload ∷ passed others
passed (_ ∷ others) = passed others

-- a reply that is awaited is the one to the pending command, and all that came of it was passed on in the client's form, or is
-- about to be
pub record AwaitedBy (link : ℕ) (e : Exchange) (asked : Option Purpose) (pending : Option Command) (sent : Option ℕ) (handle : ℕ) (told : List Payload)
    (owed : List Put) : Type 0 where
  pub command : Command
  pub id : Option ℕ
  pub asked_it : asked ≡ Some (Asks command id)
  pub kind : e.kind ≡ command.kind
  pub in_form : client_reply command.kind handle e.sofar ≡ told ++ passed owed
  pub waits : pending ≡ Some command
  pub sent_there : sent ≡ Some link

-- a reply that is awaited on a link that the session has is that to the preamble, on a link that isn't prepared, that to an entry of the
-- history, that to what goes before a read, or that to the pending command
pub data WaitsOn (link : ℕ) (e : Exchange) (asked : Option Purpose) (up : Bool) (pending : Option Command) (sent : Option ℕ)
    (handle : ℕ) (told : List Payload) (owed : List Put) : Type 0 where
  prepares : asked ≡ Some Prepares → up ≡ false → WaitsOn link e asked up pending sent handle told owed
  repeats : {entry : HistoryEntry} → asked ≡ Some (Plays entry) → WaitsOn link e asked up pending sent handle told owed
  checks : {check : Check} → asks_first asked ≡ Some check → WaitsOn link e asked up pending sent handle told owed
  replies : AwaitedBy link e asked pending sent handle told owed → WaitsOn link e asked up pending sent handle told owed

abbrev pub WaitsBy : List ℕ → (ℕ → Option Exchange) → (ℕ → Option Purpose) → (ℕ → Bool) → Option Command → Option ℕ → (handle : ℕ) → List Payload → List Put
    → Type 0
WaitsBy links exchange asked up pending sent handle told owed =
    (link : ℕ) (e : Exchange) → contains link links ≡ true → exchange link ≡ Some e → WaitsOn link e (asked link) (up link) pending sent handle told owed

-- the handle by which the client is to know the statement that is prepared next
abbrev pub handle : Config → List Item → ℕ
handle config past = next_handle (statements config past)

abbrev pub Waits : Config → List Item → Type 0
Waits config past =
    WaitsBy (links past) (λ link. exchange link past) (λ link. asked_on link past) (λ link. is_up link past) (pending past) (sent_on past)
    (handle config past) (told past) (owed config past)

pub record Sound (config : Config) (past : List Item) : Type 0 where
  pub sent : Sent config past
  pub telling : TellsOn config past
  pub asks : Asking config past
  pub waits : Waits config past
  pub owes : Caused config (owed config past) past

-- where nothing is owed, the session isn't about to be closed
pub not_soon : {list : List Put} → list ≡ [] → closes_soon list ≡ false
not_soon o = ap closes_soon o

-- Whether it is a link

pub same_some : {A : Type 0} (one other : A) → Some one ≡ Some other → one ≡ other
same_some one other e = cc

pub is_that : (link : ℕ) (found : Option ℕ) → is_link link found ≡ true → found ≡ Some link
is_that link None e = absurd cc
is_that link (Some other) e = ap Some (eqb-true other link e)

pub is_not : (link : ℕ) (found : Option ℕ) → is_link link found ≡ false → found ≢ Some link
is_not link None e same = absurd cc
is_not link (Some other) e same =
    let yes : (other == link) ≡ true = eq-eqb other link (same_some other link same) in absurd cc
