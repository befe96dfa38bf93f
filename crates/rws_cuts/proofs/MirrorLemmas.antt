-- A record's values move by its items, and say what is next.
use Rattle.std.proofs.Common.{◌≡◌, ℕ, List, [], ◌∷◌, length, refl, ap, Option, Some, None}
use Rattle.std.specs.Prelude.{◌==◌, Bool, if◌then◌else◌}
use Rattle.rws_msgs.specs.declared.prepare_ok.PrepareOk.{PrepareOk}
use Rattle.rws_causal.specs.declared.causal.Causal.{Causal}
use Rattle.rws_reply.specs.declared.kind.Progress.{Progress}
use Rattle.rws_front.specs.Connection.{step_of}
use Rattle.rws_front.specs.declared.step.FrontStep.{FrontStep}
use Rattle.rws_link.specs.declared.step.LinkStep.{LinkStep}
use Rattle.rws_link.specs.declared.step.LinkStep.TheVariants as steps
use Rattle.rws_link.specs.Stepping.{step}
use Rattle.rws_pool.specs.declared.words.PoolWords.{PoolWords}
use Rattle.rws_select.specs.declared.selector.Load.{Load}
use Rattle.rws_routing.specs.Routings.{server_in}
use Rattle.rws_config.specs.declared.config.Config.{Config}
use Rattle.rws_commands.specs.declared.judged.Judged.{Judged}
use Rattle.rws_commands.specs.declared.judged.Judged.TheVariants.{Leaves, IsOwn, IsRefused, IsSilent, HasTooMuch, Serves}
use Rattle.rws_commands.specs.declared.proxy_error.ProxyError.{ProxyError}
use Rattle.rws_commands.specs.declared.proxy_error.ProxyError.TheVariants as errors
use Rattle.rws_record.specs.Item.{Item, Purpose, Put, Tell}
use Rattle.rws_record.specs.Item.Item.{Accepted, TurnsAway, Began, ClientBytes, LinkReady, LinkBytes, ClientGone, LinkLost, Ticks, Routed, Comes, Connects, Takes, Floods, Puts, Starves}
use Rattle.rws_record.specs.Item.Put.{Hands, Tells, Records, Routes, Opens, LogsInto, Sends, Forgets, Drops, Closes}
use Rattle.rws_record.specs.Item.Tell.{Passes, Owns, Refuses}
use Rattle.rws_record.specs.Item.Purpose.{Prepares, Asks, Plays, Waits, Probes}
use Rattle.rws_record.specs.Item.Recording.{Nothing, Accepts, Keeps}
use Rattle.rws_record.specs.Values.{first_to, fronted, held, linked, links, server_of}
use Rattle.rws_record.specs.Rules.{after_part, coming, due_arrival, due_on, due_sends, found_in, next, recording_of, ◌or◌}
use Rattle.rws_cuts.proofs.State.{after, arrival_in, first_in, next_in, part_in, sends_in, state_of, target_in}

-- what comes of the client's bytes
abbrev pub heard : Config → List Item → FrontStep
heard config past = (step_of config.accounts (fronted config past)).0

-- What is next

pub sends_are : (config : Config) (past : List Item) (some : List ℕ) → due_sends config some past ≡ sends_in config some (state_of config past)
sends_are config past [] = refl
sends_are config past (link ∷ others) = ap (λ (behind : Option Item). due_on config link past or behind) (sends_are config past others)

arrivals_are : (past : List Item) (some : List ℕ) → due_arrival some past ≡ arrival_in some (λ link. linked link past)
arrivals_are past [] = refl
arrivals_are past (link ∷ others) =
    ap (λ (behind : Option Item). coming link (step (linked link past)).answer or behind) (arrivals_are past others)

pub next_is : (config : Config) (past : List Item)
    → next config past ≡ next_in config (length (held config past)) (heard config past) (state_of config past)
next_is config past = rw (sends_are config past (links past), arrivals_are past (links past)) refl

pub found_is : (config : Config) (past : List Item) (words : PoolWords) (loads : List Load)
    → found_in config past words loads ≡ target_in config words loads (state_of config past)
found_is config past words loads = refl

-- What an item changes

firsts_are : (past : List Item) (server : ℕ) (some : List ℕ) → first_to server some past ≡ first_in server some (λ link. server_of link past)
firsts_are past server [] = refl
firsts_are past server (link ∷ others) =
    ap (λ (behind : Option ℕ). if server_of link past == server then Some link else behind) (firsts_are past server others)

parts_are : (config : Config) (past : List Item) (link : ℕ) (purpose : Option Purpose) (form : List ℕ) (named : Option PrepareOk)
    (checked : Option Causal) (progress : Progress) (behind : Bool) (number : ℕ)
    → after_part config link purpose form named checked progress behind number past
    ≡ part_in link purpose form named checked progress behind number (λ outcome. recording_of config link past outcome)
parts_are config past link (Some (Asks command id)) form named checked progress behind number = refl
parts_are config past link (Some (Plays entry)) form named checked progress behind number = refl
parts_are config past link (Some Prepares) form named checked progress behind number = refl
parts_are config past link (Some (Waits gtid seconds)) form named checked progress behind number = refl
parts_are config past link (Some (Probes gtid)) form named checked progress behind number = refl
parts_are config past link None form named checked progress behind number = refl

-- an item makes of the values of a record what they are with it
abbrev Moves : Config → Item → List Item → Type 0
Moves config item past = state_of config (item ∷ past) ≡ after config (heard config past) item (state_of config past)

module _ (config : Config) (past : List Item) where
  by_error : (number : ℕ) (error : ProxyError) → Moves config (Puts (Tells number (Refuses error))) past
  by_error number errors.UnknownCommand = refl
  by_error number errors.NotSupported = refl
  by_error number errors.UnknownStatement = refl
  by_error number errors.BadExecute = refl
  by_error number errors.TooManyStatements = refl
  by_error number errors.NotInReadOnly = refl
  by_error number errors.TooManyConnections = refl
  by_error number errors.CommandTooLarge = refl
  by_error number errors.NoPrimary = refl
  by_error number (errors.PrimaryBehind wanted found) = refl
  by_error number errors.OutOfMemory = refl

  by_tell : (number : ℕ) (tell : Tell) → Moves config (Puts (Tells number tell)) past
  by_tell number (Passes link command payload (Some ending) Nothing) = refl
  by_tell number (Passes link command payload (Some ending) Accepts) = refl
  by_tell number (Passes link command payload (Some ending) Keeps) = refl
  by_tell number (Passes link command payload None recording) = refl
  by_tell number (Owns status) = refl
  by_tell number (Refuses error) = by_error number error

  by_purpose : (link : ℕ) (purpose : Purpose) → Moves config (Puts (Sends link purpose)) past
  by_purpose link Prepares = refl
  by_purpose link (Asks command id) = refl
  by_purpose link (Plays entry) = refl
  by_purpose link (Waits gtid seconds) = refl
  by_purpose link (Probes gtid) = refl

  by_put : (put : Put) → Moves config (Puts put) past
  by_put (Hands packets) = refl
  by_put (Tells number tell) = by_tell number tell
  by_put (Records server gtid) = refl
  by_put Routes = refl
  by_put (Opens link server login) = refl
  by_put (LogsInto link packets) = refl
  by_put (Sends link purpose) = by_purpose link purpose
  by_put (Forgets link id) = refl
  by_put (Drops link cause) = refl
  by_put (Closes reason) = refl

  by_word : (link : ℕ) (word : LinkStep) → Moves config (Comes link word) past
  by_word link (steps.Part payload role progress next behind) = rw (parts_are config past link) refl
  by_word link (steps.Lost cause) = refl
  by_word link (steps.Send packets) = refl
  by_word link steps.LoggedIn = refl
  by_word link steps.Idle = refl

  by_judged : (judged : Judged) (number : ℕ) → Moves config (Takes judged number) past
  by_judged Leaves number = refl
  by_judged IsOwn number = refl
  by_judged (IsRefused error) number = refl
  by_judged IsSilent number = refl
  by_judged (HasTooMuch bytes) number = refl
  by_judged (Serves command) number = refl

  by_item : (item : Item) → Moves config item past
  by_item (Accepted session scramble reading) = refl
  by_item (TurnsAway told) = refl
  by_item (Began link server reading) = refl
  by_item (ClientBytes bytes) = refl
  by_item (LinkReady link) = refl
  by_item (LinkBytes link bytes) = refl
  by_item ClientGone = refl
  by_item (LinkLost link) = refl
  by_item (Ticks reading) = refl
  by_item (Routed words loads next found) = rw (firsts_are past (server_in found) (links past)) refl
  by_item (Comes link word) = by_word link word
  by_item (Connects said) = refl
  by_item (Takes judged number) = by_judged judged number
  by_item (Floods held) = refl
  by_item (Puts put) = by_put put
  by_item (Starves made number) = refl

pub moves : (config : Config) (item : Item) (past : List Item) → state_of config (item ∷ past) ≡ after config (heard config past) item (state_of config past)
moves config item past = by_item config past item
