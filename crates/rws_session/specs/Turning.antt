-- What a turn does.
use Rattle.std.specs.Prelude.{◌≡◌, ℕ, Bool, true, false, ◌&&◌, List, [], ◌∷◌, ◌++◌, Option, Some, None, if◌then◌else◌}
use Rattle.rws_link.specs.Stepping.{is_new}
use Rattle.rws_config.specs.declared.config.Config.{Config}
use Rattle.rws_board.specs.declared.action.Action.TheVariants as actions
use Rattle.rws_native.specs.declared.login.Login.{Login}
use Rattle.rws_pool.specs.declared.words.PoolWords.{PoolWords}
use Rattle.rws_select.specs.declared.selector.Load.{Load}
use Rattle.rws_record.specs.declared.output.Output.{Output}
use Rattle.rws_record.specs.declared.output.Output.TheVariants.{Act}
use Rattle.rws_record.specs.Item.{Item, Put}
use Rattle.rws_record.specs.Item.Item.{ClientBytes, LinkReady, LinkBytes, ClientGone, LinkLost, Ticks, Routed, Puts}
use Rattle.rws_record.specs.Item.Put.{Opens as Opened}
use Rattle.rws_record.specs.Values.{contains, is_over, linked, links}
use Rattle.rws_record.specs.Rules.{found_in, owed}
use Rattle.rws_record.specs.Record.{GoesOn}
use Rattle.rws_record.specs.Outputs.{outputs_of}
use Rattle.rws_session.specs.declared.input.SessionInput.{SessionInput}
use Rattle.rws_session.specs.declared.input.SessionInput.TheVariants as inputs
use Rattle.rws_session.specs.Kept.{Is, Kept, StandsOr, lasting, lasting_of}

-- what an input is to a session that goes on: a link that it doesn't have, or that isn't new where it is to be, is none of its
-- business
abbrev pub on_link : Bool → Item → Option Item
on_link true item = Some item
on_link false item = None

abbrev pub heard_open : SessionInput → List Item → Option Item
heard_open (inputs.Client bytes) past = Some (ClientBytes bytes)
heard_open inputs.ClientGone past = Some ClientGone
heard_open (inputs.Ready link) past = on_link (contains link (links past) && is_new (linked link past)) (LinkReady link)
heard_open (inputs.Link link bytes) past = on_link (contains link (links past)) (LinkBytes link bytes)
heard_open (inputs.LinkGone link) past = on_link (contains link (links past)) (LinkLost link)
heard_open (inputs.Clock reading) past = Some (Ticks reading)

-- what a session hears of an input
abbrev pub heard : SessionInput → List Item → Option Item
heard input past = if is_over past then None else heard_open input past

-- From a record the session went on by its own steps, and now stands for the one that they led to, or asks the worker; what they
-- gave out waits to be fetched, behind what waited before.
pub record Settles (config : Config) (start : List Item) (old new : Kept) (asks : Bool) : Type 0 where
  pub reached : List Item
  pub went_on : GoesOn config start reached
  pub stands : StandsOr asks config new reached
  pub number : new.number ≡ old.number
  pub more : List Output
  pub given : outputs_of old.number reached ≡ outputs_of old.number start ++ more
  pub waits : new.outs ≡ old.outs ++ more

-- the worker's answer: the words of the pool, the loads of its links, and the number that the next link has
abbrev pub answer_to : Config → List Item → PoolWords → List Load → (next : ℕ) → Item
answer_to config past words loads next = Routed words loads next (found_in config past words loads)

-- The answer was taken in. Either a link of the next number was opened for it, or nothing goes out as yet.
pub record Opens (config : Config) (answer : Item) (next : ℕ) (past : List Item) (old new : Kept) : Type 0 where
  pub server : ℕ
  pub login : Login
  pub is : Is config new (Puts (Opened next server login) ∷ answer ∷ past)
  pub number : new.number ≡ old.number
  pub waits : new.outs ≡ old.outs ++ Act (actions.Open next server old.number) ∷ []

pub record TakesIn (config : Config) (answer : Item) (past : List Item) (old new : Kept) : Type 0 where
  pub is : Is config new (answer ∷ past)
  pub number : new.number ≡ old.number
  pub waits : new.outs ≡ old.outs
  -- and none is going to be opened before the session asks again
  pub unopened : (link server : ℕ) (login : Login) (others : List Put) → owed config (answer ∷ past) ≡ Opened link server login ∷ others → ⊥

abbrev pub Answers : Config → Item → (next : ℕ) → List Item → Kept → Kept → (opened : Bool) → Type 0
Answers config answer next past old new true = Opens config answer next past old new
Answers config answer next past old new false = TakesIn config answer past old new

-- A turn over what is heard: the session takes it in and goes on until it rests or asks. Where nothing is heard it is as it was.
abbrev pub Turns : Config → Option Item → List Item → Kept → Kept → (asks : Bool) → Type 0
Turns config (Some item) past old new asks = Settles config (item ∷ past) old new asks
Turns config None past old new false = new ≡ old
Turns config None past old new true = ⊥

-- Memory was wanting in a turn: from a record the session went on by its own steps, and what lasts of it is that of the one
-- that they led to. What they gave out waits to be fetched.
pub record BreaksOff (config : Config) (start : List Item) (old new : Kept) : Type 0 where
  pub reached : List Item
  pub went_on : GoesOn config start reached
  pub more : List Output
  pub given : outputs_of old.number reached ≡ outputs_of old.number start ++ more
  pub lasts : lasting new ≡ lasting_of config old.number (old.outs ++ more) reached

-- where nothing is heard, no memory is wanted
abbrev pub Breaks : Config → Option Item → List Item → Kept → Kept → Type 0
Breaks config (Some item) past old new = BreaksOff config (item ∷ past) old new
Breaks config None past old new = ⊥
