-- Which records can come about.
use Rattle.std.specs.Prelude.{◌≡◌, ℕ, Bool, true, false, List, [], ◌∷◌, Some, None, Contains}
use Rattle.rws_config.specs.declared.config.Config.{Config}
use Rattle.rws_record.specs.Item.{Item}
use Rattle.rws_record.specs.Item.Item.{Accepted, TurnsAway, Began, ClientBytes, LinkReady, LinkBytes, ClientGone, LinkLost, Ticks, Routed, Starves}
use Rattle.rws_pool.specs.declared.words.PoolWords.{PoolWords}
use Rattle.rws_select.specs.declared.selector.Load.{Load}
use Rattle.rws_front.specs.Connection.{error_number}
use Rattle.rws_link.specs.Stepping.{is_new}
use Rattle.rws_record.specs.Values.{fronted, links, linked, asking, is_over, is_starved}
use Rattle.rws_record.specs.Rules.{found_in, next}

-- how a session may begin
abbrev pub IsBeginning : Item → Type 0
IsBeginning (Accepted session scramble reading) = Unit {0}
IsBeginning (TurnsAway told) = Unit {0}
IsBeginning (Began link server reading) = Unit {0}
IsBeginning _ = ⊥

-- What may come from outside: from the client, from a link that the session has, and from the clock; a link counts as ready of
-- which no byte came.
abbrev pub IsInput : Item → List Item → Type 0
IsInput (ClientBytes bytes) past = Unit {0}
IsInput ClientGone past = Unit {0}
IsInput (LinkReady link) past = Contains (links past) link × (is_new (linked link past) ≡ true)
IsInput (LinkBytes link bytes) past = Contains (links past) link
IsInput (LinkLost link) past = Contains (links past) link
IsInput (Ticks reading) past = Unit {0}
IsInput _ past = ⊥

-- a session that couldn't be made has only begun
abbrev pub CanBeMade : (made : Bool) → List Item → Type 0
CanBeMade true past = Unit {0}
CanBeMade false (item ∷ []) = IsBeginning item
CanBeMade false _ = ⊥

-- the number of an error that tells the client that memory was wanting
abbrev pub want_number : Config → List Item → ℕ
want_number config past = error_number (fronted config past)

-- A record begins with a session, goes on by its own steps and by the worker's answers, and hears of the outside when it rests
-- and isn't over. Memory may be wanting at any place, but once.
pub data IsRecord (config : Config) : List Item → Type 0 where
  begins : {item : Item} → IsBeginning item → IsRecord config (item ∷ [])
  steps : {past : List Item} {item : Item} → IsRecord config past → next config past ≡ Some item
      → IsRecord config (item ∷ past)
  answers : {past : List Item} {words : PoolWords} {loads : List Load} {next_link : ℕ} → IsRecord config past → asking past ≡ true
      → IsRecord config (Routed words loads next_link (found_in config past words loads) ∷ past)
  hears : {past : List Item} {item : Item} → IsRecord config past → next config past ≡ None → asking past ≡ false
      → is_over past ≡ false → IsInput item past → IsRecord config (item ∷ past)
  starves : {past : List Item} {made : Bool} {number : ℕ} → IsRecord config past → is_starved past ≡ false
      → CanBeMade made past → number ≡ want_number config past → IsRecord config (Starves made number ∷ past)

-- the second record is the first after some of its own steps
pub data GoesOn (config : Config) (past : List Item) : List Item → Type 0 where
  stays : GoesOn config past past
  then : {now : List Item} {item : Item} → GoesOn config past now → next config now ≡ Some item
      → GoesOn config past (item ∷ now)
