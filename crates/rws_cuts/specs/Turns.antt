-- What a session does from one input on, until it rests: its own steps, and the worker's answers where it asks.
use Rattle.std.specs.Prelude.{◌≡◌, ℕ, true, false, List, [], ◌∷◌, ◌++◌, Some, None}
use Rattle.rws_pool.specs.declared.words.PoolWords.{PoolWords}
use Rattle.rws_select.specs.declared.selector.Load.{Load}
use Rattle.rws_config.specs.declared.config.Config.{Config}
use Rattle.rws_record.specs.Item.{Item}
use Rattle.rws_record.specs.Item.Item.{ClientBytes, LinkBytes, Routed}
use Rattle.rws_record.specs.Values.{asking, is_over}
use Rattle.rws_record.specs.Rules.{found_in, next}
use Rattle.rws_cuts.specs.Exchanges.{changes}

-- what the worker answers a session that asks: the words of the pool, the loads of its links, and the number that the next link has
pub record Answer : Type 0 where
  pub words : PoolWords
  pub loads : List Load
  pub link : ℕ

-- the item of such an answer
abbrev pub answered : Config → Answer → List Item → Item
answered config answer past = Routed answer.words answer.loads answer.link (found_in config past answer.words answer.loads)

-- The session goes on from the first record to the second, where it rests. It is given these answers, in this order, and no others.
pub data Turns (config : Config) : List Answer → (past now : List Item) → Type 0 where
  rests : {now : List Item} → next config now ≡ None → asking now ≡ false → Turns config [] now now
  goes_on : {answers : List Answer} {past now : List Item} {item : Item} → next config past ≡ Some item
      → Turns config answers (item ∷ past) now → Turns config answers past now
  hears : {answer : Answer} {answers : List Answer} {past now : List Item} → asking past ≡ true
      → Turns config answers (answered config answer past ∷ past) now → Turns config (answer ∷ answers) past now

-- Bytes in pieces

-- all bytes of some pieces
abbrev pub joined : List (List ℕ) → List ℕ
joined [] = []
joined (piece ∷ pieces) = piece ++ joined pieces

-- The session hears these pieces of its client's bytes, one after the other, each when it rests, and goes on from the first record to the
-- second by all these answers.
pub data HearsClient (config : Config) : List (List ℕ) → List Answer → (past now : List Item) → Type 0 where
  last : {piece : List ℕ} {answers : List Answer} {past now : List Item} → Turns config answers (ClientBytes piece ∷ past) now
      → HearsClient config (piece ∷ []) answers past now
  before : {piece : List ℕ} {pieces : List (List ℕ)} (first rest : List Answer) {past between now : List Item}
      → Turns config first (ClientBytes piece ∷ past) between → is_over between ≡ false → HearsClient config pieces rest between now
      → HearsClient config (piece ∷ pieces) (first ++ rest) past now

-- It hears these pieces of a server's bytes so, where nothing begins or ends on the link before the last one.
pub data HearsLink (config : Config) (link : ℕ) : List (List ℕ) → List Answer → (past now : List Item) → Type 0 where
  last : {piece : List ℕ} {answers : List Answer} {past now : List Item} → Turns config answers (LinkBytes link piece ∷ past) now
      → HearsLink config link (piece ∷ []) answers past now
  before : {piece : List ℕ} {pieces : List (List ℕ)} (first rest : List Answer) {past between now : List Item}
      → Turns config first (LinkBytes link piece ∷ past) between → is_over between ≡ false → changes link between ≡ changes link past
      → HearsLink config link pieces rest between now
      → HearsLink config link (piece ∷ pieces) (first ++ rest) past now
