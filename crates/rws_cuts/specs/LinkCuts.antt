-- Laws about pieces that are heard directly one behind the other, and about a piece and what else a session hears.
use Rattle.std.specs.Prelude.{◌≡◌, ◌≢◌, ℕ, Bool, true, false, List, [], ◌∷◌, ◌++◌, None, ◌==◌, Contains}
use Rattle.rws_config.specs.declared.config.Config.{Config}
use Rattle.rws_record.specs.Item.{Item}
use Rattle.rws_record.specs.Item.Item.{ClientBytes, ClientGone, LinkReady, LinkBytes, LinkLost}
use Rattle.rws_record.specs.Record.{IsInput}
use Rattle.rws_record.specs.Values.{asking, is_over, links}
use Rattle.rws_record.specs.Rules.{next}
use Rattle.rws_cuts.specs.Turns.{Answer, Turns}
use Rattle.rws_cuts.specs.Laws.{IsAlike}

-- Two pieces on a link, the second directly behind the first, are as one piece. They come so where the first leads to nothing.
abbrev pub PiecesOfLinks : Type 0
PiecesOfLinks =
    (config : Config) (link : ℕ) (a b : List ℕ) (past : List Item)
    → IsAlike config (LinkBytes link b ∷ LinkBytes link a ∷ past) (LinkBytes link (a ++ b) ∷ past)

-- So are two of the client.
abbrev pub PiecesOfClients : Type 0
PiecesOfClients =
    (config : Config) (a b : List ℕ) (past : List Item)
    → IsAlike config (ClientBytes b ∷ ClientBytes a ∷ past) (ClientBytes (a ++ b) ∷ past)

-- An input is of a link, or of the client.
abbrev pub is_of_link : ℕ → Item → Bool
is_of_link link (LinkReady other) = other == link
is_of_link link (LinkBytes other bytes) = other == link
is_of_link link (LinkLost other) = other == link
is_of_link link _ = false

abbrev pub is_of_client : Item → Bool
is_of_client (ClientBytes bytes) = true
is_of_client ClientGone = true
is_of_client _ = false

-- An input that leads to nothing may be heard directly before a piece on a link that isn't its source, or directly behind it. In a legal
-- record the one of the two that is heard first leads to nothing.
abbrev pub LinkPieceMayWait : Type 0
LinkPieceMayWait =
    (config : Config) (link : ℕ) (bytes : List ℕ) (input : Item) (past : List Item)
    → IsInput input past → is_of_link link input ≡ false → asking past ≡ false → next config (input ∷ past) ≡ None
    → IsAlike config (input ∷ LinkBytes link bytes ∷ past) (LinkBytes link bytes ∷ input ∷ past)

-- So it is with a piece of the client.
abbrev pub ClientPieceMayWait : Type 0
ClientPieceMayWait =
    (config : Config) (bytes : List ℕ) (input : Item) (past : List Item)
    → IsInput input past → is_of_client input ≡ false → asking past ≡ false → next config (input ∷ past) ≡ None
    → IsAlike config (input ∷ ClientBytes bytes ∷ past) (ClientBytes bytes ∷ input ∷ past)

-- none of these answers gives a new link this number
abbrev pub AreOthers : ℕ → List Answer → Type 0
AreOthers link [] = Unit {0}
AreOthers link (answer ∷ others) = (answer.link ≢ link) × AreOthers link others

-- A piece on a link that leads to nothing may as well be heard behind an input of another source, and behind all that comes of that: by the
-- same answers the session comes to rest, has given out the same, and goes on alike.
abbrev pub LinkPieceWaits : Type 0
LinkPieceWaits =
    (config : Config) (link : ℕ) (first second : List Answer) (bytes : List ℕ) (input : Item) (past between one : List Item)
    → next config past ≡ None → asking past ≡ false → is_over past ≡ false → Contains (links past) link
    → next config (LinkBytes link bytes ∷ past) ≡ None → IsInput input past → is_of_link link input ≡ false → AreOthers link first
    → Turns config first (input ∷ past) between → Turns config second (LinkBytes link bytes ∷ between) one
    → (other : List Item) × Turns config (first ++ second) (input ∷ LinkBytes link bytes ∷ past) other × IsAlike config one other

-- So may a piece of the client.
abbrev pub ClientPieceWaits : Type 0
ClientPieceWaits =
    (config : Config) (first second : List Answer) (bytes : List ℕ) (input : Item) (past between one : List Item)
    → next config past ≡ None → asking past ≡ false → is_over past ≡ false
    → next config (ClientBytes bytes ∷ past) ≡ None → IsInput input past → is_of_client input ≡ false
    → Turns config first (input ∷ past) between → Turns config second (ClientBytes bytes ∷ between) one
    → (other : List Item) × Turns config (first ++ second) (input ∷ ClientBytes bytes ∷ past) other × IsAlike config one other
