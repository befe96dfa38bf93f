-- Laws about records. Each is carried by a public function whose contract is the law.
use Rattle.std.specs.Prelude.{◌≡◌, ℕ, true, false, List, ◌∷◌, ◌++◌, None}
use Rattle.rws_pool.specs.declared.words.PoolWords.{PoolWords}
use Rattle.rws_select.specs.declared.selector.Load.{Load}
use Rattle.rws_link.specs.declared.step.LinkCause.{LinkCause}
use Rattle.rws_link.specs.Stepping.{IsLost}
use Rattle.rws_config.specs.declared.config.Config.{Config}
use Rattle.rws_record.specs.Item.{Item}
use Rattle.rws_record.specs.Item.Item.{ClientBytes, LinkBytes}
use Rattle.rws_record.specs.Values.{asking, is_over, linked}
use Rattle.rws_record.specs.Rules.{found_in, next}
use Rattle.rws_record.specs.Record.{IsRecord}
use Rattle.rws_record.specs.Outputs.{outputs_of}
use Rattle.rws_cuts.specs.Turns.{Answer, HearsClient, HearsLink, Turns, joined}
use Rattle.rws_cuts.specs.Exchanges.{changes}
use Rattle.rws_cuts.specs.Agreement.{Agrees}

-- Records that agree go on by the same step,
abbrev pub NextIsTheSame : Type 0
NextIsTheSame = (config : Config) (one other : List Item) → Agrees config one other → next config one ≡ next config other

-- the same words and loads find the same target for both,
abbrev pub FoundIsTheSame : Type 0
FoundIsTheSame =
    (config : Config) (one other : List Item) (words : PoolWords) (loads : List Load) → Agrees config one other
    → found_in config one words loads ≡ found_in config other words loads

-- and whatever comes next to both, they agree behind it.
abbrev pub AgreementLasts : Type 0
AgreementLasts =
    (config : Config) (one other : List Item) (item : Item) → Agrees config one other → Agrees config (item ∷ one) (item ∷ other)

-- A session has one turn by given answers.
abbrev pub OneTurn : Type 0
OneTurn =
    (config : Config) (answers : List Answer) (past one other : List Item) → Turns config answers past one → Turns config answers past other
    → one ≡ other

-- It leads from a legal record to a legal one.
abbrev pub TurnsAreLegal : Type 0
TurnsAreLegal =
    (config : Config) (answers : List Answer) (past now : List Item) → Turns config answers past now → IsRecord config past
    → IsRecord config now

-- what two records gave out is the same, and they go on alike
pub record IsAlike (config : Config) (one other : List Item) : Type 0 where
  pub gave : (session : ℕ) → outputs_of session one ≡ outputs_of session other
  pub agrees : Agrees config one other

-- Where a session that rests hears some bytes of its client, and then others, it does the same as where it hears all of them at once: by
-- the same answers, in the same order, it comes to rest, has given out the same, and goes on alike.
abbrev pub ClientPiecesJoin : Type 0
ClientPiecesJoin =
    (config : Config) (first second : List Answer) (a b : List ℕ) (past between one : List Item)
    → next config past ≡ None → asking past ≡ false → is_over past ≡ false
    → Turns config first (ClientBytes a ∷ past) between → Turns config second (ClientBytes b ∷ between) one
    → (other : List Item) × Turns config (first ++ second) (ClientBytes (a ++ b) ∷ past) other × IsAlike config one other

-- From a record that heard some bytes the session comes to rest, and then on those that come next; it does so by these answers, the first of
-- them before and the others behind, and it ends as the other record does.
pub record InPieces (config : Config) (others : List ℕ) (answers : List Answer) (heard other : List Item) : Type 0 where
  pub first : List Answer
  pub second : List Answer
  pub are : answers ≡ first ++ second
  pub between : List Item
  pub one : List Item
  pub on_first : Turns config first heard between
  pub on_second : Turns config second (ClientBytes others ∷ between) one
  pub alike : IsAlike config one other

-- So where it comes to rest on all of the bytes, it does so on the first of them, and then on the others.
abbrev pub ClientPiecesPart : Type 0
ClientPiecesPart =
    (config : Config) (answers : List Answer) (a b : List ℕ) (past other : List Item)
    → next config past ≡ None → asking past ≡ false → is_over past ≡ false
    → Turns config answers (ClientBytes (a ++ b) ∷ past) other → InPieces config b answers (ClientBytes a ∷ past) other

-- Where it is over behind the first of them, the others would have changed nothing.
abbrev pub ClientPiecesEnd : Type 0
ClientPiecesEnd =
    (config : Config) (answers : List Answer) (a b : List ℕ) (past between : List Item)
    → next config past ≡ None → asking past ≡ false → is_over past ≡ false
    → Turns config answers (ClientBytes a ∷ past) between → is_over between ≡ true
    → (other : List Item) × Turns config answers (ClientBytes (a ++ b) ∷ past) other × (is_over other ≡ true)
    × ((session : ℕ) → outputs_of session between ≡ outputs_of session other)

-- So it does the same on any two cuttings of its client's bytes.
abbrev pub ClientCutsAgree : Type 0
ClientCutsAgree =
    (config : Config) (answers : List Answer) (pieces others : List (List ℕ)) (past one other : List Item)
    → next config past ≡ None → asking past ≡ false → is_over past ≡ false → joined pieces ≡ joined others
    → HearsClient config pieces answers past one → HearsClient config others answers past other → IsAlike config one other

-- So it is with the bytes of a server, where the second piece belongs to the same reply, or the same part of the login, as the end of the
-- first: nothing begins and nothing ends on the link while the session is at the first piece. Behind a whole reply a further byte costs the
-- link, if it comes with the reply, or before something else is sent there.
abbrev pub LinkPiecesJoin : Type 0
LinkPiecesJoin =
    (config : Config) (link : ℕ) (first second : List Answer) (a b : List ℕ) (past between one : List Item)
    → next config past ≡ None → asking past ≡ false → is_over past ≡ false
    → Turns config first (LinkBytes link a ∷ past) between → changes link between ≡ changes link past
    → Turns config second (LinkBytes link b ∷ between) one
    → (other : List Item) × Turns config (first ++ second) (LinkBytes link (a ++ b) ∷ past) other × IsAlike config one other

-- Where the link is lost behind the first of them, the others would have changed nothing.
abbrev pub LinkPiecesLost : Type 0
LinkPiecesLost =
    (config : Config) (link : ℕ) (answers : List Answer) (a b : List ℕ) (past between : List Item) (cause : LinkCause)
    → next config past ≡ None → asking past ≡ false → is_over past ≡ false
    → Turns config answers (LinkBytes link a ∷ past) between → changes link between ≡ changes link past → linked link between ≡ IsLost cause
    → (other : List Item) × Turns config answers (LinkBytes link (a ++ b) ∷ past) other × IsAlike config between other

-- And so it does the same on any two such cuttings of a server's bytes.
abbrev pub LinkCutsAgree : Type 0
LinkCutsAgree =
    (config : Config) (link : ℕ) (answers : List Answer) (pieces others : List (List ℕ)) (past one other : List Item)
    → next config past ≡ None → asking past ≡ false → is_over past ≡ false → joined pieces ≡ joined others
    → HearsLink config link pieces answers past one → HearsLink config link others answers past other → IsAlike config one other
