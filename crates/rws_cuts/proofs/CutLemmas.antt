-- Any number of pieces are as one, and so any two cuttings as each other.
use Rattle.std.proofs.Common.{◌≡◌, ℕ, false, List, ◌∷◌, sym, subst, append-nil, None}
use Rattle.rws_config.specs.declared.config.Config.{Config}
use Rattle.rws_record.specs.Item.{Item}
use Rattle.rws_record.specs.Item.Item.{ClientBytes, LinkBytes}
use Rattle.rws_record.specs.Values.{asking, is_over}
use Rattle.rws_record.specs.Rules.{next}
use Rattle.rws_cuts.specs.Turns.{Answer, HearsClient, HearsLink, Turns, joined}
use Rattle.rws_cuts.specs.Turns.HearsClient.{last, before}
use Rattle.rws_cuts.specs.Turns.HearsLink.{last as last_on, before as before_on}
use Rattle.rws_cuts.specs.Laws.{ClientCutsAgree, IsAlike, LinkCutsAgree}
use Rattle.rws_cuts.proofs.TurnLemmas.{alike_self, alike_then, alike_turned, ends_resting, one_turn}
use Rattle.rws_cuts.proofs.ClientLemmas.{client_pieces_join}
use Rattle.rws_cuts.proofs.LinkTurnLemmas.{link_pieces_join}

-- The client's bytes

-- in one piece
whole : (config : Config) (pieces : List (List ℕ)) (answers : List Answer) (past now : List Item) → HearsClient config pieces answers past now
    → next config past ≡ None → asking past ≡ false → is_over past ≡ false
    → (all : List Item) × Turns config answers (ClientBytes (joined pieces) ∷ past) all × IsAlike config now all
whole config pieces answers past now (last {piece = piece} t) e q n = (
  now,
  subst (λ (bytes : List ℕ). Turns config answers (ClientBytes bytes ∷ past) now) (sym (append-nil piece)) t,
  alike_self config now,
)
whole config pieces answers past now (before {piece = piece} {pieces = others} first rest {between = between} t over more) e q n =
    let quiet = ends_resting config first (ClientBytes piece ∷ past) between t in
    let behind = whole config others rest between now more quiet.0 quiet.1 over in
    let both = client_pieces_join config first rest piece (joined others) past between behind.0 e q n t behind.1 in
    (both.0, both.1, alike_then config now behind.0 both.0 behind.2 both.2)

pub client_cuts_agree : ClientCutsAgree
client_cuts_agree config answers pieces others past one other e q n same these those =
    let first = whole config pieces answers past one these e q n in
    let second = whole config others answers past other those e q n in
    let turn : Turns config answers (ClientBytes (joined others) ∷ past) first.0 =
    subst (λ (bytes : List ℕ). Turns config answers (ClientBytes bytes ∷ past) first.0) same first.1 in
    let all : first.0 ≡ second.0 = one_turn config answers (ClientBytes (joined others) ∷ past) first.0 second.0 turn second.1 in
    alike_then config one first.0 other first.2
    (alike_turned config other first.0 (subst (λ (end : List Item). IsAlike config other end) (sym all) second.2))

-- A server's

whole_on : (config : Config) (link : ℕ) (pieces : List (List ℕ)) (answers : List Answer) (past now : List Item) → HearsLink config link pieces answers past now
    → next config past ≡ None → asking past ≡ false → is_over past ≡ false
    → (all : List Item) × Turns config answers (LinkBytes link (joined pieces) ∷ past) all × IsAlike config now all
whole_on config link pieces answers past now (last_on {piece = piece} t) e q n = (
  now,
  subst (λ (bytes : List ℕ). Turns config answers (LinkBytes link bytes ∷ past) now) (sym (append-nil piece)) t,
  alike_self config now,
)
whole_on config link pieces answers past now (before_on {piece = piece} {pieces = others} first rest {between = between} t over same more) e q n =
    let quiet = ends_resting config first (LinkBytes link piece ∷ past) between t in
    let behind = whole_on config link others rest between now more quiet.0 quiet.1 over in
    let both = link_pieces_join config link first rest piece (joined others) past between behind.0 e q n t same behind.1 in
    (both.0, both.1, alike_then config now behind.0 both.0 behind.2 both.2)

pub link_cuts_agree : LinkCutsAgree
link_cuts_agree config link answers pieces others past one other e q n same these those =
    let first = whole_on config link pieces answers past one these e q n in
    let second = whole_on config link others answers past other those e q n in
    let turn : Turns config answers (LinkBytes link (joined others) ∷ past) first.0 =
    subst (λ (bytes : List ℕ). Turns config answers (LinkBytes link bytes ∷ past) first.0) same first.1 in
    let all : first.0 ≡ second.0 = one_turn config answers (LinkBytes link (joined others) ∷ past) first.0 second.0 turn second.1 in
    alike_then config one first.0 other first.2
    (alike_turned config other first.0 (subst (λ (end : List Item). IsAlike config other end) (sym all) second.2))
