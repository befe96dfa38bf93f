-- Pieces that are heard directly one behind the other, and a piece and another input in either order.
use Rattle.std.proofs.Common.{◌≡◌, ℕ, Bool, true, false, List, [], ◌∷◌, ◌++◌, refl, sym, ap, ◌∙◌, append_assoc, append-nil}
use Rattle.std.specs.Prelude.{◌==◌, if◌then◌else◌}
use Rattle.std.proofs.lemmas.Bool.{eqb-true, eq-eqb}
use Rattle.rws_link.specs.Stepping.{LinkState, fed, readied}
use Rattle.rws_link.proofs.LinkLemmas.{pieces_join}
use Rattle.rws_config.specs.declared.config.Config.{Config}
use Rattle.rws_record.specs.Item.{Item}
use Rattle.rws_record.specs.Item.Item.{ClientBytes, LinkReady, LinkBytes, ClientGone, LinkLost, Ticks}
use Rattle.rws_record.specs.Record.{IsInput}
use Rattle.rws_record.specs.Values.{asking, fronted, held, linked}
use Rattle.rws_record.specs.Rules.{owed}
use Rattle.rws_record.specs.Outputs.{outputs_of}
use Rattle.rws_record.proofs.StepLemmas.{rests_owing_nothing}
use Rattle.rws_cuts.specs.LinkCuts.{ClientPieceMayWait, LinkPieceMayWait, PiecesOfClients, PiecesOfLinks, is_of_link}
use Rattle.rws_cuts.proofs.State.{state_of}
use Rattle.rws_cuts.proofs.AgreementLemmas.{agrees}

-- Two pieces of one stream

fed_twice : (test : Bool) (a b : List ℕ) (before : LinkState)
    → (if test then fed b (if test then fed a before else before) else (if test then fed a before else before))
    ≡ (if test then fed (a ++ b) before else before)
fed_twice true a b before = pieces_join before a b
fed_twice false a b before = refl

pub pieces_of_links : PiecesOfLinks
pieces_of_links config link a b past = record {
  gave = λ session. append-nil (outputs_of session (LinkBytes link a ∷ past));
  agrees = agrees config (LinkBytes link b ∷ LinkBytes link a ∷ past) (LinkBytes link (a ++ b) ∷ past) refl same;
}
  where
    same : state_of config (LinkBytes link b ∷ LinkBytes link a ∷ past) ≡ state_of config (LinkBytes link (a ++ b) ∷ past)
    same = λ i. record (state_of config (LinkBytes link b ∷ past)) { linked = λ other. fed_twice (link == other) a b (linked other past) i }

pub pieces_of_clients : PiecesOfClients
pieces_of_clients config a b past = record {
  gave = λ session. append-nil (outputs_of session (ClientBytes a ∷ past));
  agrees = agrees config (ClientBytes b ∷ ClientBytes a ∷ past) (ClientBytes (a ++ b) ∷ past) front refl;
}
  where
    front : fronted config (ClientBytes b ∷ ClientBytes a ∷ past) ≡ fronted config (ClientBytes (a ++ b) ∷ past)
    front =
        ap (λ (bytes : List ℕ). record (fronted config past) { stream = record (fronted config past).stream { held = bytes } })
        (append_assoc (held config past) a b)

-- A piece and another input

-- two changes at different links
swapped : (one other : LinkState → LinkState) (here there : Bool) (before : LinkState) → (here ≡ true → there ≡ true → ⊥)
    → (if here then one (if there then other before else before) else (if there then other before else before))
    ≡ (if there then other (if here then one before else before) else (if here then one before else before))
swapped one other true true before apart = absurd (apart refl refl)
swapped one other true false before apart = refl
swapped one other false true before apart = refl
swapped one other false false before apart = refl

two_links : (one other link : ℕ) → (one == other) ≡ false → (one == link) ≡ true → (other == link) ≡ true → ⊥
two_links one other link apart first second =
    let same : one ≡ other = eqb-true one link first ∙ sym (eqb-true other link second) in
    let clash : true ≡ false = sym (eq-eqb one other same) ∙ apart in cc

abbrev pub changed : (LinkState → LinkState) → ℕ → (ℕ → LinkState) → ℕ → LinkState
changed change here before link = if here == link then change (before link) else before link

-- changes of links by these, at two links
pub in_turn : (one other : LinkState → LinkState) (here there : ℕ) → (here == there) ≡ false → (before : ℕ → LinkState)
    → changed one here (changed other there before) ≡ changed other there (changed one here before)
in_turn one other here there apart before =
    λ i. λ link. swapped one other (here == link) (there == link) (before link) (two_links here there link apart) i

module _ (config : Config) (link : ℕ) (bytes : List ℕ) (past : List Item) where
  abbrev Waits : Item → Type 0
  Waits input = (fronted config (input ∷ LinkBytes link bytes ∷ past) ≡ fronted config (LinkBytes link bytes ∷ input ∷ past))
      × (state_of config (input ∷ LinkBytes link bytes ∷ past) ≡ state_of config (LinkBytes link bytes ∷ input ∷ past))

  waits : (input : Item) → IsInput input past → is_of_link link input ≡ false → owed config (input ∷ past) ≡ [] → Waits input
  waits (ClientBytes more) is apart none = (refl, refl)
  waits ClientGone is apart none = (refl, λ i. record (state_of config (LinkBytes link bytes ∷ ClientGone ∷ past)) { owed = none i })
  waits (LinkReady other) is apart none =
      (refl, λ i. record (state_of config (LinkReady other ∷ past)) { linked = in_turn readied (fed bytes) other link apart (λ l. linked l past) i })
  waits (LinkBytes other more) is apart none =
      (refl, λ i. record (state_of config (LinkBytes other more ∷ past)) { linked = in_turn (fed more) (fed bytes) other link apart (λ l. linked l past) i })
  waits (LinkLost other) is apart none =
      (refl, λ i. record (state_of config (LinkBytes link bytes ∷ LinkLost other ∷ past)) { owed = none i })
  waits (Ticks reading) is apart none = (refl, refl)
  waits _ is apart none = absurd is

  gave_nothing : (input : Item) → IsInput input past → (session : ℕ)
      → outputs_of session (input ∷ LinkBytes link bytes ∷ past) ≡ outputs_of session (LinkBytes link bytes ∷ input ∷ past)
  gave_nothing (ClientBytes more) is session = refl
  gave_nothing ClientGone is session = refl
  gave_nothing (LinkReady other) is session = refl
  gave_nothing (LinkBytes other more) is session = refl
  gave_nothing (LinkLost other) is session = refl
  gave_nothing (Ticks reading) is session = refl
  gave_nothing _ is session = absurd is

-- an input on which a session rests leaves nothing owed
unasked : (input : Item) (past : List Item) → IsInput input past → asking past ≡ false → asking (input ∷ past) ≡ false
unasked (ClientBytes more) past is a = a
unasked ClientGone past is a = a
unasked (LinkReady other) past is a = a
unasked (LinkBytes other more) past is a = a
unasked (LinkLost other) past is a = a
unasked (Ticks reading) past is a = a
unasked _ past is a = absurd is

pub link_piece_may_wait : LinkPieceMayWait
link_piece_may_wait config link bytes input past is apart a e =
    let both = waits config link bytes past input is apart (rests_owing_nothing config (input ∷ past) e (unasked input past is a)) in
    record {
      gave = gave_nothing config link bytes past input is;
      agrees = agrees config (input ∷ LinkBytes link bytes ∷ past) (LinkBytes link bytes ∷ input ∷ past) both.0 both.1;
    }

pub client_piece_may_wait : ClientPieceMayWait
client_piece_may_wait config bytes (LinkReady other) past is apart a e = record {
  gave = λ session. refl;
  agrees = agrees config (LinkReady other ∷ ClientBytes bytes ∷ past) (ClientBytes bytes ∷ LinkReady other ∷ past) refl refl;
}
client_piece_may_wait config bytes (LinkBytes other more) past is apart a e = record {
  gave = λ session. refl;
  agrees = agrees config (LinkBytes other more ∷ ClientBytes bytes ∷ past) (ClientBytes bytes ∷ LinkBytes other more ∷ past) refl refl;
}
client_piece_may_wait config bytes (LinkLost other) past is apart a e =
    let none : owed config (LinkLost other ∷ past) ≡ [] = rests_owing_nothing config (LinkLost other ∷ past) e a in
    record {
      gave = λ session. refl;
      agrees = agrees config (LinkLost other ∷ ClientBytes bytes ∷ past) (ClientBytes bytes ∷ LinkLost other ∷ past) refl
          (λ i. record (state_of config (ClientBytes bytes ∷ LinkLost other ∷ past)) { owed = none i });
    }
client_piece_may_wait config bytes (Ticks reading) past is apart a e = record {
  gave = λ session. refl;
  agrees = agrees config (Ticks reading ∷ ClientBytes bytes ∷ past) (ClientBytes bytes ∷ Ticks reading ∷ past) refl refl;
}
client_piece_may_wait config bytes (ClientBytes more) past is apart a e = absurd cc
client_piece_may_wait config bytes ClientGone past is apart a e = absurd cc
client_piece_may_wait config bytes _ past is apart a e = absurd is
