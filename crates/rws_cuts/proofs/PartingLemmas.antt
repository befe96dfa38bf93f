-- A turn on all bytes of a client is one on the first of them, and then one on the others.
use Rattle.std.proofs.Common.{◌≡◌, ℕ, false, List, [], ◌∷◌, ◌++◌, refl, sym, ap, subst, ◌∙◌, Option, Some, None}
use Rattle.rws_config.specs.declared.config.Config.{Config}
use Rattle.rws_record.specs.Item.{Item}
use Rattle.rws_record.specs.Item.Item.{ClientBytes}
use Rattle.rws_record.specs.Values.{asking}
use Rattle.rws_record.specs.Rules.{next}
use Rattle.rws_record.proofs.StepLemmas.{goes_unasking, of_next}
use Rattle.rws_cuts.specs.Turns.{Answer, Turns, answered}
use Rattle.rws_cuts.specs.Turns.Turns.{rests, goes_on, hears}
use Rattle.rws_cuts.specs.Laws.{ClientPiecesPart, InPieces}
use Rattle.rws_cuts.proofs.State.{State}
use Rattle.rws_cuts.proofs.TurnLemmas.{alike_turned, carried}
use Rattle.rws_cuts.proofs.ClientLemmas.{More, answered_more, begun, hushed_on, item_more, joins, motion, next_more}
use Rattle.rws_cuts.proofs.ClientLemmas.Motion.{stays}

module _ (config : Config) (more : List ℕ) where
  same_asking : (short long : List Item) → More config more short long → asking short ≡ asking long
  same_asking short long m = ap (λ (s : State). s.asking) m.state

  -- it rests: all that the other does is done on the others
  at_rest : (answers : List Answer) (short long other : List Item) → More config more short long → next config short ≡ None → asking short ≡ false
      → Turns config answers long other → InPieces config more answers short other
  at_rest answers short long other m e a t =
      let run = carried config answers long other t (ClientBytes more ∷ short)
      (alike_turned config (ClientBytes more ∷ short) long (joins config more short long m e a)) in
      record {
        first = [];
        second = answers;
        are = refl;
        between = short;
        one = run.0;
        on_first = rests e a;
        on_second = run.1;
        alike = alike_turned config other run.0 run.2;
      }

  -- it goes on, as the other does
  by_next : (answers : List Answer) (short long other : List Item) (item : Item) (found : Option Item) → More config more short long
      → next config short ≡ found → next config long ≡ Some item → Turns config answers (item ∷ long) other
      → ((below : List Item) → More config more below (item ∷ long) → InPieces config more answers below other) → InPieces config more answers short other
  by_next answers short long other item None m s e t go =
      at_rest answers short long other m s (same_asking short long m ∙ goes_unasking config long item e) (goes_on e t)
  by_next answers short long other item (Some found) m s e t go =
      let same : Some found ≡ Some item = sym (next_more config more short long found m s) ∙ e in
      let same : found ≡ item = cc in
      let step = of_next config short found s in
      let on : More config more (found ∷ short) (item ∷ long) =
      subst (λ (x : Item). More config more (found ∷ short) (x ∷ long)) same
      (item_more config more short long found m (motion step) (hushed_on m.hushed step)) in
      let run = go (found ∷ short) on in
      record {
        first = run.first;
        second = run.second;
        are = run.are;
        between = run.between;
        one = run.one;
        on_first = goes_on s run.on_first;
        on_second = run.on_second;
        alike = run.alike;
      }

  no_step : (short long : List Item) (found : Option Item) → More config more short long → next config long ≡ None → next config short ≡ found
      → next config short ≡ None
  no_step short long None m e s = s
  no_step short long (Some item) m e s = absurd (let clash : Some item ≡ None = sym (next_more config more short long item m s) ∙ e in cc)

  parted : (answers : List Answer) (long other : List Item) → Turns config answers long other → (short : List Item) → More config more short long
      → InPieces config more answers short other
  parted answers long other (rests e a) short m =
      at_rest [] short long long m (no_step short long (next config short) m e refl) (same_asking short long m ∙ a) (rests e a)
  parted answers long other (goes_on {item = item} e t) short m =
      by_next answers short long other item (next config short) m refl e t (λ below on. parted answers (item ∷ long) other t below on)
  parted answers long other (hears {answer = answer} {answers = its} waits t) short m =
      let item = answered config answer short in
      let on : More config more (item ∷ short) (answered config answer long ∷ long) =
      subst (λ (x : Item). More config more (item ∷ short) (x ∷ long)) (answered_more config more short long answer m)
      (item_more config more short long item m (stays (λ past. refl) (λ one other s. refl)) m.hushed) in
      let run = parted its (answered config answer long ∷ long) other t (item ∷ short) on in
      record {
        first = answer ∷ run.first;
        second = run.second;
        are = ap (λ (behind : List Answer). answer ∷ behind) run.are;
        between = run.between;
        one = run.one;
        on_first = hears (same_asking short long m ∙ waits) run.on_first;
        on_second = run.on_second;
        alike = run.alike;
      }

pub client_pieces_part : ClientPiecesPart
client_pieces_part config answers a b past other e q n t =
    parted config b answers (ClientBytes (a ++ b) ∷ past) other t (ClientBytes a ∷ past) (begun config past a b e q n)
