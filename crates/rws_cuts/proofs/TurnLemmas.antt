-- A turn is one, and alike where it begins alike.
use Rattle.std.proofs.Common.{◌≡◌, true, false, List, ◌∷◌, refl, sym, ap, subst, ◌∙◌, Some, None}
use Rattle.rws_config.specs.declared.config.Config.{Config}
use Rattle.rws_route.specs.declared.destination.Target.{Target}
use Rattle.rws_record.specs.Item.{Item}
use Rattle.rws_record.specs.Item.Item.{Routed}
use Rattle.rws_record.specs.Values.{asking}
use Rattle.rws_record.specs.Rules.{next}
use Rattle.rws_record.specs.Record.IsRecord.{steps, answers as is_answered}
use Rattle.rws_record.proofs.StepLemmas.{goes_unasking}
use Rattle.rws_cuts.specs.Turns.{Answer, Turns, answered}
use Rattle.rws_cuts.specs.Turns.Turns.{rests, goes_on, hears}
use Rattle.rws_cuts.specs.Agreement.{Agrees}
use Rattle.rws_cuts.specs.Laws.{IsAlike, OneTurn, TurnsAreLegal}
use Rattle.rws_cuts.proofs.AgreementLemmas.{agreement_lasts, agrees, found_same, next_same, state_same}
use Rattle.rws_cuts.proofs.OutLemmas.{gave_more}

pub one_turn : OneTurn
one_turn config answers past one other (rests e a) (rests f b) = refl
one_turn config answers past one other (rests e a) (goes_on {item = item} f t) =
    absurd (let clash : None ≡ Some item = sym e ∙ f in cc)
one_turn config answers past one other (goes_on {item = item} e t) (rests f b) = absurd (let clash : None ≡ Some item = sym f ∙ e in cc)
one_turn config answers past one other (goes_on {answers = its} {past = below} {item = item} e t) (goes_on {item = also} f u) =
    let same : Some also ≡ Some item = sym f ∙ e in
    let same : also ≡ item = cc in
    one_turn config its (item ∷ below) one other t (subst (λ (x : Item). Turns config its (x ∷ below) other) same u)
one_turn config answers past one other (goes_on {past = below} {item = item} e t) (hears asks u) =
    absurd (let clash : true ≡ false = sym asks ∙ goes_unasking config below item e in cc)
one_turn config answers past one other (hears {past = below} asks t) (goes_on {item = item} f u) =
    absurd (let clash : true ≡ false = sym asks ∙ goes_unasking config below item f in cc)
one_turn config answers past one other (hears {answer = answer} {answers = its} {past = below} asks t) (hears also u) =
    one_turn config its (answered config answer below ∷ below) one other t u

pub turns_are_legal : TurnsAreLegal
turns_are_legal config answers past now (rests e a) legal = legal
turns_are_legal config answers past now (goes_on {item = item} e t) legal = turns_are_legal config answers (item ∷ past) now t (steps legal e)
turns_are_legal config answers past now (hears {answer = answer} {answers = its} waits t) legal =
    turns_are_legal config its (answered config answer past ∷ past) now t (is_answered legal waits)

-- it ends at rest
pub ends_resting : (config : Config) (answers : List Answer) (past now : List Item) → Turns config answers past now
    → (next config now ≡ None) × (asking now ≡ false)
ends_resting config answers past now (rests e a) = (e, a)
ends_resting config answers past now (goes_on {item = item} e t) = ends_resting config answers (item ∷ past) now t
ends_resting config answers past now (hears {answer = answer} {answers = its} waits t) =
    ends_resting config its (answered config answer past ∷ past) now t

-- Records that are alike

pub alike_self : (config : Config) (one : List Item) → IsAlike config one one
alike_self config one = record { gave = λ session. refl; agrees = agrees config one one refl refl }

pub alike_turned : (config : Config) (one other : List Item) → IsAlike config one other → IsAlike config other one
alike_turned config one other alike = record {
  gave = λ session. sym (alike.gave session);
  agrees = agrees config other one (sym alike.agrees.fronted) (sym (state_same alike.agrees));
}

pub alike_then : (config : Config) (one two three : List Item) → IsAlike config one two → IsAlike config two three → IsAlike config one three
alike_then config one two three first second = record {
  gave = λ session. first.gave session ∙ second.gave session;
  agrees = agrees config one three (first.agrees.fronted ∙ second.agrees.fronted) (state_same first.agrees ∙ state_same second.agrees);
}

-- what goes on from one record goes on from one that is alike

pub alike_more : (config : Config) (one other : List Item) (item : Item) → IsAlike config one other → IsAlike config (item ∷ one) (item ∷ other)
alike_more config one other item alike = record {
  gave = λ session. gave_more session item one other (alike.gave session);
  agrees = agreement_lasts config one other item alike.agrees;
}

-- both are answered alike
pub answered_alike : (config : Config) (one other : List Item) (answer : Answer) → Agrees config one other
    → answered config answer one ≡ answered config answer other
answered_alike config one other answer a =
    ap (λ (found : Target). Routed answer.words answer.loads answer.link found) (found_same config one other answer.words answer.loads a)

-- a turn from a record, and where it ends alike
abbrev pub Ends : Config → List Answer → List Item → List Item → Type 0
Ends config answers other now = (then : List Item) × Turns config answers other then × IsAlike config now then

pub carried : (config : Config) (answers : List Answer) (one now : List Item) → Turns config answers one now → (other : List Item)
    → IsAlike config one other → Ends config answers other now
carried config answers one now (rests e a) other alike =
    (other, rests (sym (next_same config one other alike.agrees) ∙ e) (sym alike.agrees.asking ∙ a), alike)
carried config answers one now (goes_on {item = item} e t) other alike =
    let behind = carried config answers (item ∷ one) now t (item ∷ other) (alike_more config one other item alike) in
    (behind.0, goes_on (sym (next_same config one other alike.agrees) ∙ e) behind.1, behind.2)
carried config answers one now (hears {answer = answer} {answers = its} asks t) other alike =
    let same = answered_alike config one other answer alike.agrees in
    let behind = carried config its (answered config answer one ∷ one) now t (answered config answer other ∷ other)
    (subst (λ (item : Item). IsAlike config (answered config answer one ∷ one) (item ∷ other)) same
    (alike_more config one other (answered config answer one) alike)) in
    (behind.0, hears (sym alike.agrees.asking ∙ asks) behind.1, behind.2)
