-- What a maker in memory did, and then did more.
use Rattle.std.specs.Prelude.{◌≡◌, ℕ, List, [], ◌∷◌, ◌++◌, Result, Ok, Err, MatchResult, refl}
use Rattle.std.proofs.Common.{sym, ◌∙◌, ap, subst, append_assoc, append-nil}
use Rattle.rws_make.specs.Makers.{Making, boards_back, places_asked}
use Rattle.rws_make.specs.Makers.Making.{Made, Refused, TookBack}
use Rattle.rws_make.specs.Plans.{ArePlanned, ListMakerDid, ListMakerState, Plan}
use Rattle.rws_make.specs.declared.board_maker.MakeFault.{MakeFault}
use Rattle.rws_make.specs.declared.board_maker.MakeFault.TheVariants.{Failed, OutOfMemory}
use Rattle.rws_make.specs.declared.planned_board.PlannedBoard.{PlannedBoard}

places_asked-append : (xs ys : List (Making PlannedBoard)) → places_asked (xs ++ ys) ≡ places_asked xs ++ places_asked ys
places_asked-append [] ys = refl
places_asked-append (Made place board ∷ xs) ys = ap (λ places. place ∷ places) (places_asked-append xs ys)
places_asked-append (Refused place Failed ∷ xs) ys = ap (λ places. place ∷ places) (places_asked-append xs ys)
places_asked-append (Refused place OutOfMemory ∷ xs) ys = places_asked-append xs ys
places_asked-append (TookBack board ∷ xs) ys = places_asked-append xs ys

boards_back-append : (xs ys : List (Making PlannedBoard)) → boards_back (xs ++ ys) ≡ boards_back xs ++ boards_back ys
boards_back-append [] ys = refl
boards_back-append (Made place board ∷ xs) ys = boards_back-append xs ys
boards_back-append (Refused place fault ∷ xs) ys = boards_back-append xs ys
boards_back-append (TookBack board ∷ xs) ys = ap (λ boards. board ∷ boards) (boards_back-append xs ys)

planned-append : (plans : List Plan) (xs ys : List (Making PlannedBoard)) → ArePlanned plans xs → ArePlanned plans ys → ArePlanned plans (xs ++ ys)
planned-append plans [] ys all more = more
planned-append plans (x ∷ xs) ys all more = (all.0, planned-append plans xs ys all.1 more)

-- what was done first and then
pub maker_did_more : (a b c : ListMakerState) (xs ys : List (Making PlannedBoard)) → ListMakerDid a b xs → ListMakerDid b c ys → ListMakerDid a c (xs ++ ys)
maker_did_more a b c xs ys first next = record {
  plans = next.plans ∙ first.plans;
  asked = next.asked ∙ ap (λ asked. asked ++ places_asked ys) first.asked ∙ append_assoc a.asked (places_asked xs) (places_asked ys)
      ∙ ap (λ more. a.asked ++ more) (sym (places_asked-append xs ys));
  back = next.back ∙ ap (λ back. back ++ boards_back ys) first.back ∙ append_assoc a.back (boards_back xs) (boards_back ys)
      ∙ ap (λ more. a.back ++ more) (sym (boards_back-append xs ys));
  planned = planned-append a.plans xs ys first.planned (subst (λ (plans : List Plan). ArePlanned plans ys) first.plans next.planned);
}

-- a call of `make`
pub then_asked : (start old new : ListMakerState) (before : List (Making PlannedBoard)) (place : ℕ) (result : Result PlannedBoard MakeFault)
    → MatchResult result (λ board. ListMakerDid old new (Made place board ∷ [])) (λ fault. ListMakerDid old new (Refused place fault ∷ [])) → ListMakerDid start old before
    → MatchResult result (λ board. ListMakerDid start new (before ++ Made place board ∷ [])) (λ fault. ListMakerDid start new (before ++ Refused place fault ∷ []))
then_asked start old new before place (Ok board) did first = maker_did_more start old new before (Made place board ∷ []) first did
then_asked start old new before place (Err fault) did first = maker_did_more start old new before (Refused place fault ∷ []) first did
