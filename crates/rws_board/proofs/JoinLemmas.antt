-- What boards in memory did, and then did more.
use Rattle.std.specs.Prelude.{◌≡◌, List, [], ◌∷◌, ◌++◌, ◌⊎◌, Result, Ok, Err, MatchResult, refl}
use Rattle.std.proofs.Common.{sym, ◌∙◌, ap, subst, inl, inr, append_assoc, append-nil}
use Rattle.rws_board.specs.Boards.{ListBoardState, ListDid, Standing, IsAllButLast, events_given, given, standing_after}
use Rattle.rws_board.specs.Boards.Standing.{Going, Ended, NextFailed, ActFailed}
use Rattle.rws_board.specs.declared.board_fault.BoardFault.{BoardFault}
use Rattle.rws_board.specs.declared.event.Event.{Event}
use Rattle.rws_board.specs.declared.interaction.Interaction.{Interaction}
use Rattle.rws_board.specs.declared.interaction.Interaction.TheVariants.{Gave, Took, Told}

pub events_given-append : (xs ys : List Interaction) → events_given (xs ++ ys) ≡ events_given xs ++ events_given ys
events_given-append [] ys = refl
events_given-append (Gave event ∷ xs) ys = ap (λ events. event ∷ events) (events_given-append xs ys)
events_given-append (Took action ∷ xs) ys = events_given-append xs ys
events_given-append (Told call ∷ xs) ys = events_given-append xs ys

module _ (a b c : ListBoardState) (xs ys : List Interaction) (first : ListDid a b xs Going) where
  done_more : (zs : List Interaction) → c.done ≡ b.done ++ zs → c.done ≡ a.done ++ (xs ++ zs)
  done_more zs next = next ∙ ap (λ done. done ++ zs) first.0 ∙ append_assoc a.done xs zs

  ahead_more : (rest : List Event) → b.ahead ≡ events_given ys ++ rest → a.ahead ≡ events_given (xs ++ ys) ++ rest
  ahead_more rest next =
      first.1 ∙ ap (λ ahead. events_given xs ++ ahead) next ∙ sym (append_assoc (events_given xs) (events_given ys) rest)
      ∙ sym (ap (λ events. events ++ rest) (events_given-append xs ys))

pub list_did_more : (a b c : ListBoardState) (xs ys : List Interaction) (standing : Standing) → ListDid a b xs Going → ListDid b c ys standing → ListDid a c (xs ++ ys) standing
list_did_more a b c xs ys Going first next = (done_more a b c xs ys first ys next.0, ahead_more a b c xs ys first c.ahead next.1)
list_did_more a b c xs ys Ended first next = (
  done_more a b c xs ys first ys next.0,
  next.1,
  ahead_more a b c xs ys first next.1 next.2,
  next.3,
)
list_did_more a b c xs ys (NextFailed fault) first next = (
  done_more a b c xs ys first ys next.0,
  next.1,
  ahead_more a b c xs ys first next.1 next.2,
)
list_did_more a b c xs ys (ActFailed fault) first next = made next.1
  where
    made : (next.0 ≡ ys) ⊎ IsAllButLast next.0 ys → ListDid a c (xs ++ ys) (ActFailed fault)
    made (inl all) = (xs ++ next.0, inl (ap (λ zs. xs ++ zs) all), done_more a b c xs ys first next.0 next.2, next.3, ahead_more a b c xs ys first next.3 next.4)
    made (inr but) = (
      xs ++ next.0,
      inr (record { last = but.last; parted = ap (λ zs. xs ++ zs) but.parted ∙ sym (append_assoc xs next.0 (but.last ∷ [])) }),
      done_more a b c xs ys first next.0 next.2,
      next.3,
      ahead_more a b c xs ys first next.3 next.4,
    )

-- a call that gave an event
pub then_gave : (start old new : ListBoardState) (before : List Interaction) (result : Result Event BoardFault)
    → MatchResult result (λ event. ListDid old new (given event) (standing_after event)) (λ fault. ListDid old new [] (NextFailed fault)) → ListDid start old before Going
    → MatchResult result (λ event. ListDid start new (before ++ given event) (standing_after event)) (λ fault. ListDid start new before (NextFailed fault))
then_gave start old new before (Ok event) did first = list_did_more start old new before (given event) (standing_after event) first did
then_gave start old new before (Err fault) did first =
    subst (λ (interactions : List Interaction). ListDid start new interactions (NextFailed fault)) (append-nil before) (list_did_more start old new before [] (NextFailed fault) first did)

-- a call that was handed something
pub then_took : (start old new : ListBoardState) (before : List Interaction) (handed : Interaction) (result : Result (Unit {0}) BoardFault)
    → MatchResult result (λ _. ListDid old new (handed ∷ []) Going) (λ fault. ListDid old new (handed ∷ []) (ActFailed fault)) → ListDid start old before Going
    → MatchResult result (λ _. ListDid start new (before ++ handed ∷ []) Going) (λ fault. ListDid start new (before ++ handed ∷ []) (ActFailed fault))
then_took start old new before handed (Ok unit) did first = list_did_more start old new before (handed ∷ []) Going first did
then_took start old new before handed (Err fault) did first = list_did_more start old new before (handed ∷ []) (ActFailed fault) first did
