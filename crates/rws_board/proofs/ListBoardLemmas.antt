-- What a board in memory did in one call.
use Rattle.std.proofs.Common.{◌≡◌, ◌≢◌, ◌↔◌, [], ◌∷◌, ◌++◌, inr, Result, Ok, Err, MatchResult, IsErrOf, refl, sym, ◌∙◌, ap, subst, append-nil}
use Rattle.std.specs.Result.{IsErrAnd}
use Rattle.rws_board.specs.Boards.{IsHanded, ListBoardState, ListDid, events_given, given, standing_after}
use Rattle.rws_board.specs.Boards.Standing.{NextFailed, ActFailed}
use Rattle.rws_board.specs.declared.board_fault.BoardFault.{BoardFault}
use Rattle.rws_board.specs.declared.event.Event.{Event}
use Rattle.rws_board.specs.declared.event.Event.TheVariants.{Accept, Begin, ClientBytes, ClientGone, LinkReady, LinkBytes, LinkGone, Clock, Observed, End}
use Rattle.rws_board.specs.declared.interaction.Interaction.{Interaction}
use Rattle.rws_board.specs.declared.interaction.Interaction.TheVariants.{Gave, Took, Told}

-- an error of which it is known which one it is
pub at_err : {T E : Type 0} (r : Result T E) (P : T → Type 0) (Q : E → Type 0) (e : E) → IsErrAnd r (λ x. x ≡ e) → Q e → MatchResult r P Q
at_err (Ok x) P Q e is q = absurd is
at_err (Err x) P Q e is q = subst Q (sym is) q

-- a call that fails by the plan, and it alone
pub planned_failure : {T : Type 0} (r : Result T BoardFault) (fault : BoardFault) (planned : Type 0) → IsErrAnd r (λ x. x ≡ fault) → planned → (IsErrOf r fault ↔ planned)
planned_failure (Ok x) fault planned is holds = absurd is
planned_failure (Err x) fault planned is holds = (λ failed. holds, λ planned. ap Err is)

pub not_given : (old new : ListBoardState) (fault : BoardFault) → new.done ≡ old.done → ListDid old new [] (NextFailed fault)
not_given old new fault same = (same ∙ sym (append-nil old.done), old.ahead, refl)

-- what was handed isn't an event, so those ahead are the same
taken_none : (old : ListBoardState) (handed : Interaction) → IsHanded handed → old.ahead ≡ events_given (handed ∷ []) ++ old.ahead
taken_none old (Gave event) is = absurd is
taken_none old (Took action) is = refl
taken_none old (Told call) is = refl

pub not_taken : (old new : ListBoardState) (handed : Interaction) (fault : BoardFault) → IsHanded handed → new.done ≡ old.done
    → ListDid old new (handed ∷ []) (ActFailed fault)
not_taken old new handed fault is same =
    ([], inr (record { last = handed; parted = refl }), same ∙ sym (append-nil old.done), old.ahead, taken_none old handed is)

pub gave : (old new : ListBoardState) (event : Event) → event ≢ End → old.ahead ≡ event ∷ new.ahead → new.done ≡ old.done ++ Gave event ∷ [] → ListDid old new (given event) (standing_after event)
gave old new End apart ahead done = absurd (apart refl)
gave old new (Accept session scramble) apart ahead done = (done, ahead)
gave old new (Begin session server) apart ahead done = (done, ahead)
gave old new (ClientBytes session bytes) apart ahead done = (done, ahead)
gave old new (ClientGone session) apart ahead done = (done, ahead)
gave old new (LinkReady link) apart ahead done = (done, ahead)
gave old new (LinkBytes link bytes) apart ahead done = (done, ahead)
gave old new (LinkGone link) apart ahead done = (done, ahead)
gave old new (Clock now) apart ahead done = (done, ahead)
gave old new (Observed round) apart ahead done = (done, ahead)
