-- A session that has just begun.
use Rattle.std.proofs.Common.{◌≡◌, ℕ, Bool, true, false, List, [], ◌∷◌, refl, ap, ◌∙◌, Option, None, Result, Ok, Err, IfOk}
use Rattle.rws_native.specs.declared.login.Login.{Login}
use Rattle.rws_front.specs.Fronting.{Fronting}
use Rattle.rws_config.specs.declared.config.Config.{Config}
use Rattle.rws_record.specs.Item.{Item}
use Rattle.rws_record.specs.Item.Item.{TurnsAway}
use Rattle.rws_record.specs.Rules.{after_turning_away}
use Rattle.rws_record.specs.Values.{begun_front}
use Rattle.rws_record.specs.Record.{IsBeginning}
use Rattle.rws_record.specs.Record.IsRecord.{begins}
use Rattle.rws_session.specs.State.{state_of}
use Rattle.rws_links.specs.declared.numbered.NumberedLink.{NumberedLink}
use Rattle.rws_session.specs.Kept.{Kept, Starts}
use Rattle.rws_session.specs.Steps.{fresh, owes}

pub starts : (config : Config) (item : Item) (session : ℕ) (k : Kept) → IsBeginning item → k.number ≡ session → k.outs ≡ []
    → k.state ≡ state_of config (item ∷ []) → Starts config item session k
starts config item session k its number outs mirrors =
    record { number = number; outs = outs; is = record { mirrors = mirrors; legal = begins its } }

-- one that was made with a client's side and links
pub made : {E : Type 0} (config : Config) (item : Item) (session : ℕ) (front : Fronting) (login : Option Login)
    (links : List NumberedLink) (reading : ℕ) (result : Result Kept E) → IsBeginning item → (fresh session front login links reading).state ≡ state_of config (item ∷ [])
    → IfOk result (λ s. s ≡ fresh session front login links reading) → IfOk result (λ s. Starts config item session s)
made config item session front login links reading (Err error) its mirrors is = tt
made config item session front login links reading (Ok k) its mirrors is =
    starts config item session k its (ap (λ (s : Kept). s.number) is) (ap (λ (s : Kept). s.outs) is)
    (ap (λ (s : Kept). s.state) is ∙ mirrors)

-- one that is turned away
pub turned_away : (config : Config) (told : Bool) (session : ℕ) (front : Fronting) (before k : Kept) → front ≡ begun_front config
    → before ≡ fresh session front None [] 0 → k ≡ record before { state = owes (after_turning_away told) before.state }
    → Starts config (TurnsAway told) session k
turned_away config told session front before k at_commands was now =
    let now : k ≡ record (fresh session (begun_front config) None [] 0) {
      state = owes (after_turning_away told) (fresh session (begun_front config) None [] 0).state;
    } =
    now ∙ ap (λ (b : Kept). record b { state = owes (after_turning_away told) b.state })
    (was ∙ ap (λ (f : Fronting). fresh session f None [] 0) at_commands) in
    starts config (TurnsAway told) session k tt (ap (λ (s : Kept). s.number) now) (ap (λ (s : Kept). s.outs) now)
    (ap (λ (s : Kept). s.state) now ∙ by_told told)
  where
    by_told : (told : Bool) → owes (after_turning_away told) (fresh session (begun_front config) None [] 0).state
        ≡ state_of config (TurnsAway told ∷ [])
    by_told true = refl
    by_told false = refl
