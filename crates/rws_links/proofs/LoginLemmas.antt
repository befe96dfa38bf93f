-- The names of allowed accounts can be sent to servers.
use Rattle.std.proofs.Common.{◌≡◌, refl, ℕ, ◌≤◌, Bool, true, false, List, [], ◌∷◌, length, get_or, arith}
use Rattle.std.specs.Prelude.{◌==◌, ◌||◌}
use Rattle.std.specs.List.{AllByRecursion, list_any}
use Rattle.rws_msgs.specs.Fields.{HasNoZero}
use Rattle.rws_config.specs.Allowed.{HasNoZero as IsWithoutZero}
use Rattle.rws_config.specs.declared.account.Account.{Account}

pub no_zero : (text : List ℕ) → IsWithoutZero text → HasNoZero text
unfolding HasNoZero
no_zero [] none = tt
no_zero (byte ∷ text) none = by_test (byte == 0) refl none (no_zero text)
  where
    by_test : (test : Bool) → (byte == 0) ≡ test → (test || list_any (λ (b : ℕ). b == 0) text) ≡ false
        → (IsWithoutZero text → HasNoZero text) → HasNoZero (byte ∷ text)
    by_test true t e behind = absurd cc
    by_test false t e behind = (λ same. (let is : (byte == 0) ≡ true = rw same refl in absurd cc), behind e)

pub first_no_zero : (accounts : List Account) (account : Account) (d : Account) → AllByRecursion (λ (a : Account). IsWithoutZero a.user) accounts
    → 1 ≤ length accounts → account ≡ get_or accounts 0 d → HasNoZero account.user
first_no_zero [] account d none some is = absurd (omega arith)
first_no_zero (first ∷ others) account d none some is = rw is (no_zero first.user none.0)
