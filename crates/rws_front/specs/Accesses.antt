-- Who may log in: the account of the user, and what its password asks for.
use Rattle.std.specs.Prelude.{ℕ, Bool, List, length, ◌==◌, ◌&&◌, if◌then◌else◌, Option, Some, None}
use Rattle.std.specs.List.{find}
use Rattle.std.specs.Str.{bytes_eq}
use Rattle.sha1.specs.Sha1.{sha1}
use Rattle.rws_native.specs.Native.{stage1_in}
use Rattle.rws_config.specs.declared.account.Account.{Account}
use Rattle.rws_front.specs.declared.access.Access.{Access}
use Rattle.rws_front.specs.declared.access.Access.TheVariants.{Denied, Granted}

-- whether the answer to the scramble is that of the password whose stored value this is
abbrev pub is_answer : List ℕ → List ℕ → List ℕ → Bool
is_answer stored scramble answer = (length answer == 20) && bytes_eq (sha1 (stage1_in answer scramble stored)) stored

-- what an account grants to an answer: an empty password, for which nothing is stored, has the empty answer alone
abbrev pub granted : Option (List ℕ) → List ℕ → List ℕ → Access
granted None scramble answer = if length answer == 0 then Granted None else Denied
granted (Some stored) scramble answer =
    if is_answer stored scramble answer then Granted (Some (stage1_in answer scramble stored)) else Denied

-- what a user is granted who has an account or none
abbrev pub granted_by : Option Account → List ℕ → List ℕ → Access
granted_by None scramble answer = Denied
granted_by (Some account) scramble answer = granted account.stored scramble answer

-- the account of a user
abbrev pub account_of : List Account → List ℕ → Option Account
account_of accounts user = find (λ (account : Account). bytes_eq account.user user) accounts

abbrev pub access_of : List Account → List ℕ → List ℕ → List ℕ → Access
access_of accounts user scramble answer = granted_by (account_of accounts user) scramble answer
