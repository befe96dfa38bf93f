use Rattle.std.proofs.Common.{◌≡◌, map, take}
use Rattle.rws_config.specs.declared.account.Account.{Account}
use Rattle.rws_config.proofs.repeats.users_of_accounts.Given as goal

abbrev pub invariant-loop-account : goal.invariant-loop-account
invariant-loop-account l = l.names ≡ map (λ (account : Account). account.user) (take l.account-index l.accounts)
