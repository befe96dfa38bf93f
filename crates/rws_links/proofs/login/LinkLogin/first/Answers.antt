use Rattle.rws_links.proofs.LoginLemmas.{first_no_zero}
use Rattle.rws_links.proofs.login.LinkLogin.first.Goals as goal

pub of_account-requires : goal.of_account-requires
of_account-requires c =
    first_no_zero c.as_slice.result.now c.account-item.result c.account-item.result (rw c.as_slice.ensures c.requires.no_zero)
    c.in-len1-up.len_at_least c.account-item.is
