use Rattle.std.proofs.Common.{◌≡◌}
use Rattle.rws_trx.specs.Transactions.{after}
use Rattle.rws_trx.proofs.state.TrxState.after.Goals as goal

pub returns-in-Failed : goal.returns-in-Failed
returns-in-Failed c = rw c.in-Failed.is (c.after_error.ensures c.args.class c.in-Failed.code)
