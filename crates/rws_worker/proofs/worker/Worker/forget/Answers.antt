use Rattle.std.proofs.Common.{None}
use Rattle.rws_worker.proofs.MapLemmas.{changes}
use Rattle.rws_worker.proofs.worker.Worker.forget.Goals as goal

pub returns-clause-gone : goal.returns-clause-gone
returns-clause-gone c = changes c.args.self.now.sessions c.remove.new.self c.args.session None c.remove.ensures.updates
