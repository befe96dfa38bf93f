use Rattle.std.proofs.Common.{None, arith}
use Rattle.std.proofs.lemmas.List.FromFn.{fill_by_all}
use Rattle.rws_monitor.specs.Rounds.{counted_at}
use Rattle.rws_monitor.proofs.states.counted.Goals as goal

pub returns : goal.returns
returns c = fill_by_all (counted_at c.args.probes.now c.args.maintenance) c.loop-server.counted 7 None c.loop-server.invariant.0 (λ k below. c.loop-server.invariant.1 k (omega arith))
