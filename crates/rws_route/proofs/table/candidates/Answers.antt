use Rattle.std.proofs.Common.{None, arith}
use Rattle.std.proofs.lemmas.List.FromFn.{fill_by_all}
use Rattle.rws_route.specs.Targets.{candidate_at}
use Rattle.rws_route.proofs.table.candidates.Goals as goal

pub returns : goal.returns
returns c = fill_by_all (candidate_at c.args.servers.now c.args.loads.now c.args.tried c.args.banned) c.loop-place.candidates 7 None c.loop-place.invariant.0 (λ k below. c.loop-place.invariant.1 k (omega arith))
