use Rattle.rws_worker.specs.Tallies.{tally_of}
use Rattle.rws_worker.proofs.worker.Worker.loads.Goals as goal

pub returns : goal.returns
returns c = λ config run w. c.loads.ensures (λ server. tally_of run server) w.tallied
