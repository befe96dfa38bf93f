use Rattle.rws_worker.proofs.ClockLemmas.{left_to_tell}
use Rattle.rws_worker.proofs.worker.Worker.+step.Given as goal

abbrev pub decreases-step : goal.decreases-step
decreases-step l = left_to_tell l.self.now.telling
