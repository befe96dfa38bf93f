use Rattle.rws_worker.proofs.ClockLemmas.{clock_read}
use Rattle.rws_worker.proofs.worker.Worker.read_clock.Goals as goal

pub returns : goal.returns
returns c = record { advances = λ config run w. clock_read config c.args.self.now run c.args.now_ms w c.requires.idle }
