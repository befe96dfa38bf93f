use Rattle.rws_worker.proofs.TellLemmas.{hears_event}
use Rattle.rws_worker.proofs.worker.Worker.hear.Goals as goal

pub returns : goal.returns
returns c = record {
  advances = λ run w event one told.
      hears_event w c.requires.idle event one c.args.session c.args.input told (λ now b bare behind more tells u. c.tell.ensures.advances now b bare behind more tells u);
}
