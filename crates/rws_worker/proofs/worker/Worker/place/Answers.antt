use Rattle.rws_session.specs.Kept.{Kept, Starts}
use Rattle.rws_worker.proofs.MapLemmas.{changes, of_made}
use Rattle.rws_worker.proofs.worker.Worker.place.Goals as goal

pub returns-in_ok-insert-in-Ok-clause-ok : goal.returns-in_ok-insert-in-Ok-clause-ok
returns-in_ok-insert-in-Ok-clause-ok c = λ config item starts. record {
  kept = c.in-Ok.made;
  starts = of_made (λ (kept : Kept). Starts config item c.args.session kept) c.args.made c.in-Ok.made c.in-Ok.is starts;
  sessions = changes c.args.self.now.sessions c.insert.new.self c.args.session _ c.in_ok-insert-in-Ok.ensures.updates;
}
