use Rattle.rws_worker.proofs.MapLemmas.{changes}
use Rattle.rws_worker.proofs.worker.Worker.seat.Goals as goal

pub returns-clause-ok : goal.returns-clause-ok
returns-clause-ok c = record {
  placed = record {
    kept = c.in_ok-begun.begun;
    starts = c.in_ok-begun.ensures;
    sessions = changes c.args.self.now.sessions c.insert-2.new.self c.args.session _ c.in_ok-insert-2.ensures.updates;
  };
  owns = changes c.args.self.now.owners c.insert.new.self c.args.link _ c.in_ok-insert.ensures.updates;
}

pub returns-clause-owners : goal.returns-clause-owners
returns-clause-owners c = λ other apart.
    (changes c.args.self.now.owners c.insert.new.self c.args.link _ c.in_ok-insert.ensures.updates).apart other apart

pub returns-in_err-insert-2-clause-owners : goal.returns-in_err-insert-2-clause-owners
returns-in_err-insert-2-clause-owners c = λ other apart.
    (changes c.args.self.now.owners c.insert.new.self c.args.link _ c.in_ok-insert.ensures.updates).apart other apart
