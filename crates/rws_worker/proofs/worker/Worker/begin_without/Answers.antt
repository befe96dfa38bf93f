use Rattle.std.proofs.Common.{sym, ap, subst, ◌∙◌, Some}
use Rattle.rws_worker.specs.declared.ahead.Ahead.TheVariants.{Nothing}
use Rattle.rws_worker.specs.declared.worker.Worker.{Worker}
use Rattle.rws_worker.specs.Standing.{Gives}
use Rattle.rws_worker.proofs.BeginLemmas.{begins_without, unmade_without}
use Rattle.rws_worker.proofs.worker.Worker.begin_without.Goals as goal

pub returns-in-Ok : goal.returns-in-Ok
returns-in-Ok c = record {
  advances = λ run event item b its starts.
      let p = c.in-Ok.ensures.ok c.args.config.now item starts in
      begins_without b its c.place.new.self c.start-end.new.self c.settle.new.self p c.in-Ok.ensures.rest c.start-end.result
      (c.start-end.ensures.goes p.kept p.sessions.here) c.start-end.ensures.rest c.settle.ensures.finishes;
}

pub returns-in-Err : goal.returns-in-Err
returns-in-Err c = record {
  advances = λ run event item b its starts.
      subst (λ (v : Worker). Gives c.args.config.now run event v)
      (sym (c.fail.ensures
      ∙ ap (λ (v : Worker). record v { ahead = Nothing; broken = Some c.args.session; closing = Some c.args.session }) c.in-Err.ensures.rest))
      (unmade_without b its c.place.new.self.sessions c.in-Err.ensures.err);
}
